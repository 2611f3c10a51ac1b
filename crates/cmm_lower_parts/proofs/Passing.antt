-- Labels of a section as a walk finds them, item by item.
use Rattle.std.proofs.Common.{◌≡◌, sym, ap, ◌∙◌, subst, ℕ, suc, ◌+◌, ◌-◌, ◌^◌, min, false, List, [], ◌∷◌, ◌++◌, map, append_assoc, arith}
use Rattle.std.specs.Prelude.{IfOk, OnOk, Result, Ok, Err}
use Rattle.std.proofs.lemmas.List.{map-append}
use Rattle.std.proofs.lemmas.Simd.{map-map}
use Rattle.cmm_ast.specs.declared.declaration.Export.{Export}
use Rattle.cmm_ast.specs.declared.token.Ident.{Ident}
use Rattle.cmm_ast.specs.declared.unit.Datum.{Datum}
use Rattle.cmm_ast.specs.declared.unit.DatumForm.{DatumForm}
use Rattle.cmm_ast.specs.declared.unit.DatumForm.TheVariants as forms
use Rattle.cmm_ast.specs.declared.unit.Item.{Item}
use Rattle.cmm_ast.specs.declared.unit.Item.TheVariants as items
use Rattle.cmm_program.specs.declared.program.Label.{Label}
use Rattle.cmm_static_semantics.specs.Items.{Within, within}
use Rattle.cmm_elaboration.specs.Data.{datums_among, datums_in, label_at, section_labels, standing}
use Rattle.cmm_elaboration.proofs.Shared.{among_append}
use Rattle.cmm_lower_parts.specs.declared.labels.Passed.{Passed}
use Rattle.cmm_lower_parts.specs.Held.{held, label_held}
use Rattle.cmm_lower_parts.specs.inside.Passing.{Passes, labels_after, waiting_in}

pub held_next : (number n : ℕ) → number ≡ held n → min (number + 1) (2 ^ 32 - 1) ≡ held (n + 1)
held_next number n is = grind (arith, is)

-- ---- one walk after another

pub passes_then : (es : List Export) (is js : List (Within Item)) (a b c : Passed) (la lb lc : List Label) → Passes es is a b la lb → Passes es js b c lb lc → Passes es (is ++ js) a c la lc
passes_then es is js a b c la lb lc p q = record {
  datum = λ n e. q.datum (n + datums_among is) (p.datum n e) ∙ ap held (after n);
  labels = λ n rest e.
      ap (λ m. lc ++ map label_held (labels_after es (waiting_in c) m rest)) (sym (after n))
      ∙ q.labels (n + datums_among is) rest (p.datum n e) ∙ p.labels n (js ++ rest) e
      ∙ ap (λ t. la ++ map label_held (labels_after es (waiting_in a) n t)) (sym (append_assoc is js rest));
}
  where
    after : (n : ℕ) → (n + datums_among is) + datums_among js ≡ n + datums_among (is ++ js)
    after n = let e = among_append is js in omega (arith, e)

pub passes_none : (es : List Export) (a : Passed) (la : List Label) → Passes es [] a a la la
passes_none es a la = record {
  datum = λ n e. e ∙ ap held (plus_none n);
  labels = λ n rest e. ap (λ m. la ++ map label_held (labels_after es (waiting_in a) m rest)) (sym (plus_none n));
}
  where
    plus_none : (n : ℕ) → n ≡ n + 0
    plus_none n = omega arith

-- ---- one item

-- an item after which as many labels are to come as before it, but for those that wait
passes_one : (es : List Export) (i : Item) (a b : Passed) (la : List Label) →
    ((n : ℕ) → a.datum ≡ held n → b.datum ≡ held (n + datums_in i)) →
    ((n : ℕ) (rest : List (Within Item)) → labels_after es (waiting_in b) (n + datums_in i) rest ≡ labels_after es (waiting_in a) n (within [] i ∷ rest)) →
    Passes es (within [] i ∷ []) a b la la
passes_one es i a b la datum labels = record {
  datum = λ n e. datum n e ∙ ap held (one n);
  labels = λ n rest e. ap (λ m. la ++ map label_held (labels_after es (waiting_in b) m rest)) (sym (one n)) ∙ ap (λ t. la ++ map label_held t) (labels n rest);
}
  where
    one : (n : ℕ) → n + datums_in i ≡ n + datums_among (within [] i ∷ [])
    one n = omega arith

abbrev datum : ℕ → DatumForm → Item
datum token form = items.Datum record { token = token; form = form }

pub passes_label : (es : List Export) (d : Datum) (name : Ident) (a b : Passed) (la : List Label) → d.form ≡ forms.Label name → b.datum ≡ a.datum → waiting_in b ≡ waiting_in a ++ name ∷ [] →
    Passes es (within [] (items.Datum d) ∷ []) a b la la
passes_label es d name a b la is same more =
    subst (λ f. Passes es (within [] (datum d.token f) ∷ []) a b la la) (sym is)
    (passes_one es (datum d.token (forms.Label name)) a b la (λ n e. same ∙ e ∙ ap held (plus_none n)) by)
  where
    plus_none : (n : ℕ) → n ≡ n + 0
    plus_none n = omega arith

    by : (n : ℕ) (rest : List (Within Item)) → labels_after es (waiting_in b) (n + 0) rest ≡ labels_after es (waiting_in a) n (within [] (datum d.token (forms.Label name)) ∷ rest)
    by n rest =
        ap (λ w. labels_after es w (n + 0) rest) more
        ∙ ap (λ m. map (λ i. label_at es i (standing m rest)) (waiting_in a ++ name ∷ []) ++ section_labels es (n + 0) rest) (sym (plus_none n))
        ∙ ap (λ t. t ++ section_labels es (n + 0) rest) (map-append (λ i. label_at es i (standing n rest)) (waiting_in a) (name ∷ []))
        ∙ append_assoc (map (λ i. label_at es i (standing n rest)) (waiting_in a)) (label_at es name (standing n rest) ∷ []) (section_labels es (n + 0) rest)

pub passes_alignment : (es : List Export) (d : Datum) (k : _) (a b : Passed) (la : List Label) → d.form ≡ forms.Align k → ((n : ℕ) → a.datum ≡ held n → b.datum ≡ held (n + 1)) → waiting_in b ≡ waiting_in a →
    Passes es (within [] (items.Datum d) ∷ []) a b la la
passes_alignment es d k a b la is next same =
    subst (λ f. Passes es (within [] (datum d.token f) ∷ []) a b la la) (sym is)
    (passes_one es (datum d.token (forms.Align k)) a b la next
    (λ n rest. ap (λ w. labels_after es w (n + 1) rest) same ∙ ap (λ m. map (λ i. label_at es i (standing m rest)) (waiting_in a) ++ section_labels es (n + 1) rest) (one_on n)))
  where
    one_on : (n : ℕ) → n + 1 ≡ suc n
    one_on n = omega arith

-- what is no datum
pub passes_other : (es : List Export) (i : Item) (a : Passed) (la : List Label) → 0 ≡ datums_in i →
    ((n : ℕ) (rest : List (Within Item)) → labels_after es (waiting_in a) (n + datums_in i) rest ≡ labels_after es (waiting_in a) n (within [] i ∷ rest)) → Passes es (within [] i ∷ []) a a la la
passes_other es i a la none labels = passes_one es i a a la (λ n e. e ∙ ap held (let z : n ≡ n + datums_in i = omega (arith, none) in z)) labels

-- a datum with values, on which stand those that wait
pub passes_data : (es : List Export) (d : Datum) (t : _) (count : _) (initial : _) (a b : Passed) (la lb : List Label) → d.form ≡ forms.Data t count initial →
    lb ≡ la ++ map (λ i. label_at es i record { datum = a.datum; at_end = false }) (waiting_in a) → b.waiting ≡ [] → ((n : ℕ) → a.datum ≡ held n → b.datum ≡ held (n + 1)) →
    Passes es (within [] (items.Datum d) ∷ []) a b la lb
passes_data es d t count initial a b la lb is added none next =
    subst (λ f. Passes es (within [] (datum d.token f) ∷ []) a b la lb) (sym is) record {
      datum = λ n e. next n e;
      labels = λ n rest e.
          ap (λ w. lb ++ map label_held (labels_after es (map (λ i. i.now) w) (n + 1) rest)) none
          ∙ ap (λ l. l ++ map label_held (section_labels es (n + 1) rest)) (added ∙ ap (λ m. la ++ map (λ i. label_at es i record { datum = m; at_end = false }) (waiting_in a)) e)
          ∙ append_assoc la (map (λ i. label_at es i record { datum = held n; at_end = false }) (waiting_in a)) (map label_held (section_labels es (n + 1) rest))
          ∙ ap (λ q. la ++ (q ++ map label_held (section_labels es (n + 1) rest))) (sym (map-map label_held (λ i. label_at es i record { datum = n; at_end = false }) (waiting_in a)))
          ∙ ap (λ q. la ++ q) (sym (map-append label_held (map (λ i. label_at es i record { datum = n; at_end = false }) (waiting_in a)) (section_labels es (n + 1) rest)));
    }

pub data_passes : {E : Type 0} (es : List Export) (d : Datum) (t : _) (count : _) (initial : _) (a : Passed) (la lb : List Label) (r : Result Passed E) → d.form ≡ forms.Data t count initial →
    OnOk r (lb ≡ la ++ map (λ i. label_at es i.now record { datum = a.datum; at_end = false }) a.waiting) → IfOk r (λ next. next.waiting ≡ []) →
    IfOk r (λ next. (n : ℕ) → a.datum ≡ held n → next.datum ≡ held (n + 1)) → IfOk r (λ next. Passes es (within [] (items.Datum d) ∷ []) a next la lb)
data_passes es d t count initial a la lb (Ok b) is added none next =
    passes_data es d t count initial a b la lb is (added ∙ ap (λ ls. la ++ ls) (sym (map-map (λ i. label_at es i record { datum = a.datum; at_end = false }) (λ i. i.now) a.waiting))) none next
data_passes es d t count initial a la lb (Err e) is added none next = tt
