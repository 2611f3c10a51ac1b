-- The lines of variables, one after the other.
use Rattle.std.proofs.Common.{◌≡◌, ℕ, zero, suc, ◌+◌, ◌<◌, List, [], ◌∷◌, ◌++◌, codes, decimal, flat_map, length, map, take, drop, slice_get, Ok, Option, Some, None, refl, sym, ap, subst, ◌∙◌, append_assoc, append-nil, add-zero, add-one, arith}
use Rattle.std.proofs.lemmas.Option.{slice_get_cases}
use Rattle.cmm_words.specs.Widths.{bits}
use Rattle.cmm_script.specs.Walk.{Shown, activation_text, and, line, span_line, value_or_dead, variable_line, variable_lines}
use Rattle.rv_table.specs.Machine.{State}
use Rattle.cmm_image.specs.declared.rows.VariablePlace.{VariablePlace}
use Rattle.cmm_image.specs.declared.rows.VariableRow.{VariableRow}
use Rattle.cmm_image_machine.specs.Frames.{Element}
use Rattle.cmm_image_machine.specs.Walks.{element_shown, place_in, value_at, variables_shown}
use Rattle.cmm_program.specs.Errors.{with_some}
use Rattle.cmm_walk.specs.declared.variable.Var.{Var}
use Rattle.cmm_walk.specs.declared.variable.Var.TheVariants.{Dead, Live}
use Rattle.cmm_walk.specs.Shown.{IsVariable, Shows}
use Rattle.cmm_walk.proofs.Variables.{shown_at, variable_shown}
use Rattle.cmm_image.specs.declared.rows.SpanRow.{SpanRow}
use Rattle.cmm_script.specs.Kinds.{kind_text}
use Rattle.cmm_walk.specs.inside.Lines.{heading, shown_of, spanned, variable_text}

lines_from : (k n : ℕ) (vs : List Shown) (v : Shown) → slice_get vs n ≡ Some v → variable_lines k (take (suc n) vs) ≡ variable_lines k (take n vs) ++ variable_line (k + n) v
lines_from k n [] v is = absurd cc
lines_from k zero (x ∷ xs) v is = let same : x ≡ v = cc in rw (same, add-zero k) (append-nil (variable_line k v))
lines_from k (suc n) (x ∷ xs) v is =
    let place : suc k + n ≡ k + suc n = omega arith in
    ap (λ (t : List ℕ). variable_line k x ++ t) (lines_from (suc k) n xs v is ∙ ap (λ (j : ℕ). variable_lines (suc k) (take n xs) ++ variable_line j v) place)
    ∙ sym (append_assoc (variable_line k x) (variable_lines (suc k) (take n xs)) (variable_line (k + suc n) v))

pub lines_more : (n : ℕ) (vs : List Shown) (v : Shown) → slice_get vs n ≡ Some v → variable_lines 0 (take (n + 1) vs) ≡ variable_lines 0 (take n vs) ++ variable_line n v
lines_more n vs v is =
    let first : 0 + n ≡ n = omega arith in
    rw (add-one n) (lines_from 0 n vs v is ∙ ap (λ (j : ℕ). variable_lines 0 (take n vs) ++ variable_line j v) first)

lines_join : (k n : ℕ) (vs : List Shown) → variable_lines k vs ≡ variable_lines k (take n vs) ++ variable_lines (k + n) (drop n vs)
lines_join k zero vs = rw (add-zero k) refl
lines_join k (suc n) [] = refl
lines_join k (suc n) (x ∷ xs) =
    let place : suc k + n ≡ k + suc n = omega arith in
    ap (λ (t : List ℕ). variable_line k x ++ t) (lines_join (suc k) n xs ∙ ap (λ (j : ℕ). variable_lines (suc k) (take n xs) ++ variable_lines j (drop n xs)) place)
    ∙ sym (append_assoc (variable_line k x) (variable_lines (suc k) (take n xs)) (variable_lines (k + suc n) (drop n xs)))

pub lines_split : (n : ℕ) (vs : List Shown) (v : Shown) → slice_get vs n ≡ Some v →
    variable_lines 0 vs ≡ (variable_lines 0 (take n vs) ++ variable_line n v) ++ variable_lines (0 + (n + 1)) (drop (n + 1) vs)
lines_split n vs v is = lines_join 0 (n + 1) vs ∙ ap (λ (t : List ℕ). t ++ variable_lines (0 + (n + 1)) (drop (n + 1) vs)) (lines_more n vs v is)

-- ---- what is shown of a variable

same_by : (row : VariableRow) (value : Option ℕ) (v : Shown) (variable : Var) → IsVariable v variable →
    v ≡ record { width = bits row.width; kind = row.kind; invariant = row.invariant; value = value } → v ≡ shown_of row variable
same_by row value v Dead is same = same ∙ ap (λ (o : Option ℕ). record { width = bits row.width; kind = row.kind; invariant = row.invariant; value = o }) (sym (ap (λ (w : Shown). w.value) same) ∙ is)
same_by row value v (Live x width) is same = same ∙ ap (λ (o : Option ℕ). record { width = bits row.width; kind = row.kind; invariant = row.invariant; value = o }) (sym (ap (λ (w : Shown). w.value) same) ∙ is.0)

is_shown : (v : Shown) (o : Option Shown) (variable : Var) → o ≡ Some v → Shows o (Ok variable) → IsVariable v variable
is_shown v None variable is shows = absurd cc
is_shown v (Some w) variable is shows = let same : w ≡ v = cc in subst (λ (x : Shown). IsVariable x variable) same shows

pub shown_is : (s : State) (e : Element) (n : ℕ) (row : VariableRow) (v : Shown) (variable : Var) → length e.site.variables ≡ length e.procedure.variables →
    slice_get e.procedure.variables n ≡ Some row → slice_get (variables_shown s e e.procedure.variables e.site.variables) n ≡ Some v →
    Shows (slice_get (variables_shown s e e.procedure.variables e.site.variables) n) (Ok variable) → v ≡ shown_of row variable
shown_is s e n row v variable count there is shows =
    let at = shown_at s e e.procedure.variables e.site.variables n count in
    let made : Shown = variable_shown s e row (slice_get e.site.variables n) in
    let here : slice_get (variables_shown s e e.procedure.variables e.site.variables) n ≡ Some made =
    at ∙ ap (λ (o : Option VariableRow). with_some o (λ r. Some (variable_shown s e r (slice_get e.site.variables n)))) there in
    let both : ◌≡◌ {A = Option Shown} (Some v) (Some made) = sym is ∙ here in
    let same : v ≡ made = cc in
    same_by row (value_at s row.width (with_some (slice_get e.site.variables n) (place_in e))) v variable (is_shown v _ variable is shows) same

-- ---- lines, as they are written

five : (x y z w n : List ℕ) → x ++ y ++ z ++ w ++ n ≡ x ++ (y ++ (z ++ (w ++ n)))
five x y z w n =
    append_assoc (x ++ y ++ z) w n ∙ append_assoc (x ++ y) z (w ++ n) ∙ append_assoc x y (z ++ (w ++ n))

line_by : (a b c d : List ℕ) → codes "var " ++ (a ++ (codes " bits" ++ (b ++ (codes " \"" ++ (c ++ (codes "\" " ++ (d ++ codes "\n")))))))
    ≡ line (codes "var" ++ and a ++ and (codes "bits" ++ b) ++ and (34 ∷ (c ++ (34 ∷ []))) ++ and d)
line_by a b c d =
    ap (λ (t : List ℕ). codes "var " ++ (a ++ (codes " bits" ++ (b ++ (codes " \"" ++ t))))) (sym (append_assoc c (34 ∷ []) (32 ∷ (d ++ (10 ∷ [])))))
    ∙ ap (λ (t : List ℕ). codes "var " ++ t) (sym (five a (and (codes "bits" ++ b)) (and (34 ∷ (c ++ (34 ∷ [])))) (and d) (10 ∷ [])))

pub line_is : (n : ℕ) (v : Shown) → variable_text n v ≡ variable_line n v
line_is n v = line_by (decimal n) (decimal v.width) (kind_text v.kind) (value_or_dead v.value)

heading_by : (a b c : List ℕ) → codes "activation " ++ (a ++ (codes " " ++ (b ++ (codes " site " ++ (c ++ codes "\n"))))) ≡ line (codes "activation" ++ and a ++ and b ++ and (codes "site") ++ and c)
heading_by a b c = ap (λ (t : List ℕ). codes "activation " ++ t) (sym (five a (and b) (and (codes "site")) (and c) (10 ∷ [])))

pub heading_is : (number : ℕ) (e : Element) →
    heading number e ≡ line (codes "activation" ++ and (decimal number) ++ and e.procedure.name ++ and (codes "site") ++ and (decimal e.site.number))
heading_is number e = heading_by (decimal number) e.procedure.name (decimal e.site.number)

-- a variable of a number that is there is shown
pub shown_there : (s : State) (e : Element) (n : ℕ) → length e.site.variables ≡ length e.procedure.variables → n < length e.procedure.variables →
    (v : Shown) × (slice_get (variables_shown s e e.procedure.variables e.site.variables) n ≡ Some v)
shown_there s e n count short = by (slice_get e.procedure.variables n) refl
  where
    by : (o : Option VariableRow) → slice_get e.procedure.variables n ≡ o → (v : Shown) × (slice_get (variables_shown s e e.procedure.variables e.site.variables) n ≡ Some v)
    by None is = absurd (grind (arith, slice_get_cases e.procedure.variables n))
    by (Some row) is = (
      variable_shown s e row (slice_get e.site.variables n),
      shown_at s e e.procedure.variables e.site.variables n count ∙ ap (λ (o : Option VariableRow). with_some o (λ r. Some (variable_shown s e r (slice_get e.site.variables n)))) is,
    )

pub shown_count : (s : State) (e : Element) (vs : List VariableRow) (ps : List VariablePlace) → length ps ≡ length vs → length (variables_shown s e vs ps) ≡ length vs
shown_count s e [] ps count = refl
shown_count s e (v ∷ vs) [] count = absurd (omega arith)
shown_count s e (v ∷ vs) (p ∷ ps) count = ap suc (shown_count s e vs ps (omega arith))

pub spans_are : (spans : List SpanRow) → flat_map spanned spans ≡ flat_map span_line (map (λ span. record { token = span.token; value = span.value }) spans)
spans_are [] = refl
spans_are (s ∷ ss) = ap (λ (t : List ℕ). spanned s ++ t) (spans_are ss)

-- the lines of an activation, as they are written
pub pieces_are : (s : State) (number : ℕ) (e : Element) → activation_text number (element_shown s e) ≡ (heading number e ++ flat_map spanned e.site.spans) ++ variable_lines 0 (element_shown s e).variables
pieces_are s number e =
    sym (ap (λ (t : List ℕ). (t ++ flat_map spanned e.site.spans) ++ variable_lines 0 (element_shown s e).variables) (heading_is number e)
    ∙ ap (λ (t : List ℕ). (line (codes "activation" ++ and (decimal number) ++ and e.procedure.name ++ and (codes "site") ++ and (decimal e.site.number)) ++ t) ++ variable_lines 0 (element_shown s e).variables) (spans_are e.site.spans))
