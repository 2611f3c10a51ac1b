-- The widths of typedefs, from those of the declarations that they name.
use Rattle.std.proofs.Common.{◌≡◌, ℕ, suc, zero, ◌+◌, ◌<◌, ◌≤◌, ◌==◌, Bool, true, false, ◌||◌, List, [], ◌∷◌, length, take, get_or, replicate, set, Option, Some, None, refl, sym, ◌∙◌, ap, subst, arith}
use Rattle.std.specs.Prelude.{option_and_then, nat_lt}
use Rattle.std.specs.List.{list_all}
use Rattle.std.proofs.Math.Path.{fun_ext}
use Rattle.std.proofs.lemmas.Bool.{and_parts, lt-ltb, eqb-true, eq-eqb, ltb-true}
use Rattle.std.proofs.lemmas.Bool.Decides.{nat_tests}
use Rattle.std.proofs.lemmas.List.{length-map, get_or-replicate, get_or_past, length-replicate}
use Rattle.std.proofs.lemmas.List.Folds.{list_all-append}
use Rattle.cmm_words.specs.declared.width.Width.{Width}
use Rattle.cmm_ast.specs.declared.expression.TypeName.{TypeName}
use Rattle.cmm_ast.specs.declared.expression.TypeForm.{TypeForm}
use Rattle.cmm_ast.specs.declared.expression.TypeForm.TheVariants.{Bits as OfBits, Named as OfName}
use Rattle.cmm_static_semantics.specs.declared.sense.Sense.TheVariants as senses
use Rattle.cmm_static_semantics.specs.Senses.{is_host}
use Rattle.cmm_static_semantics.specs.Judging.{if_ok}
use Rattle.cmm_static_semantics.specs.Typing.{typedef_width}
use Rattle.cmm_static_semantics.specs.Mentions.{listed}
use Rattle.cmm_static_semantics.specs.Declarations.{Declared, Entry, Typedef, Const, Register, Import, DataLabel, Procedure, found}
use Rattle.cmm_static_semantics.specs.Scopes.{type_in, width_in, typedef_sense}
use Rattle.cmm_digraph.specs.Graphs.{is_among, are_below, is_graph, mentions}
use Rattle.cmm_digraph.specs.Peeled.{IsPeeled}
use Rattle.cmm_digraph.proofs.Shared.{IsLocal, AreSteps, final_in_order, left_as_begun, AreSet, set_next, set_all, below_index}
use Rattle.cmm_symbols.specs.Numbering.{numbering, number_in}
use Rattle.cmm_unit_scope.specs.Numbers.{type_number, entry_at}
use Rattle.cmm_unit_scope.specs.inside.Numbers.{entry_number, type_graph, width_at, type_by, entry_by}
use Rattle.cmm_unit_scope.specs.inside.Widths.{entry_in, value_in, AreWidths, AreSettled}
use Rattle.cmm_unit_scope.proofs.Numbering.{found_numbering, found_below, IsBelow, host_below}

abbrev next : List (Declared Entry) → (ℕ → Option Width) → ℕ → Option Width
next ds w v = option_and_then (entry_by w (numbering ds)) (entry_at ds v)

abbrev graph : List (Declared Entry) → List (List ℕ)
graph ds = type_graph (numbering ds) ds

-- ---- a step

width_of : (token : ℕ) (o : Option Width) → if_ok (typedef_width token (Some (senses.Typedef o))) ≡ o
width_of token (Some w) = refl
width_of token None = refl

entry_step : (token count : ℕ) (ds : List (Declared Entry)) (e : Option Entry) → if_ok (typedef_width token (typedef_sense (type_in count ds) e)) ≡ option_and_then (entry_in count ds) e
entry_step token count ds None = refl
entry_step token count ds (Some (Typedef t)) = width_of token (type_in count ds t)
entry_step token count ds (Some (Const t e)) = refl
entry_step token count ds (Some (Register t)) = refl
entry_step token count ds (Some (Import link)) = refl
entry_step token count ds (Some (DataLabel n)) = refl
entry_step token count ds (Some (Procedure n p)) = refl

number_step : (token count : ℕ) (ds : List (Declared Entry)) (o : Option ℕ) →
    if_ok (typedef_width token (typedef_sense (type_in count ds) (option_and_then (entry_at ds) o))) ≡ option_and_then (value_in ds count) o
number_step token count ds None = refl
number_step token count ds (Some j) = entry_step token count ds (entry_at ds j)

host_step : (host : Bool) (token count : ℕ) (ds : List (Declared Entry)) (o : Option ℕ) (e : Option Entry) → option_and_then (entry_at ds) o ≡ e →
    if_ok (typedef_width token (typedef_sense (type_in count ds) (elim host as (λ _. Option Entry) [ true ↦ None | false ↦ e ])))
    ≡ option_and_then (value_in ds count) (elim host as (λ _. Option ℕ) [ true ↦ None | false ↦ o ])
host_step true token count ds o e is = refl
host_step false token count ds o e is = ap (λ q. if_ok (typedef_width token (typedef_sense (type_in count ds) q))) (sym is) ∙ number_step token count ds o

form_step : (token count : ℕ) (ds : List (Declared Entry)) (f : TypeForm) →
    type_in (suc count) ds (record { token = token; form = f }) ≡ type_by (value_in ds count) (numbering ds) (record { token = token; form = f })
form_step token count ds (OfBits w) = refl
form_step token count ds (OfName name) = host_step (is_host name) token count ds (found name (numbering ds)) (found name ds) (found_numbering name ds)

entry_steps : (count : ℕ) (ds : List (Declared Entry)) (e : Option Entry) → option_and_then (entry_in (suc count) ds) e ≡ option_and_then (entry_by (value_in ds count) (numbering ds)) e
entry_steps count ds None = refl
entry_steps count ds (Some (Typedef t)) = form_step t.token count ds t.form
entry_steps count ds (Some (Const t e)) = refl
entry_steps count ds (Some (Register t)) = refl
entry_steps count ds (Some (Import link)) = refl
entry_steps count ds (Some (DataLabel n)) = refl
entry_steps count ds (Some (Procedure n p)) = refl

steps : (ds : List (Declared Entry)) → AreSteps (next ds) (value_in ds)
steps ds c v = entry_steps c ds (entry_at ds v)

-- ---- what a typedef names

abbrev of_entry : List (Declared ℕ) → Option Entry → List ℕ
of_entry numbers (Some e) = listed (entry_number numbers e)
of_entry numbers None = []

mentions_is : (numbers : List (Declared ℕ)) (ds : List (Declared Entry)) (v : ℕ) → mentions (type_graph numbers ds) v ≡ of_entry numbers (entry_at ds v)
mentions_is numbers [] v = refl
mentions_is numbers (d ∷ ds) zero = refl
mentions_is numbers (d ∷ ds) (suc v) = mentions_is numbers ds v

first_among : (j : ℕ) → is_among j (j ∷ []) ≡ true
first_among j = rw (eq-eqb j j refl) refl

is_first : (m j : ℕ) → is_among m (j ∷ []) ≡ true → j ≡ m
is_first m j h = by (j == m) refl h
  where
    by : (b : Bool) → (j == m) ≡ b → (b || false) ≡ true → j ≡ m
    by true e i = eqb-true j m e
    by false e i = cc

number_local : (w w' : ℕ → Option Width) (o : Option ℕ) → ((m : ℕ) → is_among m (listed o) ≡ true → w m ≡ w' m) → option_and_then w o ≡ option_and_then w' o
number_local w w' None same = refl
number_local w w' (Some j) same = same j (first_among j)

form_local : (w w' : ℕ → Option Width) (numbers : List (Declared ℕ)) (token : ℕ) (f : TypeForm) →
    ((m : ℕ) → is_among m (listed (type_number numbers (record { token = token; form = f }))) ≡ true → w m ≡ w' m) →
    type_by w numbers (record { token = token; form = f }) ≡ type_by w' numbers (record { token = token; form = f })
form_local w w' numbers token (OfBits width) same = refl
form_local w w' numbers token (OfName name) same = number_local w w' (number_in numbers name) same

entry_local : (w w' : ℕ → Option Width) (numbers : List (Declared ℕ)) (e : Option Entry) → ((m : ℕ) → is_among m (of_entry numbers e) ≡ true → w m ≡ w' m) →
    option_and_then (entry_by w numbers) e ≡ option_and_then (entry_by w' numbers) e
entry_local w w' numbers None same = refl
entry_local w w' numbers (Some (Typedef t)) same = form_local w w' numbers t.token t.form same
entry_local w w' numbers (Some (Const t e)) same = refl
entry_local w w' numbers (Some (Register t)) same = refl
entry_local w w' numbers (Some (Import link)) same = refl
entry_local w w' numbers (Some (DataLabel n)) same = refl
entry_local w w' numbers (Some (Procedure n p)) same = refl

local : (ds : List (Declared Entry)) → IsLocal (graph ds) (next ds)
local ds w w' v same = entry_local w w' (numbering ds) (entry_at ds v) (λ m in_it. same m (ap (is_among m) (mentions_is (numbering ds) ds v) ∙ in_it))

number_strict : (w : ℕ → Option Width) (o : Option ℕ) (m : ℕ) → is_among m (listed o) ≡ true → w m ≡ None → option_and_then w o ≡ None
number_strict w None m h none = refl
number_strict w (Some j) m h none = ap w (is_first m j h) ∙ none

form_strict : (w : ℕ → Option Width) (numbers : List (Declared ℕ)) (token : ℕ) (f : TypeForm) (m : ℕ) →
    is_among m (listed (type_number numbers (record { token = token; form = f }))) ≡ true → w m ≡ None → type_by w numbers (record { token = token; form = f }) ≡ None
form_strict w numbers token (OfBits width) m h none = cc
form_strict w numbers token (OfName name) m h none = number_strict w (number_in numbers name) m h none

entry_strict : (w : ℕ → Option Width) (numbers : List (Declared ℕ)) (e : Option Entry) (m : ℕ) → is_among m (of_entry numbers e) ≡ true → w m ≡ None → option_and_then (entry_by w numbers) e ≡ None
entry_strict w numbers None m h none = refl
entry_strict w numbers (Some (Typedef t)) m h none = form_strict w numbers t.token t.form m h none
entry_strict w numbers (Some (Const t e)) m h none = refl
entry_strict w numbers (Some (Register t)) m h none = refl
entry_strict w numbers (Some (Import link)) m h none = refl
entry_strict w numbers (Some (DataLabel n)) m h none = refl
entry_strict w numbers (Some (Procedure n p)) m h none = refl

strict : (ds : List (Declared Entry)) (w : ℕ → Option Width) (v m : ℕ) → is_among m (mentions (graph ds) v) ≡ true → w m ≡ None → next ds w v ≡ None
strict ds w v m h none = entry_strict w (numbering ds) (entry_at ds v) m (ap (is_among m) (sym (mentions_is (numbering ds) ds v)) ∙ h) none

entry_begun : (ds : List (Declared Entry)) (e : Option Entry) → option_and_then (entry_in 0 ds) e ≡ None
entry_begun ds None = refl
entry_begun ds (Some (Typedef t)) = refl
entry_begun ds (Some (Const t e)) = refl
entry_begun ds (Some (Register t)) = refl
entry_begun ds (Some (Import link)) = refl
entry_begun ds (Some (DataLabel n)) = refl
entry_begun ds (Some (Procedure n p)) = refl

-- ---- the graph

pub size_of_graph : (numbers : List (Declared ℕ)) (ds : List (Declared Entry)) → length (type_graph numbers ds) ≡ length ds
size_of_graph numbers ds = length-map ds (λ d. listed (entry_number numbers d.as_what))

listed_below : (size : ℕ) (o : Option ℕ) → IsBelow size o → are_below size (listed o) ≡ true
listed_below size None h = refl
listed_below size (Some j) h = rw (lt-ltb j size h) refl

form_below : (ds : List (Declared Entry)) (token : ℕ) (f : TypeForm) → IsBelow (length ds) (type_number (numbering ds) (record { token = token; form = f }))
form_below ds token (OfBits width) = tt
form_below ds token (OfName name) = host_below (is_host name) (length ds) (found name (numbering ds)) (found_below name ds)

entry_below : (ds : List (Declared Entry)) (e : Entry) → IsBelow (length ds) (entry_number (numbering ds) e)
entry_below ds (Typedef t) = form_below ds t.token t.form
entry_below ds (Const t e) = tt
entry_below ds (Register t) = tt
entry_below ds (Import link) = tt
entry_below ds (DataLabel n) = tt
entry_below ds (Procedure n p) = tt

rows_below : (ds rest : List (Declared Entry)) → list_all (are_below (length ds)) (type_graph (numbering ds) rest) ≡ true
rows_below ds [] = refl
rows_below ds (d ∷ rest) = rw (listed_below (length ds) (entry_number (numbering ds) d.as_what) (entry_below ds d.as_what), rows_below ds rest) refl

pub graph_is : (numbers : List (Declared ℕ)) (ds : List (Declared Entry)) → numbers ≡ numbering ds → is_graph (type_graph numbers ds) ≡ true
graph_is numbers ds is =
    ap (λ q. is_graph (type_graph q ds)) is ∙ ap (λ n. list_all (are_below n) (type_graph (numbering ds) ds)) (size_of_graph (numbering ds) ds) ∙ rows_below ds ds

-- ---- widths in a list

abbrev pub final : List (Declared Entry) → ℕ → Option Width
final ds v = value_in ds (suc (length ds)) v

abbrev no_width : Option Width
no_width = None

replicate_none : (n v : ℕ) → get_or (replicate n no_width) v no_width ≡ no_width
replicate_none n v = by (nat_lt v n) refl
  where
    by : (b : Bool) → nat_lt v n ≡ b → get_or (replicate n no_width) v no_width ≡ no_width
    by true e = get_or-replicate n v no_width no_width (ltb-true v n e)
    by false e = let past : n ≤ v = grind (arith, nat_tests) in let long : length (replicate n no_width) ≡ n = length-replicate n no_width in get_or_past (replicate n no_width) v no_width (omega arith)

pub widths_begun : (ds : List (Declared Entry)) (widths : List (Option Width)) (n : ℕ) → widths ≡ replicate n None → AreSet (final ds) None [] widths
widths_begun ds widths n is = record { done = λ v h. cc; others = λ v h. ap (λ q. get_or q v None) is ∙ replicate_none n v }

order_short : (ds : List (Declared Entry)) (order left : List ℕ) → IsPeeled (graph ds) order left → length order ≤ length ds
order_short ds order left peeled = let all : length order + length left ≡ length (graph ds) = peeled.all in let size : length (graph ds) ≡ length ds = size_of_graph (numbering ds) ds in omega arith

pub widths_next : (numbers : List (Declared ℕ)) (ds : List (Declared Entry)) (order left : List ℕ) (k : ℕ) (widths : List (Option Width)) (e : Entry) (width : Option Width) → numbers ≡ numbering ds →
    IsPeeled (type_graph numbers ds) order left → k < length order → get_or order k 0 < length widths → AreSet (final ds) None (take k order) widths →
    entry_at ds (get_or order k 0) ≡ Some e → width ≡ entry_by (width_at widths) numbers e → AreSet (final ds) None (take (k + 1) order) (set widths (get_or order k 0) width)
widths_next numbers ds order left k widths e width is peeled lt within are at made =
    subst (λ (x : Option Width). AreSet (final ds) None (take (k + 1) order) (set widths (get_or order k 0) x))
    (sym (made ∙ ap (λ q. entry_by (width_at widths) q e) is ∙ sym (ap (option_and_then (entry_by (width_at widths) (numbering ds))) at)))
    (set_next (graph ds) (next ds) (final ds) None (local ds) order own.ordered
    (λ v among. sym (final_in_order (graph ds) (next ds) (value_in ds) (local ds) (steps ds) order own.ordered v among (suc (length ds)) (let short : length order ≤ length ds = order_short ds order left own in omega arith))
    ∙ steps ds (suc (length ds)) v)
    k lt widths within are)
  where
    own : IsPeeled (graph ds) order left
    own = subst (λ (q : List (Declared ℕ)). IsPeeled (type_graph q ds) order left) is peeled

entry_past : (ds : List (Declared Entry)) (v : ℕ) → length ds ≤ v → entry_at ds v ≡ None
entry_past [] v le = refl
entry_past (d ∷ ds) zero le = absurd (omega arith)
entry_past (d ∷ ds) (suc v) le = entry_past ds v (omega arith)

-- a step less gives each typedef its width
settled_set : (ds : List (Declared Entry)) (order left : List ℕ) (widths : List (Option Width)) → IsPeeled (graph ds) order left → AreSet (final ds) None order widths →
    AreSet (value_in ds (length ds)) None order widths
settled_set ds order left widths peeled are = record {
  done = λ v among. are.done v among ∙ final_in_order (graph ds) (next ds) (value_in ds) (local ds) (steps ds) order peeled.ordered v among (length ds) (order_short ds order left peeled);
  others = are.others;
}

set_after : (count : ℕ) (ds : List (Declared Entry)) (order left : List ℕ) (widths : List (Option Width)) → IsPeeled (graph ds) order left → length widths ≡ length ds →
    AreSet (value_in ds count) None order widths → (v : ℕ) → width_at widths v ≡ value_in ds count v
set_after count ds order left widths peeled size are v = by (nat_lt v (length ds)) refl
  where
    by : (b : Bool) → nat_lt v (length ds) ≡ b → width_at widths v ≡ value_in ds count v
    by true e =
        let lt : v < length ds = ltb-true v (length ds) e in
        let nodes : length (graph ds) ≡ length ds = size_of_graph (numbering ds) ds in
        set_all (graph ds) (value_in ds count) None order left peeled
        (λ u among. left_as_begun (graph ds) (next ds) (value_in ds) (steps ds) None (λ n. entry_begun ds (entry_at ds n)) (strict ds) left peeled.stuck count u among)
        widths are v (omega arith)
    by false e =
        let past : length ds ≤ v = grind (arith, nat_tests) in
        get_or_past widths v None (omega arith) ∙ sym (ap (option_and_then (entry_in count ds)) (entry_past ds v past))

own_peeled : (numbers : List (Declared ℕ)) (ds : List (Declared Entry)) (order left : List ℕ) → numbers ≡ numbering ds → IsPeeled (type_graph numbers ds) order left → IsPeeled (graph ds) order left
own_peeled numbers ds order left is peeled = subst (λ (q : List (Declared ℕ)). IsPeeled (type_graph q ds) order left) is peeled

pub widths_done : (numbers : List (Declared ℕ)) (ds : List (Declared Entry)) (order left : List ℕ) (widths : List (Option Width)) → numbers ≡ numbering ds →
    IsPeeled (type_graph numbers ds) order left → length widths ≡ length ds → AreSet (final ds) None order widths → AreWidths ds widths
widths_done numbers ds order left widths is peeled size are v = set_after (suc (length ds)) ds order left widths (own_peeled numbers ds order left is peeled) size are v

pub widths_settled : (numbers : List (Declared ℕ)) (ds : List (Declared Entry)) (order left : List ℕ) (widths : List (Option Width)) → numbers ≡ numbering ds →
    IsPeeled (type_graph numbers ds) order left → length widths ≡ length ds → AreSet (final ds) None order widths → AreSettled ds widths
widths_settled numbers ds order left widths is peeled size are v =
    let own : IsPeeled (graph ds) order left = own_peeled numbers ds order left is peeled in
    set_after (length ds) ds order left widths own size (settled_set ds order left widths own are) v

-- so a step more gives a type no other width
pub type_settled : (ds : List (Declared Entry)) (widths : List (Option Width)) → AreWidths ds widths → AreSettled ds widths → (t : TypeName) → type_in (suc (suc (length ds))) ds t ≡ width_in ds t
type_settled ds widths are settled t =
    form_step t.token (suc (length ds)) ds t.form
    ∙ ap (λ (w : ℕ → Option Width). type_by w (numbering ds) t) (fun_ext (λ v. sym (are v) ∙ settled v))
    ∙ sym (form_step t.token (length ds) ds t.form)

-- the node that is done is a declaration
pub node_below : (numbers : List (Declared ℕ)) (ds : List (Declared Entry)) (order left : List ℕ) (k : ℕ) → IsPeeled (type_graph numbers ds) order left → k < length order → get_or order k 0 < length ds
node_below numbers ds order left k peeled lt =
    let size : length (type_graph numbers ds) ≡ length ds = size_of_graph numbers ds in
    let all : list_all (λ n. nat_lt n (length (type_graph numbers ds))) order ≡ true = (and_parts _ _ (sym (list_all-append (λ n. nat_lt n (length (type_graph numbers ds))) order left) ∙ peeled.nodes)).0 in
    let node : get_or order k 0 < length (type_graph numbers ds) = below_index (length (type_graph numbers ds)) order k all lt in omega arith

-- the same graph and order, as they are read
pub peeled_as : (g graph : List (List ℕ)) (order items left : List ℕ) → g ≡ graph → items ≡ order → IsPeeled g order left → IsPeeled graph items left
peeled_as g graph order items left is same peeled =
    subst (λ (q : List ℕ). IsPeeled graph q left) (sym same) (subst (λ (q : List (List ℕ)). IsPeeled q order left) is peeled)
