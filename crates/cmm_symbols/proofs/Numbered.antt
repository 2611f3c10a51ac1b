-- What things declare with the numbers of procedures and data labels, and how these are counted, one thing after the other.
use Rattle.std.proofs.Common.{◌≡◌, ℕ, ◌+◌, ◌<◌, length, map, drop, get_or, refl, ap, sym, ◌∙◌, List, [], ◌∷◌, ◌++◌, append_assoc, add_assoc}
use Rattle.std.proofs.lemmas.Simd.{map-map}
use Rattle.cmm_ast.specs.declared.unit.Item.{Item}
use Rattle.cmm_static_semantics.specs.Items.{Within, within}
use Rattle.cmm_static_semantics.specs.Declarations.{Declared, Entry, item_entries, procs_in, labels_in, entries_from, sum_of}
use Rattle.cmm_symbols.specs.Shown.{whats, thing_item, alone}
use Rattle.cmm_symbols.specs.declared.thing.Thing.{Thing}
use Rattle.cmm_static_semantics.proofs.Shared.{rest_next}

-- a turn of the loop that declares: what is declared so far, and then what the rest declares, is what all do
pub declared_next : (before after whole : List (Declared Entry)) (p l p' l' : ℕ) (ts : List Thing) (k : ℕ) (t : Thing) → k < length ts → t ≡ get_or ts k t →
    after ≡ before ++ item_entries p l (thing_item t) → p' ≡ p + procs_in (thing_item t) → l' ≡ l + labels_in (thing_item t) →
    before ++ entries_from p l (map alone (drop k ts)) ≡ whole → after ++ entries_from p' l' (map alone (drop (k + 1) ts)) ≡ whole
declared_next before after whole p l p' l' ts k t within is added procs labels so_far =
    let rest = entries_from (p + procs_in (thing_item t)) (l + labels_in (thing_item t)) (map alone (drop (k + 1) ts)) in
    rw (added, procs, labels) (append_assoc before (item_entries p l (thing_item t)) rest ∙ sym (ap (λ ws. before ++ entries_from p l ws) (rest_next alone ts k t within is)) ∙ so_far)

-- a turn of the loop that counts
pub counted_next : (count : Item → ℕ) (n n' whole : ℕ) (ts : List Thing) (k : ℕ) (t : Thing) → k < length ts → t ≡ get_or ts k t → n' ≡ n + count (thing_item t) →
    n + sum_of count (map alone (drop k ts)) ≡ whole → n' + sum_of count (map alone (drop (k + 1) ts)) ≡ whole
counted_next count n n' whole ts k t within is added so_far =
    rw added (add_assoc n (count (thing_item t)) (sum_of count (map alone (drop (k + 1) ts))) ∙ sym (ap (λ ws. n + sum_of count ws) (rest_next alone ts k t within is)) ∙ so_far)

-- ---- the spans around what stands in a unit declare nothing

entries_alone : (p l : ℕ) (is : List (Within Item)) → entries_from p l (map (λ i. within [] i) (whats is)) ≡ entries_from p l is
entries_alone p l [] = refl
entries_alone p l (i ∷ is) = ap (λ t. item_entries p l i.what ++ t) (entries_alone (p + procs_in i.what) (l + labels_in i.what) is)

sum_alone : (count : Item → ℕ) (is : List (Within Item)) → sum_of count (map (λ i. within [] i) (whats is)) ≡ sum_of count is
sum_alone count [] = refl
sum_alone count (i ∷ is) = ap (λ n. count i.what + n) (sum_alone count is)

alone_is : (ts : List Thing) (is : List (Within Item)) → map thing_item ts ≡ whats is → map alone ts ≡ map (λ i. within [] i) (whats is)
alone_is ts is same = sym (map-map (λ i. within [] i) thing_item ts) ∙ ap (map (λ i. within [] i)) same

pub entries_are : (p l : ℕ) (ts : List Thing) (is : List (Within Item)) → map thing_item ts ≡ whats is → entries_from p l (map alone ts) ≡ entries_from p l is
entries_are p l ts is same = ap (entries_from p l) (alone_is ts is same) ∙ entries_alone p l is

pub sum_is : (count : Item → ℕ) (ts : List Thing) (is : List (Within Item)) → map thing_item ts ≡ whats is → sum_of count (map alone ts) ≡ sum_of count is
sum_is count ts is same = ap (sum_of count) (alone_is ts is same) ∙ sum_alone count is
