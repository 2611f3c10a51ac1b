-- Sets of extents: what is required of ranges in order, and of one more extent.
use Rattle.cmm_program.proofs.Shared.{and_left_comm}
use Rattle.std.proofs.Math.Bool.{and_assoc}
use Rattle.std.proofs.Common.{◌≡◌, ℕ, refl, ap, sym, ◌∙◌, Bool, true, false, ◌&&◌, List, [], ◌∷◌, ◌++◌, map}
use Rattle.std.specs.Prelude.{Result, Ok, Err, OnOk, OnErr}
use Rattle.std.specs.List.{list_all}
use Rattle.std.specs.Ordering.{nat_cmp}
use Rattle.std.specs.BTreeMap.{insert_entry}
use Rattle.std.proofs.lemmas.List.Folds.{list_all-append, list_all-map}
use Rattle.cmm_static_semantics.specs.Switches.{Extent}
use Rattle.cmm_check_procedure.specs.InOrder.{are_in_order}
use Rattle.cmm_check_procedure.specs.Extents.{are_apart, meets_none_of, pair_extent}
use Rattle.cmm_check_procedure.proofs.Ordered.{Inserted, is_apart}

-- ranges and the extents that they are
pub none_of_pairs : (x : Extent) (rs : List (ℕ × ℕ)) → meets_none_of (map pair_extent rs) x ≡ list_all (is_apart x.low x.high) rs
none_of_pairs x rs = list_all-map (λ e. are_apart e x) pair_extent rs

-- what an insertion leaves, also one that failed
pub still_in_order : {T E : Type 0} (r : Result T E) (rs new : List (ℕ × ℕ)) (k v : ℕ) → OnOk r (new ≡ insert_entry nat_cmp rs k v) → OnErr r (new ≡ rs) →
    are_in_order rs ≡ true → Inserted rs k v → are_in_order new ≡ true
still_in_order (Ok a) rs new k v is same h inserted = ap are_in_order is ∙ inserted.in_order
still_in_order (Err e) rs new k v is same h inserted = ap are_in_order same ∙ h

-- one more range among the sorted ones
pub one_more_sorted : (x : Extent) (k v : ℕ) (rs new : List (ℕ × ℕ)) (others : List Extent) → Inserted rs k v → new ≡ insert_entry nat_cmp rs k v →
    meets_none_of (map pair_extent new ++ others) x ≡ (are_apart (record { low = k; high = v }) x && meets_none_of (map pair_extent rs ++ others) x)
one_more_sorted x k v rs new others inserted is =
    list_all-append (λ e. are_apart e x) (map pair_extent new) others
    ∙ ap (λ b. b && meets_none_of others x) (none_of_pairs x new ∙ ap (list_all (is_apart x.low x.high)) is ∙ inserted.all (is_apart x.low x.high))
    ∙ and_assoc (is_apart x.low x.high (k, v)) (list_all (is_apart x.low x.high) rs) (meets_none_of others x)
    ∙ ap (λ b. is_apart x.low x.high (k, v) && b)
    (ap (λ b. b && meets_none_of others x) (sym (none_of_pairs x rs)) ∙ sym (list_all-append (λ e. are_apart e x) (map pair_extent rs) others))

last_first : (x y : Extent) (es : List Extent) → meets_none_of (es ++ y ∷ []) x ≡ (are_apart y x && meets_none_of es x)
last_first x y [] = refl
last_first x y (e ∷ es) = ap (λ b. are_apart e x && b) (last_first x y es) ∙ and_left_comm (are_apart e x) (are_apart y x) (meets_none_of es x)

-- one more extent among the others
pub one_more_other : (x y : Extent) (sorted others : List Extent) →
    meets_none_of (sorted ++ (others ++ y ∷ [])) x ≡ (are_apart y x && meets_none_of (sorted ++ others) x)
one_more_other x y sorted others =
    list_all-append (λ e. are_apart e x) sorted (others ++ y ∷ [])
    ∙ ap (λ b. meets_none_of sorted x && b) (last_first x y others)
    ∙ and_left_comm (meets_none_of sorted x) (are_apart y x) (meets_none_of others x)
    ∙ ap (λ b. are_apart y x && b) (sym (list_all-append (λ e. are_apart e x) sorted others))

-- the answer for both, where neither is left out
pub none_of_both : {A : Type 0} (f : A → Extent) (x : Extent) (sorted : List Extent) (others : List A) (a b : Bool) →
    a ≡ meets_none_of sorted x → b ≡ list_all (λ o. are_apart (f o) x) others → (a && b) ≡ meets_none_of (sorted ++ map f others) x
none_of_both f x sorted others a b is_a is_b =
    ap (λ t. t && b) is_a ∙ ap (λ t. meets_none_of sorted x && t) (is_b ∙ sym (list_all-map (λ e. are_apart e x) f others))
    ∙ sym (list_all-append (λ e. are_apart e x) sorted (map f others))
