-- Names that are sorted by bytes, each once, ascend as the rows of an image do.
use Rattle.std.proofs.Common.{ℕ, IsTrue, Some, List, [], ◌∷◌, refl, ap}
use Rattle.std.proofs.lemmas.Bool.{and_from}
use Rattle.std.specs.Cmp.Lexicographic.{slice_cmp}
use Rattle.std.specs.List.Sorted.{IsStrictlySortedBy}
use Rattle.std.specs.Ordering.{is_lt, nat_cmp}
use Rattle.cmm_image.specs.ImageFormat.{is_after}
use Rattle.cmm_link.specs.Labels.{ascend_after, names_ascend}

ascend_behind : (name : List ℕ) (names : List (List ℕ)) → IsStrictlySortedBy (slice_cmp nat_cmp) (name ∷ names) → IsTrue (ascend_after (Some name) names)
unfolding IsStrictlySortedBy
ascend_behind name [] sorted = refl
ascend_behind name (n ∷ names) sorted = and_from (is_after (Some name) n) (ascend_after (Some n) names) (ap is_lt sorted.0.0) (ascend_behind n names sorted.1)

pub sorted_ascend : (names : List (List ℕ)) → IsStrictlySortedBy (slice_cmp nat_cmp) names → IsTrue (names_ascend names)
sorted_ascend [] sorted = refl
sorted_ascend (name ∷ names) sorted = ascend_behind name names sorted
