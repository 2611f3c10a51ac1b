-- The site with a return address is the one at the place where a search finds it.
use Rattle.std.proofs.Common.{◌≡◌, ℕ, nat_lt, Bool, true, false, cond, List, length, slice_get, Some, None, refl, ◌∙◌, arith}
use Rattle.std.specs.List.{position_or_len}
use Rattle.std.specs.Option.{option_and_then}
use Rattle.std.proofs.lemmas.List.Folds.{find_at}
use Rattle.std.proofs.lemmas.Bool.Decides.{nat_tests}
use Rattle.std.proofs.lemmas.Option.{slice_get_cases}
use Rattle.cmm_image.specs.Sites.{returns_to}
use Rattle.cmm_image_machine.specs.Laws.{SitesAreFound}

at_place : {X : Type 0} (xs : List X) (n : ℕ) (b : Bool) → nat_lt n (length xs) ≡ b → slice_get xs n ≡ option_and_then (slice_get xs) (cond b (Some n) None)
at_place xs n true is = refl
at_place xs n false is = grind (arith, nat_tests, slice_get_cases xs n)

pub sites_are_found : SitesAreFound
sites_are_found i address = let n = position_or_len (returns_to address) i.sites in
    find_at (returns_to address) i.sites ∙ at_place i.sites n (nat_lt n (length i.sites)) refl
