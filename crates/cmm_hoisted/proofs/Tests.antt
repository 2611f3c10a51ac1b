-- Tests that are joined: where no part holds less, the whole does not.
use Rattle.std.proofs.Common.{Bool, true, false, refl}
use Rattle.std.proofs.lemmas.Bool.{and_from, and_parts, or_left, or_right}
use Rattle.std.specs.Prelude.{◌&&◌, ◌||◌, IsTrue}

pub both_more : (a b c d : Bool) → (IsTrue a → IsTrue c) → (IsTrue b → IsTrue d) → IsTrue (a && b) → IsTrue (c && d)
both_more a b c d first second holds = let parts = and_parts a b holds in and_from c d (first parts.0) (second parts.1)

pub either_more : (a b c d : Bool) → (IsTrue a → IsTrue c) → (IsTrue b → IsTrue d) → IsTrue (a || b) → IsTrue (c || d)
either_more true b c d first second holds = or_left c d (first refl)
either_more false b c d first second holds = or_right c d (second holds)
