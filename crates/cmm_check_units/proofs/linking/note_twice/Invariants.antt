use Rattle.std.proofs.Common.{◌≡◌, ◌++◌, List, ℕ, map, take}
use Rattle.cmm_static_semantics.specs.Spots.{first_of}
use Rattle.cmm_static_semantics.specs.Linking.{export_link, twice}
use Rattle.cmm_check_units.specs.inside.Linked.{AreLinks}
use Rattle.cmm_check_units.proofs.linking.note_twice.Given as goal

abbrev pub invariant-loop-export : goal.invariant-loop-export
invariant-loop-export l =
    ((before : List (List ℕ)) → AreLinks l.fn.earlier before → AreLinks l.earlier (before ++ map export_link (map (λ e. e.now) (take l.export-index l.exports))))
    × ((before : List (List ℕ)) → AreLinks l.fn.earlier before → l.best ≡ first_of l.fn.best (twice before (map (λ e. e.now) (take l.export-index l.exports))))
