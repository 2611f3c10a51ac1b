-- Instructions that are added one after another.
use Rattle.std.proofs.Common.{List, [], ◌∷◌, ◌++◌}
use Rattle.rv_asm.specs.Appending.{Then}
use Rattle.rv_asm.specs.declared.part.Part.{Part}
use Rattle.rv_asm.specs.declared.part.Part.TheVariants.{Single}
use Rattle.rv_table.specs.declared.instruction.Instr.{Instr}
use Rattle.cmm_effects.proofs.Shared.{adds_one, adds_then}
use Rattle.cmm_effects.specs.Pieces.{Adds}
use Rattle.cmm_select.proofs.Places.{One}

abbrev pub also : List Part → Instr → List Part
also old i = old ++ Single i ∷ []

module _ (old : List Part) (a b c d : Instr) where
  pub adds_four : Adds 4 old (also (also (also (also old a) b) c) d) (Then (One a) (Then (One b) (Then (One c) (One d))))
  adds_four =
      adds_then {b = 3} (adds_one old a) (adds_then {b = 2} (adds_one (also old a) b) (adds_then {b = 1} (adds_one (also (also old a) b) c) (adds_one (also (also (also old a) b) c) d)))

  pub adds_five : (e : Instr) → Adds 5 old (also (also (also (also (also old a) b) c) d) e) (Then (One a) (Then (One b) (Then (One c) (Then (One d) (One e)))))
  adds_five e =
      adds_then {b = 4} (adds_one old a) (adds_then {b = 3} (adds_one (also old a) b) (adds_then {b = 2} (adds_one (also (also old a) b) c)
      (adds_then {b = 1} (adds_one (also (also (also old a) b) c) d) (adds_one (also (also (also (also old a) b) c) d) e))))

  pub adds_six : (e f : Instr) → Adds 6 old (also (also (also (also (also (also old a) b) c) d) e) f) (Then (One a) (Then (One b) (Then (One c) (Then (One d) (Then (One e) (One f))))))
  adds_six e f =
      adds_then {b = 5} (adds_one old a) (adds_then {b = 4} (adds_one (also old a) b) (adds_then {b = 3} (adds_one (also (also old a) b) c)
      (adds_then {b = 2} (adds_one (also (also (also old a) b) c) d) (adds_then {b = 1} (adds_one (also (also (also (also old a) b) c) d) e)
      (adds_one (also (also (also (also (also old a) b) c) d) e) f)))))
