-- What a client's answer leaves of a located state as it was.
use Rattle.std.specs.Prelude.{◌≡◌, ◌⊎◌, map}
use Rattle.cmm_program.specs.State.{Running}
use Rattle.cmm_located.specs.Compiled.{Located, bare}

-- input, what was taken of it, output, global registers, and that activations have no values
pub record Keeps (at after : Located) : Type 0 where
  pub input : after.store.input ≡ at.store.input
  pub taken : after.store.taken ≡ at.store.taken
  pub output : after.store.output ≡ at.store.output
  pub registers : after.store.registers ≡ at.store.registers
  pub are_bare : map bare at.store.activations ≡ at.store.activations → map bare after.store.activations ≡ after.store.activations

-- where control is
pub record StaysPut (at after : Located) : Type 0 where
  pub procedure : after.procedure ≡ at.procedure
  pub node : after.node ≡ at.node

-- unless the program goes on
abbrev pub PutOrRuns : Located → Located → Type 0
PutOrRuns at after = StaysPut at after ⊎ (after.store.status ≡ Running)
