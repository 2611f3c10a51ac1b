-- Which states of the machine represent a located state, where that waits for the client too.
use Rattle.std.specs.Prelude.{◌≡◌, ◌⊎◌, ℕ, List}
use Rattle.rv_table.specs.Machine.{State, Asks, instruction_step}
use Rattle.rv_table.specs.declared.request.Request.TheVariants.{Yield}
use Rattle.cmm_program.specs.State.{Setting, Waiting}
use Rattle.cmm_image_machine.specs.Machine.{Launch, map_of}
use Rattle.cmm_located.specs.Compiled.{Compiled, Located}
use Rattle.cmm_client_laws.specs.Waiting.{IsWaitingAs}
use Rattle.cmm_emit_laws.specs.Finished.{Finished}
use Rattle.cmm_emit_laws.specs.Standing.{Stands}

-- elsewhere, memory is the rest
module _ (s : Setting) (c : Compiled) (l : Launch) (f : Finished) (rest : ℕ → ℕ) where
  -- at the ECALL that calls the client
  pub record WaitsAt (at : Located) (t : State) : Type 0 where
    pub values : List ℕ
    pub status : at.store.status ≡ Waiting values
    pub waits : IsWaitingAs s c f.symbols rest l.image values at t
    pub asks : instruction_step (map_of l) t ≡ Asks Yield

  abbrev pub StandsOrWaits : Located → State → Type 0
  StandsOrWaits at t = Stands s c l f rest at t ⊎ WaitsAt at t
