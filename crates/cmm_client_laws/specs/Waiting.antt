-- A located program that waits at a yield, as a state of an image represents it, and what the client's answer comes to in both.
use Rattle.std.specs.Prelude.{◌≡◌, ◌∷◌, ◌++◌, ℕ, List, length, Some}
use Rattle.cmm_script.specs.Lines.{yield_line}
use Rattle.rv_table.specs.Bounds.{IsSound}
use Rattle.rv_table.specs.Machine.{State}
use Rattle.cmm_program.specs.Errors.{UncheckedError}
use Rattle.cmm_program.specs.State as program
use Rattle.cmm_program.specs.State.{Setting}
use Rattle.cmm_chain.specs.Chain.{Suspension}
use Rattle.cmm_image.specs.declared.parts.ImageParts.{ImageParts}
use Rattle.cmm_image_machine.specs.Machine.{Run, Running, Ended}
use Rattle.cmm_emit_laws.specs.Words.{Symbols}
use Rattle.cmm_emit_laws.specs.Represented.{IsRepresented}
use Rattle.cmm_located.specs.Compiled.{Compiled, Located}
use Rattle.cmm_client_laws.specs.Asked.{IsResumedAs, IsStoppedAs}
use Rattle.cmm_client_laws.specs.Walked.{IsGhostOf, IsWalked}

-- elsewhere, memory is the rest
module _ (s : Setting) (c : Compiled) (y : Symbols) (rest : ℕ → ℕ) (i : ImageParts) where
  -- the youngest activation waits at a site that yields so many values, which have come to where values travel; the log ends with their line
  pub record IsWaitingAs (values : List ℕ) (at : Located) (t : State) : Type 0 where
    pub youngest : Suspension
    pub older : List Suspension
    pub walked : IsWalked s c at.holdings at.store.activations (youngest ∷ older)
    pub shown : IsRepresented y rest s at.holdings at.store values t
    pub sound : IsSound t
    pub yields : (a : program.Activation) (g : IsGhostOf s a youngest) → g.site.yield_values ≡ Some (length values)
    pub front : List ℕ
    pub logged : at.store.log ≡ front ++ yield_line values

  -- the client is done, over locations and in the image: the program goes on, unless it is wrong to, or is stopped
  pub data IsClientDone (at : Located) (run : Run) : Type 0 where
    GoesOn : run.status ≡ Running → at.store.status ≡ program.Running → IsResumedAs s c y rest i at run.machine → at.store.log ≡ run.log → IsClientDone at run
    GoesWrong : (e : UncheckedError) → at.store.status ≡ program.Wrong e → IsClientDone at run
    IsOver : run.status ≡ Ended program.Stopped → at.store.status ≡ program.Ended program.Stopped → IsStoppedAs s c y rest i at run.machine →
        at.store.log ≡ run.log → IsClientDone at run
