-- The code of a small program that yields: main() { yield(7); return (7); }
use Rattle.std.specs.Prelude.{ℕ, [], ◌∷◌}
use Rattle.cmm_chain.specs.declared.frame.Frame.{Frame}
use Rattle.rv_asm.specs.Parts.{Code}
use Rattle.rv_asm.specs.declared.part.Label.{Label}
use Rattle.rv_table.specs.declared.request.Request.TheVariants.{StackLimit, Yield}
use Rattle.cmm_select.specs.declared.operand.Operand.TheVariants.{Held}
use Rattle.cmm_select.specs.declared.source.Source.TheVariants.{Number}
use Rattle.cmm_effects.specs.Changes.{Keeps}
use Rattle.cmm_effects.specs.Pieces.{Always}
use Rattle.cmm_effects.specs.Requests.{AsksFor}
use Rattle.cmm_effects.specs.Ways.{Turns}
use Rattle.cmm_calls.specs.Calls.{Calls, HasExits}
use Rattle.cmm_calls.specs.Values.{Begins, ReturnsValues}
use Rattle.cmm_emit_laws.specs.Starting.{BeginsRun}

-- The run begins, and `main` is called, whose frame is made. It calls the stub of the client with 7, and behind the return address, where the site has no other
-- exit, control goes on to a label; there it returns 7. At two labels the stack's limit is requested, and the client is called.
pub record YieldsOnce (f : Frame) (main client site behind limit : Label) (x : Code) (from to : ℕ) : Type 0 where
  pub starts : BeginsRun main x from
  pub entered : ℕ
  pub begins : Begins f [] [] [] limit x (x.at main.number) entered
  pub called : ℕ
  pub calls : Calls f (Held (Number 7) ∷ []) client site x entered called
  pub landing : ℕ
  pub table : HasExits [] x called landing
  pub copies : Turns 2 Always (λ t. x.at behind.number) Keeps x landing
  pub returns : ReturnsValues f (Held (Number 7) ∷ []) 0 x (x.at behind.number)
  pub limits : AsksFor 1 (λ t. StackLimit) x (x.at limit.number)
  pub asks : AsksFor 1 (λ t. Yield) x (x.at client.number)
