use Rattle.std.proofs.Common.{[], ◌∷◌, ap, arith}
use Rattle.rv_asm.proofs.Shared.{appends_one, appends_then, appends_weaker, codes_more, codes_new, longest-append}
use Rattle.rv_asm.specs.Sizes.{all_longest}
use Rattle.rv_asm.specs.declared.part.Part.TheVariants.{Call, Place, Single}
use Rattle.rv_table.specs.declared.instruction.Instr.TheVariants.{Ebreak}
use Rattle.cmm_effects.proofs.Shared.{by_last}
use Rattle.cmm_emit.proofs.Starting.{calls_main, closing}
use Rattle.cmm_emit.proofs.start.lay_start.Goals as goal

pub returns-clause-calls : goal.returns-clause-calls
returns-clause-calls c =
    by_last c.close.result c.close.ensures.parts
    (λ h.
    appends_weaker
    (appends_then {b = c.call.new.self.parts} (rw c.in_ok-call.ensures.parts (appends_one c.args.asm.now.parts (Call c.args.main)))
    (appends_then {b = c.place.new.self.parts} (rw c.place.ensures.parts (appends_one c.call.new.self.parts (Place c.args.last)))
    (appends_then c.in_ok-ask_end.ensures.asks.appends (closing c.ask_end.new.asm.parts c.close.new.asm.parts h))))
    (λ x from to does. calls_main x c.args.main c.args.last from does.0 does.2.0 does.1 does.2.1))

pub returns-clause-ends : goal.returns-clause-ends
returns-clause-ends c =
    by_last c.close.result c.close.ensures.parts
    (λ h.
    codes_more c.args.last (codes_new c.call.new.self.parts c.args.last c.place.ensures.parts c.in_ok-ask_end.ensures.asks.appends)
    (closing c.ask_end.new.asm.parts c.close.new.asm.parts h))

pub returns-clause-closed : goal.returns-clause-closed
returns-clause-closed c =
    by_last c.close.result c.close.ensures.parts
    (λ h.
    record { front = c.ask_end.new.asm.parts; last = Ebreak; is = h })

pub returns-clause-size : goal.returns-clause-size
returns-clause-size c =
    by_last c.close.result c.close.ensures.parts
    (λ h.
    omega (
      arith,
      ap all_longest c.in_ok-call.ensures.parts,
      longest-append c.args.asm.now.parts (Call c.args.main ∷ []),
      ap all_longest c.place.ensures.parts,
      longest-append c.call.new.self.parts (Place c.args.last ∷ []),
      c.in_ok-ask_end.ensures.asks.few,
      ap all_longest h,
      longest-append c.ask_end.new.asm.parts (Single Ebreak ∷ []),
    ))
