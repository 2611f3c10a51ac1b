use Rattle.std.proofs.Common.{get_or, ◌++◌, ◌∙◌, ap, arith, length, sym, take, ℕ, List, ◌≡◌, ◌+◌}
use Rattle.std.proofs.lemmas.List.{length-take-le, take_more}
use Rattle.cmm_chain.specs.declared.frame.Location.TheVariants.{Slot}
use Rattle.cmm_select.specs.declared.operand.Operand.{Operand}
use Rattle.cmm_select.specs.declared.operand.Operand.TheVariants.{Held}
use Rattle.cmm_select.specs.declared.source.Source.TheVariants.{Place}
use Rattle.cmm_moves.specs.declared.sequencing.Move.{Move}
use Rattle.cmm_calls.proofs.Homes.{moves_then}
use Rattle.cmm_calls.specs.inside.Giving.{move_for, moves_from}
use Rattle.cmm_calls.proofs.giving.register_moves.Goals as goal

pub loop-index-preserved : goal.loop-index-preserved
loop-index-preserved c =
    let i = c.loop-index.index in
    let values = c.args.values.now in
    let d : Operand = Held (Place (Slot 0)) in
    let v = get_or values i d in
    let len0 : length (take i values) ≡ i = length-take-le i values (omega (arith, c.loop-index-test.true)) in
    let len : 0 + length (take i values) ≡ i = omega (arith, len0) in
    record {
      moves = c.in_ok-add_move.ensures
          ∙ ap (λ (ms : List Move). ms ++ move_for i v) c.loop-index.invariant.moves
          ∙ ap (λ (n : ℕ). moves_from 0 (take i values) ++ move_for n v) (sym len)
          ∙ sym (moves_then 0 (take i values) v)
          ∙ sym (ap (moves_from 0) (take_more values i d c.loop-index-test.true));
    }
