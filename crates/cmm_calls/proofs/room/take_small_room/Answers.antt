use Rattle.std.proofs.Common.{◌∷◌, ◌++◌, [], arith, neg_ℤ, pos}
use Rattle.cmm_words.specs.declared.operators.Cmp.TheVariants.{Eq}
use Rattle.rv_asm.specs.declared.part.Part.TheVariants.{Branch, Single}
use Rattle.rv_table.specs.declared.instruction.Instr.TheVariants.{Addi, Srli, Sub}
use Rattle.cmm_effects.proofs.Shared.{adds_one, adds_part, adds_then, adds_weaker}
use Rattle.cmm_calls.proofs.Rooms.{takes_small_room}
use Rattle.cmm_calls.proofs.room.take_small_room.Goals as goal

pub returns-clause-takes : goal.returns-clause-takes
returns-clause-takes c =
    let first = c.args.asm.now.parts in
    let second = first ++ Single (Addi 2 2 (neg_ℤ (pos c.args.size))) ∷ [] in
    let third = second ++ Single (Sub 5 2 4) ∷ [] in
    let last = third ++ Single (Srli 5 5 (pos 12)) ∷ [] in
    rw (c.in_ok-branch.ensures.parts, c.in_ok-emit-3.ensures.parts, c.in_ok-emit-2.ensures.parts, c.in_ok-emit.ensures.parts, c.lower.ensures.is)
    (adds_weaker
    (adds_then (adds_one first (Addi 2 2 (neg_ℤ (pos c.args.size))))
    (adds_then (adds_one second (Sub 5 2 4)) (adds_then (adds_one third (Srli 5 5 (pos 12))) (adds_part last (Branch Eq 5 0 c.args.limit) 3 (omega arith)))))
    (omega arith)
    (λ x from to does. takes_small_room x c.args.size c.args.limit c.requires.size from to does))
