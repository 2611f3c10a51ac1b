-- Straight pieces: instructions that only set registers, run one after another.
use Rattle.std.specs.Prelude.{ℕ, List, [], ◌∷◌, Option, Some, None}
use Rattle.rv_table.specs.declared.effects.Effect.{Effect}
use Rattle.rv_table.specs.declared.effects.Effect.TheVariants.{Set, Jump, Branch, Load, Store, Ask, Break}
use Rattle.rv_table.specs.declared.instruction.Instr.{Instr}
use Rattle.rv_table.specs.Machine.{State, with_set}
use Rattle.rv_table.specs.Row.{row}

-- goes on with the register and the value, if the effect sets one
abbrev pub on_set : Effect → (ℕ → ℕ → Option State) → Option State
on_set (Set rd value) go = go rd value
on_set (Jump _ _ _) go = None
on_set (Branch _ _) go = None
on_set (Load _ _ _ _) go = None
on_set (Store _ _ _) go = None
on_set Ask go = None
on_set Break go = None

-- the state that these instructions lead to, if each only sets a register
abbrev pub straight : State → List Instr → Option State
straight s [] = Some s
straight s (i ∷ is) = on_set (row s.registers s.pc i) (λ rd value. straight (with_set s rd value) is)
