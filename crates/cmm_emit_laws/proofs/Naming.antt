-- A graph of a procedure names global registers that are there.
use Rattle.std.proofs.Common.{◌≡◌, ℕ, zero, suc, ◌<◌, refl, ap, ◌∙◌, arith, Bool, true, false, List, [], ◌∷◌, length, Option, Some, None, slice_get}
use Rattle.std.specs.Prelude.{◌&&◌, nat_lt}
use Rattle.std.specs.List.{list_all}
use Rattle.std.proofs.lemmas.Bool.{and_parts}
use Rattle.std.proofs.lemmas.Bool.Decides.{nat_tests}
use Rattle.cmm_words.specs.declared.width.Width.{Width}
use Rattle.cmm_program.specs.declared.procedure.Proc.{Proc}
use Rattle.cmm_program.specs.declared.procedure.Target.{Target}
use Rattle.cmm_program.specs.declared.procedure.Target.TheVariants as target
use Rattle.cmm_program.specs.declared.program.Global.{Global}
use Rattle.cmm_program.specs.declared.program.Program.{Program}
use Rattle.cmm_program.specs.Typing.{has_register, is_target, same_width}
use Rattle.cmm_graph.specs.declared.node.Node.{Node}
use Rattle.cmm_graph.specs.declared.node.NodeKind.{NodeKind}
use Rattle.cmm_graph.specs.Counterpart.{names_operand, names_there, reads_registers, targets}
use Rattle.cmm_graph.specs.Paths.{operands}
use Rattle.cmm_emit_laws.specs.Naming.{GraphsAreNamed}
use Rattle.cmm_emit_laws.specs.ProgramCode.{names_register, names_registers}

-- what is in a list has a number below its length
within_list : {A : Type 0} (xs : List A) (k : ℕ) (x : A) → slice_get xs k ≡ Some x → k < length xs
within_list [] k x is = absurd (cc)
within_list (first ∷ xs) zero x is = omega arith
within_list (first ∷ xs) (suc k) x is = let rest = within_list xs k x is in omega (arith, rest)

register_there : (p : Program) (number : ℕ) (width : Width) → has_register p number width ≡ true → nat_lt number (length p.globals) ≡ true
register_there p number width is = by (slice_get p.globals number) refl is
  where
    by : (o : Option Global) → slice_get p.globals number ≡ o → elim o as (λ _. Bool) [ Some g ↦ same_width g.width width | None ↦ false ] ≡ true → nat_lt number (length p.globals) ≡ true
    by (Some g) there e = let less = within_list p.globals number g there in grind (arith, nat_tests, less)
    by None there e = absurd (cc)

target_there : (p : Program) (q : Proc) (t : Target) → is_target p q t ≡ true → names_register p t ≡ true
target_there p q (target.Variable number width) is = refl
target_there p q (target.Register number width) is = register_there p number width is

targets_there : (p : Program) (q : Proc) (ts : List Target) → list_all (is_target p q) ts ≡ true → list_all (names_register p) ts ≡ true
targets_there p q [] all = refl
targets_there p q (t ∷ ts) all =
    let both = and_parts (is_target p q t) (list_all (is_target p q) ts) all in
    let first = target_there p q t both.0 in
    let rest = targets_there p q ts both.1 in
    grind (arith, first, rest)

kind_there : (p : Program) (q : Proc) (kind : NodeKind) → names_there p q kind ≡ true → names_registers p kind ≡ true
kind_there p q kind is =
    let both = and_parts (list_all (names_operand p q) (operands kind) && list_all (is_target p q) (targets kind)) (reads_registers p kind) is in
    let named = targets_there p q (targets kind) (and_parts (list_all (names_operand p q) (operands kind)) (list_all (is_target p q) (targets kind)) both.0).1 in
    ap (λ (b : Bool). b && reads_registers p kind) named ∙ both.1

nodes_there : (p : Program) (q : Proc) (nodes : List Node) → list_all (λ node. names_there p q node.kind) nodes ≡ true → list_all (λ node. names_registers p node.kind) nodes ≡ true
nodes_there p q [] all = refl
nodes_there p q (node ∷ nodes) all =
    let both = and_parts (names_there p q node.kind) (list_all (λ node. names_there p q node.kind) nodes) all in
    let first = kind_there p q node.kind both.0 in
    let rest = nodes_there p q nodes both.1 in
    ap (λ (b : Bool). b && list_all (λ node. names_registers p node.kind) nodes) first ∙ rest

pub graphs_are_named : GraphsAreNamed
graphs_are_named p q g is = record { valid = is.valid; named = nodes_there p q g.nodes is.names }
