-- Which rules a procedure and each of its statements break (C-- Language Specification 2.0, procedures and statements).
use Rattle.std.specs.Prelude.{ℕ, ◌==◌, ◌&&◌, nat_le, Bool, true, false, List, [], ◌∷◌, ◌++◌, flat_map, length, option_map, Option, Some, None, Ok}
use Rattle.cmm_words.specs.declared.width.Width.{Width}
use Rattle.cmm_words.specs.Widths.{bits}
use Rattle.cmm_ast.specs.declared.token.Ident.{Ident}
use Rattle.cmm_ast.specs.declared.expression.Expr.{Expr}
use Rattle.cmm_ast.specs.declared.expression.Memory.{Memory, Memory'}
use Rattle.cmm_ast.specs.declared.expression.TypeName.{TypeName}
use Rattle.cmm_ast.specs.declared.procedure.Proc.{Proc}
use Rattle.cmm_ast.specs.declared.procedure.Formal.{Formal}
use Rattle.cmm_ast.specs.declared.procedure.Modifiers.TheVariants as modifiers
use Rattle.cmm_ast.specs.declared.procedure.LocalForm.{LocalForm}
use Rattle.cmm_ast.specs.declared.procedure.LocalForm.TheVariants as locals
use Rattle.cmm_ast.specs.declared.procedure.Room.{Room}
use Rattle.cmm_ast.specs.declared.procedure.RoomForm.TheVariants as rooms
use Rattle.cmm_ast.specs.declared.statement.Actual.{Actual}
use Rattle.cmm_ast.specs.declared.statement.Exit.{Exit}
use Rattle.cmm_ast.specs.declared.statement.Lvalue.{Lvalue}
use Rattle.cmm_ast.specs.declared.statement.Lvalue.TheVariants as lvalues
use Rattle.cmm_ast.specs.declared.statement.Part.{Part}
use Rattle.cmm_ast.specs.declared.statement.Part.TheVariants as parts
use Rattle.cmm_ast.specs.declared.statement.StmtForm.{StmtForm}
use Rattle.cmm_ast.specs.declared.statement.StmtForm.TheVariants as stmts
use Rattle.cmm_rules.specs.declared.rule.Rule.TheVariants.{WidthsDiffer, UnknownOperator, CountsDiffer, BadReturnIndex, TooManyValues, BadHostCall}
use Rattle.cmm_static_semantics.specs.declared.spot.Spot.{Spot}
use Rattle.cmm_static_semantics.specs.declared.judged.Typed.TheVariants as typed
use Rattle.cmm_static_semantics.specs.declared.judged.Operands.TheVariants as operands
use Rattle.cmm_static_semantics.specs.Spots.{at, unless}
use Rattle.cmm_static_semantics.specs.Senses.{Senses, target_width}
use Rattle.cmm_static_semantics.specs.Operators.{checked_named}
use Rattle.cmm_static_semantics.specs.Judging.{with_both, spots, if_ok}
use Rattle.cmm_static_semantics.specs.Algebras.{knowns}
use Rattle.cmm_static_semantics.specs.Typing.{expr_type, operand_at, type_width, applied, wanted, of_memory, of_primary}
use Rattle.cmm_static_semantics.specs.Constants.{Judgement, number_of}
use Rattle.cmm_static_semantics.specs.Declarations.{again, own_names}
use Rattle.cmm_static_semantics.specs.Items.{parts_of}
use Rattle.cmm_static_semantics.specs.Scopes.{Scope, senses, types}
use Rattle.cmm_static_semantics.specs.Expressions.{alignment_spots, inner_spots, bits_spots, test_spots, number_spots, constant_spots, type_spots, past_limit}
use Rattle.cmm_static_semantics.specs.Calls.{ident_spots, goto_spots, parameters_spots, results_spots, actuals_spots, flows_spots, site_flows_spots, callee_spots, foreign_callee_spots, is_foreign}
use Rattle.cmm_static_semantics.specs.Switches.{heads, switch_spots}

-- ---- assignments

abbrev pub memory_type_name : Memory → TypeName
memory_type_name (Memory' width _ address aligned) = width

abbrev pub memory_expr : Memory → Expr
memory_expr m = of_memory (memory_type_name m).token m

abbrev pub lvalue_spots : Scope → Lvalue → List Spot
lvalue_spots s (lvalues.Name i) = ident_spots s i
lvalue_spots s (lvalues.Memory m) = bits_spots (senses s) None (memory_expr m)

abbrev pub lvalue_width : Scope → Lvalue → Option Width
lvalue_width s (lvalues.Name i) = target_width (senses s i.name)
lvalue_width s (lvalues.Memory m) = if_ok (type_width (senses s) (memory_type_name m))

-- 23: each value is of the width of its place, where it has a place
abbrev pub sides : Scope → List Lvalue → List Expr → List Spot
sides s (l ∷ ls) (e ∷ es) = bits_spots (senses s) (lvalue_width s l) e ++ sides s ls es
sides s [] (e ∷ es) = bits_spots (senses s) None e ++ sides s [] es
sides s ls [] = []

-- ---- checked operators

-- 23: the result's place is of the operands' width
abbrev pub result_fits : Option Width → Judgement → Bool
result_fits (Some width) (Ok (typed.Bits x)) = bits x.width == bits width
result_fits _ _ = true

-- 26: a checked operator is a division
abbrev pub checked_type : Senses → Ident → Expr → Expr → Judgement
checked_type names operator left right =
    with_both (operand_at knowns left.token (expr_type knowns names left)) (operand_at knowns right.token (expr_type knowns names right))
    (λ a b. applied knowns operator.token (checked_named operator.name) (operands.Two a b))

abbrev pub checked_spots : Scope → Ident → Ident → Expr → Expr → List Spot
checked_spots s result operator left right = let t = checked_type (senses s) operator left right in
    ident_spots s result
    ++ elim (checked_named operator.name) [ Some op ↦ [] | None ↦ at UnknownOperator operator.token ]
    ++ spots t ++ inner_spots (senses s) left ++ inner_spots (senses s) right
    ++ unless (result_fits (target_width (senses s result.name)) t) WidthsDiffer operator.token

-- ---- returns

-- 32: the exit's number is at most that of the alternate exits, and that is at most 64
abbrev pub is_exit : Option ℕ → Option ℕ → Bool
is_exit index None = true
is_exit None (Some count) = nat_le count 64
is_exit (Some index) (Some count) = nat_le index count && nat_le count 64

abbrev pub return_spots : Scope → Option Exit → List Spot
return_spots s None = []
return_spots s (Some x) = let index = of_primary x.index in let count = of_primary x.count in
    number_spots (senses s) index ++ number_spots (senses s) count
    ++ unless (is_exit (if_ok (number_of (senses s) index)) (if_ok (number_of (senses s) count))) BadReturnIndex x.token

abbrev pub passed : Option (List Actual) → List Actual
passed (Some values) = values
passed None = []

-- ---- statements, the blocks inside them left out

abbrev pub stmt_spots : Scope → ℕ → StmtForm → List Spot
stmt_spots s token (stmts.If' condition _ body otherwise) = test_spots (senses s) condition
stmt_spots s token (stmts.Switch' range value _ arms) =
    bits_spots (senses s) None value ++ switch_spots (senses s) (option_map (λ x. x.width) (if_ok (wanted knowns (senses s) None value))) range (heads arms)
stmt_spots s token (stmts.Span' key value _ body) = number_spots (senses s) (of_primary key) ++ constant_spots (senses s) value
stmt_spots s token (stmts.Assign to values) =
    unless (length to == length values) CountsDiffer token ++ flat_map (lvalue_spots s) to ++ sides s to values
stmt_spots s token (stmts.Checked result operator left right flows) = checked_spots s result operator left right ++ site_flows_spots s flows
stmt_spots s token (stmts.Call results None callee actuals flows) =
    results_spots s results ++ callee_spots s true callee ++ actuals_spots s actuals ++ site_flows_spots s flows
stmt_spots s token (stmts.Call results (Some convention) callee actuals flows) =
    results_spots s results ++ foreign_callee_spots s callee ++ actuals_spots s actuals ++ flows_spots s flows
    ++ unless (is_foreign s convention results callee actuals flows) BadHostCall callee.token
stmt_spots s token (stmts.Jump callee actuals) = callee_spots s false callee ++ actuals_spots s actuals
stmt_spots s token (stmts.Return exit values) = return_spots s exit ++ actuals_spots s (passed values)
stmt_spots s token (stmts.Continuation name parameters) = parameters_spots s parameters
stmt_spots s token (stmts.Goto name) = goto_spots s name
stmt_spots s token (stmts.Cut callee actuals flows) = callee_spots s false callee ++ actuals_spots s actuals ++ flows_spots s flows
stmt_spots s token (stmts.Label name) = []
stmt_spots s token stmts.Empty = []

-- ---- what a procedure declares

abbrev pub room_spots : Scope → Room → List Spot
room_spots s r = elim r.form [
  | rooms.Label name ↦ []
  | rooms.Align k ↦ alignment_spots k
  | rooms.Data width count ↦ type_spots (types s) width ++ elim count [ Some e ↦ number_spots (senses s) e | None ↦ [] ]
]

abbrev pub local_spots : Scope → LocalForm → List Spot
local_spots s (locals.Variables before width names) = type_spots (types s) width
local_spots s (locals.Stackdata rooms) = flat_map (room_spots s) rooms

abbrev pub part_spots : Scope → Part → List Spot
part_spots s (parts.Local l) = local_spots s l.form
part_spots s (parts.Stmt' first past form) = stmt_spots s first form

-- the first token of a formal
abbrev pub formal_token : Formal → ℕ
formal_token f = elim f.modifiers [
  | modifiers.Nothing ↦ f.width.token
  | modifiers.Kind kind ↦ kind.token
  | modifiers.KindInvariant kind ↦ kind.token
  | modifiers.Invariant token ↦ token
  | modifiers.InvariantKind token kind ↦ token
]

abbrev pub scope_of : Senses → Proc → Scope
scope_of outer p = record { own = own_names p; outer = outer }

-- 33: no more than 64 formals. The limits on a whole procedure stand apart.
abbrev pub proc_spots : Senses → Proc → List Spot
proc_spots outer p = let s = scope_of outer p in
    again [] s.own
    ++ past_limit TooManyValues 64 formal_token p.formals ++ flat_map (λ f. type_spots (types s) f.width) p.formals
    ++ flat_map (part_spots s) (parts_of p.body)
