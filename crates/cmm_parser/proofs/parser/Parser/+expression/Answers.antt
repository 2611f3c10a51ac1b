use Rattle.std.proofs.Common.{◌≡◌, ◌∙◌, ◌∷◌, [], sym, ap, refl, rules, arith, ℕ, pred, List, Option, Some}
use Rattle.cmm_lexer.specs.declared.symbol.Symbol.TheVariants.{Open, Close, OpenSquare, CloseSquare}
use Rattle.cmm_ast.specs.declared.expression.ExprForm.TheVariants.{Prefix}
use Rattle.cmm_ast.specs.declared.expression.Prefix.{Prefix as PrefixOperator}
use Rattle.cmm_lexer.specs.declared.piece.Lexeme.{Lexeme}
use Rattle.cmm_ast.specs.declared.expression.Expr.{Expr}
use Rattle.cmm_ast.specs.declared.expression.ExprForm.{ExprForm}
use Rattle.cmm_ast.specs.declared.token.Int.{Int}
use Rattle.cmm_grammar.specs.ExpressionGrammar.{unary_level}
use Rattle.cmm_grammar.specs.Reading.{Reads, ◌>>=◌, give, listed, more_listed}
use Rattle.cmm_grammar.specs.ExpressionReading as readers
use Rattle.cmm_grammar.specs.ExpressionReading.{begins_expression}
use Rattle.cmm_parser.specs.inside.Parsing.{prefix_next}
use Rattle.cmm_parser.specs.Faults.{lexeme_in}
use Rattle.cmm_parser.proofs.Steps.{handed, steps, steps_below, stops, halts, gives, gives_same, holds, looks, found, same_reader, same_readers, brackets_below, stops_inside_below, stops_closing_below}
use Rattle.cmm_parser.proofs.Loops.{starts_after, listed_turn, listed_ends, listed_ends_at, listed_breaks}
use Rattle.cmm_parser.proofs.ExpressionSteps.{operand_starts, operand_breaks, climb_turn, climb_ends, climb_stops, climb_breaks, infix_seen, by_name, only_literal, literal_first}
use Rattle.cmm_parser.proofs.parser.Parser.+expression.Goals.{operands-then-loop-self-test+else-is_expression, operands-else-loop-self-test}
use Rattle.cmm_parser.proofs.parser.Parser.+expression.Goals as goal

pub prefix-returns-in_err-operator : goal.prefix-returns-in_err-operator
prefix-returns-in_err-operator t c = stops _ c.in_err-operator.ensures (handed c.from_residual.ensures.1)

pub named-returns-in_err-operator : goal.named-returns-in_err-operator
named-returns-in_err-operator t c = stops _ c.in_err-operator.ensures (handed c.from_residual.ensures.1)

pub name_or_memory-returns-in_err-name : goal.name_or_memory-returns-in_err-name
name_or_memory-returns-in_err-name t c = stops _ c.in_err-name.ensures (handed c.from_residual.ensures.1)

-- ---- in brackets

pub bracketed-returns-in_err-inner : goal.bracketed-returns-in_err-inner
bracketed-returns-in_err-inner t c =
    stops _
    (stops_inside_below (λ fuel. readers.operand fuel 0) Open Close c.in_ok-outside.ensures c.in_err-inner.ensures)
    (handed c.from_residual-in_err-inner.ensures.1)

pub bracketed-returns-in_err-leave : goal.bracketed-returns-in_err-leave
bracketed-returns-in_err-leave t c =
    stops _
    (stops_closing_below (λ fuel. readers.operand fuel 0) Open Close c.in_ok-outside.ensures
    c.in_ok-inner.ensures c.in_err-leave.ensures)
    (handed c.from_residual-in_err-leave.ensures.1)

-- ---- words in memory

abbrev place : ℕ → Reads (Expr × Option Int)
place fuel = readers.located (readers.operand fuel)

pub memory-returns-in_err-address : goal.memory-returns-in_err-address
memory-returns-in_err-address t c =
    stops _
    (stops_inside_below place OpenSquare CloseSquare c.in_ok-outside.ensures (halts _ c.in_err-address.ensures))
    (handed c.from_residual-in_err-address.ensures.1)

pub memory-returns-in_err-aligned : goal.memory-returns-in_err-aligned
memory-returns-in_err-aligned t c =
    stops _
    (stops_inside_below place OpenSquare CloseSquare c.in_ok-outside.ensures
    (steps _ c.in_ok-address.ensures (halts _ c.in_err-aligned.ensures)))
    (handed c.from_residual-in_err-aligned.ensures.1)

pub memory-returns-in_err-leave : goal.memory-returns-in_err-leave
memory-returns-in_err-leave t c =
    stops _
    (stops_closing_below place OpenSquare CloseSquare c.in_ok-outside.ensures
    (steps _ c.in_ok-address.ensures (steps _ c.in_ok-aligned.ensures gives)) c.in_err-leave.ensures)
    (handed c.from_residual-in_err-leave.ensures.1)

pub memory-returns : goal.memory-returns
memory-returns t c =
    steps _
    (brackets_below place OpenSquare CloseSquare c.in_ok-outside.ensures
    (steps _ c.in_ok-address.ensures (steps _ c.in_ok-aligned.ensures gives)) c.in_ok-leave.ensures)
    (gives_same (search rules))

-- ---- names

pub name_or_memory-returns-in_err-memory : goal.name_or_memory-returns-in_err-memory
name_or_memory-returns-in_err-memory t c =
    steps _ c.in_ok-name.ensures
    (holds (c.is_symbol.ensures ∙ c.if-is_symbol.true)
    (stops _ (same_reader (λ width fuel. readers.memory (readers.operand (pred fuel)) width) c.named_type.ensures c.in_err-memory.ensures) (handed c.from_residual-in_err-memory.ensures.1)))

pub name_or_memory-returns-then-is_symbol : goal.name_or_memory-returns-then-is_symbol
name_or_memory-returns-then-is_symbol t c =
    steps _ c.in_ok-name.ensures
    (holds (c.is_symbol.ensures ∙ c.if-is_symbol.true)
    (steps _ (same_reader (λ width fuel. readers.memory (readers.operand (pred fuel)) width) c.named_type.ensures c.in_ok-memory.ensures) gives))

-- ---- operators by their names

abbrev operands_in : ℕ → Reads (List Expr)
operands_in fuel = listed fuel begins_expression (readers.operand fuel 0)

pub named-returns-in_err-operands : goal.named-returns-in_err-operands
named-returns-in_err-operands t c =
    steps _ c.in_ok-operator.ensures
    (stops _ (stops_inside_below operands_in Open Close c.in_ok-outside.ensures c.in_err-operands.ensures) (handed c.from_residual-in_err-operands.ensures.1))

pub named-returns-in_err-leave : goal.named-returns-in_err-leave
named-returns-in_err-leave t c =
    steps _ c.in_ok-operator.ensures
    (stops _
    (stops_closing_below operands_in Open Close c.in_ok-outside.ensures
    c.in_ok-operands.ensures c.in_err-leave.ensures)
    (handed c.from_residual-in_err-leave.ensures.1))

pub named-returns : goal.named-returns
named-returns t c =
    steps _ c.in_ok-operator.ensures
    (steps _
    (brackets_below operands_in Open Close c.in_ok-outside.ensures
    c.in_ok-operands.ensures c.in_ok-leave.ensures)
    gives)

-- ---- operands of operators by their names

pub operands-returns-in_err-operand : goal.operands-returns-in_err-operand
operands-returns-in_err-operand t c = stops _ c.in_err-operand.ensures (handed c.from_residual.ensures.1)

pub operands-returns-in_err-operand-2 : goal.operands-returns-in_err-operand-2
operands-returns-in_err-operand-2 t c =
    listed_breaks c.loop-self.invariant (c.accept.ensures.taken c.loop-self-test.true) (c.is_expression.ensures ∙ c.if-is_expression.true) c.in_err-operand-2.ensures
    (handed c.from_residual-in_err-operand-2.ensures.1)

pub operands-loop-self-init : goal.operands-loop-self-init
operands-loop-self-init t c =
    let one : c.add.new.operands ≡ c.in_ok-operand.field-0 ∷ [] = search rules in
    rw one (starts_after (λ a fuel turns. more_listed turns begins_expression (readers.operand fuel 0) (a ∷ [])) c.in_ok-operand.ensures)

pub operands-loop-self-preserved : goal.operands-loop-self-preserved
operands-loop-self-preserved t c =
    listed_turn c.loop-self.invariant (c.accept.ensures.taken c.loop-self-test.true) (c.is_expression.ensures ∙ c.if-is_expression.true) c.in_ok-operand-2.ensures
    c.in_ok-add-2.ensures

pub operands-returns : goal.operands-returns
operands-returns t c = elim c.loop-self-test.branch [
  | operands-then-loop-self-test+else-is_expression w ↦
      listed_ends_at c.loop-self.invariant (c.accept.ensures.taken w.loop-self-test.true) (w.is_expression.ensures ∙ w.if-is_expression.false)
  | operands-else-loop-self-test w ↦ listed_ends c.loop-self.invariant (c.accept.ensures.kept w.loop-self-test.false)
]

-- ---- operators before their operands

pub prefix-returns-in_err-operand : goal.prefix-returns-in_err-operand
prefix-returns-in_err-operand t c =
    steps_below (λ _ fuel. readers.operand fuel unary_level >>= λ e. give (Prefix c.args.operator e)) c.in_ok-operator.ensures
    (stops _ c.in_err-operand.ensures (handed c.from_residual-in_err-operand.ensures.1))

pub prefix-returns : goal.prefix-returns
prefix-returns t c =
    steps_below (λ _ fuel. readers.operand fuel unary_level >>= λ e. give (Prefix c.args.operator e)) c.in_ok-operator.ensures
    (steps _ c.in_ok-operand.ensures (gives_same (search rules)))

-- ---- by the first token

abbrev first : ℕ → Option Lexeme → Reads ExprForm
first fuel = readers.unary_by (pred fuel) (readers.operand (pred fuel))

abbrev after_prefix : Option PrefixOperator → ℕ → Reads ExprForm
after_prefix op fuel = readers.prefixed (readers.operand (pred fuel)) op

pub unary-returns-in_err-bracketed-in-None : goal.unary-returns-in_err-bracketed-in-None
unary-returns-in_err-bracketed-in-None t c =
    looks first (found _ c.next.ensures c.in-Some.is c.in-Symbol.is)
    (same_reader after_prefix (sym c.in-None.is ∙ c.next_prefix.ensures ∙ ap prefix_next (found _ c.next.ensures c.in-Some.is c.in-Symbol.is)) (stops _ c.in_err-bracketed-in-None.ensures (search rules)))

pub unary-returns-in_ok-bracketed-in-None : goal.unary-returns-in_ok-bracketed-in-None
unary-returns-in_ok-bracketed-in-None t c =
    looks first (found _ c.next.ensures c.in-Some.is c.in-Symbol.is)
    (same_reader after_prefix (sym c.in-None.is ∙ c.next_prefix.ensures ∙ ap prefix_next (found _ c.next.ensures c.in-Some.is c.in-Symbol.is)) (steps _ c.in_ok-bracketed-in-None.ensures gives))

pub unary-returns-in-Some-next_prefix : goal.unary-returns-in-Some-next_prefix
unary-returns-in-Some-next_prefix t c =
    looks first (found _ c.next.ensures c.in-Some.is c.in-Symbol.is)
    (same_reader after_prefix (sym c.in-Some-next_prefix.is ∙ c.next_prefix.ensures ∙ ap prefix_next (found _ c.next.ensures c.in-Some.is c.in-Symbol.is)) c.prefix.ensures)

pub unary-returns-in_err-memory-in-Word : goal.unary-returns-in_err-memory-in-Word
unary-returns-in_err-memory-in-Word t c =
    looks first (found _ c.next.ensures c.in-Some.is c.in-Word.is)
    (steps _ c.in_ok-width-in-Word.ensures (stops _ c.in_err-memory-in-Word.ensures (search rules)))

pub unary-returns-in_ok-memory-in-Word : goal.unary-returns-in_ok-memory-in-Word
unary-returns-in_ok-memory-in-Word t c =
    looks first (found _ c.next.ensures c.in-Some.is c.in-Word.is)
    (steps _ c.in_ok-width-in-Word.ensures (steps _ c.in_ok-memory-in-Word.ensures gives))

pub unary-returns-in-Name : goal.unary-returns-in-Name
unary-returns-in-Name t c = looks first (found _ c.next.ensures c.in-Some.is c.in-Name.is) c.name_or_memory.ensures

pub unary-returns-in-Op : goal.unary-returns-in-Op
unary-returns-in-Op t c = by_name (found _ c.next.ensures c.in-Some.is c.in-Op.is) c.named.ensures

pub unary-returns-in_err-literal-in_default-kind : goal.unary-returns-in_err-literal-in_default-kind
unary-returns-in_err-literal-in_default-kind t c =
    looks first (found _ c.next.ensures c.in-Some.is refl)
    (same_readers (λ fuel. first fuel (Some (lexeme_in c.args.self.now.tokens.now c.in-Some.kind))) (λ fuel. only_literal)
    (λ fuel.
    literal_first c.args.self.now.tokens.now c.in-Some.kind (pred fuel) (readers.operand (pred fuel)) c.in_default-kind.not-Name c.in_default-kind.not-Op
    c.in_default-kind.not-Word c.in_default-kind.not-Symbol)
    (stops _ c.in_err-literal-in_default-kind.ensures (search rules)))

pub unary-returns-in_ok-literal-in_default-kind : goal.unary-returns-in_ok-literal-in_default-kind
unary-returns-in_ok-literal-in_default-kind t c =
    looks first (found _ c.next.ensures c.in-Some.is refl)
    (same_readers (λ fuel. first fuel (Some (lexeme_in c.args.self.now.tokens.now c.in-Some.kind))) (λ fuel. only_literal)
    (λ fuel.
    literal_first c.args.self.now.tokens.now c.in-Some.kind (pred fuel) (readers.operand (pred fuel)) c.in_default-kind.not-Name c.in_default-kind.not-Op
    c.in_default-kind.not-Word c.in_default-kind.not-Symbol)
    (steps _ c.in_ok-literal-in_default-kind.ensures gives))

-- ---- operands and the operators between them

pub operand-returns-in_err-form : goal.operand-returns-in_err-form
operand-returns-in_err-form t c = operand_breaks c.args.level c.in_err-form.ensures (handed c.from_residual.ensures.1)

pub operand-loop-operator-init : goal.operand-loop-operator-init
operand-loop-operator-init t c = operand_starts c.args.level c.in_ok-form.ensures (c.in_ok-left.ensures ∙ ap (λ token. record { token = token; form = c.in_ok-form.form }) c.here-token.ensures)

pub operand-returns-in_err-operator : goal.operand-returns-in_err-operator
operand-returns-in_err-operator t c =
    climb_stops c.loop-operator.invariant (infix_seen c.loop-operator.invariant c.get.ensures c.next_infix.ensures c.in-Some.is) c.in_err-operator.ensures (handed c.from_residual-in_err-operator.ensures.1)

pub operand-returns-in_err-right : goal.operand-returns-in_err-right
operand-returns-in_err-right t c =
    let level = λ (n : ℕ) (fuel : ℕ). readers.operand fuel n in
    climb_breaks c.loop-operator.invariant (infix_seen c.loop-operator.invariant c.get.ensures c.next_infix.ensures c.in-Some.is) c.in_ok-operator.ensures
    (same_reader level (let e = c.level_of.ensures in omega arith) c.in_err-right.ensures) (handed c.from_residual-in_err-right.ensures.1)

pub operand-loop-operator-preserved : goal.operand-loop-operator-preserved
operand-loop-operator-preserved t c =
    let level = λ (n : ℕ) (fuel : ℕ). readers.operand fuel n in
    climb_turn c.loop-operator.invariant (infix_seen c.loop-operator.invariant c.get.ensures c.next_infix.ensures c.in-Some.is) c.in_ok-operator.ensures
    (same_reader level (let e = c.level_of.ensures in omega arith) c.in_ok-right.ensures) (search rules)

pub operand-returns : goal.operand-returns
operand-returns t c = climb_ends c.loop-operator.invariant (infix_seen c.loop-operator.invariant c.get.ensures c.next_infix.ensures (search rules))
