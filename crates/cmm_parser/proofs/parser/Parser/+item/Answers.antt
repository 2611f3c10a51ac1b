use Rattle.std.proofs.Common.{◌∙◌, ℕ, pred}
use Rattle.cmm_lexer.specs.declared.keyword.Keyword.TheVariants.{Span as SpanWord}
use Rattle.cmm_lexer.specs.declared.symbol.Symbol.TheVariants.{OpenBrace, CloseBrace}
use Rattle.cmm_ast.specs.declared.unit.Item.{Item}
use Rattle.cmm_ast.specs.declared.unit.Item.TheVariants.{Span}
use Rattle.cmm_grammar.specs.Reading.{Reads, ◌>>=◌, give, keyword}
use Rattle.cmm_grammar.specs.ExpressionReading.{whole, whole_prim}
use Rattle.cmm_grammar.specs.StatementReading.{block}
use Rattle.cmm_grammar.specs.UnitReading.{in_braces, item}
use Rattle.cmm_parser.proofs.Steps.{handed, steps, steps_below, stops, holds, fails, gives, brackets, stopped, stops_inside, stops_closing}
use Rattle.cmm_parser.proofs.Loops.{many_turn, many_ends, many_breaks}
use Rattle.cmm_parser.proofs.DeclarationSteps.{from_here, item_turned}
use Rattle.cmm_parser.proofs.parser.Parser.+item.Goals as goal

-- ---- items in their braces

pub items-returns-in_err-item : goal.items-returns-in_err-item
items-returns-in_err-item t c =
    many_breaks c.loop-items.invariant (c.is_within.ensures ∙ c.loop-items-test.true) c.in_err-item.ensures (handed c.from_residual.ensures.1)

pub items-loop-items-preserved : goal.items-loop-items-preserved
items-loop-items-preserved t c =
    many_turn c.loop-items.invariant (c.is_within.ensures ∙ c.loop-items-test.true) c.in_ok-item.ensures c.in_ok-push.ensures.ok

pub items-returns : goal.items-returns
items-returns t c = many_ends c.loop-items.invariant (c.is_within.ensures ∙ c.loop-items-test.false)

pub in_braces-returns-in_err-items : goal.in_braces-returns-in_err-items
in_braces-returns-in_err-items t c =
    stopped (stops_inside OpenBrace CloseBrace c.in_ok-outside.ensures c.in_err-items.ensures) (handed c.from_residual-in_err-items.ensures.1)

pub in_braces-returns-in_err-leave : goal.in_braces-returns-in_err-leave
in_braces-returns-in_err-leave t c =
    stopped
    (stops_closing OpenBrace CloseBrace c.in_ok-outside.ensures c.in_ok-items.ensures c.in_err-leave.ensures)
    (handed c.from_residual-in_err-leave.ensures.1)

pub in_braces-returns : goal.in_braces-returns
in_braces-returns t c =
    brackets OpenBrace CloseBrace c.in_ok-outside.ensures c.in_ok-items.ensures c.in_ok-leave.ensures

-- ---- spans

abbrev after_word : ℕ → ℕ → Reads Item
after_word token fuel = whole_prim fuel >>= λ key. whole fuel >>= λ value. in_braces fuel (item fuel block) >>= λ inside. give (Span token key value inside)

abbrev span_at : ℕ → ℕ → Reads Item
span_at token fuel = keyword SpanWord >>= λ _. after_word token (pred fuel)

pub span-returns-in_err-expect_word : goal.span-returns-in_err-expect_word
span-returns-in_err-expect_word t c = from_here span_at c.here-token.ensures (stops _ c.in_err-expect_word.ensures (handed c.from_residual.ensures.1))

pub span-returns-in_err-key : goal.span-returns-in_err-key
span-returns-in_err-key t c =
    from_here span_at c.here-token.ensures
    (steps_below (λ _. after_word c.here-token.result) c.in_ok-expect_word.ensures
    (stops _ c.in_err-key.ensures (handed c.from_residual-in_err-key.ensures.1)))

pub span-returns-in_err-value : goal.span-returns-in_err-value
span-returns-in_err-value t c =
    from_here span_at c.here-token.ensures
    (steps_below (λ _. after_word c.here-token.result) c.in_ok-expect_word.ensures
    (steps _ c.in_ok-key.ensures (stops _ c.in_err-value.ensures (handed c.from_residual-in_err-value.ensures.1))))

pub span-returns-in_err-items : goal.span-returns-in_err-items
span-returns-in_err-items t c =
    from_here span_at c.here-token.ensures
    (steps_below (λ _. after_word c.here-token.result) c.in_ok-expect_word.ensures
    (steps _ c.in_ok-key.ensures (steps _ c.in_ok-value.ensures (stops _ c.in_err-items.ensures (handed c.from_residual-in_err-items.ensures.1)))))

pub span-returns : goal.span-returns
span-returns t c =
    from_here span_at c.here-token.ensures
    (steps_below (λ _. after_word c.here-token.result) c.in_ok-expect_word.ensures
    (steps _ c.in_ok-key.ensures (steps _ c.in_ok-value.ensures (steps _ c.in_ok-items.ensures gives))))

-- ---- any item

pub item-returns-then-is_word : goal.item-returns-then-is_word
item-returns-then-is_word t c = item_turned (holds (c.is_word.ensures ∙ c.if-is_word.true) c.span.ensures)

pub item-returns : goal.item-returns
item-returns t c = item_turned (fails (c.is_word.ensures ∙ c.if-is_word.false) c.flat_item.ensures)
