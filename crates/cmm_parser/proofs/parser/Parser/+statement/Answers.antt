use Rattle.std.proofs.Common.{◌∙◌, [], List, ap, rules, arith, ℕ}
use Rattle.cmm_lexer.specs.declared.symbol.Symbol.TheVariants.{OpenBrace, CloseBrace}
use Rattle.cmm_ast.specs.declared.statement.Arm.{Arm}
use Rattle.cmm_ast.specs.declared.statement.Otherwise.{Otherwise}
use Rattle.cmm_ast.specs.declared.statement.Otherwise.TheVariants.{Else, ElseIf}
use Rattle.cmm_ast.specs.declared.statement.Part.{Part}
use Rattle.cmm_ast.specs.declared.statement.Stmt.{Stmt}
use Rattle.cmm_ast.specs.declared.statement.StmtForm.{StmtForm}
use Rattle.cmm_grammar.specs.declared.told_apart.PartForm.{PartForm}
use Rattle.cmm_grammar.specs.Reading.{Reads, ◌>>=◌, give, here, many}
use Rattle.cmm_grammar.specs.StatementReading as readers
use Rattle.cmm_parser.specs.inside.Parsing.{chaining, point_of}
use Rattle.cmm_parser.proofs.Steps.{handed, loosely, steps, stops, halts, stopped, gives, gives_same, holds, fails, takes, leaves, brackets, stops_opening, stops_inside, stops_closing, brackets_below, stops_inside_below, stops_closing_below}
use Rattle.cmm_parser.proofs.Loops.{many_turn, many_ends, many_breaks}
use Rattle.cmm_parser.proofs.StatementSteps.{by_chain, by_depth, at_count, diagonal, after_here, encloses, stops_enclosed, by_turns, body_of, body_counts, block_counts, still_less, numbered_stmt, numbered_part}
use Rattle.cmm_parser.proofs.parser.Parser.+statement.Goals as goal

abbrev arms_of : ℕ → ℕ → Reads (List Arm)
arms_of depth fuel = many fuel readers.is_within (readers.arm fuel (readers.block depth)) []

-- ---- arms

abbrev arm_at : ℕ → ℕ → ℕ → Reads Arm
arm_at depth token fuel = readers.case fuel >>= λ what. readers.block depth >>= λ body. give (record { token = token; case = what; body = body })

pub arm-returns-in_err-case : goal.arm-returns-in_err-case
arm-returns-in_err-case t c =
    by_depth (λ depth less. after_here (arm_at depth) (stops _ c.in_err-case.ensures (handed c.from_residual.ensures.1)))

pub arm-returns-in_err-body : goal.arm-returns-in_err-body
arm-returns-in_err-body t c =
    by_depth (λ depth less.
    let taken = c.in_ok-case.ensures.taken in
    after_here (arm_at depth) (steps _ c.in_ok-case.ensures (stops _ (at_count depth (omega arith) c.in_err-body.ensures) (handed c.from_residual-in_err-body.ensures.1))))

pub arm-returns : goal.arm-returns
arm-returns t c =
    by_depth (λ depth less.
    let taken = c.in_ok-case.ensures.taken in
    after_here (arm_at depth)
    (steps _ c.in_ok-case.ensures (steps _ (at_count depth (omega arith) c.in_ok-body.ensures)
    (gives_same (ap (λ token. record { token = token; case = c.in_ok-case.case; body = c.in_ok-body.body }) c.here-token.ensures)))))

pub arms-returns-in_err-arm : goal.arms-returns-in_err-arm
arms-returns-in_err-arm t c =
    by_depth (λ depth less.
    let reached = c.loop-arms.invariant depth less in
    let fewer = reached.taken in
    many_breaks reached (c.is_within.ensures ∙ c.loop-arms-test.true) (c.in_err-arm.ensures.answers depth (omega arith)) (handed c.from_residual.ensures.1))

pub arms-loop-arms-preserved : goal.arms-loop-arms-preserved
arms-loop-arms-preserved t c =
    λ depth less.
    let reached = c.loop-arms.invariant depth less in
    let fewer = reached.taken in
    many_turn reached (c.is_within.ensures ∙ c.loop-arms-test.true) (c.in_ok-arm.ensures.answers depth (omega arith)) c.in_ok-push.ensures.ok

pub arms-returns : goal.arms-returns
arms-returns t c =
    by_depth (λ depth less. many_ends (c.loop-arms.invariant depth less) (c.is_within.ensures ∙ c.loop-arms-test.false))

-- ---- the parts of a block

pub body-returns-in_err-part : goal.body-returns-in_err-part
body-returns-in_err-part t c =
    by_depth (λ depth less.
    let reached = c.loop-parts.invariant depth less in
    let fewer = reached.taken in
    many_breaks reached (c.is_within.ensures ∙ c.loop-parts-test.true) (c.in_err-part.ensures.answers depth (omega arith)) (handed c.from_residual.ensures.1))

pub body-loop-parts-preserved : goal.body-loop-parts-preserved
body-loop-parts-preserved t c =
    λ depth less.
    let reached = c.loop-parts.invariant depth less in
    let fewer = reached.taken in
    many_turn reached (c.is_within.ensures ∙ c.loop-parts-test.true) (c.in_ok-part.ensures.answers depth (omega arith)) c.in_ok-add.ensures

pub body-returns : goal.body-returns
body-returns t c =
    by_depth (λ depth less. many_ends (c.loop-parts.invariant depth less) (c.is_within.ensures ∙ c.loop-parts-test.false))

-- ---- blocks

pub block-returns-in_err-parts : goal.block-returns-in_err-parts
block-returns-in_err-parts t c =
    block_counts
    (stops _
    (stops_inside_below body_of OpenBrace CloseBrace c.in_ok-outside.ensures (body_counts c.in_err-parts.ensures.answers))
    (handed c.from_residual-in_err-parts.ensures.1))

pub block-returns-in_err-leave : goal.block-returns-in_err-leave
block-returns-in_err-leave t c =
    block_counts
    (stops _
    (stops_closing_below body_of OpenBrace CloseBrace c.in_ok-outside.ensures
    (body_counts c.in_ok-parts.ensures.answers) c.in_err-leave.ensures)
    (handed c.from_residual-in_err-leave.ensures.1))

pub block-returns : goal.block-returns
block-returns t c =
    block_counts
    (steps _
    (brackets_below body_of OpenBrace CloseBrace c.in_ok-outside.ensures
    (body_counts c.in_ok-parts.ensures.answers) c.in_ok-leave.ensures)
    gives)

-- ---- `if`

abbrev chosen_if : ℕ → ℕ → ℕ → Reads StmtForm
chosen_if depth turns fuel = readers.if_form fuel (readers.block depth) (readers.otherwise turns fuel (readers.block depth))

abbrev chain_at : ℕ → ℕ → ℕ → ℕ → Reads Stmt
chain_at turns depth token fuel =
    chaining >>= λ _. readers.if_form fuel (readers.block depth) (readers.otherwise turns fuel (readers.block depth)) >>= λ form. here >>= λ past.
    give (record { token = token; past = past; form = form })

abbrev chain_past : ℕ → StmtForm → ℕ → ℕ → Reads Stmt
chain_past token form past fuel = give (record { token = token; past = past; form = form })

pub chained-returns-in_err-form : goal.chained-returns-in_err-form
chained-returns-in_err-form t c =
    by_chain (λ turns depth lt ld.
    let taken = c.in_ok-outside.ensures.answers.taken in
    stopped
    (stops_enclosed (after_here (chain_at turns depth)
    (steps _ c.in_ok-outside.ensures.answers (halts _ (c.in_err-form.ensures.answers turns depth (omega arith) (omega arith))))))
    (handed c.from_residual-in_err-form.ensures.1))

pub chained-returns : goal.chained-returns
chained-returns t c =
    by_chain (λ turns depth lt ld.
    let taken = c.in_ok-outside.ensures.answers.taken in
    encloses
    (after_here (chain_at turns depth)
    (steps _ c.in_ok-outside.ensures.answers
    (steps _ (c.in_ok-form.ensures.answers turns depth (omega arith) (omega arith))
    (after_here (chain_past (point_of c.args.self.now).taken c.in_ok-form.form)
    (gives_same (c.in_ok-boxed_stmt.ensures ∙ numbered_stmt _ _ _ _ c.in_ok-form.form c.here-token.ensures c.here-past.ensures))))))
    c.in_ok-outside.ensures.outside c.close.ensures)

pub if_form-returns-in_err-condition : goal.if_form-returns-in_err-condition
if_form-returns-in_err-condition t c =
    by_chain (λ turns depth lt ld. stops _ c.in_err-condition.ensures (handed c.from_residual.ensures.1))

pub if_form-returns-in_err-then : goal.if_form-returns-in_err-then
if_form-returns-in_err-then t c =
    by_chain (λ turns depth lt ld.
    let taken = c.in_ok-condition.ensures.taken in
    steps _ c.in_ok-condition.ensures (stops _ (at_count depth (omega arith) c.in_err-then.ensures) (handed c.from_residual-in_err-then.ensures.1)))

pub if_form-returns-in_err-otherwise : goal.if_form-returns-in_err-otherwise
if_form-returns-in_err-otherwise t c =
    by_chain (λ turns depth lt ld.
    let taken = c.in_ok-condition.ensures.taken in
    let more = c.in_ok-then.ensures.taken in
    steps _ c.in_ok-condition.ensures
    (steps _ (at_count depth (omega arith) c.in_ok-then.ensures)
    (stops _ (c.in_err-otherwise.ensures.answers turns depth (omega arith) (omega arith)) (handed c.from_residual-in_err-otherwise.ensures.1))))

pub if_form-returns : goal.if_form-returns
if_form-returns t c =
    by_chain (λ turns depth lt ld.
    let taken = c.in_ok-condition.ensures.taken in
    let more = c.in_ok-then.ensures.taken in
    steps _ c.in_ok-condition.ensures
    (steps _ (at_count depth (omega arith) c.in_ok-then.ensures) (steps _ (c.in_ok-otherwise.ensures.answers turns depth (omega arith) (omega arith)) (gives_same c.in_ok-boxed_if.ensures))))

abbrev block_to : ℕ → ℕ → Reads Otherwise
block_to depth fuel = readers.block depth >>= λ body. give (Else body)

abbrev chained_to : ℕ → ℕ → ℕ → Reads Otherwise
chained_to depth turns fuel = readers.chained (chosen_if depth turns fuel) >>= λ s. give (ElseIf s)

pub otherwise-returns-in_err-block : goal.otherwise-returns-in_err-block
otherwise-returns-in_err-block t c =
    by_chain (λ turns depth lt ld. loosely (
    let taken = (c.accept_word.ensures.taken c.if-accept_word.true).fewer in
    by_turns turns (readers.block depth) lt (λ fewer less.
    takes (c.accept_word.ensures.taken c.if-accept_word.true)
    (holds {no_ = chained_to depth fewer} (c.is_symbol.ensures ∙ c.if-is_symbol.true)
    (stops (λ body fuel. give (Else body)) (at_count depth (omega arith) c.in_err-block.ensures) (handed c.from_residual.ensures.1))))))

pub otherwise-returns-then-is_symbol : goal.otherwise-returns-then-is_symbol
otherwise-returns-then-is_symbol t c =
    by_chain (λ turns depth lt ld. loosely (
    let taken = (c.accept_word.ensures.taken c.if-accept_word.true).fewer in
    by_turns turns (readers.block depth) lt (λ fewer less.
    takes (c.accept_word.ensures.taken c.if-accept_word.true)
    (holds {no_ = chained_to depth fewer} (c.is_symbol.ensures ∙ c.if-is_symbol.true)
    (steps (λ body fuel. give (Else body)) (at_count depth (omega arith) c.in_ok-block.ensures) gives)))))

pub otherwise-returns-in_err-chained : goal.otherwise-returns-in_err-chained
otherwise-returns-in_err-chained t c =
    by_chain (λ turns depth lt ld. loosely (
    let taken = (c.accept_word.ensures.taken c.if-accept_word.true).fewer in
    by_turns turns (readers.block depth) lt (λ fewer less.
    takes (c.accept_word.ensures.taken c.if-accept_word.true)
    (fails {yes_ = block_to depth} (c.is_symbol.ensures ∙ c.if-is_symbol.false)
    (stops (λ s fuel. give (ElseIf s)) (c.in_err-chained.ensures.answers fewer depth (omega arith) (omega arith)) (handed c.from_residual-in_err-chained.ensures.1))))))

pub otherwise-returns-then-accept_word : goal.otherwise-returns-then-accept_word
otherwise-returns-then-accept_word t c =
    by_chain (λ turns depth lt ld. loosely (
    let taken = (c.accept_word.ensures.taken c.if-accept_word.true).fewer in
    by_turns turns (readers.block depth) lt (λ fewer less.
    takes (c.accept_word.ensures.taken c.if-accept_word.true)
    (fails {yes_ = block_to depth} (c.is_symbol.ensures ∙ c.if-is_symbol.false)
    (steps (λ s fuel. give (ElseIf s)) (c.in_ok-chained.ensures.answers fewer depth (omega arith) (omega arith)) (gives_same (search rules)))))))

pub otherwise-returns : goal.otherwise-returns
otherwise-returns t c =
    by_chain (λ turns depth lt ld. by_turns turns (readers.block depth) lt (λ fewer less. leaves (c.accept_word.ensures.kept c.if-accept_word.false) gives))

-- ---- parts

abbrev part_at : ℕ → ℕ → ℕ → Reads Part
part_at depth token fuel = readers.part_form fuel (readers.block depth) >>= λ form. here >>= λ past. give (readers.part_of token past form)

abbrev part_past : ℕ → PartForm → ℕ → ℕ → Reads Part
part_past token form past fuel = give (readers.part_of token past form)

pub part-returns-in_err-form : goal.part-returns-in_err-form
part-returns-in_err-form t c =
    by_depth (λ depth less. after_here (part_at depth) (stops _ (c.in_err-form.ensures.answers depth less) (handed c.from_residual.ensures.1)))

pub part-returns : goal.part-returns
part-returns t c =
    by_depth (λ depth less.
    after_here (part_at depth)
    (steps _ (c.in_ok-form.ensures.answers depth less)
    (after_here (part_past (point_of c.args.self.now).taken c.in_ok-form.form)
    (gives_same (c.in_ok-boxed_part.ensures ∙ numbered_part _ _ _ _ c.in_ok-form.form c.here-token.ensures c.here-past.ensures)))))

pub part_form-returns-in_err-if_form : goal.part_form-returns-in_err-if_form
part_form-returns-in_err-if_form t c =
    by_depth (λ depth less.
    let taken = (c.accept_word.ensures.taken c.if-accept_word.true).fewer in
    takes (c.accept_word.ensures.taken c.if-accept_word.true)
    (stops _ (diagonal (chosen_if depth) (λ turns under. c.in_err-if_form.ensures.answers turns depth under (omega arith))) (handed c.from_residual.ensures.1)))

pub part_form-returns-in_err-switch_form : goal.part_form-returns-in_err-switch_form
part_form-returns-in_err-switch_form t c =
    by_depth (λ depth less.
    let no_if = c.accept_word.ensures.kept c.if-accept_word.false in
    let switch = c.accept_word-else-accept_word.ensures.taken c.if-accept_word-2.true in
    let taken = switch.fewer in
    let still = still_less depth no_if less in
    leaves no_if (takes switch (stops _ (c.in_err-switch_form.ensures.answers depth (omega arith)) (handed c.from_residual-in_err-switch_form.ensures.1))))

pub part_form-returns-in_err-span_form : goal.part_form-returns-in_err-span_form
part_form-returns-in_err-span_form t c =
    by_depth (λ depth less.
    let no_if = c.accept_word.ensures.kept c.if-accept_word.false in
    let no_switch = c.accept_word-else-accept_word.ensures.kept c.if-accept_word-2.false in
    let span = c.accept_word-else-accept_word-2.ensures.taken c.if-accept_word-3.true in
    let taken = span.fewer in
    let still = still_less depth no_switch (still_less depth no_if less) in
    leaves no_if (leaves no_switch (takes span (stops _ (c.in_err-span_form.ensures.answers depth (omega arith)) (handed c.from_residual-in_err-span_form.ensures.1)))))

pub part_form-returns-in_ok-of_stmt : goal.part_form-returns-in_ok-of_stmt
part_form-returns-in_ok-of_stmt t c =
    by_depth (λ depth less.
    let taken = (c.accept_word.ensures.taken c.if-accept_word.true).fewer in
    takes (c.accept_word.ensures.taken c.if-accept_word.true)
    (steps _ (diagonal (chosen_if depth) (λ turns under. c.in_ok-if_form.ensures.answers turns depth under (omega arith))) (gives_same c.in_ok-of_stmt.ensures)))

pub part_form-returns-in_ok-of_stmt-2 : goal.part_form-returns-in_ok-of_stmt-2
part_form-returns-in_ok-of_stmt-2 t c =
    by_depth (λ depth less.
    let no_if = c.accept_word.ensures.kept c.if-accept_word.false in
    let switch = c.accept_word-else-accept_word.ensures.taken c.if-accept_word-2.true in
    let taken = switch.fewer in
    let still = still_less depth no_if less in
    leaves no_if (takes switch (steps _ (c.in_ok-switch_form.ensures.answers depth (omega arith)) (gives_same c.in_ok-of_stmt-2.ensures))))

pub part_form-returns-in_ok-of_stmt-3 : goal.part_form-returns-in_ok-of_stmt-3
part_form-returns-in_ok-of_stmt-3 t c =
    by_depth (λ depth less.
    let no_if = c.accept_word.ensures.kept c.if-accept_word.false in
    let no_switch = c.accept_word-else-accept_word.ensures.kept c.if-accept_word-2.false in
    let span = c.accept_word-else-accept_word-2.ensures.taken c.if-accept_word-3.true in
    let taken = span.fewer in
    let still = still_less depth no_switch (still_less depth no_if less) in
    leaves no_if (leaves no_switch (takes span (steps _ (c.in_ok-span_form.ensures.answers depth (omega arith)) (gives_same c.in_ok-of_stmt-3.ensures)))))

-- ---- `span`

pub span_form-returns-in_err-key : goal.span_form-returns-in_err-key
span_form-returns-in_err-key t c =
    by_depth (λ depth less. stops _ c.in_err-key.ensures (handed c.from_residual.ensures.1))

pub span_form-returns-in_err-value : goal.span_form-returns-in_err-value
span_form-returns-in_err-value t c =
    by_depth (λ depth less. steps _ c.in_ok-key.ensures (stops _ c.in_err-value.ensures (handed c.from_residual-in_err-value.ensures.1)))

pub span_form-returns-in_err-body : goal.span_form-returns-in_err-body
span_form-returns-in_err-body t c =
    by_depth (λ depth less.
    let taken = c.in_ok-key.ensures.taken in
    let more = c.in_ok-value.ensures.taken in
    steps _ c.in_ok-key.ensures
    (steps _ c.in_ok-value.ensures (stops _ (at_count depth (omega arith) c.in_err-body.ensures) (handed c.from_residual-in_err-body.ensures.1))))

pub span_form-returns : goal.span_form-returns
span_form-returns t c =
    by_depth (λ depth less.
    let taken = c.in_ok-key.ensures.taken in
    let more = c.in_ok-value.ensures.taken in
    steps _ c.in_ok-key.ensures (steps _ c.in_ok-value.ensures (steps _ (at_count depth (omega arith) c.in_ok-body.ensures) (gives_same c.in_ok-boxed_span.ensures))))

-- ---- `switch`

pub switch_form-returns-in_err-range : goal.switch_form-returns-in_err-range
switch_form-returns-in_err-range t c =
    by_depth (λ depth less. stops _ c.in_err-range.ensures (handed c.from_residual.ensures.1))

pub switch_form-returns-in_err-value : goal.switch_form-returns-in_err-value
switch_form-returns-in_err-value t c =
    by_depth (λ depth less.
    steps _ c.in_ok-range.ensures (stops _ c.in_err-value.ensures (handed c.from_residual-in_err-value.ensures.1)))

pub switch_form-braced_arms-requires : goal.switch_form-braced_arms-requires
switch_form-braced_arms-requires t c =
    let range = c.in_ok-range.ensures.taken in
    let taken = c.in_ok-value.ensures.taken in
    search rules

pub switch_form-returns-in_err-arms : goal.switch_form-returns-in_err-arms
switch_form-returns-in_err-arms t c =
    by_depth (λ depth less.
    let range = c.in_ok-range.ensures.taken in
    let taken = c.in_ok-value.ensures.taken in
    steps _ c.in_ok-range.ensures
    (steps _ c.in_ok-value.ensures (stops _ (c.in_err-arms.ensures.answers depth (omega arith)) (handed c.from_residual-in_err-arms.ensures.1))))

pub switch_form-returns : goal.switch_form-returns
switch_form-returns t c =
    by_depth (λ depth less.
    let range = c.in_ok-range.ensures.taken in
    let taken = c.in_ok-value.ensures.taken in
    steps _ c.in_ok-range.ensures
    (steps _ c.in_ok-value.ensures (steps _ (c.in_ok-arms.ensures.answers depth (omega arith)) (gives_same c.in_ok-boxed_switch.ensures))))

pub braced_arms-returns-in_err-outside : goal.braced_arms-returns-in_err-outside
braced_arms-returns-in_err-outside t c =
    by_depth (λ depth less. stopped (stops_opening (arms_of depth) OpenBrace CloseBrace c.in_err-outside.ensures) (handed c.from_residual.ensures.1))

pub braced_arms-returns-in_err-arms : goal.braced_arms-returns-in_err-arms
braced_arms-returns-in_err-arms t c =
    by_depth (λ depth less.
    let bracket = c.in_ok-outside.ensures.answers.taken in
    stopped
    (stops_inside OpenBrace CloseBrace c.in_ok-outside.ensures (c.in_err-arms.ensures.answers depth (omega arith)))
    (handed c.from_residual-in_err-arms.ensures.1))

pub braced_arms-returns-in_err-leave : goal.braced_arms-returns-in_err-leave
braced_arms-returns-in_err-leave t c =
    by_depth (λ depth less.
    let bracket = c.in_ok-outside.ensures.answers.taken in
    stopped
    (stops_closing OpenBrace CloseBrace c.in_ok-outside.ensures (c.in_ok-arms.ensures.answers depth (omega arith)) c.in_err-leave.ensures)
    (handed c.from_residual-in_err-leave.ensures.1))

pub braced_arms-returns : goal.braced_arms-returns
braced_arms-returns t c =
    by_depth (λ depth less.
    let bracket = c.in_ok-outside.ensures.answers.taken in
    brackets OpenBrace CloseBrace c.in_ok-outside.ensures (c.in_ok-arms.ensures.answers depth (omega arith)) c.in_ok-leave.ensures)
