use Rattle.std.proofs.Common.{◌∙◌}
use Rattle.cmm_grammar.specs.CallReading.{call_after}
use Rattle.cmm_parser.proofs.Steps.{holds, takes, leaves, same_reader}
use Rattle.cmm_parser.proofs.parser.Parser.word_stmt.Goals as goal

pub returns-then-accept_word : goal.returns-then-accept_word
returns-then-accept_word c = takes (c.accept_word.ensures.taken c.if-accept_word.true) (c.return_form.ensures)

pub returns-then-accept_word-2 : goal.returns-then-accept_word-2
returns-then-accept_word-2 c = leaves (c.accept_word.ensures.kept c.if-accept_word.false) (takes (c.accept_word-else-accept_word.ensures.taken c.if-accept_word-2.true) (c.goto.ensures))

pub returns-then-accept_word-3 : goal.returns-then-accept_word-3
returns-then-accept_word-3 c = leaves (c.accept_word.ensures.kept c.if-accept_word.false) (leaves (c.accept_word-else-accept_word.ensures.kept c.if-accept_word-2.false) (takes (c.accept_word-else-accept_word-2.ensures.taken c.if-accept_word-3.true) (c.jump.ensures)))

pub returns-then-accept_word-4 : goal.returns-then-accept_word-4
returns-then-accept_word-4 c = leaves (c.accept_word.ensures.kept c.if-accept_word.false) (leaves (c.accept_word-else-accept_word.ensures.kept c.if-accept_word-2.false) (leaves (c.accept_word-else-accept_word-2.ensures.kept c.if-accept_word-3.false) (takes (c.accept_word-else-accept_word-3.ensures.taken c.if-accept_word-4.true) (c.cut.ensures))))

pub returns-then-accept_word-5 : goal.returns-then-accept_word-5
returns-then-accept_word-5 c = leaves (c.accept_word.ensures.kept c.if-accept_word.false) (leaves (c.accept_word-else-accept_word.ensures.kept c.if-accept_word-2.false) (leaves (c.accept_word-else-accept_word-2.ensures.kept c.if-accept_word-3.false) (leaves (c.accept_word-else-accept_word-3.ensures.kept c.if-accept_word-4.false) (takes (c.accept_word-else-accept_word-4.ensures.taken c.if-accept_word-5.true) (c.continuation.ensures)))))

pub returns-then-is_word : goal.returns-then-is_word
returns-then-is_word c = leaves (c.accept_word.ensures.kept c.if-accept_word.false) (leaves (c.accept_word-else-accept_word.ensures.kept c.if-accept_word-2.false) (leaves (c.accept_word-else-accept_word-2.ensures.kept c.if-accept_word-3.false) (leaves (c.accept_word-else-accept_word-3.ensures.kept c.if-accept_word-4.false) (leaves (c.accept_word-else-accept_word-4.ensures.kept c.if-accept_word-5.false) (holds (c.is_word.ensures ∙ c.if-is_word.true) (same_reader (λ results fuel. call_after fuel results) c.new.ensures c.call_after.ensures))))))
