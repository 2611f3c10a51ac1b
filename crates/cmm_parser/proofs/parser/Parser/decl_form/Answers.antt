use Rattle.cmm_parser.proofs.Steps.{takes, leaves}
use Rattle.cmm_parser.proofs.parser.Parser.decl_form.Goals as goal

pub returns-then-accept_word : goal.returns-then-accept_word
returns-then-accept_word c = takes (c.accept_word.ensures.taken c.if-accept_word.true) c.imports.ensures

pub returns-then-accept_word-2 : goal.returns-then-accept_word-2
returns-then-accept_word-2 c =
    leaves (c.accept_word.ensures.kept c.if-accept_word.false) (takes (c.accept_word-2.ensures.taken c.if-accept_word-2.true) c.exports.ensures)

pub returns-then-accept_word-3 : goal.returns-then-accept_word-3
returns-then-accept_word-3 c =
    leaves (c.accept_word.ensures.kept c.if-accept_word.false)
    (leaves (c.accept_word-2.ensures.kept c.if-accept_word-2.false)
    (takes (c.accept_word-3.ensures.taken c.if-accept_word-3.true) c.constant.ensures))
