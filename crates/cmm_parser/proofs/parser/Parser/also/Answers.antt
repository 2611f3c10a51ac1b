use Rattle.std.proofs.Common.{◌≡◌, List, Ok, Err, Result}
use Rattle.cmm_grammar.specs.Reading.{◌>>=◌, give, keyword, listed, ident, Point}
use Rattle.cmm_grammar.specs.PartReading.{is_any_name, names_to}
use Rattle.cmm_ast.specs.declared.token.Ident.{Ident}
use Rattle.cmm_ast.specs.declared.statement.FlowForm.{FlowForm}
use Rattle.cmm_parser.specs.declared.fault.Stop.{Stop}
use Rattle.cmm_lexer.specs.declared.keyword.Keyword.TheVariants.{To}
use Rattle.cmm_parser.specs.inside.Parsing.{Takes}
use Rattle.cmm_parser.proofs.Steps.{handed, steps, stops, gives, takes, leaves}
use Rattle.cmm_parser.proofs.CallSteps.{regroup}
use Rattle.cmm_ast.specs.declared.statement.FlowForm.TheVariants as flows
use Rattle.cmm_parser.proofs.parser.Parser.also.Goals as goal

-- the names after `to`, put into an annotation
named : {before after : Point} {names : List Ident} (make : List Ident → FlowForm) → Takes (λ fuel. keyword To >>= λ _. listed fuel is_any_name ident) before (Ok names) after →
    Takes (λ fuel. names_to fuel make) before (Ok (make names)) after
named make one =
    regroup (λ fuel. keyword To) (λ _ fuel. listed fuel is_any_name ident) (λ names fuel. give (make names)) (steps (λ names fuel. give (make names)) one gives)

unnamed : {before after : Point} {e : Stop} {result : Result FlowForm Stop} (make : List Ident → FlowForm) →
    Takes (λ fuel. keyword To >>= λ _. listed fuel is_any_name ident) before (Err e) after → result ≡ Err e → Takes (λ fuel. names_to fuel make) before result after
unnamed make one is =
    regroup (λ fuel. keyword To) (λ _ fuel. listed fuel is_any_name ident) (λ names fuel. give (make names)) (stops (λ names fuel. give (make names)) one is)

pub returns-in_err-names_to : goal.returns-in_err-names_to
returns-in_err-names_to c = leaves (c.accept_word.ensures.kept c.if-accept_word.false) (takes (c.accept_word-else-accept_word.ensures.taken c.if-accept_word-2.true) (unnamed flows.CutsTo c.in_err-names_to.ensures (handed c.from_residual.ensures.1)))

pub returns-in_err-names_to-2 : goal.returns-in_err-names_to-2
returns-in_err-names_to-2 c = leaves (c.accept_word.ensures.kept c.if-accept_word.false) (leaves (c.accept_word-else-accept_word.ensures.kept c.if-accept_word-2.false) (takes (c.accept_word-else-accept_word-2.ensures.taken c.if-accept_word-3.true) (unnamed flows.UnwindsTo c.in_err-names_to-2.ensures (handed c.from_residual-in_err-names_to-2.ensures.1))))

pub returns-in_err-names_to-3 : goal.returns-in_err-names_to-3
returns-in_err-names_to-3 c = leaves (c.accept_word.ensures.kept c.if-accept_word.false) (leaves (c.accept_word-else-accept_word.ensures.kept c.if-accept_word-2.false) (leaves (c.accept_word-else-accept_word-2.ensures.kept c.if-accept_word-3.false) (steps _ c.in_ok-expect_word.ensures (unnamed flows.ReturnsTo c.in_err-names_to-3.ensures (handed c.from_residual-in_err-names_to-3.ensures.1)))))

pub returns-in_ok-names_to : goal.returns-in_ok-names_to
returns-in_ok-names_to c = leaves (c.accept_word.ensures.kept c.if-accept_word.false) (takes (c.accept_word-else-accept_word.ensures.taken c.if-accept_word-2.true) (named flows.CutsTo c.in_ok-names_to.ensures))

pub returns-in_ok-names_to-2 : goal.returns-in_ok-names_to-2
returns-in_ok-names_to-2 c = leaves (c.accept_word.ensures.kept c.if-accept_word.false) (leaves (c.accept_word-else-accept_word.ensures.kept c.if-accept_word-2.false) (takes (c.accept_word-else-accept_word-2.ensures.taken c.if-accept_word-3.true) (named flows.UnwindsTo c.in_ok-names_to-2.ensures)))

pub returns-in_ok-names_to-3 : goal.returns-in_ok-names_to-3
returns-in_ok-names_to-3 c = leaves (c.accept_word.ensures.kept c.if-accept_word.false) (leaves (c.accept_word-else-accept_word.ensures.kept c.if-accept_word-2.false) (leaves (c.accept_word-else-accept_word-2.ensures.kept c.if-accept_word-3.false) (steps _ c.in_ok-expect_word.ensures (named flows.ReturnsTo c.in_ok-names_to-3.ensures))))
