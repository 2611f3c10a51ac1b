use Rattle.std.proofs.Common.{◌≡◌, ◌∷◌, [], rules}
use Rattle.cmm_grammar.specs.Reading as readers
use Rattle.cmm_parser.proofs.Steps.{handed, stops}
use Rattle.cmm_parser.proofs.Loops.{starts_after, comma_turn, comma_ends, comma_breaks}
use Rattle.cmm_parser.proofs.parser.Parser.commas.Goals as goal

pub returns-in_err-parse : goal.returns-in_err-parse
returns-in_err-parse g c = stops _ c.in_err-parse.ensures (handed c.from_residual.ensures.1)

pub loop-items-init : goal.loop-items-init
loop-items-init g c =
    let one : c.push.new.self ≡ c.in_ok-parse.field-0 ∷ [] = search rules in
    rw one (starts_after (λ a fuel turns. readers.more_commas turns (g.T.Listed.reads fuel) (a ∷ [])) c.in_ok-parse.ensures)

pub returns-in_err-parse-2 : goal.returns-in_err-parse-2
returns-in_err-parse-2 g c =
    comma_breaks c.loop-items.invariant (c.accept.ensures.taken c.loop-items-test.true) c.in_err-parse-2.ensures (handed c.from_residual-in_err-parse-2.ensures.1)

pub loop-items-preserved : goal.loop-items-preserved
loop-items-preserved g c =
    comma_turn c.loop-items.invariant (c.accept.ensures.taken c.loop-items-test.true) c.in_ok-parse-2.ensures c.in_ok-push-2.ensures.ok

pub returns : goal.returns
returns g c = comma_ends c.loop-items.invariant (c.accept.ensures.kept c.loop-items-test.false)
