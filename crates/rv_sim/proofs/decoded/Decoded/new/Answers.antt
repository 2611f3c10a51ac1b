use Rattle.std.proofs.Common.{◌≡◌, ◌∙◌, ◌+◌, ◌*◌, ◌≤◌, arith}
use Rattle.rv_table.specs.Machine.{code_base, data_base}
use Rattle.rv_sim.proofs.Tables.{front-more, front-table, front-whole}
use Rattle.rv_sim.proofs.decoded.Decoded.new.Goals as goal

pub loop-index-preserved : goal.loop-index-preserved
loop-index-preserved c =
    front-more c.args.m.now.code_bytes c.loop-index.index c.loop-index.table.items c.push.new.self.items c.instruction_in.result c.loop-index.invariant
    c.instruction_in.ensures.stands c.instruction_in.ensures.valid c.in_ok-push.ensures.items

pub invariant_of-result : goal.invariant_of-result
invariant_of-result c =
    let short : code_base + 4 * c.loop-index.index ≤ data_base = omega (arith, c.loop-index.auto.index-end, c.code_words-words.ensures.short) in
    front-table c.args.m.now.code_bytes c.loop-index.index c.loop-index.table.items c.loop-index.invariant short

pub returns : goal.returns
returns c =
    let all : c.loop-index.index ≡ c.code_words-words.result = omega (arith, c.loop-index.auto.index-end, c.loop-index-test.false) in
    front-whole c.args.m.now.code_bytes c.loop-index.index c.loop-index.table.items c.loop-index.invariant (all ∙ c.code_words-words.ensures.count)
