use Rattle.cmm_emit.proofs.Mentioned.{none_mentioned}
use Rattle.cmm_emit.proofs.mentions.nothing.Goals as goal

pub returns : goal.returns
returns c =
    none_mentioned c.args.program.now _ c.len.result c.len-2.result c.len-3.result c.in_ok-new.ensures c.in_ok-new-2.ensures c.in_ok-new-3.ensures c.len.ensures c.len-2.ensures c.len-3.ensures
