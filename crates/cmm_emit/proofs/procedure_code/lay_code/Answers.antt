use Rattle.cmm_emit.proofs.Closing.{client_waits, is_whole, none_laid}
use Rattle.cmm_emit.specs.Outlines.{own}
use Rattle.cmm_emit.proofs.procedure_code.lay_code.Goals as goal

pub lay_procedures-requires-clause-codes : goal.lay_procedures-requires-clause-codes
lay_procedures-requires-clause-codes c =
    let p = c.args.program.now in
    let o = c.args.outline.now in
    none_laid p (own o p.procs) (own o c.args.graphs.now) o c.args.asm.now.parts c.requires.empty

pub lay_client-requires : goal.lay_client-requires
lay_client-requires c =
    let p = c.args.program.now in
    let o = c.args.outline.now in
    client_waits p (own o p.procs) (own o c.args.graphs.now) o (own o c.requires.outline.found) c.requires.outline.is_outline c.lay_procedures.new.asm.labels
    c.in_ok-lay_procedures.ensures.labels c.lay_limit.new.asm.labels c.in_ok-lay_limit.ensures.labels

pub returns : goal.returns
returns c =
    let p = c.args.program.now in
    let o = c.args.outline.now in
    let laid = c.in_ok-lay_procedures.ensures in
    let ends = c.in_ok-lay_limit.ensures in
    let calls = c.in_ok-lay_client.ensures in
    record {
      whole =
          is_whole p (own o p.procs) (own o c.args.graphs.now) o (own o c.requires.outline.found) c.requires.outline.is_outline c.lay_procedures.new.asm.labels c.lay_limit.new.asm.labels
          c.lay_client.new.asm.labels c.lay_procedures.new.asm.parts c.lay_limit.new.asm.parts c.lay_client.new.asm.parts laid.labels laid.codes ends.labels calls.labels ends.placed calls.placed ends.ends
          calls.calls ends.size calls.size;
    }
