use Rattle.std.proofs.Common.{get_or, sym, ap, ◌∙◌}
use Rattle.rv_table.specs.Machine.{State}
use Rattle.cmm_abi.specs.Regions.{Region, value_place, with_word}
use Rattle.rv_memory.specs.Regions.{region_of}
use Rattle.rv_memory.specs.States.{state_of}
use Rattle.cmm_resume.proofs.Fitting.{got_at}
use Rattle.cmm_resume.proofs.Putting.{one_more}
use Rattle.cmm_resume.proofs.values.put_values.Goals as goal

pub loop-k-preserved : goal.loop-k-preserved
loop-k-preserved c =
    let v = get_or c.args.values.now c.loop-k.k 0 in
    record {
      state = c.put_value.ensures.state
          ∙ ap (λ (r : Region). with_word (value_place r c.loop-k.k) v (state_of c.loop-k.r c.loop-k.m)) c.loop-k.invariant.region
          ∙ ap (λ (s : State). with_word (value_place (region_of c.args.m.now) c.loop-k.k) v s) c.loop-k.invariant.state
          ∙ sym (one_more (region_of c.args.m.now) c.args.values.now c.loop-k.k v (state_of c.args.r.now c.args.m.now) (got_at c.args.values.now c.loop-k.k c.loop-k-test.true));
      map = c.put_value.ensures.map ∙ c.loop-k.invariant.map;
      region = c.put_value.ensures.region ∙ c.loop-k.invariant.region;
    }
