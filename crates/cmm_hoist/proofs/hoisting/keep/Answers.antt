use Rattle.cmm_hoist.proofs.Hoisted.{entry_stays, hoisted}
use Rattle.cmm_hoist.proofs.hoisting.keep.Goals as goal

pub set_entry-requires : goal.set_entry-requires
set_entry-requires c =
    let found = c.args.found in
    let begins = c.requires.begins in
    record {
      tokens = found.tokens;
      formals = begins.variables;
      next = found.next;
      node = entry_stays c.args.g found begins c.args.kept.now c.stand_for_all.new.nodes c.push_chain.new.nodes c.stand_for_all.ensures c.in_ok-start.ensures.pushed;
    }

pub returns : goal.returns
returns c =
    let g = c.args.g in
    let found = c.args.found in
    let begins = c.requires.begins in
    let kept = c.args.kept.now in
    let others = c.stand_for_all.new.nodes in
    let nodes = c.push_chain.new.nodes in
    let stand = c.stand_for_all.ensures in
    let pushed = c.in_ok-start.ensures.pushed in
    let written = c.in_ok-set_entry.ensures record {
      tokens = found.tokens;
      formals = begins.variables;
      next = found.next;
      node = entry_stays g found begins kept others nodes stand pushed;
    } in
    hoisted g found begins kept others nodes stand pushed c.args.tokens c.in_ok-start.start c.set_entry.new.g c.in_ok-start.ensures.start written
    c.requires.named c.requires.few c.requires.shared c.requires.covered
