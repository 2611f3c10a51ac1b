use Rattle.std.proofs.Common.{sym, ap, subst, ◌∙◌}
use Rattle.std.specs.List.{All}
use Rattle.std.specs.Option.{option_copied}
use Rattle.cmm_script.specs.Limits.{GivesFew}
use Rattle.cmm_client.proofs.Blocks.{few_for, from_none, from_other, from_own}
use Rattle.cmm_client.proofs.block.commands_for.Goals as goal

pub returns-in-Some-clause-commands : goal.returns-in-Some-clause-commands
returns-in-Some-clause-commands c =
    c.as_slice.ensures ∙ from_own c.args.yielded.now c.args.script.now c.in-Some.block.now (sym c.own_block.ensures ∙ ap option_copied c.in-Some.is)

pub returns-in-Some-clause-few : goal.returns-in-Some-clause-few
returns-in-Some-clause-few c all = subst (All GivesFew) (sym (returns-in-Some-clause-commands c)) (few_for c.args.yielded.now c.args.script.now all)

pub returns-in-Some-block_of-clause-commands : goal.returns-in-Some-block_of-clause-commands
returns-in-Some-block_of-clause-commands c =
    c.as_slice-in-Some-block_of.ensures
    ∙ from_other c.args.yielded.now c.args.script.now c.in-Some-block_of.block.now (sym c.own_block.ensures ∙ ap option_copied c.in-None.is) (sym c.block_of.ensures ∙ ap option_copied c.in-Some-block_of.is)

pub returns-in-Some-block_of-clause-few : goal.returns-in-Some-block_of-clause-few
returns-in-Some-block_of-clause-few c all = subst (All GivesFew) (sym (returns-in-Some-block_of-clause-commands c)) (few_for c.args.yielded.now c.args.script.now all)

pub returns-in-None-block_of-clause-commands : goal.returns-in-None-block_of-clause-commands
returns-in-None-block_of-clause-commands c =
    from_none c.args.yielded.now c.args.script.now (sym c.own_block.ensures ∙ ap option_copied c.in-None.is) (sym c.block_of.ensures ∙ ap option_copied c.in-None-block_of.is)
