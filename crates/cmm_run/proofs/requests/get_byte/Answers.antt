use Rattle.std.proofs.Common.{ℕ, [], ◌∷◌, Option, refl, ap, ◌∙◌, subst}
use Rattle.cmm_abi.specs.declared.registers.TheConstants.{REQUEST_VALUE}
use Rattle.cmm_client.specs.Stops.{state_of}
use Rattle.rv_table.specs.Machine.{with_set}
use Rattle.cmm_run.specs.inside.Takes.{GivesNext}
use Rattle.cmm_run.proofs.Taking.{byte_taken, end_taken, takes_at_end}
use Rattle.cmm_run.proofs.Turning.{takes_none}
use Rattle.cmm_run.proofs.requests.get_byte.Goals as goal

-- the input has ended before: all ones, and no call
pub returns-then-machine-clause-asked : goal.returns-then-machine-clause-asked
returns-then-machine-clause-asked g c =
    let left = g.I.Source.left c.args.input.now in record {
      bytes = [];
      taken = takes_none left left c.args.machine.now.input_ended c.args.machine.now.input_ended refl refl;
      takes = λ rest may. takes_at_end _ _ rest (may c.if-machine.true) c.receive.ensures.state;
    }

pub returns-in-Ok-Some-clause-asked : goal.returns-in-Ok-Some-clause-asked
returns-in-Ok-Some-clause-asked g c =
    let before = g.I.Source.left c.args.input.now in
    let after = g.I.Source.left c.next_byte.new.input in
    let machine = c.args.machine.now in
    let byte = c.in-Ok-Some.byte in record {
      bytes = byte ∷ [];
      taken = byte_taken before after machine.input_ended machine.input_ended byte c.if-machine.false refl (subst (λ (given : Option ℕ). GivesNext before after given) c.in-Ok-Some.field-0-is c.in-Ok-Some.ensures.ok);
      takes = λ rest may. (
        c.receive-in-Ok-Some.ensures.state ∙ ap (λ (value : ℕ). with_set (state_of machine.program) REQUEST_VALUE value) c.from.ensures,
        refl,
      );
    }

-- it ends now, and stays so
pub returns-in-Ok-None-clause-asked : goal.returns-in-Ok-None-clause-asked
returns-in-Ok-None-clause-asked g c =
    let before = g.I.Source.left c.args.input.now in
    let after = g.I.Source.left c.next_byte.new.input in record {
      bytes = [];
      taken = end_taken before after c.args.machine.now.input_ended c.if-machine.false (subst (λ (given : Option ℕ). GivesNext before after given) c.in-Ok-None.field-0-is c.in-Ok-None.ensures.ok);
      takes = λ rest may. takes_at_end _ _ rest (may refl) c.receive-in-Ok-None.ensures.state;
    }

pub returns-in-Err-clause-asked : goal.returns-in-Err-clause-asked
returns-in-Err-clause-asked g c =
    let ended = c.args.machine.now.input_ended in record {
      bytes = [];
      taken = takes_none (g.I.Source.left c.args.input.now) (g.I.Source.left c.next_byte.new.input) ended ended c.in-Err.ensures.err refl;
      takes = λ rest may. (refl, refl);
    }
