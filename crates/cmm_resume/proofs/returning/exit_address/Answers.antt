use Rattle.std.proofs.Common.{◌≡◌, ◌+◌, ◌*◌, ◌≤◌, ℕ, List, Ok, sym, ap, ◌∙◌, arith}
use Rattle.rv_table.specs.Machine.{State}
use Rattle.cmm_abi.specs.declared.registers.TheConstants.{RETURN_ADDRESS}
use Rattle.cmm_abi.specs.Regions.{Region, with_values}
use Rattle.cmm_image.specs.declared.rows.SiteRow.{SiteRow}
use Rattle.cmm_image_machine.specs.Changes.{at_pc, return_widths}
use Rattle.cmm_walk.specs.Activations.{element_of}
use Rattle.cmm_script.specs.Lines.{resume_line}
use Rattle.cmm_program.specs.Commands.{Resumes}
use Rattle.cmm_resume.proofs.Answering.{resumed_err, resumed_ok}
use Rattle.cmm_resume.proofs.Tables.{returns_low}
use Rattle.cmm_resume.proofs.returning.exit_address.Goals as goal

-- the state once the activation goes on at an exit
abbrev on_at : Region → State → ℕ → List ℕ → State
on_at r s exit values = at_pc (s.registers RETURN_ADDRESS + 4 * exit) (with_values r values s)

pub overflow_add-result : goal.overflow_add-result
overflow_add-result c =
    let low = returns_low c.args.i.now c.site_at.ensures.kept c.args.a.now.site c.requires.site in
    let near : c.args.exit ≤ 64 = rw c.in-Ok.is at c.check_return.ensures.near in
    rw (c.site_at.ensures.row, c.from.ensures) (omega (arith, low, near))

pub returns-in-Ok-clause-finds : goal.returns-in-Ok-clause-finds
returns-in-Ok-clause-finds c r s youngest =
    let e = element_of c.args.i.now c.args.a.now in
    let exit = c.args.exit in
    let values = c.args.values.now in
    let address : c.site_at.result.now.return_address + 4 * c.from.result ≡ s.registers RETURN_ADDRESS + 4 * exit =
    ap (λ (t : SiteRow). t.return_address + 4 * c.from.result) c.site_at.ensures.row ∙ ap (λ n. n + 4 * c.from.result) youngest ∙ ap (λ n. s.registers RETURN_ADDRESS + 4 * n) c.from.ensures in
    resumed_ok (on_at r s exit) (return_widths e exit) values (sym c.check_return.ensures.checked ∙ c.in-Ok.is)
    ∙ ap (λ n. Ok record { text = resume_line; after = Resumes (at_pc n (with_values r values s)) }) (sym address)

pub returns-in-Err-clause-finds : goal.returns-in-Err-clause-finds
returns-in-Err-clause-finds c r s youngest =
    resumed_err (on_at r s c.args.exit) (return_widths (element_of c.args.i.now c.args.a.now) c.args.exit) c.args.values.now c.in-Err.rule (sym c.check_return.ensures.checked ∙ c.in-Err.is)
