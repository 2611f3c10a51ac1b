use Rattle.std.proofs.Common.{◌≡◌, ◌∙◌, subst, ℕ, List}
use Rattle.cmm_program.specs.declared.program.Program.{Program}
use Rattle.cmm_program.specs.Layout.{label_addresses}
use Rattle.cmm_unit_code.specs.Joined.{IsJoined, IsTextOf}
use Rattle.cmm_unit_code.specs.declared.text.Text.{Text}
use Rattle.cmm_unit_code.specs.declared.unit_code.ProgramCode.{ProgramCode}
use Rattle.cmm_link.proofs.linking.link.Goals as goal

-- what was joined by the addresses of the program's labels
as_text : (p : Program) (code : ProgramCode) (t : Text) (addresses : List ℕ) → addresses ≡ label_addresses p → IsJoined addresses code.units code.last t → IsTextOf p code t
as_text p code t addresses are joined = subst (λ (ns : List ℕ). IsJoined ns code.units code.last t) are joined

pub image_of-requires-clause-text : goal.image_of-requires-clause-text
image_of-requires-clause-text c =
    c.requires.text c.in_ok-text.text
    (as_text c.args.program.now c.args.code c.in_ok-text.text c.as_slice.result.now (c.as_slice.ensures ∙ c.requires.laid.addresses) c.in_ok-text.ensures)

pub image_of-requires-clause-room : goal.image_of-requires-clause-room
image_of-requires-clause-room c =
    c.requires.room c.in_ok-text.text
    (as_text c.args.program.now c.args.code c.in_ok-text.text c.as_slice.result.now (c.as_slice.ensures ∙ c.requires.laid.addresses) c.in_ok-text.ensures)

pub returns : goal.returns
returns c = (
  c.in_ok-text.text,
  as_text c.args.program.now c.args.code c.in_ok-text.text c.as_slice.result.now (c.as_slice.ensures ∙ c.requires.laid.addresses) c.in_ok-text.ensures,
  c.in_ok-image.ensures.image,
  c.in_ok-image.ensures.placement,
)
