use Rattle.std.proofs.Common.{◌≡◌, ◌++◌, OnOk, List, ℕ, subst}
use Rattle.cmm_elf.specs.inside.Spellings.{elf_bytes}
use Rattle.cmm_elf.proofs.writing.put_elf.Goals as goal

-- the slices are the code and the data of the parts
pub returns : goal.returns
returns c =
    subst (λ (code : List ℕ). OnOk c.put_fields.result (c.put_fields.new.out.items ≡ c.args.out.now.items ++ elf_bytes code c.args.parts.now.initial c.args.parts.now.start)) c.as_slice.ensures
    (subst (λ (initial : List ℕ). OnOk c.put_fields.result (c.put_fields.new.out.items ≡ c.args.out.now.items ++ elf_bytes c.as_slice.result.now initial c.args.parts.now.start)) c.as_slice-2.ensures c.put_fields.ensures)
