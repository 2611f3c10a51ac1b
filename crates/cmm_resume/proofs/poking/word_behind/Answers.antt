use Rattle.std.proofs.Common.{◌+◌, ◌^◌, ◌≤◌, length, inl, inr, sym, ◌∙◌}
use Rattle.std.proofs.lemmas.Bool.{cases_lt}
use Rattle.cmm_resume.proofs.PokeLaws.{none_over}
use Rattle.cmm_resume.proofs.poking.word_behind.Goals as goal

pub returns-in_err-address : goal.returns-in_err-address
returns-in_err-address c =
    let over : 2 ^ 64 ≤ c.in_ok-label.label + c.args.offset =
    elim (cases_lt (c.in_ok-label.label + c.args.offset) (2 ^ 64)) [ inl below ↦ absurd (c.in_err-address.ensures below) | inr past ↦ past ] in
    let end = c.data_end-end.ensures in
    let small = c.data_end-end.type_inv in
    c.from_residual-in_err-address.ensures
    ∙ sym (none_over c.args.i.now (length c.args.m.now.data_bytes) c.args.offset c.in_ok-label.label c.args.label.now over (rw end at small) (sym c.label_address.ensures ∙ c.in_ok-label.was))
