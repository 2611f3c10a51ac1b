use Rattle.std.proofs.Common.{sym, ◌∙◌}
use Rattle.cmm_report.proofs.Digits.{kind_byte-plain}
use Rattle.cmm_report.proofs.put_kind_byte.Goals as goal

pub returns-then-is_plain : goal.returns-then-is_plain
returns-then-is_plain g c = rw (kind_byte-plain c.args.byte (sym c.is_plain.ensures ∙ c.if-is_plain.true)) c.write_all.ensures
