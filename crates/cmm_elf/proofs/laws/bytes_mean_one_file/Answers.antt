use Rattle.cmm_elf.proofs.ReadLaws.{each_means_one_thing, files_are_one, no_file_has_a_fault}
use Rattle.cmm_elf.proofs.laws.bytes_mean_one_file.Goals as goal

pub returns : goal.returns
returns c = record { each = each_means_one_thing; one = files_are_one; never_both = no_file_has_a_fault }
