use Rattle.std.proofs.Common.{◌∙◌, ap, string_bytes, sym}
use Rattle.cmm_command.specs.FirstWords.{first_word_of}
use Rattle.cmm_command.proofs.Sorting.{first_word-none, first_word-some}
use Rattle.cmm_command.proofs.words.first_word.Goals as goal

pub returns-in-Some : goal.returns-in-Some
returns-in-Some c = c.of.ensures ∙ ap first_word_of c.as_str.ensures.value ∙ sym (first_word-some string_bytes _ _ c.in-Some.ensures.value)

pub returns-in-None : goal.returns-in-None
returns-in-None c = sym (first_word-none string_bytes _ c.in-None.ensures.value)
