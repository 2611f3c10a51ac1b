-- The first word, which says what is asked for.
use Rattle.std.specs.Prelude.{ℕ, List, [], ◌∷◌, Option, None, bytes_eq, codes}
use Rattle.std.specs.List.{find}
use Rattle.cmm_command.specs.declared.first_word.FirstWord.{FirstWord}
use Rattle.cmm_command.specs.declared.first_word.FirstWord.TheVariants as first

abbrev pub spelling_of : FirstWord → List ℕ
spelling_of first.Build = codes "build"
spelling_of first.Run = codes "run"
spelling_of first.Exec = codes "exec"
spelling_of first.Walk = codes "walk"
spelling_of first.Generate = codes "gen"
spelling_of first.Elf = codes "elf"
spelling_of first.Migrate = codes "migrate"
spelling_of first.Segments = codes "segments"

unfoldable pub first_words : List FirstWord
first_words = first.Build ∷ first.Run ∷ first.Exec ∷ first.Walk ∷ first.Generate ∷ first.Elf ∷ first.Migrate ∷ first.Segments ∷ []

-- the first word that a word is
abbrev pub first_word_of : List ℕ → Option FirstWord
first_word_of word = find (λ f. bytes_eq (spelling_of f) word) first_words

-- the first word of words
abbrev pub first_word_in : List (List ℕ) → Option FirstWord
first_word_in [] = None
first_word_in (word ∷ rest) = first_word_of word
