-- What the words of a command line mean.
use Rattle.std.specs.Prelude.{ℕ, List, map, codes, Option, Some}
use Rattle.std.specs.Option.{option_map}
use Rattle.clap.specs.Words.{App, Row, Text}
use Rattle.cmm_command.specs.declared.command.Command.{Command}
use Rattle.cmm_command.specs.declared.command.Command.TheVariants as command
use Rattle.cmm_command.specs.declared.command.RunLimits.{RunLimits}
use Rattle.cmm_command.specs.declared.first_word.FirstWord.{FirstWord}
use Rattle.cmm_command.specs.declared.first_word.FirstWord.TheVariants as first
use Rattle.cmm_command.specs.FirstWords.{first_word_in}
use Rattle.cmm_command.specs.Options.{build_app, elf_app, exec_app, generate_app, migrate_app, run_app, segments_app, walk_app}
use Rattle.cmm_command.specs.Reading.{◌>>=◌, file_if_given, file_of, files_of, limits_of, number_in, sorted}

-- a command, with the texts that it names
pub data Meaning : Type 0 where
  build : List Text → Text → Meaning
  run : Text → Option Text → RunLimits → Option Text → Meaning
  exec : List Text → Option Text → RunLimits → Meaning
  walk : Text → Text → Meaning
  generate : ℕ → Meaning
  elf : Text → Text → Meaning
  migrate : Text → Text → Meaning
  segments : Text → Meaning

abbrev pub plain : Command → Meaning
plain (command.Build units image) = build (map (λ s. s.now) units) image.now
plain (command.Run image client limits save) = run image.now (option_map (λ s. s.now) client) limits (option_map (λ s. s.now) save)
plain (command.Exec units client limits) = exec (map (λ s. s.now) units) (option_map (λ s. s.now) client) limits
plain (command.Walk image snapshot) = walk image.now snapshot.now
plain (command.Generate number) = generate number
plain (command.Elf image file) = elf image.now file.now
plain (command.Migrate image file) = migrate image.now file.now
plain (command.Segments file) = segments file.now

abbrev pub build_of : List Row → Option Meaning
build_of rows = files_of (codes "unit") rows >>= λ units. file_of (codes "image") rows >>= λ image. Some (build units image)

abbrev pub run_of : List Row → Option Meaning
run_of rows = file_of (codes "image") rows >>= λ image. file_if_given (codes "client") rows >>= λ client.
    limits_of rows >>= λ limits. file_if_given (codes "save") rows >>= λ save. Some (run image client limits save)

abbrev pub exec_of : List Row → Option Meaning
exec_of rows = files_of (codes "unit") rows >>= λ units. file_if_given (codes "client") rows >>= λ client.
    limits_of rows >>= λ limits. Some (exec units client limits)

-- the file of an image, and another file
abbrev pub two_files : App → Text → List Text → Option (Text × Text)
two_files app other words = sorted app words >>= λ rows. file_of (codes "image") rows >>= λ image. file_of other rows >>= λ file. Some (image, file)

abbrev pub generate_of : List Row → Option Meaning
generate_of rows = number_in rows >>= λ number. Some (generate number)

abbrev pub segments_of : List Row → Option Meaning
segments_of rows = file_of (codes "file") rows >>= λ file. Some (segments file)

unfoldable pub meaning_by : FirstWord → List Text → Option Meaning
meaning_by first.Build words = sorted build_app words >>= build_of
meaning_by first.Run words = sorted run_app words >>= run_of
meaning_by first.Exec words = sorted exec_app words >>= exec_of
meaning_by first.Walk words = two_files walk_app (codes "snapshot") words >>= λ files. Some (walk files.0 files.1)
meaning_by first.Generate words = sorted generate_app words >>= generate_of
meaning_by first.Elf words = two_files elf_app (codes "file") words >>= λ files. Some (elf files.0 files.1)
meaning_by first.Migrate words = two_files migrate_app (codes "file") words >>= λ files. Some (migrate files.0 files.1)
meaning_by first.Segments words = sorted segments_app words >>= segments_of

-- what words mean, by the first of them
unfoldable pub meaning_of : List Text → Option Meaning
meaning_of words = first_word_in words >>= λ first. meaning_by first words
