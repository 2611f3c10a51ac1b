-- What words mean, on words that are written out.
use Rattle.std.proofs.Common.{◌≡◌, [], ◌∷◌, Some, None, refl, codes}
use Rattle.clap.proofs.OnLiterals.{clap_on_literals}
use Rattle.cmm_command.specs.declared.command.RunLimits.{RunLimits}
use Rattle.cmm_command.specs.FirstWords.{first_words}
use Rattle.cmm_command.specs.Numbers.{number_of, stack_of, steps_of}
use Rattle.cmm_command.specs.Options.{build_app, elf_app, exec_app, generate_app, migrate_app, run_app, segments_app, walk_app}
use Rattle.cmm_command.specs.Reading.{sorted}
use Rattle.cmm_command.specs.Meaning.{build, elf, exec, generate, meaning_by, meaning_of, migrate, run, segments, walk}

unfoldable pub opened : Unit {0}
unfolding clap_on_literals first_words number_of stack_of steps_of build_app elf_app exec_app generate_app migrate_app run_app segments_app walk_app sorted meaning_by meaning_of
opened = tt

abbrev usual : RunLimits
usual = record { steps = 1000000000; stack = 1048576 }

no_word : meaning_of [] ≡ None
unfolding opened
no_word = refl

no_first_word : meaning_of (codes "compile" ∷ codes "a" ∷ []) ≡ None
unfolding opened
no_first_word = refl

units_around_the_image : meaning_of (codes "build" ∷ codes "a" ∷ codes "-o" ∷ codes "x" ∷ codes "b" ∷ []) ≡ Some (build (codes "a" ∷ codes "b" ∷ []) (codes "x"))
unfolding opened
units_around_the_image = refl

image_attached : meaning_of (codes "build" ∷ codes "-ox" ∷ codes "a" ∷ []) ≡ Some (build (codes "a" ∷ []) (codes "x"))
unfolding opened
image_attached = refl

no_image : meaning_of (codes "build" ∷ codes "a" ∷ []) ≡ None
unfolding opened
no_image = refl

two_images : meaning_of (codes "build" ∷ codes "a" ∷ codes "-o" ∷ codes "x" ∷ codes "-o" ∷ codes "y" ∷ []) ≡ None
unfolding opened
two_images = refl

usual_run : meaning_of (codes "run" ∷ codes "x" ∷ []) ≡ Some (run (codes "x") None usual None)
unfolding opened
usual_run = refl

options_both_ways : meaning_of (codes "run" ∷ codes "--steps=5" ∷ codes "x" ∷ codes "--stack" ∷ codes "32" ∷ codes "--save" ∷ codes "s" ∷ [])
    ≡ Some (run (codes "x") None (record { steps = 5; stack = 32 }) (Some (codes "s")))
unfolding opened
options_both_ways = refl

stack_in_between : meaning_of (codes "exec" ∷ codes "a" ∷ codes "--stack" ∷ codes "8" ∷ []) ≡ None
unfolding opened
stack_in_between = refl

client_of_units : meaning_of (codes "exec" ∷ codes "a" ∷ codes "--client=c" ∷ []) ≡ Some (exec (codes "a" ∷ []) (Some (codes "c")) usual)
unfolding opened
client_of_units = refl

after_the_dashes : meaning_of (codes "walk" ∷ codes "--" ∷ codes "-x" ∷ codes "--" ∷ []) ≡ Some (walk (codes "-x") (codes "--"))
unfolding opened
after_the_dashes = refl

nine_digits : meaning_of (codes "gen" ∷ codes "00999999999" ∷ []) ≡ Some (generate 999999999)
unfolding opened
nine_digits = refl

ten_digits : meaning_of (codes "gen" ∷ codes "1000000000" ∷ []) ≡ None
unfolding opened
ten_digits = refl

image_before_its_file : meaning_of (codes "elf" ∷ codes "-oy" ∷ codes "x" ∷ []) ≡ Some (elf (codes "x") (codes "y"))
unfolding opened
image_before_its_file = refl

no_file : meaning_of (codes "elf" ∷ codes "x" ∷ []) ≡ None
unfolding opened
no_file = refl

image_of_another_version : meaning_of (codes "migrate" ∷ codes "x" ∷ codes "-o" ∷ codes "y" ∷ []) ≡ Some (migrate (codes "x") (codes "y"))
unfolding opened
image_of_another_version = refl

one_file : meaning_of (codes "segments" ∷ codes "--" ∷ codes "-o" ∷ []) ≡ Some (segments (codes "-o"))
unfolding opened
one_file = refl

nothing_is_written : meaning_of (codes "segments" ∷ codes "x" ∷ codes "-o" ∷ codes "y" ∷ []) ≡ None
unfolding opened
nothing_is_written = refl
