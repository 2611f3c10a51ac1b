-- What the client's commands come to, by what is found.
use Rattle.std.specs.Prelude.{◌≡◌, ℕ, ◌^◌, ◌<◌, List, length, Ok}
use Rattle.std.specs.Option.{ok_or}
use Rattle.cmm_rules.specs.declared.rule.Rule.TheVariants.{NoPlace}
use Rattle.rv_table.specs.Machine.{State, stored}
use Rattle.cmm_abi.specs.Regions.{Region, with_word}
use Rattle.cmm_script.specs.Lines.{ok_line, resume_line}
use Rattle.cmm_program.specs.Asking.{Cursor}
use Rattle.cmm_program.specs.Commands.{Resumes, poking, says, setting, unwinding}
use Rattle.cmm_program.specs.Errors.{and_then}
use Rattle.cmm_image.specs.declared.parts.ImageParts.{ImageParts}
use Rattle.cmm_image_machine.specs.Frames.{Element}
use Rattle.cmm_image_machine.specs.Machine.{askable}
use Rattle.cmm_resume.specs.Finding.{label_place, landed, landing_of, poking_in, settable}

-- `set` writes the word at the place that is found, where the site has a place for each variable, as those of images do
abbrev pub SetsAreFound : Type 0
SetsAreFound = (i : ImageParts) (r : Region) (s : State) (cursor : Cursor Element) (e : Element) (n value : ℕ) → length e.site.variables ≡ length e.procedure.variables →
    setting (askable i r) cursor s e n value ≡ and_then (settable e n value) (λ place. says ok_line cursor (with_word place value s))

-- `poke` writes 8 bytes at the address that is found
abbrev pub PokesAreFound : Type 0
PokesAreFound = (data_length : ℕ) (i : ImageParts) (cursor : Cursor Element) (s : State) (name : List ℕ) (offset value : ℕ) → value < 2 ^ 64 →
    poking_in data_length i cursor s name offset value
    ≡ and_then (ok_or (label_place data_length i name offset 8) NoPlace) (λ address. says ok_line cursor (record s { memory = stored s.memory address 8 value }))

-- in data of the image's own length it is the client's
abbrev pub PokesAreTheClients : Type 0
PokesAreTheClients = (i : ImageParts) (r : Region) (cursor : Cursor Element) (s : State) (name : List ℕ) (offset value : ℕ) →
    poking (askable i r) cursor s name offset value ≡ poking_in (length i.initial) i cursor s name offset value

-- `unwind` goes on at the landing that is found
abbrev pub UnwindsAreFound : Type 0
UnwindsAreFound = (i : ImageParts) (r : Region) (s : State) (e : Element) (exit : ℕ) (values : List ℕ) →
    unwinding (askable i r) s e exit values
    ≡ and_then (landing_of e exit values) (λ landing. Ok record { text = resume_line; after = Resumes (landed r s e landing values) })
