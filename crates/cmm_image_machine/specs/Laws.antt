-- What holds of every run of every image, and of every chain.
use Rattle.std.specs.Prelude.{◌≡◌, ◌≢◌, true, ℕ, ◌+◌, ◌<◌, ◌≤◌, IsTrue, List, ◌++◌, slice_get, Some}
use Rattle.std.specs.List.{All}
use Rattle.std.specs.Option.{option_and_then}
use Rattle.cmm_abi.specs.declared.registers.TheConstants.{FRAME, RETURN_ADDRESS}
use Rattle.rv_table.specs.Machine.{State}
use Rattle.cmm_simulation.specs.Seen.{IsWithin, End}
use Rattle.cmm_simulation.specs.Machine.{Lasts, after}
use Rattle.cmm_machine_laws.specs.Observed.{Ending}
use Rattle.cmm_image.specs.declared.parts.ImageParts.{ImageParts}
use Rattle.cmm_image.specs.declared.rows.SiteRow.{SiteRow}
use Rattle.cmm_image.specs.ImageFormat.{procedure_at}
use Rattle.cmm_image.specs.Images.{IsImage}
use Rattle.cmm_image.specs.InFrames.{KeepsFrame}
use Rattle.cmm_image.specs.Sites.{site_place}
use Rattle.cmm_abi.specs.Registers.{is_callee_saves}
use Rattle.cmm_abi.specs.Regions.{Region, bottom, top, Place, InRegister, InMemory}
use Rattle.cmm_image_machine.specs.Frames.{Element, Point, is_frame, site_at, found_at, along, chain_from, chain_of, older_than}
use Rattle.cmm_image_machine.specs.Walks.{chain_walk}
use Rattle.cmm_image_machine.specs.Machine.{Launch, Run, Running, step, first_run, image_after}
use Rattle.cmm_image_machine.specs.Observed.{image_machine, seen_of}

-- ---- runs

-- a run that is over stays as it is
abbrev pub OverStays : Type 0
OverStays = (l : Launch) (run : Run) → run.status ≢ Running → step l run ≡ run

-- an instruction takes back nothing of what was put, logged and taken, and loses no input
pub record Grows (before after : Run) : Type 0 where
  pub seen : IsWithin (seen_of before) (seen_of after)
  pub input : after.taken ++ after.input ≡ before.taken ++ before.input

abbrev pub StepGrows : Type 0
StepGrows = (l : Launch) (run : Run) → Grows run (step l run)

-- and so no run of any length
abbrev pub RunGrows : Type 0
RunGrows = (l : Launch) (input : List ℕ) (m n : ℕ) → Grows (image_after l input m) (image_after l input (m + n))

-- what was taken and what is left are together the whole input
abbrev pub InputIsKept : Type 0
InputIsKept = (l : Launch) (input : List ℕ) (n : ℕ) → let run = image_after l input n in run.taken ++ run.input ≡ input

-- in the theory of following an image is a machine that lasts
abbrev pub ImagesLast : Type 0
ImagesLast = (l : Launch) → Lasts (image_machine l)

-- whose states are those after n instructions
abbrev pub RunsAreTheMachine : Type 0
RunsAreTheMachine = (l : Launch) (input : List ℕ) (n : ℕ) → after (image_machine l) n (first_run l input) ≡ image_after l input n

-- so a run has one ending at most
abbrev pub EndsOnce : Type 0
EndsOnce = (l : Launch) (input : List ℕ) (first second : Ending) (m n : ℕ) →
    (image_machine l).asks (image_after l input m) ≡ Some (End first) → (image_machine l).asks (image_after l input n) ≡ Some (End second) → first ≡ second

-- ---- chains

-- the site with a return address is the one at the place where a search finds it
abbrev pub SitesAreFound : Type 0
SitesAreFound = (i : ImageParts) (address : ℕ) → site_at i address ≡ option_and_then (slice_get i.sites) (site_place i.sites address)

-- each site that is found keeps inside the frame of its procedure, as those of every image do
abbrev pub KeepFrames : ImageParts → Type 0
KeepFrames i = (address : ℕ) (site : SiteRow) → site_at i address ≡ Some site → KeepsFrame (procedure_at i.procs site.procedure) site

abbrev pub ImagesKeepFrames : Type 0
ImagesKeepFrames = (i : ImageParts) → IsImage i → KeepFrames i

-- so a chain is told by what stands at its first point: behind an activation it is again a chain
abbrev pub ChainGoesOn : Type 0
ChainGoesOn = (i : ImageParts) (r : Region) (memory : ℕ → ℕ) (p : Point) → KeepFrames i →
    chain_from i r memory p ≡ along (chain_from i r memory) memory (found_at i r p)

-- 8 bytes that are a callee-saves register or lie in the stack
abbrev pub IsInStack : Region → Place → Type 0
IsInStack r (InRegister n) = IsTrue (is_callee_saves n)
IsInStack r (InMemory address) = (bottom r ≤ address) × (address + 8 ≤ top r)

-- An activation fits: its frame begins at a multiple of 16 and lies in the stack, its tables keep inside the frame, and so do its values of
-- callee-saves registers.
pub record FitsStack (r : Region) (e : Element) : Type 0 where
  pub frame : is_frame r e.frame e.procedure.frame ≡ true
  pub keeps : KeepsFrame e.procedure e.site
  pub places : (n : ℕ) → IsTrue (is_callee_saves n) → IsInStack r (e.places n)

-- the activations of a chain fit, and so do those that are older than one which fits
pub record ElementsFit : Type 0 where
  pub all_of : (i : ImageParts) (r : Region) (s : State) → KeepFrames i → All (FitsStack r) (chain_of i r s).activations
  pub older : (i : ImageParts) (r : Region) (s : State) (e : Element) → KeepFrames i → FitsStack r e → All (FitsStack r) (older_than i r s e).activations

-- two states have the same return address and frame in registers 1 and 2, the same callee-saves registers, and the same bytes in the stack
pub record SameStack (r : Region) (s t : State) : Type 0 where
  pub address : s.registers RETURN_ADDRESS ≡ t.registers RETURN_ADDRESS
  pub frame : s.registers FRAME ≡ t.registers FRAME
  pub saved : (n : ℕ) → IsTrue (is_callee_saves n) → s.registers n ≡ t.registers n
  pub bytes : (at : ℕ) → bottom r ≤ at → at < top r → s.memory at ≡ t.memory at

-- the walk of a state depends on nothing else
abbrev pub WalkReadsTheStack : Type 0
WalkReadsTheStack = (i : ImageParts) (r : Region) (s t : State) → KeepFrames i → SameStack r s t → chain_walk i r s ≡ chain_walk i r t
