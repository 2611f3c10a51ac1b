-- What an activation is in the chain of frames, and when it fits an image and a stack.
use Rattle.std.specs.Prelude.{◌≡◌, ℕ, zero, suc, ◌+◌, ◌-◌, ◌^◌, ◌<◌, true, false, IsTrue, List, length, slice_index_or}
use Rattle.cmm_image.specs.declared.parts.ImageParts.{ImageParts}
use Rattle.cmm_image.specs.ImageFormat.{procedure_at}
use Rattle.cmm_image.specs.Sites.{site_numbered}
use Rattle.cmm_abi.specs.Registers.{is_callee_saves}
use Rattle.cmm_image_machine.specs.Frames.{Element, is_frame}
use Rattle.cmm_image_machine.specs.Laws.{IsInStack}
use Rattle.cmm_abi.specs.Regions.{Region}
use Rattle.cmm_abi.specs.Regions as regions
use Rattle.cmm_walk.specs.declared.activation.Activation.{Activation}
use Rattle.cmm_walk.specs.declared.activation.Kept.{Kept}
use Rattle.cmm_walk.specs.declared.activation.Kept.TheVariants.{InRegister, At}
use Rattle.cmm_walk.specs.declared.place.Place.{Place}
use Rattle.cmm_walk.specs.declared.place.Place.TheVariants as place

-- ---- places

abbrev pub place_of : Place → regions.Place
place_of (place.InRegister n) = regions.InRegister n
place_of (place.InMemory address) = regions.InMemory address

-- where the value of a register is that is kept so
abbrev pub kept_place : ℕ → Kept → regions.Place
kept_place n InRegister = regions.InRegister n
kept_place n (At address) = regions.InMemory address

-- the place of a callee-saves register among the eleven, in ascending order: 9, and then 18 to 27
abbrev pub order_of : ℕ → ℕ
order_of n = n - 17

-- and the other way round
abbrev pub register_in : ℕ → ℕ
register_in zero = 9
register_in (suc k) = 18 + k

-- where the value of each register is; a register that is no callee-saves register is not kept anywhere else
abbrev pub places_of : List Kept → ℕ → regions.Place
places_of saved n = elim (is_callee_saves n) [ true ↦ kept_place n (slice_index_or saved (order_of n) InRegister) | false ↦ regions.InRegister n ]

-- ---- activations

-- what an activation is in the chain of an image's frames
abbrev pub element_of : ImageParts → Activation → Element
element_of i a = record {
  site = site_numbered i.sites a.site;
  procedure = procedure_at i.procs a.proc;
  frame = a.frame;
  places = places_of a.saved;
}

-- its site is there, and is in its procedure
pub record IsIn (i : ImageParts) (a : Activation) : Type 0 where
  pub site : a.site < length i.sites
  pub procedure : (site_numbered i.sites a.site).procedure ≡ a.proc

-- all values of callee-saves registers are in their registers or in the stack
abbrev pub SavedFit : Region → List Kept → Type 0
SavedFit r saved = (n : ℕ) → IsTrue (is_callee_saves n) → IsInStack r (places_of saved n)

-- its frame ends at an address of 64 bits
abbrev pub HasRoom : ImageParts → Activation → Type 0
HasRoom i a = a.frame + (procedure_at i.procs a.proc).frame < 2 ^ 64

-- An activation fits an image and a stack: it is in the image, its frame begins at a multiple of 16 and lies in the stack, and so does each place.
pub record Fits (i : ImageParts) (r : Region) (a : Activation) : Type 0 where
  pub there : IsIn i a
  pub frame : is_frame r a.frame (procedure_at i.procs a.proc).frame ≡ true
  pub room : HasRoom i a
  pub places : SavedFit r a.saved
