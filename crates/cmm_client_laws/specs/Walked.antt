-- A located run that waits: its activations are found along the stack, and the tables of the image find them too.
use Rattle.std.specs.Prelude.{◌≡◌, ◌&&◌, ◌<◌, ◌^◌, ℕ, ◌+◌, nat_lt, Bool, true, false, List, [], ◌∷◌, length, slice_get, Some, None}
use Rattle.std.specs.List.{AllZip}
use Rattle.cmm_words.specs.Widths.{bits}
use Rattle.cmm_program.specs.declared.procedure.Proc.{Proc}
use Rattle.cmm_program.specs.declared.procedure.Site.{Site}
use Rattle.cmm_program.specs.declared.procedure.VarInfo.{VarInfo}
use Rattle.cmm_program.specs.Frames.{procedure_at}
use Rattle.cmm_program.specs.Liveness.{is_live_at}
use Rattle.cmm_program.specs.State.{Setting, Activation, stack_top}
use Rattle.cmm_chain.specs.Contents.{Content, ReturnTo, LastReturn}
use Rattle.cmm_chain.specs.Plans.{Plan}
use Rattle.cmm_chain.specs.Chain.{Suspension, IsChain}
use Rattle.cmm_chain.specs.Running.{Holdings, none_known}
use Rattle.cmm_chain.specs.Walks as chain
use Rattle.cmm_chain.specs.Walks.{Mark, Spot, moved}
use Rattle.cmm_image.specs.declared.parts.ImageParts.{ImageParts}
use Rattle.cmm_image.specs.ImageFormat.{procedure_at as row_at}
use Rattle.cmm_program.specs.Asking.{Chain}
use Rattle.cmm_image_machine.specs.Frames.{Element, site_at}
use Rattle.cmm_abi.specs.Regions.{Place, InRegister, InMemory}
use Rattle.cmm_emit_laws.specs.Words.{Symbols}
use Rattle.cmm_located.specs.Compiled.{Compiled}

-- ---- what a client is shown

-- the variables that are live at a site
abbrev pub live_at : Setting → ℕ → ℕ → ℕ → Bool
live_at s q n v = elim (procedure_at s q) [ Some p ↦ is_live_at p n v && nat_lt v (length p.vars) | None ↦ false ]

-- a plan, as far as a client is shown the locals
abbrev pub shown_plan : Setting → Compiled → Plan
shown_plan s c = record c.plan { live = live_at s }

-- an activation without values is that of a suspension, at a site of its procedure, and what is live there fits its width
pub record IsGhostOf (s : Setting) (a : Activation) (t : Suspension) : Type 0 where
  pub procedure : a.procedure ≡ t.procedure
  pub waits : a.site ≡ Some t.site
  pub proc : Proc
  pub is_procedure : procedure_at s t.procedure ≡ Some proc
  pub site : Site
  pub is_site : slice_get proc.sites t.site ≡ Some site
  pub fits : (v : ℕ) (info : VarInfo) → slice_get proc.vars v ≡ Some info → is_live_at proc t.site v ≡ true → t.values v < 2 ^ bits info.width

-- all wait, and the stack is the chain of them
pub record IsWalked (s : Setting) (c : Compiled) (h : Holdings) (activations : List Activation) (suspended : List Suspension) : Type 0 where
  pub ghosts : AllZip (IsGhostOf s) activations suspended
  pub chain : IsChain (shown_plan s c) (stack_top s) h.contents suspended h.point
  pub temps : h.temps ≡ none_known

-- ---- what the walk lists of suspensions, whatever their values

abbrev pub back_of : List Suspension → Content
back_of [] = LastReturn
back_of (t ∷ older) = ReturnTo t.procedure t.site

abbrev pub mark_to : Plan → ℕ → Content → Mark → Mark
mark_to plan q back m = record { at = m.at + (plan.frame q).size; back = back; registers = moved plan q m.at m.registers }

abbrev pub marked : Plan → List Suspension → Mark → List chain.Element
marked plan [] m = []
marked plan (t ∷ older) m = record { procedure = t.procedure; site = t.site; mark = m } ∷ marked plan older (mark_to plan t.procedure (back_of older) m)

-- ---- what the tables of an image find

abbrev pub place_of : Spot → Place
place_of (chain.InRegister r) = InRegister r
place_of (chain.InStack a) = InMemory a

-- an activation that is found by the tables is one that the walk lists
pub record IsFoundAs (i : ImageParts) (y : Symbols) (e : chain.Element) (x : Element) : Type 0 where
  pub site : site_at i (y.return_to e.procedure e.site) ≡ Some x.site
  pub procedure : x.procedure ≡ row_at i.procs e.procedure
  pub frame : x.frame ≡ e.mark.at
  pub places : (r : ℕ) → x.places r ≡ place_of (e.mark.registers r)

-- and so is the whole chain
pub record AreFoundAs (i : ImageParts) (y : Symbols) (listed : List chain.Element) (found : Chain Element) : Type 0 where
  pub whole : found.broken ≡ None
  pub each : AllZip (IsFoundAs i y) listed found.activations
