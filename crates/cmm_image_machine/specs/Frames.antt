-- The chain of the frames of a stopped program, by the tables of its image: from each activation to the next older one (Ramsey and
-- Peyton Jones, PLDI 2000, run-time tables).
use Rattle.std.specs.Prelude.{ℕ, zero, suc, ◌+◌, ◌-◌, ◌/◌, ◌%◌, ◌==◌, ◌&&◌, nat_le, Bool, true, false, [], ◌∷◌, find, Option, Some, None}
use Rattle.cmm_abi.specs.declared.registers.TheConstants.{FRAME, RETURN_ADDRESS}
use Rattle.rv_table.specs.Machine.{State, loaded}
use Rattle.cmm_image.specs.declared.parts.ImageParts.{ImageParts}
use Rattle.cmm_image.specs.declared.rows.ProcRow.{ProcRow}
use Rattle.cmm_image.specs.declared.rows.SiteRow.{SiteRow}
use Rattle.cmm_image.specs.ImageFormat.{procedure_at}
use Rattle.cmm_program.specs.Asking.{Break, Chain}
use Rattle.cmm_abi.specs.Regions.{Region, bottom, top, Place, InRegister, InMemory}

-- An activation as its frame shows it: the rows of its site and of its procedure, the address of its frame, and where the value is
-- now that each callee-saves register had in it.
pub record Element : Type 0 where
  pub site : SiteRow
  pub procedure : ProcRow
  pub frame : ℕ
  pub places : ℕ → Place

-- what a chain goes on with: a return address, the frame of the activation that it returns to, and where that activation's values of
-- callee-saves registers are
pub record Point : Type 0 where
  pub address : ℕ
  pub frame : ℕ
  pub places : ℕ → Place

-- at the start: the address in register 1, the frame in register 2, and every value in its register
abbrev pub first_point : State → Point
first_point s = record { address = s.registers RETURN_ADDRESS; frame = s.registers FRAME; places = InRegister }

-- ---- one step of the chain

-- the site with a return address
abbrev pub site_at : ImageParts → ℕ → Option SiteRow
site_at i address = find (λ s. s.return_address == address) i.sites

-- the call of main, whose caller has no frame, returns to `last`
abbrev pub is_end : ImageParts → Region → Point → Bool
is_end i r p = (p.address == i.last) && (p.frame == top r)

-- a frame of a size begins at a multiple of 16 and lies in the stack
abbrev pub is_frame : Region → ℕ → ℕ → Bool
is_frame r frame size = (frame % 16 == 0) && nat_le (bottom r) frame && nat_le (frame + size) (top r)

-- what stands at a point
pub data Found : Type 0 where
  -- the activation that it returns to
  Activation : Element → Found
  -- nothing: the chain ends
  Nothing : Found
  -- no activation, and yet not the end
  Broken : Break → Found

abbrev pub break_at : Point → Found
break_at p = Broken record { frame = p.frame; address = p.address }

abbrev pub activation_at : Region → Point → SiteRow → ProcRow → Found
activation_at r p site procedure = elim (is_frame r p.frame procedure.frame) [
  | true ↦ Activation record { site = site; procedure = procedure; frame = p.frame; places = p.places }
  | false ↦ break_at p
]

abbrev pub found_at : ImageParts → Region → Point → Found
found_at i r p = elim (is_end i r p) [
  | true ↦ Nothing
  | false ↦ elim (site_at i p.address) [
    | Some site ↦ activation_at r p site (procedure_at i.procs site.procedure)
    | None ↦ break_at p
  ]
]

-- ---- to the next older activation

-- where in its frame a procedure saves its return address; one that has sites does
abbrev pub return_offset : ProcRow → ℕ
return_offset p = elim p.return_at [ Some offset ↦ offset | None ↦ 0 ]

-- a register that the procedure saved is in its frame, and every other one where it was
abbrev pub places_before : Element → ℕ → Place
places_before e n = elim (find (λ s. s.register == n) e.procedure.saved) [ Some s ↦ InMemory (e.frame + s.offset) | None ↦ e.places n ]

-- behind an activation: the return address that its frame has, and the frame that ends its own
abbrev pub point_after : (ℕ → ℕ) → Element → Point
point_after memory e = record {
  address = loaded memory (e.frame + return_offset e.procedure) 8;
  frame = e.frame + e.procedure.frame;
  places = places_before e;
}

-- ---- the whole chain

abbrev pub none_more : Chain Element
none_more = record { activations = []; broken = None }

abbrev pub breaks : Break → Chain Element
breaks b = record { activations = []; broken = Some b }

abbrev pub behind : Element → Chain Element → Chain Element
behind e chain = record { activations = e ∷ chain.activations; broken = chain.broken }

-- the chain from what stands at its first point: an activation with the chain behind it, which goes on from a point, the end, or a break
abbrev pub along : (Point → Chain Element) → (ℕ → ℕ) → Found → Chain Element
along on memory (Activation e) = behind e (on (point_after memory e))
along on memory Nothing = none_more
along on memory (Broken b) = breaks b

-- over no more than n points
abbrev pub chain_within : ImageParts → Region → (ℕ → ℕ) → ℕ → Point → Chain Element
chain_within i r memory zero p = none_more
chain_within i r memory (suc points) p = along (λ q. chain_within i r memory points q) memory (found_at i r p)

-- Frames of activations have at least 16 bytes, so from a point on no more points follow than the stack has room for.
abbrev pub points_from : Region → Point → ℕ
points_from r p = suc ((top r - p.frame) / 16)

abbrev pub chain_from : ImageParts → Region → (ℕ → ℕ) → Point → Chain Element
chain_from i r memory p = chain_within i r memory (points_from r p) p

-- all activations, youngest first
abbrev pub chain_of : ImageParts → Region → State → Chain Element
chain_of i r s = chain_from i r s.memory (first_point s)

-- those that are older than one
abbrev pub older_than : ImageParts → Region → State → Element → Chain Element
older_than i r s e = chain_from i r s.memory (point_after s.memory e)
