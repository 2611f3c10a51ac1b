-- What the places of a procedure are, for its graph.
use Rattle.std.specs.Prelude.{◌≡◌, ◌+◌, ◌*◌, ◌≤◌, List, length}
use Rattle.std.specs.List.{AllZip, zip}
use Rattle.cmm_bitset.specs.Sets.{members}
use Rattle.cmm_program.specs.declared.procedure.Proc.{Proc}
use Rattle.cmm_program.specs.InRange.{FitsFrames}
use Rattle.cmm_graph.specs.declared.graph.Graph.{Graph}
use Rattle.cmm_live.specs.Exact.{AreLiveSets, set_at}
use Rattle.cmm_located.specs.Layouts.{IsFrameOf}
use Rattle.cmm_flow.specs.Flow.{IsBounded}
use Rattle.cmm_hoisted.specs.Flow.{entry_tokens}
use Rattle.cmm_allocate.specs.declared.procedure.ProcedurePlaces.{ProcedurePlaces}
use Rattle.cmm_allocate.specs.Allocated.{AreAllocated}
use Rattle.cmm_allocate.specs.Placed.{ArePlaces}

-- A frame can be laid for a procedure and its graph: its parts are small, its locals and pairs have room in the bound on frames and words in the tokens of the
-- Entry, and the graph has its continuations.
pub record CanBePlaced (p : Proc) (g : Graph) : Type 0 where
  pub frames : FitsFrames p
  pub bounded : IsBounded p g
  pub entry : 8 * (g.variables + g.temporaries) + 16 * length g.continuations ≤ 8 * entry_tokens g
  pub continuations : length g.continuations ≡ length p.conts

pub record HasPlaces (p : Proc) (g : Graph) (k : ProcedurePlaces) : Type 0 where
  -- each local has the place that a colouring gives it
  pub allocated : AreAllocated g k.live k.locals
  -- which suits what is live where
  pub locals : ArePlaces g k.live k.locals
  -- and the frame is laid for these
  pub frame : IsFrameOf p k.locals k.frame
  -- the sets have just the locals that are live
  pub live : AreLiveSets g k.live
  -- those that are live before the Entry are made 0
  pub zeroed : k.zeroed ≡ members (set_at k.live.before g.first.number)

-- of procedures with their graphs, in their order
abbrev pub HavePlaces : List Proc → List Graph → List ProcedurePlaces → Type 0
HavePlaces procs graphs found = AllZip (λ of k. HasPlaces of.0 of.1 k) (zip procs graphs) found
