-- The plan of a program whose procedures have these graphs and these places, and which locals are live where.
use Rattle.std.specs.Prelude.{false, List, [], slice_get, slice_index_or, is_some, Some, None}
use Rattle.cmm_bitset.specs.Sets.{has}
use Rattle.cmm_graph.specs.declared.graph.Graph.{Graph}
use Rattle.cmm_live.specs.Exact.{set_at}
use Rattle.cmm_chain.specs.declared.frame.Frame.{Frame}
use Rattle.cmm_chain.specs.declared.frame.Location.{Location}
use Rattle.cmm_chain.specs.declared.frame.Location.TheVariants.{Temp}
use Rattle.cmm_located.specs.Compiled.{Compiled}
use Rattle.cmm_located.specs.Relation.{Liveness}
use Rattle.cmm_allocate.specs.declared.procedure.ProcedurePlaces.{ProcedurePlaces}

-- where there is no local, a register stands in, and where there is no procedure, a frame without words
abbrev pub no_place : Location
no_place = Temp 12

abbrev pub no_frame : Frame
no_frame = record { size = 0; return_at = 0; saved = []; pairs = []; stack = [] }

abbrev pub compiled : List Graph → List ProcedurePlaces → Compiled
compiled graphs found = record {
  graphs = graphs;
  plan = record {
    is_procedure = λ q. is_some (slice_get found q);
    frame = λ q. elim (slice_get found q) [ Some k ↦ k.frame | None ↦ no_frame ];
    place = λ q v. elim (slice_get found q) [ Some k ↦ slice_index_or k.locals v no_place | None ↦ no_place ];
    live = λ q site v. elim (slice_get found q) [ Some k ↦ has (set_at k.live.sites site) v | None ↦ false ];
  };
  zeroed = λ q. elim (slice_get found q) [ Some k ↦ k.zeroed | None ↦ [] ];
}

-- the locals that are live before the nodes of each procedure, by their numbers
abbrev pub live_before : List ProcedurePlaces → Liveness
live_before found q n v = elim (slice_get found q) [ Some k ↦ has (set_at k.live.before n.number) v | None ↦ false ]
