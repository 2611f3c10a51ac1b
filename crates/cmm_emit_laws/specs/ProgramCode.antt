-- What is required of the finished code of a program.
use Rattle.std.specs.Prelude.{◌≡◌, ℕ, ◌%◌, ◌*◌, ◌<◌, ◌^◌, ◌&&◌, nat_lt, Bool, true, false, length, slice_get, Some}
use Rattle.std.specs.List.{list_all}
use Rattle.cmm_chain.specs.Plans.{fixed_offsets}
use Rattle.cmm_program.specs.declared.procedure.Proc.{Proc}
use Rattle.cmm_program.specs.declared.procedure.Target.{Target}
use Rattle.cmm_program.specs.declared.procedure.Target.TheVariants as target
use Rattle.cmm_program.specs.declared.program.Program.{Program}
use Rattle.cmm_program.specs.Frames.{place_row, procedure_at}
use Rattle.cmm_program.specs.Performing.{procedure_from}
use Rattle.cmm_program.specs.State.{Activation, Setting}
use Rattle.cmm_graph.specs.declared.number.NodeId.{NodeId}
use Rattle.cmm_graph.specs.declared.node.Exits.{Exits}
use Rattle.cmm_graph.specs.declared.node.Node.{Node}
use Rattle.cmm_graph.specs.declared.node.NodeKind.{NodeKind}
use Rattle.cmm_graph.specs.declared.node.NodeKind.TheVariants.{Yield}
use Rattle.cmm_graph.specs.declared.graph.Graph.{Graph}
use Rattle.cmm_graph.specs.Counterpart.{reads_registers, targets}
use Rattle.cmm_graph.specs.GraphControl.{in_graph}
use Rattle.cmm_graph.specs.Paths.{node_of}
use Rattle.cmm_graph.specs.Ranges.{IsValid}
use Rattle.cmm_calls.specs.Frames.{CanBeMade}
use Rattle.cmm_image_machine.specs.Machine.{Launch, map_of}
use Rattle.cmm_emit_laws.specs.Represented.{AreWordsAt, IsFor, IsPlaceOf}
use Rattle.cmm_located.specs.Compiled.{Compiled, landing_in, site_exits}
use Rattle.cmm_emit_laws.specs.Finished.{Finished}
use Rattle.cmm_emit_laws.specs.NodeCode.{IsCodeOf, SiteCode}

-- ---- for which programs

-- The nodes that are done so far: all but yields.
abbrev pub is_coded : NodeKind → Bool
is_coded (Yield site values exits) = false
is_coded _ = true

-- ---- what is required of names

-- a global register that takes a value is there
abbrev pub names_register : Program → Target → Bool
names_register p (target.Variable number width) = true
names_register p (target.Register number width) = nat_lt number (length p.globals)

-- the global registers that a node names are there
abbrev pub names_registers : Program → NodeKind → Bool
names_registers p kind = list_all (names_register p) (targets kind) && reads_registers p kind

-- ---- what the layers below promise of a procedure

-- the frame and the places of a procedure are those of its activations
pub record IsLaidFor (s : Setting) (c : Compiled) (q : ℕ) : Type 0 where
  pub procedure : Proc
  pub is_procedure : procedure_at s q ≡ Some procedure
  pub size : (c.plan.frame q).size ≡ (place_row s q).frame
  pub can : CanBeMade (c.plan.frame q)
  pub words : (a : Activation) → a.procedure ≡ q → AreWordsAt s a (fixed_offsets (c.plan.frame q))
  pub places : (a : Activation) (v : ℕ) → a.procedure ≡ q → IsPlaceOf s a (c.plan.place q v)

-- ---- the whole

-- what is required beside the code of nodes
pub record IsCodeAround (s : Setting) (c : Compiled) (l : Launch) (f : Finished) : Type 0 where
  pub is_for : IsFor s (map_of l)
  pub valid : (q : ℕ) (g : Graph) → slice_get c.graphs q ≡ Some g → IsValid g
  pub named : (q : ℕ) (g : Graph) → slice_get c.graphs q ≡ Some g → list_all (λ node. names_registers s.program node.kind) g.nodes ≡ true
  pub laid : (q : ℕ) (g : Graph) → slice_get c.graphs q ≡ Some g → IsLaidFor s c q
  pub sites : (q site : ℕ) (exits : Exits) → site_exits c.graphs q site ≡ Some exits → SiteCode s c l f q site exits
  -- where the placement has a procedure, its Entry begins
  pub entries : (address q : ℕ) (n : NodeId) → procedure_from 0 address s.placement.rows ≡ Some q → in_graph c.graphs q (λ g. Some g.first) ≡ Some n →
      (f.node_at q n ≡ address) × (address % 4 ≡ 0)
  -- a continuation's code begins at its CopyIn
  pub landings : (q k : ℕ) (n : NodeId) → landing_in c.graphs q k ≡ Some n → (f.node_at q n ≡ f.symbols.landing_of q k) × (f.symbols.landing_of q k % 4 ≡ 0)
  -- the run ends at the first node of the first procedure, in name
  pub first : Node
  pub is_first : in_graph c.graphs 0 (λ g. node_of g (record { number = 0 })) ≡ Some first
  pub back_aligned : f.symbols.last_return % 4 ≡ 0
  pub back_fits : f.symbols.last_return < 2 ^ 64

-- the same, and the code of each node of a program without yields
pub record IsCode (s : Setting) (c : Compiled) (l : Launch) (f : Finished) : Type 0 where
  pub is_for : IsFor s (map_of l)
  pub coded : (q : ℕ) (g : Graph) → slice_get c.graphs q ≡ Some g → list_all (λ node. is_coded node.kind) g.nodes ≡ true
  pub valid : (q : ℕ) (g : Graph) → slice_get c.graphs q ≡ Some g → IsValid g
  pub named : (q : ℕ) (g : Graph) → slice_get c.graphs q ≡ Some g → list_all (λ node. names_registers s.program node.kind) g.nodes ≡ true
  pub laid : (q : ℕ) (g : Graph) → slice_get c.graphs q ≡ Some g → IsLaidFor s c q
  pub nodes : (q : ℕ) (n : NodeId) (node : Node) → in_graph c.graphs q (λ g. node_of g n) ≡ Some node → IsCodeOf s c l f q n node.kind (32 * node.tokens)
  pub sites : (q site : ℕ) (exits : Exits) → site_exits c.graphs q site ≡ Some exits → SiteCode s c l f q site exits
  -- where the placement has a procedure, its Entry begins
  pub entries : (address q : ℕ) (n : NodeId) → procedure_from 0 address s.placement.rows ≡ Some q → in_graph c.graphs q (λ g. Some g.first) ≡ Some n →
      (f.node_at q n ≡ address) × (address % 4 ≡ 0)
  -- a continuation's code begins at its CopyIn
  pub landings : (q k : ℕ) (n : NodeId) → landing_in c.graphs q k ≡ Some n → (f.node_at q n ≡ f.symbols.landing_of q k) × (f.symbols.landing_of q k % 4 ≡ 0)
  -- the run ends at the first node of the first procedure, in name
  pub first : Node
  pub is_first : in_graph c.graphs 0 (λ g. node_of g (record { number = 0 })) ≡ Some first
  pub back_aligned : f.symbols.last_return % 4 ≡ 0
  pub back_fits : f.symbols.last_return < 2 ^ 64
