-- What is required of the finished code of a program whose client is asked at yields, and of the tables beside it.
use Rattle.std.specs.Prelude.{◌≡◌, ℕ, ◌*◌, true, List, Some}
use Rattle.cmm_program.specs.State.{Setting}
use Rattle.cmm_graph.specs.declared.node.Exits.{Exits}
use Rattle.cmm_graph.specs.declared.node.Node.{Node}
use Rattle.cmm_graph.specs.declared.node.NodeKind.TheVariants as node
use Rattle.cmm_graph.specs.declared.number.NodeId.{NodeId}
use Rattle.cmm_graph.specs.declared.number.SiteId.{SiteId}
use Rattle.cmm_graph.specs.declared.operand.Operand.{Operand}
use Rattle.cmm_graph.specs.GraphControl.{in_graph}
use Rattle.cmm_graph.specs.Paths.{node_of}
use Rattle.cmm_image_machine.specs.Machine.{Launch}
use Rattle.cmm_located.specs.Compiled.{Compiled}
use Rattle.cmm_emit_laws.specs.Finished.{Finished}
use Rattle.cmm_emit_laws.specs.NodeCode.{IsCodeOf}
use Rattle.cmm_emit_laws.specs.ProgramCode.{IsCodeAround, is_coded}
use Rattle.cmm_client_laws.specs.Laws.{IsTold}
use Rattle.cmm_yield_laws.specs.Yielding.{HaveSiteExits, HaveYields, YieldCode}

-- the code alone
pub record IsYieldingCode (s : Setting) (c : Compiled) (l : Launch) (f : Finished) : Type 0 where
  pub around : IsCodeAround s c l f
  -- the code of each node: of those that do not yield, and of those that do
  pub nodes : (q : ℕ) (n : NodeId) (here : Node) → in_graph c.graphs q (λ g. node_of g n) ≡ Some here → is_coded here.kind ≡ true →
      IsCodeOf s c l f q n here.kind (32 * here.tokens)
  pub yields : (q : ℕ) (n : NodeId) (here : Node) (site : SiteId) (values : List Operand) (exits : Exits) → in_graph c.graphs q (λ g. node_of g n) ≡ Some here →
      here.kind ≡ node.Yield site values exits → YieldCode s c l f q n site.number values (32 * here.tokens)
  -- sites yield what their nodes do, and have their exits
  pub values : HaveYields s c
  pub exits : HaveSiteExits s c

-- and the tables tell of the program
pub record IsWholeCode (s : Setting) (c : Compiled) (l : Launch) (f : Finished) : Type 0 where
  pub code : IsYieldingCode s c l f
  pub told : IsTold s c f.symbols l
