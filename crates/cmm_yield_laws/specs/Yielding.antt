-- What is required of the code of a yield.
use Rattle.std.specs.Prelude.{◌≡◌, ℕ, ◌+◌, ◌*◌, ◌≤◌, List, [], ◌∷◌, length, slice_get, Some}
use Rattle.rv_asm.specs.declared.part.Label.{Label}
use Rattle.rv_table.specs.declared.request.Request.TheVariants as request
use Rattle.cmm_program.specs.declared.procedure.Proc.{Proc}
use Rattle.cmm_program.specs.declared.procedure.Site.{Site}
use Rattle.cmm_program.specs.Frames.{procedure_at}
use Rattle.cmm_program.specs.State.{Setting}
use Rattle.cmm_graph.specs.declared.node.Exits.{Exits}
use Rattle.cmm_graph.specs.declared.node.NodeKind.TheVariants as node
use Rattle.cmm_graph.specs.declared.number.NodeId.{NodeId}
use Rattle.cmm_graph.specs.declared.number.SiteId.{SiteId}
use Rattle.cmm_graph.specs.declared.operand.Operand.{Operand}
use Rattle.cmm_graph.specs.Counterpart.{numbers_of}
use Rattle.cmm_graph.specs.GraphControl.{kind_at}
use Rattle.cmm_effects.specs.Pieces.{BeginsQuietly}
use Rattle.cmm_effects.specs.Requests.{AsksFor}
use Rattle.cmm_calls.specs.Calls.{Calls}
use Rattle.cmm_select.specs.declared.operand.Operand.{Operand as CodeOperand}
use Rattle.cmm_image_machine.specs.Machine.{Launch}
use Rattle.cmm_located.specs.Compiled.{Compiled, site_exits}
use Rattle.cmm_emit_laws.specs.Finished.{Finished, code_of}
use Rattle.cmm_emit_laws.specs.NodeCode.{IsOperandOf}

module _ (s : Setting) (c : Compiled) (l : Launch) (f : Finished) where
  abbrev pub AreNumbersOf : ℕ → List Operand → List CodeOperand → Type 0
  AreNumbersOf q [] [] = Unit {0}
  AreNumbersOf q (o ∷ os) (a ∷ others) = IsOperandOf s c l f q o a × AreNumbersOf q os others
  AreNumbersOf q _ _ = ⊥

  -- The values go out, and the stub of the unit, which calls the client, is called with the return address of the site.
  pub record YieldCode (q : ℕ) (n : NodeId) (site : ℕ) (values : List Operand) (most : ℕ) : Type 0 where
    pub operands : List CodeOperand
    pub are : AreNumbersOf q values operands
    pub few_values : length operands ≤ 64
    pub quiet : BeginsQuietly (code_of l f q) (f.node_at q n)
    pub back : Label
    pub is_back : f.labels q back.number ≡ f.symbols.return_to q site
    pub stub : Label
    pub on : ℕ
    pub calls : Calls (c.plan.frame q) operands stub back (code_of l f q) (f.node_at q n) on
    pub client : AsksFor 1 (λ t. request.Yield) (code_of l f q) (f.labels q stub.number)
    pub few : 12 * length operands + 2 + 1 ≤ most

-- a node that yields does so with as many values as its site says
abbrev pub HaveYields : Setting → Compiled → Type 0
HaveYields s c = (q : ℕ) (n : NodeId) (site : SiteId) (values : List Operand) (exits : Exits) (p : Proc) (here : Site) →
    kind_at c.graphs q n ≡ node.Yield site values exits →
    procedure_at s q ≡ Some p → slice_get p.sites site.number ≡ Some here → here.yield_values ≡ Some (length values)

-- each site of a procedure has a node with its alternate exits
abbrev pub HaveSiteExits : Setting → Compiled → Type 0
HaveSiteExits s c = (q number : ℕ) (p : Proc) (site : Site) → procedure_at s q ≡ Some p → slice_get p.sites number ≡ Some site →
    (exits : Exits) × (site_exits c.graphs q number ≡ Some exits) × (numbers_of exits.returns ≡ site.returns)
