-- What is passed, and a yield for a divisor.
use Rattle.std.specs.Prelude.{◌≡◌, ℕ, true, false, List, [], ◌∷◌, slice_get, Option, Some, None}
use Rattle.cmm_words.specs.Words.{is_division}
use Rattle.cmm_words.specs.declared.constant.Constant.TheVariants.{Number}
use Rattle.cmm_words.specs.declared.operators.Op2.{Op2}
use Rattle.cmm_words.specs.declared.width.Width.{Width}
use Rattle.cmm_words.specs.declared.width.Width.TheVariants.{W64}
use Rattle.cmm_program.specs.declared.expression.Expression.{Expression}
use Rattle.cmm_program.specs.declared.procedure.Proc.{Proc}
use Rattle.cmm_program.specs.declared.procedure.Site.{Site}
use Rattle.cmm_program.specs.declared.procedure.Target.{Target}
use Rattle.cmm_graph.specs.declared.number.NodeId.{NodeId}
use Rattle.cmm_graph.specs.declared.operand.Operand.TheVariants.{Constant}
use Rattle.cmm_graph.specs.declared.node.Exits.{Exits}
use Rattle.cmm_graph.specs.declared.node.Node.{Node}
use Rattle.cmm_graph.specs.declared.node.NodeKind.TheVariants.{CopyIn, Yield}
use Rattle.cmm_flow.specs.Code.{IsNode, OperandCode, OperandsCode}
use Rattle.cmm_flow.specs.Statements.{ExitsCode, ZeroCode}

module _ (nodes : List Node) where
  -- what is called, jumped to or cut to, and what is passed
  abbrev pub PassingCode : Expression → List Expression → NodeId → NodeId → Type 0
  PassingCode to actuals n k = (m : NodeId) × OperandCode nodes to 0 n m × OperandsCode nodes actuals 1 m k

  -- a normal exit leads to a CopyIn
  pub record IsCopyIn (n : NodeId) : Type 0 where
    pub tokens : ℕ
    pub to : List Target
    pub next : NodeId
    pub node : IsNode nodes n tokens (CopyIn to next)

  abbrev pub IsNormal : Option NodeId → Type 0
  IsNormal None = Unit {0}
  IsNormal (Some n) = IsCopyIn n

  -- the exits of a site, and where the normal one leads
  abbrev pub ExitsLead : Option Site → Exits → NodeId → Type 0
  ExitsLead site exits k = ExitsCode nodes site exits k × IsNormal exits.normal

  -- a yield of the number 1
  abbrev pub YieldOne : Proc → ℕ → ℕ → NodeId → NodeId → Type 0
  YieldOne q tokens site n k =
      (exits : Exits) × IsNode nodes n tokens (Yield record { number = site } (Constant (Number 1 W64) ∷ []) exits)
      × ExitsCode nodes (slice_get q.sites site) exits k

  -- a division that is guarded, where its operator needs that
  abbrev pub GuardCode : Proc → ℕ → ℕ → ℕ → Op2 → Width → Expression → NodeId → NodeId → NodeId → Type 0
  GuardCode q tokens used site op width divisor n division k =
      elim (is_division op) [ true ↦ ZeroCode nodes q tokens used site width divisor n division k | false ↦ n ≡ division ]
