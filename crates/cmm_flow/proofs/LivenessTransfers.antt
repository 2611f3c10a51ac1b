-- The code of a statement that leaves its procedure or waits at a site, as the paths of liveness see it.
use Rattle.std.proofs.Math.Bool.{or-false, or_comm}
use Rattle.std.proofs.Common.{◌≡◌, ℕ, ◌||◌, Bool, false, IsTrue, IsFalse, Some, None, List, [], ◌∷◌, ◌++◌, length, map, slice_get, refl, ap, sym, ◌∙◌, subst}
use Rattle.std.specs.List.{list_all}
use Rattle.cmm_program.proofs.Shared.{all_get, list_all_get}
use Rattle.cmm_program.specs.declared.expression.Expression.{Expression}
use Rattle.cmm_program.specs.declared.procedure.Proc.{Proc}
use Rattle.cmm_program.specs.declared.program.Program.{Program}
use Rattle.cmm_program.specs.declared.statement.Statement.{Statement}
use Rattle.cmm_program.specs.InRange.{IsProcInRange, below, is_site}
use Rattle.cmm_program.specs.Liveness.{Way, exits, exits_at, is_among, read_by, read_by_all, to_continuation}
use Rattle.cmm_graph.specs.declared.graph.Graph.{Graph}
use Rattle.cmm_graph.specs.declared.node.Exits.{Exits}
use Rattle.cmm_graph.specs.declared.node.NodeKind.{NodeKind}
use Rattle.cmm_graph.specs.declared.node.NodeKind.TheVariants as kind
use Rattle.cmm_graph.specs.declared.number.ContinuationId.{ContinuationId}
use Rattle.cmm_graph.specs.declared.number.NodeId.{NodeId}
use Rattle.cmm_graph.specs.Counterpart.{AreExitsOf, HasSite, numbers_of}
use Rattle.cmm_graph.specs.Paths.{exit_nodes, landings, values_of}
use Rattle.cmm_flow.specs.Code.{IsNode, OperandCode, OperandsCode}
use Rattle.cmm_flow.specs.Flow.{IsFlowOf}
use Rattle.cmm_flow.specs.Operands.{arguments_of, operand_of, operands_of}
use Rattle.cmm_flow.specs.Liveness.{HasLandingsOf}
use Rattle.cmm_flow.specs.Statements.{CallCode, CutCode, JumpCode, ExitsCode, ReturnCode, YieldCode}
use Rattle.cmm_flow.proofs.LivenessExits.{AreExits, by_landing, exits_by, exits_to, to_landing}
use Rattle.cmm_flow.proofs.LivenessExpressions.{alone, operand_piece, operands_piece, values_passed}
use Rattle.cmm_flow.proofs.LivenessMembers.{Among, is_among-append}
use Rattle.cmm_flow.proofs.LivenessPieces.{Piece, any_operand, any_read, last_node, left_as, node_piece, read_as}
use Rattle.cmm_flow.proofs.LivenessStatements.{Code, Stands, no_way, stands_by}

-- continuations by their numbers
numbered : (own : List ℕ) → numbers_of (map (λ k. record { number = k }) own) ≡ own
numbered [] = refl
numbered (k ∷ ks) = ap (λ ns. k ∷ ns) (numbered ks)

module _ (p : Program) (q : Proc) (g : Graph) (range : IsProcInRange p q) (graph : HasLandingsOf q g) (flow : IsFlowOf q g) (v : ℕ) where
  abbrev pub StandsAt : NodeId → Bool → List Way → Type 0
  StandsAt = Stands q g flow.label_node v

  abbrev pub IsCode : List Statement → NodeId → Type 0
  IsCode = Code q g flow.label_node v

  -- ---- the exits of a node that waits

  pub has_site : (n : NodeId) (tokens : ℕ) (kind : NodeKind) → IsNode g.nodes n tokens kind → HasSite q g kind
  has_site n tokens kind is = all_get (λ node. HasSite q g node.kind) g.nodes n.number (record { tokens = tokens; kind = kind }) graph.sites is

  pub are_exits : (n : ℕ) (ends : Exits) (k : NodeId) (rest : List Statement) (of : AreExitsOf q g (record { number = n }) ends) →
      ExitsCode g.nodes (slice_get q.sites n) ends k → IsCode rest k → AreExits p q g graph flow v ends of.site rest
  are_exits n ends k rest of normal code = record {
    in_range = list_all_get (is_site p q) q.sites n of.site range.sites of.is_site;
    returns = of.returns;
    unwinds = of.unwinds;
    cuts = of.cuts;
    behind = k;
    normal = subst (λ o. ExitsCode g.nodes o ends k) of.is_site normal;
    code = code;
  }

  abbrev Exit : Exits → NodeId → Type 0
  Exit ends m = Among (exit_nodes g ends) m

  waits : (n : NodeId) (site : ℕ) (ends : Exits) (k : NodeId) (rest : List Statement) (read : Bool) → AreExitsOf q g (record { number = site }) ends →
      ExitsCode g.nodes (slice_get q.sites site) ends k → IsCode rest k → Piece g v 1 n read (Exit ends) → StandsAt n read (exits_at q site rest)
  waits n site ends k rest read of normal code piece =
      let are = are_exits site ends k rest of normal code in
      subst (λ o. StandsAt n read (elim o as (λ _. List Way) [ Some site ↦ exits q site rest | None ↦ [] ])) (sym of.is_site)
      (stands_by q g flow.label_node v n read (exits q of.site rest) (Exit ends) piece
      (λ way among unwritten. exits_to p q g graph flow v ends of.site rest are way among) (exits_by p q g graph flow v ends of.site rest are))

  -- a node that names an operand and passes values, from where the code of both begins
  passes : (first : Expression) (others : List Expression) (n m j : NodeId) (X : NodeId → Type 0) → OperandCode g.nodes first 0 n m →
      OperandsCode g.nodes others 1 m j → Piece g v 1 j (any_operand v (operand_of 0 first ∷ values_of (arguments_of 1 others))) X →
      Piece g v 1 n (is_among v (read_by first ++ read_by_all others)) X
  passes first others n m j X code more piece =
      let x = any_read v (operand_of 0 first) in
      let y = any_operand v (operands_of 1 others) in
      let reads = is_among v (read_by_all others) in
      let named = ap (λ os. x || any_operand v os) (values_passed 1 others) ∙ or_comm x y in
      let second = operands_piece g v others 1 1 m j x X more (read_as g v (y || x) named piece) in
      read_as g v (is_among v (read_by first ++ read_by_all others)) (sym (is_among-append v (read_by first) (read_by_all others)))
      (operand_piece g v first 0 1 n m reads X code (read_as g v (x || reads) (or_comm reads x) second))

  -- a node that waits leads to its exits
  to_exits : (n : NodeId) (r : Bool) (ends : Exits) → Piece g v 1 n r (λ m. IsFalse false × Exit ends m) → Piece g v 1 n r (Exit ends)
  to_exits n r ends piece = left_as g v (Exit ends) (λ m is. is.1) (λ m is. (refl, is)) piece

  pub call_stands : (tokens site : ℕ) (callee : Expression) (actuals : List Expression) (n k : NodeId) (rest : List Statement) →
      CallCode g.nodes q tokens site callee actuals n k → IsCode rest k → StandsAt n (is_among v (read_by callee ++ read_by_all actuals)) (exits_at q site rest)
  call_stands tokens site callee actuals n k rest code behind =
      let call = kind.Call (record { number = site }) (operand_of 0 callee) (arguments_of 1 actuals) code.2 in
      let piece = to_exits code.1 _ code.2 (node_piece g v code.1 _ call code.5) in
      waits n site code.2 k rest (is_among v (read_by callee ++ read_by_all actuals)) (has_site code.1 _ call code.5) code.6 behind
      (passes callee actuals n code.0 code.1 (Exit code.2) code.3 code.4 piece)

  pub yield_stands : (tokens site : ℕ) (values : List Expression) (n k : NodeId) (rest : List Statement) → YieldCode g.nodes q tokens site values n k →
      IsCode rest k → StandsAt n (is_among v (read_by_all values)) (exits_at q site rest)
  yield_stands tokens site values n k rest code behind =
      let wait = kind.Yield (record { number = site }) (operands_of 0 values) code.1 in
      let piece = to_exits code.0 _ code.1 (node_piece g v code.0 _ wait code.3) in
      let asked = any_operand v (operands_of 0 values) in
      waits n site code.1 k rest (is_among v (read_by_all values)) (has_site code.0 _ wait code.3) code.4 behind
      (alone g v (is_among v (read_by_all values))
      (operands_piece g v values 0 1 n code.0 false (Exit code.1) code.2 (read_as g v (asked || false) (sym (or-false asked)) piece)))

  -- ---- without a site

  pub jump_stands : (tokens : ℕ) (callee : Expression) (actuals : List Expression) (n : NodeId) → JumpCode g.nodes tokens callee actuals n →
      StandsAt n (is_among v (read_by callee ++ read_by_all actuals)) []
  jump_stands tokens callee actuals n code =
      no_way q g flow.label_node v n (is_among v (read_by callee ++ read_by_all actuals))
      (passes callee actuals n code.0 code.1 (λ m. ⊥) code.2 code.3
      (last_node g v code.1 _ (kind.Jump (operand_of 0 callee) (arguments_of 1 actuals)) code.4 refl))

  pub return_stands : (tokens exit alternates : ℕ) (values : List Expression) (n : NodeId) → ReturnCode g.nodes tokens exit alternates values n →
      StandsAt n (is_among v (read_by_all values)) []
  return_stands tokens exit alternates values n code =
      let asked = any_operand v (operands_of 0 values) in
      let named = ap (any_operand v) (values_passed 0 values) ∙ sym (or-false asked) in
      no_way q g flow.label_node v n (is_among v (read_by_all values))
      (alone g v (is_among v (read_by_all values))
      (operands_piece g v values 0 1 n code.0 false (λ m. ⊥) code.1
      (read_as g v (asked || false) named (last_node g v code.0 _ (kind.Return exit alternates (arguments_of 0 values)) code.2 refl))))

  -- a cut to the procedure's own continuations
  pub cut_stands : (tokens : ℕ) (to : Expression) (values : List Expression) (own : List ℕ) (n : NodeId) → CutCode g.nodes tokens to values own n →
      IsTrue (list_all (below (length q.conts)) own) → StandsAt n (is_among v (read_by to ++ read_by_all values)) (map (to_continuation q) own)
  cut_stands tokens to values own n code all =
      let ks : List ContinuationId = map (λ k. record { number = k }) own in
      let piece = left_as g v (λ m. Among (landings g ks) m) (λ m is. is.1) (λ m is. (refl, is))
      (node_piece g v code.1 _ (kind.Cut (operand_of 0 to) (arguments_of 1 values) ks) code.4) in
      stands_by q g flow.label_node v n (is_among v (read_by to ++ read_by_all values)) (map (to_continuation q) own) (λ m. Among (landings g ks) m)
      (passes to values n code.0 code.1 (λ m. Among (landings g ks) m) code.2 code.3 piece)
      (λ way among unwritten. to_landing p q g graph flow v ks own (numbered own) all way among) (by_landing p q g graph flow v ks own (numbered own) all)
