-- The code of a checked operator as the paths of liveness see it: it goes on behind the statement, or waits at its site.
use Rattle.cmm_program.proofs.Shared.{or_left_comm}
use Rattle.std.proofs.Math.Bool.{or-false}
use Rattle.std.proofs.Common.{◌≡◌, ◌⊎◌, inl, inr, ℕ, ◌+◌, ◌&&◌, ◌||◌, ◌==◌, Bool, true, false, IsFalse, Option, Some, None, List, [], ◌∷◌, ◌++◌, append-nil, flat_map, length, slice_get, refl, ap, sym, ◌∙◌, subst, arith}
use Rattle.std.proofs.lemmas.Bool.{and_parts, eqb-true}
use Rattle.cmm_words.specs.Words.{is_division}
use Rattle.cmm_words.specs.declared.constant.Constant.TheVariants.{Number}
use Rattle.cmm_words.specs.declared.operators.Cmp.TheVariants.{Eq}
use Rattle.cmm_words.specs.declared.operators.Op2.{Op2}
use Rattle.cmm_words.specs.declared.width.Width.{Width}
use Rattle.cmm_words.specs.declared.width.Width.TheVariants.{W64}
use Rattle.cmm_program.specs.declared.expression.Expression.{Expression}
use Rattle.cmm_program.specs.declared.procedure.Proc.{Proc}
use Rattle.cmm_program.specs.declared.procedure.Site.{Site}
use Rattle.cmm_program.specs.declared.procedure.Target.{Target}
use Rattle.cmm_program.specs.declared.program.Program.{Program}
use Rattle.cmm_program.specs.declared.statement.Statement.{Statement}
use Rattle.cmm_program.specs.InRange.{IsProcInRange, at_site, is_checked_site, is_yield_site}
use Rattle.cmm_program.specs.Liveness.{Way, checked_ways, exits, is_among, read_by, to_next, written_to}
use Rattle.cmm_program.specs.Orders.{target_width}
use Rattle.cmm_program.specs.Todo.{site_results}
use Rattle.cmm_program.specs.Typing.{same_width}
use Rattle.cmm_graph.specs.declared.graph.Graph.{Graph}
use Rattle.cmm_graph.specs.declared.node.Exits.{Exits}
use Rattle.cmm_graph.specs.declared.node.NodeKind.TheVariants as kind
use Rattle.cmm_graph.specs.declared.number.NodeId.{NodeId}
use Rattle.cmm_graph.specs.declared.operand.Operand.TheVariants.{Constant}
use Rattle.cmm_graph.specs.declared.operand.Rvalue.TheVariants as rvalue
use Rattle.cmm_graph.specs.Counterpart.{AreExitsOf}
use Rattle.cmm_graph.specs.Paths.{exit_nodes, written_to_destination}
use Rattle.cmm_flow.specs.Code.{IsNode, OperandCode}
use Rattle.cmm_flow.specs.Flow.{IsFlowOf}
use Rattle.cmm_flow.specs.Operands.{operand_of}
use Rattle.cmm_flow.specs.Liveness.{HasLandingsOf}
use Rattle.cmm_flow.specs.Statements.{CheckedCode, ZeroCode, first_result, normal_tokens, operator_nodes, remaining}
use Rattle.cmm_flow.proofs.LivenessExits.{AreExits, exits_by, exits_to, target_writes}
use Rattle.cmm_flow.proofs.LivenessExpressions.{branch_piece, operand_piece}
use Rattle.cmm_flow.proofs.LivenessMembers.{Among, is_among-append}
use Rattle.cmm_flow.proofs.LivenessPieces.{Piece, any_local, any_read, fewer, left_as, node_piece, one_node, read_as, then_either}
use Rattle.cmm_flow.proofs.LivenessTransfers.{IsCode, StandsAt, are_exits, has_site}
use Rattle.cmm_flow.proofs.LivenessStatements.{ByWay, ToNode, settled, stands_by}

-- the operands are read once more behind the test
checked_reads : (x y : Bool) → ((y || false) || (x || (y || false))) ≡ (y || (x || false))
checked_reads true true = refl
checked_reads true false = refl
checked_reads false true = refl
checked_reads false false = refl

-- whether the results of a site are those of a checked operator
abbrev is_one_result : Width → List Target → Bool
is_one_result width ts = elim ts [ [] ↦ false | target ∷ more ↦ same_width (target_width target) width && (length more == 0) ]

-- the one result is written
result_written : (v : ℕ) (width : Width) (ts : List Target) → is_one_result width ts ≡ true →
    any_local v (written_to_destination (first_result ts)) ≡ is_among v (flat_map written_to ts)
result_written v width [] is = absurd (cc)
result_written v width (t ∷ []) is = target_writes v t ∙ ap (is_among v) (sym (append-nil (written_to t)))
result_written v width (t ∷ u ∷ ts) is = let none = eqb-true (length (u ∷ ts)) 0 (and_parts (same_width (target_width t) width) (length (u ∷ ts) == 0) is).1 in absurd (omega (arith, none))

module _ (p : Program) (q : Proc) (g : Graph) (range : IsProcInRange p q) (graph : HasLandingsOf q g) (flow : IsFlowOf q g) (v : ℕ) where
  abbrev Reached : List Way → NodeId → Type 0
  Reached = ByWay q g flow.label_node v

  abbrev Reaching : (NodeId → Type 0) → Way → Type 0
  Reaching = ToNode q g flow.label_node v

  -- what a checked operator's code leads to: its exits, and what is behind it unless its result is the variable
  abbrev Left : Exits → Bool → NodeId → NodeId → Type 0
  Left ends written k m = Among (exit_nodes g ends) m ⊎ (IsFalse written × (k ≡ m))

  checked_piece : (site : ℕ) (op : Op2) (width : Width) (left right : Expression) (n m j d y k : NodeId) (divides_at tokens : ℕ) (ends : Exits) →
      OperandCode g.nodes left 0 n m → OperandCode g.nodes right 1 m j →
      IsNode g.nodes d divides_at (kind.Assign (first_result (site_results q site)) (rvalue.Binary op width (operand_of 0 left) (operand_of 1 right)) k) →
      IsNode g.nodes j 1 (kind.Branch record { operator = Eq; width = width; left = operand_of 1 right; right = Constant (Number 0 width) } y d) →
      IsNode g.nodes y tokens (kind.Yield record { number = site } (Constant (Number 1 W64) ∷ []) ends) →
      Piece g v 1 n (is_among v (read_by left ++ read_by right)) (Left ends (any_local v (written_to_destination (first_result (site_results q site)))) k)
  checked_piece site op width left right n m j d y k divides_at tokens ends to_left to_right divides tests yields =
      let written = any_local v (written_to_destination (first_result (site_results q site))) in
      let a = any_read v (operand_of 0 left) in
      let b = any_read v (operand_of 1 right) in
      let reads_left = is_among v (read_by left) in
      let reads_right = is_among v (read_by right) in
      let last = one_node g v d k divides_at (kind.Assign (first_result (site_results q site)) (rvalue.Binary op width (operand_of 0 left) (operand_of 1 right)) k) divides refl in
      let waits = left_as g v (λ m. Among (exit_nodes g ends) m) (λ m is. is.1) (λ m is. (refl, is))
      (node_piece g v y tokens (kind.Yield record { number = site } (Constant (Number 1 W64) ∷ []) ends) yields) in
      let test = then_either g v (branch_piece g v j record { operator = Eq; width = width; left = operand_of 1 right; right = Constant (Number 0 width) } y d tests)
      (fewer g v 1 0 (omega arith) waits) (fewer g v 1 0 (omega arith) last) in
      let second = operand_piece g v right 1 1 m j (a || false) (Left ends written k) to_right (read_as g v (b || (a || false)) (checked_reads a b) test) in
      let first = operand_piece g v left 0 1 n m (reads_right || false) (Left ends written k) to_left
      (read_as g v (a || (reads_right || false)) (or_left_comm reads_right a false) second) in
      read_as g v (is_among v (read_by left ++ read_by right))
      (ap (λ c. reads_left || c) (or-false reads_right) ∙ sym (is_among-append v (read_by left) (read_by right))) first

  -- where that leads
  checked_leads : (n k : NodeId) (read written : Bool) (ends : Exits) (site : Site) (rest : List Statement) → AreExits p q g graph flow v ends site rest →
      IsCode p q g range graph flow v rest k → written ≡ is_among v (flat_map written_to site.results) → Piece g v 1 n read (Left ends written k) →
      StandsAt p q g range graph flow v n read (to_next site rest ∷ exits q site rest)
  checked_leads n k read written ends site rest are behind is piece =
      stands_by q g flow.label_node v n read (to_next site rest ∷ exits q site rest) (Left ends written k) piece there back
    where
      there : (way : Way) → Among (to_next site rest ∷ exits q site rest) way → IsFalse (is_among v way.written) → Reaching (Left ends written k) way
      there way (inl same) unwritten =
          let quiet : IsFalse (is_among v (flat_map written_to site.results)) = subst (λ (w : Way). IsFalse (is_among v w.written)) (sym same) unwritten in
          subst (Reaching (Left ends written k)) same
          (record { at = k; is_one = inr (is ∙ quiet, refl); arrives = settled q g flow.label_node v k (to_next site rest) quiet behind })
      there way (inr later) unwritten =
          let found = exits_to p q g graph flow v ends site rest are way later in
          record { at = found.at; is_one = inl found.is_one; arrives = found.arrives }

      back : (m : NodeId) → Left ends written k m → Reached (to_next site rest ∷ exits q site rest) m
      back m (inl among) =
          let found = exits_by p q g graph flow v ends site rest are m among in
          record { way = found.way; is_one = inr found.is_one; arrives = found.arrives }
      back m (inr (quiet, same)) = subst (Reached (to_next site rest ∷ exits q site rest)) same
          (record { way = to_next site rest; is_one = inl refl; arrives = settled q g flow.label_node v k (to_next site rest) (sym is ∙ quiet) behind })

  pub checked_stands : (tokens site : ℕ) (op : Op2) (width : Width) (left right : Expression) (n k : NodeId) (rest : List Statement) →
      CheckedCode g.nodes q tokens site op width left right n k → IsCode p q g range graph flow v rest k → is_division op ≡ true →
      at_site p q site (is_checked_site p q width) ≡ true →
      StandsAt p q g range graph flow v n (is_among v (read_by left ++ read_by right)) (checked_ways q site rest)
  checked_stands tokens site op width left right n k rest code behind divides one =
      by (subst (λ b. elim b as (λ _. Type 0) [
        | true ↦ ZeroCode g.nodes q tokens (operator_nodes width left right) site width right code.1 code.2 k
        | false ↦ code.1 ≡ code.2
      ]) divides code.6)
    where
      by : ZeroCode g.nodes q tokens (operator_nodes width left right) site width right code.1 code.2 k →
          StandsAt p q g range graph flow v n (is_among v (read_by left ++ read_by right)) (checked_ways q site rest)
      by zero =
          let wait = kind.Yield record { number = site } (Constant (Number 1 W64) ∷ []) zero.1 in
          let of : AreExitsOf q g record { number = site } zero.1 = has_site p q g range graph flow v zero.0 _ wait zero.3 in
          let are = are_exits p q g range graph flow v site zero.1 k rest of zero.4 behind in
          let checked : is_checked_site p q width of.site ≡ true =
          subst (λ o. elim o as (λ _. Bool) [ Some site ↦ is_checked_site p q width site | None ↦ false ] ≡ true) of.is_site one in
          let results : site_results q site ≡ of.site.results =
          ap (λ (o : Option Site). elim o as (λ _. List Target) [ Some site ↦ site.results | None ↦ [] ]) of.is_site in
          let written = ap (λ ts. any_local v (written_to_destination (first_result ts))) results ∙ result_written v width of.site.results (and_parts (is_yield_site p q 1 of.site) (is_one_result width of.site.results) checked).1 in
          let piece = checked_piece site op width left right n code.0 code.1 code.2 zero.0 k _ (remaining tokens (operator_nodes width left right + 1 + normal_tokens (slice_get q.sites site))) zero.1 code.3 code.4 code.5 zero.2 zero.3 in
          subst (λ o. StandsAt p q g range graph flow v n (is_among v (read_by left ++ read_by right))
          (elim o as (λ _. List Way) [ Some site ↦ to_next site rest ∷ exits q site rest | None ↦ [] ])) (sym of.is_site)
          (checked_leads n k (is_among v (read_by left ++ read_by right)) _ zero.1 of.site rest are behind written piece)
