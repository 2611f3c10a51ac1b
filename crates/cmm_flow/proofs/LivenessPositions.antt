-- A variable is read from statements that are still to do just where it is live before the node at which their code begins.
use Rattle.std.proofs.Common.{◌⊎◌, ◌↔◌, inl, inr, ℕ, zero, suc, ◌≤◌, ◌&&◌, IsTrue, List, [], ◌∷◌, arith}
use Rattle.std.proofs.lemmas.Bool.{and_parts}
use Rattle.std.specs.List.{list_all}
use Rattle.cmm_program.specs.declared.procedure.Proc.{Proc}
use Rattle.cmm_program.specs.declared.program.Program.{Program}
use Rattle.cmm_program.specs.declared.statement.Statement.{Statement}
use Rattle.cmm_program.specs.InRange.{IsProcInRange, is_body_in, is_statement}
use Rattle.cmm_program.specs.Liveness.{Way, is_among, read_in, ways}
use Rattle.cmm_program.specs.LivePaths.{IsReadFrom, Here, Onward}
use Rattle.cmm_graph.specs.declared.graph.Graph.{Graph}
use Rattle.cmm_graph.specs.declared.number.NodeId.{NodeId}
use Rattle.cmm_flow.specs.Flow.{IsFlowOf}
use Rattle.cmm_flow.specs.Liveness.{AreInRange, CodeKeepsLiveness, HasLandingsOf}
use Rattle.cmm_flow.proofs.LivenessForms.{form_stands, nothing_lives}
use Rattle.cmm_flow.proofs.LivenessMembers.{Among, among_of, contains_of}
use Rattle.cmm_flow.proofs.LivenessPieces.{Live, Within, all_of, path_length}
use Rattle.cmm_flow.proofs.LivenessRanges.{AllPass, ways_lead}
use Rattle.cmm_flow.proofs.LivenessTransfers.{IsCode, StandsAt}
use Rattle.cmm_flow.proofs.LivenessStatements.{Goes}

module _ (p : Program) (q : Proc) (g : Graph) (range : IsProcInRange p q) (graph : HasLandingsOf q g) (flow : IsFlowOf q g) (v : ℕ) where
  abbrev Good : List Statement → Type 0
  Good = AllPass (is_statement p q)

  abbrev Begins : List Statement → NodeId → Type 0
  Begins = IsCode p q g range graph flow v

  stands : (s : Statement) (rest : List Statement) (n : NodeId) → Good (s ∷ rest) → Begins (s ∷ rest) n →
      StandsAt p q g range graph flow v n (is_among v (read_in s.form)) (ways q s.form rest)
  stands s rest n good code = form_stands p q g range graph flow v s.tokens s.form n code.0 rest code.1 code.2 (and_parts _ _ good.0).0

  after : (s : Statement) (rest : List Statement) → Good (s ∷ rest) → (way : Way) → Among (ways q s.form rest) way → Good way.to
  after s rest good way among = ways_lead (is_statement p q) q range.body rest good.2 s.form good.1 way among

  pub read_is_live : (rest : List Statement) → IsReadFrom q v rest → (n : NodeId) → Good rest → Begins rest n → Live g v n
  read_is_live _ (Here s rest read) n good code = (stands s rest n good code).now read
  read_is_live _ (Onward s rest way leads unwritten path) n good code =
      let among = among_of (ways q s.form rest) way leads in
      let reached = (stands s rest n good code).on way among unwritten in
      reached.on (read_is_live way.to path reached.to (after s rest good way among) reached.code)

  pub live_is_read : (most d : ℕ) → d ≤ most → (rest : List Statement) (n : NodeId) → Good rest → Begins rest n → Within g v d n → IsReadFrom q v rest
  live_is_read most d less [] n good code within = absurd (nothing_lives p q g range graph flow v n code d within)
  live_is_read zero d less (s ∷ rest) n good code within = by ((stands s rest n good code).back d within)
    where
      by : IsTrue (is_among v (read_in s.form)) ⊎ Goes q g flow.label_node v d (ways q s.form rest) → IsReadFrom q v (s ∷ rest)
      by (inl read) = Here s rest read
      by (inr goes) = absurd (omega (arith, goes.less, less))
  live_is_read (suc most) d less (s ∷ rest) n good code within =
      by (λ e less to m good code within. live_is_read most e less to m good code within) ((stands s rest n good code).back d within)
    where
      by : ((e : ℕ) → e ≤ most → (to : List Statement) (m : NodeId) → Good to → Begins to m → Within g v e m → IsReadFrom q v to) →
          IsTrue (is_among v (read_in s.form)) ⊎ Goes q g flow.label_node v d (ways q s.form rest) → IsReadFrom q v (s ∷ rest)
      by later (inl read) = Here s rest read
      by later (inr goes) =
          Onward s rest goes.way (contains_of (ways q s.form rest) goes.way goes.is_one) goes.unwritten
          (later goes.left (omega (arith, goes.less, less)) goes.way.to goes.to (after s rest good goes.way goes.is_one) goes.code goes.rest)

  pub live_before : (rest : List Statement) (n : NodeId) → Good rest → Begins rest n → IsReadFrom q v rest ↔ Live g v n
  live_before rest n good code = (
    λ read. read_is_live rest read n good code,
    λ live. live_is_read (path_length g v n live) (path_length g v n live) (omega arith) rest n good code (all_of g v n live),
  )

-- statements in range, with those inside them
in_range : (p : Program) (q : Proc) (rest : List Statement) → AreInRange p q rest → AllPass (is_statement p q) rest
in_range p q [] all = tt
in_range p q (s ∷ rest) all =
    let both = and_parts (is_statement p q s && is_body_in p q s.form) (list_all (λ s. is_statement p q s && is_body_in p q s.form) rest) all in
    let here = and_parts (is_statement p q s) (is_body_in p q s.form) both.0 in (here.0, here.1, in_range p q rest both.1)

pub code_keeps_liveness : CodeKeepsLiveness
code_keeps_liveness p q g flows rest n v good code = live_before p q g flows.range flows.graph flows.flow v rest n (in_range p q rest good) code
