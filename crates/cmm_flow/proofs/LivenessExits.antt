-- The exits of a site lead to the landings of its continuations and to the CopyIn of its normal exit, and these write what the ways
-- from the site write.
use Rattle.std.proofs.Common.{◌≡◌, ◌⊎◌, inl, inr, ℕ, ◌<◌, ◌||◌, Bool, true, false, IsTrue, IsFalse, suc, Option, Some, None, List, [], ◌∷◌, ◌++◌, flat_map, map, length, slice_get, refl, ap, sym, ◌∙◌, subst, arith}
use Rattle.std.specs.Option.{option_map}
use Rattle.std.proofs.lemmas.Bool.{and_parts, ltb-true}
use Rattle.std.proofs.lemmas.Option.{slice_get-map}
use Rattle.std.specs.List.{list_all}
use Rattle.cmm_program.specs.declared.procedure.Cont.{Cont}
use Rattle.cmm_program.specs.declared.procedure.Proc.{Proc}
use Rattle.cmm_program.specs.declared.procedure.Site.{Site}
use Rattle.cmm_program.specs.declared.procedure.Target.{Target}
use Rattle.cmm_program.specs.declared.procedure.Target.TheVariants as target
use Rattle.cmm_program.specs.declared.program.Program.{Program}
use Rattle.cmm_program.specs.declared.statement.Statement.{Statement}
use Rattle.cmm_program.specs.Errors.{with_some}
use Rattle.cmm_program.specs.Exits.{variable_width}
use Rattle.cmm_program.specs.InRange.{below, is_site}
use Rattle.cmm_program.specs.Liveness.{Way, exits, is_among, to_continuation, to_next, written_to}
use Rattle.cmm_graph.specs.declared.graph.Graph.{Graph}
use Rattle.cmm_graph.specs.declared.node.Exits.{Exits}
use Rattle.cmm_graph.specs.declared.node.NodeKind.TheVariants.{CopyIn}
use Rattle.cmm_graph.specs.declared.number.ContinuationId.{ContinuationId}
use Rattle.cmm_graph.specs.declared.number.NodeId.{NodeId}
use Rattle.cmm_graph.specs.Counterpart.{numbers_of, parameter_targets, taken_at, taken_by}
use Rattle.cmm_graph.specs.Paths as paths
use Rattle.cmm_graph.specs.Paths.{exit_nodes, if_there, landing_of, landings, node_of}
use Rattle.cmm_flow.specs.Code.{IsNode}
use Rattle.cmm_flow.specs.Flow.{IsFlowOf}
use Rattle.cmm_flow.specs.Liveness.{HasLandingsOf}
use Rattle.cmm_flow.specs.Statements.{ExitsCode}
use Rattle.cmm_flow.proofs.LivenessMembers.{Among, all_among, among_flat, among_left, among_map, among_more, among_parts, among_right, among_unflat, among_unmap, is_among-append}
use Rattle.cmm_flow.proofs.LivenessPieces.{Gone, Piece, Within, any_local, any_local-append, longer, one_node}
use Rattle.cmm_flow.proofs.LivenessStatements.{Arrives, ByWay, Code, ToNode}

-- a target is written by a node just where it is by a way
pub target_writes : (v : ℕ) (t : Target) → any_local v (paths.written_to t) ≡ is_among v (written_to t)
target_writes v (target.Variable number width) = refl
target_writes v (target.Register number width) = refl

targets_write : (v : ℕ) (ts : List Target) → any_local v (flat_map paths.written_to ts) ≡ is_among v (flat_map written_to ts)
targets_write v [] = refl
targets_write v (t ∷ ts) =
    any_local-append v (paths.written_to t) (flat_map paths.written_to ts)
    ∙ ap (λ b. b || any_local v (flat_map paths.written_to ts)) (target_writes v t) ∙ ap (λ b. is_among v (written_to t) || b) (targets_write v ts)
    ∙ sym (is_among-append v (written_to t) (flat_map written_to ts))

-- the targets of parameters are the parameters
parameters_written : (q : Proc) (ns : List ℕ) → flat_map written_to (map (λ n. target.Variable n (variable_width q n)) ns) ≡ ns
parameters_written q [] = refl
parameters_written q (n ∷ ns) = ap (λ ms. n ∷ ms) (parameters_written q ns)

module _ (p : Program) (q : Proc) (g : Graph) (graph : HasLandingsOf q g) (flow : IsFlowOf q g) (v : ℕ) where
  abbrev Comes : NodeId → Way → Type 0
  Comes = Arrives q g flow.label_node v

  abbrev Reaching : (NodeId → Type 0) → Way → Type 0
  Reaching = ToNode q g flow.label_node v

  abbrev Reached : List Way → NodeId → Type 0
  Reached = ByWay q g flow.label_node v

  abbrev CodeOf : List Statement → NodeId → Type 0
  CodeOf = Code q g flow.label_node v

  reaching_as : (X Y : NodeId → Type 0) (way : Way) → ((m : NodeId) → X m → Y m) → Reaching X way → Reaching Y way
  reaching_as X Y way wider found = record { at = found.at; is_one = wider found.at found.is_one; arrives = found.arrives }

  reached_as : (ws vs : List Way) (n : NodeId) → ((w : Way) → Among ws w → Among vs w) → Reached ws n → Reached vs n
  reached_as ws vs n wider found = record { way = found.way; is_one = wider found.way found.is_one; arrives = found.arrives }

  -- a CopyIn of what a way writes
  copy_in : (n next : NodeId) (tokens : ℕ) (to : List Target) (way : Way) → IsNode g.nodes n tokens (CopyIn to next) →
      is_among v (flat_map written_to to) ≡ is_among v way.written → CodeOf way.to next → Comes n way
  copy_in n next tokens to way is same code = by (one_node g v n next tokens (CopyIn to next) is refl)
    where
      by : Piece g v 1 n false (λ m. IsFalse (any_local v (flat_map paths.written_to to)) × (next ≡ m)) → Comes n way
      by piece = record {
        to = next;
        code = code;
        on = λ unwritten live. piece.on next (targets_write v to ∙ same ∙ unwritten, refl) live;
        back = λ d within. back d (piece.back d within);
      }
        where
          back : (d : ℕ) → IsTrue false ⊎ Gone g v 1 d (λ m. IsFalse (any_local v (flat_map paths.written_to to)) × (next ≡ m)) →
              IsFalse (is_among v way.written) × Within g v d next
          back d (inl is) = absurd (cc)
          back d (inr gone) = (
            sym same ∙ sym (targets_write v to) ∙ gone.by.0,
            longer g v gone.left d next (omega (arith, gone.less)) (subst (Within g v gone.left) (sym gone.by.1) gone.rest),
          )

  -- the landing of a continuation
  landing_comes : (k : ℕ) (at : NodeId) → k < length q.conts → landing_of g record { number = k } ≡ Some at → Comes at (to_continuation q k)
  landing_comes k at less is =
      let land = flow.continuations k less in
      let same : land.at ≡ at = grind (arith, land.landing, is) in
      let taken : taken_at g land.at ≡ Some land.to = ap (λ o. with_some o (λ node. taken_by node.kind)) land.node in
      let there : option_map (λ (c : Cont). Some (parameter_targets q c)) (slice_get q.conts k) ≡ Some (Some land.to) =
      sym (slice_get-map (λ (c : Cont). Some (parameter_targets q c)) q.conts k)
      ∙ ap (λ xs. slice_get xs k) (sym graph.continuations)
      ∙ slice_get-map (taken_at g) g.continuations k ∙ ap (option_map (taken_at g)) land.landing ∙ ap (λ o. Some o) taken in
      subst (λ at. Comes at (to_continuation q k)) same
      (copy_in land.at land.next land.tokens land.to (to_continuation q k) land.node (written land.to (slice_get q.conts k) there) land.code)
    where
      written : (to : List Target) (o : Option Cont) → option_map (λ (c : Cont). Some (parameter_targets q c)) o ≡ Some (Some to) →
          is_among v (flat_map written_to to) ≡ is_among v (elim o as (λ _. List ℕ) [ Some c ↦ c.params | None ↦ [] ])
      written to (Some c) is =
          let same : parameter_targets q c ≡ to = cc in
          ap (λ ts. is_among v (flat_map written_to ts)) (sym same) ∙ ap (is_among v) (parameters_written q c.params)
      written to None is = absurd (cc)

  -- ---- some continuations

  abbrev AreThere : List ℕ → Type 0
  AreThere ns = IsTrue (list_all (below (length q.conts)) ns)

  pub to_landing : (ks : List ContinuationId) (ns : List ℕ) → numbers_of ks ≡ ns → AreThere ns → (way : Way) →
      Among (map (to_continuation q) ns) way → Reaching (λ m. Among (landings g ks) m) way
  to_landing ks ns same all way among =
      let found = among_unmap (to_continuation q) ns way among in
      let less : found.0 < length q.conts = ltb-true found.0 (length q.conts) (all_among (below (length q.conts)) ns found.0 all found.1) in
      let named = among_unmap (λ (k : ContinuationId). k.number) ks found.0 (subst (λ ns. Among ns found.0) (sym same) found.1) in
      let land = flow.continuations found.0 less in
      let at : landing_of g named.0 ≡ Some land.at = ap (slice_get g.continuations) named.2 ∙ land.landing in
      subst (Reaching (λ m. Among (landings g ks) m)) found.2 (record {
        at = land.at;
        is_one = among_flat (λ k. if_there (landing_of g k)) ks named.0 land.at named.1 (rw at (inl refl));
        arrives = landing_comes found.0 land.at less land.landing;
      })

  there_is : (o : Option NodeId) (m : NodeId) → Among (if_there o) m → o ≡ Some m
  there_is (Some a) m (inl is) = ap (λ a. Some a) is
  there_is (Some a) m (inr none) = absurd none
  there_is None m none = absurd none

  pub by_landing : (ks : List ContinuationId) (ns : List ℕ) → numbers_of ks ≡ ns → AreThere ns → (m : NodeId) →
      Among (landings g ks) m → Reached (map (to_continuation q) ns) m
  by_landing ks ns same all m among =
      let found = among_unflat (λ k. if_there (landing_of g k)) ks m among in
      let number = found.0.number in
      let listed : Among ns number = subst (λ ns. Among ns number) same (among_map (λ (k : ContinuationId). k.number) ks found.0 found.1) in
      let less : number < length q.conts = ltb-true number (length q.conts) (all_among (below (length q.conts)) ns number all listed) in
      record {
        way = to_continuation q number;
        is_one = among_map (to_continuation q) ns number listed;
        arrives = landing_comes number m less (there_is (landing_of g found.0) m found.2);
      }

  -- ---- a site

  -- the exits of a node are those of a site, behind which come some statements
  pub record AreExits (ends : Exits) (site : Site) (rest : List Statement) : Type 0 where
    pub in_range : IsTrue (is_site p q site)
    pub returns : numbers_of ends.returns ≡ site.returns
    pub unwinds : numbers_of ends.unwinds ≡ site.unwinds
    pub cuts : numbers_of ends.cuts ≡ site.cuts
    pub behind : NodeId
    pub normal : ExitsCode g.nodes (Some site) ends behind
    pub code : CodeOf rest behind

  module _ (ends : Exits) (site : Site) (rest : List Statement) (are : AreExits ends site rest) where
    -- their continuations are there
    returns_there : AreThere site.returns
    returns_there = (and_parts _ _ (and_parts _ _ (and_parts _ _ (and_parts _ _ are.in_range).0).0).0).1

    unwinds_there : AreThere site.unwinds
    unwinds_there = (and_parts _ _ (and_parts _ _ (and_parts _ _ are.in_range).0).0).1

    pub cuts_there : AreThere site.cuts
    cuts_there = (and_parts _ _ (and_parts _ _ are.in_range).0).1

    abbrev normal_ways : Bool → List Way
    normal_ways never = elim never [ true ↦ [] | false ↦ to_next site rest ∷ [] ]

    abbrev Normal : Bool → Type 0
    Normal never = elim never [
      | true ↦ ends.normal ≡ None
      | false ↦ (j : NodeId) × (ends.normal ≡ Some j) × IsNode g.nodes j (suc (length site.results)) (CopyIn site.results are.behind)
    ]

    to_normal : (never : Bool) → Normal never → (way : Way) → Among (normal_ways never) way → Reaching (λ m. Among (if_there ends.normal) m) way
    to_normal true code way among = absurd among
    to_normal false code way (inr none) = absurd none
    to_normal false code way (inl is) = subst (Reaching (λ m. Among (if_there ends.normal) m)) is (record {
      at = code.0;
      is_one = rw code.1 (inl refl);
      arrives = copy_in code.0 are.behind (suc (length site.results)) site.results (to_next site rest) code.2 refl are.code;
    })

    by_normal : (never : Bool) → Normal never → (m : NodeId) → Among (if_there ends.normal) m → Reached (normal_ways never) m
    by_normal true code m among = let there = there_is ends.normal m among in absurd (cc)
    by_normal false code m among =
        let same : code.0 ≡ m = grind (arith, there_is ends.normal m among, code.1) in
        subst (Reached (to_next site rest ∷ [])) same (record {
          way = to_next site rest;
          is_one = inl refl;
          arrives = copy_in code.0 are.behind (suc (length site.results)) site.results (to_next site rest) code.2 refl are.code;
        })

    abbrev all : List ℕ
    all = site.returns ++ site.unwinds ++ site.cuts

    -- the nodes of each kind of exit are among all, and the continuations too
    node_normal : (m : NodeId) → Among (if_there ends.normal) m → Among (exit_nodes g ends) m
    node_normal m among =
        among_left (if_there ends.normal ++ landings g ends.returns ++ landings g ends.unwinds) (landings g ends.cuts) m
        (among_left (if_there ends.normal ++ landings g ends.returns) (landings g ends.unwinds) m (among_left (if_there ends.normal) (landings g ends.returns) m among))

    node_return : (m : NodeId) → Among (landings g ends.returns) m → Among (exit_nodes g ends) m
    node_return m among =
        among_left (if_there ends.normal ++ landings g ends.returns ++ landings g ends.unwinds) (landings g ends.cuts) m
        (among_left (if_there ends.normal ++ landings g ends.returns) (landings g ends.unwinds) m (among_right (if_there ends.normal) (landings g ends.returns) m among))

    node_unwind : (m : NodeId) → Among (landings g ends.unwinds) m → Among (exit_nodes g ends) m
    node_unwind m among =
        among_left (if_there ends.normal ++ landings g ends.returns ++ landings g ends.unwinds) (landings g ends.cuts) m
        (among_right (if_there ends.normal ++ landings g ends.returns) (landings g ends.unwinds) m among)

    node_cut : (m : NodeId) → Among (landings g ends.cuts) m → Among (exit_nodes g ends) m
    node_cut m among = among_right (if_there ends.normal ++ landings g ends.returns ++ landings g ends.unwinds) (landings g ends.cuts) m among

    way_return : (w : Way) → Among (map (to_continuation q) site.returns) w → Among (exits q site rest) w
    way_return w among =
        among_right (normal_ways site.never) (map (to_continuation q) all) w
        (among_more (to_continuation q) site.returns all w
        (λ k is. among_left (site.returns ++ site.unwinds) site.cuts k (among_left site.returns site.unwinds k is)) among)

    way_unwind : (w : Way) → Among (map (to_continuation q) site.unwinds) w → Among (exits q site rest) w
    way_unwind w among =
        among_right (normal_ways site.never) (map (to_continuation q) all) w
        (among_more (to_continuation q) site.unwinds all w
        (λ k is. among_left (site.returns ++ site.unwinds) site.cuts k (among_right site.returns site.unwinds k is)) among)

    way_cut : (w : Way) → Among (map (to_continuation q) site.cuts) w → Among (exits q site rest) w
    way_cut w among =
        among_right (normal_ways site.never) (map (to_continuation q) all) w
        (among_more (to_continuation q) site.cuts all w (λ k is. among_right (site.returns ++ site.unwinds) site.cuts k is) among)

    abbrev Exit : NodeId → Type 0
    Exit m = Among (exit_nodes g ends) m

    pub exits_to : (way : Way) → Among (exits q site rest) way → Reaching Exit way
    exits_to way among = by (among_parts (normal_ways site.never) (map (to_continuation q) all) way among)
      where
        among_cuts : (k : ℕ) → Among site.cuts k → Reaching Exit (to_continuation q k)
        among_cuts k is =
            reaching_as (λ m. Among (landings g ends.cuts) m) Exit (to_continuation q k) node_cut
            (to_landing ends.cuts site.cuts are.cuts cuts_there (to_continuation q k) (among_map (to_continuation q) site.cuts k is))

        among_others : (k : ℕ) → Among site.returns k ⊎ Among site.unwinds k → Reaching Exit (to_continuation q k)
        among_others k (inl is) =
            reaching_as (λ m. Among (landings g ends.returns) m) Exit (to_continuation q k) node_return
            (to_landing ends.returns site.returns are.returns returns_there (to_continuation q k) (among_map (to_continuation q) site.returns k is))
        among_others k (inr is) =
            reaching_as (λ m. Among (landings g ends.unwinds) m) Exit (to_continuation q k) node_unwind
            (to_landing ends.unwinds site.unwinds are.unwinds unwinds_there (to_continuation q k) (among_map (to_continuation q) site.unwinds k is))

        among_all : (k : ℕ) → Among (site.returns ++ site.unwinds) k ⊎ Among site.cuts k → Reaching Exit (to_continuation q k)
        among_all k (inl is) = among_others k (among_parts site.returns site.unwinds k is)
        among_all k (inr is) = among_cuts k is

        by : Among (normal_ways site.never) way ⊎ Among (map (to_continuation q) all) way → Reaching Exit way
        by (inl is) = reaching_as (λ m. Among (if_there ends.normal) m) Exit way node_normal (to_normal site.never are.normal.1 way is)
        by (inr is) =
            let found = among_unmap (to_continuation q) all way is in
            subst (Reaching Exit) found.2 (among_all found.0 (among_parts (site.returns ++ site.unwinds) site.cuts found.0 found.1))

    pub exits_by : (m : NodeId) → Exit m → Reached (exits q site rest) m
    exits_by m among = by_cut (among_parts (if_there ends.normal ++ landings g ends.returns ++ landings g ends.unwinds) (landings g ends.cuts) m among)
      where
        by_return : Among (if_there ends.normal) m ⊎ Among (landings g ends.returns) m → Reached (exits q site rest) m
        by_return (inl is) =
            reached_as (normal_ways site.never) (exits q site rest) m (λ w is. among_left (normal_ways site.never) (map (to_continuation q) all) w is)
            (by_normal site.never are.normal.1 m is)
        by_return (inr is) =
            reached_as (map (to_continuation q) site.returns) (exits q site rest) m way_return (by_landing ends.returns site.returns are.returns returns_there m is)

        by_unwind : Among (if_there ends.normal ++ landings g ends.returns) m ⊎ Among (landings g ends.unwinds) m → Reached (exits q site rest) m
        by_unwind (inl is) = by_return (among_parts (if_there ends.normal) (landings g ends.returns) m is)
        by_unwind (inr is) =
            reached_as (map (to_continuation q) site.unwinds) (exits q site rest) m way_unwind (by_landing ends.unwinds site.unwinds are.unwinds unwinds_there m is)

        by_cut : Among (if_there ends.normal ++ landings g ends.returns ++ landings g ends.unwinds) m ⊎ Among (landings g ends.cuts) m → Reached (exits q site rest) m
        by_cut (inl is) = by_unwind (among_parts (if_there ends.normal ++ landings g ends.returns) (landings g ends.unwinds) m is)
        by_cut (inr is) = reached_as (map (to_continuation q) site.cuts) (exits q site rest) m way_cut (by_landing ends.cuts site.cuts are.cuts cuts_there m is)
