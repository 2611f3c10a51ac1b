-- What the code of a statement is to the paths of liveness: it reads the variable where the statement does, and leads by each way
-- on to the code of what the way leads to.
use Rattle.std.proofs.Common.{◌≡◌, ◌⊎◌, inl, inr, ℕ, ◌+◌, ◌≤◌, Bool, IsTrue, IsFalse, List, [], ◌∷◌, refl, sym, ◌∙◌, subst}
use Rattle.cmm_program.specs.declared.procedure.Proc.{Proc}
use Rattle.cmm_program.specs.declared.statement.Statement.{Statement}
use Rattle.cmm_program.specs.Liveness.{Way, is_among, plain}
use Rattle.cmm_graph.specs.declared.graph.Graph.{Graph}
use Rattle.cmm_graph.specs.declared.number.NodeId.{NodeId}
use Rattle.cmm_flow.specs.Statements.{ListCode}
use Rattle.cmm_flow.proofs.LivenessMembers.{Among}
use Rattle.cmm_flow.proofs.LivenessPieces.{Gone, Live, Piece, Within}

module _ (q : Proc) (g : Graph) (label_node : ℕ → NodeId) (v : ℕ) where
  abbrev pub Code : List Statement → NodeId → Type 0
  Code rest n = ListCode q g.nodes label_node rest n

  -- a path goes on by one of some ways
  pub record Goes (d : ℕ) (ws : List Way) : Type 0 where
    pub way : Way
    pub is_one : Among ws way
    pub unwritten : IsFalse (is_among v way.written)
    pub to : NodeId
    pub code : Code way.to to
    pub left : ℕ
    pub less : left + 1 ≤ d
    pub rest : Within g v left to

  -- where one of the ways leads
  pub record Reaches (n : NodeId) (way : Way) : Type 0 where
    pub to : NodeId
    pub code : Code way.to to
    pub on : Live g v to → Live g v n

  pub record Stands (n : NodeId) (read : Bool) (ws : List Way) : Type 0 where
    pub now : IsTrue read → Live g v n
    pub on : (way : Way) → Among ws way → IsFalse (is_among v way.written) → Reaches n way
    pub back : (d : ℕ) → Within g v d n → IsTrue read ⊎ Goes d ws

  -- a node is where a way comes to: what the way writes is written, and then comes the code of what it leads to
  pub record Arrives (n : NodeId) (way : Way) : Type 0 where
    pub to : NodeId
    pub code : Code way.to to
    pub on : IsFalse (is_among v way.written) → Live g v to → Live g v n
    pub back : (d : ℕ) → Within g v d n → IsFalse (is_among v way.written) × Within g v d to

  -- one of some ways that comes to a node, and a node of some to which a way comes
  pub record ByWay (ws : List Way) (n : NodeId) : Type 0 where
    pub way : Way
    pub is_one : Among ws way
    pub arrives : Arrives n way

  pub record ToNode (X : NodeId → Type 0) (way : Way) : Type 0 where
    pub at : NodeId
    pub is_one : X at
    pub arrives : Arrives at way

  pub stands_by : (n : NodeId) (read : Bool) (ws : List Way) (X : NodeId → Type 0) → Piece g v 1 n read X →
      ((way : Way) → Among ws way → IsFalse (is_among v way.written) → ToNode X way) → ((m : NodeId) → X m → ByWay ws m) → Stands n read ws
  stands_by n read ws X piece there by_way = record { now = piece.now; on = on; back = λ d within. back d (piece.back d within) }
    where
      on : (way : Way) → Among ws way → IsFalse (is_among v way.written) → Reaches n way
      on way is_one unwritten =
          let node = there way is_one unwritten in
          record { to = node.arrives.to; code = node.arrives.code; on = λ live. piece.on node.at node.is_one (node.arrives.on unwritten live) }

      back : (d : ℕ) → IsTrue read ⊎ Gone g v 1 d X → IsTrue read ⊎ Goes d ws
      back d (inl is) = inl is
      back d (inr gone) =
          let found = by_way gone.to gone.by in
          let after = found.arrives.back gone.left gone.rest in
          inr (record {
            way = found.way;
            is_one = found.is_one;
            unwritten = after.0;
            to = found.arrives.to;
            code = found.arrives.code;
            left = gone.left;
            less = gone.less;
            rest = after.1;
          })

  -- a way on which the variable is known to be unwritten
  pub settled : (n : NodeId) (way : Way) → IsFalse (is_among v way.written) → Code way.to n → Arrives n way
  settled n way unwritten code = record { to = n; code = code; on = λ unwritten live. live; back = λ d within. (unwritten, within) }

  -- a way that writes nothing comes at once to where it leads
  pub at_once : (n : NodeId) (rest : List Statement) → Code rest n → Arrives n (plain rest)
  at_once n rest code = settled n (plain rest) refl code

  pub plain_way : (n k : NodeId) (read : Bool) (rest : List Statement) → Piece g v 1 n read (λ m. k ≡ m) → Code rest k → Stands n read (plain rest ∷ [])
  plain_way n k read rest piece code = stands_by n read (plain rest ∷ []) (λ m. k ≡ m) piece there by_way
    where
      there : (way : Way) → Among (plain rest ∷ []) way → IsFalse (is_among v way.written) → ToNode (λ m. k ≡ m) way
      there way (inl same) unwritten =
          subst (ToNode (λ m. k ≡ m)) same (record { at = k; is_one = refl; arrives = at_once k rest code })
      there way (inr none) unwritten = absurd none

      by_way : (m : NodeId) → k ≡ m → ByWay (plain rest ∷ []) m
      by_way m same = record { way = plain rest; is_one = inl refl; arrives = at_once m rest (subst (Code rest) same code) }

  -- a way that writes
  abbrev writing : List ℕ → List Statement → Way
  writing ns rest = record { written = ns; to = rest }

  pub writing_way : (n k : NodeId) (read written : Bool) (ns : List ℕ) (rest : List Statement) → Piece g v 1 n read (λ m. IsFalse written × (k ≡ m)) →
      written ≡ is_among v ns → Code rest k → Stands n read (writing ns rest ∷ [])
  writing_way n k read written ns rest piece is code =
      stands_by n read (writing ns rest ∷ []) (λ m. IsFalse written × (k ≡ m)) piece there by_way
    where
      there : (w : Way) → Among (writing ns rest ∷ []) w → IsFalse (is_among v w.written) → ToNode (λ m. IsFalse written × (k ≡ m)) w
      there w (inl same) unwritten =
          let quiet : IsFalse (is_among v ns) = subst (λ (w : Way). IsFalse (is_among v w.written)) (sym same) unwritten in
          subst (ToNode (λ m. IsFalse written × (k ≡ m))) same (record { at = k; is_one = (is ∙ quiet, refl); arrives = settled k (writing ns rest) quiet code })
      there w (inr none) unwritten = absurd none

      by_way : (m : NodeId) → IsFalse written × (k ≡ m) → ByWay (writing ns rest ∷ []) m
      by_way m (quiet, same) = record { way = writing ns rest; is_one = inl refl; arrives = settled m (writing ns rest) (sym is ∙ quiet) (subst (Code rest) same code) }

  -- two ways that write nothing
  pub two_ways : (n a c : NodeId) (read : Bool) (first second : List Statement) → Piece g v 1 n read (λ m. (a ≡ m) ⊎ (c ≡ m)) → Code first a → Code second c →
      Stands n read (plain first ∷ plain second ∷ [])
  two_ways n a c read first second piece to_first to_second =
      stands_by n read (plain first ∷ plain second ∷ []) (λ m. (a ≡ m) ⊎ (c ≡ m)) piece there by_way
    where
      there : (way : Way) → Among (plain first ∷ plain second ∷ []) way → IsFalse (is_among v way.written) → ToNode (λ m. (a ≡ m) ⊎ (c ≡ m)) way
      there way (inl same) unwritten =
          subst (ToNode (λ m. (a ≡ m) ⊎ (c ≡ m))) same (record { at = a; is_one = inl refl; arrives = at_once a first to_first })
      there way (inr (inl same)) unwritten =
          subst (ToNode (λ m. (a ≡ m) ⊎ (c ≡ m))) same (record { at = c; is_one = inr refl; arrives = at_once c second to_second })
      there way (inr (inr none)) unwritten = absurd none

      by_way : (m : NodeId) → (a ≡ m) ⊎ (c ≡ m) → ByWay (plain first ∷ plain second ∷ []) m
      by_way m (inl same) = record { way = plain first; is_one = inl refl; arrives = at_once m first (subst (Code first) same to_first) }
      by_way m (inr same) = record { way = plain second; is_one = inr (inl refl); arrives = at_once m second (subst (Code second) same to_second) }

  -- no way on
  pub no_way : (n : NodeId) (read : Bool) → Piece g v 1 n read (λ m. ⊥) → Stands n read []
  no_way n read piece = stands_by n read [] (λ m. ⊥) piece (λ way none unwritten. absurd none) (λ m none. absurd none)
