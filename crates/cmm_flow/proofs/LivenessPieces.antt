-- Pieces of a graph as the paths of liveness see them: whether a variable is read in a piece, and where a path on which the
-- piece does not write it leaves the piece.
use Rattle.std.proofs.Math.Bool.{or_assoc}
use Rattle.std.proofs.Common.{◌≡◌, ◌⊎◌, inl, inr, ℕ, suc, ◌+◌, ◌≤◌, ◌||◌, ◌==◌, Bool, true, false, IsTrue, IsFalse, Contains, List, [], ◌∷◌, ◌++◌, flat_map, refl, ap, sym, ◌∙◌, subst, true≢false, arith}
use Rattle.std.proofs.lemmas.Bool.{eq-eqb, eqb-true, false_from_ne_true, or_cases, or_from, or_left, or_parts, or_right}
use Rattle.cmm_graph.specs.declared.graph.Graph.{Graph}
use Rattle.cmm_graph.specs.declared.node.Node.{Node}
use Rattle.cmm_graph.specs.declared.node.NodeKind.{NodeKind}
use Rattle.cmm_graph.specs.declared.number.NodeId.{NodeId}
use Rattle.cmm_graph.specs.declared.operand.Local.{Local}
use Rattle.cmm_graph.specs.declared.operand.Local.TheVariants as local
use Rattle.cmm_graph.specs.declared.operand.Operand.{Operand}
use Rattle.cmm_graph.specs.Liveness.{IsLiveBefore, Here, Onward}
use Rattle.cmm_graph.specs.Paths.{operands, read_by, reads, successors, writes}
use Rattle.cmm_flow.specs.Code.{IsNode}
use Rattle.cmm_flow.proofs.LivenessMembers.{Among, among_of, contains_of}

-- ---- the variable among locals, as a test

abbrev pub is_local : ℕ → Local → Bool
is_local v (local.Variable x) = v == x.number
is_local v (local.Temporary t) = false

abbrev pub any_local : ℕ → List Local → Bool
any_local v [] = false
any_local v (l ∷ ls) = is_local v l || any_local v ls

-- whether an operand reads it
abbrev pub any_read : ℕ → Operand → Bool
any_read v o = any_local v (read_by o)

abbrev pub any_operand : ℕ → List Operand → Bool
any_operand v [] = false
any_operand v (o ∷ os) = any_read v o || any_operand v os

pub any_local-append : (v : ℕ) (ls more : List Local) → any_local v (ls ++ more) ≡ (any_local v ls || any_local v more)
any_local-append v [] more = refl
any_local-append v (l ∷ ls) more =
    ap (λ b. is_local v l || b) (any_local-append v ls more) ∙ sym (or_assoc (is_local v l) (any_local v ls) (any_local v more))

operands_read : (v : ℕ) (os : List Operand) → any_local v (flat_map read_by os) ≡ any_operand v os
operands_read v [] = refl
operands_read v (o ∷ os) = any_local-append v (read_by o) (flat_map read_by os) ∙ ap (λ b. any_read v o || b) (operands_read v os)

module _ (g : Graph) (v : ℕ) where
  abbrev pub the_variable : Local
  the_variable = local.Variable record { number = v }

  abbrev pub Live : NodeId → Type 0
  Live n = IsLiveBefore g the_variable n

  -- ---- paths by their lengths

  abbrev pub path_length : (n : NodeId) → Live n → ℕ
  path_length _ (Here n node is read) = 1
  path_length _ (Onward n m node is unwritten leads live) = suc (path_length m live)

  pub record Within (d : ℕ) (n : NodeId) : Type 0 where
    pub live : Live n
    pub short : path_length n live ≤ d

  pub all_of : (n : NodeId) (live : Live n) → Within (path_length n live) n
  all_of n live = record { live = live; short = omega arith }

  pub longer : (d e : ℕ) (n : NodeId) → d ≤ e → Within d n → Within e n
  longer d e n less within = record { live = within.live; short = omega (arith, within.short) }

  -- ---- pieces

  -- such a path goes on from a node, at least so much shorter
  pub record Gone (s d : ℕ) (X : NodeId → Type 0) : Type 0 where
    pub to : NodeId
    pub by : X to
    pub left : ℕ
    pub less : left + s ≤ d
    pub rest : Within left to

  -- A piece that begins at a node, and is left for the nodes of which X holds: the variable is read in it before it is
  -- written, or else it is not. A path through it has at least n nodes of it.
  pub record Piece (s : ℕ) (n : NodeId) (read : Bool) (X : NodeId → Type 0) : Type 0 where
    pub now : IsTrue read → Live n
    pub on : (m : NodeId) → X m → Live m → Live n
    pub back : (d : ℕ) → Within d n → IsTrue read ⊎ Gone s d X

  -- no node at all
  pub stay : (n k : NodeId) → n ≡ k → Piece 0 n false (λ m. k ≡ m)
  stay n k same = record {
    now = λ is. absurd (cc);
    on = λ m is live. subst Live (sym (same ∙ is)) live;
    back = λ d within. inr (record { to = k; by = refl; left = d; less = omega arith; rest = subst (Within d) same within });
  }

  pub read_as : {s : ℕ} {n : NodeId} {r : Bool} (b : Bool) {X : NodeId → Type 0} → r ≡ b → Piece s n r X → Piece s n b X
  read_as {s = s} {n = n} b {X = X} same piece = subst (λ r. Piece s n r X) same piece

  pub left_as : {s : ℕ} {n : NodeId} {r : Bool} {X : NodeId → Type 0} (Y : NodeId → Type 0) → ((m : NodeId) → X m → Y m) → ((m : NodeId) → Y m → X m) →
      Piece s n r X → Piece s n r Y
  left_as {s = s} {r = r} {X = X} Y there back piece = record {
    now = piece.now;
    on = λ m is live. piece.on m (back m is) live;
    back = λ d within. by d (piece.back d within);
  }
    where
      by : (d : ℕ) → IsTrue r ⊎ Gone s d X → IsTrue r ⊎ Gone s d Y
      by d (inl read) = inl read
      by d (inr gone) = inr (record { to = gone.to; by = there gone.to gone.by; left = gone.left; less = gone.less; rest = gone.rest })

  pub fewer : {n : NodeId} {r : Bool} {X : NodeId → Type 0} (s t : ℕ) → t ≤ s → Piece s n r X → Piece t n r X
  fewer {r = r} {X = X} s t less piece = record { now = piece.now; on = piece.on; back = λ d within. by d (piece.back d within) }
    where
      by : (d : ℕ) → IsTrue r ⊎ Gone s d X → IsTrue r ⊎ Gone t d X
      by d (inl read) = inl read
      by d (inr gone) = inr (record { to = gone.to; by = gone.by; left = gone.left; less = omega (arith, gone.less); rest = gone.rest })

  -- one piece behind another, which writes nothing
  pub then_piece : {n k : NodeId} {r b : Bool} {X : NodeId → Type 0} (s t u : ℕ) → u ≤ s + t → Piece s n r (λ m. k ≡ m) → Piece t k b X →
      Piece u n (r || b) X
  then_piece {n = n} {k = k} {r = r} {b = b} {X = X} s t u enough first second = record {
    now = λ is. now (or_cases r b is);
    on = λ m is live. first.on k refl (second.on m is live);
    back = λ d within. back d (first.back d within);
  }
    where
      now : (r ≡ true) ⊎ (b ≡ true) → Live n
      now (inl is) = first.now is
      now (inr is) = first.on k refl (second.now is)

      later : (d e : ℕ) → e + s ≤ d → IsTrue b ⊎ Gone t e X → IsTrue (r || b) ⊎ Gone u d X
      later d e less (inl is) = inl (or_right r b is)
      later d e less (inr gone) =
          inr (record { to = gone.to; by = gone.by; left = gone.left; less = omega (arith, gone.less, less, enough); rest = gone.rest })

      back : (d : ℕ) → IsTrue r ⊎ Gone s d (λ m. k ≡ m) → IsTrue (r || b) ⊎ Gone u d X
      back d (inl is) = inl (or_left r b is)
      back d (inr gone) = later d gone.left gone.less (second.back gone.left (subst (Within gone.left) (sym gone.by) gone.rest))

  -- two pieces that read nothing and write, one behind the other
  pub then_writes : {n m k : NodeId} {s : ℕ} (w u : Bool) → Piece s n false (λ x. IsFalse w × (m ≡ x)) → Piece 0 m false (λ x. IsFalse u × (k ≡ x)) →
      Piece s n false (λ x. IsFalse (w || u) × (k ≡ x))
  then_writes {n = n} {m = m} {k = k} {s = s} w u first second = record {
    now = λ is. absurd (cc);
    on = λ x is live. first.on m ((or_parts w u is.0).0, refl) (second.on x ((or_parts w u is.0).1, is.1) live);
    back = λ d within. back d (first.back d within);
  }
    where
      later : (d e : ℕ) → e + s ≤ d → IsFalse w → IsTrue false ⊎ Gone 0 e (λ x. IsFalse u × (k ≡ x)) → IsTrue false ⊎ Gone s d (λ x. IsFalse (w || u) × (k ≡ x))
      later d e less quiet (inl is) = absurd (cc)
      later d e less quiet (inr gone) = inr (record {
        to = gone.to;
        by = (or_from w u quiet gone.by.0, gone.by.1);
        left = gone.left;
        less = omega (arith, gone.less, less);
        rest = gone.rest;
      })

      back : (d : ℕ) → IsTrue false ⊎ Gone s d (λ x. IsFalse w × (m ≡ x)) → IsTrue false ⊎ Gone s d (λ x. IsFalse (w || u) × (k ≡ x))
      back d (inl is) = absurd (cc)
      back d (inr gone) = later d gone.left gone.less gone.by.0 (second.back gone.left (subst (Within gone.left) (sym gone.by.1) gone.rest))

  -- a node to which no path goes
  pub without : {s : ℕ} {n : NodeId} {r : Bool} (c : NodeId) (X : NodeId → Type 0) → ((d : ℕ) → Within d c → ⊥) → Piece s n r (λ m. X m ⊎ (c ≡ m)) → Piece s n r X
  without {s = s} {r = r} c X dead piece = record { now = piece.now; on = λ m is live. piece.on m (inl is) live; back = λ d within. back d (piece.back d within) }
    where
      by : (d : ℕ) (gone : Gone s d (λ m. X m ⊎ (c ≡ m))) → X gone.to ⊎ (c ≡ gone.to) → IsTrue r ⊎ Gone s d X
      by d gone (inl is) = inr (record { to = gone.to; by = is; left = gone.left; less = gone.less; rest = gone.rest })
      by d gone (inr is) = absurd (dead gone.left (subst (Within gone.left) (sym is) gone.rest))

      back : (d : ℕ) → IsTrue r ⊎ Gone s d (λ m. X m ⊎ (c ≡ m)) → IsTrue r ⊎ Gone s d X
      back d (inl is) = inl is
      back d (inr gone) = by d gone gone.by

  -- one of two pieces behind another
  pub then_either : {n a c : NodeId} {r x y : Bool} {X Y : NodeId → Type 0} → Piece 1 n r (λ m. (a ≡ m) ⊎ (c ≡ m)) → Piece 0 a x X → Piece 0 c y Y →
      Piece 1 n (r || (x || y)) (λ m. X m ⊎ Y m)
  then_either {n = n} {a = a} {c = c} {r = r} {x = x} {y = y} {X = X} {Y = Y} first left right = record {
    now = λ is. now (or_cases r (x || y) is);
    on = on;
    back = λ d within. back d (first.back d within);
  }
    where
      now_later : (x ≡ true) ⊎ (y ≡ true) → Live n
      now_later (inl is) = first.on a (inl refl) (left.now is)
      now_later (inr is) = first.on c (inr refl) (right.now is)

      now : (r ≡ true) ⊎ ((x || y) ≡ true) → Live n
      now (inl is) = first.now is
      now (inr is) = now_later (or_cases x y is)

      on : (m : NodeId) → X m ⊎ Y m → Live m → Live n
      on m (inl is) live = first.on a (inl refl) (left.on m is live)
      on m (inr is) live = first.on c (inr refl) (right.on m is live)

      left_back : (d e : ℕ) → e + 1 ≤ d → IsTrue x ⊎ Gone 0 e X → IsTrue (r || (x || y)) ⊎ Gone 1 d (λ m. X m ⊎ Y m)
      left_back d e less (inl is) = inl (or_right r (x || y) (or_left x y is))
      left_back d e less (inr gone) =
          inr (record { to = gone.to; by = inl gone.by; left = gone.left; less = omega (arith, gone.less, less); rest = gone.rest })

      right_back : (d e : ℕ) → e + 1 ≤ d → IsTrue y ⊎ Gone 0 e Y → IsTrue (r || (x || y)) ⊎ Gone 1 d (λ m. X m ⊎ Y m)
      right_back d e less (inl is) = inl (or_right r (x || y) (or_right x y is))
      right_back d e less (inr gone) =
          inr (record { to = gone.to; by = inr gone.by; left = gone.left; less = omega (arith, gone.less, less); rest = gone.rest })

      choose : (d e : ℕ) (m : NodeId) → e + 1 ≤ d → (a ≡ m) ⊎ (c ≡ m) → Within e m → IsTrue (r || (x || y)) ⊎ Gone 1 d (λ m. X m ⊎ Y m)
      choose d e m less (inl is) within = left_back d e less (left.back e (subst (Within e) (sym is) within))
      choose d e m less (inr is) within = right_back d e less (right.back e (subst (Within e) (sym is) within))

      back : (d : ℕ) → IsTrue r ⊎ Gone 1 d (λ m. (a ≡ m) ⊎ (c ≡ m)) → IsTrue (r || (x || y)) ⊎ Gone 1 d (λ m. X m ⊎ Y m)
      back d (inl is) = inl (or_left r (x || y) is)
      back d (inr gone) = choose d gone.left gone.to gone.less gone.by gone.rest

  -- ---- one node

  -- whether the variable is written at a node
  abbrev pub kind_writes : NodeKind → Bool
  kind_writes kind = any_local v (writes kind)

  abbrev pub Unwritten : NodeKind → NodeId → Type 0
  Unwritten kind m = IsFalse (kind_writes kind) × Among (successors g kind) m

  among_test : (ls : List Local) → any_local v ls ≡ true → Among ls the_variable
  among_test [] is = absurd (cc)
  among_test (l ∷ ls) is = by (λ is. among_test ls is) (or_cases (is_local v l) (any_local v ls) is)
    where
      first : (l : Local) → is_local v l ≡ true → l ≡ the_variable
      first (local.Variable x) is = ap (λ k. local.Variable record { number = k }) (sym (eqb-true v x.number is))
      first (local.Temporary t) is = absurd (cc)

      by : (any_local v ls ≡ true → Among ls the_variable) → (is_local v l ≡ true) ⊎ (any_local v ls ≡ true) → Among (l ∷ ls) the_variable
      by others (inl is) = inl (first l is)
      by others (inr is) = inr (others is)

  test_among : (ls : List Local) → Among ls the_variable → any_local v ls ≡ true
  test_among [] among = absurd among
  test_among (l ∷ ls) (inl is) = or_left (is_local v l) (any_local v ls) (ap (is_local v) is ∙ eq-eqb v v refl)
  test_among (l ∷ ls) (inr later) = or_right (is_local v l) (any_local v ls) (test_among ls later)

  -- a node is such a piece
  pub node_piece : (n : NodeId) (tokens : ℕ) (kind : NodeKind) → IsNode g.nodes n tokens kind →
      Piece 1 n (any_operand v (operands kind)) (Unwritten kind)
  node_piece n tokens kind is = record { now = now; on = on; back = back }
    where
      here : Node
      here = record { tokens = tokens; kind = kind }

      now : any_operand v (operands kind) ≡ true → Live n
      now read = Here n (record { tokens = tokens; kind = kind }) is
          (contains_of (reads kind) the_variable (among_test (reads kind) (operands_read v (operands kind) ∙ read)))

      on : (m : NodeId) → Unwritten kind m → Live m → Live n
      on m leads live = Onward n m (record { tokens = tokens; kind = kind }) is
          (λ contains. true≢false (sym (test_among (writes kind) (among_of (writes kind) the_variable contains)) ∙ leads.0))
          (contains_of (successors g kind) m leads.1) live

      back_from : (d : ℕ) (n : NodeId) → IsNode g.nodes n tokens kind → (live : Live n) → path_length n live ≤ d →
          (any_operand v (operands kind) ≡ true) ⊎ Gone 1 d (Unwritten kind)
      back_from d _ is (Here n other there read) short =
          let same : other.kind ≡ kind = grind (arith, is, there) in
          let contains : Contains (reads kind) the_variable = subst (λ k. Contains (reads k) the_variable) same read in
          inl (sym (operands_read v (operands kind)) ∙ test_among (reads kind) (among_of (reads kind) the_variable contains))
      back_from d _ is (Onward n m other there unwritten leads live) short =
          let same : other.kind ≡ kind = grind (arith, is, there) in
          let quiet : ¬ Contains (writes kind) the_variable = subst (λ k. ¬ Contains (writes k) the_variable) same unwritten in
          let to : Contains (successors g kind) m = subst (λ k. Contains (successors g k) m) same leads in
          inr (record {
            to = m;
            by = (false_from_ne_true (kind_writes kind) (λ is. quiet (contains_of (writes kind) the_variable (among_test (writes kind) is))), among_of (successors g kind) m to);
            left = path_length m live;
            less = omega (arith, short);
            rest = record { live = live; short = omega arith };
          })

      back : (d : ℕ) → Within d n → (any_operand v (operands kind) ≡ true) ⊎ Gone 1 d (Unwritten kind)
      back d within = back_from d n is within.live within.short

  -- one that leads to one other
  pub one_node : (n k : NodeId) (tokens : ℕ) (kind : NodeKind) → IsNode g.nodes n tokens kind → successors g kind ≡ k ∷ [] →
      Piece 1 n (any_operand v (operands kind)) (λ m. IsFalse (kind_writes kind) × (k ≡ m))
  one_node n k tokens kind is leads = left_as (λ m. IsFalse (kind_writes kind) × (k ≡ m)) there back (node_piece n tokens kind is)
    where
      only : (ms : List NodeId) (m : NodeId) → ms ≡ k ∷ [] → Among ms m → k ≡ m
      only ms m same among = by (subst (λ ms. Among ms m) same among)
        where
          by : (k ≡ m) ⊎ ⊥ → k ≡ m
          by (inl is) = is
          by (inr none) = absurd none

      there : (m : NodeId) → Unwritten kind m → IsFalse (kind_writes kind) × (k ≡ m)
      there m is = (is.0, only (successors g kind) m leads is.1)

      back : (m : NodeId) → IsFalse (kind_writes kind) × (k ≡ m) → Unwritten kind m
      back m is = (is.0, subst (λ ms. Among ms m) (sym leads) (inl is.1))

  -- and writes nothing of the procedure's
  pub quiet_node : (n k : NodeId) (tokens : ℕ) (kind : NodeKind) → IsNode g.nodes n tokens kind → successors g kind ≡ k ∷ [] → kind_writes kind ≡ false →
      Piece 1 n (any_operand v (operands kind)) (λ m. k ≡ m)
  quiet_node n k tokens kind is leads quiet = left_as (λ m. k ≡ m) (λ m is. is.1) (λ m same. (quiet, same)) (one_node n k tokens kind is leads)

  -- a node that leads nowhere
  pub last_node : (n : NodeId) (tokens : ℕ) (kind : NodeKind) → IsNode g.nodes n tokens kind → successors g kind ≡ [] →
      Piece 1 n (any_operand v (operands kind)) (λ m. ⊥)
  last_node n tokens kind is leads =
      left_as (λ m. ⊥) (λ m is. subst (λ ms. Among ms m) leads is.1) (λ m none. absurd none) (node_piece n tokens kind is)
