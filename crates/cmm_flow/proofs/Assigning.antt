-- The code of an assignment: one value goes to its place, and several are stored one by one from temporaries.
use Rattle.std.proofs.Common.{◌≡◌, ℕ, suc, ◌+◌, ◌^◌, ◌<◌, ◌≤◌, max, IsTrue, Ok, List, [], ◌∷◌, map, length, refl, ap, sym, ◌∙◌, subst, arith}
use Rattle.std.proofs.lemmas.Bool.{and_parts}
use Rattle.std.specs.List.{list_all}
use Rattle.cmm_machine_laws.specs.Observed.{store_seen}
use Rattle.cmm_program.specs.declared.expression.Expression.{Expression}
use Rattle.cmm_program.specs.declared.procedure.Proc.{Proc}
use Rattle.cmm_program.specs.declared.procedure.Target.{Target}
use Rattle.cmm_program.specs.declared.program.Program.{Program}
use Rattle.cmm_program.specs.declared.statement.Lvalue.{Lvalue}
use Rattle.cmm_program.specs.declared.statement.Lvalue.TheVariants as lvalue
use Rattle.cmm_program.specs.Acts.{places_of, values_of}
use Rattle.cmm_program.specs.Errors.{and_then}
use Rattle.cmm_program.specs.InRange.{are_assigned, is_lvalue, lvalue_width}
use Rattle.cmm_program.specs.Orders as order
use Rattle.cmm_program.specs.Orders.{Held, Memory, Place, Write, writes}
use Rattle.cmm_program.specs.Performing.{Stay}
use Rattle.cmm_program.specs.State.{Running, Store}
use Rattle.cmm_program.specs.Todo.{aim_of}
use Rattle.cmm_program.specs.Typing.{has_width, is_alignment}
use Rattle.cmm_program.specs.Values.{value_of}
use Rattle.cmm_program.specs.Writes.{assigned, put, put_all, reads_of}
use Rattle.cmm_words.specs.declared.width.Width.{Width}
use Rattle.cmm_words.specs.declared.width.Width.TheVariants.{W64}
use Rattle.cmm_graph.specs.declared.node.NodeKind.TheVariants as kind
use Rattle.cmm_graph.specs.declared.number.NodeId.{NodeId}
use Rattle.cmm_graph.specs.declared.number.Temporary.{Temporary}
use Rattle.cmm_graph.specs.declared.operand.Destination.TheVariants as destination
use Rattle.cmm_graph.specs.declared.operand.Operand.{Operand}
use Rattle.cmm_graph.specs.declared.operand.Rvalue.{Rvalue}
use Rattle.cmm_graph.specs.declared.operand.Rvalue.TheVariants as rvalue
use Rattle.cmm_graph.specs.GraphControl.{held_by, with_temporary}
use Rattle.cmm_graph.specs.Values.{operand_value, rvalue_value}
use Rattle.cmm_flow.specs.Code.{IsNode, ValueCode, ValuesCode, to_temporary}
use Rattle.cmm_graph.specs.Covering.{access_tokens}
use Rattle.cmm_flow.specs.Operands.{nodes, operand_of, temporary}
use Rattle.cmm_flow.specs.Statements.{AddressesCode, AssignCode, SeveralCode, StoresCode}
use Rattle.cmm_flow.proofs.Expressions.{bound, into_temporary, operand_brings, value_comes, written, written_below}
use Rattle.cmm_flow.proofs.Fits.{AreTyped, IsFit, IsTyped, first_typed, others_typed, small_given, typed_with, word_passes}
use Rattle.cmm_flow.proofs.Operands.{AreSameBelow, inner, value_kept}
use Rattle.cmm_flow.proofs.Steps.{Goes, Run, Youngest, at, at_most, goto_goes, passes_one, shown_as, stays_there, then_goes}
use Rattle.cmm_flow.proofs.Writes.{assigned_leaves, put_leaves}

-- ---- what is assigned to

module _ (p : Program) (q : Proc) where
  -- places that keep the rules on widths
  abbrev pub AreLvalues : List Lvalue → Type 0
  AreLvalues ls = IsTrue (list_all (is_lvalue p q) ls)

  others_lvalues : (l : Lvalue) (ls : List Lvalue) → AreLvalues (l ∷ ls) → AreLvalues ls
  others_lvalues l ls are = (and_parts (is_lvalue p q l) (list_all (is_lvalue p q) ls) are).1

  address_typed : (width : Width) (aligned : ℕ) (address : Expression) (ls : List Lvalue) → AreLvalues (lvalue.Memory width aligned address ∷ ls) → IsTyped p q address
  address_typed width aligned address ls are =
      let place = (and_parts (is_lvalue p q (lvalue.Memory width aligned address)) (list_all (is_lvalue p q) ls) are).0 in
      typed_with p q W64 address (and_parts (is_alignment aligned) (has_width p q W64 address) place).1

  -- so of an assignment
  pub assigned_lvalues : (to : List Lvalue) (es : List Expression) → IsTrue (are_assigned p q to es) → AreLvalues to
  assigned_lvalues [] [] are = refl
  assigned_lvalues [] (e ∷ es) are = grind (arith, are)
  assigned_lvalues (l ∷ ls) [] are = grind (arith, are)
  assigned_lvalues (l ∷ ls) (e ∷ es) are = grind (arith, are, assigned_lvalues ls es)

  pub assigned_typed : (to : List Lvalue) (es : List Expression) → IsTrue (are_assigned p q to es) → AreTyped p q es
  assigned_typed [] [] are = refl
  assigned_typed [] (e ∷ es) are = grind (arith, are)
  assigned_typed (l ∷ ls) [] are = grind (arith, are)
  assigned_typed (l ∷ ls) (e ∷ es) are = grind (arith, are, assigned_typed ls es, typed_with p q (lvalue_width p q l) e)

abbrev numbered : ℕ → Temporary
numbered n = record { number = n }

-- ---- places and values that temporaries hold, which are words

abbrev HoldPlaces : (Temporary → ℕ) → List Lvalue → List Place → ℕ → Type 0
HoldPlaces temporaries [] [] base = Unit {0}
HoldPlaces temporaries (lvalue.Target target ∷ ls) (p ∷ ps) base = (p ≡ Held target) × HoldPlaces temporaries ls ps (suc base)
HoldPlaces temporaries (lvalue.Memory width aligned address ∷ ls) (p ∷ ps) base =
    (p ≡ Memory width aligned (temporaries (numbered base))) × HoldPlaces temporaries ls ps (suc base)
HoldPlaces temporaries _ _ base = ⊥

abbrev HoldValues : (Temporary → ℕ) → List Expression → List ℕ → ℕ → Type 0
HoldValues temporaries [] [] base = Unit {0}
HoldValues temporaries (e ∷ es) (v ∷ vs) base = (temporaries (numbered base) ≡ v) × (v < 2 ^ 64) × HoldValues temporaries es vs (suc base)
HoldValues temporaries _ _ base = ⊥

-- they still do once later temporaries have changed
places_kept : (temporaries others : Temporary → ℕ) (ls : List Lvalue) (ps : List Place) (base limit : ℕ) → base + length ls ≤ limit →
    AreSameBelow limit temporaries others → HoldPlaces temporaries ls ps base → HoldPlaces others ls ps base
places_kept temporaries others [] [] base limit fits same hold = tt
places_kept temporaries others [] (p ∷ ps) base limit fits same hold = elim hold [ ]
places_kept temporaries others (lvalue.Target target ∷ ls) [] base limit fits same hold = elim hold [ ]
places_kept temporaries others (lvalue.Memory width aligned address ∷ ls) [] base limit fits same hold = elim hold [ ]
places_kept temporaries others (lvalue.Target target ∷ ls) (p ∷ ps) base limit fits same hold =
    (hold.0, places_kept temporaries others ls ps (suc base) limit (omega arith) same hold.1)
places_kept temporaries others (lvalue.Memory width aligned address ∷ ls) (p ∷ ps) base limit fits same hold =
    (hold.0 ∙ ap (Memory width aligned) (sym (same (numbered base) (omega arith))), places_kept temporaries others ls ps (suc base) limit (omega arith) same hold.1)

-- ---- counts of nodes

-- values that are there take a step
abbrev at_least : List Expression → ℕ
at_least [] = 0
at_least (e ∷ es) = 1

abbrev pub addresses_cost : List Lvalue → ℕ
addresses_cost [] = 0
addresses_cost (lvalue.Target target ∷ ls) = addresses_cost ls
addresses_cost (lvalue.Memory width aligned address ∷ ls) = inner address + 1 + addresses_cost ls

abbrev pub values_cost : List Expression → ℕ
values_cost [] = 0
values_cost (e ∷ es) = inner e + 1 + values_cost es

abbrev pub stores_cost : List Lvalue → ℕ
stores_cost [] = 0
stores_cost (lvalue.Target target ∷ ls) = 1 + stores_cost ls
stores_cost (lvalue.Memory width aligned address ∷ ls) = access_tokens width aligned + stores_cost ls

abbrev pub assign_cost : List Lvalue → List Expression → ℕ
assign_cost to [] = 1
assign_cost (lvalue.Target target ∷ []) (e ∷ []) = inner e + 1
assign_cost (lvalue.Memory width aligned address ∷ []) (e ∷ []) = nodes address + nodes e + access_tokens width aligned
assign_cost to (e ∷ es) = addresses_cost to + values_cost (e ∷ es) + stores_cost to

module _ {r : Run} (y : Youngest r) where
  -- ---- a node that puts a value into a place

  pub target_goes : (store : Store) (temporaries : Temporary → ℕ) (n k : NodeId) (target : Target) (tokens : ℕ) (side : Rvalue) (v : ℕ) → store.status ≡ Running →
      IsNode y.graph.nodes n tokens (kind.Assign (destination.Target target) side k) → rvalue_value (held_by temporaries) side (reads_of r.setting store) ≡ Ok v →
      Goes r (store_seen (assigned target v store)) 1 (max 1 tokens) (at y store temporaries n) (at y (assigned target v store) temporaries k)
  target_goes store temporaries n k target tokens side v running node is =
      passes_one y store (assigned target v store) temporaries n tokens (kind.Assign (destination.Target target) side k)
      (order.Assign (record { place = Held target; value = v } ∷ [])) 0 running node
      (ap (λ t. and_then (and_then t (λ a. and_then (Ok []) (λ rest. Ok (a ∷ rest)))) (λ vs. Ok (order.Assign (writes (Held target ∷ []) vs)))) is)
      refl ((assigned_leaves target v store).status ∙ running) refl refl

  pub store_goes : (store after : Store) (temporaries : Temporary → ℕ) (n k : NodeId) (width : Width) (aligned : ℕ) (address value : Operand) (a v : ℕ) →
      (tokens : ℕ) → store.status ≡ Running → IsNode y.graph.nodes n tokens (kind.Store width aligned address value k) →
      operand_value (held_by temporaries) address (reads_of r.setting store) ≡ Ok a →
      operand_value (held_by temporaries) value (reads_of r.setting store) ≡ Ok v →
      put (Memory width aligned a) v store ≡ Ok after →
      Goes r (store_seen after) 1 (max 1 tokens) (at y store temporaries n) (at y after temporaries k)
  store_goes store after temporaries n k width aligned address value a v tokens running node is_address is_value puts =
      let value_there = operand_value (held_by temporaries) value (reads_of r.setting store) in
      passes_one y store after temporaries n tokens (kind.Store width aligned address value k)
      (order.Assign (record { place = Memory width aligned a; value = v } ∷ [])) 0 running node
      (ap (λ t. and_then (and_then (and_then t (λ a. Ok (Memory width aligned a))) (λ p. and_then (Ok []) (λ rest. Ok (p ∷ rest))))
      (λ ps. and_then (and_then value_there (λ v. and_then (Ok []) (λ rest. Ok (v ∷ rest)))) (λ vs. Ok (order.Assign (writes ps vs))))) is_address
      ∙ ap (λ t. and_then (and_then t (λ v. and_then (Ok []) (λ rest. Ok (v ∷ rest)))) (λ vs. Ok (order.Assign (writes (Memory width aligned a ∷ []) vs)))) is_value)
      (ap (λ t. and_then (and_then t (put_all [])) (λ after. Ok (Stay 0 after))) puts)
      ((put_leaves (Memory width aligned a) v store after puts).status ∙ running) refl refl

  -- ---- values into temporaries, one after the other

  module _ (store : Store) (running : store.status ≡ Running) {q : Proc} (fit : IsFit r.setting q store) where
    -- control comes from a node to another, and temporaries below the base are left alone
    record Moves (temporaries : Temporary → ℕ) (n k : NodeId) (least most base : ℕ) (P : (Temporary → ℕ) → Type 0) : Type 0 where
      after : Temporary → ℕ
      path : Goes r (store_seen store) least most (at y store temporaries n) (at y store after k)
      holds : P after
      below : AreSameBelow base temporaries after

    value_moves : (e : Expression) (temporaries : Temporary → ℕ) (base : ℕ) (n k : NodeId) (v : ℕ) → IsTyped r.setting.program q e →
        value_of e (reads_of r.setting store) ≡ Ok v → ValueCode y.graph.nodes e base (to_temporary base) n k → Moves temporaries n k 1 (inner e + 1) base (λ after. after (numbered base) ≡ v)
    value_moves e temporaries base n k v typed is code =
        let comes = value_comes y store running fit e temporaries base (to_temporary base) n k v typed is code in
        record {
          after = with_temporary (numbered base) v comes.after;
          path =
              let fits = comes.fits in
              at_most (then_goes comes.path (into_temporary y store running comes.after comes.last k base v comes.tokens comes.side comes.node comes.value)) (omega arith)
              (omega (arith, fits));
          holds = written y store running comes.after base v;
          below = λ u less. written_below y store running comes.after base v u less ∙ comes.below u less;
        }

    nothing_moves : (P : (Temporary → ℕ) → Type 0) (temporaries : Temporary → ℕ) (n k : NodeId) (base : ℕ) → n ≡ k → P temporaries → Moves temporaries n k 0 0 base P
    nothing_moves P temporaries n k base same holds = record {
      after = temporaries;
      path = subst (λ m. Goes r (store_seen store) 0 0 (at y store temporaries n) (at y store temporaries m)) same (stays_there 0 (at y store temporaries n));
      holds = holds;
      below = λ u less. refl;
    }

    values_move : (es : List Expression) (temporaries : Temporary → ℕ) (base : ℕ) (n k : NodeId) (vs : List ℕ) → AreTyped r.setting.program q es →
        values_of (reads_of r.setting store) (map value_of es) ≡ Ok vs → ValuesCode y.graph.nodes es base n k →
        Moves temporaries n k (at_least es) (values_cost es) base (λ after. HoldValues after es vs base)
    values_move [] temporaries base n k vs typed is same =
        let none : [] ≡ vs = grind (arith, is) in nothing_moves (λ after. HoldValues after [] vs base) temporaries n k base same (rw (sym none) tt)
    values_move (e ∷ es) temporaries base n k vs typed is code =
        let reads = reads_of r.setting store in
        let first = bound (value_of e reads) (λ a. and_then (values_of reads (map value_of es)) (λ rest. Ok (a ∷ rest))) vs is in
        let others = bound (values_of reads (map value_of es)) (λ rest. Ok (first.0 ∷ rest)) vs first.2 in
        let same : first.0 ∷ others.0 ≡ vs = grind (arith, others.2) in
        let has = first_typed r.setting.program q e es typed in
        let moves = value_moves e temporaries base n code.0 first.0 has first.1 code.1 in
        let later = values_move es moves.after (suc base) code.0 k others.0 (others_typed r.setting.program q e es typed) others.1 code.2 in
        rw (sym same) (record {
          after = later.after;
          path = at_most (then_goes moves.path later.path) (omega arith) (omega arith);
          holds = (later.below (numbered base) (omega arith) ∙ moves.holds, small_given fit e first.0 has first.1, later.holds);
          below = λ u less. later.below u (omega arith) ∙ moves.below u less;
        })

    addresses_move : (ls : List Lvalue) (temporaries : Temporary → ℕ) (base : ℕ) (n k : NodeId) (ps : List Place) → AreLvalues r.setting.program q ls →
        places_of (reads_of r.setting store) (map aim_of ls) ≡ Ok ps → AddressesCode y.graph.nodes ls base n k →
        Moves temporaries n k 0 (addresses_cost ls) base (λ after. HoldPlaces after ls ps base)
    addresses_move [] temporaries base n k ps lvalues is same =
        let none : [] ≡ ps = grind (arith, is) in nothing_moves (λ after. HoldPlaces after [] ps base) temporaries n k base same (rw (sym none) tt)
    addresses_move (lvalue.Target target ∷ ls) temporaries base n k ps lvalues is code =
        let reads = reads_of r.setting store in
        let others = bound (places_of reads (map aim_of ls)) (λ rest. Ok (Held target ∷ rest)) ps is in
        let same : Held target ∷ others.0 ≡ ps = grind (arith, others.2) in
        let later = addresses_move ls temporaries (suc base) n k others.0 (others_lvalues r.setting.program q (lvalue.Target target) ls lvalues) others.1 code in
        rw (sym same) (record {
          after = later.after;
          path = later.path;
          holds = (refl, later.holds);
          below = λ u less. later.below u (omega arith);
        })
    addresses_move (lvalue.Memory width aligned address ∷ ls) temporaries base n k ps lvalues is code =
        let reads = reads_of r.setting store in
        let first = bound (aim_of (lvalue.Memory width aligned address) reads) (λ a. and_then (places_of reads (map aim_of ls)) (λ rest. Ok (a ∷ rest))) ps is in
        let value = bound (value_of address reads) (λ a. Ok (Memory width aligned a)) first.0 first.1 in
        let others = bound (places_of reads (map aim_of ls)) (λ rest. Ok (first.0 ∷ rest)) ps first.2 in
        let place : Memory width aligned value.0 ≡ first.0 = grind (arith, value.2) in
        let same : first.0 ∷ others.0 ≡ ps = grind (arith, others.2) in
        let moves = value_moves address temporaries base n code.0 value.0 (address_typed r.setting.program q width aligned address ls lvalues) value.1 code.1 in
        let later =
        addresses_move ls moves.after (suc base) code.0 k others.0 (others_lvalues r.setting.program q (lvalue.Memory width aligned address) ls lvalues) others.1 code.2 in
        rw (sym same) (record {
          after = later.after;
          path = at_most (then_goes moves.path later.path) (omega arith) (omega arith);
          holds = (sym place ∙ ap (Memory width aligned) (sym (later.below (numbered base) (omega arith) ∙ moves.holds)), later.holds);
          below = λ u less. later.below u (omega arith) ∙ moves.below u less;
        })

  -- ---- values in temporaries are stored

  -- a store after some steps, which leave what is seen and the activations
  record Stores (store after : Store) (temporaries : Temporary → ℕ) (n k : NodeId) (most : ℕ) : Type 0 where
    path : Goes r (store_seen store) 0 most (at y store temporaries n) (at y after temporaries k)

  nothing_stores : (store after : Store) (temporaries : Temporary → ℕ) (n k : NodeId) (most : ℕ) → n ≡ k → store ≡ after → Stores store after temporaries n k most
  nothing_stores store after temporaries n k most same stays = record {
    path = subst (λ m. Goes r (store_seen store) 0 most (at y store temporaries n) (at y after temporaries m)) same
        (subst (λ s. Goes r (store_seen store) 0 most (at y store temporaries n) (at y s temporaries n)) stays (stays_there most (at y store temporaries n)));
  }

  stores_go : (ls : List Lvalue) (es : List Expression) (ps : List Place) (vs : List ℕ) (store after : Store) (temporaries : Temporary → ℕ)
      (address value : ℕ) (n k : NodeId) → store.status ≡ Running → put_all (writes ps vs) store ≡ Ok after →
      HoldPlaces temporaries ls ps address → HoldValues temporaries es vs value → StoresCode y.graph.nodes ls es address value n k →
      Stores store after temporaries n k (stores_cost ls)
  stores_go [] es [] vs store after temporaries address value n k running is places values same =
      nothing_stores store after temporaries n k 0 same (grind (arith, is))
  stores_go [] es (p ∷ ps) vs store after temporaries address value n k running is places values same = elim places [ ]
  stores_go (l ∷ ls) [] (p ∷ ps) [] store after temporaries address value n k running is places values same =
      nothing_stores store after temporaries n k (stores_cost (l ∷ ls)) same (grind (arith, is))
  stores_go (l ∷ ls) [] [] [] store after temporaries address value n k running is places values same =
      nothing_stores store after temporaries n k (stores_cost (l ∷ ls)) same (grind (arith, is))
  stores_go (l ∷ ls) [] ps (v ∷ vs) store after temporaries address value n k running is places values same = elim values [ ]
  stores_go (l ∷ ls) (e ∷ es) ps [] store after temporaries address value n k running is places values code = elim values [ ]
  stores_go (lvalue.Target target ∷ ls) (e ∷ es) [] (v ∷ vs) store after temporaries address value n k running is places values code = elim places [ ]
  stores_go (lvalue.Memory width aligned a ∷ ls) (e ∷ es) [] (v ∷ vs) store after temporaries address value n k running is places values code =
      elim places [ ]
  stores_go (lvalue.Target target ∷ ls) (e ∷ es) (p ∷ ps) (v ∷ vs) store after temporaries address value n k running is places values code =
      let later = ap (λ p. and_then (put p v store) (put_all (writes ps vs))) (sym places.0) ∙ is in
      let leaves = assigned_leaves target v store in
      let copied = word_passes W64 (operand_value (held_by temporaries) (temporary value)) (reads_of r.setting store) v (ap Ok values.0) values.1 in
      let first = target_goes store temporaries n code.0 target 1 (rvalue.Copy (temporary value)) v running code.1 copied in
      let others = stores_go ls es ps vs (assigned target v store) after temporaries (suc address) (suc value) code.0 k (leaves.status ∙ running) later places.1 values.2 code.2 in
      record { path = shown_as leaves.seen (at_most (then_goes first others.path) (omega arith) (omega arith)) }
  stores_go (lvalue.Memory width aligned a ∷ ls) (e ∷ es) (p ∷ ps) (v ∷ vs) store after temporaries address value n k running is places values code =
      let place = Memory width aligned (temporaries (numbered address)) in
      let both = bound (put place v store) (put_all (writes ps vs)) after (ap (λ p. and_then (put p v store) (put_all (writes ps vs))) (sym places.0) ∙ is) in
      let leaves = put_leaves place v store both.0 both.1 in
      let first =
      store_goes store both.0 temporaries n code.0 width aligned (temporary address) (temporary value) (temporaries (numbered address)) v (access_tokens width aligned) running code.1 refl
      (ap Ok values.0) both.1 in
      let others = stores_go ls es ps vs both.0 after temporaries (suc address) (suc value) code.0 k (leaves.status ∙ running) both.2 places.1 values.2 code.2 in
      record { path = shown_as leaves.seen (at_most (then_goes first others.path) (omega arith) (omega arith)) }

  -- ---- an assignment

  -- control comes behind it, with all of it done
  pub record Assigned (store after : Store) (temporaries : Temporary → ℕ) (n k : NodeId) (most : ℕ) : Type 0 where
    pub then_ : Temporary → ℕ
    pub path : Goes r (store_seen store) 1 most (at y store temporaries n) (at y after then_ k)

  several_done : {q : Proc} (to : List Lvalue) (e : Expression) (es : List Expression) (ps : List Place) (vs : List ℕ) (store after : Store) (temporaries : Temporary → ℕ)
      (n k : NodeId) → store.status ≡ Running → IsFit r.setting q store → AreLvalues r.setting.program q to → AreTyped r.setting.program q (e ∷ es) →
      places_of (reads_of r.setting store) (map aim_of to) ≡ Ok ps → values_of (reads_of r.setting store) (map value_of (e ∷ es)) ≡ Ok vs → put_all (writes ps vs) store ≡ Ok after →
      SeveralCode y.graph.nodes to (e ∷ es) n k →
      Assigned store after temporaries n k (addresses_cost to + values_cost (e ∷ es) + stores_cost to)
  several_done to e es ps vs store after temporaries n k running fit lvalues typed places values puts code =
      let first = addresses_move store running fit to temporaries 0 n code.0 ps lvalues places code.2 in
      let second = values_move store running fit (e ∷ es) first.after (length to) code.0 code.1 vs typed values code.3 in
      let kept = places_kept first.after second.after to ps 0 (length to) (omega arith) second.below first.holds in
      let third = stores_go to (e ∷ es) ps vs store after second.after 0 (length to) code.1 k running puts kept second.holds code.4 in
      record { then_ = second.after; path = at_most (then_goes (then_goes first.path second.path) third.path) (omega arith) (omega arith) }

  pub assign_done : {q : Proc} (to : List Lvalue) (es : List Expression) (ps : List Place) (vs : List ℕ) (store after : Store) (temporaries : Temporary → ℕ)
      (n k : NodeId) → store.status ≡ Running → IsFit r.setting q store → AreLvalues r.setting.program q to → AreTyped r.setting.program q es →
      places_of (reads_of r.setting store) (map aim_of to) ≡ Ok ps → values_of (reads_of r.setting store) (map value_of es) ≡ Ok vs → put_all (writes ps vs) store ≡ Ok after →
      AssignCode y.graph.nodes to es n k → Assigned store after temporaries n k (assign_cost to es)
  assign_done to [] ps vs store after temporaries n k running fit lvalues typed places values puts node =
      let none : [] ≡ vs = grind (arith, values) in
      let same : store ≡ after = unwritten ps vs none puts in
      record { then_ = temporaries; path = subst (λ s. Goes r (store_seen store) 1 1 (at y store temporaries n) (at y s temporaries k)) same (goto_goes y store temporaries n k running node) }
    where
      unwritten : (ps : List Place) (vs : List ℕ) → [] ≡ vs → put_all (writes ps vs) store ≡ Ok after → store ≡ after
      unwritten [] vs none puts = grind (arith, puts)
      unwritten (p ∷ ps) [] none puts = grind (arith, puts)
      unwritten (p ∷ ps) (v ∷ vs) none puts = grind (arith, none)
  assign_done {q = q} (lvalue.Target target ∷ []) (e ∷ []) ps vs store after temporaries n k running fit lvalues typed places values puts code =
      let reads = reads_of r.setting store in
      let first = bound (value_of e reads) (λ a. Ok (a ∷ [])) vs values in
      let value : first.0 ∷ [] ≡ vs = grind (arith, first.2) in
      let place : Held target ∷ [] ≡ ps = grind (arith, places) in
      let puts' : Ok (assigned target first.0 store) ≡ Ok after =
      ap (λ ps. put_all (writes ps (first.0 ∷ [])) store) place ∙ ap (λ vs. put_all (writes ps vs) store) value ∙ puts in
      let same : assigned target first.0 store ≡ after = grind (arith, puts') in
      let comes = value_comes y store running fit e temporaries 0 (destination.Target target) n k first.0 (first_typed r.setting.program q e [] typed) first.1 code in
      let fits = comes.fits in
      let last = target_goes store comes.after comes.last k target comes.tokens comes.side first.0 running comes.node comes.value in
      record {
        then_ = comes.after;
        path = subst (λ s. Goes r (store_seen store) 1 (inner e + 1) (at y store temporaries n) (at y s comes.after k)) same
            (at_most (then_goes comes.path (shown_as (assigned_leaves target first.0 store).seen last)) (omega arith) (omega (arith, fits)));
      }
  assign_done {q = q} (lvalue.Memory width aligned address ∷ []) (e ∷ []) ps vs store after temporaries n k running fit lvalues typed places values puts code =
      let reads = reads_of r.setting store in
      let aim = bound (aim_of (lvalue.Memory width aligned address) reads) (λ a. Ok (a ∷ [])) ps places in
      let a = bound (value_of address reads) (λ a. Ok (Memory width aligned a)) aim.0 aim.1 in
      let v = bound (value_of e reads) (λ a. Ok (a ∷ [])) vs values in
      let value : v.0 ∷ [] ≡ vs = grind (arith, v.2) in
      let place : Memory width aligned a.0 ∷ [] ≡ ps = grind (arith, aim.2, a.2) in
      let both =
      bound (put (Memory width aligned a.0) v.0 store) (put_all []) after
      (ap (λ ps. put_all (writes ps (v.0 ∷ [])) store) place ∙ ap (λ vs. put_all (writes ps vs) store) value ∙ puts) in
      let same : both.0 ≡ after = grind (arith, both.2) in
      let first = operand_brings y store running fit address temporaries 0 n code.0 a.0 (address_typed r.setting.program q width aligned address [] lvalues) a.1 code.2 in
      let second = operand_brings y store running fit e first.after 1 code.0 code.1 v.0 (first_typed r.setting.program q e [] typed) v.1 code.3 in
      let kept = value_kept 0 1 first.after second.after reads address (omega arith) second.below ∙ first.value in
      let last = store_goes store both.0 second.after code.1 k width aligned (operand_of 0 address) (operand_of 1 e) a.0 v.0 (access_tokens width aligned) running code.4 kept second.value both.1 in
      record {
        then_ = second.after;
        path = subst (λ s. Goes r (store_seen store) 1 (nodes address + nodes e + access_tokens width aligned) (at y store temporaries n) (at y s second.after k)) same
            (at_most (then_goes (then_goes first.path second.path) (shown_as (put_leaves (Memory width aligned a.0) v.0 store both.0 both.1).seen last))
            (omega arith) (omega arith));
      }
  assign_done (l ∷ m ∷ ls) (e ∷ es) ps vs store after temporaries n k running fit lvalues typed places values puts code =
      several_done (l ∷ m ∷ ls) e es ps vs store after temporaries n k running fit lvalues typed places values puts code
  assign_done to (e ∷ es) ps vs store after temporaries n k running fit lvalues typed places values puts code =
      several_done to e es ps vs store after temporaries n k running fit lvalues typed places values puts code
