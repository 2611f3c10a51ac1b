-- A test of nodes, wherever they lead: they name what a procedure and its program have, and temporaries below a limit. The nodes of
-- expressions that keep the rules on widths pass it, where the limit leaves room for their temporaries.
use Rattle.std.proofs.Common.{◌≡◌, ℕ, suc, ◌+◌, ◌<◌, ◌≤◌, ◌&&◌, nat_le, nat_lt, IsTrue, Bool, true, false, Option, Some, None, List, [], ◌∷◌, ◌++◌, length, slice_get, refl, arith}
use Rattle.std.proofs.lemmas.Bool.{and_parts}
use Rattle.std.proofs.lemmas.Option.{slice_get_within}
use Rattle.std.specs.List.{list_all}
use Rattle.std.specs.Option.{is_some}
use mathlib.Core.Former.{one_more}
use Rattle.cmm_words.specs.declared.width.Width.{Width}
use Rattle.cmm_words.specs.declared.width.Width.TheVariants.{W64}
use Rattle.cmm_words.specs.Widths.{bits}
use Rattle.cmm_program.specs.declared.expression.Condition.{Condition, Row_of-Condition, more_of-Condition}
use Rattle.cmm_program.specs.declared.expression.Condition.TheVariants.{Compare, Not', Both', Either'}
use Rattle.cmm_program.specs.declared.expression.Expression.{Expression, Row_of-Expression, more_of-Expression}
use Rattle.cmm_program.specs.declared.expression.Expression.TheVariants.{Known, Variable, Register, Stackdata, Continuation, Load', Unary', Binary', SignExtend', ZeroExtend', LowBits'}
use Rattle.cmm_program.specs.declared.procedure.Proc.{Proc}
use Rattle.cmm_program.specs.declared.procedure.VarInfo.{VarInfo}
use Rattle.cmm_program.specs.declared.program.Program.{Program}
use Rattle.cmm_program.specs.declared.program.Global.{Global}
use Rattle.cmm_program.specs.Errors.{with_some}
use Rattle.cmm_program.specs.Folds.{fold_condition, fold_operand, fold_part}
use Rattle.cmm_program.specs.Layout.{stackdata_labels}
use Rattle.cmm_program.specs.Typing.{constant_width, has_register, has_variable, has_width, if_holds, if_width, is_alignment, is_target, same_width, test_step, typed, width_step}
use Rattle.cmm_graph.specs.declared.node.HostCall.TheVariants.{GetByte}
use Rattle.cmm_graph.specs.declared.node.Node.{Node}
use Rattle.cmm_graph.specs.declared.node.NodeKind.{NodeKind}
use Rattle.cmm_graph.specs.declared.node.NodeKind.TheVariants.{Entry, CopyIn, Assign, Store, Cut, Return, Host}
use Rattle.cmm_graph.specs.declared.operand.Destination.{Destination}
use Rattle.cmm_graph.specs.declared.operand.Destination.TheVariants as destination
use Rattle.cmm_graph.specs.declared.operand.Local.TheVariants as local
use Rattle.cmm_graph.specs.declared.operand.Operand.{Operand}
use Rattle.cmm_graph.specs.declared.operand.Operand.TheVariants as operand
use Rattle.cmm_graph.specs.declared.operand.Rvalue.{Rvalue}
use Rattle.cmm_graph.specs.declared.operand.Rvalue.TheVariants as rvalue
use Rattle.cmm_graph.specs.Paths.{operands, operands_of_rvalue, values_of}
use Rattle.cmm_graph.specs.Covering.{least_for}
use Rattle.cmm_flow.specs.Code.{to_temporary}
use Rattle.cmm_flow.specs.Operands.{arguments_of, is_plain, nodes, nodes_in, operand_in, operand_of, operand_step, operands_of, plain_step, test_node_step, test_nodes}
use Rattle.cmm_flow.specs.inside.Nodes.{assigned, branch, nodes_of_operand, nodes_of_operands, nodes_of_test, nodes_of_test_part, nodes_of_two, nodes_of_value}
use Rattle.cmm_flow.specs.inside.Parts.{rvalue_in, rvalue_of}
use Rattle.cmm_flow.proofs.Covering.{test_less}
use Rattle.cmm_flow.proofs.Laying.{and_both, both_pass}
use Rattle.cmm_flow.proofs.NodesPass.{FitAll, HoldsOfParts, In, operand_passes, operands_pass, value_passes}
use Rattle.cmm_flow.proofs.Operands.{operator_some}

-- ---- widths that are there

abbrev pub IsThere : Option Width → Type 0
IsThere o = IsTrue (is_some o)

width_there : (a : Option Width) (wanted result : Width) → IsThere (if_width a wanted result) → IsThere a
width_there None wanted result there = there
width_there (Some w) wanted result there = refl

given_there : (o : Option Width) (f : Width → Option Width) → IsThere (with_some o f) → IsThere o
given_there None f there = there
given_there (Some w) f there = refl

then_there : (o : Option Width) (test : Bool) → IsThere (with_some o (λ w. if_holds test w)) → IsTrue test
then_there None test there = absurd (cc)
then_there (Some w) true there = refl
then_there (Some w) false there = there

then_both : (o other : Option Width) (result : Width) → IsThere (with_some o (λ w. if_width other w w)) → IsThere other
then_both None other result there = absurd (cc)
then_both (Some w) other result there = width_there other w w there

pub holds_there : (test : Bool) (w : Width) → IsThere (if_holds test w) → IsTrue test
holds_there true w there = refl
holds_there false w there = there

-- ---- the test

module _ (p : Program) (q : Proc) (limit : ℕ) where
  abbrev pub operand_belongs : Operand → Bool
  operand_belongs (operand.Constant c) = is_some (constant_width p c)
  operand_belongs (operand.Local (local.Variable v)) = nat_lt v.number (length q.vars)
  operand_belongs (operand.Local (local.Temporary t)) = nat_lt t.number limit
  operand_belongs (operand.Stackdata label) = nat_lt label.number (length (stackdata_labels q.stack))
  operand_belongs (operand.Continuation k) = nat_lt k.number (length q.conts)

  -- a right side, apart from its operands
  abbrev pub right_belongs : Rvalue → Bool
  right_belongs (rvalue.Register r) = nat_lt r.number (length p.globals)
  right_belongs (rvalue.Load width aligned address) = is_alignment aligned
  right_belongs (rvalue.SignExtend from to o) = nat_le (bits from) (bits to)
  right_belongs (rvalue.LowBits from to o) = nat_le (bits to) (bits from)
  right_belongs _ = true

  abbrev pub destination_belongs : Destination → Bool
  destination_belongs (destination.Target t) = is_target p q t
  destination_belongs (destination.Temporary t) = nat_lt t.number limit

  -- a node, apart from its operands
  abbrev pub rest_belongs : NodeKind → Bool
  rest_belongs (Entry formals next) = list_all (λ v. nat_lt v.number (length q.vars)) formals
  rest_belongs (CopyIn to next) = list_all (is_target p q) to
  rest_belongs (Assign to value next) = destination_belongs to && right_belongs value
  rest_belongs (Store width aligned address value next) = is_alignment aligned
  rest_belongs (Cut to arguments own) = list_all (λ k. nat_lt k.number (length q.conts)) own
  rest_belongs (Return exit alternates results) = nat_le exit alternates
  rest_belongs (Host (GetByte to) next) = is_target p q to
  rest_belongs _ = true

  abbrev pub belongs : Node → Bool
  belongs node = nat_lt 0 node.tokens && (list_all operand_belongs (operands node.kind) && rest_belongs node.kind)

  pub node_belongs : (node : Node) → 0 < node.tokens → IsTrue (list_all operand_belongs (operands node.kind)) → IsTrue (rest_belongs node.kind) → IsTrue (belongs node)
  node_belongs node positive first rest =
      and_both (nat_lt 0 node.tokens) (list_all operand_belongs (operands node.kind) && rest_belongs node.kind) (test_less 0 node.tokens positive)
      (and_both (list_all operand_belongs (operands node.kind)) (rest_belongs node.kind) first rest)

  -- ---- expressions

  -- It keeps the rules on widths, and there is room for the temporaries of its nodes.
  pub record Fits (base : ℕ) (e : Expression) : Type 0 where
    pub there : IsThere (typed p q e)
    pub room : base + nodes e ≤ limit

  in_row : {i : _} (base : ℕ) (row : Row_of-Expression (one_more i)) → IsThere (fold_operand (width_step p q) row) → base + nodes_in row ≤ limit →
      In Fits base row
  in_row base (more_of-Expression a rest) there room = record { there = there; room = room }

  pub parts : HoldsOfParts Fits
  parts = record {
    load = λ base width aligned i a fits.
        in_row base a (width_there (fold_operand (width_step p q) a) W64 width (given_there _ _ fits.there)) (let room = fits.room in omega (arith, room));
    unary = λ base op width i a fits. in_row base a (width_there (fold_operand (width_step p q) a) width width fits.there) (let room = fits.room in omega (arith, room));
    binary = λ base op width i a j b fits. let room = fits.room in let some = operator_some width (operand_in 0 a) (operand_in 1 b) in (
      in_row base a (width_there (fold_operand (width_step p q) a) width width (given_there _ _ fits.there)) (omega (arith, room)),
      in_row (suc base) b (then_both (if_width (fold_operand (width_step p q) a) width width) (fold_operand (width_step p q) b) width fits.there) (omega (arith, room, some)),
    );
    sign_extend = λ base from to i a fits.
        in_row base a (width_there (fold_operand (width_step p q) a) from to (given_there _ _ fits.there)) (let room = fits.room in omega (arith, room));
    zero_extend = λ base from to i a fits.
        in_row base a (width_there (fold_operand (width_step p q) a) from to (given_there _ _ fits.there)) (let room = fits.room in omega (arith, room));
    low_bits = λ base from to i a fits.
        in_row base a (width_there (fold_operand (width_step p q) a) from to (given_there _ _ fits.there)) (let room = fits.room in omega (arith, room));
  }

  pub has_there : (n : ℕ) (width : Width) → IsTrue (has_variable q n width) → n < length q.vars
  has_there n width has = by (slice_get q.vars n) refl has
    where
      by : (o : Option VarInfo) → slice_get q.vars n ≡ o → IsTrue (elim o as (λ _. Bool) [ Some v ↦ same_width v.width width | None ↦ false ]) → n < length q.vars
      by (Some v) is has = slice_get_within q.vars n v is
      by None is has = absurd (cc)

  register_there : (n : ℕ) (width : Width) → IsTrue (has_register p n width) → n < length p.globals
  register_there n width has = by (slice_get p.globals n) refl has
    where
      by : (o : Option Global) → slice_get p.globals n ≡ o → IsTrue (elim o as (λ _. Bool) [ Some g ↦ same_width g.width width | None ↦ false ]) → n < length p.globals
      by (Some g) is has = slice_get_within p.globals n g is
      by None is has = absurd (cc)

  mutual
    pub operand_fits : (base : ℕ) (e : Expression) → Fits base e → IsTrue (operand_belongs (operand_of base e))
    operand_fits base (Known value) fits = fits.there
    operand_fits base (Variable number width) fits = test_less number (length q.vars) (has_there number width (holds_there (has_variable q number width) width fits.there))
    operand_fits base (Register number width) fits = let room = fits.room in test_less base limit (omega (arith, room))
    operand_fits base (Stackdata number) fits = holds_there (nat_lt number (length (stackdata_labels q.stack))) W64 fits.there
    operand_fits base (Continuation number) fits = holds_there (nat_lt number (length q.conts)) W64 fits.there
    operand_fits base (Load' width aligned i a) fits = let room = fits.room in test_less base limit (omega (arith, room))
    operand_fits base (Unary' op width i a) fits = let room = fits.room in test_less base limit (omega (arith, room))
    operand_fits base (Binary' op width i a j b) fits =
        let room = fits.room in test_less base limit (omega (arith, room, operator_some width (operand_in 0 a) (operand_in 1 b)))
    operand_fits base (SignExtend' from to i a) fits = let room = fits.room in test_less base limit (omega (arith, room))
    operand_fits base (ZeroExtend' from to i a) fits = same_fits base a (parts.zero_extend base from to i a fits)
    operand_fits base (LowBits' from to i a) fits = let room = fits.room in test_less base limit (omega (arith, room))

    same_fits : {i : _} (base : ℕ) (row : Row_of-Expression (one_more i)) → In Fits base row → IsTrue (operand_belongs (fold_operand (operand_step base) row))
    same_fits base (more_of-Expression a rest) fits = operand_fits base a fits

  row_fits : {i : _} (base : ℕ) (row : Row_of-Expression (one_more i)) → In Fits base row → IsTrue (list_all operand_belongs (operand_in base row ∷ []))
  row_fits base (more_of-Expression a rest) fits = and_both (operand_belongs (operand_of base a)) true (operand_fits base a fits) refl

  one_operand : (base : ℕ) (e : Expression) → Fits base e → IsTrue (list_all operand_belongs (operand_of base e ∷ []))
  one_operand base e fits = and_both (operand_belongs (operand_of base e)) true (operand_fits base e fits) refl

  -- the right side that the last node has
  pub record IsRight (value : Rvalue) : Type 0 where
    pub first : IsTrue (list_all operand_belongs (operands_of_rvalue value))
    pub rest : IsTrue (right_belongs value)

  mutual
    pub rvalue_fits : (base : ℕ) (e : Expression) → Fits base e → IsRight (rvalue_of base e)
    rvalue_fits base (Known value) fits = record { first = one_operand base (Known value) fits; rest = refl }
    rvalue_fits base (Variable number width) fits = record { first = one_operand base (Variable number width) fits; rest = refl }
    rvalue_fits base (Register number width) fits = record {
      first = refl;
      rest = test_less number (length p.globals) (register_there number width (holds_there (has_register p number width) width fits.there));
    }
    rvalue_fits base (Stackdata number) fits = record { first = one_operand base (Stackdata number) fits; rest = refl }
    rvalue_fits base (Continuation number) fits = record { first = one_operand base (Continuation number) fits; rest = refl }
    rvalue_fits base (Load' width aligned i a) fits = record {
      first = row_fits base a (parts.load base width aligned i a fits);
      rest = then_there (if_width (fold_operand (width_step p q) a) W64 width) (is_alignment aligned) fits.there;
    }
    rvalue_fits base (Unary' op width i a) fits = record { first = row_fits base a (parts.unary base op width i a fits); rest = refl }
    rvalue_fits base (Binary' op width i a j b) fits =
        let both = parts.binary base op width i a j b fits in
        record { first = both_pass operand_belongs (operand_in base a ∷ []) (operand_in (suc base) b ∷ []) (row_fits base a both.0) (row_fits (suc base) b both.1); rest = refl }
    rvalue_fits base (SignExtend' from to i a) fits = record {
      first = row_fits base a (parts.sign_extend base from to i a fits);
      rest = then_there (if_width (fold_operand (width_step p q) a) from to) (nat_le (bits from) (bits to)) fits.there;
    }
    rvalue_fits base (ZeroExtend' from to i a) fits = right_fits base a (parts.zero_extend base from to i a fits)
    rvalue_fits base (LowBits' from to i a) fits = record {
      first = row_fits base a (parts.low_bits base from to i a fits);
      rest = then_there (if_width (fold_operand (width_step p q) a) from to) (nat_le (bits to) (bits from)) fits.there;
    }

    right_fits : {i : _} (base : ℕ) (row : Row_of-Expression (one_more i)) → In Fits base row → IsRight (rvalue_in base row)
    right_fits base (more_of-Expression a rest) fits = rvalue_fits base a fits

  -- ---- their nodes

  right_positive : (value : Rvalue) → 0 < least_for value
  right_positive (rvalue.Load width aligned address) = omega arith
  right_positive (rvalue.Copy o) = omega arith
  right_positive (rvalue.Register r) = omega arith
  right_positive (rvalue.Unary operator width o) = omega arith
  right_positive (rvalue.Binary operator width left right) = operator_some width left right
  right_positive (rvalue.Compare c) = operator_some c.width c.left c.right
  right_positive (rvalue.SignExtend from to o) = omega arith
  right_positive (rvalue.LowBits from to o) = omega arith

  pub assigned_belongs : (to : Destination) (value : Rvalue) → IsTrue (destination_belongs to) → IsRight value → IsTrue (belongs (assigned to value))
  assigned_belongs to value is right =
      node_belongs (assigned to value) (right_positive value) right.first (and_both (destination_belongs to) (right_belongs value) is right.rest)

  mutual
    some_nodes : (e : Expression) → is_plain e ≡ false → 1 ≤ nodes e
    some_nodes (Known value) other = absurd (cc)
    some_nodes (Variable number width) other = absurd (cc)
    some_nodes (Register number width) other = omega arith
    some_nodes (Stackdata number) other = absurd (cc)
    some_nodes (Continuation number) other = absurd (cc)
    some_nodes (Load' width aligned i a) other = omega arith
    some_nodes (Unary' op width i a) other = omega arith
    some_nodes (Binary' op width i a j b) other = omega (arith, operator_some width (operand_in 0 a) (operand_in 1 b))
    some_nodes (SignExtend' from to i a) other = omega arith
    some_nodes (ZeroExtend' from to i a) other = some_in a other
    some_nodes (LowBits' from to i a) other = omega arith

    some_in : {i : _} (row : Row_of-Expression (one_more i)) → fold_operand plain_step row ≡ false → 1 ≤ nodes_in row
    some_in (more_of-Expression a rest) other = some_nodes a other

  into : (base : ℕ) (e : Expression) → Fits base e → is_plain e ≡ false → IsTrue (belongs (assigned (to_temporary base) (rvalue_of base e)))
  into base e fits other =
      let room = fits.room in
      assigned_belongs (to_temporary base) (rvalue_of base e) (test_less base limit (omega (arith, room, some_nodes e other))) (rvalue_fits base e fits)

  abbrev pub Belong : List Node → Type 0
  Belong nodes = IsTrue (list_all belongs nodes)

  pub operand_belong : (base : ℕ) (e : Expression) → Fits base e → Belong (nodes_of_operand base e)
  operand_belong base e fits = operand_passes belongs Fits parts into base e fits

  pub value_belong : (base : ℕ) (to : Destination) (e : Expression) → Fits base e → IsTrue (destination_belongs to) → Belong (nodes_of_value base to e)
  value_belong base to e fits is = value_passes belongs Fits parts into base to e fits (assigned_belongs to (rvalue_of base e) is (rvalue_fits base e fits))

  pub into_belong : (base : ℕ) (e : Expression) → Fits base e → base < limit → Belong (nodes_of_value base (to_temporary base) e)
  into_belong base e fits less = value_belong base (to_temporary base) e fits (test_less base limit less)

  -- one node behind others, or in front of them
  pub last_belongs : (xs : List Node) (x : Node) → Belong xs → IsTrue (belongs x) → Belong (xs ++ x ∷ [])
  last_belongs xs x first last = both_pass belongs xs (x ∷ []) first (and_both (belongs x) true last refl)

  pub first_belongs : (x : Node) (xs : List Node) → IsTrue (belongs x) → Belong xs → Belong (x ∷ xs)
  first_belongs x xs first rest = and_both (belongs x) (list_all belongs xs) first rest

  -- ---- several

  pub operands_belong : (base : ℕ) (es : List Expression) → FitAll Fits base es → Belong (nodes_of_operands base es)
  operands_belong base es fit = operands_pass belongs Fits parts into base es fit

  pub operands_fit : (base : ℕ) (es : List Expression) → FitAll Fits base es → IsTrue (list_all operand_belongs (operands_of base es))
  operands_fit base [] fit = refl
  operands_fit base (e ∷ es) fit =
      and_both (operand_belongs (operand_of base e)) (list_all operand_belongs (operands_of (suc base) es)) (operand_fits base e fit.0) (operands_fit (suc base) es fit.1)

  pub arguments_fit : (base : ℕ) (es : List Expression) → FitAll Fits base es → IsTrue (list_all operand_belongs (values_of (arguments_of base es)))
  arguments_fit base [] fit = refl
  arguments_fit base (e ∷ es) fit =
      and_both (operand_belongs (operand_of base e)) (list_all operand_belongs (values_of (arguments_of (suc base) es))) (operand_fits base e fit.0)
      (arguments_fit (suc base) es fit.1)

  pub two_belong : (a b : Expression) → Fits 0 a → Fits 1 b → Belong (nodes_of_two a b)
  two_belong a b first second = both_pass belongs (nodes_of_operand 0 a) (nodes_of_operand 1 b) (operand_belong 0 a first) (operand_belong 1 b second)

  pub two_fit : (base other : ℕ) (a b : Expression) → Fits base a → Fits other b → IsTrue (list_all operand_belongs (operand_of base a ∷ operand_of other b ∷ []))
  two_fit base other a b first second =
      both_pass operand_belongs (operand_of base a ∷ []) (operand_of other b ∷ []) (one_operand base a first) (one_operand other b second)

  -- ---- conditions

  pub width_is_there : (width : Width) (e : Expression) → IsTrue (has_width p q width e) → IsThere (typed p q e)
  width_is_there width e has = by (typed p q e) has
    where
      by : (o : Option Width) → IsTrue (elim o as (λ _. Bool) [ Some found ↦ same_width found width | None ↦ false ]) → IsThere o
      by (Some found) has = refl
      by None has = has

  mutual
    pub test_belongs : (c : Condition) → IsTrue (fold_condition (test_step p q) c) → test_nodes c ≤ limit → Belong (nodes_of_test c)
    test_belongs (Compare operator width a b) fits room =
        let both = and_parts (has_width p q width a) (has_width p q width b) fits in
        let first : Fits 0 a = record { there = width_is_there width a both.0; room = omega (arith, room) } in
        let second : Fits 1 b = record { there = width_is_there width b both.1; room = omega (arith, room) } in
        last_belongs (nodes_of_two a b) (branch operator width a b) (two_belong a b first second) (node_belongs (branch operator width a b) (omega arith) (two_fit 0 1 a b first second) refl)
    test_belongs (Not' i a) fits room = part_belongs a fits room
    test_belongs (Both' i a j b) fits room =
        let both = and_parts (fold_part (test_step p q) a) (fold_part (test_step p q) b) fits in
        both_pass belongs (nodes_of_test_part a) (nodes_of_test_part b) (part_belongs a both.0 (omega (arith, room))) (part_belongs b both.1 (omega (arith, room)))
    test_belongs (Either' i a j b) fits room =
        let both = and_parts (fold_part (test_step p q) a) (fold_part (test_step p q) b) fits in
        both_pass belongs (nodes_of_test_part a) (nodes_of_test_part b) (part_belongs a both.0 (omega (arith, room))) (part_belongs b both.1 (omega (arith, room)))

    part_belongs : {i : _} (row : Row_of-Condition (one_more i)) → IsTrue (fold_part (test_step p q) row) → fold_part test_node_step row ≤ limit → Belong (nodes_of_test_part row)
    part_belongs (more_of-Condition a rest) fits room = test_belongs a fits room
