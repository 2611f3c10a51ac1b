-- The limits that the rules on a procedure keep, in the procedure that it means.
use Rattle.std.proofs.Common.{◌≡◌, ℕ, zero, suc, ◌+◌, ◌-◌, ◌<◌, ◌≤◌, refl, sym, ap, ◌∙◌, subst, Bool, true, false, cond, List, [], ◌∷◌, Option, Some, None, arith, length, length-append, max, inl, inr}
use Rattle.std.specs.Prelude.{map, flat_map, filter, slice_get, nat_le}
use Rattle.std.specs.List.{list_all}
use Rattle.std.proofs.lemmas.List.{length-map}
use Rattle.std.proofs.lemmas.Bool.{leb-true, le-leb, lt-ltb, and_parts, cases_lt, and_from}
use Rattle.std.proofs.lemmas.List.Folds.{list_all-append}
use Rattle.cmm_words.specs.declared.width.Width.{Width}
use Rattle.cmm_words.specs.declared.width.Width.TheVariants.{W8, W16, W32, W64}
use Rattle.cmm_words.specs.declared.constant.Constant.{Constant}
use Rattle.cmm_words.specs.declared.constant.Constant.TheVariants.{Number, Code, Address}
use Rattle.cmm_words.specs.Widths.{bytes}
use Rattle.cmm_ast.specs.declared.procedure.Proc.{Proc as ProcTree}
use Rattle.cmm_ast.specs.declared.procedure.Room.{Room}
use Rattle.cmm_ast.specs.declared.procedure.RoomForm.{RoomForm}
use Rattle.cmm_ast.specs.declared.procedure.RoomForm.TheVariants as rooms
use Rattle.cmm_ast.specs.declared.statement.Kinded.{Kinded}
use Rattle.cmm_ast.specs.declared.statement.Part.{Part}
use Rattle.cmm_ast.specs.declared.statement.Part.TheVariants as parts
use Rattle.cmm_ast.specs.declared.statement.StmtForm.{StmtForm}
use Rattle.cmm_ast.specs.declared.statement.StmtForm.TheVariants as stmts
use Rattle.cmm_ast.specs.declared.unit.Item.TheVariants as items
use Rattle.cmm_ast.specs.declared.unit.Unit.{Unit as UnitTree}
use Rattle.cmm_program.specs.declared.procedure.Proc.{Proc}
use Rattle.cmm_program.specs.declared.program.Program.{Program}
use Rattle.cmm_program.specs.InRange.{at_most_64, below, is_continuation as is_cont, is_item}
use Rattle.cmm_program.specs.Typing.{is_alignment}
use Rattle.cmm_rules.specs.declared.rule.Rule.{Rule}
use Rattle.cmm_rules.specs.declared.rule.Rule.TheVariants.{TooManyValues, Limit, NotALocalVariable}
use Rattle.cmm_static_semantics.specs.declared.spot.Spot.{Spot}
use Rattle.cmm_static_semantics.specs.Spots.{at}
use Rattle.cmm_static_semantics.specs.Senses.{Senses}
use Rattle.cmm_static_semantics.specs.Judging.{if_ok}
use Rattle.cmm_static_semantics.specs.Typing.{type_width}
use Rattle.cmm_static_semantics.specs.Items.{SpanTree, parts_of}
use Rattle.cmm_static_semantics.specs.Declarations.{Declared, Local, NamedUnit, named_units, found, is_declared, is_variable, Variable, Room as RoomName, Label, Continuation, own_names, procs_in}
use Rattle.cmm_static_semantics.specs.Expressions.{past_limit}
use Rattle.cmm_static_semantics.specs.Calls.{first_token, too_many_names, parameter_spots}
use Rattle.cmm_static_semantics.specs.Scopes.{Scope, types, unit_senses}
use Rattle.cmm_static_semantics.specs.Statements.{scope_of, formal_token, stmt_spots, part_spots, proc_spots}
use Rattle.cmm_static_semantics.specs.Limits.{variables, local_rooms, room_piece, proc_limits, room_limits, over_units, proc_count, site_variables, site_spans, sums_are_within}
use Rattle.cmm_static_semantics.specs.Linking.{program_of, register_names}
use Rattle.cmm_static_semantics.specs.Faults.{AreAccepted, item_procedure_spots}
use Rattle.cmm_elaboration.specs.Procedures.{formal_info, part_infos, variable_infos, label_alignment, stack_items, parameter_of, form_conts, part_conts, procedure_of}
use Rattle.cmm_elaboration.specs.Meaning.{meaning_of, procedure_number}
use Rattle.cmm_elaboration.specs.Laws.{ProcKeepsLimits}
use Rattle.cmm_elaboration.proofs.Nothing.{no_left, no_right, no_unless, unbroken}
use Rattle.cmm_elaboration.proofs.Everywhere.{Place}
use Rattle.cmm_elaboration.proofs.Naming.{how_many}
use Rattle.cmm_elaboration.proofs.Scoping.{number_below, variables_are, widths_in, local_widths}
use Rattle.cmm_elaboration.proofs.Entries.{counted_in, MayFit}

-- ---- lists within their limits

none_past : {A : Type 0} (xs : List A) (n : ℕ) → slice_get xs n ≡ None → length xs ≤ n
none_past [] n e = omega arith
none_past (x ∷ xs) zero e = let bad : Some x ≡ None = e in cc
none_past (x ∷ xs) (suc n) e = let h : length xs ≤ n = none_past xs n e in omega arith

past_by : {A : Type 0} (o : Option A) (rule : Rule) (token : A → ℕ) → ◌≡◌ {A = List Spot} (elim o [ Some a ↦ at rule (token a) | None ↦ [] ]) [] → o ≡ None
past_by (Some a) rule token e = cc
past_by None rule token e = refl

pub within : {A : Type 0} (rule : Rule) (limit : ℕ) (token : A → ℕ) (xs : List A) → past_limit rule limit token xs ≡ [] → length xs ≤ limit
within rule limit token xs e = none_past xs limit (past_by (slice_get xs limit) rule token e)

-- ---- variables

one_width : (s : Scope) (l : Local) → length (local_widths s l) ≡ cond (is_variable l) 1 0
one_width s (Variable t) = refl
one_width s RoomName = refl
one_width s Label = refl
one_width s Continuation = refl

one_more : {A : Type 0} (b : Bool) (x : A) (xs : List A) → length (cond b (x ∷ xs) xs) ≡ cond b 1 0 + length xs
one_more true x xs = omega arith
one_more false x xs = omega arith

widths_length : (s : Scope) (ds : List (Declared Local)) → length (widths_in s ds) ≡ length (filter (λ d. is_variable d.as_what) ds)
widths_length s [] = refl
widths_length s (d ∷ ds) =
    length-append (local_widths s d.as_what) (widths_in s ds) ∙ rw (one_width s d.as_what, widths_length s ds) (sym (one_more (is_variable d.as_what) d (filter (λ e. is_variable e.as_what) ds)))

many_by : (b : Bool) (m n : ℕ) → m ≡ n → cond b 1 0 + m ≡ elim b as (λ c. ℕ) [ true ↦ suc n | false ↦ n ]
many_by true m n e = omega arith
many_by false m n e = omega arith

how_many_is : (ds : List (Declared Local)) → length (filter (λ d. is_variable d.as_what) ds) ≡ how_many is_variable ds
how_many_is [] = refl
how_many_is (d ∷ ds) = one_more (is_variable d.as_what) d (filter (λ e. is_variable e.as_what) ds) ∙ many_by (is_variable d.as_what) _ _ (how_many_is ds)

infos_length : (s : Scope) (p : ProcTree) → length (variable_infos s p) ≡ length (widths_in s (own_names p))
infos_length s p = sym (length-map (variable_infos s p) (λ v. v.width)) ∙ ap length (variables_are s p)

pub variables_length : (s : Scope) (p : ProcTree) → length (variable_infos s p) ≡ length (variables p)
variables_length s p = infos_length s p ∙ widths_length s (own_names p)

-- ---- parameters of continuations

declared_some : (o : Option Local) → ◌≡◌ {A = Bool} (elim o [ Some a ↦ is_variable a | None ↦ false ]) true → (l : Local) × ((o ≡ Some l) × (is_variable l ≡ true))
declared_some (Some l) e = (l, (refl, e))
declared_some None e = let bad : false ≡ true = e in cc

module _ (outer : Senses) (tree : ProcTree) where
  abbrev s : Scope
  s = scope_of outer tree

  abbrev count : ℕ
  count = length (variable_infos s tree)

  parameter_below : (k : Kinded) → parameter_spots s k ≡ [] → below count (parameter_of s k) ≡ true
  parameter_below k none =
      let known = declared_some (found k.name.name s.own) (no_unless (is_declared is_variable k.name.name s.own) NotALocalVariable k.name.token none) in
      let under : parameter_of s k < how_many is_variable s.own = number_below is_variable k.name.name known.0 s.own known.1.0 known.1.1 in
      lt-ltb (parameter_of s k) count (subst (λ n. parameter_of s k < n) (sym (infos_length s tree ∙ widths_length s (own_names tree) ∙ how_many_is (own_names tree))) under)

  parameters_below : (ks : List Kinded) → flat_map (parameter_spots s) ks ≡ [] → list_all (below count) (map (parameter_of s) ks) ≡ true
  parameters_below [] none = refl
  parameters_below (k ∷ ks) none =
      and_from (below count (parameter_of s k)) _ (parameter_below k (no_left (parameter_spots s k) (flat_map (parameter_spots s) ks) none))
      (parameters_below ks (no_right (parameter_spots s k) (flat_map (parameter_spots s) ks) none))

  module _ (p : Program) (q : Proc) (vars : length q.vars ≡ count) where
    conts_by : (first past : ℕ) (form : StmtForm) → stmt_spots s first form ≡ [] → list_all (is_cont p q) (form_conts s form) ≡ true
    conts_by first past (stmts.Continuation name parameters) none =
        let few : length (map (parameter_of s) parameters) ≤ 64 =
        subst (λ n. n ≤ 64) (sym (length-map parameters (parameter_of s)))
        (within TooManyValues 64 (λ k. first_token k.kind k.name.token) parameters (no_left (too_many_names parameters) (flat_map (parameter_spots s) parameters) none)) in
        let under : list_all (below (length q.vars)) (map (parameter_of s) parameters) ≡ true =
        ap (λ n. list_all (below n) (map (parameter_of s) parameters)) vars
        ∙ parameters_below parameters (no_right (too_many_names parameters) (flat_map (parameter_spots s) parameters) none) in
        and_from _ true (and_from (at_most_64 (map (parameter_of s) parameters)) _ (le-leb (length (map (parameter_of s) parameters)) 64 few) under) refl
    conts_by first past (stmts.If' c _ body otherwise) none = refl
    conts_by first past (stmts.Switch' range value _ arms) none = refl
    conts_by first past (stmts.Span' key value _ body) none = refl
    conts_by first past (stmts.Assign to values) none = refl
    conts_by first past (stmts.Checked result operator left right flows) none = refl
    conts_by first past (stmts.Call results convention callee actuals flows) none = refl
    conts_by first past (stmts.Jump callee actuals) none = refl
    conts_by first past (stmts.Return exit values) none = refl
    conts_by first past (stmts.Label name) none = refl
    conts_by first past (stmts.Goto name) none = refl
    conts_by first past (stmts.Cut callee actuals flows) none = refl
    conts_by first past stmts.Empty none = refl

    part_kept : (x : Part) → part_spots s x ≡ [] → list_all (is_cont p q) (part_conts s x) ≡ true
    part_kept (parts.Local l) none = refl
    part_kept (parts.Stmt' first past form) none = conts_by first past form none

    conts_kept : (ps : List Part) → flat_map (part_spots s) ps ≡ [] → list_all (is_cont p q) (flat_map (part_conts s) ps) ≡ true
    conts_kept [] none = refl
    conts_kept (x ∷ ps) none =
        list_all-append (is_cont p q) (part_conts s x) (flat_map (part_conts s) ps)
        ∙ and_from (list_all (is_cont p q) (part_conts s x)) _ (part_kept x (no_left (part_spots s x) (flat_map (part_spots s) ps) none))
        (conts_kept ps (no_right (part_spots s x) (flat_map (part_spots s) ps) none))

-- ---- stackdata

pub width_alignment : (w : Width) → is_alignment (bytes w) ≡ true
width_alignment W8 = refl
width_alignment W16 = refl
width_alignment W32 = refl
width_alignment W64 = refl

pub bytes_alignment : (o : Option Width) → is_alignment (elim o as (λ x. ℕ) [ Some width ↦ bytes width | None ↦ 1 ]) ≡ true
bytes_alignment (Some w) = width_alignment w
bytes_alignment None = refl

pub own_alignment : (b : Bool) (k : ℕ) → is_alignment k ≡ b → is_alignment (elim b as (λ x. ℕ) [ true ↦ k | false ↦ 1 ]) ≡ true
own_alignment true k is = is
own_alignment false k is = refl

greater_alignment : (a b : ℕ) → is_alignment a ≡ true → is_alignment b ≡ true → is_alignment (max a b) ≡ true
greater_alignment a b h k = elim (cases_lt a b) [
  | inl less ↦ subst (λ n. is_alignment n ≡ true) (let e : b ≡ max a b = omega arith in e) k
  | inr not_less ↦ subst (λ n. is_alignment n ≡ true) (let e : a ≡ max a b = omega arith in e) h
]

pub piece_alignment : (s : Scope) (form : RoomForm) (token : ℕ) → is_alignment (room_piece s record { token = token; form = form }).align ≡ true
piece_alignment s (rooms.Label name) token = refl
piece_alignment s (rooms.Align k) token = own_alignment (is_alignment k.value) k.value refl
piece_alignment s (rooms.Data width size) token = bytes_alignment (if_ok (type_width (types s) width))

label_by : (s : Scope) (form : RoomForm) (token : ℕ) (rs : List Room) → is_alignment (label_alignment s rs) ≡ true → is_alignment (label_alignment s (record { token = token; form = form } ∷ rs)) ≡ true
label_by s (rooms.Label name) token rs later = later
label_by s (rooms.Align k) token rs later = greater_alignment (room_piece s record { token = token; form = rooms.Align k }).align (label_alignment s rs) (piece_alignment s (rooms.Align k) token) later
label_by s (rooms.Data width size) token rs later = piece_alignment s (rooms.Data width size) token

pub label_aligned : (s : Scope) (rs : List Room) → is_alignment (label_alignment s rs) ≡ true
label_aligned s [] = refl
label_aligned s (r ∷ rs) = label_by s r.form r.token rs (label_aligned s rs)

items_by : (s : Scope) (form : RoomForm) (token : ℕ) (rs : List Room) → list_all is_item (stack_items s rs) ≡ true → list_all is_item (stack_items s (record { token = token; form = form } ∷ rs)) ≡ true
items_by s (rooms.Label name) token rs later = and_from _ _ (and_from (is_alignment (label_alignment s rs)) true (label_aligned s rs) refl) later
items_by s (rooms.Align k) token rs later = and_from _ _ (and_from (is_alignment (room_piece s record { token = token; form = rooms.Align k }).align) true (piece_alignment s (rooms.Align k) token) refl) later
items_by s (rooms.Data width size) token rs later =
    and_from _ _ (and_from (is_alignment (room_piece s record { token = token; form = rooms.Data width size }).align) true (piece_alignment s (rooms.Data width size) token) refl) later

items_kept : (s : Scope) (rs : List Room) → list_all is_item (stack_items s rs) ≡ true
items_kept s [] = refl
items_kept s (r ∷ rs) = items_by s r.form r.token rs (items_kept s rs)

-- ---- a procedure

module _ (us : List UnitTree) (accepted : AreAccepted us) where
  abbrev units : List NamedUnit
  units = named_units us

  sums : sums_are_within (program_of units) units ≡ true
  sums = (unbroken us accepted).sums

  -- the sums over all units, one by one
  pub registers_few : nat_le (length (register_names units)) 256 ≡ true
  registers_few = (and_parts _ _ (and_parts _ _ (and_parts _ _ sums).0).0).1

  units_few : nat_le (length units) 256 ≡ true
  units_few = (and_parts _ _ (and_parts _ _ (and_parts _ _ (and_parts _ _ (and_parts _ _ (and_parts _ _ sums).0).0).0).0).0).0

  pub procedure_keeps : (earlier : List NamedUnit) (u : NamedUnit) (number : ℕ) → Place units earlier u number → (around : List SpanTree) (tree : ProcTree) →
      item_procedure_spots (unit_senses (program_of units) u.entries) (items.Proc tree) ≡ [] →
      ProcKeepsLimits (meaning_of us) (procedure_of (unit_senses (program_of units) u.entries) number around tree)
  procedure_keeps earlier u number place around tree none =
      let outer = unit_senses (program_of units) u.entries in let sc = scope_of outer tree in
      let rules = no_left (proc_spots outer tree) (proc_limits outer tree) none in let limits = no_right (proc_spots outer tree) (proc_limits outer tree) none in
      let body = no_right _ (flat_map (part_spots sc) (parts_of tree.body)) rules in
      let formals : length tree.formals ≤ 64 = within TooManyValues 64 formal_token tree.formals (no_right _ _ (no_left _ _ (no_left _ (flat_map (part_spots sc) (parts_of tree.body)) rules))) in
      let before = no_left _ (room_limits sc 0 (flat_map local_rooms (parts_of tree.body))) limits in
      let tokens = no_left _ (past_limit Limit 1024 (λ d. d.name.token) (variables tree)) before in
      let many : length (variables tree) ≤ 1024 = within Limit 1024 (λ d. d.name.token) (variables tree) (no_right _ (past_limit Limit 1024 (λ d. d.name.token) (variables tree)) before) in
      let few : length units ≤ 256 = leb-true (length units) 256 units_few in
      let split : length units ≡ length earlier + suc (length place.later) = ap length place.units ∙ length-append earlier (u ∷ place.later) in
      let own : number ≡ length earlier = place.number_is in
      let all : length (variable_infos sc tree) ≡ length tree.formals + length (flat_map (part_infos sc) (parts_of tree.body)) =
      length-append (map (formal_info sc) tree.formals) (flat_map (part_infos sc) (parts_of tree.body))
      ∙ ap (λ n. n + length (flat_map (part_infos sc) (parts_of tree.body))) (length-map tree.formals (formal_info sc)) in
      record {
        unit = omega arith;
        formals = and_from (nat_le (length tree.formals) (length (variable_infos sc tree))) (nat_le (length tree.formals) 64)
            (le-leb (length tree.formals) (length (variable_infos sc tree)) (omega arith)) (le-leb (length tree.formals) 64 formals);
        variables = subst (λ n. n ≤ 1024) (sym (variables_length sc tree)) many;
        tokens = leb-true (tree.past - tree.name.token) 131072 (no_unless (nat_le (tree.past - tree.name.token) 131072) Limit (tree.name.token + 131072) tokens);
        items = items_kept sc (flat_map local_rooms (parts_of tree.body));
        continuations = conts_kept outer tree (meaning_of us) (procedure_of outer number around tree) refl (parts_of tree.body) body;
      }

  -- ---- the program

  abbrev procedures : ℕ
  procedures = counted_in procs_in units

  pub number_by : (o : Option Constant) (labels : ℕ) → MayFit procedures labels o → 0 < procedures → procedure_number o < procedures
  number_by (Some (Code n plus)) labels h many = h
  number_by (Some (Number value width)) labels h many = many
  number_by (Some (Address n plus)) labels h many = many
  number_by None labels h many = many

  pub procedures_few : nat_le (over_units (program_of units) proc_count units) 65535 ≡ true
  procedures_few = (and_parts _ _ (and_parts _ _ (and_parts _ _ (and_parts _ _ (and_parts _ _ sums).0).0).0).0).1

  pub variables_few : nat_le (over_units (program_of units) site_variables units) 8000000 ≡ true
  variables_few = (and_parts _ _ (and_parts _ _ sums).0).1

  pub spans_few : nat_le (over_units (program_of units) site_spans units) 1000000 ≡ true
  spans_few = (and_parts _ _ sums).1
