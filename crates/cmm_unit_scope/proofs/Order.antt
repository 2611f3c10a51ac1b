-- Constants evaluated in order come to what they come to in as many steps as there are declarations, and one more; what is left over comes to nothing.
use Rattle.std.proofs.Common.{◌≡◌, ℕ, zero, suc, ◌+◌, ◌<◌, ◌≤◌, ◌==◌, Bool, true, false, List, [], ◌∷◌, ◌++◌, length, get_or, Option, Some, None, option_map, refl, sym, ◌∙◌, ap, subst, append_assoc, append-nil, arith, inl, inr}
use Rattle.std.specs.Prelude.{nat_lt}
use Rattle.std.specs.List.{list_all, list_any}
use Rattle.std.proofs.lemmas.Bool.{and_parts, or_cases, eqb-true, ltb-true}
use Rattle.std.proofs.lemmas.List.Folds.{list_all-append}
use Rattle.cmm_words.specs.declared.width.Width.{Width}
use Rattle.cmm_ast.specs.declared.expression.Expr.{Expr}
use Rattle.cmm_ast.specs.declared.expression.TypeName.{TypeName}
use Rattle.cmm_static_semantics.specs.declared.sense.Sense.{Sense}
use Rattle.cmm_static_semantics.specs.Algebras.{knowns}
use Rattle.cmm_static_semantics.specs.Typing.{wanted}
use Rattle.cmm_static_semantics.specs.Declarations.{Declared, Entry, Typedef, Const, Register, Import, DataLabel, Procedure}
use Rattle.cmm_static_semantics.specs.Scopes.{width_in}
use Rattle.cmm_static_semantics.specs.Linking.{Program}
use Rattle.cmm_digraph.specs.Graphs.{occurrences, is_among, are_among, are_below, is_graph, mentions}
use Rattle.cmm_digraph.specs.Peeled.{is_ordered, is_stuck}
use Rattle.cmm_digraph.proofs.Shared.{IsLocal, AreSteps, final_in_order, any_at, all_at, among_of, among-last}
use Rattle.cmm_symbols.specs.Numbering.{numbering}
use Rattle.cmm_unit_scope.specs.Depending.{graph_of, mentioned_by}
use Rattle.cmm_unit_scope.proofs.Depended.{mentions_is, graph_size, graph_is}
use Rattle.cmm_unit_scope.specs.inside.Evaluating.{declared_at, waits_for, waits_at, AreWaiting, IsOrder, AreCyclic}
use Rattle.cmm_unit_scope.proofs.Lacking.{IsGone}
use Rattle.cmm_unit_scope.proofs.Outcomes.{Outcome, Gone, nothing, sense_of, outcome_of, entry_is, of_declared, after, next, value_in, senses_at, steps, begun, untyped_exact, entry_in}
use Rattle.cmm_unit_scope.proofs.Local.{IsConst, entry_local, named_gone, typed_gone, untyped_gone, untyped_nothing}

-- ---- the graph

rows_at : (p : List ℕ → Bool) (xs : List (List ℕ)) (v : ℕ) → p [] ≡ true → list_all p xs ≡ true → p (get_or xs v []) ≡ true
rows_at p [] v none all = none
rows_at p (x ∷ xs) zero none all = (and_parts (p x) (list_all p xs) all).0
rows_at p (x ∷ xs) (suc v) none all = rows_at p xs v none (and_parts (p x) (list_all p xs) all).1

rows_from : (p : List ℕ → Bool) (xs : List (List ℕ)) → ((v : ℕ) → p (get_or xs v []) ≡ true) → list_all p xs ≡ true
rows_from p [] each = refl
rows_from p (x ∷ xs) each = rw (each 0, rows_from p xs (λ v. each (suc v))) refl

waits_below : (size : ℕ) (cyclic : Bool) (e : Entry) (named : List ℕ) → are_below size named ≡ true → are_below size (waits_for cyclic e named) ≡ true
waits_below size cyclic (Const None e) named h = h
waits_below size true (Const (Some t) e) named h = refl
waits_below size false (Const (Some t) e) named h = h
waits_below size cyclic (Typedef t) named h = refl
waits_below size cyclic (Register t) named h = refl
waits_below size cyclic (Import link) named h = refl
waits_below size cyclic (DataLabel n) named h = refl
waits_below size cyclic (Procedure n p) named h = refl

waits_below_at : (ds : List (Declared Entry)) (cyclic : Bool) (v : ℕ) (o : Option (Declared Entry)) →
    are_below (length ds) (elim o as (λ _. List ℕ) [ Some d ↦ waits_for cyclic d.as_what (mentions (graph_of ds) v) | None ↦ [] ]) ≡ true
waits_below_at ds cyclic v None = refl
waits_below_at ds cyclic v (Some d) =
    waits_below (length ds) cyclic d.as_what (mentions (graph_of ds) v)
    (ap (λ n. are_below n (mentions (graph_of ds) v)) (sym (graph_size ds)) ∙ rows_at (are_below (length (graph_of ds))) (graph_of ds) v refl (graph_is ds))

pub waiting_is_graph : (ds : List (Declared Entry)) (cyclic : ℕ → Bool) (graph : List (List ℕ)) → AreWaiting ds cyclic graph → is_graph graph ≡ true
waiting_is_graph ds cyclic graph waiting =
    rows_from (are_below (length graph)) graph
    (λ v. ap (are_below (length graph)) (waiting.each v) ∙ ap (λ n. are_below n (waits_at ds cyclic v)) waiting.size ∙ waits_below_at ds (cyclic v) v (declared_at ds v))

-- what stands in an order and what is left over are declarations
pub nodes_below : (ds : List (Declared Entry)) (cyclic : ℕ → Bool) (order left : List ℕ) → IsOrder ds cyclic order left → (are_below (length ds) order ≡ true) × (are_below (length ds) left ≡ true)
nodes_below ds cyclic order left o =
    and_parts (are_below (length ds) order) (are_below (length ds) left)
    (sym (list_all-append (λ n. nat_lt n (length ds)) order left) ∙ ap (λ n. are_below n (order ++ left)) (sym o.waiting.size) ∙ o.peeled.nodes)

-- what a declaration names, by its number
named_at : (ds : List (Declared Entry)) (v : ℕ) (d : Declared Entry) → declared_at ds v ≡ Some d → mentions (graph_of ds) v ≡ mentioned_by (numbering ds) (Some d.as_what)
named_at ds v d at_ = mentions_is (numbering ds) ds v ∙ ap (mentioned_by (numbering ds)) (entry_is ds v ∙ ap (option_map (λ (d : Declared Entry). d.as_what)) at_)

-- what waits for something is a constant, and one without a type if it leads to a cycle
record Waits (ds : List (Declared Entry)) (cyclic : Bool) (v m : ℕ) : Type 0 where
  pub const : IsConst ds v
  pub free : cyclic ≡ true → const.type_ ≡ None
  pub named : is_among m (mentioned_by (numbering ds) (Some (Const const.type_ const.value))) ≡ true

waits_entry : (ds : List (Declared Entry)) (cyclic : Bool) (v m : ℕ) (d : Declared Entry) (e : Entry) → declared_at ds v ≡ Some d → d.as_what ≡ e →
    is_among m (waits_for cyclic e (mentioned_by (numbering ds) (Some e))) ≡ true → Waits ds cyclic v m
waits_entry ds cyclic v m d (Const None x) at_ is h = record { const = record { decl = d; at_ = at_; type_ = None; value = x; is = is }; free = λ c. refl; named = h }
waits_entry ds true v m d (Const (Some t) x) at_ is h = cc
waits_entry ds false v m d (Const (Some t) x) at_ is h = record { const = record { decl = d; at_ = at_; type_ = Some t; value = x; is = is }; free = λ c. cc; named = h }
waits_entry ds cyclic v m d (Typedef t) at_ is h = cc
waits_entry ds cyclic v m d (Register t) at_ is h = cc
waits_entry ds cyclic v m d (Import link) at_ is h = cc
waits_entry ds cyclic v m d (DataLabel n) at_ is h = cc
waits_entry ds cyclic v m d (Procedure n p) at_ is h = cc

waits_declared : (ds : List (Declared Entry)) (cyclic : Bool) (v m : ℕ) (o : Option (Declared Entry)) → declared_at ds v ≡ o →
    is_among m (elim o as (λ _. List ℕ) [ Some d ↦ waits_for cyclic d.as_what (mentions (graph_of ds) v) | None ↦ [] ]) ≡ true → Waits ds cyclic v m
waits_declared ds cyclic v m None at_ h = cc
waits_declared ds cyclic v m (Some d) at_ h =
    waits_entry ds cyclic v m d d.as_what at_ refl (ap (λ (ms : List ℕ). is_among m (waits_for cyclic d.as_what ms)) (sym (named_at ds v d at_)) ∙ h)

waits : (ds : List (Declared Entry)) (cyclic : ℕ → Bool) (graph : List (List ℕ)) → AreWaiting ds cyclic graph → (v m : ℕ) → is_among m (mentions graph v) ≡ true → Waits ds (cyclic v) v m
waits ds cyclic graph waiting v m h = waits_declared ds (cyclic v) v m (declared_at ds v) refl (ap (is_among m) (sym (waiting.each v)) ∙ h)

-- what waits where cycles are broken waits where they are not
fewer_entry : (cyclic : Bool) (e : Entry) (named : List ℕ) (m : ℕ) → is_among m (waits_for cyclic e named) ≡ true → is_among m (waits_for false e named) ≡ true
fewer_entry cyclic (Const None e) named m h = h
fewer_entry true (Const (Some t) e) named m h = cc
fewer_entry false (Const (Some t) e) named m h = h
fewer_entry cyclic (Typedef t) named m h = h
fewer_entry cyclic (Register t) named m h = h
fewer_entry cyclic (Import link) named m h = h
fewer_entry cyclic (DataLabel n) named m h = h
fewer_entry cyclic (Procedure n p) named m h = h

fewer_declared : (ds : List (Declared Entry)) (cyclic : Bool) (v m : ℕ) (o : Option (Declared Entry)) →
    is_among m (elim o as (λ _. List ℕ) [ Some d ↦ waits_for cyclic d.as_what (mentions (graph_of ds) v) | None ↦ [] ]) ≡ true →
    is_among m (elim o as (λ _. List ℕ) [ Some d ↦ waits_for false d.as_what (mentions (graph_of ds) v) | None ↦ [] ]) ≡ true
fewer_declared ds cyclic v m None h = h
fewer_declared ds cyclic v m (Some d) h = fewer_entry cyclic d.as_what (mentions (graph_of ds) v) m h

module _ (program : Program) (ds : List (Declared Entry)) where
  -- ---- a constant hangs on what it waits for

  declared_local : (cyclic : Bool) (w w' : ℕ → Outcome) (v : ℕ) (o : Option (Declared Entry)) → declared_at ds v ≡ o →
      ((m : ℕ) → is_among m (elim o as (λ _. List ℕ) [ Some d ↦ waits_for cyclic d.as_what (mentions (graph_of ds) v) | None ↦ [] ]) ≡ true → w m ≡ w' m) →
      of_declared nothing (after program ds cyclic w) o ≡ of_declared nothing (after program ds cyclic w') o
  declared_local cyclic w w' v None at_ same = refl
  declared_local cyclic w w' v (Some d) at_ same =
      entry_local program ds w w' cyclic d.as_what (λ m h. same m (ap (λ (ms : List ℕ). is_among m (waits_for cyclic d.as_what ms)) (named_at ds v d at_) ∙ h))

  pub local : (cyclic : ℕ → Bool) (graph : List (List ℕ)) → AreWaiting ds cyclic graph → IsLocal graph (next program ds cyclic)
  local cyclic graph waiting w w' v same = declared_local (cyclic v) w w' v (declared_at ds v) refl (λ m h. same m (ap (is_among m) (waiting.each v) ∙ h))

  -- ---- a constant that waits for a broken one

  next_is : (cyclic : ℕ → Bool) (w : ℕ → Outcome) (v : ℕ) (const : IsConst ds v) → next program ds cyclic w v ≡ after program ds (cyclic v) w (Const const.type_ const.value)
  next_is cyclic w v const = ap (of_declared nothing (after program ds (cyclic v) w)) const.at_ ∙ ap (after program ds (cyclic v) w) const.is

  abbrev IsBroken : Outcome → Type 0
  IsBroken o = IsGone false (Some (sense_of o))

  width_gone : (o : Option Width) → IsBroken (Gone o)
  width_gone (Some w) = tt
  width_gone None = tt

  typed_after : (w : ℕ → Outcome) (t : TypeName) (x : Expr) (m : ℕ) → IsConst ds m → IsBroken (w m) → is_among m (mentioned_by (numbering ds) (Some (Const (Some t) x))) ≡ true →
      after program ds false w (Const (Some t) x) ≡ Gone (width_in ds t)
  typed_after w t x m const gone h = ap outcome_of (typed_gone (senses_at program ds w) x (width_in ds t) (named_gone program ds false w m const gone (Some t) x h))

  broken_after : (w : ℕ → Outcome) (t : Option TypeName) (x : Expr) (m : ℕ) → IsConst ds m → IsBroken (w m) → is_among m (mentioned_by (numbering ds) (Some (Const t x))) ≡ true →
      IsBroken (after program ds false w (Const t x))
  broken_after w None x m const gone h =
      let P : Sense → Type 0 = λ s. IsGone false (Some s) in
      subst P (sym (untyped_exact x.token (wanted knowns (senses_at program ds w) None x)))
      (untyped_gone (senses_at program ds w) x (named_gone program ds false w m const gone None x h))
  broken_after w (Some t) x m const gone h = subst IsBroken (sym (typed_after w t x m const gone h)) (width_gone (width_in ds t))

  nothing_after : (w : ℕ → Outcome) (x : Expr) (m : ℕ) → IsConst ds m → w m ≡ nothing → is_among m (mentioned_by (numbering ds) (Some (Const None x))) ≡ true →
      after program ds false w (Const None x) ≡ nothing
  nothing_after w x m const none h =
      let P : Outcome → Type 0 = λ o. IsGone true (Some (sense_of o)) in
      ap outcome_of (untyped_nothing (senses_at program ds w) x (named_gone program ds true w m const (subst P (sym none) tt) None x h))

  -- one of what is left over waits for another
  record Stuck (cyclic : ℕ → Bool) (left : List ℕ) (v : ℕ) : Type 0 where
    pub on : ℕ
    pub left_too : is_among on left ≡ true
    pub waits : Waits ds (cyclic v) v on
    pub const : IsConst ds on

  module _ (cyclic : ℕ → Bool) (graph : List (List ℕ)) (waiting : AreWaiting ds cyclic graph) (left : List ℕ) (stuck : is_stuck graph left ≡ true) where
    on_left : (v : ℕ) → is_among v left ≡ true → (m : ℕ) × (is_among m (mentions graph v) ≡ true) × (is_among m left ≡ true)
    on_left v among = any_at (λ m. is_among m left) (mentions graph v) (all_at (λ u. list_any (λ m. is_among m left) (mentions graph u)) left v stuck among)

    stuck_at : (v : ℕ) → is_among v left ≡ true → Stuck cyclic left v
    stuck_at v among =
        let m = on_left v among in let n = on_left m.0 m.2 in
        record { on = m.0; left_too = m.2; waits = waits ds cyclic graph waiting v m.0 m.1; const = (waits ds cyclic graph waiting m.0 n.0 n.1).const }

  -- ---- what leads to a cycle

  module _ (cyclic : ℕ → Bool) (first : AreCyclic ds cyclic) where
    abbrev own : ℕ → Bool
    own v = false

    stuck_first : (v : ℕ) → is_among v first.left ≡ true → Stuck own first.left v
    stuck_first v among = stuck_at own first.found.graph first.found.waiting first.left first.found.peeled.stuck v among

    const_step : (c v : ℕ) (const : IsConst ds v) → value_in program ds (suc c) v ≡ after program ds false (value_in program ds c) (Const const.type_ const.value)
    const_step c v const = steps program ds c v ∙ next_is own (value_in program ds c) v const

    left_broken : (c v : ℕ) → is_among v first.left ≡ true → IsBroken (value_in program ds c v)
    left_broken zero v among = subst IsBroken (sym (begun program ds v)) tt
    left_broken (suc c) v among =
        let s = stuck_first v among in
        subst IsBroken (sym (const_step c v s.waits.const))
        (broken_after (value_in program ds c) s.waits.const.type_ s.waits.const.value s.on s.const (left_broken c s.on s.left_too) s.waits.named)

    same_type : (v : ℕ) (a b : IsConst ds v) → a.decl ≡ b.decl
    same_type v a b = let e : Some a.decl ≡ Some b.decl = sym a.at_ ∙ b.at_ in cc

    -- a constant with a type has its width
    typed_width : (c v : ℕ) (d : Declared Entry) (t : TypeName) (x : Expr) → declared_at ds v ≡ Some d → d.as_what ≡ Const (Some t) x → is_among v first.left ≡ true →
        value_in program ds (suc c) v ≡ Gone (width_in ds t)
    typed_width c v d t x at_ is among =
        let s = stuck_first v among in
        let own_const : IsConst ds v = record { decl = d; at_ = at_; type_ = Some t; value = x; is = is } in
        let named : is_among s.on (mentioned_by (numbering ds) (Some (Const (Some t) x))) ≡ true =
        ap (λ (e : Entry). is_among s.on (mentioned_by (numbering ds) (Some e))) (sym is ∙ ap (λ (e : Declared Entry). e.as_what) (same_type v own_const s.waits.const) ∙ s.waits.const.is) ∙ s.waits.named in
        const_step c v own_const ∙ typed_after (value_in program ds c) t x s.on s.const (left_broken c s.on s.left_too) named

    other : (c v : ℕ) (d : Declared Entry) (e : Entry) → declared_at ds v ≡ Some d → d.as_what ≡ e → value_in program ds (suc c) v ≡ after program ds false (value_in program ds c) e
    other c v d e at_ is = steps program ds c v ∙ ap (of_declared nothing (after program ds false (value_in program ds c))) at_ ∙ ap (after program ds false (value_in program ds c)) is

    by_entry : (c v : ℕ) (d : Declared Entry) (e : Entry) → declared_at ds v ≡ Some d → d.as_what ≡ e → is_among v first.left ≡ true →
        value_in program ds (suc c) v ≡ after program ds true (value_in program ds c) e
    by_entry c v d (Const (Some t) x) at_ is among = typed_width c v d t x at_ is among
    by_entry c v d (Const None x) at_ is among = const_step c v (record { decl = d; at_ = at_; type_ = None; value = x; is = is })
    by_entry c v d (Typedef t) at_ is among = other c v d (Typedef t) at_ is
    by_entry c v d (Register t) at_ is among = other c v d (Register t) at_ is
    by_entry c v d (Import link) at_ is among = other c v d (Import link) at_ is
    by_entry c v d (DataLabel n) at_ is among = other c v d (DataLabel n) at_ is
    by_entry c v d (Procedure n p) at_ is among = other c v d (Procedure n p) at_ is

    by_declared : (c v : ℕ) (o : Option (Declared Entry)) → declared_at ds v ≡ o → is_among v first.left ≡ true →
        value_in program ds (suc c) v ≡ of_declared nothing (after program ds true (value_in program ds c)) o
    by_declared c v None at_ among = ap (of_declared nothing (entry_in program ds (suc c))) at_
    by_declared c v (Some d) at_ among = by_entry c v d d.as_what at_ refl among

    by_flag : (c v : ℕ) (b : Bool) → cyclic v ≡ b → value_in program ds (suc c) v ≡ next program ds cyclic (value_in program ds c) v
    by_flag c v true flag =
        by_declared c v (declared_at ds v) refl (sym (first.flags v) ∙ flag)
        ∙ ap (λ b. of_declared nothing (after program ds b (value_in program ds c)) (declared_at ds v)) (sym flag)
    by_flag c v false flag = steps program ds c v ∙ ap (λ b. of_declared nothing (after program ds b (value_in program ds c)) (declared_at ds v)) (sym flag)

    pub cyclic_steps : AreSteps (next program ds cyclic) (value_in program ds)
    cyclic_steps c v = by_flag c v (cyclic v) refl

    -- ---- the order

    module _ (order left : List ℕ) (second : IsOrder ds cyclic order left) where
      abbrev pub final : ℕ → Outcome
      final v = value_in program ds (suc (length ds)) v

      order_short : length order ≤ length ds
      order_short = let all : length order + length left ≡ length second.graph = second.peeled.all in let size : length second.graph ≡ length ds = second.waiting.size in omega arith

      pub fixed : (v : ℕ) → is_among v order ≡ true → final v ≡ next program ds cyclic final v
      fixed v among =
          sym (final_in_order second.graph (next program ds cyclic) (value_in program ds) (local cyclic second.graph second.waiting) cyclic_steps order second.peeled.ordered v among (suc (length ds))
          (let short : length order ≤ length ds = order_short in omega arith))
          ∙ cyclic_steps (suc (length ds)) v

      -- what is left over now was left over before
      fewer : (v m : ℕ) → is_among m (mentions second.graph v) ≡ true → is_among m (mentions first.found.graph v) ≡ true
      fewer v m h =
          ap (is_among m) (first.found.waiting.each v)
          ∙ fewer_declared ds (cyclic v) v m (declared_at ds v) (ap (is_among m) (sym (second.waiting.each v)) ∙ h)

      free_at : (before : List ℕ) (v : ℕ) → are_among (mentions first.found.graph v) before ≡ true → ((u : ℕ) → is_among u before ≡ true → is_among u left ≡ false) → (b : Bool) → is_among v left ≡ b → b ≡ false
      free_at before v among free false is = refl
      free_at before v among free true is =
          let m = on_left cyclic second.graph second.waiting left second.peeled.stuck v is in
          let none : is_among m.0 left ≡ false = free m.0 (all_at (λ n. is_among n before) (mentions first.found.graph v) m.0 among (fewer v m.0 m.1)) in
          let there : is_among m.0 left ≡ true = m.2 in cc

      free_in : (before vs : List ℕ) → is_ordered first.found.graph before vs ≡ true → ((u : ℕ) → is_among u before ≡ true → is_among u left ≡ false) →
          (u : ℕ) → is_among u (before ++ vs) ≡ true → is_among u left ≡ false
      free_in before [] ordered free u among = free u (ap (is_among u) (sym (append-nil before)) ∙ among)
      free_in before (v ∷ vs) ordered free u among =
          let parts : (are_among (mentions first.found.graph v) before ≡ true) × (is_ordered first.found.graph (before ++ v ∷ []) vs ≡ true)
          = and_parts (are_among (mentions first.found.graph v) before) (is_ordered first.found.graph (before ++ v ∷ []) vs) ordered in
          free_in (before ++ v ∷ []) vs parts.1
          (λ n h. elim (or_cases (is_among n before) (v == n) (sym (among-last n before v) ∙ h)) [
            | inl old ↦ free n old
            | inr new ↦ ap (λ (k : ℕ). is_among k left) (sym (eqb-true v n new)) ∙ free_at before v parts.0 free (is_among v left) refl
          ])
          u (ap (is_among u) (append_assoc before (v ∷ []) vs) ∙ among)

      left_below : (v : ℕ) → is_among v left ≡ true → v < length ds
      left_below v among = ltb-true v (length ds) (all_at (λ n. nat_lt n (length ds)) left v (nodes_below ds cyclic order left second).1 among)

      left_before : (v : ℕ) → is_among v left ≡ true → is_among v first.left ≡ true
      left_before v among = by (occurrences v first.left) refl
        where
          by : (n : ℕ) → occurrences v first.left ≡ n → is_among v first.left ≡ true
          by zero none =
              let lt : v < length ds = left_below v among in let size : length first.found.graph ≡ length ds = first.found.waiting.size in
              let once : occurrences v first.order + occurrences v first.left ≡ 1 = first.found.peeled.once v (omega arith) in
              let there : is_among v first.order ≡ true = among_of v first.order (omega arith) in
              let gone : is_among v left ≡ false = free_in [] first.order first.found.peeled.ordered (λ u h. cc) v there in cc
          by (suc n) some = among_of v first.left (omega arith)

      -- and stays as it begins
      pub left_nothing : (c v : ℕ) → is_among v left ≡ true → value_in program ds c v ≡ nothing
      left_nothing zero v among = begun program ds v
      left_nothing (suc c) v among =
          let s = stuck_at cyclic second.graph second.waiting left second.peeled.stuck v among in
          let flag : cyclic v ≡ true = first.flags v ∙ left_before v among in
          const_step c v s.waits.const
          ∙ ap (λ (t : Option TypeName). after program ds false (value_in program ds c) (Const t s.waits.const.value)) (s.waits.free flag)
          ∙ nothing_after (value_in program ds c) s.waits.const.value s.on s.const (left_nothing c s.on s.left_too) s.waits.named
