-- The nodes in front of the graph of a procedure in range, of labels and continuations, have the tokens that statements leave for them.
use Rattle.std.proofs.Common.{◌≡◌, ℕ, zero, suc, ◌+◌, ◌<◌, ◌≤◌, ◌==◌, ◌&&◌, nat_lt, cond, filter, flat_map, map, IsTrue, Bool, true, false, Option, Some, None, List, [], ◌∷◌, length, slice_get, refl, ap, arith}
use Rattle.std.proofs.lemmas.Bool.{and_parts, eqb-true, eqb-false, ltb-true, ltb-false}
use Rattle.std.proofs.lemmas.List.{length-append}
use Rattle.std.proofs.lemmas.List.Sums.{sum_by-append, sum_by-cons}
use Rattle.std.specs.List.{list_all, range_with_len, zip}
use Rattle.std.specs.Prelude.{sum_by}
use Rattle.cmm_program.specs.declared.procedure.Cont.{Cont}
use Rattle.cmm_program.specs.declared.procedure.Proc.{Proc}
use Rattle.cmm_program.specs.declared.program.Program.{Program}
use Rattle.cmm_program.specs.declared.statement.Form.{Form}
use Rattle.cmm_program.specs.declared.statement.Form.TheVariants.{Label, Continuation}
use Rattle.cmm_program.specs.declared.statement.Statement.{Statement}
use Rattle.cmm_program.specs.Bodies.{body_statements}
use Rattle.cmm_program.specs.Frames.{parameters}
use Rattle.cmm_program.specs.InRange.{IsProcInRange}
use Rattle.cmm_program.specs.Numbering.{AreNumbered, body_numbers, continuation_number, label_number}
use Rattle.cmm_graph.specs.declared.node.Node.{Node}
use Rattle.cmm_graph.specs.declared.node.NodeKind.TheVariants.{Goto}
use Rattle.cmm_graph.specs.declared.number.NodeId.{NodeId}
use Rattle.cmm_flow.specs.Flow.{all_tokens}
use Rattle.cmm_flow.specs.Waiting.{times}
use Rattle.cmm_flow.specs.inside.Fronts.{copy_in, copy_ins, goto_nodes}
use Rattle.cmm_flow.specs.inside.LayingBlocks.{has_labels_below}
use Rattle.cmm_flow.proofs.Laying.{and_both, each_pass}
use Rattle.cmm_flow.proofs.LivenessWaiting.{each_tested}
use Rattle.cmm_flow.proofs.TokensTogether.{front_tokens}

-- ---- numbers in a list, each of which stands for so much

-- what the numbers below a count stand for
abbrev below : (ℕ → ℕ) → ℕ → ℕ
below size zero = 0
below size (suc c) = below size c + size c

module _ (size : ℕ → ℕ) where
  -- of one number, and of those in a list, where they are below a count
  abbrev part : ℕ → ℕ → ℕ
  part c m = elim (nat_lt m c) [ true ↦ size m | false ↦ 0 ]

  abbrev parts : ℕ → List ℕ → ℕ
  parts c [] = 0
  parts c (m ∷ ms) = part c m + parts c ms

  part_more : (c m : ℕ) → part (suc c) m ≡ part c m + elim (m == c) as (λ _. ℕ) [ true ↦ size c | false ↦ 0 ]
  part_more c m = by (nat_lt m (suc c)) (nat_lt m c) (m == c) refl refl refl
    where
      by : (x y z : Bool) → nat_lt m (suc c) ≡ x → nat_lt m c ≡ y → (m == c) ≡ z →
          elim x as (λ _. ℕ) [ true ↦ size m | false ↦ 0 ] ≡ elim y as (λ _. ℕ) [ true ↦ size m | false ↦ 0 ] + elim z as (λ _. ℕ) [ true ↦ size c | false ↦ 0 ]
      by true true true l k e = absurd (omega (arith, ltb-true m c k, eqb-true m c e))
      by true true false l k e = omega arith
      by true false true l k e = omega (arith, ap size (eqb-true m c e))
      by true false false l k e = let other : m ≡ c → ⊥ = eqb-false m c e in absurd (omega (arith, ltb-true m (suc c) l, ltb-false m c k, other))
      by false true z l k e = absurd (omega (arith, ltb-false m (suc c) l, ltb-true m c k))
      by false false true l k e = absurd (omega (arith, ltb-false m (suc c) l, eqb-true m c e))
      by false false false l k e = refl

  parts_grow : (c : ℕ) (ms : List ℕ) → parts c ms ≤ parts (suc c) ms
  parts_grow c [] = omega arith
  parts_grow c (m ∷ ms) = omega (arith, part_more c m, parts_grow c ms)

  parts_more : (c : ℕ) (ms : List ℕ) → 1 ≤ times c ms → parts c ms + size c ≤ parts (suc c) ms
  parts_more c [] some = absurd (omega (arith, some))
  parts_more c (m ∷ ms) some = by (parts_more c ms) (m == c) (part_more c m) some
    where
      by : (1 ≤ times c ms → parts c ms + size c ≤ parts (suc c) ms) → (b : Bool) →
          part (suc c) m ≡ part c m + elim b as (λ _. ℕ) [ true ↦ size c | false ↦ 0 ] → 1 ≤ length (cond b (m ∷ filter (λ n. n == c) ms) (filter (λ n. n == c) ms)) →
          part c m + parts c ms + size c ≤ part (suc c) m + parts (suc c) ms
      by later true one some = omega (arith, one, parts_grow c ms)
      by later false one some = omega (arith, one, later some)

  parts_all : (c : ℕ) (ms : List ℕ) → parts c ms ≤ sum_by size ms
  parts_all c [] = omega arith
  parts_all c (m ∷ ms) = omega (arith, sum_by-cons size m ms, by (nat_lt m c), parts_all c ms)
    where
      by : (b : Bool) → elim b as (λ _. ℕ) [ true ↦ size m | false ↦ 0 ] ≤ size m
      by true = omega arith
      by false = omega arith

  -- a list that has each number below a count stands for as much at least
  below_parts : (c : ℕ) (ms : List ℕ) → ((n : ℕ) → n < c → 1 ≤ times n ms) → below size c ≤ parts c ms
  below_parts zero ms each = omega arith
  below_parts (suc c) ms each =
      omega (arith, below_parts c ms (λ n less. each n (omega (arith, less))), parts_more c ms (each c (omega arith)))

-- where it has no more numbers than these, all are below the count
abbrev one : ℕ → ℕ
one n = 1

below_one : (c : ℕ) → below one c ≡ c
below_one zero = refl
below_one (suc c) = omega (arith, below_one c)

sum_one : (ms : List ℕ) → sum_by one ms ≡ length ms
sum_one [] = refl
sum_one (m ∷ ms) = omega (arith, sum_by-cons one m ms, sum_one ms)

all_below : (c : ℕ) (ms : List ℕ) → length ms ≤ parts one c ms → IsTrue (list_all (λ m. nat_lt m c) ms)
all_below c [] many = refl
all_below c (m ∷ ms) many = by (all_below c ms) (nat_lt m c) refl many
  where
    by : (length ms ≤ parts one c ms → IsTrue (list_all (λ m. nat_lt m c) ms)) → (b : Bool) → nat_lt m c ≡ b → suc (length ms) ≤ elim b as (λ _. ℕ) [ true ↦ 1 | false ↦ 0 ] + parts one c ms →
        IsTrue (nat_lt m c && list_all (λ m. nat_lt m c) ms)
    by later true is many = and_both (nat_lt m c) (list_all (λ m. nat_lt m c) ms) is (later (omega (arith, many)))
    by later false is many = absurd (omega (arith, many, parts_all one c ms, sum_one ms))

-- ---- lists by the number of an element

below_front : (g : ℕ → ℕ) (c : ℕ) → below g (suc c) ≡ g 0 + below (λ n. g (suc n)) c
below_front g zero = omega arith
below_front g (suc c) = omega (arith, below_front g c)

below_list : (h : Option Cont → ℕ) (xs : List Cont) → below (λ n. h (slice_get xs n)) (length xs) ≡ sum_by (λ c. h (Some c)) xs
below_list h [] = refl
below_list h (x ∷ xs) =
    omega (arith, below_front (λ n. h (slice_get (x ∷ xs) n)) (length xs), below_list h xs, sum_by-cons (λ (c : Cont). h (Some c)) x xs)

-- ---- the nodes in front

pub gotos_sum : (to : List NodeId) → all_tokens (goto_nodes to) ≡ length to
gotos_sum [] = refl
gotos_sum (n ∷ to) = omega (arith, sum_by-cons (λ (node : Node). node.tokens) record { tokens = 1; kind = Goto n } (goto_nodes to), gotos_sum to)

abbrev copy_tokens : Cont → ℕ
copy_tokens c = suc (length c.params)

copies_few : (q : Proc) (conts : List Cont) (to : List NodeId) → all_tokens (map (λ c. copy_in q c.0 c.1) (zip conts to)) ≤ sum_by copy_tokens conts
copies_few q [] to = omega arith
copies_few q (c ∷ conts) [] = omega arith
copies_few q (c ∷ conts) (n ∷ to) =
    omega (
      arith,
      sum_by-cons (λ (node : Node). node.tokens) (copy_in q c n) (map (λ (c : Cont × NodeId). copy_in q c.0 c.1) (zip conts to)),
      sum_by-cons copy_tokens c conts,
      copies_few q conts to,
    )

-- how many labels a body has
abbrev pub label_count : Proc → ℕ
label_count q = length (body_numbers label_number q)

module _ (p : Program) (q : Proc) (range : IsProcInRange p q) where
  -- a body has each number below its count
  each_there : (number : Form → List ℕ) (count : ℕ) → AreNumbered number count q → (n : ℕ) → n < count → 1 ≤ times n (body_numbers number q)
  each_there number count are n less =
      let ns = body_numbers number q in
      let all = and_parts (length ns == count) (list_all (λ n. length (filter (λ m. m == n) ns) == 1) (range_with_len 0 count)) are in
      let once = each_tested (λ n. length (filter (λ m. m == n) ns) == 1) 0 count n all.1 (omega arith) (omega (arith, less)) in
      omega (arith, eqb-true (length (filter (λ m. m == n) ns)) 1 once)

  -- ---- labels

  abbrev numbers : List Statement → List ℕ
  numbers ss = flat_map (λ (s : Statement). label_number s.form) ss

  numbers_below : IsTrue (list_all (λ m. nat_lt m (label_count q)) (body_numbers label_number q))
  numbers_below =
      let ns = body_numbers label_number q in
      all_below (length ns) ns (omega (arith, below_one (length ns), below_parts one (length ns) ns (each_there label_number (length ns) range.labels_numbered)))

  statements_below : (limit : ℕ) (ss : List Statement) → IsTrue (list_all (λ m. nat_lt m limit) (numbers ss)) → IsTrue (list_all (has_labels_below limit) ss)
  statements_below limit [] all = refl
  statements_below limit (s ∷ ss) all =
      let both = each_pass (λ m. nat_lt m limit) (label_number s.form) (numbers ss) all in
      and_both (has_labels_below limit s) (list_all (has_labels_below limit) ss) both.0 (statements_below limit ss both.1)

  pub labels_below : IsTrue (list_all (has_labels_below (label_count q)) (body_statements q))
  labels_below = statements_below (label_count q) (body_statements q) numbers_below

  -- ---- statements for what stands in front

  abbrev parameter_tokens : ℕ → ℕ
  parameter_tokens n = suc (length (parameters q n))

  abbrev continuations : List Statement → List ℕ
  continuations ss = flat_map (λ (s : Statement). continuation_number s.form) ss

  mark_sum : (f : Form) → sum_by parameter_tokens (continuation_number f) + length (label_number f) ≡ front_tokens q f
  mark_sum (Label l) = refl
  mark_sum (Continuation k) = omega arith
  mark_sum f = refl

  marks_sum : (ss : List Statement) → sum_by parameter_tokens (continuations ss) + length (numbers ss) ≡ sum_by (λ s. front_tokens q s.form) ss
  marks_sum [] = refl
  marks_sum (s ∷ ss) =
      omega (
        arith,
        sum_by-append parameter_tokens (continuation_number s.form) (continuations ss),
        length-append (label_number s.form) (numbers ss),
        mark_sum s.form,
        marks_sum ss,
        sum_by-cons (λ (s : Statement). front_tokens q s.form) s ss,
      )

  -- the CopyIns of continuations, and as many Gotos as there are labels
  pub fronts_sum : (to : List NodeId) → all_tokens (copy_ins q to) + label_count q ≤ sum_by (λ s. front_tokens q s.form) (body_statements q)
  fronts_sum to =
      let ns = body_numbers continuation_number q in
      let h : Option Cont → ℕ = λ o. suc (length (elim o as (λ _. List ℕ) [ Some c ↦ c.params | None ↦ [] ])) in
      omega (
        arith,
        copies_few q q.conts to,
        below_list h q.conts,
        below_parts parameter_tokens (length q.conts) ns (each_there continuation_number (length q.conts) range.continuations_numbered),
        parts_all parameter_tokens (length q.conts) ns,
        marks_sum (body_statements q),
      )
