-- What is named is listed, sort by sort, and has labels.
use Rattle.std.proofs.Common.{◌≡◌, ◌⊎◌, inl, inr, ℕ, zero, suc, ◌+◌, ◌-◌, ◌<◌, ◌≤◌, refl, sym, ◌∙◌, ap, subst, arith, Bool, true, false, List, [], ◌∷◌, ◌++◌, append_assoc, length, length-append, map, get_or, Option, Some, None, slice_get, zero-add}
use Rattle.std.specs.Prelude.{◌&&◌, cond, is_some, filter, nat_le, nat_lt, not}
use Rattle.std.specs.List.{AllByRecursion, range_with_len}
use Rattle.std.proofs.lemmas.List.{get_or-append-add, get_or_append_left, get_or_past, length-map, map-append}
use Rattle.std.proofs.lemmas.List.Elements.{filter-append}
use Rattle.std.proofs.lemmas.List.FromFn.{length-range_with_len}
use Rattle.rv_asm.specs.declared.part.Label.{Label as CodeLabel}
use Rattle.cmm_bitset.specs.Sets.{has, members}
use Rattle.cmm_program.specs.declared.program.Program.{Program}
use Rattle.cmm_graph.specs.declared.graph.Graph.{Graph}
use Rattle.cmm_unit_code.specs.declared.unit_code.Reference.{Reference}
use Rattle.cmm_unit_code.specs.declared.unit_code.Reference.TheVariants.{Register, Label, Procedure}
use Rattle.cmm_emit.specs.Mentions.{AreMentioned, all_references, each_of, graphs_name, is_reference, references_of}
use Rattle.cmm_emit.proofs.Outlined.{IsIn}
use Rattle.cmm_emit.specs.Naming.{has_named}
use Rattle.cmm_emit.specs.Outlines.{symbol_count}
use Rattle.cmm_emit.specs.Symbols.{AreLabelsOf, AreSymbols, IsWithout}
use Rattle.cmm_emit.specs.declared.mentions.Mentions.{Mentions}
use Rattle.cmm_emit.specs.declared.symbols.Symbols.{Symbols}

-- ---- how many there are

-- no more pass a test than there are
one_few : {A : Type 0} (b : Bool) (x : A) (xs : List A) (n : ℕ) → length xs ≤ n → length (cond b (x ∷ xs) xs) ≤ suc n
one_few true x xs n few = omega (arith, few)
one_few false x xs n few = omega (arith, few)

pub filter_few : {A : Type 0} (test : A → Bool) (xs : List A) → length (filter test xs) ≤ length xs
filter_few test [] = omega arith
filter_few test (x ∷ xs) = one_few (test x) x (filter test xs) (length xs) (filter_few test xs)

pub range_counted : (from count : ℕ) → length (range_with_len from count) ≡ count
range_counted from count = length-range_with_len from count

pub each_counted : (make : ℕ → Reference) (count : ℕ) → length (each_of make count) ≡ count
each_counted make count = length-map (range_with_len 0 count) make ∙ length-range_with_len 0 count

pub references_few : (p : Program) (graphs : List Graph) (first count : ℕ) → length (references_of p graphs first count) ≤ symbol_count p
references_few p graphs first count =
    let registers = each_of Register (length p.globals) in
    let labels = each_of Label (length p.labels) in
    let procedures = each_of Procedure (length p.procs) in
    omega (
      arith,
      filter_few (is_reference graphs first count) (all_references p),
      length-append registers (labels ++ procedures),
      length-append labels procedures,
      each_counted Register (length p.globals),
      each_counted Label (length p.labels),
      each_counted Procedure (length p.procs),
    )

-- what passes a test is one of those that were tried
one_from : {A : Type 0} (P : A → Type 0) (b : Bool) (y : A) (ys : List A) → P y → ((k : ℕ) (x : A) → slice_get ys k ≡ Some x → P x) → (k : ℕ) (x : A) →
    slice_get (cond b (y ∷ ys) ys) k ≡ Some x → P x
one_from P true y ys first rest zero x is = let same : y ≡ x = cc in subst P same first
one_from P true y ys first rest (suc k) x is = rest k x is
one_from P false y ys first rest k x is = rest k x is

filter_from : {A : Type 0} (P : A → Type 0) (test : A → Bool) (xs : List A) → AllByRecursion P xs → (k : ℕ) (x : A) → slice_get (filter test xs) k ≡ Some x → P x
filter_from P test [] all k x is = absurd (cc)
filter_from P test (y ∷ xs) all k x is = one_from P (test y) y (filter test xs) all.0 (filter_from P test xs all.1) k x is

both_all : {A : Type 0} (P : A → Type 0) (xs ys : List A) → AllByRecursion P xs → AllByRecursion P ys → AllByRecursion P (xs ++ ys)
both_all P [] ys first second = second
both_all P (x ∷ xs) ys first second = (first.0, both_all P xs ys first.1 second)

each_all : (P : Reference → Type 0) (make : ℕ → Reference) (from count : ℕ) → ((n : ℕ) → n < from + count → P (make n)) → AllByRecursion P (map make (range_with_len from count))
each_all P make from zero so = tt
each_all P make from (suc count) so = (so from (omega arith), each_all P make (from + 1) count (λ n less. so n (omega (arith, less))))

-- what a unit names is of the program
pub references_in : (p : Program) (graphs : List Graph) (first count k : ℕ) (r : Reference) → slice_get (references_of p graphs first count) k ≡ Some r → IsIn p r
references_in p graphs first count =
    filter_from (IsIn p) (is_reference graphs first count) (all_references p)
    (both_all (IsIn p) (each_of Register (length p.globals)) (each_of Label (length p.labels) ++ each_of Procedure (length p.procs))
    (each_all (IsIn p) Register 0 (length p.globals) (λ n less. omega (arith, less)))
    (both_all (IsIn p) (each_of Label (length p.labels)) (each_of Procedure (length p.procs))
    (each_all (IsIn p) Label 0 (length p.labels) (λ n less. omega (arith, less)))
    (each_all (IsIn p) Procedure 0 (length p.procs) (λ n less. omega (arith, less)))))

-- ---- members, as what they are

-- where a test of what is made is membership, what passes it is made of the members
one_made : (make : ℕ → Reference) (b c : Bool) (a : ℕ) (ns : List ℕ) (rs : List Reference) → b ≡ c → map make ns ≡ rs → map make (cond b (a ∷ ns) ns) ≡ cond c (make a ∷ rs) rs
one_made make true true a ns rs same rest = ap (λ (qs : List Reference). make a ∷ qs) rest
one_made make true false a ns rs same rest = absurd (cc)
one_made make false true a ns rs same rest = absurd (cc)
one_made make false false a ns rs same rest = rest

made_from : (make : ℕ → Reference) (test : Reference → Bool) (set : List Bool) (a n : ℕ) → ((k : ℕ) → a ≤ k → k < a + n → has set k ≡ test (make k)) →
    map make (filter (has set) (range_with_len a n)) ≡ filter test (map make (range_with_len a n))
made_from make test set a zero so = refl
made_from make test set a (suc n) so =
    one_made make (has set a) (test (make a)) a (filter (has set) (range_with_len (a + 1) n)) (filter test (map make (range_with_len (a + 1) n)))
    (so a (omega arith) (omega arith)) (made_from make test set (a + 1) n (λ k least less. so k (omega (arith, least)) (omega (arith, less))))

pub members_made : (make : ℕ → Reference) (test : Reference → Bool) (set : List Bool) (count : ℕ) → length set ≡ count → ((n : ℕ) → n < count → has set n ≡ test (make n)) →
    map make (members set) ≡ filter test (each_of make count)
members_made make test set count size same =
    let all : length set - 0 ≡ count = omega (arith, size) in
    ap (λ (n : ℕ). map make (filter (has set) (range_with_len 0 n))) all ∙ made_from make test set 0 count (λ n least less. same n (omega (arith, less)))

-- ---- one number more

front_stays : {A : Type 0} (xs ys : List A) (n : ℕ) (x : A) → slice_get xs n ≡ Some x → slice_get (xs ++ ys) n ≡ Some x
front_stays [] ys n x is = absurd (cc)
front_stays (z ∷ xs) ys zero x is = is
front_stays (z ∷ xs) ys (suc n) x is = front_stays xs ys n x is

last_is : {A : Type 0} (xs : List A) (x : A) → slice_get (xs ++ x ∷ []) (length xs) ≡ Some x
last_is [] x = refl
last_is (z ∷ xs) x = last_is xs x

-- labels of more references are labels still
pub labels_stay : (make : ℕ → Reference) (is_named : ℕ → Bool) (count : ℕ) (rs more : List Reference) (made : List (Option CodeLabel)) → AreLabelsOf make is_named count rs made →
    AreLabelsOf make is_named count (rs ++ more) made
labels_stay make is_named count rs more made are = record {
  counted = are.counted;
  each = λ n l is. front_stays rs more l.number (make n) (are.each n l is);
  there = are.there;
}

module _ (make : ℕ → Reference) (is_named : ℕ → Bool) (n : ℕ) (rs : List Reference) (made : List (Option CodeLabel)) (are : AreLabelsOf make is_named n rs made) where
  abbrev place : CodeLabel
  place = record { number = length rs }

  -- where it is named
  module _ (x : Option CodeLabel) (more : List Reference) where
    abbrev now : List (Option CodeLabel)
    now = made ++ x ∷ []

    counted : length now ≡ n + 1
    counted = omega (arith, length-append made (x ∷ []), are.counted)

    early : (k : ℕ) → k < n → get_or now k None ≡ get_or made k None
    early k less = get_or_append_left made (x ∷ []) None k (omega (arith, less, are.counted))

    last : (k : ℕ) → k ≡ n → get_or now k None ≡ x
    last k same =
        let is : k ≡ length made + 0 = omega (arith, same, are.counted) in
        ap (λ (m : ℕ). get_or now m None) is ∙ get_or-append-add made (x ∷ []) 0 None

    each_of_both : ((l : CodeLabel) → x ≡ Some l → slice_get (rs ++ more) l.number ≡ Some (make n)) → (k : ℕ) (l : CodeLabel) → get_or now k None ≡ Some l →
        slice_get (rs ++ more) l.number ≡ Some (make k)
    each_of_both of_last k l is = by (grind arith)
      where
        then : n ≤ k → (k ≡ n) ⊎ (n < k) → slice_get (rs ++ more) l.number ≡ Some (make k)
        then least (inl same) = subst (λ (m : ℕ). slice_get (rs ++ more) l.number ≡ Some (make m)) (sym same) (of_last l (sym (last k same) ∙ is))
        then least (inr far) =
            let past : length now ≤ k = omega (arith, far, counted) in
            absurd (let none = get_or_past now k None past in cc)

        by : (k < n) ⊎ (n ≤ k) → slice_get (rs ++ more) l.number ≡ Some (make k)
        by (inl less) = front_stays rs more l.number (make k) (are.each k l (sym (early k less) ∙ is))
        by (inr least) = then least (grind arith)

    there_of_both : (is_named n ≡ true → is_some x ≡ true) → (k : ℕ) → k < n + 1 → is_named k ≡ true → has_named now k ≡ true
    there_of_both of_last k less named = by (grind arith)
      where
        by : (k < n) ⊎ (k ≡ n) → has_named now k ≡ true
        by (inl before) = ap (λ (o : Option CodeLabel). is_some o) (early k before) ∙ are.there k before named
        by (inr same) =
            ap (λ (o : Option CodeLabel). is_some o) (last k same) ∙ of_last (subst (λ (m : ℕ). is_named m ≡ true) same named)

    with_last : ((l : CodeLabel) → x ≡ Some l → slice_get (rs ++ more) l.number ≡ Some (make n)) → (is_named n ≡ true → is_some x ≡ true) →
        AreLabelsOf make is_named (n + 1) (rs ++ more) now
    with_last of_each of_there = record { counted = counted; each = each_of_both of_each; there = there_of_both of_there }

  some_is : (l m : CodeLabel) → ◌≡◌ {A = Option CodeLabel} (Some l) (Some m) → l ≡ m
  some_is l m e = cc

  pub one_more : (b : Bool) → is_named n ≡ b → (x : Option CodeLabel) → x ≡ cond b (Some place) None → (all : List Reference) → all ≡ rs ++ cond b (make n ∷ []) [] →
      (now : List (Option CodeLabel)) → now ≡ made ++ x ∷ [] → AreLabelsOf make is_named (n + 1) all now
  one_more true named x is all are_all now is_now =
      subst (λ (ls : List (Option CodeLabel)). AreLabelsOf make is_named (n + 1) all ls) (sym is_now)
      (subst (λ (qs : List Reference). AreLabelsOf make is_named (n + 1) qs (made ++ x ∷ [])) (sym are_all)
      (with_last x (make n ∷ [])
      (λ l same. ap (λ (m : CodeLabel). slice_get (rs ++ make n ∷ []) m.number) (sym (some_is place l (sym is ∙ same))) ∙ last_is rs (make n))
      (λ yes. ap (λ (o : Option CodeLabel). is_some o) is)))
  one_more false named x is all are_all now is_now =
      subst (λ (ls : List (Option CodeLabel)). AreLabelsOf make is_named (n + 1) all ls) (sym is_now)
      (subst (λ (qs : List Reference). AreLabelsOf make is_named (n + 1) qs (made ++ x ∷ [])) (sym are_all)
      (with_last x []
      (λ l same. absurd (let no = sym is ∙ same in cc))
      (λ yes. absurd (let no = sym named ∙ yes in cc))))

range_last : (a n : ℕ) → range_with_len a (n + 1) ≡ range_with_len a n ++ (a + n) ∷ []
range_last a zero = let e : a ≡ a + 0 = omega arith in ap (λ (k : ℕ). k ∷ []) e
range_last a (suc n) =
    let e : a + 1 + n ≡ a + suc n = omega arith in
    let more : suc n + 1 ≡ suc (n + 1) = omega arith in
    ap (λ (k : ℕ). range_with_len a k) more ∙ ap (λ (ns : List ℕ). a ∷ ns) (range_last (a + 1) n ∙ ap (λ (k : ℕ). range_with_len (a + 1) n ++ k ∷ []) e)

-- the members so far, and the next number
pub members_more : (make : ℕ → Reference) (set : List Bool) (n : ℕ) →
    map make (filter (has set) (range_with_len 0 (n + 1))) ≡ map make (filter (has set) (range_with_len 0 n)) ++ cond (has set n) (make n ∷ []) []
members_more make set n =
    let next : range_with_len 0 (n + 1) ≡ range_with_len 0 n ++ n ∷ [] = range_last 0 n ∙ ap (λ (k : ℕ). range_with_len 0 n ++ k ∷ []) (zero-add n) in
    ap (λ (ns : List ℕ). map make (filter (has set) ns)) next
    ∙ (ap (map make) (filter-append (has set) (range_with_len 0 n) (n ∷ []))
    ∙ (map-append make (filter (has set) (range_with_len 0 n)) (filter (has set) (n ∷ [])) ∙ ap (λ (rs : List Reference). map make (filter (has set) (range_with_len 0 n)) ++ rs) (one (has set n) refl)))
  where
    one : (b : Bool) → has set n ≡ b → map make (filter (has set) (n ∷ [])) ≡ cond (has set n) (make n ∷ []) []
    one true is = rw is refl
    one false is = rw is refl

-- ---- a unit

pub members_few : (make : ℕ → Reference) (set : List Bool) → length (map make (members set)) ≤ length set
members_few make set =
    omega (
      arith,
      length-map (members set) make,
      filter_few (has set) (range_with_len 0 (length set - 0)),
      range_counted 0 (length set - 0),
    )

-- the same is named in another way
labels_so : (make : ℕ → Reference) (old new : ℕ → Bool) (many count : ℕ) (rs : List Reference) (made : List (Option CodeLabel)) → many ≡ count →
    ((n : ℕ) → n < count → old n ≡ new n) → AreLabelsOf make old many rs made → AreLabelsOf make new count rs made
labels_so make old new many count rs made same so are = record {
  counted = are.counted ∙ same;
  each = are.each;
  there = λ n less named. are.there n (omega (arith, less, same)) (so n less ∙ named);
}

module _ (p : Program) (graphs : List Graph) (first count : ℕ) (found : Mentions) (other : List Bool) (named : AreMentioned p graphs found)
    (without : IsWithout first count found.procedures other) where
  abbrev is_named : Reference → Bool
  is_named = is_reference graphs first count

  not_own : (b : Bool) → b ≡ (b && true)
  not_own true = refl
  not_own false = refl

  register_named : (n : ℕ) → n < length p.globals → has found.registers n ≡ is_named (Register n)
  register_named n less = named.each (Register n) (let size = named.registers in omega (arith, less, size)) ∙ not_own (graphs_name graphs (Register n))

  label_named : (n : ℕ) → n < length p.labels → has found.labels n ≡ is_named (Label n)
  label_named n less = named.each (Label n) (let size = named.labels in omega (arith, less, size)) ∙ not_own (graphs_name graphs (Label n))

  procedure_named : (n : ℕ) → n < length p.procs → has other n ≡ is_named (Procedure n)
  procedure_named n less =
      without.each n
      ∙ ap (λ (b : Bool). b && not (nat_le first n && nat_lt n (first + count))) (named.each (Procedure n) (let size = named.procedures in omega (arith, less, size)))

  others_counted : length other ≡ length p.procs
  others_counted = without.size ∙ named.procedures

  references_are : map Register (members found.registers) ++ (map Label (members found.labels) ++ map Procedure (members other)) ≡ references_of p graphs first count
  references_are =
      let registers = each_of Register (length p.globals) in
      let labels = each_of Label (length p.labels) in
      let procedures = each_of Procedure (length p.procs) in
      ap (λ (rs : List Reference). rs ++ (map Label (members found.labels) ++ map Procedure (members other)))
      (members_made Register is_named found.registers (length p.globals) named.registers register_named)
      ∙ (ap (λ (rs : List Reference). filter is_named registers ++ (rs ++ map Procedure (members other))) (members_made Label is_named found.labels (length p.labels) named.labels label_named)
      ∙ (ap (λ (rs : List Reference). filter is_named registers ++ (filter is_named labels ++ rs)) (members_made Procedure is_named other (length p.procs) others_counted procedure_named)
      ∙ (ap (λ (rs : List Reference). filter is_named registers ++ rs) (sym (filter-append is_named labels procedures)) ∙ sym (filter-append is_named registers (labels ++ procedures)))))

  pub are_symbols : (s : Symbols) (rs qs : List Reference) → rs ≡ map Register (members found.registers) → qs ≡ rs ++ map Label (members found.labels) →
      s.references ≡ qs ++ map Procedure (members other) → AreLabelsOf Register (has found.registers) (length found.registers) rs s.registers →
      AreLabelsOf Label (has found.labels) (length found.labels) qs s.data_labels → AreLabelsOf Procedure (has other) (length other) s.references s.procedures → AreSymbols p graphs first count s
  are_symbols s rs qs first_are then_are all_are registers labels procedures =
      let last = map Procedure (members other) in
      let behind = map Label (members found.labels) ++ last in
      let whole : s.references ≡ rs ++ behind =
      all_are ∙ (ap (λ (xs : List Reference). xs ++ last) then_are ∙ append_assoc rs (map Label (members found.labels)) last) in
      record {
        references = whole ∙ (ap (λ (xs : List Reference). xs ++ behind) first_are ∙ references_are);
        registers = labels_so Register (has found.registers) (λ n. is_named (Register n)) (length found.registers) (length p.globals) s.references s.registers named.registers register_named
            (subst (λ (xs : List Reference). AreLabelsOf Register (has found.registers) (length found.registers) xs s.registers) (sym whole)
            (labels_stay Register (has found.registers) (length found.registers) rs behind s.registers registers));
        data_labels = labels_so Label (has found.labels) (λ n. is_named (Label n)) (length found.labels) (length p.labels) s.references s.data_labels named.labels label_named
            (subst (λ (xs : List Reference). AreLabelsOf Label (has found.labels) (length found.labels) xs s.data_labels) (sym all_are)
            (labels_stay Label (has found.labels) (length found.labels) qs last s.data_labels labels));
        procedures = labels_so Procedure (has other) (λ n. is_named (Procedure n)) (length other) (length p.procs) s.references s.procedures others_counted procedure_named procedures;
      }
