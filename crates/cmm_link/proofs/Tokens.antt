-- The parts of a procedure in range by its tokens: each variable and each stackdata label has two at least, each continuation five, and each site three.
use Rattle.std.proofs.Common.{◌≡◌, ℕ, ◌+◌, ◌*◌, ◌≤◌, ◌==◌, ◌<◌, zero, suc, Bool, true, false, filter, flat_map, List, [], ◌∷◌, drop, length, take, slice_get, Some, refl, ap, arith}
use Rattle.std.proofs.lemmas.Option.{same_Some}
use Rattle.cmm_link.proofs.SiteTokens.{each_tested, mark_least, measure_at, site_measure, sites_among, times, total, total_both}
use Rattle.std.proofs.lemmas.Bool.{and_parts, eqb-true}
use Rattle.std.proofs.lemmas.List.{length-append, length-drop, length-take}
use Rattle.std.proofs.lemmas.List.Sums.{sum_by-cons}
use Rattle.std.specs.Prelude.{sum_by}
use Rattle.cmm_program.specs.declared.procedure.Proc.{Proc}
use Rattle.cmm_program.specs.declared.procedure.Site.{Site}
use Rattle.cmm_program.specs.declared.procedure.StackItem.{StackItem}
use Rattle.cmm_program.specs.declared.procedure.VarInfo.{VarInfo}
use Rattle.cmm_program.specs.declared.program.Program.{Program}
use Rattle.cmm_program.specs.declared.statement.Statement.{Statement}
use Rattle.cmm_program.specs.Bodies.{body_statements}
use Rattle.cmm_program.specs.InRange.{IsProcInRange}
use Rattle.cmm_program.specs.Layout.{aligned_up, stackdata_labels, stackdata_labels_from}
use Rattle.cmm_program.specs.Numbering.{body_numbers, continuation_number, site_number}
use Rattle.cmm_program.specs.Tokens.{before_name, item_tokens, local_tokens, own_tokens, stackdata_tokens, with_commas}

-- ---- variables

abbrev formal_tokens : VarInfo → ℕ
formal_tokens v = before_name v + 1

formals_least : (vs : List VarInfo) → 2 * length vs ≤ sum_by formal_tokens vs
formals_least [] = omega arith
formals_least (v ∷ vs) = omega (arith, sum_by-cons formal_tokens v vs, formals_least vs)

commas_least : (vs : List VarInfo) → sum_by formal_tokens vs ≤ with_commas formal_tokens vs
commas_least [] = omega arith
commas_least (v ∷ vs) = omega arith

locals_least : (vs : List VarInfo) → 2 * length vs ≤ local_tokens vs
locals_least [] = omega arith
locals_least (v ∷ []) = omega arith
locals_least (v ∷ w ∷ rest) = omega (arith, locals_least (w ∷ rest))

-- ---- stackdata labels

-- a labelled item has two tokens
label_least : (i : StackItem) → i.label ≡ true → 2 ≤ item_tokens i
label_least i is = by i.label is
  where
    by : (b : Bool) → b ≡ true → 2 ≤ item_tokens record i { label = b }
    by true is = omega arith
    by false is = absurd (cc (is))

item_least : (i : StackItem) (here : ℕ) (others : List ℕ) (tokens : ℕ) (b : Bool) → i.label ≡ b → 2 * length others ≤ tokens →
    2 * length (elim b as (λ _. List ℕ) [ true ↦ here ∷ others | false ↦ others ]) ≤ item_tokens i + tokens
item_least i here others tokens true is rest = omega (arith, label_least i is)
item_least i here others tokens false is rest = omega arith

labels_least : (place : ℕ) (items : List StackItem) → 2 * length (stackdata_labels_from place items) ≤ sum_by item_tokens items
labels_least place [] = omega arith
labels_least place (i ∷ is) =
    let here = aligned_up i.align place in
    let rest = labels_least (here + i.length) is in
    let mine = item_least i here (stackdata_labels_from (here + i.length) is) (sum_by item_tokens is) i.label refl rest in
    omega (arith, mine, sum_by-cons item_tokens i is)

stackdata_least : (items : List StackItem) → 2 * length (stackdata_labels items) ≤ stackdata_tokens items
stackdata_least [] = omega arith
stackdata_least (i ∷ is) = omega (arith, labels_least 0 (i ∷ is))

-- ---- continuations and sites

module _ (q : Proc) where
  abbrev own : Statement → ℕ
  own s = own_tokens q s.form

  abbrev marked : List Statement → List ℕ
  marked ss = flat_map (λ (s : Statement). continuation_number s.form) ss

  abbrev sited : List Statement → List ℕ
  sited ss = flat_map (λ (s : Statement). site_number s.form) ss

  marks_least : (ss : List Statement) → 5 * length (marked ss) + total (measure_at q.sites) (sited ss) ≤ sum_by own ss
  marks_least [] = omega arith
  marks_least (s ∷ ss) =
      omega (
        arith,
        sum_by-cons own s ss,
        mark_least q s.form,
        marks_least ss,
        length-append (continuation_number s.form) (marked ss),
        total_both (measure_at q.sites) (site_number s.form) (sited ss),
      )

-- each site has a statement
pub site_stands : (p : Program) (q : Proc) → IsProcInRange p q → (n : ℕ) → n < length q.sites → 1 ≤ times n (body_numbers site_number q)
site_stands p q range n less =
    let both = and_parts (length (body_numbers site_number q) == length q.sites) _ range.sites_numbered in
    let once : times n (body_numbers site_number q) ≡ 1 =
    eqb-true (times n (body_numbers site_number q)) 1
    (each_tested (λ n. length (filter (λ m. m == n) (body_numbers site_number q)) == 1) (length q.sites) n both.1 less) in
    omega (arith, once)

-- ---- all

pub tokens_of_parts : (p : Program) (q : Proc) → IsProcInRange p q →
    2 * length q.vars + 2 * length (stackdata_labels q.stack) + 5 * length q.conts + sum_by site_measure q.sites + 5 ≤ q.tokens
tokens_of_parts p q range =
    let both = and_parts (length (body_numbers continuation_number q) == length q.conts) _ range.continuations_numbered in
    let many : length (marked q (body_statements q)) ≡ length q.conts = eqb-true (length (body_numbers continuation_number q)) (length q.conts) both.0 in
    let shortest = range.shortest in
    omega (
      arith,
      shortest,
      many,
      formals_least (take q.formals q.vars),
      commas_least (take q.formals q.vars),
      locals_least (drop q.formals q.vars),
      length-take q.formals q.vars,
      length-drop q.formals q.vars,
      stackdata_least q.stack,
      marks_least q (body_statements q),
      sites_among q.sites (sited q (body_statements q)) (site_stands p q range),
    )

pub sites_counted : (sites : List Site) → 3 * length sites ≤ sum_by site_measure sites
sites_counted [] = omega arith
sites_counted (s ∷ sites) = omega (arith, sum_by-cons site_measure s sites, sites_counted sites)

-- what one site has, all have
pub site_within : (sites : List Site) (n : ℕ) (s : Site) → slice_get sites n ≡ Some s → site_measure s ≤ sum_by site_measure sites
site_within [] n s is = absurd (cc)
site_within (t ∷ sites) zero s is =
    let same : site_measure t ≡ site_measure s = ap site_measure (same_Some t s is) in
    omega (arith, sum_by-cons site_measure t sites, same)
site_within (t ∷ sites) (suc n) s is = omega (arith, sum_by-cons site_measure t sites, site_within sites n s is)
