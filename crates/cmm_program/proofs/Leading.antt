-- What holds at all positions of a body and at its end holds wherever a path leads: at what follows each mark, and where
-- each way leads from a position.
use Rattle.std.proofs.Common.{ℕ, Bool, true, false, IfSome, List, [], ◌∷◌, ◌++◌, map, slice_get, Option, Some, None, append-nil, append_assoc}
use Rattle.std.specs.Prelude.{⊤}
use Rattle.std.specs.List.{AllByRecursion}
use Rattle.cmm_program.specs.declared.statement.Form.{Form, Row_of-Arm, end_of-Arm, more_of-Arm}
use Rattle.cmm_program.specs.declared.statement.Form.TheVariants.{Empty, If', Switch', Span', Span, Assign, Call, Yield, Checked, PutByte, GetByte, Label, Goto, Cut}
use Rattle.cmm_program.specs.declared.statement.Arm.{Arm', Row_of-Statement, end_of-Statement, more_of-Statement}
use Rattle.cmm_program.specs.declared.statement.Statement.{Statement}
use Rattle.cmm_program.specs.declared.procedure.Proc.{Proc}
use Rattle.cmm_program.specs.declared.procedure.Site.{Site}
use Rattle.cmm_program.specs.Bodies.{Mark, AtLabel, AtContinuation, statements, branches, first_of_two, outward, is_mark, after_inside, after_in, after_in_arms, follow}
use Rattle.cmm_program.specs.Liveness.{Way, to_next, to_continuation, exits, exits_at, checked_ways, into_branches, ways}
use Rattle.cmm_program.proofs.Positions.{positions_inside, positions_in, positions_in_arms, positions}

module _ {X : Type 0} (P : X → Type 0) where
  all_split : (xs ys : List X) → AllByRecursion P (xs ++ ys) → AllByRecursion P xs × AllByRecursion P ys
  all_split [] ys all = (tt, all)
  all_split (x ∷ xs) ys all = let both = all_split xs ys all.1 in ((all.0, both.0), both.1)

  all_joined : (xs ys : List X) → AllByRecursion P xs × AllByRecursion P ys → AllByRecursion P (xs ++ ys)
  all_joined [] ys all = all.1
  all_joined (x ∷ xs) ys all = (all.0.0, all_joined xs ys (all.0.1, all.1))

module _ (P : List Statement → Type 0) where
  abbrev pub Everywhere : List (List Statement) → Type 0
  Everywhere list = AllByRecursion P list

  -- where a block begins
  begins : {n : _} (row : Row_of-Statement n) (rest : List Statement) → Everywhere (positions_in row rest) → P rest → P (statements row ++ rest)
  begins end_of-Statement rest all last = last
  begins (more_of-Statement tokens form row) rest all last = all.0

  -- ---- at what follows a mark

  -- at what is found, before the rest
  abbrev IsFound : Option (List Statement) → List Statement → Type 0
  IsFound found rest = IfSome found (λ inner. P (inner ++ rest))

  first_found : (a b : Option (List Statement)) (rest : List Statement) → IsFound a rest → IsFound b rest → IsFound (first_of_two a b) rest
  first_found (Some inner) b rest h g = h
  first_found None b rest h g = g

  outward_found : (a : Option (List Statement)) (more rest : List Statement) → IsFound a (more ++ rest) → IsFound (outward a more) rest
  outward_found (Some inner) more rest h = rw (append_assoc inner more rest) h
  outward_found None more rest h = h

  here_or_found : (b : Bool) (here : List Statement) (other : Option (List Statement)) (rest : List Statement) →
      P (here ++ rest) → IsFound other rest → IsFound (elim b [ true ↦ Some here | false ↦ other ]) rest
  here_or_found true here other rest h g = h
  here_or_found false here other rest h g = g

  module _ (m : Mark) where
    mutual
      found_inside : (form : Form) (rest : List Statement) → Everywhere (positions_inside form rest) → P rest → IsFound (after_inside m form) rest
      found_inside (If' condition _ then_ _ otherwise) rest all last =
          let both = all_split P (positions_in then_ rest) (positions_in otherwise rest) all in
          first_found (after_in m then_) (after_in m otherwise) rest (found_in then_ rest both.0 last) (found_in otherwise rest both.1 last)
      found_inside (Switch' value _ arms) rest all last = found_in_arms arms rest all last
      found_inside (Span' _ body) rest all last = found_in body rest all last
      found_inside _ rest all last = tt

      found_in : {n : _} (row : Row_of-Statement n) (rest : List Statement) → Everywhere (positions_in row rest) → P rest → IsFound (after_in m row) rest
      found_in end_of-Statement rest all last = tt
      found_in (more_of-Statement tokens form row) rest all last =
          let next = statements row ++ rest in
          let both = all_split P (positions_inside form next) (positions_in row rest) all.1 in
          let follows = begins row rest both.1 last in
          let inside = outward_found (after_inside m form) (statements row) rest (found_inside form next both.0 follows) in
          let outer = outward (after_inside m form) (statements row) in
          here_or_found (is_mark m form) (statements row) (first_of_two outer (after_in m row)) rest follows
          (first_found outer (after_in m row) rest inside (found_in row rest both.1 last))

      found_in_arms : {n : _} (row : Row_of-Arm n) (rest : List Statement) →
          Everywhere (positions_in_arms row rest) → P rest → IsFound (after_in_arms m row) rest
      found_in_arms end_of-Arm rest all last = tt
      found_in_arms (more_of-Arm (Arm' case _ body) row) rest all last =
          let both = all_split P (positions_in body rest) (positions_in_arms row rest) all in
          first_found (after_in m body) (after_in_arms m row) rest (found_in body rest both.0 last) (found_in_arms row rest both.1 last)

  or_end : (found : Option (List Statement)) → IsFound found [] → P [] → P (elim found [ Some rest ↦ rest | None ↦ [] ])
  or_end (Some rest) h last = rw (← append-nil rest) h
  or_end None h last = last

  pub holds_after : (q : Proc) (m : Mark) → Everywhere (positions q) → P [] → P (follow q m)
  holds_after q m all last = or_end (after_inside m (Span q.body)) (found_inside m (Span q.body) [] all last) last

-- ---- at where a way leads

module _ (q : Proc) (P : List Statement → Type 0) (marks : (m : Mark) → P (follow q m)) where
  abbrev pub AllLead : List Way → Type 0
  AllLead ws = AllByRecursion (λ w. P w.to) ws

  -- every way from a position leads to such a one
  abbrev pub Leads : List Statement → Type 0
  Leads [] = ⊤
  Leads (s ∷ rest) = AllLead (ways q s.form rest)

  continuations_lead : (ks : List ℕ) → AllLead (map (to_continuation q) ks)
  continuations_lead [] = tt
  continuations_lead (k ∷ ks) = (marks (AtContinuation k), continuations_lead ks)

  module _ (rest : List Statement) (last : P rest) where
    normal_leads : (site : Site) (never : Bool) → AllLead (elim never [ true ↦ [] | false ↦ to_next site rest ∷ [] ])
    normal_leads site true = tt
    normal_leads site false = (last, tt)

    exits_lead : (site : Site) → AllLead (exits q site rest)
    exits_lead site =
        let others = site.returns ++ site.unwinds ++ site.cuts in
        all_joined (λ w. P w.to) (elim site.never [ true ↦ [] | false ↦ to_next site rest ∷ [] ]) (map (to_continuation q) others)
        (normal_leads site site.never, continuations_lead others)

    pub exits_at_lead : (n : ℕ) → AllLead (exits_at q n rest)
    exits_at_lead n = by (slice_get q.sites n)
      where
        by : (found : Option Site) → AllLead (elim found [ Some site ↦ exits q site rest | None ↦ [] ])
        by (Some site) = exits_lead site
        by None = tt

    checked_ways_lead : (n : ℕ) → AllLead (checked_ways q n rest)
    checked_ways_lead n = by (slice_get q.sites n)
      where
        by : (found : Option Site) → AllLead (elim found [ Some site ↦ to_next site rest ∷ exits q site rest | None ↦ [] ])
        by (Some site) = (last, exits_lead site)
        by None = tt

    branches_lead : {n : _} (row : Row_of-Arm n) → Everywhere P (positions_in_arms row rest) → AllLead (into_branches (branches row) rest)
    branches_lead end_of-Arm all = tt
    branches_lead (more_of-Arm (Arm' case _ body) row) all =
        let both = all_split P (positions_in body rest) (positions_in_arms row rest) all in
        (begins P body rest both.0 last, branches_lead row both.1)

    ways_lead : (form : Form) → Everywhere P (positions_inside form rest) → AllLead (ways q form rest)
    ways_lead (If' condition _ then_ _ otherwise) all =
        let both = all_split P (positions_in then_ rest) (positions_in otherwise rest) all in
        (begins P then_ rest both.0 last, (begins P otherwise rest both.1 last, tt))
    ways_lead (Switch' value _ arms) all = branches_lead arms all
    ways_lead (Span' _ body) all = (begins P body rest all last, tt)
    ways_lead (Call site callee actuals) all = exits_at_lead site
    ways_lead (Yield site values) all = exits_at_lead site
    ways_lead (Checked site op width left right) all = checked_ways_lead site
    ways_lead (Goto n) all = (marks (AtLabel n), tt)
    ways_lead (Cut to values own) all = continuations_lead own
    ways_lead Empty all = (last, tt)
    ways_lead (Assign to values) all = (last, tt)
    ways_lead (PutByte value) all = (last, tt)
    ways_lead (GetByte target) all = (last, tt)
    ways_lead (Label n) all = (last, tt)
    ways_lead _ all = tt

  mutual
    pub lead_inside : (form : Form) (rest : List Statement) → Everywhere P (positions_inside form rest) → P rest → AllByRecursion Leads (positions_inside form rest)
    lead_inside (If' condition _ then_ _ otherwise) rest all last =
        let both = all_split P (positions_in then_ rest) (positions_in otherwise rest) all in
        all_joined Leads (positions_in then_ rest) (positions_in otherwise rest) (lead_in then_ rest both.0 last, lead_in otherwise rest both.1 last)
    lead_inside (Switch' value _ arms) rest all last = lead_in_arms arms rest all last
    lead_inside (Span' _ body) rest all last = lead_in body rest all last
    lead_inside _ rest all last = tt

    lead_in : {n : _} (row : Row_of-Statement n) (rest : List Statement) → Everywhere P (positions_in row rest) → P rest → AllByRecursion Leads (positions_in row rest)
    lead_in end_of-Statement rest all last = tt
    lead_in (more_of-Statement tokens form row) rest all last =
        let next = statements row ++ rest in
        let both = all_split P (positions_inside form next) (positions_in row rest) all.1 in
        let follows = begins P row rest both.1 last in (
          ways_lead next follows form both.0,
          all_joined Leads (positions_inside form next) (positions_in row rest) (lead_inside form next both.0 follows, lead_in row rest both.1 last),
        )

    lead_in_arms : {n : _} (row : Row_of-Arm n) (rest : List Statement) → Everywhere P (positions_in_arms row rest) → P rest → AllByRecursion Leads (positions_in_arms row rest)
    lead_in_arms end_of-Arm rest all last = tt
    lead_in_arms (more_of-Arm (Arm' case _ body) row) rest all last =
        let both = all_split P (positions_in body rest) (positions_in_arms row rest) all in
        all_joined Leads (positions_in body rest) (positions_in_arms row rest) (lead_in body rest both.0 last, lead_in_arms row rest both.1 last)
