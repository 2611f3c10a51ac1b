-- The statements that an activation has still to do pass a test, where those of its procedure do: so do those to which a path goes.
use Rattle.std.specs.List.{list_all}
use Rattle.std.proofs.lemmas.Bool.{and_parts}
use Rattle.std.proofs.lemmas.Bool.Decides.{nat_tests}
use Rattle.std.proofs.lemmas.List.Folds.{list_all-append}
use Rattle.std.proofs.Common.{◌⊎◌, inl, inr, ℕ, Bool, true, false, Option, Some, None, List, [], ◌∷◌, ◌++◌, map, IsTrue, IfSome, slice_get, subst, arith}
use Rattle.cmm_program.specs.declared.procedure.Proc.{Proc}
use Rattle.cmm_program.specs.declared.procedure.Site.{Site}
use Rattle.cmm_program.specs.declared.statement.Form.{Form, Row_of-Arm, more_of-Arm}
use Rattle.cmm_program.specs.declared.statement.Form.TheVariants.{Empty, If', Switch', Span', Span, Assign, Call, Yield, Checked, PutByte, GetByte, Jump, Return, Label, Goto, Continuation, Cut}
use Rattle.cmm_program.specs.declared.statement.Statement.{Statement}
use Rattle.cmm_program.specs.declared.statement.Arm.{Arm', Row_of-Statement, more_of-Statement}
use Rattle.cmm_program.specs.Bodies.{Branch, Mark, AtContinuation, AtLabel, after_in, after_in_arms, after_inside, branches, follow, statements, within, within_arms, within_block}
use Rattle.cmm_program.specs.Liveness.{Way, checked_ways, exits, exits_at, into_branches, plain, to_continuation, to_next, ways}
use Rattle.cmm_flow.proofs.LivenessMembers.{Among, among_parts, among_unmap}

module _ (good : Statement → Bool) where
  abbrev Pass : List Statement → Type 0
  Pass ss = IsTrue (list_all good ss)

  -- statements pass, and so do those inside them
  abbrev pub AllPass : List Statement → Type 0
  AllPass [] = Unit {0}
  AllPass (s ∷ rest) = IsTrue (good s) × Pass (within s.form) × AllPass rest

  apart : (xs ys : List Statement) → Pass (xs ++ ys) → Pass xs × Pass ys
  apart xs ys all = and_parts _ _ (subst IsTrue (list_all-append good xs ys) all)

  before : (front rest : List Statement) → AllPass front → AllPass rest → AllPass (front ++ rest)
  before [] rest first later = later
  before (s ∷ front) rest first later = (first.0, first.1, before front rest first.2 later)

  first_or : (bs : List Branch) (c : Branch) → AllPass c.body → ((b : Branch) → Among bs b → AllPass b.body) → (b : Branch) → Among (c ∷ bs) b → AllPass b.body
  first_or bs c here later b (inl is) = subst (λ (b : Branch). AllPass b.body) is here
  first_or bs c here later b (inr among) = later b among

  mutual
    -- what follows a mark inside a statement
    form_of : (form : Form) → Pass (within form) → (m : Mark) → IfSome (after_inside m form) AllPass
    form_of (If' condition _ then_ _ otherwise) is m =
        let both = apart (within_block then_) (within_block otherwise) is in grind (arith, row_of then_ both.0, row_of otherwise both.1)
    form_of (Switch' value _ arms) is m = grind (arith, nat_tests, arms_of arms)
    form_of (Span' _ body) is m = grind (arith, nat_tests, row_of body)
    form_of _ is m = tt

    -- the statements of a block, and what follows a mark in it
    row_of : {n : _} (row : Row_of-Statement n) → Pass (within_block row) → AllPass (statements row) × ((m : _) → IfSome (after_in m row) AllPass)
    row_of (more_of-Statement tokens form rest) is =
        let s : Statement = record { tokens = tokens; form = form } in
        let both = and_parts (good s) _ is in
        let inner = apart (within form) (within_block rest) both.1 in
        let later = row_of rest inner.1 in (
          (both.0, inner.0, later.0),
          λ m. grind (arith, later, form_of form inner.0 m, λ (front : List Statement). before front (statements rest)),
        )
    row_of row is = (tt, λ m. tt)

    -- the body of each arm, and what follows a mark in the arms
    arms_of : {n : _} (row : Row_of-Arm n) → Pass (within_arms row) →
        ((b : Branch) → Among (branches row) b → AllPass b.body) × ((m : _) → IfSome (after_in_arms m row) AllPass)
    arms_of (more_of-Arm (Arm' case _ body) rest) is =
        let both = apart (within_block body) (within_arms rest) is in
        let here = row_of body both.0 in
        let later = arms_of rest both.1 in
        (λ b among. first_or (branches rest) (record { case = case; body = statements body }) here.0 later.0 b among, λ m. grind (arith, here, later))
    arms_of row is = (λ b among. absurd among, λ m. tt)

  module _ (q : Proc) (body : Pass (within (Span q.body))) where
    pub follow_pass : (m : Mark) → AllPass (follow q m)
    follow_pass m = grind (arith, form_of (Span q.body) body m)

    -- ---- where the ways lead

    abbrev Lead : List Way → Type 0
    Lead ws = (way : Way) → Among ws way → AllPass way.to

    continuations_lead : (ks : List ℕ) → Lead (map (to_continuation q) ks)
    continuations_lead ks way among =
        let found = among_unmap (to_continuation q) ks way among in subst (λ (w : Way). AllPass w.to) found.2 (follow_pass (AtContinuation found.0))

    one_leads : (w : Way) → AllPass w.to → Lead (w ∷ [])
    one_leads w pass way (inl is) = subst (λ (w : Way). AllPass w.to) is pass
    one_leads w pass way (inr none) = absurd none

    module _ (rest : List Statement) (behind : AllPass rest) where
      normal_leads : (site : Site) (never : Bool) → Lead (elim never [ true ↦ [] | false ↦ to_next site rest ∷ [] ])
      normal_leads site true way among = absurd among
      normal_leads site false way among = one_leads (to_next site rest) behind way among

      exits_lead : (site : Site) → Lead (exits q site rest)
      exits_lead site way among =
          by (among_parts (elim site.never [ true ↦ [] | false ↦ to_next site rest ∷ [] ]) (map (to_continuation q) (site.returns ++ site.unwinds ++ site.cuts)) way among)
        where
          by : Among (elim site.never as (λ _. List Way) [ true ↦ [] | false ↦ to_next site rest ∷ [] ]) way
              ⊎ Among (map (to_continuation q) (site.returns ++ site.unwinds ++ site.cuts)) way → AllPass way.to
          by (inl is) = normal_leads site site.never way is
          by (inr is) = continuations_lead (site.returns ++ site.unwinds ++ site.cuts) way is

      pub exits_at_lead : (n : ℕ) → Lead (exits_at q n rest)
      exits_at_lead n = by (slice_get q.sites n)
        where
          by : (found : Option Site) → Lead (elim found [ Some site ↦ exits q site rest | None ↦ [] ])
          by (Some site) way among = exits_lead site way among
          by None way among = absurd among

      checked_lead : (n : ℕ) → Lead (checked_ways q n rest)
      checked_lead n = by (slice_get q.sites n)
        where
          by : (found : Option Site) → Lead (elim found [ Some site ↦ to_next site rest ∷ exits q site rest | None ↦ [] ])
          by (Some site) way (inl is) = subst (λ (w : Way). AllPass w.to) is behind
          by (Some site) way (inr later) = exits_lead site way later
          by None way among = absurd among

      branches_lead : (bs : List Branch) → ((b : Branch) → Among bs b → AllPass b.body) → Lead (into_branches bs rest)
      branches_lead bs pass way among =
          let found = among_unmap (λ (b : Branch). plain (b.body ++ rest)) bs way among in
          subst (λ (w : Way). AllPass w.to) found.2 (before found.0.body rest (pass found.0 found.1) behind)

      if_leads : (then_ otherwise : List Statement) → AllPass then_ → AllPass otherwise → Lead (plain (then_ ++ rest) ∷ plain (otherwise ++ rest) ∷ [])
      if_leads then_ otherwise first second way (inl is) = subst (λ (w : Way). AllPass w.to) is (before then_ rest first behind)
      if_leads then_ otherwise first second way (inr later) = one_leads (plain (otherwise ++ rest)) (before otherwise rest second behind) way later

      -- a way from a statement leads to such statements
      pub ways_lead : (form : Form) → Pass (within form) → Lead (ways q form rest)
      ways_lead (If' condition _ then_ _ otherwise) is =
          let both = apart (within_block then_) (within_block otherwise) is in
          if_leads (statements then_) (statements otherwise) (row_of then_ both.0).0 (row_of otherwise both.1).0
      ways_lead (Switch' value _ arms) is = branches_lead (branches arms) (arms_of arms is).0
      ways_lead (Span' _ block) is = one_leads (plain (statements block ++ rest)) (before (statements block) rest (row_of block is).0 behind)
      ways_lead (Call site callee actuals) is = exits_at_lead site
      ways_lead (Yield site values) is = exits_at_lead site
      ways_lead (Checked site op width left right) is = checked_lead site
      ways_lead (Goto n) is = one_leads (plain (follow q (AtLabel n))) (follow_pass (AtLabel n))
      ways_lead (Cut to values own) is = continuations_lead own
      ways_lead Empty is = one_leads _ behind
      ways_lead (Assign to values) is = one_leads _ behind
      ways_lead (PutByte value) is = one_leads _ behind
      ways_lead (GetByte target) is = one_leads _ behind
      ways_lead (Label n) is = one_leads _ behind
      ways_lead (Jump callee actuals) is = λ way among. absurd among
      ways_lead (Return exit alternates values) is = λ way among. absurd among
      ways_lead (Continuation n) is = λ way among. absurd among
