-- Each call site of a procedure has a node that waits there, and whose normal exit leads behind the site's statement.
use Rattle.std.proofs.Math.Bool.{or-false}
use Rattle.std.proofs.Common.{◌≡◌, ◌⊎◌, inl, inr, ap₂, ℕ, zero, suc, ◌+◌, ◌<◌, ◌≤◌, ◌||◌, ◌==◌, Bool, true, false, cond, IsTrue, is_some, filter, flat_map, Option, Some, None, List, [], ◌∷◌, ◌++◌, append-nil, append_assoc, length, slice_get, refl, ap, sym, ◌∙◌, subst, arith}
use Rattle.std.proofs.lemmas.Bool.{and_parts, cases_eq, eq-eqb, eqb-true}
use Rattle.std.proofs.lemmas.List.Concat.{flat_map-append}
use Rattle.std.proofs.lemmas.List.Folds.{list_all-append}
use Rattle.std.specs.List.{list_all, range_with_len}
use Rattle.cmm_program.specs.declared.procedure.Proc.{Proc}
use Rattle.cmm_program.specs.declared.program.Program.{Program}
use Rattle.cmm_program.specs.declared.statement.Form.{Form, Row_of-Arm, end_of-Arm, more_of-Arm}
use Rattle.cmm_program.specs.declared.statement.Form.TheBlock.{hidden-the_row-Statement-0}
use Rattle.cmm_program.specs.declared.statement.Form.TheVariants.{If', Switch', Span', Span, Call, Yield, Checked}
use Rattle.cmm_program.specs.declared.statement.Statement.{Statement}
use Rattle.cmm_program.specs.declared.statement.Arm.{Arm', Row_of-Statement, end_of-Statement, more_of-Statement}
use Rattle.cmm_program.specs.declared.statement.Case.TheVariants.{In, Default}
use Rattle.cmm_program.specs.Bodies.{AtSite, after_in, after_in_arms, after_inside, branches, first_of_two, follow, is_mark, outward, statements, within, within_arms, within_block}
use Rattle.cmm_program.specs.InRange.{IsProcInRange, defaults, is_form, is_statement}
use Rattle.cmm_program.specs.Liveness.{is_among}
use Rattle.cmm_program.specs.Numbering.{body_numbers, site_number}
use Rattle.cmm_program.specs.Typing.{typed}
use Rattle.cmm_graph.specs.declared.graph.Graph.{Graph}
use Rattle.cmm_graph.specs.declared.node.Arm.{Arm}
use Rattle.cmm_graph.specs.declared.node.Exits.{Exits}
use Rattle.cmm_graph.specs.declared.node.NodeKind.{NodeKind}
use Rattle.cmm_graph.specs.declared.node.NodeKind.TheVariants as kind
use Rattle.cmm_graph.specs.declared.number.NodeId.{NodeId}
use Rattle.cmm_graph.specs.declared.number.SiteId.{SiteId}
use Rattle.cmm_graph.specs.declared.operand.Argument.{Argument}
use Rattle.cmm_graph.specs.declared.operand.Operand.{Operand}
use Rattle.cmm_graph.specs.Counterpart.{AreExitsOf, HasSite}
use Rattle.cmm_graph.specs.Paths.{exit_nodes, landings, successors}
use Rattle.cmm_live.specs.Sites.{cut_nodes, site_of}
use Rattle.cmm_flow.specs.Code.{IsNode}
use Rattle.cmm_flow.specs.Statements.{ArmsCode, DefaultCode, FormCode, ListCode, ExitsCode, RowCode, ZeroCode, operator_nodes}
use Rattle.cmm_flow.proofs.Counting.{row_statements}
use Rattle.cmm_flow.proofs.LivenessArms.{few_defaults}
use Rattle.cmm_flow.proofs.LivenessMembers.{is_among-append}
use Rattle.cmm_flow.proofs.Rows.{row_leads}

-- ---- a body has a site where its number stands among those of its statements

first-is_some : {X : Type 0} (a b : Option X) → is_some (first_of_two a b) ≡ (is_some a || is_some b)
first-is_some (Some x) b = refl
first-is_some None b = refl

outward-is_some : (a : Option (List Statement)) (rest : List Statement) → is_some (outward a rest) ≡ is_some a
outward-is_some (Some inner) rest = refl
outward-is_some None rest = refl

chosen-is_some : {X : Type 0} (b : Bool) (x : X) (o : Option X) → is_some (elim b as (λ _. Option X) [ true ↦ Some x | false ↦ o ]) ≡ (b || is_some o)
chosen-is_some true x o = refl
chosen-is_some false x o = refl

abbrev numbers : List Statement → List ℕ
numbers ss = flat_map (λ (s : Statement). site_number s.form) ss

two_numbers : (site : ℕ) (xs ys : List Statement) → (is_among site (numbers xs) || is_among site (numbers ys)) ≡ is_among site (numbers (xs ++ ys))
two_numbers site xs ys =
    sym (is_among-append site (numbers xs) (numbers ys)) ∙ ap (is_among site) (sym (flat_map-append (λ (s : Statement). site_number s.form) xs ys))

is_its_mark : (site : ℕ) (form : Form) → is_mark (AtSite site) form ≡ is_among site (site_number form)
is_its_mark site (Call n callee actuals) = sym (or-false (site == n))
is_its_mark site (Yield n values) = sym (or-false (site == n))
is_its_mark site (Checked n op width left right) = sym (or-false (site == n))
is_its_mark site form = refl

module _ (site : ℕ) where
  mutual
    found_inside : (form : Form) → is_some (after_inside (AtSite site) form) ≡ is_among site (numbers (within form))
    found_inside (If' condition _ then_ _ otherwise) =
        first-is_some (after_in (AtSite site) then_) (after_in (AtSite site) otherwise)
        ∙ ap₂ (λ b c. b || c) (found_in then_) (found_in otherwise) ∙ two_numbers site (within_block then_) (within_block otherwise)
    found_inside (Switch' value _ arms) = found_in_arms arms
    found_inside (Span' _ body) = found_in body
    found_inside form = refl

    found_in : {i : _} (row : Row_of-Statement i) → is_some (after_in (AtSite site) row) ≡ is_among site (numbers (within_block row))
    found_in end_of-Statement = refl
    found_in (more_of-Statement tokens form rest) =
        let inner = outward (after_inside (AtSite site) form) (statements rest) in
        chosen-is_some (is_mark (AtSite site) form) (statements rest) (first_of_two inner (after_in (AtSite site) rest))
        ∙ ap₂ (λ b c. b || c) (is_its_mark site form) (
        first-is_some inner (after_in (AtSite site) rest)
        ∙ ap₂ (λ b c. b || c) (outward-is_some (after_inside (AtSite site) form) (statements rest) ∙ found_inside form) (found_in rest)
        ∙ two_numbers site (within form) (within_block rest)
        )
        ∙ sym (is_among-append site (site_number form) (numbers (within form ++ within_block rest)))

    found_in_arms : {i : _} (row : Row_of-Arm i) → is_some (after_in_arms (AtSite site) row) ≡ is_among site (numbers (within_arms row))
    found_in_arms end_of-Arm = refl
    found_in_arms (more_of-Arm (Arm' case _ body) rest) =
        first-is_some (after_in (AtSite site) body) (after_in_arms (AtSite site) rest)
        ∙ ap₂ (λ b c. b || c) (found_in body) (found_in_arms rest) ∙ two_numbers site (within_block body) (within_arms rest)

-- numbers that stand once each are there
pub each_tested : (test : ℕ → Bool) (from count n : ℕ) → list_all test (range_with_len from count) ≡ true → from ≤ n → n < from + count → test n ≡ true
each_tested test from zero n all low high = absurd (omega (arith, low, high))
each_tested test from (suc count) n all low high =
    let both = and_parts (test from) (list_all test (range_with_len (from + 1) count)) all in
    by both.0 (λ low. each_tested test (from + 1) count n both.1 low (omega (arith, high))) (cases_eq from n)
  where
    by : test from ≡ true → (from + 1 ≤ n → test n ≡ true) → (from ≡ n) ⊎ (from ≡ n → ⊥) → test n ≡ true
    by here later (inl same) = subst (λ n. test n ≡ true) same here
    by here later (inr other) = later (omega (arith, low, other))

pub counted_among : (site : ℕ) (ns : List ℕ) → 1 ≤ length (filter (λ m. m == site) ns) → is_among site ns ≡ true
counted_among site [] some = absurd (omega (arith, some))
counted_among site (n ∷ ns) some = by (counted_among site ns) (n == site) refl some
  where
    by : (1 ≤ length (filter (λ m. m == site) ns) → is_among site ns ≡ true) → (b : Bool) → (n == site) ≡ b →
        1 ≤ length (cond b (n ∷ filter (λ m. m == site) ns) (filter (λ m. m == site) ns)) → ((site == n) || is_among site ns) ≡ true
    by later true is some = let same = eqb-true n site is in rw (eq-eqb site n (sym same)) refl
    by later false is some = rw (later some) (or_true (site == n))
      where
        or_true : (b : Bool) → (b || true) ≡ true
        or_true true = refl
        or_true false = refl

-- so the body of a procedure in range has each of its sites
site_marked : (p : Program) (q : Proc) (site : ℕ) → IsProcInRange p q → site < length q.sites → is_some (after_inside (AtSite site) (Span q.body)) ≡ true
site_marked p q site range less =
    let ns = body_numbers site_number q in
    let all = and_parts (length ns == length q.sites) (list_all (λ n. length (filter (λ m. m == n) ns) == 1) (range_with_len 0 (length q.sites))) range.sites_numbered in
    let once = each_tested (λ n. length (filter (λ m. m == n) ns) == 1) 0 (length q.sites) site all.1 (omega arith) (omega (arith, less)) in
    let some : 1 ≤ length (filter (λ m. m == site) ns) = omega (arith, eqb-true (length (filter (λ m. m == site) ns)) 1 once) in
    found_inside site (Span q.body) ∙ counted_among site ns some

-- ---- the node of a site

-- a kind of node that waits at a site, with its exits
pub data IsWaiting : NodeKind → SiteId → Exits → Type 0 where
  ByCall : (site : SiteId) (callee : Operand) (arguments : List Argument) (ends : Exits) → IsWaiting (kind.Call site callee arguments ends) site ends
  ByYield : (site : SiteId) (values : List Operand) (ends : Exits) → IsWaiting (kind.Yield site values ends) site ends

pub waiting_site : (kind : NodeKind) (site : SiteId) (ends : Exits) → IsWaiting kind site ends → site_of kind ≡ Some site
waiting_site _ _ _ (ByCall site callee arguments ends) = refl
waiting_site _ _ _ (ByYield site values ends) = refl

pub waiting_leads : (g : Graph) (kind : NodeKind) (site : SiteId) (ends : Exits) → IsWaiting kind site ends → successors g kind ≡ exit_nodes g ends
waiting_leads g _ _ _ (ByCall site callee arguments ends) = refl
waiting_leads g _ _ _ (ByYield site values ends) = refl

pub waiting_cuts : (g : Graph) (kind : NodeKind) (site : SiteId) (ends : Exits) → IsWaiting kind site ends → cut_nodes g kind ≡ landings g ends.cuts
waiting_cuts g _ _ _ (ByCall site callee arguments ends) = refl
waiting_cuts g _ _ _ (ByYield site values ends) = refl

pub waiting_has : (q : Proc) (g : Graph) (kind : NodeKind) (site : SiteId) (ends : Exits) → IsWaiting kind site ends → HasSite q g kind → AreExitsOf q g site ends
waiting_has q g _ _ _ (ByCall site callee arguments ends) has = has
waiting_has q g _ _ _ (ByYield site values ends) has = has

one_of_two : {X : Type 0} (a b : Option X) (x : X) → first_of_two a b ≡ Some x → (a ≡ Some x) ⊎ (b ≡ Some x)
one_of_two (Some a) b x is = inl is
one_of_two None b x is = inr is

outward_is : (a : Option (List Statement)) (rest found : List Statement) → outward a rest ≡ Some found → (inner : List Statement) × (a ≡ Some inner) × (inner ++ rest ≡ found)
outward_is (Some inner) rest found is = (inner, refl, cc)
outward_is None rest found is = absurd (cc)

module _ (p : Program) (q : Proc) (g : Graph) (label_node : ℕ → NodeId) (site : ℕ) where
  abbrev Begins : List Statement → NodeId → Type 0
  Begins rest n = ListCode q g.nodes label_node rest n

  -- a node waits at the site, and its normal exit leads to the code of some statements
  pub record Waits (rest : List Statement) : Type 0 where
    pub at : NodeId
    pub tokens : ℕ
    pub kind : NodeKind
    pub node : IsNode g.nodes at tokens kind
    pub ends : Exits
    pub waits : IsWaiting kind (record { number = site }) ends
    pub behind : NodeId
    pub normal : ExitsCode g.nodes (slice_get q.sites site) ends behind
    pub code : Begins rest behind

  abbrev Pass : List Statement → Type 0
  Pass ss = IsTrue (list_all (is_statement p q) ss)

  apart : (xs ys : List Statement) → Pass (xs ++ ys) → Pass xs × Pass ys
  apart xs ys all = and_parts _ _ (subst IsTrue (list_all-append (is_statement p q) xs ys) all)

  -- the statement at the site
  mark_waits : (tokens : ℕ) (form : Form) (n k : NodeId) (rest : List Statement) → FormCode q g.nodes label_node tokens form n k → Begins rest k →
      is_form p q form ≡ true → is_mark (AtSite site) form ≡ true → Waits rest
  mark_waits tokens (Call number callee actuals) n k rest code behind good is =
      let same = eqb-true site number is in
      record {
        at = code.1;
        tokens = _;
        kind = _;
        node = code.5;
        ends = code.2;
        waits = rw same (ByCall _ _ _ code.2);
        behind = k;
        normal = rw same code.6;
        code = behind;
      }
  mark_waits tokens (Yield number values) n k rest code behind good is =
      let same = eqb-true site number is in
      record {
        at = code.0;
        tokens = _;
        kind = _;
        node = code.3;
        ends = code.1;
        waits = rw same (ByYield _ _ code.1);
        behind = k;
        normal = rw same code.4;
        code = behind;
      }
  mark_waits tokens (Checked number op width left right) n k rest code behind good is =
      by (subst (λ b. elim b as (λ _. Type 0) [
        | true ↦ ZeroCode g.nodes q tokens (operator_nodes width left right) number width right code.1 code.2 k
        | false ↦ code.1 ≡ code.2
      ]) (and_parts _ _ (and_parts _ _ (and_parts _ _ good).0).0).1 code.6)
    where
      by : ZeroCode g.nodes q tokens (operator_nodes width left right) number width right code.1 code.2 k → Waits rest
      by test =
          let same = eqb-true site number is in
          record {
            at = test.0;
            tokens = _;
            kind = _;
            node = test.3;
            ends = test.1;
            waits = rw same (ByYield _ _ test.1);
            behind = k;
            normal = rw same test.4;
            code = behind;
          }
  mark_waits tokens form n k rest code behind good is = absurd (cc)

  -- a statement in front of others: it is at the site, or the site is inside it, or among the others
  row_by : (form : Form) {i : _} (more : Row_of-Statement i) (rest inner : List Statement) (b : Bool) → is_mark (AtSite site) form ≡ b →
      elim b as (λ _. Option (List Statement)) [
        | true ↦ Some (statements more)
        | false ↦ first_of_two (outward (after_inside (AtSite site) form) (statements more)) (after_in (AtSite site) more)
      ] ≡ Some inner →
      (is_mark (AtSite site) form ≡ true → Waits (statements more ++ rest)) →
      ((found : List Statement) → after_inside (AtSite site) form ≡ Some found → Waits (found ++ (statements more ++ rest))) →
      (after_in (AtSite site) more ≡ Some inner → Waits (inner ++ rest)) → Waits (inner ++ rest)
  row_by form more rest inner true mark is here inside later = let same : statements more ≡ inner = cc in subst (λ xs. Waits (xs ++ rest)) same (here mark)
  row_by form more rest inner false mark is here inside later =
      by (one_of_two (outward (after_inside (AtSite site) form) (statements more)) (after_in (AtSite site) more) inner is)
    where
      by : (outward (after_inside (AtSite site) form) (statements more) ≡ Some inner) ⊎ (after_in (AtSite site) more ≡ Some inner) → Waits (inner ++ rest)
      by (inl is) =
          let found = outward_is (after_inside (AtSite site) form) (statements more) inner is in
          subst (λ xs. Waits (xs ++ rest)) found.2 (subst Waits (sym (append_assoc found.0 (statements more) rest)) (inside found.0 found.1))
      by (inr is) = later is

  either_waits : (a b : Option (List Statement)) (rest inner : List Statement) → first_of_two a b ≡ Some inner → (a ≡ Some inner → Waits (inner ++ rest)) →
      (b ≡ Some inner → Waits (inner ++ rest)) → Waits (inner ++ rest)
  either_waits a b rest inner is first second = by (one_of_two a b inner is)
    where
      by : (a ≡ Some inner) ⊎ (b ≡ Some inner) → Waits (inner ++ rest)
      by (inl is) = first is
      by (inr is) = second is

  mutual
    form_waits : (form : Form) (tokens : ℕ) (n k : NodeId) (rest inner : List Statement) → FormCode q g.nodes label_node tokens form n k → Begins rest k →
        is_form p q form ≡ true → Pass (within form) → after_inside (AtSite site) form ≡ Some inner → Waits (inner ++ rest)
    form_waits (If' condition _ then_ _ otherwise) tokens n k rest inner code behind own good is =
        let both = apart (within_block then_) (within_block otherwise) good in
        either_waits (after_in (AtSite site) then_) (after_in (AtSite site) otherwise) rest inner is
        (λ is. row_waits then_ code.0 k rest inner code.3 behind both.0 is) (λ is. row_waits otherwise code.1 k rest inner code.4 behind both.1 is)
    form_waits (Switch' value _ arms) tokens n k rest inner code behind own good is =
        arms_wait arms code.1 code.2 k rest inner code.5 (inr code.6) (few_defaults (typed p q value) (branches arms) own) behind good is
    form_waits (Span' _ body) tokens n k rest inner code behind own good is = row_waits body code.0 k rest inner code.2 behind good is
    form_waits form tokens n k rest inner code behind own good is = absurd (cc)

    row_waits : {i : _} (row : Row_of-Statement i) (n k : NodeId) (rest inner : List Statement) → RowCode q g.nodes label_node row n k → Begins rest k →
        Pass (within_block row) → after_in (AtSite site) row ≡ Some inner → Waits (inner ++ rest)
    row_waits end_of-Statement n k rest inner code behind good is = absurd (cc)
    row_waits (more_of-Statement tokens form more) n k rest inner code behind good is =
        let s : Statement = record { tokens = tokens; form = form } in
        let both = and_parts (is_statement p q s) (list_all (is_statement p q) (within form ++ within_block more)) good in
        let inside = apart (within form) (within_block more) both.1 in
        let next = row_leads q g.nodes label_node more code.0 k code.2 rest behind in
        row_by form more rest inner (is_mark (AtSite site) form) refl is
        (λ mark. mark_waits tokens form n code.0 (statements more ++ rest) code.1 next (and_parts _ _ both.0).0 mark)
        (λ found is. form_waits form tokens n code.0 (statements more ++ rest) found code.1 next (and_parts _ _ both.0).0 inside.0 is)
        (λ is. row_waits more code.0 k rest inner code.2 behind inside.1 is)

    -- at most one of the arms is a default, and it is the one whose code is there
    arms_wait : {i : _} (row : Row_of-Arm i) (to : List Arm) (otherwise k : NodeId) (rest inner : List Statement) → ArmsCode q g.nodes label_node row to k →
        (defaults (branches row) ≡ 0) ⊎ DefaultCode q g.nodes label_node row otherwise k → defaults (branches row) ≤ 1 → Begins rest k →
        Pass (within_arms row) → after_in_arms (AtSite site) row ≡ Some inner → Waits (inner ++ rest)
    arms_wait end_of-Arm to otherwise k rest inner code default few behind good is = absurd (cc)
    arms_wait (more_of-Arm (Arm' (In ranges) _ body) more) to otherwise k rest inner code default few behind good is =
        let both = apart (within_block body) (within_arms more) good in
        either_waits (after_in (AtSite site) body) (after_in_arms (AtSite site) more) rest inner is
        (λ is. row_waits body code.0 k rest inner code.3 behind both.0 is) (λ is. arms_wait more code.1 otherwise k rest inner code.4 default few behind both.1 is)
    arms_wait (more_of-Arm (Arm' Default _ body) more) to otherwise k rest inner code (inl none) few behind good is = absurd (omega (arith, none))
    arms_wait (more_of-Arm (Arm' Default _ body) more) to otherwise k rest inner code (inr default) few behind good is =
        let both = apart (within_block body) (within_arms more) good in
        either_waits (after_in (AtSite site) body) (after_in_arms (AtSite site) more) rest inner is
        (λ is. row_waits body otherwise k rest inner default behind both.0 is)
        (λ is. arms_wait more to otherwise k rest inner code (inl (omega (arith, few))) (omega (arith, few)) behind both.1 is)

  -- a list of statements read as a row
  row_of : {i : _} (row : Row_of-Statement i) (n : NodeId) → Begins (statements row) n → (k : NodeId) × RowCode q g.nodes label_node row n k × Begins [] k
  row_of end_of-Statement n code = (n, refl, code)
  row_of (more_of-Statement tokens form more) n code = let found = row_of more code.0 code.2 in (found.0, (code.0, code.1, found.1), found.2)

  -- so each site of the procedure has its node
  pub site_waits : IsProcInRange p q → (n : NodeId) → Begins q.body n → site < length q.sites → Waits (follow q (AtSite site))
  site_waits range n code less = by (after_inside (AtSite site) (Span q.body)) refl (site_marked p q site range less)
    where
      row : (k : NodeId) × RowCode q g.nodes label_node (hidden-the_row-Statement-0 q.body) n k × Begins [] k
      row = row_of (hidden-the_row-Statement-0 q.body) n (subst (λ xs. Begins xs n) (sym (row_statements q.body)) code)

      by : (o : Option (List Statement)) → after_inside (AtSite site) (Span q.body) ≡ o → is_some o ≡ true →
          Waits (elim o as (λ _. List Statement) [ Some rest ↦ rest | None ↦ [] ])
      by (Some inner) is some = subst Waits (append-nil inner) (row_waits (hidden-the_row-Statement-0 q.body) n row.0 [] inner row.1 row.2 range.body is)
      by None is some = absurd (cc)
