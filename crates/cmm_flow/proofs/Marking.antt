-- What is laid with marks: one piece behind another.
use Rattle.std.specs.Prelude.{◌==◌}
use Rattle.std.proofs.Common.{◌≡◌, ◌≢◌, ℕ, ◌<◌, ◌≤◌, Bool, true, false, List, [], ◌++◌, append-nil, length, get_or, get_or-set_other, slice_set, Some, slice_get, refl, sym, ap, ◌∙◌, subst, arith}
use Rattle.std.proofs.lemmas.Bool.Decides.{nat_tests}
use Rattle.std.proofs.lemmas.Grind.{get_or-set_at}
use Rattle.std.proofs.lemmas.List.{length-set}
use Rattle.std.proofs.lemmas.Option.{slice_get_within, slice_get-get_or}
use Rattle.cmm_program.specs.declared.statement.Form.TheVariants.{Continuation, Label}
use Rattle.cmm_program.specs.Bodies.{Mark, AtContinuation, AtLabel}
use Rattle.cmm_graph.specs.declared.node.Node.{Node}
use Rattle.cmm_graph.specs.declared.number.NodeId.{NodeId}
use Rattle.cmm_flow.specs.declared.builder.Builder.{Builder}
use Rattle.cmm_flow.specs.inside.Laying.{Extends, IsReady, LaysAt, LaysMarked, SetsMark}
use Rattle.cmm_flow.proofs.Laying.{Stays, extends_more, get_before, on_later}

-- where marks lead
abbrev Leads : Type 1
Leads = List Node → Mark → NodeId → NodeId → Type 0

-- as many marks lead somewhere
led : (xs ys : List NodeId) (n : ℕ) (x : NodeId) → length ys ≡ length xs → slice_get xs n ≡ Some x → slice_get ys n ≡ Some (get_or ys n x)
led xs ys n x same is = let within : n < length xs = slice_get_within xs n x is in slice_get-get_or ys n x (omega arith)

pub ready_later : {a b : Builder} {P : List Node → Type 0} {M : Leads} {count : ℕ} → LaysMarked a b P M → IsReady count a → IsReady count b
ready_later {a = a} l r = record {
  labels = l.labels ∙ r.labels;
  stop = ap (λ nodes. slice_get nodes 0) l.extends.nodes ∙ get_before a.nodes l.extends.more 0 _ r.stop;
}

-- nodes that leave all marks where they led
pub lays_marked : {sites : List ℕ} {laid : List Node} {ahead normal : List NodeId} {a b : Builder} {P : List Node → Type 0} (M : Leads) →
    LaysAt sites laid ahead normal a b P →
    ((nodes : List Node) (l : ℕ) (n : NodeId) → M nodes (AtLabel l) n n) → ((nodes : List Node) (k : ℕ) (n : NodeId) → M nodes (AtContinuation k) n n) →
    LaysMarked a b P M
lays_marked {a = a} {b = b} M l labels continuations = record {
  extends = l.extends;
  labels = ap length l.labels;
  continuations = ap length l.continuations;
  code = l.code;
  marks = λ front many. record {
    labels = λ n before after is now. moved (M (front ++ b.nodes) (AtLabel n)) a.labels b.labels n before after l.labels is now (labels (front ++ b.nodes) n);
    continuations = λ n before after is now.
        moved (M (front ++ b.nodes) (AtContinuation n)) a.continuations b.continuations n before after l.continuations is now (continuations (front ++ b.nodes) n);
  };
}
  where
    moved : (N : NodeId → NodeId → Type 0) (xs ys : List NodeId) (n : ℕ) (before after : NodeId) → ys ≡ xs → slice_get xs n ≡ Some before →
        slice_get ys n ≡ Some after → ((n : NodeId) → N n n) → N before after
    moved N xs ys n before after same is now stays =
        let there : Some before ≡ Some after = sym is ∙ ap (λ zs. slice_get zs n) (sym same) ∙ now in
        let at : before ≡ after = cc in
        subst (N before) at (stays before)

-- one piece and then another
pub then_marked : {a b c : Builder} {P Q : List Node → Type 0} {M N : Leads} (R : List Node → Type 0) (O : Leads) → LaysMarked a b P M → LaysMarked b c Q N →
    Stays P → ((mark : Mark) (before after : NodeId) → Stays (λ nodes. M nodes mark before after)) → ((nodes : List Node) → P nodes → Q nodes → R nodes) →
    ((nodes : List Node) (mark : Mark) (before between after : NodeId) → P nodes → Q nodes → M nodes mark before between → N nodes mark between after →
    O nodes mark before after) →
    LaysMarked a c R O
then_marked {a = a} {b = b} {c = c} {P = P} {M = M} R O first second stays marks_stay joined both = record {
  extends = extends_more first.extends second.extends;
  labels = second.labels ∙ first.labels;
  continuations = second.continuations ∙ first.continuations;
  code = λ front many. joined (front ++ c.nodes) (on_later b c P stays second.extends first.code front many) (second.code front many);
  marks = λ front many. record {
    labels = λ n before after is now.
        let between = get_or b.labels n before in
        let there = led a.labels b.labels n before first.labels is in
        both (front ++ c.nodes) (AtLabel n) before between after (on_later b c P stays second.extends first.code front many) (second.code front many)
        (on_later b c (λ nodes. M nodes (AtLabel n) before between) (marks_stay (AtLabel n) before between) second.extends
        (λ front many. (first.marks front many).labels n before between is there) front many)
        ((second.marks front many).labels n between after there now);
    continuations = λ n before after is now.
        let between = get_or b.continuations n before in
        let there = led a.continuations b.continuations n before first.continuations is in
        both (front ++ c.nodes) (AtContinuation n) before between after (on_later b c P stays second.extends first.code front many) (second.code front many)
        (on_later b c (λ nodes. M nodes (AtContinuation n) before between) (marks_stay (AtContinuation n) before between) second.extends
        (λ front many. (first.marks front many).continuations n before between is there) front many)
        ((second.marks front many).continuations n between after there now);
  };
}

pub marked_other : {a b : Builder} {P : List Node → Type 0} {M : Leads} (R : List Node → Type 0) (O : Leads) → LaysMarked a b P M →
    ((nodes : List Node) → P nodes → R nodes) →
    ((nodes : List Node) (mark : Mark) (before after : NodeId) → M nodes mark before after → O nodes mark before after) → LaysMarked a b R O
marked_other {b = b} R O l joined both = record {
  extends = l.extends;
  labels = l.labels;
  continuations = l.continuations;
  code = λ front many. joined (front ++ b.nodes) (l.code front many);
  marks = λ front many. record {
    labels = λ n before after is now. both (front ++ b.nodes) (AtLabel n) before after ((l.marks front many).labels n before after is now);
    continuations = λ n before after is now.
        both (front ++ b.nodes) (AtContinuation n) before after ((l.marks front many).continuations n before after is now);
  };
}

-- ---- a mark is set

moved_set : (xs : List NodeId) (l m : ℕ) (to before after : NodeId) → l < length xs → slice_get xs m ≡ Some before → slice_get (slice_set xs l to) m ≡ Some after →
    elim (m == l) as (λ _. Type 0) [ true ↦ after ≡ to | false ↦ after ≡ before ]
moved_set xs l m to before after less is now = by (m == l) refl
  where
    within : m < length xs
    within = slice_get_within xs m before is

    at : (d : NodeId) → slice_get (slice_set xs l to) m ≡ Some (get_or (slice_set xs l to) m d)
    at d = slice_get-get_or (slice_set xs l to) m d (omega (arith, length-set xs l to, within))

    by : (b : Bool) → m == l ≡ b → elim b as (λ _. Type 0) [ true ↦ after ≡ to | false ↦ after ≡ before ]
    by true same =
        let equal : m ≡ l = grind (arith, nat_tests, same) in
        let there = at to ∙ ap Some (get_or-set_at xs l m to to equal less) in
        cc
    by false other =
        let differs : m ≢ l = grind (arith, nat_tests, other) in
        let there = at before ∙ ap Some (get_or-set_other xs l m to before differs) ∙ sym (slice_get-get_or xs m before within) ∙ is in
        cc

left : (xs : List NodeId) (l m : ℕ) (to before after : NodeId) → length xs ≤ l → slice_get xs m ≡ Some before → slice_get xs m ≡ Some after →
    elim (m == l) as (λ _. Type 0) [ true ↦ after ≡ to | false ↦ after ≡ before ]
left xs l m to before after past is now = by (m == l) refl
  where
    within : m < length xs
    within = slice_get_within xs m before is

    by : (b : Bool) → m == l ≡ b → elim b as (λ _. Type 0) [ true ↦ after ≡ to | false ↦ after ≡ before ]
    by true same = let equal : m ≡ l = grind (arith, nat_tests, same) in absurd (omega (arith, equal, within, past))
    by false other = cc

one_node : (xs : List NodeId) (m : ℕ) (before after : NodeId) → slice_get xs m ≡ Some before → slice_get xs m ≡ Some after → after ≡ before
one_node xs m before after is now = cc

no_more : (a : Builder) (labels continuations : List NodeId) → Extends a (record a { labels = labels; continuations = continuations })
no_more a labels continuations = record { more = []; nodes = sym (append-nil a.nodes); stop = refl }

pub label_set : (a : Builder) (ls : List NodeId) (l : ℕ) (to : NodeId) → l < length a.labels → ls ≡ slice_set a.labels l to →
    LaysMarked a (record a { labels = ls }) (λ nodes. Unit {0}) (λ nodes. SetsMark (Label l) to)
label_set a ls l to less set = record {
  extends = no_more a ls a.continuations;
  labels = ap length set ∙ length-set a.labels l to;
  continuations = refl;
  code = λ front many. tt;
  marks = λ front many. record {
    labels = λ m before after is now. moved_set a.labels l m to before after less is (ap (λ xs. slice_get xs m) (sym set) ∙ now);
    continuations = λ m before after is now. one_node a.continuations m before after is now;
  };
}

pub label_left : (a : Builder) (l : ℕ) (to : NodeId) → length a.labels ≤ l → LaysMarked a a (λ nodes. Unit {0}) (λ nodes. SetsMark (Label l) to)
label_left a l to past = record {
  extends = no_more a a.labels a.continuations;
  labels = refl;
  continuations = refl;
  code = λ front many. tt;
  marks = λ front many. record {
    labels = λ m before after is now. left a.labels l m to before after past is now;
    continuations = λ m before after is now. one_node a.continuations m before after is now;
  };
}

pub continuation_set : (a : Builder) (ks : List NodeId) (k : ℕ) (to : NodeId) → k < length a.continuations → ks ≡ slice_set a.continuations k to →
    LaysMarked a (record a { continuations = ks }) (λ nodes. Unit {0}) (λ nodes. SetsMark (Continuation k) to)
continuation_set a ks k to less set = record {
  extends = no_more a a.labels ks;
  labels = refl;
  continuations = ap length set ∙ length-set a.continuations k to;
  code = λ front many. tt;
  marks = λ front many. record {
    labels = λ m before after is now. one_node a.labels m before after is now;
    continuations = λ m before after is now. moved_set a.continuations k m to before after less is (ap (λ xs. slice_get xs m) (sym set) ∙ now);
  };
}

pub continuation_left : (a : Builder) (k : ℕ) (to : NodeId) → length a.continuations ≤ k →
    LaysMarked a a (λ nodes. Unit {0}) (λ nodes. SetsMark (Continuation k) to)
continuation_left a k to past = record {
  extends = no_more a a.labels a.continuations;
  labels = refl;
  continuations = refl;
  code = λ front many. tt;
  marks = λ front many. record {
    labels = λ m before after is now. one_node a.labels m before after is now;
    continuations = λ m before after is now. left a.continuations k m to before after past is now;
  };
}
