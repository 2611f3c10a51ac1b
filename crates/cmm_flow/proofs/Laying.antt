-- Nodes that were laid stay where more are.
use Rattle.std.proofs.Common.{Result, Ok, Err, IfOk, IsTrue, ◌≡◌, ℕ, zero, suc, ◌+◌, ◌<◌, ◌&&◌, ◌==◌, filter, Bool, true, false, List, [], ◌∷◌, ◌++◌, length, Some, slice_get, refl, sym, ap, ◌∙◌, subst, append_assoc, arith}
use Rattle.std.proofs.lemmas.Bool.{and_parts}
use Rattle.std.proofs.lemmas.List.Concat.{flat_map-append}
use Rattle.std.proofs.lemmas.List.Folds.{list_all-append}
use Rattle.std.proofs.lemmas.List.Sums.{sum_by-append}
use Rattle.std.proofs.lemmas.Option.{get_or_from_slice_get, slice_get_within, slice_get-get_or}
use Rattle.std.proofs.lemmas.List.Elements.{filter-append}
use Rattle.std.proofs.lemmas.List.{append-nil, get_or_append_left, length-append}
use Rattle.std.specs.List.{list_all}
use Rattle.cmm_graph.specs.declared.graph.Graph.{Graph}
use Rattle.cmm_graph.specs.declared.node.Node.{Node}
use Rattle.cmm_graph.specs.declared.number.NodeId.{NodeId}
use Rattle.cmm_flow.specs.declared.builder.Builder.{Builder}
use Rattle.cmm_flow.specs.Flow.{all_tokens}
use Rattle.cmm_flow.specs.Waiting.{times, waiting_at, waiting_sites}
use Rattle.cmm_graph.specs.Ranges.{is_copy_in, is_step, leads_to}
use Rattle.cmm_flow.specs.inside.Laying.{AddsSites, AreAsked, AreCopyIns, AreSteps, Extends, Holds, Keeps, LaysAt, LaysNode, OnFronts, StandIn, leads_on, normal_of, passes, steps_of}
use Rattle.cmm_flow.specs.inside.Nodes.{unled}

pub get_before : {A : Type 0} (xs ys : List A) (n : ℕ) (x : A) → slice_get xs n ≡ Some x → slice_get (xs ++ ys) n ≡ Some x
get_before xs ys n x is =
    let within : n < length xs = slice_get_within xs n x is in
    let longer : n < length (xs ++ ys) = omega (arith, within, length-append xs ys) in
    slice_get-get_or (xs ++ ys) n x longer ∙ ap Some (get_or_append_left xs ys x n within ∙ get_or_from_slice_get xs n x x is)

-- the nodes behind others
pub get_behind : {A : Type 0} (front xs : List A) (n i : ℕ) → length front + n ≡ i → slice_get (front ++ xs) i ≡ slice_get xs n
get_behind [] xs n i same = ap (slice_get xs) (omega arith)
get_behind (x ∷ front) xs n zero same = absurd (omega arith)
get_behind (x ∷ front) xs n (suc i) same = get_behind front xs n i (omega arith)

-- what holds of nodes holds where there are more
abbrev pub Stays : (List Node → Type 0) → Type 0
Stays P = (nodes more : List Node) → P nodes → P (nodes ++ more)

pub on_later : (a b : Builder) (P : List Node → Type 0) → Stays P → Extends a b → OnFronts a P → OnFronts b P
on_later a b P stays e laid front many =
    subst (λ nodes. P (front ++ nodes)) (sym e.nodes)
    (subst P (append_assoc front a.nodes e.more) (stays (front ++ a.nodes) e.more (laid front (many ∙ ap (λ n. n.number) e.stop))))

pub extends_more : {a b c : Builder} → Extends a b → Extends b c → Extends a c
extends_more {a = a} e f = record {
  more = e.more ++ f.more;
  nodes = f.nodes ∙ ap (λ nodes. nodes ++ f.more) e.nodes ∙ append_assoc a.nodes e.more f.more;
  stop = f.stop ∙ e.stop;
}

-- ---- sites

pub times-append : (n : ℕ) (xs ys : List ℕ) → times n (xs ++ ys) ≡ times n xs + times n ys
times-append n xs ys = ap length (filter-append (λ m. m == n) xs ys) ∙ length-append (filter (λ m. m == n) xs) (filter (λ m. m == n) ys)

pub waiting_sites-append : (xs ys : List Node) → waiting_sites (xs ++ ys) ≡ waiting_sites xs ++ waiting_sites ys
waiting_sites-append xs ys = flat_map-append (λ (node : Node). waiting_at node.kind) xs ys

-- the sites of one piece and then of another
pub then_adds : (a b c : Builder) (xs ys : List ℕ) → AddsSites xs a b → AddsSites ys b c → AddsSites (xs ++ ys) a c
then_adds a b c xs ys first second site = omega (arith, first site, second site, times-append site xs ys)

-- and the other way round
pub then_adds_before : (a b c : Builder) (xs ys : List ℕ) → AddsSites xs a b → AddsSites ys b c → AddsSites (ys ++ xs) a c
then_adds_before a b c xs ys first second site = omega (arith, first site, second site, times-append site ys xs)

-- no nodes
pub adds_nothing : (a : Builder) (sites : List ℕ) → AddsSites sites a a
adds_nothing a sites site = omega arith

-- ---- tokens

pub tokens-append : (xs ys : List Node) → all_tokens (xs ++ ys) ≡ all_tokens xs + all_tokens ys
tokens-append xs ys = sum_by-append (λ (node : Node). node.tokens) xs ys

-- ---- in a graph

-- nodes stand in a graph where more stand
pub stands_before : {a b : Builder} (g : Graph) → Extends a b → StandIn b g → StandIn a g
stands_before {a = a} g e s = record {
  front = s.front;
  later = e.more ++ s.later;
  many = s.many ∙ ap (λ n. n.number) e.stop;
  nodes =
      s.nodes ∙ ap (λ nodes. (s.front ++ nodes) ++ s.later) e.nodes ∙ ap (λ nodes. nodes ++ s.later) (sym (append_assoc s.front a.nodes e.more))
      ∙ append_assoc (s.front ++ a.nodes) e.more s.later;
}

-- what holds of nodes that were laid holds in it
pub holds_in : (b : Builder) (g : Graph) (P : List Node → Type 0) → Stays P → StandIn b g → OnFronts b P → P g.nodes
holds_in b g P stays s laid = subst P (sym s.nodes) (stays (s.front ++ b.nodes) s.later (laid s.front s.many))

pub and_both : (x y : Bool) → IsTrue x → IsTrue y → IsTrue (x && y)
and_both true y first second = second
and_both false y first second = cc

-- a test of two lists, together and apart
module _ {A : Type 0} (test : A → Bool) where
  pub both_pass : (xs ys : List A) → IsTrue (list_all test xs) → IsTrue (list_all test ys) → IsTrue (list_all test (xs ++ ys))
  both_pass xs ys first second = subst IsTrue (sym (list_all-append test xs ys)) (and_both (list_all test xs) (list_all test ys) first second)

  pub each_pass : (xs ys : List A) → IsTrue (list_all test (xs ++ ys)) → IsTrue (list_all test xs) × IsTrue (list_all test ys)
  each_pass xs ys all = and_parts (list_all test xs) (list_all test ys) (subst IsTrue (list_all-append test xs ys) all)

-- ---- pieces

-- where the second piece goes on, once the first is there
abbrev pub GoOn : (List Node → Type 0) → List NodeId → List NodeId → List NodeId → List NodeId → Type 0
GoOn P ahead normal on by_normal =
    (g : Graph) → P g.nodes → AreSteps g ahead → AreCopyIns g normal → AreSteps g on × AreCopyIns g by_normal

-- one piece of code and then another, which stands in front of it
pub then_lays : {xs ys : List Node} {ks ms ns js : List NodeId} {ss ts : List ℕ} {a b c : Builder} {P Q : List Node → Type 0} (R : List Node → Type 0) →
    LaysAt ss xs ks ns a b P → LaysAt ts ys ms js b c Q → Stays P → GoOn P ks ns ms js → ((nodes : List Node) → P nodes → Q nodes → R nodes) →
    LaysAt (ss ++ ts) (ys ++ xs) ks ns a c R
then_lays {xs = xs} {ys = ys} {ks = ks} {ns = ns} {ss = ss} {ts = ts} {a = a} {b = b} {c = c} {P = P} R first second stays leads joined = record {
  extends = extends_more first.extends second.extends;
  labels = second.labels ∙ first.labels;
  continuations = second.continuations ∙ first.continuations;
  code = λ front many. joined (front ++ c.nodes) (on_later b c P stays second.extends first.code front many) (second.code front many);
  keeps = λ x stands holds are.
      let before = stands_before x.graph second.extends stands in
      let on = leads x.graph (holds_in b x.graph P stays before first.code) holds.steps holds.copy_ins in
      let tests = each_pass x.test ys xs holds.test in
      second.keeps x stands record { test = tests.0; steps = on.0; copy_ins = on.1 }
      (first.keeps x before record { test = tests.1; steps = holds.steps; copy_ins = holds.copy_ins } are);
  waits = then_adds a b c ss ts first.waits second.waits;
  adds = omega (arith, first.adds, second.adds, tokens-append ys xs);
}

-- nothing
pub lays_nothing : {sites : List ℕ} {laid : List Node} {ahead normal : List NodeId} (a : Builder) (P : List Node → Type 0) → ((nodes : List Node) → P nodes) →
    LaysAt sites laid ahead normal a a P
lays_nothing {sites = sites} a P holds = record {
  extends = record { more = []; nodes = sym (append-nil a.nodes); stop = refl };
  labels = refl;
  continuations = refl;
  code = λ front many. holds (front ++ a.nodes);
  keeps = λ x stands holds are. are;
  waits = adds_nothing a sites;
  adds = omega arith;
}

pub lays_other : {sites : List ℕ} {xs ys : List Node} {ahead normal : List NodeId} {a b : Builder} {P : List Node → Type 0} (Q : List Node → Type 0) →
    LaysAt sites xs ahead normal a b P → xs ≡ ys → ((nodes : List Node) → P nodes → Q nodes) → LaysAt sites ys ahead normal a b Q
lays_other {b = b} Q l same other = record {
  extends = l.extends;
  labels = l.labels;
  continuations = l.continuations;
  code = λ front many. other (front ++ b.nodes) (l.code front many);
  keeps = λ x stands holds are.
      l.keeps x stands record { test = subst (λ laid. IsTrue (list_all x.test laid)) (sym same) holds.test; steps = holds.steps; copy_ins = holds.copy_ins } are;
  waits = l.waits;
  adds = omega (arith, l.adds, ap all_tokens same);
}

-- one node behind the others
push_keeps : (a b : Builder) (node : Node) → b.nodes ≡ a.nodes ++ node ∷ [] → Keeps (Holds (unled node ∷ []) (steps_of node.kind) (normal_of node.kind)) a b
push_keeps a b node pushed x stands holds are =
    let test = and_parts (x.test (unled node)) true holds.test in
    let on : IsTrue (leads_on x.graph node.kind) =
    and_both (list_all (leads_to x.graph is_step) (steps_of node.kind)) (list_all (leads_to x.graph is_copy_in) (normal_of node.kind)) holds.steps holds.copy_ins in
    let here : IsTrue (passes x node) = and_both (x.test (unled node)) (leads_on x.graph node.kind) test.0 on in
    subst (AreAsked x) (sym pushed) (both_pass (passes x) a.nodes (node ∷ []) are (and_both (passes x node) true here refl))

push_waits : (a b : Builder) (node : Node) → b.nodes ≡ a.nodes ++ node ∷ [] → AddsSites (waiting_at node.kind) a b
push_waits a b node pushed site =
    let sites = waiting_sites a.nodes in
    let here = waiting_at node.kind in
    let all : waiting_sites b.nodes ≡ sites ++ here =
    ap waiting_sites pushed ∙ waiting_sites-append a.nodes (node ∷ []) ∙ ap (λ ns. sites ++ ns) (append-nil here) in
    omega (arith, ap (times site) all, times-append site sites here)

pub node_laid : (a : Builder) (nodes : List Node) (node : Node) (n : NodeId) → nodes ≡ a.nodes ++ node ∷ [] → n.number ≡ a.stop.number + length a.nodes →
    LaysNode node a (record a { nodes = nodes }) n
node_laid a nodes node n pushed number = record {
  extends = record { more = node ∷ []; nodes = pushed; stop = refl };
  labels = refl;
  continuations = refl;
  code = λ front many.
      ap (λ ns. slice_get (front ++ ns) n.number) pushed ∙ get_behind front (a.nodes ++ node ∷ []) (length a.nodes) n.number (omega (arith, many, number))
      ∙ get_behind a.nodes (node ∷ []) 0 (length a.nodes) (omega arith);
  keeps = push_keeps a (record a { nodes = nodes }) node pushed;
  waits = push_waits a (record a { nodes = nodes }) node pushed;
  adds = omega (arith, ap all_tokens pushed, tokens-append a.nodes (node ∷ []));
}

-- ---- answers

pub if_ok : {A E : Type 0} {P Q : A → Type 0} (r : Result A E) → ((a : A) → P a → Q a) → IfOk r P → IfOk r Q
if_ok (Ok a) other holds = other a holds
if_ok (Err e) other holds = holds

-- code that was laid, and then what an answer tells of
pub lays_after : {A E : Type 0} {xs : List Node} (ys zs : List Node) {ks ns : List NodeId} (ms js : List NodeId) {ss : List ℕ} (ts : List ℕ) {a b : Builder} {P : List Node → Type 0} (c : Builder)
    (Q R : A → List Node → Type 0) (r : Result A E) → LaysAt ss xs ks ns a b P → Stays P → IfOk r (λ n. LaysAt ts ys ms js b c (Q n)) → ys ++ xs ≡ zs →
    GoOn P ks ns ms js → ((n : A) (nodes : List Node) → P nodes → Q n nodes → R n nodes) → IfOk r (λ n. LaysAt (ss ++ ts) zs ks ns a c (R n))
lays_after ys zs ms js ts {b = b} c Q R r first stays second same leads joined =
    if_ok {P = λ n. LaysAt ts ys ms js b c (Q n)} r
    (λ n lays. lays_other (R n) (then_lays (R n) first lays stays leads (joined n)) same (λ nodes holds. holds)) second

-- what an answer tells of is the code of something else
pub lays_as : {A E : Type 0} (sites : List ℕ) (xs ys : List Node) (ahead normal : List NodeId) (a c : Builder) (Q R : A → List Node → Type 0)
    (r : Result A E) → IfOk r (λ n. LaysAt sites xs ahead normal a c (Q n)) → xs ≡ ys → ((n : A) (nodes : List Node) → Q n nodes → R n nodes) →
    IfOk r (λ n. LaysAt sites ys ahead normal a c (R n))
lays_as sites xs ys ahead normal a c Q R r lays same other =
    if_ok {P = λ n. LaysAt sites xs ahead normal a c (Q n)} r (λ n l. lays_other (R n) l same (other n)) lays

-- where control goes on at other nodes
pub led_one : {sites : List ℕ} {laid : List Node} {ahead normal : List NodeId} (others : List NodeId) {a b : Builder} {P : List Node → Type 0} →
    LaysAt sites laid ahead normal a b P → ((g : Graph) → AreSteps g others → AreSteps g ahead) → LaysAt sites laid others normal a b P
led_one others l leads = record {
  extends = l.extends;
  labels = l.labels;
  continuations = l.continuations;
  code = l.code;
  keeps = λ x stands holds are. l.keeps x stands record { test = holds.test; steps = leads x.graph holds.steps; copy_ins = holds.copy_ins } are;
  waits = l.waits;
  adds = l.adds;
}

pub led_by : {A E : Type 0} (sites : List ℕ) (laid : List Node) (ahead normal others : List NodeId) (a c : Builder) (Q : A → List Node → Type 0)
    (r : Result A E) → IfOk r (λ n. LaysAt sites laid ahead normal a c (Q n)) → ((g : Graph) → AreSteps g others → AreSteps g ahead) →
    IfOk r (λ n. LaysAt sites laid others normal a c (Q n))
led_by sites laid ahead normal others a c Q r lays leads =
    if_ok {P = λ n. LaysAt sites laid ahead normal a c (Q n)} r (λ n l. led_one others l leads) lays
