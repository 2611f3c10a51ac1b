-- Where control lands in both machines, each activation stands for what it has to do.
use Rattle.std.proofs.Common.{◌≡◌, ℕ, zero, suc, true, false, Option, Some, None, List, [], ◌∷◌, IsTrue, drop, length, slice_get, refl, ap, sym, ◌∙◌, subst, arith}
use Rattle.std.proofs.lemmas.Option.{slice_get_within}
use Rattle.std.specs.List.{AllZip, list_all}
use Rattle.cmm_machine_laws.proofs.Shared.{entering_lands}
use Rattle.cmm_program.proofs.Shared.{all_get}
use Rattle.cmm_program.specs.declared.procedure.Cont.{Cont}
use Rattle.cmm_program.specs.declared.procedure.Proc.{Proc}
use Rattle.cmm_program.specs.declared.procedure.Site.{Site}
use Rattle.cmm_program.specs.declared.statement.Statement.{Statement}
use Rattle.cmm_program.specs.Bodies.{AtContinuation, body_statements, follow}
use Rattle.cmm_program.specs.Control.{arrived, landed, over}
use Rattle.cmm_program.specs.Exits.{Back, Called, Exit, Instead, Landing, Resumed, land, parameters_of, results_of}
use Rattle.cmm_program.specs.Frames.{Suspended, new_activation, procedure_at, suspended_at, with_site}
use Rattle.cmm_program.specs.State.{Activation, Ended, Running, Setting, StackLimit, Store}
use Rattle.cmm_program.specs.Todo.{Todo, todo_control}
use Rattle.cmm_graph.specs.declared.graph.Graph.{Graph}
use Rattle.cmm_graph.specs.declared.node.NodeKind.{NodeKind}
use Rattle.cmm_graph.specs.declared.node.NodeKind.TheVariants.{Entry, CopyIn}
use Rattle.cmm_graph.specs.declared.number.NodeId.{NodeId}
use Rattle.cmm_graph.specs.GraphControl.{Position, behind, graph_control, in_graph, kind_at, kind_here, landed_at, normal_of}
use Rattle.cmm_graph.specs.Paths.{landing_of}
use Rattle.cmm_flow.specs.Code.{IsNode}
use Rattle.cmm_flow.specs.Flow.{IsFlowOf}
use Rattle.cmm_flow.specs.Laws.{AreFlows}
use Rattle.cmm_flow.specs.Relation.{AreCounted, AreGoing, AreOfOne, AreWaiting, HasFlow, IsCodeOf, Related, StandsFor, WaitsFor, is_counted}
use Rattle.cmm_flow.specs.Statements.{ExitsCode}
use Rattle.cmm_flow.proofs.Counting.{body_counted, follow_counted}
use Rattle.cmm_flow.proofs.Landing.{IsExit, IsToContinuation, ToContinuation, ToNormal, begun_is, gone_on_is}

-- ---- lists side by side

zipped : {A B : Type 0} (R : A → B → Type 0) (xs : List A) (ys : List B) (n : ℕ) (x : A) → AllZip R xs ys → slice_get xs n ≡ Some x →
    (y : B) × (slice_get ys n ≡ Some y) × R x y
zipped R [] ys n x all is = grind (arith, is)
zipped R (a ∷ xs) [] n x all is = elim all [ ]
zipped R (a ∷ xs) (b ∷ ys) zero x all is = let same : a ≡ x = grind (arith, is) in (b, refl, subst (λ x. R x b) same all.0)
zipped R (a ∷ xs) (b ∷ ys) (suc n) x all is = zipped R xs ys n x all.1 is

pub zipped_back : {A B : Type 0} (R : A → B → Type 0) (xs : List A) (ys : List B) (n : ℕ) (y : B) → AllZip R xs ys → slice_get ys n ≡ Some y →
    (x : A) × (slice_get xs n ≡ Some x) × R x y
zipped_back R [] [] n y all is = grind (arith, is)
zipped_back R [] (b ∷ ys) n y all is = elim all [ ]
zipped_back R (a ∷ xs) [] n y all is = elim all [ ]
zipped_back R (a ∷ xs) (b ∷ ys) zero y all is = let same : b ≡ y = grind (arith, is) in (a, refl, subst (R a) same all.0)
zipped_back R (a ∷ xs) (b ∷ ys) (suc n) y all is = zipped_back R xs ys n y all.1 is

module _ (s : Setting) (graphs : List Graph) (flows : AreFlows s graphs) where
  -- each procedure has its flow
  pub has_flow : (n : ℕ) (q : Proc) → procedure_at s n ≡ Some q → HasFlow s.program graphs n
  has_flow n q is =
      let found = zipped IsFlowOf s.program.procs graphs n q flows.flows is in
      record { procedure = q; graph = found.0; is_procedure = is; is_graph = found.1; flow = found.2 }

  pub counted_in : (n : ℕ) (of : HasFlow s.program graphs n) → IsTrue (list_all (is_counted of.procedure) (body_statements of.procedure))
  counted_in n of = all_get (λ q. IsTrue (list_all (is_counted q) (body_statements q))) s.program.procs n of.procedure flows.counted of.is_procedure

  -- a node of the graph, as the control sees it
  pub kind_there : (n : ℕ) (of : HasFlow s.program graphs n) (m : NodeId) (tokens : ℕ) (kind : NodeKind) → IsNode of.graph.nodes m tokens kind → kind_at graphs n m ≡ kind
  kind_there n of m tokens kind node = grind (arith, of.is_graph, node)

  -- ---- each landing

  -- what a landing to a node makes of a position
  landed_is : (c : Position) (n : ℕ) (of : HasFlow s.program graphs n) (m k : NodeId) (tokens : ℕ) (kind : NodeKind) → c.procedure ≡ n →
      IsNode of.graph.nodes m tokens kind → behind kind m ≡ k → (o : Option NodeId) → o ≡ Some m → landed_at graphs o c ≡ record c { node = k }
  landed_is c n of m k tokens kind same node leads o is =
      let there : kind_at graphs c.procedure m ≡ kind = ap (λ n. kind_at graphs n m) same ∙ kind_there n of m tokens kind node in
      ap (λ o. landed_at graphs o c) is ∙ ap (λ kind. record c { node = behind kind m }) there ∙ ap (λ k. record c { node = k }) leads

  -- a state where an activation stands, its code and statements as they come
  pub stands_at : (a : Activation) (t : Todo) (c : Position) (rest : List Statement) (n : NodeId) (one : AreOfOne s.program graphs a t c) → t.rest ≡ rest → c.node ≡ n →
      IsCodeOf s.program graphs one.of rest n → AreCounted one.of.procedure rest → StandsFor s.program graphs a t c
  stands_at a t c rest n one is_rest is_node code counted = record {
    one = one;
    code = subst (λ rest. IsCodeOf s.program graphs one.of rest c.node) (sym is_rest) (subst (λ n. IsCodeOf s.program graphs one.of rest n) (sym is_node) code);
    counted = subst (AreCounted one.of.procedure) (sym is_rest) counted;
  }

  -- a new activation
  pub begin_stands : (n : ℕ) (q : Proc) (a : Activation) → procedure_at s n ≡ Some q → a.procedure ≡ n →
      StandsFor s.program graphs a ((todo_control s.program).begin n) ((graph_control graphs).begin n)
  unfolding has_flow
  begin_stands n q a is same =
      let of = has_flow n q is in
      let begun = of.flow.begun in
      let first = landed_is (record { procedure = n; node = record { number = 0 }; temporaries = λ t. 0 }) n of of.graph.first begun.next q.tokens
      (Entry begun.formals begun.next) refl begun.node refl (in_graph graphs n (λ g. Some g.first)) (grind (arith, of.is_graph)) in
      stands_at a ((todo_control s.program).begin n) ((graph_control graphs).begin n) q.body begun.next
      (record { of = of; activation = same; position = ap (λ (c : Position). c.procedure) first }) (grind (arith, is)) (ap (λ (c : Position). c.node) first) begun.code
      (body_counted q (counted_in n of))

  -- one that goes on at a continuation
  pub resume_stands : (a b : Activation) (t : Todo) (c : Position) (k : ℕ) (p : Proc) (cont : Cont) → AreOfOne s.program graphs a t c → b.procedure ≡ a.procedure →
      procedure_at s a.procedure ≡ Some p → slice_get p.conts k ≡ Some cont →
      StandsFor s.program graphs b ((todo_control s.program).resume k t) ((graph_control graphs).resume k c)
  resume_stands a b t c k p cont one same is_p is_cont =
      let of = one.of in
      let is_procedure : of.procedure ≡ p = grind (arith, of.is_procedure, one.activation, is_p) in
      let landed_there = of.flow.continuations k (slice_get_within of.procedure.conts k cont (rw is_procedure is_cont)) in
      let there = landed_is c t.procedure of landed_there.at landed_there.next landed_there.tokens (CopyIn landed_there.to landed_there.next) one.position
      landed_there.node refl (in_graph graphs c.procedure (λ g. landing_of g record { number = k })) (grind (arith, one.position, of.is_graph, landed_there.landing)) in
      stands_at b ((todo_control s.program).resume k t) ((graph_control graphs).resume k c) (follow of.procedure (AtContinuation k)) landed_there.next
      (record { of = of; activation = same ∙ one.activation; position = ap (λ (c : Position). c.procedure) there ∙ one.position })
      (grind (arith, of.is_procedure)) (ap (λ (c : Position). c.node) there) landed_there.code (follow_counted of.procedure (AtContinuation k) (counted_in t.procedure of))

  -- one that goes on behind its site
  suspended_site : (a : Activation) (older : List Activation) (f : Suspended) (q : Proc) (n : ℕ) → a.site ≡ Some n → procedure_at s a.procedure ≡ Some q →
      suspended_at s (a ∷ older) ≡ Some f → slice_get q.sites n ≡ Some f.site
  suspended_site a older f q n is_site is_q is = by (slice_get q.sites n) refl
    where
      by : (o : Option Site) → slice_get q.sites n ≡ o → o ≡ Some f.site
      by (Some site) at = ap (λ site. Some site) (grind (arith, is_site, is_q, at, is))
      by None at = grind (arith, is_site, is_q, at, is)

  pub back_stands : (a b : Activation) (older : List Activation) (t : Todo) (c : Position) (f : Suspended) → WaitsFor s.program graphs a t c →
      b.procedure ≡ a.procedure → suspended_at s (a ∷ older) ≡ Some f → f.site.never ≡ false →
      StandsFor s.program graphs b ((todo_control s.program).back t) ((graph_control graphs).back c)
  back_stands a b older t c f waits same at never =
      let of = waits.one.of in
      let is_q : procedure_at s a.procedure ≡ Some of.procedure = ap (procedure_at s) waits.one.activation ∙ of.is_procedure in
      let site = suspended_site a older f of.procedure waits.site waits.is_site is_q at in
      let normal = subst (λ o. ExitsCode of.graph.nodes o waits.exits waits.behind) site waits.normal in
      let code =
      subst (λ b. elim b as (λ _. Type 0) [
        | true ↦ waits.exits.normal ≡ None
        | false ↦ (j : NodeId) × (waits.exits.normal ≡ Some j) × IsNode of.graph.nodes j (suc (length f.site.results)) (CopyIn f.site.results waits.behind)
      ]) never normal.1 in
      let there = landed_is c t.procedure of code.0 waits.behind (suc (length f.site.results)) (CopyIn f.site.results waits.behind) waits.one.position code.2 refl
      (normal_of (kind_here graphs c)) (waits.stands ∙ code.1) in
      stands_at b t ((graph_control graphs).back c) t.rest waits.behind
      (record { of = of; activation = same ∙ waits.one.activation; position = ap (λ (c : Position). c.procedure) there ∙ waits.one.position }) refl
      (ap (λ (c : Position). c.node) there) waits.code waits.counted

  -- ---- states after landings

  -- the youngest activation is known, and the others wait
  abbrev pub AreLeft : List Activation → List Todo → List Position → Type 0
  AreLeft [] [] [] = Unit {0}
  AreLeft (a ∷ older) (t ∷ ts) (c ∷ cs) = AreOfOne s.program graphs a t c × AreWaiting s.program graphs older ts cs
  AreLeft _ _ _ = ⊥

  pub landed_by : (landing : Landing) (store : Store) (ts : List Todo) (cs : List Position) →
      ((after : Store) → land s landing store ≡ Some after →
      AreGoing s.program graphs after.activations (arrived (todo_control s.program) landing ts) (arrived (graph_control graphs) landing cs)) →
      Related s.program graphs (landed (todo_control s.program) s landing store ts) (landed (graph_control graphs) s landing store cs)
  landed_by landing store ts cs goes = by (land s landing store) refl
    where
      by : (o : Option Store) → land s landing store ≡ o → Related s.program graphs
          (elim o [
            | Some after ↦ record { store = over Running after; controls = arrived (todo_control s.program) landing ts }
            | None ↦ record { store = over (Ended StackLimit) store; controls = ts }
          ])
          (elim o [
            | Some after ↦ record { store = over Running after; controls = arrived (graph_control graphs) landing cs }
            | None ↦ record { store = over (Ended StackLimit) store; controls = cs }
          ])
      by (Some after) is = record { store = refl; controls = goes after is }
      by None is = record { store = refl; controls = tt }

  -- in a procedure that is called
  pub called_related : (site n : ℕ) (values : List ℕ) (store : Store) (q : Proc) (t : Todo) (ts : List Todo) (c : Position) (cs : List Position) →
      procedure_at s n ≡ Some q → AreWaiting s.program graphs (with_site (Some site) store.activations) ((todo_control s.program).later t ∷ ts) (c ∷ cs) →
      Related s.program graphs (landed (todo_control s.program) s (Called site n values) store (t ∷ ts))
      (landed (graph_control graphs) s (Called site n values) store (c ∷ cs))
  called_related site n values store q t ts c cs is waiting = landed_by (Called site n values) store (t ∷ ts) (c ∷ cs) (λ after lands.
      subst (λ as_. AreGoing s.program graphs as_ ((todo_control s.program).begin n ∷ (todo_control s.program).later t ∷ ts) ((graph_control graphs).begin n ∷ c ∷ cs))
      (sym (begun_is s store n q values (with_site (Some site) store.activations) after (sym ((entering_lands s store n q values is).0 site) ∙ lands)))
      (begin_stands n q (new_activation n q values) is refl, waiting))

  -- in one that takes the place of another, or is the first
  pub instead_related : (n : ℕ) (values : List ℕ) (store : Store) (q : Proc) (ts : List Todo) (cs : List Position) → procedure_at s n ≡ Some q →
      AreWaiting s.program graphs store.activations ts cs →
      Related s.program graphs (landed (todo_control s.program) s (Instead n values) store ts) (landed (graph_control graphs) s (Instead n values) store cs)
  instead_related n values store q ts cs is waiting = landed_by (Instead n values) store ts cs (λ after lands.
      subst (λ as_. AreGoing s.program graphs as_ ((todo_control s.program).begin n ∷ ts) ((graph_control graphs).begin n ∷ cs))
      (sym (begun_is s store n q values store.activations after (sym (entering_lands s store n q values is).1 ∙ lands)))
      (begin_stands n q (new_activation n q values) is refl, waiting))

  -- at a continuation of the youngest activation
  pub continuation_related : (e : Exit) (values : List ℕ) (store : Store) (ts : List Todo) (cs : List Position) → IsToContinuation s store.activations e →
      AreLeft store.activations ts cs →
      Related s.program graphs (landed (todo_control s.program) s (e.landing values) store ts) (landed (graph_control graphs) s (e.landing values) store cs)
  continuation_related e values store ts cs to left =
      subst (λ (landing : List ℕ → Landing). Related s.program graphs (landed (todo_control s.program) s (landing values) store ts) (landed (graph_control graphs) s (landing values) store cs))
      (sym to.lands) (landed_by (Resumed to.number values) store ts cs (λ after lands. by ts cs (subst (λ as_. AreLeft as_ ts cs) to.stands left) after lands))
    where
      by : (ts : List Todo) (cs : List Position) → AreLeft (to.youngest ∷ to.older) ts cs → (after : Store) → land s (Resumed to.number values) store ≡ Some after →
          AreGoing s.program graphs after.activations (arrived (todo_control s.program) (Resumed to.number values) ts) (arrived (graph_control graphs) (Resumed to.number values) cs)
      by (t ∷ ts) (c ∷ cs) left after lands =
          let gone = gone_on_is (parameters_of s to.number store.activations) values store after to.youngest to.older to.stands lands in
          subst (λ as_. AreGoing s.program graphs as_ ((todo_control s.program).resume to.number t ∷ ts) ((graph_control graphs).resume to.number c ∷ cs)) (sym gone.activations)
          (resume_stands to.youngest gone.youngest t c to.number to.procedure to.cont left.0 gone.procedure to.is_procedure to.is_cont, left.1)
      by [] cs left after lands = elim left [ ]
      by (t ∷ ts) [] left after lands = elim left [ ]

  -- of those that wait, the youngest is known
  pub waiting_left : (as_ : List Activation) (ts : List Todo) (cs : List Position) → AreWaiting s.program graphs as_ ts cs → AreLeft as_ ts cs
  waiting_left [] [] [] waiting = tt
  waiting_left (a ∷ as_) (t ∷ ts) (c ∷ cs) waiting = (waiting.0.one, waiting.1)
  waiting_left [] [] (c ∷ cs) waiting = elim waiting [ ]
  waiting_left [] (t ∷ ts) cs waiting = elim waiting [ ]
  waiting_left (a ∷ as_) [] cs waiting = elim waiting [ ]
  waiting_left (a ∷ as_) (t ∷ ts) [] waiting = elim waiting [ ]

  -- at any exit of a site that waits
  pub exit_related : (e : Exit) (values : List ℕ) (store : Store) (ts : List Todo) (cs : List Position) → IsExit s store.activations e →
      AreWaiting s.program graphs store.activations ts cs →
      Related s.program graphs (landed (todo_control s.program) s (e.landing values) store ts) (landed (graph_control graphs) s (e.landing values) store cs)
  exit_related e values store ts cs (ToContinuation to) waiting = continuation_related e values store ts cs to (waiting_left store.activations ts cs waiting)
  exit_related e values store ts cs (ToNormal f at never lands) waiting =
      subst (λ (landing : List ℕ → Landing). Related s.program graphs (landed (todo_control s.program) s (landing values) store ts) (landed (graph_control graphs) s (landing values) store cs))
      (sym lands) (landed_by (Back values) store ts cs (λ after lands. by store.activations ts cs refl at waiting after lands))
    where
      by : (as_ : List Activation) (ts : List Todo) (cs : List Position) → store.activations ≡ as_ → suspended_at s as_ ≡ Some f → AreWaiting s.program graphs as_ ts cs →
          (after : Store) → land s (Back values) store ≡ Some after →
          AreGoing s.program graphs after.activations (arrived (todo_control s.program) (Back values) ts) (arrived (graph_control graphs) (Back values) cs)
      by (a ∷ older) (t ∷ ts) (c ∷ cs) are at waiting after lands =
          let gone = gone_on_is (results_of s store.activations) values store after a older are lands in
          subst (λ as_. AreGoing s.program graphs as_ ((todo_control s.program).back t ∷ ts) ((graph_control graphs).back c ∷ cs)) (sym gone.activations)
          (back_stands a gone.youngest older t c f waiting.0 gone.procedure at never, waiting.1)
      by [] ts cs are at waiting after lands = grind (arith, at)
      by (a ∷ older) [] cs are at waiting after lands = elim waiting [ ]
      by (a ∷ older) (t ∷ ts) [] are at waiting after lands = elim waiting [ ]

  -- when the youngest activations go
  pub waiting_drop : (n : ℕ) (as_ : List Activation) (ts : List Todo) (cs : List Position) → AreWaiting s.program graphs as_ ts cs →
      AreWaiting s.program graphs (drop n as_) (drop n ts) (drop n cs)
  waiting_drop zero as_ ts cs waiting = waiting
  waiting_drop (suc n) [] [] [] waiting = tt
  waiting_drop (suc n) (a ∷ as_) (t ∷ ts) (c ∷ cs) waiting = waiting_drop n as_ ts cs waiting.1
  waiting_drop (suc n) [] [] (c ∷ cs) waiting = elim waiting [ ]
  waiting_drop (suc n) [] (t ∷ ts) cs waiting = elim waiting [ ]
  waiting_drop (suc n) (a ∷ as_) [] cs waiting = elim waiting [ ]
  waiting_drop (suc n) (a ∷ as_) (t ∷ ts) [] waiting = elim waiting [ ]

  pub left_drop : (n : ℕ) (a : Activation) (as_ : List Activation) (t : Todo) (ts : List Todo) (c : Position) (cs : List Position) →
      AreLeft (a ∷ as_) (t ∷ ts) (c ∷ cs) → AreLeft (drop n (a ∷ as_)) (drop n (t ∷ ts)) (drop n (c ∷ cs))
  left_drop zero a as_ t ts c cs left = left
  left_drop (suc n) a as_ t ts c cs left = waiting_left (drop n as_) (drop n ts) (drop n cs) (waiting_drop n as_ ts cs left.1)
