-- A worked row: a procedure in which one variable is live on an unwinding exit alone and one on a cut exit alone. The premises of the laws on
-- liveness are built for it, and both sides are worked out; and those of the law on what `flow` answers for a program in range.
use Rattle.std.proofs.Common.{◌≡◌, ℕ, zero, suc, ◌<◌, ◌&&◌, nat_le, nat_lt, IsTrue, true, false, length, List, [], ◌∷◌, map, Some, Contains, refl, ap, sym, ◌∙◌, subst, arith, lit<, lit≤}
use Rattle.std.proofs.lemmas.Bool.{and_parts}
use Rattle.std.proofs.lemmas.List.Elements.{All-from_recursion}
use Rattle.std.specs.List.{list_all}
use Rattle.cmm_words.specs.declared.constant.Constant.TheVariants.{Code}
use Rattle.cmm_words.specs.declared.width.Width.TheVariants.{W64}
use Rattle.cmm_program.proofs.Shared.{opened}
use Rattle.cmm_program.proofs.Shared.{call_site, code, continuation, is, list_all_get, local as variable_of, procedure, procedure_in_range, program, program_in_range}
use Rattle.cmm_program.specs.declared.procedure.Proc.{Proc}
use Rattle.cmm_program.specs.declared.procedure.Site.{Site}
use Rattle.cmm_program.specs.declared.procedure.Target.TheVariants as target
use Rattle.cmm_program.specs.declared.program.Program.{Program}
use Rattle.cmm_program.specs.declared.statement.Form.TheVariants as form
use Rattle.cmm_program.specs.declared.statement.Statement.{Statement}
use Rattle.cmm_program.specs.Bodies.{AtContinuation, body_statements, follow}
use Rattle.cmm_program.specs.InRange.{IsInRange, IsProcInRange, are_passed, at_site, is_call_site, is_form, is_statement}
use Rattle.cmm_program.specs.Liveness.{is_among, is_live_at, read_in, ways}
use Rattle.cmm_program.specs.LivePaths as paths
use Rattle.cmm_program.specs.Numbering.{body_numbers, site_number}
use Rattle.cmm_program.specs.State.{Setting}
use Rattle.cmm_program.specs.Tokens.{own_tokens}
use Rattle.cmm_program.specs.Typing.{has_width}
use Rattle.cmm_graph.specs.declared.graph.Graph.{Graph}
use Rattle.cmm_graph.specs.declared.node.Exits.{Exits}
use Rattle.cmm_graph.specs.declared.node.Node.{Node}
use Rattle.cmm_graph.specs.declared.node.NodeKind.{NodeKind}
use Rattle.cmm_graph.specs.declared.node.NodeKind.TheVariants.{Entry, CopyIn, Call, Return, Goto, Stop}
use Rattle.cmm_graph.specs.declared.number.NodeId.{NodeId}
use Rattle.cmm_graph.specs.declared.operand.Operand.TheVariants as operand
use Rattle.cmm_graph.specs.Counterpart.{AreExitsOf, HasSite, IsGraphOf, names_there}
use Rattle.cmm_graph.specs.Liveness.{Here, Onward}
use Rattle.cmm_live.specs.Sites.{IsLiveAt, IsLiveOnCut}
use Rattle.cmm_flow.specs.Flow.{IsFlow, IsFlowOf, IsLandedAt}
use Rattle.cmm_flow.specs.Laws.{AreFlows}
use Rattle.cmm_flow.specs.Liveness as live
use Rattle.cmm_flow.specs.Liveness.{IsFlowInRange, site_id, variable}
use Rattle.cmm_flow.specs.Waiting.{WaitOnce, times, waiting_sites}
use Rattle.cmm_flow.specs.Statements.{ListCode}
use Rattle.cmm_flow.proofs.LivenessSets.{sites_keep_liveness}
use Rattle.cmm_flow.proofs.Belongs.{holds_there, width_is_there}
use Rattle.cmm_flow.proofs.RangesCovering.{flows_given}

-- ---- the procedure
--     f() {
--       bits64 x, u, w;
--       x = f() also unwinds to k also cuts to c;
--       return (x);
--       continuation k():
--       return (u);
--       continuation c():
--       return (w);
--     }

abbrev returned : ℕ → Statement
returned number = is 5 (form.Return 0 0 (variable_of number ∷ []))

abbrev body : List Statement
body =
    is 14 (form.Call 0 (code 0) [])
    ∷ returned 0
    ∷ is 5 (form.Continuation 0)
    ∷ returned 1
    ∷ is 5 (form.Continuation 1)
    ∷ returned 2
    ∷ []

abbrev site : Site
site = record (call_site (0 ∷ [])) { unwinds = 0 ∷ []; cuts = 1 ∷ [] }

abbrev f : Proc
f = record (procedure [] 51 0 3 (site ∷ []) body) { conts = continuation [] ∷ continuation [] ∷ [] }

abbrev p : Program
p = program (f ∷ [])

-- x is written by the normal exit, the only one that leads to where it is read
live_at_site : map (is_live_at f 0) (0 ∷ 1 ∷ 2 ∷ []) ≡ false ∷ true ∷ true ∷ []
unfolding opened
live_at_site = refl

-- ---- its graph

abbrev n : ℕ → NodeId
n number = record { number = number }

abbrev node : ℕ → NodeKind → Node
node tokens kind = record { tokens = tokens; kind = kind }

abbrev returns : ℕ → Node
returns number = node 5 (Return 0 0 (record { width = W64; value = operand.Local (variable number) } ∷ []))

abbrev exits : Exits
exits = record { normal = Some (n 2); returns = []; unwinds = record { number = 0 } ∷ []; cuts = record { number = 1 } ∷ [] }

abbrev graph : Graph
graph = record {
  variables = 3;
  temporaries = 0;
  nodes =
      node 51 (Entry [] (n 1))
      ∷ node 12 (Call (site_id 0) (operand.Constant (Code 0 0)) [] exits)
      ∷ node 2 (CopyIn (target.Variable 0 W64 ∷ []) (n 3))
      ∷ returns 0
      ∷ node 1 Stop
      ∷ returns 1
      ∷ node 1 Stop
      ∷ returns 2
      ∷ node 1 Stop
      ∷ node 1 (CopyIn [] (n 5))
      ∷ node 1 (CopyIn [] (n 7))
      ∷ node 1 (Goto (n 8))
      ∷ [];
  first = n 0;
  continuations = n 9 ∷ n 10 ∷ [];
}

-- ---- the premises

abbrev label_node : ℕ → NodeId
label_node l = n 11

abbrev Begins : List Statement → NodeId → Type 0
Begins rest at = ListCode f graph.nodes label_node rest at

behind_c : Begins (follow f (AtContinuation 1)) (n 7)
unfolding opened
behind_c = (n 8, (n 7, (n 7, refl, refl), refl), refl)

behind_k : Begins (follow f (AtContinuation 0)) (n 5)
unfolding opened
behind_k = (n 6, (n 5, (n 5, refl, refl), refl), (n 7, refl, behind_c))

whole : Begins body (n 1)
unfolding opened
whole = (n 3, (n 1, n 1, exits, refl, refl, refl, (record { returns = refl; unwinds = refl; cuts = refl }, (n 2, refl, refl))), (n 4, (n 3, (n 3, refl, refl), refl), (n 5, refl, behind_k)))

landing_is : (k : ℕ) → k < 2 → IsLandedAt f graph label_node k
landing_is zero less = record { at = n 9; tokens = 1; to = []; next = n 5; landing = refl; node = refl; code = behind_k }
landing_is (suc zero) less = record { at = n 10; tokens = 1; to = []; next = n 7; landing = refl; node = refl; code = behind_c }
landing_is (suc (suc k)) less = absurd (omega (arith, less))

flow : IsFlowOf f graph
unfolding opened
flow = record {
  label_node = label_node;
  begun = record { formals = []; next = n 1; node = refl; code = whole };
  labels = λ l. record { next = n 8; node = refl; code = refl };
  continuations = landing_is;
}

call_has_site : AreExitsOf f graph (site_id 0) exits
call_has_site = record { site = site; is_site = refl; normal = refl; returns = refl; unwinds = refl; cuts = refl }

is_graph : IsGraphOf p f graph
is_graph = record {
  valid = record { first = refl; nodes = refl; continuations = refl };
  variables = refl;
  formals = refl;
  continuations = refl;
  sites = All-from_recursion (λ node. HasSite f graph node.kind) graph.nodes (tt, (call_has_site, (tt, (tt, (tt, (tt, (tt, (tt, (tt, (tt, (tt, (tt, tt))))))))))));
  names = refl;
}

in_range : IsProcInRange p f
unfolding opened
in_range = procedure_in_range p f refl

flows : IsFlowInRange p f graph
flows = record {
  range = in_range;
  graph = record { variables = is_graph.variables; continuations = is_graph.continuations; sites = is_graph.sites };
  flow = flow;
}

once : WaitOnce graph
once = refl

-- ---- the graph as an answer of `flow`, for a program in range

waits : waiting_sites graph.nodes ≡ body_numbers site_number f
unfolding opened
waits = refl

-- the call names the first procedure of any program in which f is in range
callee_there : (p : Program) → IsProcInRange p f → nat_lt 0 (length p.procs) ≡ true
unfolding opened
callee_there p range =
    let statement = list_all_get (is_statement p f) (body_statements f) 0 (is 14 (form.Call 0 (code 0) [])) range.body refl in
    let call = (and_parts (is_form p f (form.Call 0 (code 0) [])) (nat_le (own_tokens f (form.Call 0 (code 0) [])) 14) statement).0 in
    let both = (and_parts (at_site p f 0 (is_call_site p f) && has_width p f W64 (code 0)) (are_passed p f []) call).0 in
    let typed = (and_parts (at_site p f 0 (is_call_site p f)) (has_width p f W64 (code 0)) both).1 in
    holds_there (nat_lt 0 (length p.procs)) W64 (width_is_there p f 0 W64 (code 0) typed)

named : (p : Program) → nat_lt 0 (length p.procs) ≡ true → IsTrue (list_all (λ node. names_there p f node.kind) graph.nodes)
unfolding opened
named p less = rw less refl

answer : IsFlow f graph
answer = record {
  flow = flow;
  tokens = λ covers. refl;
  variables = refl;
  formals = refl;
  continuations = refl;
  waits = λ site. omega (arith, ap (times site) waits);
  names = λ p range. named p (callee_there p range);
  nodes = λ p range sites. refl;
  bounded = λ p range. lit≤ tt;
  short = λ p range. lit≤ tt;
  few = λ p range sites. refl;
  yields = λ p range. refl;
  covered = λ p range sites. refl;
}

range : IsInRange p
unfolding opened
range = program_in_range p refl

-- so it is the flow of the program, wherever that is placed
are_flows : (s : Setting) → s.program ≡ p → AreFlows s (graph ∷ [])
are_flows s same = flows_given p (graph ∷ []) (answer, tt) s same range

-- ---- both sides

-- u is live behind the node, by its unwinding exit
u_is_live : IsLiveAt graph (variable 1) (site_id 0)
u_is_live = record {
  at = n 1;
  node = node 12 (Call (site_id 0) (operand.Constant (Code 0 0)) [] exits);
  is_there = refl;
  waits = refl;
  next = n 9;
  leads = (1, lit< tt, refl);
  live = Onward (n 9) (n 5) (node 1 (CopyIn [] (n 5))) refl (λ written. absurd (omega (arith, written.1))) (0, lit< tt, refl)
      (Here (n 5) (returns 1) refl (0, lit< tt, refl));
}

-- and so at the site; w by a cut
u_is_live_at_site : paths.IsLiveAt f 0 1
u_is_live_at_site = (sites_keep_liveness p f graph flows once 0 1 (lit< tt)).live.1 u_is_live

w_is_live_on_cut : IsLiveOnCut graph (variable 2) (site_id 0)
w_is_live_on_cut = record {
  at = n 1;
  node = node 12 (Call (site_id 0) (operand.Constant (Code 0 0)) [] exits);
  is_there = refl;
  waits = refl;
  next = n 10;
  leads = (0, lit< tt, refl);
  live = Onward (n 10) (n 7) (node 1 (CopyIn [] (n 7))) refl (λ written. absurd (omega (arith, written.1))) (0, lit< tt, refl)
      (Here (n 7) (returns 2) refl (0, lit< tt, refl));
}

w_is_cut_to : live.IsLiveOnCut f 0 2
w_is_cut_to = (sites_keep_liveness p f graph flows once 0 2 (lit< tt)).live_on_cut.1 w_is_live_on_cut

-- u is not, neither at the site nor behind the node
nothing_read : (ss : List Statement) → ss ≡ returned 2 ∷ [] → paths.IsReadFrom f 1 ss → ⊥
nothing_read _ same (paths.Here s rest read) =
    let one : s ≡ returned 2 = cc in
    let none : is_among 1 (read_in s.form) ≡ false = ap (λ (s : Statement). is_among 1 (read_in s.form)) one in cc
nothing_read _ same (paths.Onward s rest way leads unwritten path) =
    let one : s ≡ returned 2 = cc in
    let none : Contains [] way = subst (λ (s : Statement). Contains (ways f s.form rest) way) one leads in absurd (omega (arith, none.1))

cuts_to_c : (k : ℕ) → Contains (1 ∷ []) k → k ≡ 1
cuts_to_c k (zero, less, is) = sym is
cuts_to_c k (suc i, less, is) = absurd (omega (arith, less))

behind_1 : follow f (AtContinuation 1) ≡ returned 2 ∷ []
unfolding opened
behind_1 = refl

u_is_not_cut_to : live.IsLiveOnCut f 0 1 → ⊥
u_is_not_cut_to on =
    let its : site ≡ on.exits = grind (arith, on.is_site) in
    let one = cuts_to_c on.continuation (subst (λ (s : Site). Contains s.cuts on.continuation) (sym its) on.is_cut) in
    nothing_read (follow f (AtContinuation on.continuation)) (ap (λ k. follow f (AtContinuation k)) one ∙ behind_1) on.is_read

u_is_dead_on_cut : IsLiveOnCut graph (variable 1) (site_id 0) → ⊥
u_is_dead_on_cut on = u_is_not_cut_to ((sites_keep_liveness p f graph flows once 0 1 (lit< tt)).live_on_cut.1 on)
