-- The Entry of a procedure: what is live behind it is a formal or is made 0.
use Rattle.std.proofs.Common.{◌≡◌, ◌⊎◌, inl, inr, ℕ, ◌+◌, ◌<◌, ◌≤◌, nat_le, nat_lt, Bool, true, false, Contains, Option, Some, None, List, [], ◌∷◌, flat_map, length, map, refl, ap, sym, ◌∙◌, subst, arith}
use Rattle.std.proofs.lemmas.Bool.{and_parts}
use Rattle.std.proofs.lemmas.Bool.Decides.{nat_tests}
use Rattle.std.proofs.lemmas.List.FromFn.{get_or-range_with_len, length-range_with_len}
use Rattle.std.proofs.lemmas.Option.{same_Some}
use Rattle.std.specs.List.{range_with_len}
use Rattle.cmm_bitset.proofs.Shared.{members_had}
use Rattle.cmm_bitset.specs.Sets.{members}
use Rattle.cmm_program.specs.declared.procedure.Proc.{Proc}
use Rattle.cmm_program.specs.declared.program.Program.{Program}
use Rattle.cmm_program.specs.Errors.{with_some}
use Rattle.cmm_program.specs.InRange.{IsProcInRange}
use Rattle.cmm_graph.specs.declared.graph.Graph.{Graph}
use Rattle.cmm_graph.specs.declared.node.Node.{Node}
use Rattle.cmm_graph.specs.declared.node.NodeKind.{NodeKind}
use Rattle.cmm_graph.specs.declared.node.NodeKind.TheVariants.{Entry, Stop}
use Rattle.cmm_graph.specs.declared.number.Variable.{Variable}
use Rattle.cmm_graph.specs.Counterpart.{formals_of}
use Rattle.cmm_graph.specs.Paths.{node_of, writes, written_by_variable}
use Rattle.cmm_live.specs.Exact.{set_at}
use Rattle.cmm_live.specs.Laws.{SetsAreClosed}
use Rattle.cmm_live.specs.Locals.{local_number}
use Rattle.cmm_located.specs.Entering.{HasEntry}
use Rattle.cmm_hoisted.specs.Flow.{entry_tokens}
use Rattle.cmm_located.specs.Relation.{variable_count}
use Rattle.cmm_allocate.specs.declared.procedure.ProcedurePlaces.{ProcedurePlaces}
use Rattle.cmm_allocate.specs.Compiling.{compiled, live_before}
use Rattle.cmm_allocate.specs.Placed.{place_at}
use Rattle.cmm_graph.specs.declared.operand.Local.{Local}
use Rattle.cmm_allocate.proofs.Members.{contains_unmapped}
use Rattle.cmm_allocate.proofs.Touching.{writes_local}
use Rattle.cmm_allocate.proofs.Living.{before, stays}
use Rattle.cmm_allocate.proofs.Placing.{Beside, apart_in, exists, kind_in_range, kind_is, live_is}

-- the numbers of what an Entry writes are those of its formals
written_numbers : (g : Graph) (formals : List Variable) → map (local_number g) (flat_map written_by_variable formals) ≡ map (λ v. v.number) formals
written_numbers g [] = refl
written_numbers g (v ∷ formals) = ap (λ ns. v.number ∷ ns) (written_numbers g formals)

-- and these are the first ones
among_first : (count u : ℕ) → Contains (range_with_len 0 count) u → u < count
among_first count u has =
    let less : has.0 < count = subst (λ n. has.0 < n) (length-range_with_len 0 count) has.1 in
    omega (arith, less, sym has.2 ∙ get_or-range_with_len 0 count has.0 u less)

module _ (program : Program) (procs : List Proc) (graphs : List Graph) (found : List ProcedurePlaces) (q : ℕ) (at : Beside procs graphs found q) (closed : SetsAreClosed)
    (range : IsProcInRange program at.procedure) where
  abbrev g : Graph
  g = at.graph

  abbrev p : Proc
  p = at.procedure

  abbrev first : Node
  first = record { tokens = entry_tokens g; kind = Entry at.flow.entry.formals at.flow.entry.next }

  there : node_of g g.first ≡ Some first
  there = at.flow.entry.node

  numbers : map (λ (v : Variable). v.number) at.flow.entry.formals ≡ range_with_len 0 p.formals
  numbers = same_Some _ _ (sym (ap (λ o. with_some o (λ (node : Node). formals_of node.kind)) there) ∙ at.flow.formals)

  pub variables_are : variable_count graphs q ≡ length p.vars
  variables_are = ap (λ (o : Option Graph). elim o as (λ _. ℕ) [ Some g ↦ g.variables | None ↦ 0 ]) at.is_graph ∙ at.flow.variables

  few : p.formals ≤ length p.vars
  few = let both = and_parts (nat_le p.formals (length p.vars)) (nat_le p.formals 64) range.formals in grind (arith, nat_tests, both.0)

  zeroed_is : (compiled graphs found).zeroed q ≡ members (set_at at.places.live.before g.first.number)
  zeroed_is = ap (λ (o : Option ProcedurePlaces). elim o as (λ _. List ℕ) [ Some k ↦ k.zeroed | None ↦ [] ]) at.is_places ∙ at.has.zeroed

  known : (u : ℕ) → live_before found q at.flow.entry.next u ≡ true → (u < p.formals) ⊎ Contains ((compiled graphs found).zeroed q) u
  known u is = by (nat_lt u p.formals) refl
    where
      by : (b : Bool) → nat_lt u p.formals ≡ b → (u < p.formals) ⊎ Contains ((compiled graphs found).zeroed q) u
      by true formal = inl (grind (arith, nat_tests, formal))
      by false formal =
          let past : p.formals ≤ u = grind (arith, nat_tests, formal) in
          let fresh : ¬ Contains (map (local_number g) (writes first.kind)) u =
          (λ written. let less = among_first p.formals u (subst (λ ns. Contains ns u) (written_numbers g at.flow.entry.formals ∙ numbers) written) in omega (arith, past, less)) in
          let live : before at.places.live g.first u ≡ true =
          stays g at.places.live at.has.live closed g.first first there at.flow.entry.next u (0, omega arith, refl)
          (sym (live_is procs graphs found q at at.flow.entry.next u) ∙ is) fresh in
          inr (subst (λ ns. Contains ns u) (sym zeroed_is) ((members_had (set_at at.places.live.before g.first.number) u).1 live))

  -- an Entry writes each formal
  formal_written : (v : ℕ) → v < p.formals → (l : Local) × (local_number g l ≡ v) × Contains (writes first.kind) l
  formal_written v less =
      let there_ : Contains (range_with_len 0 p.formals) v = (v, subst (λ n. v < n) (sym (length-range_with_len 0 p.formals)) less, get_or-range_with_len 0 p.formals v v less ∙ (let e : 0 + v ≡ v = omega arith in e)) in
      let numbered : Contains (map (local_number g) (writes first.kind)) v =
      subst (λ ns. Contains ns v) (sym (written_numbers g at.flow.entry.formals ∙ numbers)) there_ in
      contains_unmapped (local_number g) (writes first.kind) v numbered

  pub has_entry : HasEntry (compiled graphs found) (live_before found) q at.procedure
  has_entry = record {
    exists = exists procs graphs found q at;
    variables = variables_are;
    first = g.first;
    formals = at.flow.entry.formals;
    next = at.flow.entry.next;
    is_first = ap (λ (o : Option Graph). with_some o (λ (g : Graph). Some g.first)) at.is_graph;
    is_entry = kind_is procs graphs found q at g.first ∙ ap (λ (o : Option Node). elim o as (λ _. NodeKind) [ Some node ↦ node.kind | None ↦ Stop ]) there;
    numbered = numbers;
    formals_are_variables = few;
    known = known;
    apart = λ u v is less other. (
        let written = formal_written v less in
        let same : local_number g written.0 ≡ v = written.1 in
        apart_in procs graphs found q at v u
        (λ e. at.has.locals.written g.first first at.flow.entry.next written.0 u there (0, omega arith, refl) written.2
        (writes_local g first.kind written.0 (kind_in_range procs graphs found q at g.first first there) written.2) (sym (live_is procs graphs found q at at.flow.entry.next u) ∙ is) (λ it. other (it ∙ same)) (ap (λ n. place_at at.places.locals n) same ∙ e)));
  }
