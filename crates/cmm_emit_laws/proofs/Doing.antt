-- A step that code does.
use Rattle.std.proofs.Common.{◌≡◌, ℕ, ◌+◌, ◌≤◌, refl, sym, ◌∙◌, ap, subst, arith, List, length, Option, Some, None, IsTrue, slice_get}
use Rattle.std.specs.List.{All}
use Rattle.std.proofs.lemmas.Bool.Decides.{nat_tests}
use Rattle.rv_table.specs.Bounds.{IsSound}
use Rattle.rv_table.specs.Machine.{State}
use Rattle.rv_asm.specs.Reaching.{Reaches}
use Rattle.cmm_chain.specs.Running.{Holdings}
use Rattle.cmm_program.specs.State as p
use Rattle.cmm_program.specs.State.{Setting, Store}
use Rattle.cmm_graph.specs.declared.number.NodeId.{NodeId}
use Rattle.cmm_graph.specs.declared.node.Node.{Node}
use Rattle.cmm_graph.specs.declared.graph.Graph.{Graph}
use Rattle.cmm_graph.specs.GraphControl.{in_graph}
use Rattle.cmm_graph.specs.Paths.{node_of}
use Rattle.cmm_graph.specs.Ranges.{IsValid, is_step, leads_to}
use Rattle.cmm_effects.specs.Changes.{Keeps}
use Rattle.cmm_image_machine.specs.Machine.{Launch, map_of}
use Rattle.cmm_program.specs.Memory.{IsByte}
use Rattle.cmm_emit_laws.specs.Outside.{Outside}
use Rattle.cmm_emit_laws.specs.Serving.{IsDoneBy, Silently}
use Rattle.cmm_emit_laws.proofs.Showing.{holdings_same}
use Rattle.cmm_emit_laws.proofs.Leaving.{moved_shows}
use Rattle.cmm_emit_laws.specs.Represented.{IsFor, IsRepresented, stack_region}
use Rattle.cmm_located.specs.Compiled.{Compiled, Located}
use Rattle.cmm_located.specs.LocatedMachine.{located_machine, located_step, tokens_at}
use Rattle.cmm_emit_laws.proofs.Nodes.{found_there, is_inside, led_to, node_holds}
use Rattle.cmm_emit_laws.specs.Finished.{Finished}
use Rattle.cmm_emit_laws.specs.Standing.{AreBare, IsInBody, IsOfRun, Stands, outside_at}

-- nothing is changed but scratch registers
pub kept_shown : (f : Finished) (rest : ℕ → ℕ) (s : Setting) (l : Launch) → IsFor s (map_of l) → (h : Holdings) (store : Store) (carried : List ℕ) (t u : State) → Keeps t u →
    IsRepresented f.symbols rest s h store carried t → IsRepresented f.symbols rest s h store carried u
kept_shown f rest s l is_for h store carried t u keeps shown =
    moved_shows f.symbols rest s (map_of l) is_for h h store carried 0 t u shown keeps.memory refl
    (holdings_same f.symbols (stack_region s) h t.registers u.registers keeps.registers shown.holdings)
    (λ i less. keeps.registers (10 + i) (grind (arith, nat_tests, less))) shown.at

module _ (s : Setting) (c : Compiled) (l : Launch) (f : Finished) (rest : ℕ → ℕ) where
  -- a step to a state is done, which stands at a node
  pub record IsDone (at : Located) (cost : ℕ) (t : State) (after : Located) : Type 0 where
    pub tokens : 1 ≤ tokens_at s c after
    pub registers : length after.store.registers ≡ length at.store.registers
    pub bytes : All IsByte at.store.input → All IsByte after.store.input
    pub are_bare : AreBare at → AreBare after
    pub by_code : located_step s c at ≡ after → IsDoneBy (located_machine s c) l outside_at (Stands s c l f rest) (IsOfRun s c) at cost t

  pub silently : (at : Located) (cost : ℕ) (t : State) (after : Located) → 1 ≤ tokens_at s c after → outside_at after ≡ outside_at at →
      length after.store.registers ≡ length at.store.registers → (AreBare at → AreBare after) → Reaches (map_of l) 1 cost t (Stands s c l f rest after) → IsDone at cost t after
  silently at cost t after tokens same count are_bare reaches = record {
    tokens = tokens;
    registers = count;
    bytes = subst (All IsByte) (sym (ap (λ (o : Outside). o.input) same));
    are_bare = are_bare;
    by_code = λ e. Silently (ap outside_at e ∙ same) (subst (λ (z : Located). Reaches (map_of l) 1 cost t (Stands s c l f rest z)) (sym e) reaches);
  }

  -- ---- where control goes on at a node

  module _ (at : Located) (g : Graph) (is_graph : slice_get c.graphs at.procedure ≡ Some g) (valid : IsValid g) (m : NodeId) (leads : IsTrue (leads_to g is_step m)) where
    there : (node : Node) × (node_of g m ≡ Some node) × IsTrue (is_step node.kind)
    there = led_to g is_step m leads

    is_there : in_graph c.graphs at.procedure (λ g. node_of g m) ≡ Some there.0
    is_there = found_there c.graphs at.procedure (λ g. node_of g m) g is_graph ∙ there.1

    pub tokens_there : 1 ≤ tokens_at s c (record at { node = m })
    tokens_there =
        let e : tokens_at s c (record at { node = m }) ≡ there.0.tokens = ap (λ (o : Option Node). elim o [ Some node ↦ node.tokens | None ↦ 0 ]) is_there in
        let some : 1 ≤ there.0.tokens = (node_holds g m there.0 valid there.1).0 in
        omega (arith, e, some)

    pub stands_there : (u : State) → at.store.status ≡ p.Running → IsInBody at → IsRepresented f.symbols rest s at.holdings at.store at.carried u →
        u.pc ≡ f.node_at at.procedure m → IsSound u → Stands s c l f rest (record at { node = m }) u
    stands_there u running body shown pc sound = record {
      running = running;
      node = there.0;
      there = is_there;
      inside = is_inside there.0.kind there.2 (record at { node = m })
          (record { activation = body.activation; older = body.older; youngest = body.youngest; same = body.same; carried = body.carried });
      shown = shown;
      pc = pc;
      sound = sound;
    }
