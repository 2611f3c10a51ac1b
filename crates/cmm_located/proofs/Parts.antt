-- related states that run, taken apart
use Rattle.std.proofs.Common.{◌≡◌, ℕ, List, [], ◌∷◌, map, refl, sym, ap, ◌∙◌, subst}
use Rattle.cmm_program.specs.Control.{State}
use Rattle.cmm_program.specs.State.{Setting, Activation, Store, Running}
use Rattle.cmm_graph.specs.declared.number.NodeId.{NodeId}
use Rattle.cmm_graph.specs.GraphControl.{Position}
use Rattle.cmm_chain.specs.Running.{Holdings}
use Rattle.cmm_located.specs.Compiled.{Compiled, Located, bare}
use Rattle.cmm_located.specs.Relation.{Liveness, IsRunning, IsStanding, Related, Runs}

-- a state of each machine that runs, made of its parts
abbrev pub running : Store → List Activation → Store
running store activations = record store { activations = activations; status = Running }

abbrev pub position_of : Activation → Position → Position
position_of a p = record p { procedure = a.procedure }

abbrev pub state_of : Store → Activation → List Activation → Position → List Position → State Position
state_of store a older p ps = record { store = running store (a ∷ older); controls = position_of a p ∷ ps }

abbrev pub located_of : Store → Activation → List Activation → NodeId → Holdings → List ℕ → Located
located_of store a older n h carried = record {
  store = running store (map bare (a ∷ older));
  holdings = h;
  procedure = a.procedure;
  node = n;
  carried = carried;
}

module _ (s : Setting) (c : Compiled) (live : Liveness) (P : State Position → Located → Type 0) (st : State Position) (at : Located)
    (runs : (store : Store) (a : Activation) (older : List Activation) (p : Position) (ps : List Position) (h : Holdings) (carried : List ℕ) →
    Runs s c live a older (position_of a p) ps (located_of store a older p.node h carried) → P (state_of store a older p ps) (located_of store a older p.node h carried)) where
  by_lists : (activations : List Activation) (controls : List Position) → st.store.status ≡ Running → st.store.activations ≡ activations → st.controls ≡ controls →
      at.store ≡ record st.store { activations = at.store.activations } → IsRunning s c live activations controls at → P st at
  by_lists (a ∷ older) (p ∷ ps) status is_a is_p is_store is =
      let is_state : st ≡ state_of st.store a older p ps =
      ap (λ as_. record { store = record st.store { activations = as_ }; controls = st.controls }) is_a
      ∙ (ap (λ status. record { store = record st.store { activations = a ∷ older; status = status }; controls = st.controls }) status
      ∙ (ap (λ cs. record { store = running st.store (a ∷ older); controls = cs }) is_p
      ∙ ap (λ q. record { store = running st.store (a ∷ older); controls = record p { procedure = q } ∷ ps }) is.procedure)) in
      let is_located : at ≡ located_of st.store a older p.node at.holdings at.carried =
      ap (λ store. record at { store = store }) is_store
      ∙ (ap (λ as_. record at { store = record st.store { activations = as_ } }) is.ghosts
      ∙ (ap (λ status. record at { store = record st.store { activations = map bare (a ∷ older); status = status } }) status
      ∙ (ap (λ q. record at { store = running st.store (map bare (a ∷ older)); procedure = q }) is.same
      ∙ ap (λ n. record at { store = running st.store (map bare (a ∷ older)); procedure = a.procedure; node = n }) is.node))) in
      subst (λ x. P x at) (sym is_state) (subst (λ y. P (state_of st.store a older p ps) y) (sym is_located)
      (runs st.store a older p ps at.holdings at.carried record {
        ghosts = refl;
        procedure = refl;
        same = refl;
        node = refl;
        exists = is.exists;
        variables = is.variables;
        values = is.values;
        framed = is.framed;
        waits = is.waits;
      }))
  by_lists [] ps status is_a is_p is_store is = absurd is
  by_lists (a ∷ older) [] status is_a is_p is_store is = absurd is

  -- what holds of states that are made of their parts holds of any
  pub by_parts : st.store.status ≡ Running → Related s c live st at → P st at
  by_parts status related =
      by_lists st.store.activations st.controls status refl refl related.store (subst (λ status. IsStanding s c live status st at) status related.stands)
