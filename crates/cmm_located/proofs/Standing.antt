-- states that wait for the client while it answers, command by command
use Rattle.std.proofs.Common.{◌≡◌, ℕ, arith, List, [], ◌∷◌, map, length, Some, sym, ap, ◌∙◌, subst}
use Rattle.std.specs.Prelude.{true}
use Rattle.std.specs.List.{AllZip}
use Rattle.std.proofs.lemmas.Option.{same_Some}
use Rattle.std.proofs.lemmas.List.{length-map}
use Rattle.cmm_program.specs.Liveness.{is_live_at}
use Rattle.cmm_program.specs.State.{Setting, Activation, Store, stack_top}
use Rattle.cmm_graph.specs.declared.number.NodeId.{NodeId}
use Rattle.cmm_graph.specs.GraphControl.{Position}
use Rattle.cmm_chain.specs.Chain.{IsChain, Suspension}
use Rattle.cmm_chain.specs.Running.{Holdings}
use Rattle.cmm_chain.specs.Walks.{Element, Shows}
use Rattle.cmm_chain.proofs.Shared.{walk_lists_chain}
use Rattle.cmm_located.specs.Answering.{activation_of, listed}
use Rattle.cmm_located.specs.Compiled.{Compiled, Located, bare}
use Rattle.cmm_located.specs.Relation.{AllWait, suspensions}
use Rattle.cmm_located.specs.ShownWalks.{IsToldOf, KnowsLive}
use Rattle.cmm_located.specs.Laws.{HasVariables}
use Rattle.cmm_located.proofs.Asking.{Same}
use Rattle.cmm_located.proofs.Levels.{all_told}
use Rattle.cmm_located.proofs.ShowingWalks.{as_many, value_is_shown}

-- a located state, made of its parts
abbrev pub waiting_of : Store → Holdings → ℕ → NodeId → List ℕ → Located
waiting_of x h q n carried = record {
  store = record x { activations = map bare x.activations };
  holdings = h;
  procedure = q;
  node = n;
  carried = carried;
}

-- A store of the machine over graphs, whose activations all wait at these positions, and a located state that stands for it.
pub record Stands (s : Setting) (c : Compiled) (ps : List Position) (x : Store) (at : Located) : Type 0 where
  pub store : at.store ≡ record x { activations = map bare x.activations }
  pub waits : AllWait c.graphs x.activations ps
  pub chain : IsChain c.plan (stack_top s) at.holdings.contents (suspensions c.graphs x.activations ps) at.holdings.point

-- what the walk shows are the activations of the store, but for dead variables
module _ (s : Setting) (c : Compiled) (counts : HasVariables s c) (knows : KnowsLive s c) (ps : List Position) (x : Store) (h : Holdings) (q : ℕ) (n : NodeId)
    (carried : List ℕ) (waits : AllWait c.graphs x.activations ps) (chain : IsChain c.plan (stack_top s) h.contents (suspensions c.graphs x.activations ps) h.point) where
  abbrev pub At : Located
  At = waiting_of x h q n carried

  same_as : (a : Activation) (t : Suspension) (e : Element) → IsToldOf s a t → Shows c.plan h t e → Same s a (activation_of s c At e)
  same_as a t e told shows =
      let values = (activation_of s c At e).variables in
      record {
        is = ap (λ r. record { procedure = r; variables = values; site = Some e.site }) (shows.procedure ∙ told.procedure)
            ∙ ap (λ o. record { procedure = a.procedure; variables = values; site = o }) (ap (λ m. Some m) shows.site ∙ sym told.site);
        values = λ p m v is_m is_p less live.
            value_is_shown s c At knows a t e told shows p is_p v less (subst (λ k. is_live_at p k v ≡ true) (same_Some m t.site (sym is_m ∙ told.site)) live);
      }

  all_same : (activations : List Activation) (suspended : List Suspension) (elements : List Element) → AllZip (IsToldOf s) activations suspended →
      AllZip (Shows c.plan h) suspended elements → AllZip (Same s) activations (map (activation_of s c At) elements)
  all_same [] [] [] told shows = tt
  all_same (a ∷ older) (t ∷ ts) (e ∷ es) told shows = (same_as a t e told.0 shows.0, all_same older ts es told.1 shows.1)
  all_same [] (t ∷ ts) elements told shows = absurd told
  all_same (a ∷ older) [] elements told shows = absurd told
  all_same [] [] (e ∷ es) told shows = absurd shows
  all_same (a ∷ older) (t ∷ ts) [] told shows = absurd shows

  abbrev pub suspended : List Suspension
  suspended = suspensions c.graphs x.activations ps

  pub told : AllZip (IsToldOf s) x.activations suspended
  told = all_told s c counts x.activations ps waits

  pub lists : AllZip (Shows c.plan h) suspended (listed s c At)
  lists =
      let count : length (map bare x.activations) ≡ length x.activations = length-map x.activations bare in
      let many = as_many s c At knows x.activations suspended told in
      walk_lists_chain c.plan (stack_top s) suspended h (length (map bare x.activations)) chain (omega arith)

  pub same_shown : AllZip (Same s) x.activations (map (activation_of s c At) (listed s c At))
  same_shown = all_same x.activations suspended (listed s c At) told lists
