-- the client sets a variable of an activation that waits: its place takes the value
use Rattle.std.proofs.Common.{◌≡◌, ℕ, zero, suc, ◌-◌, ◌<◌, List, [], ◌∷◌, map, drop, slice_get, Option, Some, None, refl, sym, ap, ◌∙◌, subst}
use Rattle.std.specs.List.{AllZip}
use Rattle.std.proofs.lemmas.List.{length-set}
use Rattle.cmm_program.specs.Client.{with_value}
use Rattle.cmm_program.specs.State.{Activation}
use Rattle.cmm_graph.specs.declared.graph.Graph.{Graph}
use Rattle.cmm_graph.specs.GraphControl.{Position}
use Rattle.cmm_chain.specs.Chain.{Suspension}
use Rattle.cmm_chain.specs.Contents.{Number}
use Rattle.cmm_chain.specs.Laws.{AreAlive}
use Rattle.cmm_chain.specs.Plans.{Plan}
use Rattle.cmm_chain.specs.Running.{Holdings}
use Rattle.cmm_chain.specs.Walks as chain
use Rattle.cmm_chain.specs.Walks.{Element, Shows, Spot, shown_at}
use Rattle.cmm_located.specs.Compiled.{bare}
use Rattle.cmm_located.specs.Relation.{AllWait, suspensions, variable_count}
use Rattle.cmm_located.proofs.Staying.{variable_value}

-- ---- lists

pub drop_get : {A : Type 0} (m : ℕ) (xs : List A) (x : A) (rest : List A) → drop m xs ≡ x ∷ rest → slice_get xs m ≡ Some x
drop_get zero (y ∷ ys) x rest is = cc (is)
drop_get (suc m) (y ∷ ys) x rest is = drop_get m ys x rest is
drop_get zero [] x rest is = absurd (cc (is))
drop_get (suc m) [] x rest is = absurd (cc (is))

none_suspended : (graphs : List Graph) (xs : List Activation) → suspensions graphs xs [] ≡ []
none_suspended graphs [] = refl
none_suspended graphs (x ∷ xs) = refl

pub drop_suspensions : (graphs : List Graph) (m : ℕ) (xs : List Activation) (ps : List Position) →
    drop m (suspensions graphs xs ps) ≡ suspensions graphs (drop m xs) (drop m ps)
drop_suspensions graphs zero xs ps = refl
drop_suspensions graphs (suc m) [] ps = refl
drop_suspensions graphs (suc m) (x ∷ xs) [] = sym (none_suspended graphs (drop m xs))
drop_suspensions graphs (suc m) (x ∷ xs) (p ∷ ps) = drop_suspensions graphs m xs ps

-- the element of the walk that shows an activation
pub element_at : (plan : Plan) (h : Holdings) (m : ℕ) (suspended : List Suspension) (elements : List Element) (t : Suspension) (rest : List Suspension) →
    AllZip (Shows plan h) suspended elements → drop m suspended ≡ t ∷ rest → (e : Element) × (slice_get elements m ≡ Some e) × Shows plan h t e
element_at plan h zero (u ∷ us) (e ∷ es) t rest shows is = (e, refl, subst (λ x. Shows plan h x e) (cc (is)) shows.0)
element_at plan h (suc m) (u ∷ us) (e ∷ es) t rest shows is = element_at plan h m us es t rest shows.1 is
element_at plan h zero [] es t rest shows is = absurd (cc (is))
element_at plan h (suc m) [] es t rest shows is = absurd (cc (is))
element_at plan h m (u ∷ us) [] t rest shows is = absurd shows

-- what has a number stands somewhere
pub spot_is : (h : Holdings) (o : Option Spot) (v : ℕ) → shown_at h o ≡ Number v → (spot : Spot) × (o ≡ Some spot)
spot_is h (Some spot) v is = (spot, refl)
spot_is h None v is = absurd (cc (is))

-- ---- an activation with another value

pub bare_with_value : (m n v : ℕ) (xs : List Activation) → map bare (with_value m n v xs) ≡ map bare xs
bare_with_value m n v [] = refl
bare_with_value zero n v (x ∷ xs) = refl
bare_with_value (suc m) n v (x ∷ xs) = ap (λ l. bare x ∷ l) (bare_with_value m n v xs)

pub waits_with_value : (graphs : List Graph) (m n v : ℕ) (xs : List Activation) (ps : List Position) → AllWait graphs xs ps → AllWait graphs (with_value m n v xs) ps
waits_with_value graphs m n v [] [] waits = waits
waits_with_value graphs zero n v (x ∷ xs) (p ∷ ps) waits = (
  record {
    procedure = waits.0.procedure;
    variables = length-set x.variables n v ∙ waits.0.variables;
    site = waits.0.site;
    is_site = waits.0.is_site;
    stands = waits.0.stands;
  },
  waits.1,
)
waits_with_value graphs (suc m) n v (x ∷ xs) (p ∷ ps) waits = (waits.0, waits_with_value graphs m n v xs ps waits.1)
waits_with_value graphs m n v [] (p ∷ ps) waits = absurd waits
waits_with_value graphs m n v (x ∷ xs) [] waits = absurd waits

same_alive : (plan : Plan) (ts : List Suspension) → AllZip (AreAlive plan) ts ts
same_alive plan [] = tt
same_alive plan (t ∷ ts) = (record { procedure = refl; site = refl; values = λ v live. refl }, same_alive plan ts)

-- its suspension has the other value
pub alive_with_value : (graphs : List Graph) (plan : Plan) (m n v : ℕ) (xs : List Activation) (ps : List Position) (f : Activation) (fs : List Activation) → AllWait graphs xs ps →
    drop m xs ≡ f ∷ fs → n < variable_count graphs f.procedure →
    AllZip (AreAlive plan) (chain.with_value m n v (suspensions graphs xs ps)) (suspensions graphs (with_value m n v xs) ps)
alive_with_value graphs plan zero n v (x ∷ xs) (p ∷ ps) f fs waits is less =
    let same : f ≡ x = cc (is) in
    let below : n < variable_count graphs x.procedure = subst (λ (a : Activation). n < variable_count graphs a.procedure) same less in (
      record {
        procedure = refl;
        site = refl;
        values = λ u live. variable_value (variable_count graphs x.procedure) n v u x.variables
            (λ w. p.temporaries (record { number = w - variable_count graphs x.procedure })) below waits.0.variables;
      },
      same_alive plan (suspensions graphs xs ps),
    )
alive_with_value graphs plan (suc m) n v (x ∷ xs) (p ∷ ps) f fs waits is less =
    (record { procedure = refl; site = refl; values = λ u live. refl }, alive_with_value graphs plan m n v xs ps f fs waits.1 is less)
alive_with_value graphs plan zero n v [] ps f fs waits is less = absurd (cc (is))
alive_with_value graphs plan (suc m) n v [] ps f fs waits is less = absurd (cc (is))
alive_with_value graphs plan m n v (x ∷ xs) [] f fs waits is less = absurd waits
