-- what a chain outlives, and what it speaks of
use Rattle.std.proofs.Common.{◌≡◌, ℕ, ◌+◌, ◌≤◌, [], ◌∷◌, arith, refl, subst}
use Rattle.cmm_chain.specs.declared.frame.Location.{Location}
use Rattle.cmm_chain.specs.declared.frame.Location.TheVariants.{Slot, Saved, Temp}
use Rattle.cmm_chain.specs.Contents.{Contents}
use Rattle.cmm_chain.specs.Plans.{Plan}
use Rattle.cmm_chain.specs.Chain.{Point, Suspension, IsChain, IsSuspended, HasPairs, behind, found}
use Rattle.cmm_chain.specs.Laws.{Alike, AreAlive, ChainOutlives, LiveAlone, FramesReachTop}

module _ (plan : Plan) (before after : Contents) (p q : Point) (alike : Alike p q) (above : (a : ℕ) → p.at ≤ a → before a ≡ after a) where
  found_alike : (place : Location) → found before p place ≡ found after q place
  found_alike (Slot offset) = grind (arith, alike.at, above (p.at + offset))
  found_alike (Saved r) = grind (arith, alike.kept r)
  found_alike (Temp r) = refl

  behind_alike : (proc : ℕ) → Alike (behind plan before proc p) (behind plan after proc q)
  behind_alike proc = record {
    at = grind (arith, alike.at);
    back = grind (arith, alike.at, above (p.at + (plan.frame proc).return_at));
    kept = λ r is. grind (arith, alike.at, alike.kept r is, above);
  }

  pairs_alike : (proc : ℕ) → HasPairs (plan.frame proc) before proc p.at → HasPairs (plan.frame proc) after proc q.at
  pairs_alike proc has = record {
    code = λ k offset is. grind (arith, alike.at, above (p.at + offset), has.code k offset is);
    frame = λ k offset is. grind (arith, alike.at, above (p.at + (offset + 8)), has.frame k offset is);
  }

  suspended_alike : (s : Suspension) → IsSuspended plan before s p → IsSuspended plan after s q
  suspended_alike s is = record {
    exists = is.exists;
    back = grind (arith, alike.back, is.back);
    values = λ v live. grind (arith, found_alike (plan.place s.procedure v), is.values v live);
    pairs = pairs_alike s.procedure is.pairs;
  }

pub chain_outlives : ChainOutlives
chain_outlives plan top before after [] p q alike above is = (grind (arith, alike.at), grind (arith, alike.back))
chain_outlives plan top before after (s ∷ older) p q alike above is = (
  suspended_alike plan before after p q alike above s is.0,
  chain_outlives plan top before after older _ _ (behind_alike plan before after p q alike above s.procedure) (λ a le. above a (omega arith)) is.1,
)

suspended_alive : (plan : Plan) (contents : Contents) (s t : Suspension) (p : Point) → AreAlive plan s t → IsSuspended plan contents s p → IsSuspended plan contents t p
suspended_alive plan contents s t p alive is = record {
  exists = grind (arith, alive.procedure, is.exists);
  back = grind (arith, alive.procedure, alive.site, is.back);
  values = λ v live. grind (arith, alive.procedure, alive.site, alive.values v, is.values v);
  pairs = subst (λ q. HasPairs (plan.frame q) contents q p.at) alive.procedure is.pairs;
}

pub live_alone : LiveAlone
live_alone plan top contents [] [] p alive is = is
live_alone plan top contents (s ∷ older) (t ∷ others) p alive is = (
  suspended_alive plan contents s t p alive.0 is.0,
  live_alone plan top contents older others (behind plan contents t.procedure p) alive.1
      (subst (λ q. IsChain plan top contents older (behind plan contents q p)) alive.0.procedure is.1),
)
live_alone plan top contents [] (t ∷ others) p alive is = absurd alive
live_alone plan top contents (s ∷ older) [] p alive is = absurd alive

pub frames_reach_top : FramesReachTop
frames_reach_top plan top contents [] p chain = grind (arith, chain.0)
frames_reach_top plan top contents (s ∷ older) p chain =
    omega (arith, frames_reach_top plan top contents older (behind plan contents s.procedure p) chain.1)
