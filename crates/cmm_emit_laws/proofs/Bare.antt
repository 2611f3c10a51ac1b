-- Activations without values stay so.
use Rattle.std.proofs.Common.{◌≡◌, ℕ, zero, suc, refl, ap, List, [], ◌∷◌, map, drop, Option}
use Rattle.cmm_program.specs.Frames.{with_site}
use Rattle.cmm_program.specs.State.{Activation}
use Rattle.cmm_located.specs.Compiled.{bare}

pub dropped_are_bare : (count : ℕ) (activations : List Activation) → map bare activations ≡ activations → map bare (drop count activations) ≡ drop count activations
dropped_are_bare zero activations are = are
dropped_are_bare (suc count) [] are = refl
dropped_are_bare (suc count) (a ∷ older) are = let rest : map bare older ≡ older = cc in dropped_are_bare count older rest

pub resited_are_bare : (site : Option ℕ) (activations : List Activation) → map bare activations ≡ activations → map bare (with_site site activations) ≡ with_site site activations
resited_are_bare site [] are = refl
resited_are_bare site (a ∷ older) are =
    let rest : map bare older ≡ older = cc in
    let first : bare a ≡ a = cc in
    by (record a { site = site }) (bared a first) older rest
  where
    bared : (a : Activation) → bare a ≡ a → bare (record a { site = site }) ≡ record a { site = site }
    bared a is = ap (λ (z : Activation). record z { site = site }) is

    by : (z : Activation) → bare z ≡ z → (older : List Activation) → map bare older ≡ older → map bare (z ∷ older) ≡ z ∷ older
    by z first older rest = cc
