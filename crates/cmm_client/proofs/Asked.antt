-- The activation that is sought.
use Rattle.std.proofs.Common.{◌≡◌, ◌==◌, Bool, true, false, ℕ, refl, ap, ◌∙◌}
use Rattle.rv_table.specs.Machine.{State}
use Rattle.cmm_abi.specs.Regions.{Region}
use Rattle.cmm_program.specs.Asking.{Chain}
use Rattle.cmm_program.specs.Commands.{Asked, sought, span_value, stands}
use Rattle.cmm_image.specs.declared.parts.ImageParts.{ImageParts}
use Rattle.cmm_image.specs.Images.{IsImage}
use Rattle.cmm_image_machine.specs.Frames.{Activation, Element, Found, found_at, older_than, point_after}
use Rattle.cmm_image_machine.specs.Machine.{askable}
use Rattle.cmm_image_machine.proofs.Shared.{chain_goes_on, images_keep_frames}
use Rattle.cmm_walk.specs.Shown.{spans_of}
use Rattle.cmm_walk.proofs.Shared.{rest_of}

older_is : (i : ImageParts) → IsImage i → (r : Region) (s : State) (e : Element) → older_than i r s e ≡ rest_of i r s (found_at i r (point_after s.memory e))
older_is i h r s e = chain_goes_on i r s.memory (point_after s.memory e) (images_keep_frames i h)

-- the search along what stands at a point, and what is behind
abbrev pub sought_along : ImageParts → Region → State → ℕ → ℕ → Found → Asked Element State State
sought_along i r s token value f = let chain = rest_of i r s f in sought (askable i r) s token value chain.broken chain.activations

module _ (i : ImageParts) (h : IsImage i) (r : Region) (s : State) (token value : ℕ) where
  chosen : (b : Bool) (e : Element) (rest : Asked Element State State) → b ≡ false → ◌≡◌ {A = Asked Element State State} (elim b [ true ↦ stands (askable i r) s e | false ↦ rest ]) rest
  chosen true e rest is = absurd cc
  chosen false e rest is = refl

  -- an activation with another descriptor is passed
  pub passes : (e : Element) → (span_value token (spans_of e) == value) ≡ false → sought_along i r s token value (Activation e) ≡ sought_along i r s token value (found_at i r (point_after s.memory e))
  passes e other =
      chosen _ e _ other
      ∙ ap (λ (chain : Chain Element). sought (askable i r) s token value chain.broken chain.activations) (older_is i h r s e)
