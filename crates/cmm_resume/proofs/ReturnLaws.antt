-- A return, by what stands at the first point of the chain.
use Rattle.std.proofs.Common.{◌≡◌, ℕ, List, Err, Ok, [], ap, sym, ◌∙◌}
use Rattle.cmm_rules.specs.declared.rule.Rule.TheVariants.{NoActivation}
use Rattle.rv_table.specs.Machine.{State}
use Rattle.cmm_abi.specs.Regions.{Region}
use Rattle.cmm_program.specs.Commands.{Tears, at_first, resumed, returning}
use Rattle.cmm_image.specs.declared.parts.ImageParts.{ImageParts}
use Rattle.cmm_image_machine.specs.Changes.{return_exit}
use Rattle.cmm_image_machine.specs.Frames.{Activation, Broken, Found, Nothing, along, chain_from, first_point, found_at}
use Rattle.cmm_image_machine.specs.Machine.{askable}
use Rattle.cmm_program.specs.Asking.{Break}
use Rattle.cmm_image_machine.specs.Frames.{Element}
use Rattle.cmm_image.specs.Images.{IsImage}
use Rattle.cmm_image_machine.proofs.Shared.{chain_goes_on, images_keep_frames}
use Rattle.cmm_resume.specs.Answering.{Change}

module _ (i : ImageParts) (h : IsImage i) (r : Region) (s : State) (exit : ℕ) (values : List ℕ) where
  -- the return, by what stands there
  abbrev from : Found → Change
  from f = at_first (along (chain_from i r s.memory) s.memory f) (λ a. resumed (return_exit r s a exit) values)

  begins : (f : Found) → f ≡ found_at i r (first_point s) → returning (askable i r) s exit values ≡ from f
  begins f is =
      ap (λ chain. at_first chain (λ a. resumed (return_exit r s a exit) values)) (chain_goes_on i r s.memory (first_point s) (images_keep_frames i h))
      ∙ ap from (sym is)

  pub returns_there : (e : Element) → Activation e ≡ found_at i r (first_point s) → returning (askable i r) s exit values ≡ resumed (return_exit r s e exit) values
  returns_there e is = begins (Activation e) is

  pub returns_nowhere : Nothing ≡ found_at i r (first_point s) → returning (askable i r) s exit values ≡ Err NoActivation
  returns_nowhere is = begins Nothing is

  pub return_tears : (b : Break) → Broken b ≡ found_at i r (first_point s) → returning (askable i r) s exit values ≡ Ok record { text = []; after = Tears b }
  return_tears b is = begins (Broken b) is
