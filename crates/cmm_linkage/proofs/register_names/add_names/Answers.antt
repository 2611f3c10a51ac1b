use Rattle.std.proofs.Common.{List, [], ◌∷◌, ℕ, map, subst, sym, take}
use Rattle.cmm_static_semantics.proofs.Shared.{mapped_next}
use Rattle.cmm_linkage.specs.inside.Linkages.{AreAdded, names_shown}
use Rattle.cmm_linkage.proofs.Gathering.{both_added}
use Rattle.cmm_linkage.proofs.register_names.add_names.Goals as goal

pub loop-register-preserved : goal.loop-register-preserved
loop-register-preserved c =
    let before = map (λ r. r.name.now.name) (take c.loop-register.register-index c.args.registers.now) in
    let first = names_shown c.args.to.now in
    let now = names_shown c.loop-register.to in
    let next = names_shown c.add_name.new.to in
    let own = c.register-item.result.name.now.name in record {
      names = subst (λ (names : List (List ℕ)). AreAdded names first next)
          (sym (mapped_next (λ r. r.name.now.name) c.args.registers.now c.loop-register.register-index c.register-item.result c.loop-register-test.true c.register-item.is))
          (both_added before (own ∷ []) first now next c.loop-register.invariant.names (subst (λ (n : List ℕ). AreAdded (n ∷ []) now next) c.as_bytes.ensures c.in_ok-add_name.ensures.names));
      fits = c.in_ok-add_name.ensures.fits;
    }
