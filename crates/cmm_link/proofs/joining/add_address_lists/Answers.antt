use Rattle.std.proofs.Common.{◌≡◌, ℕ, ◌+◌, ◌++◌, ◌∷◌, [], List, ap, map, sym, take, ◌∙◌, append_assoc}
use Rattle.std.proofs.lemmas.List.{map_more}
use Rattle.cmm_link.proofs.joining.add_address_lists.Goals as goal

pub loop-offsets-preserved : goal.loop-offsets-preserved
loop-offsets-preserved c =
    let moved : List ℕ → List ℕ = λ offsets. map (λ offset. c.args.at + offset) offsets in
    let lists = c.args.lists.now in
    let i = c.loop-offsets.offsets-index in
    let offsets = c.offsets-item.result in
    let before = map moved (take i lists) in
    let made : c.add_addresses.new.found ≡ moved offsets =
    c.in_ok-add_addresses.ensures ∙ (ap (λ (found : List ℕ). found ++ moved c.as_slice.result.now) c.new-moved.ensures ∙ ap moved c.as_slice.ensures) in
    c.in_ok-push.ensures.ok
    ∙ (ap (λ (found : List (List ℕ)). found ++ c.add_addresses.new.found ∷ []) c.loop-offsets.invariant
    ∙ (append_assoc c.args.found.now before (c.add_addresses.new.found ∷ [])
    ∙ (ap (λ (added : List ℕ). c.args.found.now ++ (before ++ added ∷ [])) (made ∙ ap moved c.offsets-item.is)
    ∙ ap (λ (added : List (List ℕ)). c.args.found.now ++ added) (sym (map_more moved lists i offsets c.loop-offsets-test.true)))))
