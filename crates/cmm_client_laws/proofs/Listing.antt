-- What the walk over locations lists depends on procedures and sites alone.
use Rattle.std.proofs.Common.{◌≡◌, ℕ, zero, suc, ◌+◌, ◌≤◌, Bool, List, [], ◌∷◌, length, refl, sym, ap, ◌∙◌, arith}
use Rattle.cmm_chain.specs.Contents.{Content, ReturnTo, LastReturn, Contents}
use Rattle.cmm_chain.specs.Plans.{Plan}
use Rattle.cmm_chain.specs.Chain.{Point, Suspension, IsChain, behind}
use Rattle.cmm_chain.specs.Walks.{Element, Mark, mark_behind, walk, with_value}
use Rattle.cmm_client_laws.specs.Walked.{back_of, mark_to, marked}

pub back_is : (plan : Plan) (top : ℕ) (contents : Contents) (suspended : List Suspension) (p : Point) → IsChain plan top contents suspended p → p.back ≡ back_of suspended
back_is plan top contents [] p chain = chain.1
back_is plan top contents (t ∷ older) p chain = chain.0.back

walk_goes_on : (plan : Plan) (contents : Contents) (n q site : ℕ) (m : Mark) → m.back ≡ ReturnTo q site →
    walk plan contents (suc n) m ≡ record { procedure = q; site = site; mark = m } ∷ walk plan contents n (mark_behind plan contents q m)
walk_goes_on plan contents n q site m is = rw is refl

walk_ends : (plan : Plan) (contents : Contents) (n : ℕ) (m : Mark) → m.back ≡ LastReturn → walk plan contents n m ≡ []
walk_ends plan contents zero m is = refl
walk_ends plan contents (suc n) m is = rw is refl

-- of a chain the walk lists just the suspensions, whichever locals are live
pub walk_is_marked : (plan : Plan) (live : ℕ → ℕ → ℕ → Bool) (top : ℕ) (contents : Contents) (suspended : List Suspension) (p : Point) (m : Mark) (n : ℕ) →
    IsChain (record plan { live = live }) top contents suspended p → m.at ≡ p.at → m.back ≡ p.back → length suspended ≤ n → walk plan contents n m ≡ marked plan suspended m
walk_is_marked plan live top contents [] p m n chain at back le = walk_ends plan contents n m (back ∙ chain.1)
walk_is_marked plan live top contents (t ∷ older) p m zero chain at back le = absurd (omega arith)
walk_is_marked plan live top contents (t ∷ older) p m (suc n) chain at back le =
    let after = behind (record plan { live = live }) contents t.procedure p in
    let next : contents (m.at + (plan.frame t.procedure).return_at) ≡ back_of older =
    ap (λ (a : ℕ). contents (a + (plan.frame t.procedure).return_at)) at ∙ back_is (record plan { live = live }) top contents older after chain.1 in
    let there : mark_behind plan contents t.procedure m ≡ mark_to plan t.procedure (back_of older) m =
    ap (λ (b : Content). mark_to plan t.procedure b m) next in
    let rest = walk_is_marked plan live top contents older after (mark_to plan t.procedure (back_of older) m) n chain.1
    (ap (λ (a : ℕ). a + (plan.frame t.procedure).size) at) (sym (back_is (record plan { live = live }) top contents older after chain.1)) (omega arith) in
    walk_goes_on plan contents n t.procedure t.site m (back ∙ chain.0.back)
    ∙ ap (λ (l : List Element). record { procedure = t.procedure; site = t.site; mark = m } ∷ l) (ap (λ (k : Mark). walk plan contents n k) there ∙ rest)

pub marked_live : (plan : Plan) (live : ℕ → ℕ → ℕ → Bool) (suspended : List Suspension) (m : Mark) → marked (record plan { live = live }) suspended m ≡ marked plan suspended m
marked_live plan live [] m = refl
marked_live plan live (t ∷ older) m =
    ap (λ (l : List Element). record { procedure = t.procedure; site = t.site; mark = m } ∷ l) (marked_live plan live older (mark_to plan t.procedure (back_of older) m))

abbrev listing : Suspension → Mark → List Element → List Element
listing t m rest = record { procedure = t.procedure; site = t.site; mark = m } ∷ rest

-- values make no difference
pub marked_with_value : (plan : Plan) (n v x : ℕ) (suspended : List Suspension) (m : Mark) → marked plan (with_value n v x suspended) m ≡ marked plan suspended m
marked_with_value plan n v x [] m = refl
marked_with_value plan zero v x (t ∷ older) m = refl
marked_with_value plan (suc n) v x (t ∷ older) m =
    ap (λ (b : Content). listing t m (marked plan (with_value n v x older) (mark_to plan t.procedure b m))) (same_back n older)
    ∙ ap (λ (l : List Element). record { procedure = t.procedure; site = t.site; mark = m } ∷ l) (marked_with_value plan n v x older (mark_to plan t.procedure (back_of older) m))
  where
    same_back : (n : ℕ) (older : List Suspension) → back_of (with_value n v x older) ≡ back_of older
    same_back n [] = refl
    same_back zero (t ∷ older) = refl
    same_back (suc n) (t ∷ older) = refl
