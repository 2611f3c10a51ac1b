-- the walk lists the activations of a chain
use Rattle.std.proofs.Common.{◌≡◌, ℕ, zero, suc, ◌+◌, ◌≤◌, Bool, true, false, List, [], ◌∷◌, drop, length, Option, Some, None, arith, refl, sym, ap, ◌∙◌, subst}
use Rattle.std.specs.Prelude.{slice_get}
use Rattle.std.specs.List.{AllZip}
use Rattle.cmm_chain.specs.declared.frame.Location.{Location}
use Rattle.cmm_chain.specs.declared.frame.Location.TheVariants.{Slot, Saved, Temp}
use Rattle.cmm_abi.specs.Registers.{is_callee_saves}
use Rattle.cmm_chain.specs.Contents.{ReturnTo, LastReturn, Contents}
use Rattle.cmm_chain.specs.Plans.{Plan, saved_at}
use Rattle.cmm_chain.specs.Chain.{Point, Suspension, IsChain, behind, found, restored}
use Rattle.cmm_chain.specs.Running.{Holdings}
use Rattle.cmm_chain.specs.Walks.{Mark, first_mark, moved, mark_behind, Element, walk, spot_of, content_at, shown_at, Shows}
use Rattle.cmm_chain.specs.Laws.{WalkListsChain, UnwoundIsChain}
use Rattle.cmm_chain.proofs.Lasting.{chain_outlives}

-- a mark stands at a point
pub record Stands (h : Holdings) (m : Mark) (p : Point) : Type 0 where
  pub at : m.at ≡ p.at
  pub back : m.back ≡ p.back
  pub registers : (r : ℕ) → content_at h (m.registers r) ≡ p.kept r

pub stands_first : (h : Holdings) → Stands h (first_mark h.point) h.point
stands_first h = record { at = refl; back = refl; registers = λ r. refl }

pub stands_behind : (plan : Plan) (h : Holdings) (m : Mark) (p : Point) (q : ℕ) → Stands h m p → Stands h (mark_behind plan h.contents q m) (behind plan h.contents q p)
stands_behind plan h m p q stands = record {
  at = ap (λ a. a + (plan.frame q).size) stands.at;
  back = ap (λ a. h.contents (a + (plan.frame q).return_at)) stands.at;
  registers = λ r. by r (saved_at plan q r) refl;
}
  where
    by : (r : ℕ) (saved : Option ℕ) → saved_at plan q r ≡ saved → content_at h (moved plan q m.at m.registers r) ≡ restored plan h.contents q p.at p.kept r
    by r (Some offset) saves = grind (arith, saves, stands.at)
    by r None saves = grind (arith, saves, stands.registers r)

shown_as_found : (h : Holdings) (m : Mark) (p : Point) (l : Location) → Stands h m p → shown_at h (spot_of m l) ≡ found h.contents p l
shown_as_found h m p (Slot offset) stands = ap (λ a. h.contents (a + offset)) stands.at
shown_as_found h m p (Saved r) stands = by (is_callee_saves r) refl
  where
    by : (b : Bool) → is_callee_saves r ≡ b → shown_at h (spot_of m (Saved r)) ≡ found h.contents p (Saved r)
    by true is = grind (arith, is, stands.registers r)
    by false is = grind (arith, is)
shown_as_found h m p (Temp r) stands = refl

-- ---- where the walk goes on, and where it ends

pub walk_goes_on : (plan : Plan) (contents : Contents) (n q site : ℕ) (m : Mark) → m.back ≡ ReturnTo q site →
    walk plan contents (suc n) m ≡ record { procedure = q; site = site; mark = m } ∷ walk plan contents n (mark_behind plan contents q m)
walk_goes_on plan contents n q site m is = rw is refl

pub walk_ends : (plan : Plan) (contents : Contents) (n : ℕ) (m : Mark) → m.back ≡ LastReturn → walk plan contents n m ≡ []
walk_ends plan contents zero m is = refl
walk_ends plan contents (suc n) m is = rw is refl

-- ---- all are listed

module _ (plan : Plan) (top : ℕ) (h : Holdings) where
  lists : (suspended : List Suspension) (p : Point) (m : Mark) (n : ℕ) → IsChain plan top h.contents suspended p → Stands h m p → length suspended ≤ n →
      AllZip (Shows plan h) suspended (walk plan h.contents n m)
  lists [] p m n chain stands le = rw (walk_ends plan h.contents n m (stands.back ∙ chain.1)) tt
  lists (s ∷ older) p m zero chain stands le = absurd (omega arith)
  lists (s ∷ older) p m (suc n) chain stands le =
      let rest = lists older (behind plan h.contents s.procedure p) (mark_behind plan h.contents s.procedure m) n chain.1
      (stands_behind plan h m p s.procedure stands) (omega arith) in
      let first : Shows plan h s (record { procedure = s.procedure; site = s.site; mark = m }) = record {
        procedure = refl;
        site = refl;
        values = λ v live. shown_as_found h m p (plan.place s.procedure v) stands ∙ chain.0.values v live;
      } in
      rw (walk_goes_on plan h.contents n s.procedure s.site m (stands.back ∙ chain.0.back)) (first, rest)

  -- the point of an activation that is listed
  pub record Reached (suspended : List Suspension) (e : Element) : Type 0 where
    pub point : Point
    pub stands : Stands h e.mark point
    pub chain : IsChain plan top h.contents suspended point

  pub reached : (suspended : List Suspension) (p : Point) (m : Mark) (n i : ℕ) (e : Element) → IsChain plan top h.contents suspended p → Stands h m p →
      slice_get (walk plan h.contents n m) i ≡ Some e → Reached (drop i suspended) e
  reached suspended p m zero i e chain stands gives = absurd (cc)
  reached [] p m (suc n) i e chain stands gives =
      let ends = walk_ends plan h.contents (suc n) m (stands.back ∙ chain.1) in
      absurd (by (walk plan h.contents (suc n) m) ends gives)
    where
      by : (listed : List Element) → listed ≡ [] → slice_get listed i ≡ Some e → ⊥
      by [] is some = cc
      by (x ∷ xs) is some = cc
  reached (s ∷ older) p m (suc n) zero e chain stands gives =
      let goes_on = walk_goes_on plan h.contents n s.procedure s.site m (stands.back ∙ chain.0.back) in
      let some : Some (record { procedure = s.procedure; site = s.site; mark = m }) ≡ Some e = sym (ap (λ l. slice_get l 0) goes_on) ∙ gives in
      let here : record { procedure = s.procedure; site = s.site; mark = m } ≡ e = cc in
      record { point = p; stands = subst (λ (x : Element). Stands h x.mark p) here stands; chain = chain }
  reached (s ∷ older) p m (suc n) (suc i) e chain stands gives =
      let goes_on = walk_goes_on plan h.contents n s.procedure s.site m (stands.back ∙ chain.0.back) in
      reached older (behind plan h.contents s.procedure p) (mark_behind plan h.contents s.procedure m) n i e chain.1
      (stands_behind plan h m p s.procedure stands) (sym (ap (λ l. slice_get l (suc i)) goes_on) ∙ gives)

pub walk_lists_chain : WalkListsChain
walk_lists_chain plan top suspended h n chain le = lists plan top h suspended h.point (first_mark h.point) n chain (stands_first h) le

pub unwound_is_chain : UnwoundIsChain
unwound_is_chain plan top suspended h n m e chain gives =
    let there = reached plan top h suspended h.point (first_mark h.point) n m e chain (stands_first h) gives in
    chain_outlives plan top h.contents h.contents (drop m suspended) there.point _
    (record { at = sym there.stands.at; back = sym there.stands.back; kept = λ r is. sym (there.stands.registers r) }) (λ a le. refl) there.chain
