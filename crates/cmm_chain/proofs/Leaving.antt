-- control leaves an activation, and comes back to one
use Rattle.std.proofs.Common.{◌≡◌, ◌⊎◌, inl, inr, ℕ, Bool, true, false, Option, Some, None, arith, refl, ◌∙◌}
use Rattle.cmm_chain.specs.declared.frame.Location.{Location}
use Rattle.cmm_chain.specs.declared.frame.Location.TheVariants.{Slot, Saved, Temp}
use Rattle.cmm_abi.specs.Registers.{is_callee_saves}
use Rattle.cmm_chain.specs.Contents.{Number, Contents}
use Rattle.cmm_chain.specs.Plans.{Plan, saved_at}
use Rattle.cmm_chain.specs.Chain.{Point, Suspension, behind, found, restored}
use Rattle.cmm_chain.specs.Running.{Holdings, held, called, lasts}
use Rattle.cmm_chain.specs.Laws.{CallSuspends, LeftIsChain, GoesOnFramed, GoesOnWithValues, IsBackAt}
use Rattle.cmm_chain.proofs.Lasting.{chain_outlives}

-- a place that lasts is found as it is held
found_as_held : (q site : ℕ) (h : Holdings) (l : Location) → lasts l ≡ true → found (called q site h).contents (called q site h).point l ≡ held h l
found_as_held q site h (Slot offset) is = refl
found_as_held q site h (Saved r) is = grind (arith, is)
found_as_held q site h (Temp r) is = grind arith

pub call_suspends : CallSuspends
call_suspends plan top s older h exists ready framed = (
  record {
    exists = exists;
    back = refl;
    values = λ v live. found_as_held s.procedure s.site h (plan.place s.procedure v) (ready v live).0 ∙ (ready v live).1;
    pairs = framed.pairs;
  },
  framed.chain,
)

pub left_is_chain : LeftIsChain
left_is_chain plan top q older h framed = framed.chain

-- ---- control is back

module _ (plan : Plan) (contents : Contents) (s : Suspension) (p : Point) (h : Holdings) (back : IsBackAt plan contents s p h) where
  kept_alike : (r : ℕ) → is_callee_saves r ≡ true → (saved : Option ℕ) → saved_at plan s.procedure r ≡ saved →
      restored plan contents s.procedure p.at p.kept r ≡ restored plan h.contents s.procedure h.point.at h.point.kept r
  kept_alike r is (Some offset) saves = grind (arith, saves, back.stack, back.at)
  kept_alike r is None saves = grind (arith, saves, back.kept r is)

pub goes_on_framed : GoesOnFramed
goes_on_framed plan top contents s older p h chain back = record {
  pairs = record {
    code = λ k offset gives. grind (arith, back.stack, back.at, chain.0.pairs.code k offset gives);
    frame = λ k offset gives. grind (arith, back.stack, back.at, chain.0.pairs.frame k offset gives);
  };
  chain = chain_outlives plan top contents h.contents older (behind plan contents s.procedure p) _
      (record {
        at = grind (arith, back.at);
        back = grind (arith, back.stack, back.at);
        kept = λ r is. kept_alike plan contents s p h back r is (saved_at plan s.procedure r) refl;
      })
      (λ a le. grind (arith, back.stack)) chain.1;
}

-- where a number is found, it is held
held_as_found : (contents : Contents) (p : Point) (h : Holdings) (l : Location) (x : ℕ) → h.contents ≡ contents → h.point.at ≡ p.at →
    ((offset : ℕ) × (l ≡ Slot offset)) ⊎ ((r : ℕ) → is_callee_saves r ≡ true → h.point.kept r ≡ p.kept r) → found contents p l ≡ Number x → held h l ≡ Number x
held_as_found contents p h (Slot offset) x stack at how is = grind (arith, stack, at, is)
held_as_found contents p h (Temp r) x stack at how is = absurd (cc)
held_as_found contents p h (Saved r) x stack at how is = by (is_callee_saves r) refl
  where
    by : (b : Bool) → is_callee_saves r ≡ b → h.point.kept r ≡ Number x
    by true callee_saves = elim how [ inl slot ↦ absurd (cc) | inr same ↦ grind (arith, callee_saves, same r callee_saves, is) ]
    by false other = grind (arith, other, is)

pub goes_on_with_values : GoesOnWithValues
goes_on_with_values plan top contents s older p h v chain back live how =
    held_as_found contents p h (plan.place s.procedure v) (s.values v) back.stack back.at how (chain.0.values v live)
