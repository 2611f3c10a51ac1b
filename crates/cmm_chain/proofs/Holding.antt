-- what the youngest activation holds, and values put into its places
use Rattle.std.proofs.lemmas.Bool.{and_parts}
use Rattle.std.proofs.Common.{◌≡◌, ℕ, ◌<◌, List, Some, arith, refl, ap}
use Rattle.std.proofs.lemmas.Bool.Decides.{nat_tests}
use Rattle.cmm_chain.specs.declared.frame.Location.TheVariants.{Slot, Saved, Temp}
use Rattle.cmm_abi.specs.Registers.{is_callee_saves}
use Rattle.cmm_chain.specs.Contents.{Content, Number}
use Rattle.cmm_chain.specs.Plans.{Plan, saved_at, saved_offsets, fixed_offsets, is_fresh, is_word_in}
use Rattle.cmm_chain.specs.Chain.{Suspension, behind}
use Rattle.cmm_chain.specs.Running.{Holdings, put_in, IsFramed}
use Rattle.cmm_chain.specs.Laws.{PutIsHeld, OthersStay, PutKeepsFrame, WriteKeepsValues}
use Rattle.cmm_chain.proofs.Lasting.{chain_outlives}
use Rattle.cmm_chain.proofs.Offsets.{some_of, IsFresh, fresh, fresh_front, word_inside, saved_among, pair_among}

pub put_is_held : PutIsHeld
put_is_held (Slot offset) c h = grind (arith, nat_tests)
put_is_held (Saved r) c h = grind (arith, nat_tests)
put_is_held (Temp r) c h = grind (arith, nat_tests)

pub others_stay : OthersStay
others_stay (Slot a) (Slot b) c h apart = grind (arith, nat_tests, λ (is : a ≡ b). apart (ap Slot is))
others_stay (Saved a) (Saved b) c h apart = grind (arith, nat_tests, λ (is : a ≡ b). apart (ap Saved is))
others_stay (Temp a) (Temp b) c h apart = grind (arith, nat_tests, λ (is : a ≡ b). apart (ap Temp is))
others_stay l other c h apart = grind arith

-- ---- the frame stays below the chain

module _ (plan : Plan) (top q : ℕ) (older : List Suspension) (h : Holdings) (c : Content) (framed : IsFramed plan top q older h) where
  -- in a slot
  slot_keeps : (offset : ℕ) → offset < (plan.frame q).size → IsFresh offset (fixed_offsets (plan.frame q)) → IsFramed plan top q older (put_in (Slot offset) c h)
  slot_keeps offset less is =
      let apart = fresh_front offset (saved_offsets (plan.frame q).saved) _ is.1 in
      record {
        pairs = record {
          code = λ k p gives. grind (arith, nat_tests, framed.pairs.code k p gives, pair_among offset k p _ apart.1 gives);
          frame = λ k p gives. grind (arith, nat_tests, framed.pairs.frame k p gives, pair_among offset k p _ apart.1 gives);
        };
        chain = chain_outlives plan top h.contents _ older (behind plan h.contents q h.point) _
            (record {
              at = refl;
              back = grind (arith, nat_tests, is.0);
              kept = λ r callee_saves. grind (arith, nat_tests, λ (p : ℕ). saved_among offset p r _ apart.0);
            })
            (λ a le. grind (arith, nat_tests)) framed.chain;
      }

  -- in a register that the procedure saves
  saved_keeps : (r offset : ℕ) → saved_at plan q r ≡ Some offset → IsFramed plan top q older (put_in (Saved r) c h)
  saved_keeps r offset is = record {
    pairs = framed.pairs;
    chain = chain_outlives plan top h.contents h.contents older (behind plan h.contents q h.point) _
        (record { at = refl; back = refl; kept = λ other callee_saves. grind (arith, nat_tests, is) }) (λ a le. refl) framed.chain;
  }

pub put_keeps_frame : PutKeepsFrame
put_keeps_frame plan top q older h (Slot offset) c is laid framed =
    let parts = and_parts (is_word_in (plan.frame q).size offset) (is_fresh offset (fixed_offsets (plan.frame q))) is in
    slot_keeps plan top q older h c framed offset (omega (arith, word_inside (plan.frame q).size offset parts.0)) (fresh offset (fixed_offsets (plan.frame q)) parts.1)
put_keeps_frame plan top q older h (Saved r) c is laid framed =
    let saves = some_of (saved_at plan q r) (and_parts (is_callee_saves r) _ is).1 in
    saved_keeps plan top q older h c framed r saves.0 saves.1
put_keeps_frame plan top q older h (Temp r) c is laid framed = record { pairs = framed.pairs; chain = framed.chain }

pub write_keeps_values : WriteKeepsValues
write_keeps_values plan q h before after values v x apart has u live =
    grind (arith, nat_tests, apart u live, has u, put_is_held (plan.place q v) (Number x) h, others_stay (plan.place q v) (plan.place q u) (Number x) h)
