-- the client changes a local of a suspended activation
use Rattle.std.proofs.lemmas.Bool.{and_parts}
use Rattle.std.proofs.Common.{◌≡◌, ◌≢◌, ℕ, zero, suc, ◌+◌, ◌<◌, ◌≤◌, Bool, true, false, List, [], ◌∷◌, Option, Some, None, arith, refl, sym, ap, ◌∙◌, subst}
use Rattle.std.specs.Prelude.{slice_get, is_some}
use Rattle.std.proofs.lemmas.Bool.Decides.{nat_tests}
use Rattle.cmm_chain.specs.declared.frame.Frame.{Frame}
use Rattle.cmm_chain.specs.declared.frame.Location.{Location}
use Rattle.cmm_chain.specs.declared.frame.Location.TheVariants.{Slot, Saved, Temp}
use Rattle.cmm_abi.specs.Registers.{is_callee_saves}
use Rattle.cmm_chain.specs.Contents.{Content, Number, Contents, with_content}
use Rattle.cmm_chain.specs.Plans.{Plan, IsPlanned, saved_at, saved_offsets, pair_offsets, fixed_offsets, is_fresh, is_word_in, is_place}
use Rattle.cmm_chain.specs.Chain.{Point, Suspension, IsChain, IsSuspended, behind, found}
use Rattle.cmm_chain.specs.Running.{Holdings, IsFramed, none_known}
use Rattle.cmm_chain.specs.Walks.{Spot, InRegister, InStack, Mark, first_mark, moved, mark_behind, Element, walk, spot_of, put_at, with_value}
use Rattle.cmm_chain.specs.Laws.{MayBeSet, SetIsChain}
use Rattle.cmm_chain.proofs.Lasting.{chain_outlives}
use Rattle.cmm_chain.proofs.Holding.{put_keeps_frame}
use Rattle.cmm_chain.proofs.Offsets.{IsFresh, IsLaidOut, laid_out, fresh, fresh_front, word_inside, inside_rest, saved_among, pair_among, saved_inside, pair_inside, saved_fresh, saved_apart}
use Rattle.cmm_chain.proofs.Walking.{Stands, stands_first, stands_behind, walk_goes_on, walk_ends}

-- ---- something else stands at a spot

abbrev stack_with : Spot → Content → Contents → Contents
stack_with (InRegister r) c contents = contents
stack_with (InStack a) c contents = with_content a c contents

abbrev point_with : Spot → Content → Point → Point
point_with (InRegister r) c p = record p { kept = with_content r c p.kept }
point_with (InStack a) c p = p

stack_put : (spot : Spot) (c : Content) (h : Holdings) → stack_with spot c h.contents ≡ (put_at spot c h).contents
stack_put (InRegister r) c h = refl
stack_put (InStack a) c h = refl

point_put : (spot : Spot) (c : Content) (h : Holdings) → point_with spot c h.point ≡ (put_at spot c h).point
point_put (InRegister r) c h = refl
point_put (InStack a) c h = refl

back_stays : (spot : Spot) (c : Content) (p : Point) → (point_with spot c p).back ≡ p.back
back_stays (InRegister r) c p = refl
back_stays (InStack a) c p = refl

-- ---- an activation stays suspended where its own slots, its registers and its pairs stay

abbrev PairsStay : Frame → ℕ → Contents → Contents → Type 0
PairsStay f at before after = (k o : ℕ) → slice_get f.pairs k ≡ Some o → (before (at + o) ≡ after (at + o)) × (before (at + (o + 8)) ≡ after (at + (o + 8)))

abbrev SlotsStay : Frame → ℕ → Contents → Contents → Type 0
SlotsStay f at before after = (o : ℕ) → o + 8 ≤ f.size → IsFresh o (fixed_offsets f) → before (at + o) ≡ after (at + o)

module _ (plan : Plan) (before after : Contents) (p p' : Point) (at : p.at ≡ p'.at) where
  found_stays : (q : ℕ) (l : Location) → is_place (plan.frame q) l ≡ true → SlotsStay (plan.frame q) p.at before after →
      ((r : ℕ) → is_some (saved_at plan q r) ≡ true → p.kept r ≡ p'.kept r) → found before p l ≡ found after p' l
  found_stays q (Slot o) is slots registers =
      let parts = and_parts (is_word_in (plan.frame q).size o) (is_fresh o (fixed_offsets (plan.frame q))) is in
      grind (arith, at, slots o (word_inside (plan.frame q).size o parts.0) (fresh o (fixed_offsets (plan.frame q)) parts.1))
  found_stays q (Saved r) is slots registers = grind (arith, registers r (and_parts (is_callee_saves r) _ is).1)
  found_stays q (Temp r) is slots registers = refl

  suspended_stays : (s : Suspension) → IsPlanned plan → p.back ≡ p'.back → SlotsStay (plan.frame s.procedure) p.at before after →
      ((r : ℕ) → is_some (saved_at plan s.procedure r) ≡ true → p.kept r ≡ p'.kept r) → PairsStay (plan.frame s.procedure) p.at before after →
      IsSuspended plan before s p → IsSuspended plan after s p'
  suspended_stays s planned back slots registers pairs is = record {
    exists = is.exists;
    back = grind (arith, back, is.back);
    values = λ v live.
        grind (arith, found_stays s.procedure (plan.place s.procedure v) (planned.places s.procedure v is.exists) slots registers, is.values v live);
    pairs = record {
      code = λ k o gives. grind (arith, at, is.pairs.code k o gives, pairs k o gives);
      frame = λ k o gives. grind (arith, at, is.pairs.frame k o gives, pairs k o gives);
    };
  }

-- ---- past the frame of a younger activation

-- where a spot lies as one sees it from below a frame: a register that the procedure saved is a word of its frame
abbrev past : Plan → ℕ → ℕ → Spot → Spot
past plan q at (InStack a) = InStack a
past plan q at (InRegister r) = elim (saved_at plan q r) [ Some o ↦ InStack (at + o) | None ↦ InRegister r ]

module _ (plan : Plan) (planned : IsPlanned plan) (top : ℕ) (contents : Contents) (s : Suspension) (older : List Suspension) (p : Point) (c : Content)
    (is : IsSuspended plan contents s p) where
  abbrev Passed : Spot → Type 0
  Passed t = IsSuspended plan (stack_with t c contents) s (point_with t c p)
      × IsChain plan top (stack_with t c contents) older (behind plan (stack_with t c contents) s.procedure (point_with t c p))

  abbrev Older : Spot → Type 0
  Older t = IsChain plan top (stack_with t c contents) older (point_with t c (behind plan contents s.procedure p))

  laid : IsLaidOut (plan.frame s.procedure)
  laid = laid_out (plan.frame s.procedure) (planned.laid s.procedure is.exists)

  -- it lies above
  pass_above : (a : ℕ) → p.at + (plan.frame s.procedure).size ≤ a → Older (InStack a) → Passed (InStack a)
  pass_above a above chain =
      let f = plan.frame s.procedure in
      let same : (o : ℕ) → o < f.size → contents (p.at + o) ≡ with_content a c contents (p.at + o) = λ o less. grind (arith, nat_tests) in
      let pair = λ (k o : ℕ) (gives : slice_get f.pairs k ≡ Some o). pair_inside f.size k o f.pairs (inside_rest f.size (saved_offsets f.saved) _ laid.inside.1) gives in (
        suspended_stays plan contents _ p p refl s planned refl (λ o le fresh_. same o (omega arith)) (λ r saves. refl)
            (λ k o gives. let le = pair k o gives in (same o (omega arith), same (o + 8) (omega arith))) is,
        chain_outlives plan top _ _ older (behind plan contents s.procedure p) _
            (record {
              at = refl;
              back = same f.return_at (omega (arith, laid.inside.0));
              kept = λ r callee_saves. grind (arith, same, λ (o : ℕ). saved_inside f.size o r f.saved _ laid.inside.1);
            })
            (λ b le. refl) chain,
      )

  -- the frame has saved it
  pass_saved : (r o : ℕ) → saved_at plan s.procedure r ≡ Some o → Older (InRegister r) → Passed (InStack (p.at + o))
  pass_saved r o saves chain =
      let f = plan.frame s.procedure in
      let apart : IsFresh o (pair_offsets f.pairs) = saved_fresh r o f.saved _ laid.distinct.1 saves in
      let inside_ : o + 8 ≤ f.size = saved_inside f.size o r f.saved _ laid.inside.1 saves in
      let same : (other : ℕ) → o ≢ other → contents (p.at + other) ≡ with_content (p.at + o) c contents (p.at + other) = λ other apart_. grind (arith, nat_tests) in
      let returns : f.return_at ≢ o = saved_among f.return_at o r f.saved (fresh_front f.return_at (saved_offsets f.saved) _ laid.distinct.0).0 saves in (
        suspended_stays plan contents _ p p refl s planned refl
            (λ other le fresh_. same other (λ eq. saved_among other o r f.saved (fresh_front other (saved_offsets f.saved) _ fresh_.1).0 saves (sym eq)))
            (λ other saved. refl)
            (λ k other gives. let among = pair_among o k other f.pairs apart gives in (same other among.0, same (other + 8) among.1)) is,
        chain_outlives plan top contents _ older (record (behind plan contents s.procedure p) { kept = with_content r c (behind plan contents s.procedure p).kept }) _
            (record {
              at = refl;
              back = same f.return_at (λ eq. returns (sym eq));
              kept = λ other callee_saves. grind (arith, nat_tests, saves, same, λ (place : ℕ). saved_apart r o other place f.saved _ laid.distinct.1 saves);
            })
            (λ b le. grind (arith, nat_tests)) chain,
      )

  -- it passes
  pass_register : (r : ℕ) → saved_at plan s.procedure r ≡ None → Older (InRegister r) → Passed (InRegister r)
  pass_register r unsaved chain = (
    suspended_stays plan contents contents p (point_with (InRegister r) c p) refl s planned refl (λ o le fresh_. refl)
        (λ other saved. grind (arith, nat_tests, saved, unsaved)) (λ k o gives. (refl, refl)) is,
    chain_outlives plan top contents contents older (record (behind plan contents s.procedure p) { kept = with_content r c (behind plan contents s.procedure p).kept }) _
        (record { at = refl; back = refl; kept = λ other callee_saves. grind (arith, nat_tests, unsaved) })
        (λ b le. refl) chain,
  )

  pass_saver : (r : ℕ) (saver : Option ℕ) → saved_at plan s.procedure r ≡ saver → Older (InRegister r) →
      Passed (elim saver [ Some o ↦ InStack (p.at + o) | None ↦ InRegister r ])
  pass_saver r (Some o) saves chain = pass_saved r o saves chain
  pass_saver r None unsaved chain = pass_register r unsaved chain

  pass : (t : Spot) → ((a : ℕ) → t ≡ InStack a → p.at + (plan.frame s.procedure).size ≤ a) → Older t → Passed (past plan s.procedure p.at t)
  pass (InStack a) above chain = pass_above a (above a refl) chain
  pass (InRegister r) above chain = pass_saver r (saved_at plan s.procedure r) refl chain

-- ---- the spot of a place, seen from a point

abbrev here : ℕ → Location → Spot
here at (Slot o) = InStack (at + o)
here at (Saved r) = InRegister r
here at (Temp r) = InRegister r

-- of the i-th of these activations
abbrev seen : Plan → Contents → ℕ → List Suspension → Point → Location → Spot
seen plan contents zero suspended p l = here p.at l
seen plan contents (suc i) [] p l = here p.at l
seen plan contents (suc i) (s ∷ older) p l = past plan s.procedure p.at (seen plan contents i older (behind plan contents s.procedure p) l)

-- it lies in that activation's frame or above
past_above : (plan : Plan) (q at size a : ℕ) (t : Spot) → ((b : ℕ) → t ≡ InStack b → at + size ≤ b) → past plan q at t ≡ InStack a → at ≤ a
past_above plan q at size a (InStack b) above is = grind (arith, above b refl)
past_above plan q at size a (InRegister r) above is = grind (arith, is)

seen_above : (plan : Plan) (contents : Contents) (i : ℕ) (suspended : List Suspension) (p : Point) (l : Location) (a : ℕ) →
    seen plan contents i suspended p l ≡ InStack a → p.at ≤ a
seen_above plan contents zero suspended p (Slot o) a is = grind (arith, is)
seen_above plan contents zero suspended p (Saved r) a is = absurd (cc)
seen_above plan contents zero suspended p (Temp r) a is = absurd (cc)
seen_above plan contents (suc i) [] p (Slot o) a is = grind (arith, is)
seen_above plan contents (suc i) [] p (Saved r) a is = absurd (cc)
seen_above plan contents (suc i) [] p (Temp r) a is = absurd (cc)
seen_above plan contents (suc i) (s ∷ older) p l a is =
    past_above plan s.procedure p.at (plan.frame s.procedure).size a (seen plan contents i older (behind plan contents s.procedure p) l)
    (λ b at. seen_above plan contents i older (behind plan contents s.procedure p) l b at) is

-- ---- the activation itself

found_there : (contents : Contents) (p : Point) (c : Content) (l : Location) (x : ℕ) → found contents p l ≡ Number x →
    found (stack_with (here p.at l) c contents) (point_with (here p.at l) c p) l ≡ c
found_there contents p c (Slot o) x known = grind (arith, nat_tests)
found_there contents p c (Saved r) x known = by (is_callee_saves r) refl
  where
    by : (b : Bool) → is_callee_saves r ≡ b → found contents (point_with (InRegister r) c p) (Saved r) ≡ c
    by true is = grind (arith, nat_tests, is)
    by false is = grind (arith, is, known)
found_there contents p c (Temp r) x known = absurd (cc)

found_elsewhere : (contents : Contents) (p : Point) (c : Content) (l other : Location) (x : ℕ) → l ≢ other → found contents p l ≡ Number x →
    found (stack_with (here p.at l) c contents) (point_with (here p.at l) c p) other ≡ found contents p other
found_elsewhere contents p c (Slot o) (Slot o') x apart known = grind (arith, nat_tests, λ (is : o ≡ o'). apart (ap Slot is))
found_elsewhere contents p c (Saved o) (Saved o') x apart known = grind (arith, nat_tests, λ (is : o ≡ o'). apart (ap Saved is))
found_elsewhere contents p c (Slot o) (Saved r) x apart known = refl
found_elsewhere contents p c (Saved r) (Slot o) x apart known = refl
found_elsewhere contents p c (Temp r) other x apart known = absurd (cc)
found_elsewhere contents p c l (Temp r) x apart known = refl

-- the frame is where it was
abbrev standing : Contents → Point → Holdings
standing contents p = record { point = p; temps = none_known; contents = contents }

framed_here : (plan : Plan) (top q : ℕ) (older : List Suspension) (contents : Contents) (p : Point) (c : Content) (l : Location) (x : ℕ) → IsPlanned plan →
    plan.is_procedure q ≡ true → is_place (plan.frame q) l ≡ true → found contents p l ≡ Number x → IsFramed plan top q older (standing contents p) →
    IsFramed plan top q older (standing (stack_with (here p.at l) c contents) (point_with (here p.at l) c p))
framed_here plan top q older contents p c (Slot o) x planned exists is known framed =
    put_keeps_frame plan top q older (standing contents p) (Slot o) c is (planned.laid q exists) framed
framed_here plan top q older contents p c (Saved r) x planned exists is known framed =
    put_keeps_frame plan top q older (standing contents p) (Saved r) c is (planned.laid q exists) framed
framed_here plan top q older contents p c (Temp r) x planned exists is known framed = absurd (cc)

set_here : (plan : Plan) (planned : IsPlanned plan) (top : ℕ) (contents : Contents) (s : Suspension) (older : List Suspension) (p : Point) (v x : ℕ) → MayBeSet plan s v →
    IsChain plan top contents (s ∷ older) p →
    let t = here p.at (plan.place s.procedure v) in
    IsChain plan top (stack_with t (Number x) contents) (with_value 0 v x (s ∷ older)) (point_with t (Number x) p)
set_here plan planned top contents s older p v x may chain =
    let l = plan.place s.procedure v in
    let known = chain.0.values v may.live in
    let after = framed_here plan top s.procedure older contents p (Number x) l (s.values v) planned chain.0.exists
    (planned.places s.procedure v chain.0.exists) known (record { pairs = chain.0.pairs; chain = chain.1 }) in (
      record {
        exists = chain.0.exists;
        back = back_stays (here p.at l) (Number x) p ∙ chain.0.back;
        values = λ u live. grind (
          arith,
          nat_tests,
          found_there contents p (Number x) l (s.values v) known,
          λ (other : l ≢ plan.place s.procedure u). found_elsewhere contents p (Number x) l (plan.place s.procedure u) (s.values v) other known,
          chain.0.values u live,
          may.apart u live,
        );
        pairs = after.pairs;
      },
      after.chain,
    )

set_seen : (plan : Plan) (planned : IsPlanned plan) (top : ℕ) (contents : Contents) (suspended : List Suspension) (p : Point) (i v x : ℕ) (s : Suspension) →
    slice_get suspended i ≡ Some s → MayBeSet plan s v → IsChain plan top contents suspended p →
    let t = seen plan contents i suspended p (plan.place s.procedure v) in
    IsChain plan top (stack_with t (Number x) contents) (with_value i v x suspended) (point_with t (Number x) p)
set_seen plan planned top contents [] p i v x s gives may chain = absurd (cc)
set_seen plan planned top contents (first ∷ older) p zero v x s gives may chain =
    let same : first ≡ s = cc in
    subst (λ (s : Suspension). let t = here p.at (plan.place s.procedure v) in
    IsChain plan top (stack_with t (Number x) contents) (with_value 0 v x (first ∷ older)) (point_with t (Number x) p)) same
    (set_here plan planned top contents first older p v x (subst (λ (s : Suspension). MayBeSet plan s v) (sym same) may) chain)
set_seen plan planned top contents (first ∷ older) p (suc i) v x s gives may chain =
    pass plan planned top contents first (with_value i v x older) p (Number x) chain.0
    (seen plan contents i older (behind plan contents first.procedure p) (plan.place s.procedure v))
    (λ a is. seen_above plan contents i older (behind plan contents first.procedure p) _ a is)
    (set_seen plan planned top contents older (behind plan contents first.procedure p) i v x s gives may chain.1)

-- ---- the spot that the walk finds

-- a spot, with registers where marks say that they are
abbrev through : (ℕ → Spot) → Spot → Spot
through registers (InStack a) = InStack a
through registers (InRegister r) = registers r

past_through : (plan : Plan) (q : ℕ) (m : Mark) (at : ℕ) (t : Spot) → m.at ≡ at → through (moved plan q m.at m.registers) t ≡ through m.registers (past plan q at t)
past_through plan q m at (InStack a) is = refl
past_through plan q m at (InRegister r) is = by (saved_at plan q r) refl
  where
    by : (saved : Option ℕ) → saved_at plan q r ≡ saved → moved plan q m.at m.registers r ≡ through m.registers (past plan q at (InRegister r))
    by (Some o) saves = grind (arith, saves, is)
    by None saves = grind (arith, saves)

spot_here : (m : Mark) (at : ℕ) (l : Location) (spot : Spot) → m.at ≡ at → spot_of m l ≡ Some spot → spot ≡ through m.registers (here at l)
spot_here m at (Slot o) spot is gives = grind (arith, is, gives)
spot_here m at (Saved r) spot is gives = grind (arith, gives)
spot_here m at (Temp r) spot is gives = absurd (cc)

module _ (plan : Plan) (top : ℕ) (h : Holdings) (l : Location) (e : Element) (spot : Spot) (is_spot : spot_of e.mark l ≡ Some spot) where
  spot_is_seen : (suspended : List Suspension) (p : Point) (m : Mark) (n i : ℕ) → IsChain plan top h.contents suspended p → Stands h m p →
      slice_get (walk plan h.contents n m) i ≡ Some e → spot ≡ through m.registers (seen plan h.contents i suspended p l)
  spot_is_seen suspended p m zero i chain stands gives = absurd (cc)
  spot_is_seen [] p m (suc n) i chain stands gives =
      let ends = walk_ends plan h.contents (suc n) m (stands.back ∙ chain.1) in
      absurd (by (walk plan h.contents (suc n) m) ends gives)
    where
      by : (listed : List Element) → listed ≡ [] → slice_get listed i ≡ Some e → ⊥
      by [] is some = cc
      by (x ∷ xs) is some = cc
  spot_is_seen (s ∷ older) p m (suc n) zero chain stands gives =
      let goes_on = walk_goes_on plan h.contents n s.procedure s.site m (stands.back ∙ chain.0.back) in
      let some : Some (record { procedure = s.procedure; site = s.site; mark = m }) ≡ Some e = sym (ap (λ k. slice_get k 0) goes_on) ∙ gives in
      let there : record { procedure = s.procedure; site = s.site; mark = m } ≡ e = cc in
      spot_here m p.at l spot stands.at (ap (λ (x : Element). spot_of x.mark l) there ∙ is_spot)
  spot_is_seen (s ∷ older) p m (suc n) (suc i) chain stands gives =
      let goes_on = walk_goes_on plan h.contents n s.procedure s.site m (stands.back ∙ chain.0.back) in
      let rest = spot_is_seen older (behind plan h.contents s.procedure p) (mark_behind plan h.contents s.procedure m) n i chain.1
      (stands_behind plan h m p s.procedure stands) (sym (ap (λ k. slice_get k (suc i)) goes_on) ∙ gives) in
      rest ∙ past_through plan s.procedure m p.at (seen plan h.contents i older (behind plan h.contents s.procedure p) l) stands.at

through_none : (t : Spot) → through (λ r. InRegister r) t ≡ t
through_none (InStack a) = refl
through_none (InRegister r) = refl

pub set_is_chain : SetIsChain
set_is_chain plan top suspended h n i v x s e spot planned chain is_there may gives is_spot =
    let l = plan.place s.procedure v in
    let seen_ = spot_is_seen plan top h l e spot is_spot suspended h.point (first_mark h.point) n i chain (stands_first h) gives in
    let same : seen plan h.contents i suspended h.point l ≡ spot = sym (seen_ ∙ through_none (seen plan h.contents i suspended h.point l)) in
    let after = set_seen plan planned top h.contents suspended h.point i v x s is_there may chain in
    let there = subst (λ (t : Spot). IsChain plan top (stack_with t (Number x) h.contents) (with_value i v x suspended) (point_with t (Number x) h.point)) same after in
    subst (λ (p : Point). IsChain plan top (put_at spot (Number x) h).contents (with_value i v x suspended) p) (point_put spot (Number x) h)
    (subst (λ (contents : Contents). IsChain plan top contents (with_value i v x suspended) (point_with spot (Number x) h.point)) (stack_put spot (Number x) h) there)
