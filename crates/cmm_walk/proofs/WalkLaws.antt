-- The text of a walk, from one activation to the next.
use Rattle.std.proofs.Common.{◌≡◌, ℕ, suc, ◌+◌, ◌≤◌, List, [], ◌++◌, Result, Ok, Err, Option, Some, None, IfSome, codes, refl, sym, ap, subst, ◌∙◌, append_assoc, append-nil, add-one, arith}
use Rattle.rv_table.specs.Machine.{State}
use Rattle.cmm_script.specs.Walk.{activation_text}
use Rattle.cmm_image.specs.declared.parts.ImageParts.{ImageParts}
use Rattle.cmm_image.specs.Images.{IsImage}
use Rattle.cmm_program.specs.Asking.{Chain}
use Rattle.cmm_image_machine.specs.Frames.{Element, Found, Activation, along, chain_from, chain_of, found_at, first_point, point_after}
use Rattle.cmm_abi.specs.Regions.{Region}
use Rattle.cmm_image_machine.specs.Walks.{element_shown}
use Rattle.cmm_image_machine.proofs.Shared.{chain_goes_on, images_keep_frames}
use Rattle.cmm_outside.specs.Output.{Appends, AppendsFront, WritesAll}
use Rattle.cmm_outside.specs.declared.Failed.{Failed}
use Rattle.cmm_outside.proofs.Shared.{HasWritten}
use Rattle.cmm_report.proofs.Shared.{appends_then_front, front_longer}
use Rattle.cmm_walk.specs.declared.activation.Activation.{Activation as ActivationOf}
use Rattle.cmm_walk.specs.declared.chain.Torn.{Torn}
use Rattle.cmm_walk.specs.Activations.{Fits, element_of}
use Rattle.cmm_walk.specs.Walking.{found_by}
use Rattle.cmm_walk.proofs.Steps.{farther}
use Rattle.cmm_walk.specs.declared.walking.WalkError.TheVariants as walk_error
use Rattle.cmm_walk.specs.Texts.{WritesWalk, chain_text}
use Rattle.cmm_walk.proofs.Writes.{joined}

pub nothing_more : (told : Option (List ℕ)) → Appends told told []
nothing_more None = tt
nothing_more (Some xs) = ap Some (sym (append-nil xs))

-- what stands at a point, and what is behind
abbrev pub rest_of : ImageParts → Region → State → Found → Chain Element
rest_of i r s f = along (chain_from i r s.memory) s.memory f

pub begins : (i : ImageParts) → IsImage i → (r : Region) (s : State) → chain_of i r s ≡ rest_of i r s (found_at i r (first_point s))
begins i h r s = chain_goes_on i r s.memory (first_point s) (images_keep_frames i h)

-- behind an activation
pub text_behind : (i : ImageParts) → IsImage i → (r : Region) (s : State) (number : ℕ) (e : Element) →
    chain_text s number (rest_of i r s (Activation e))
    ≡ activation_text number (element_shown s e) ++ chain_text s (number + 1) (rest_of i r s (found_at i r (point_after s.memory e)))
text_behind i h r s number e =
    let on = chain_goes_on i r s.memory (point_after s.memory e) (images_keep_frames i h) in
    rw (add-one number)
    (append_assoc (activation_text number (element_shown s e)) _ _
    ∙ ap (λ (c : Chain Element). activation_text number (element_shown s e) ++ chain_text s (suc number) c) on)

pub broken_behind : (i : ImageParts) → IsImage i → (r : Region) (s : State) (e : Element) →
    (rest_of i r s (Activation e)).broken ≡ (rest_of i r s (found_at i r (point_after s.memory e))).broken
broken_behind i h r s e = ap (λ (c : Chain Element). c.broken) (chain_goes_on i r s.memory (point_after s.memory e) (images_keep_frames i h))

-- ---- so far

-- The walk so far: what was written, and what is left of its text, from this activation on.
pub record Going {Sink : Type 0} (taken : Sink → Option (List ℕ)) (faults : Sink → ℕ) (old new : Sink) (i : ImageParts) (r : Region) (s : State) (number : ℕ) (next : Option ActivationOf) : Type 0 where
  pub text : List ℕ
  pub written : HasWritten taken faults old new text
  pub whole : chain_text s 0 (chain_of i r s) ≡ text ++ chain_text s number (rest_of i r s (found_by i (Ok next)))
  pub broken : (chain_of i r s).broken ≡ (rest_of i r s (found_by i (Ok next))).broken
  pub fits : IfSome next (Fits i r)
  pub low : IfSome next (λ a. number ≤ a.frame)

low_at : (next : Option ActivationOf) → IfSome next (λ a. 0 ≤ a.frame)
low_at (Some a) = omega arith
low_at None = tt

module _ {Sink : Type 0} (taken : Sink → Option (List ℕ)) (faults : Sink → ℕ) (i : ImageParts) (h : IsImage i) (r : Region) (s : State) where
  pub start : (old : Sink) (next : Option ActivationOf) → found_by i (Ok next) ≡ found_at i r (first_point s) → IfSome next (Fits i r) → Going taken faults old old i r s 0 next
  start old next is fits =
      let same : chain_of i r s ≡ rest_of i r s (found_by i (Ok next)) = begins i h r s ∙ ap (rest_of i r s) (sym is) in
      record {
        text = [];
        written = record { appended = nothing_more (taken old); same_faults = refl };
        whole = ap (chain_text s 0) same;
        broken = ap (λ (c : Chain Element). c.broken) same;
        fits = fits;
        low = low_at next;
      }

  pub one_more : (old mid new : Sink) (number : ℕ) (a : ActivationOf) (next : Option ActivationOf) → Going taken faults old mid i r s number (Some a) →
      HasWritten taken faults mid new (activation_text number (element_shown s (element_of i a))) →
      found_by i (Ok next) ≡ found_at i r (point_after s.memory (element_of i a)) → IfSome next (Fits i r) → Going taken faults old new i r s (number + 1) next
  one_more old mid new number a next going wrote is fits =
      let e = element_of i a in
      let piece = activation_text number (element_shown s e) in
      record {
        text = going.text ++ piece;
        written = joined taken faults old mid new going.text piece going.written wrote;
        whole = going.whole ∙ ap (λ (t : List ℕ). going.text ++ t) (text_behind i h r s number e)
            ∙ sym (append_assoc going.text piece (chain_text s (number + 1) (rest_of i r s (found_at i r (point_after s.memory e)))))
            ∙ ap (λ (f : Found). (going.text ++ piece) ++ chain_text s (number + 1) (rest_of i r s f)) (sym is);
        broken = going.broken ∙ broken_behind i h r s e ∙ ap (λ (f : Found). (rest_of i r s f).broken) (sym is);
        fits = fits;
        low = farther i h r s.memory a next number going.fits is going.low;
      }

  -- the chain breaks behind an activation
  pub tears : (old mid new : Sink) (number : ℕ) (a : ActivationOf) (t : Torn) → Going taken faults old mid i r s number (Some a) →
      HasWritten taken faults mid new (activation_text number (element_shown s (element_of i a))) →
      found_by i (Err t) ≡ found_at i r (point_after s.memory (element_of i a)) → WritesWalk taken faults old new s (chain_of i r s) (Err (walk_error.Torn t))
  tears old mid new number a t going wrote is =
      let e = element_of i a in
      let piece = activation_text number (element_shown s e) in
      let both = joined taken faults old mid new going.text piece going.written wrote in
      let whole : chain_text s 0 (chain_of i r s) ≡ going.text ++ piece =
      going.whole ∙ ap (λ (t : List ℕ). going.text ++ t) (text_behind i h r s number e ∙ ap (λ (f : Found). piece ++ chain_text s (number + 1) (rest_of i r s f)) (sym is) ∙ append-nil piece) in (
        going.broken ∙ broken_behind i h r s e ∙ ap (λ (f : Found). (rest_of i r s f).broken) (sym is),
        subst (Appends (taken old) (taken new)) (sym whole) both.appended,
        both.same_faults,
      )

  -- it breaks at once
  pub tears_first : (old : Sink) (t : Torn) → found_by i (Err t) ≡ found_at i r (first_point s) → WritesWalk taken faults old old s (chain_of i r s) (Err (walk_error.Torn t))
  tears_first old t is =
      let same : chain_of i r s ≡ rest_of i r s (found_by i (Err t)) = begins i h r s ∙ ap (rest_of i r s) (sym is) in (
        ap (λ (c : Chain Element). c.broken) same,
        subst (Appends (taken old) (taken old)) (sym (ap (chain_text s 0) same)) (nothing_more (taken old)),
        refl,
      )

  -- a write fails
  pub fails : (old mid new : Sink) (number : ℕ) (a : ActivationOf) (result : Result (Unit {0}) Failed) (e : Failed) → result ≡ Err e → Going taken faults old mid i r s number (Some a) →
      WritesAll taken faults mid new (activation_text number (element_shown s (element_of i a))) result → WritesWalk taken faults old new s (chain_of i r s) (Err walk_error.Failed)
  fails old mid new number a (Ok done) e is going wrote = absurd cc
  fails old mid new number a (Err f) e is going wrote =
      let x = element_of i a in
      let piece = activation_text number (element_shown s x) in
      let rest = chain_text s (number + 1) (rest_of i r s (found_at i r (point_after s.memory x))) in
      let whole : chain_text s 0 (chain_of i r s) ≡ (going.text ++ piece) ++ rest =
      going.whole ∙ ap (λ (t : List ℕ). going.text ++ t) (text_behind i h r s number x) ∙ sym (append_assoc going.text piece rest) in
      let front = front_longer (taken old) (taken new) (going.text ++ piece) rest (appends_then_front (taken old) (taken mid) (taken new) going.text piece going.written.appended wrote.err) in
      (subst (AppendsFront (taken old) (taken new)) (sym whole) front, rw (← going.written.same_faults) wrote.fault)

  -- the end
  pub ends_ok : (old mid new : Sink) (number : ℕ) → Going taken faults old mid i r s number None → HasWritten taken faults mid new (codes "end\n") → WritesWalk taken faults old new s (chain_of i r s) (Ok tt)
  ends_ok old mid new number going wrote =
      let both = joined taken faults old mid new going.text (codes "end\n") going.written wrote in
      (going.broken, subst (Appends (taken old) (taken new)) (sym going.whole) both.appended, both.same_faults)

  pub ends_err : (old mid new : Sink) (number : ℕ) (result : Result (Unit {0}) Failed) (e : Failed) → result ≡ Err e → Going taken faults old mid i r s number None →
      WritesAll taken faults mid new (codes "end\n") result → WritesWalk taken faults old new s (chain_of i r s) (Err walk_error.Failed)
  ends_err old mid new number (Ok done) e is going wrote = absurd cc
  ends_err old mid new number (Err f) e is going wrote = (
    subst (AppendsFront (taken old) (taken new)) (sym going.whole) (appends_then_front (taken old) (taken mid) (taken new) going.text (codes "end\n") going.written.appended wrote.err),
    rw (← going.written.same_faults) wrote.fault,
  )
