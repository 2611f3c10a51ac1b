-- Variables as they are shown, by their numbers.
use Rattle.std.proofs.Common.{◌≡◌, ℕ, zero, suc, ◌+◌, ◌≤◌, ◌==◌, Bool, true, false, cond, List, [], ◌∷◌, find, length, map, slice_get, Ok, Err, Option, Some, None, All, refl, sym, ap, subst, ◌∙◌, arith}
use Rattle.std.proofs.lemmas.Bool.Decides.{nat_tests}
use Rattle.cmm_words.specs.Widths.{bits}
use Rattle.cmm_script.specs.Walk.{Shown}
use Rattle.rv_table.specs.Machine.{State}
use Rattle.cmm_image.specs.declared.rows.SpanRow.{SpanRow}
use Rattle.cmm_image.specs.declared.rows.VariablePlace.{VariablePlace}
use Rattle.cmm_image.specs.declared.rows.VariablePlace.TheVariants.{Slot}
use Rattle.cmm_image.specs.Places.{IsPlace}
use Rattle.cmm_image.specs.declared.rows.VariableRow.{VariableRow}
use Rattle.cmm_program.specs.Commands.{span_value}
use Rattle.cmm_program.specs.Errors.{with_some}
use Rattle.cmm_image_machine.specs.Frames.{Element}
use Rattle.cmm_words.specs.Words.{low_bits}
use Rattle.cmm_abi.specs.Regions as regions
use Rattle.cmm_abi.specs.Regions.{word_at}
use Rattle.cmm_image_machine.specs.Walks.{place_in, value_at, variables_shown}
use Rattle.cmm_walk.specs.declared.variable.NoVar.{NoVar}
use Rattle.cmm_walk.specs.declared.variable.Var.TheVariants as var
use Rattle.cmm_walk.specs.Shown.{Shows}
use Rattle.cmm_walk.proofs.Tables.{row_keeps}

abbrev pub variable_shown : State → Element → VariableRow → Option VariablePlace → Shown
variable_shown s e v p = record { width = bits v.width; kind = v.kind; invariant = v.invariant; value = value_at s v.width (with_some p (place_in e)) }

-- where there are as many places as variables
pub shown_at : (s : State) (e : Element) (vs : List VariableRow) (ps : List VariablePlace) (n : ℕ) → length ps ≡ length vs →
    slice_get (variables_shown s e vs ps) n ≡ with_some (slice_get vs n) (λ v. Some (variable_shown s e v (slice_get ps n)))
shown_at s e [] ps n same = refl
shown_at s e (v ∷ vs) [] n same = absurd (omega arith)
shown_at s e (v ∷ vs) (p ∷ ps) zero same = refl
shown_at s e (v ∷ vs) (p ∷ ps) (suc n) same = shown_at s e vs ps n (omega arith)

-- ---- descriptors

abbrev value_or_0 : Option SpanRow → ℕ
value_or_0 (Some s) = s.value
value_or_0 None = 0

-- the value of the first span with a token
pub span_found : (token : ℕ) (spans : List SpanRow) →
    value_or_0 (find (λ s. token == s.token) spans) ≡ span_value token (map (λ span. record { token = span.token; value = span.value }) spans)
span_found token [] = refl
span_found token (s ∷ ss) = by (token == s.token) (span_found token ss)
  where
    by : (b : Bool) → value_or_0 (find (λ s. token == s.token) ss) ≡ span_value token (map (λ span. record { token = span.token; value = span.value }) ss) →
        ◌≡◌ {A = ℕ} (value_or_0 (cond b (Some s) (find (λ s. token == s.token) ss)))
        (elim b [ true ↦ s.value | false ↦ span_value token (map (λ span. record { token = span.token; value = span.value }) ss) ])
    by true later = refl
    by false later = later

-- what an option that is searched for is
pub descriptor_is : (token value : ℕ) (spans : List SpanRow) (o : Option SpanRow) → find (λ s. token == s.token) spans ≡ o → value ≡ value_or_0 o →
    value ≡ span_value token (map (λ span. record { token = span.token; value = span.value }) spans)
descriptor_is token value spans o is same = same ∙ ap value_or_0 (sym is) ∙ span_found token spans

-- ---- places of variables

-- where one is, it keeps inside the frame, or is a callee-saves register
pub place_at : (frame n : ℕ) (places : List VariablePlace) (p : VariablePlace) → All (IsPlace frame) places → slice_get places n ≡ Some p → IsPlace frame p
place_at frame n places p every is = row_keeps (IsPlace frame) places every n p is

pub slot_fits : (frame offset : ℕ) → IsPlace frame (Slot offset) → offset + 8 ≤ frame
slot_fits frame offset h = let inside = h.1 in grind (arith, nat_tests)

-- ---- what is shown

module _ (s : State) (e : Element) (vs : List VariableRow) (ps : List VariablePlace) (n : ℕ) (count : length ps ≡ length vs) where
  pub shows_none : (why : NoVar) → slice_get vs n ≡ None → Shows (slice_get (variables_shown s e vs ps) n) (Err why)
  shows_none why none = subst (λ (o : Option Shown). Shows o (Err why)) (sym (shown_at s e vs ps n count ∙ ap (λ (o : Option VariableRow). with_some o (λ v. Some (variable_shown s e v (slice_get ps n)))) none)) tt

  shown_is : (v : VariableRow) → slice_get vs n ≡ Some v → slice_get (variables_shown s e vs ps) n ≡ Some (variable_shown s e v (slice_get ps n))
  shown_is v there = shown_at s e vs ps n count ∙ ap (λ (o : Option VariableRow). with_some o (λ v. Some (variable_shown s e v (slice_get ps n)))) there

  pub shows_dead : (v : VariableRow) → slice_get vs n ≡ Some v → with_some (slice_get ps n) (place_in e) ≡ None → Shows (slice_get (variables_shown s e vs ps) n) (Ok var.Dead)
  shows_dead v there dead = subst (λ (o : Option Shown). Shows o (Ok var.Dead)) (sym (shown_is v there)) (ap (value_at s v.width) dead)

  pub shows_live : (v : VariableRow) (place : regions.Place) (value : ℕ) → slice_get vs n ≡ Some v → with_some (slice_get ps n) (place_in e) ≡ Some place →
      value ≡ low_bits v.width (word_at s place) → Shows (slice_get (variables_shown s e vs ps) n) (Ok (var.Live value v.width))
  shows_live v place value there live is =
      subst (λ (o : Option Shown). Shows o (Ok (var.Live value v.width))) (sym (shown_is v there)) (ap (value_at s v.width) live ∙ ap Some (sym is), refl)
