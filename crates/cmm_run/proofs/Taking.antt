-- A byte of the input, or its end.
use Rattle.std.proofs.Common.{◌≡◌, ◌<◌, ℕ, Bool, true, false, List, [], ◌∷◌, drop, Option, Some, None, IfSome, refl, ap, sym, ◌∙◌, subst}
use Rattle.std.proofs.lemmas.List.Elements.{All-nil, All-cons}
use Rattle.cmm_abi.specs.declared.registers.TheConstants.{REQUEST_VALUE}
use Rattle.rv_table.specs.Machine.{State, with_set}
use Rattle.cmm_program.specs.Performing.{next_byte}
use Rattle.cmm_run.specs.inside.Takes.{GivesNext, HasTaken, Takes}

-- the source gave a byte
gives_byte : (before after : Option (List ℕ)) (byte : ℕ) → GivesNext before after (Some byte) → HasTaken before after false false (byte ∷ [])
gives_byte before after byte (fits, gives) = record {
  told = λ left is may.
      let (front, rest) = subst (λ (t : Option (List ℕ)). IfSome t (λ left. (left ≡ byte ∷ drop 1 left) × (after ≡ Some (drop 1 left)))) is gives in
      (drop 1 left, front, rest, λ e. absurd (cc e));
  bytes = All-cons (λ (b : ℕ). b < 256) byte [] fits (All-nil (λ (b : ℕ). b < 256));
  still = λ e. absurd (cc e);
}

-- the source has ended
gives_end : (before after : Option (List ℕ)) → GivesNext before after None → HasTaken before after false true []
gives_end before after gives = record {
  told = λ left is may.
      let (none, rest) = subst (λ (t : Option (List ℕ)). IfSome t (λ left. (left ≡ []) × (after ≡ Some []))) is gives in
      (left, refl, rest ∙ ap Some (sym none), λ _. none);
  bytes = All-nil (λ (b : ℕ). b < 256);
  still = λ e. absurd (cc e);
}

pub byte_taken : (before after : Option (List ℕ)) (ended ended_then : Bool) (byte : ℕ) → ended ≡ false → ended_then ≡ ended → GivesNext before after (Some byte) →
    HasTaken before after ended ended_then (byte ∷ [])
byte_taken before after ended ended_then byte is still gives =
    subst (λ (e : Bool). HasTaken before after e ended_then (byte ∷ [])) (sym is)
    (subst (λ (e : Bool). HasTaken before after false e (byte ∷ [])) (sym (still ∙ is)) (gives_byte before after byte gives))

pub end_taken : (before after : Option (List ℕ)) (ended : Bool) → ended ≡ false → GivesNext before after None → HasTaken before after ended true []
end_taken before after ended is gives = subst (λ (e : Bool). HasTaken before after e true []) (sym is) (gives_end before after gives)

-- at the end of an input the value is all ones
pub takes_at_end : (before after : State) (rest : List ℕ) → rest ≡ [] → after ≡ with_set before REQUEST_VALUE 0xFFFFFFFFFFFFFFFF → Takes before after [] rest None
takes_at_end before after rest none is = (
  is ∙ ap (λ (left : List ℕ). with_set before REQUEST_VALUE (next_byte left)) (sym none),
  none ∙ ap (drop 1) (sym none),
)
