-- Writing a file piece by piece.
use Rattle.std.proofs.Common.{◌≡◌, ℕ, ◌+◌, List, ◌++◌, take, drop, Option, Some, None, ap, ◌∙◌, sym}
use Rattle.std.proofs.Math.Seq.{take-add}
use Rattle.cmm_outside.specs.Storage.{Contents, Sets, Writes, bytes_of}

-- one name is set, and then set again
Sets-again : (before mid : Contents) (after : Option Contents) (name first second : List ℕ) →
    Sets before (Some mid) name first → Sets mid after name second → Sets before after name second
Sets-again before mid after name first second a b = record {
  now = b.now;
  told = b.told;
  named = b.named;
  others = λ other differ. b.others other differ ∙ cc (a.told, a.others other differ);
}

-- the next piece of the bytes, after those that are written
pub Writes-take : (before mid after : Option Contents) (name bytes : List ℕ) (written n : ℕ) →
    Writes before mid name (λ _. take written bytes) → Writes mid after name (λ file. bytes_of file ++ take n (drop written bytes)) →
    Writes before after name (λ _. take (written + n) bytes)
Writes-take None mid after name bytes written n first second = tt
Writes-take (Some files) None after name bytes written n first second = cc (first.told)
Writes-take (Some files) (Some more) after name bytes written n first second =
    let holds : more name ≡ Some (take written bytes) = cc (first.told, first.named) in
    let longer : bytes_of (more name) ++ take n (drop written bytes) ≡ take (written + n) bytes =
    ap (λ file. bytes_of file ++ take n (drop written bytes)) holds ∙ sym (take-add written n bytes) in
    rw longer at (Sets-again files more after name _ _ first second)
