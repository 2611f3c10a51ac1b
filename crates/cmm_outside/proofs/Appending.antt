-- Writes one after another are one write of the joined bytes.
use Rattle.std.proofs.Common.{ℕ, ◌+◌, List, ◌++◌, take, drop, Option, Some, None, append_assoc}
use Rattle.std.proofs.Math.Seq.{take-add}
use Rattle.cmm_outside.specs.Output.{Appends}

-- two writes in a row
pub Appends-append : (before mid after : Option (List ℕ)) (xs ys : List ℕ) →
    Appends before mid xs → Appends mid after ys → Appends before after (xs ++ ys)
Appends-append None mid after xs ys first second = tt
Appends-append (Some taken) None after xs ys first second = cc
Appends-append (Some taken) (Some more) after xs ys first second = rw (← append_assoc taken xs ys) (cc)

-- the next piece of the bytes, after those that are written
pub Appends-take : (before mid after : Option (List ℕ)) (bytes : List ℕ) (written n : ℕ) →
    Appends before mid (take written bytes) → Appends mid after (take n (drop written bytes)) →
    Appends before after (take (written + n) bytes)
Appends-take before mid after bytes written n first second =
    rw (take-add written n bytes) (Appends-append before mid after (take written bytes) (take n (drop written bytes)) first second)
