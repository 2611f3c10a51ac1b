-- What is seen grows: prefixes, and what lies within what.
use Rattle.std.proofs.Common.{List, [], ◌++◌, refl, sym, append_assoc, append-nil}
use Rattle.cmm_simulation.specs.Seen.{Seen, IsPrefix, IsWithin}

-- a list begins itself
pub prefix_refl : {A : Type 0} (xs : List A) → IsPrefix xs xs
prefix_refl xs = record { rest = []; whole = sym (append-nil xs) }

-- a list begins what it becomes by more behind it
pub prefix_more : {A : Type 0} (xs more : List A) → IsPrefix xs (xs ++ more)
prefix_more xs more = record { rest = more; whole = refl }

-- a beginning of a beginning is a beginning
pub prefix_trans : {A : Type 0} {xs ys zs : List A} → IsPrefix xs ys → IsPrefix ys zs → IsPrefix xs zs
prefix_trans {xs = xs} p q = record { rest = p.rest ++ q.rest; whole = rw (q.whole, p.whole, append_assoc xs p.rest q.rest) refl }

-- what is seen is within itself
pub within_refl : {L : Type 0} (a : Seen L) → IsWithin a a
within_refl a = search prefix_refl

-- what is within what is within a third is within the third
pub within_trans : {L : Type 0} {a b c : Seen L} → IsWithin a b → IsWithin b c → IsWithin a c
within_trans p q = search prefix_trans
