-- What a reader that answers the bytes after a value answers.
use Rattle.std.specs.Prelude.{◌≡◌, List, ℕ, Result, Ok, Err}
use Rattle.std.specs.Borrow.{Bor}
use Rattle.cmm_format.specs.declared.fault.Unread.{Unread}
use Rattle.cmm_format.specs.declared.fault.Unread.TheVariants.{Breaks, Memory}
use Rattle.cmm_format.specs.Formats.{Front}

-- A value, answered with the bytes after it, is what stands at the front of the bytes, unless memory ran out.
abbrev pub ReadsFront : {A : Type 0} → Result (A × Bor (List ℕ)) Unread → Front A → Type 0
ReadsFront (Ok x) front = front ≡ Ok (x.0, x.1.now)
ReadsFront (Err (Breaks b)) front = front ≡ Err b
ReadsFront (Err Memory) front = Unit {0}
