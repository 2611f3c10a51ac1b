-- What a reader answers.
use Rattle.std.specs.Prelude.{◌≡◌, List, ℕ, Result, Ok, Err}
use Rattle.cmm_format.specs.declared.fault.Unread.{Unread}
use Rattle.cmm_format.specs.declared.fault.Unread.TheVariants.{Breaks, Memory}
use Rattle.cmm_format.specs.declared.fault.Broken.{Broken}
use Rattle.cmm_format.specs.Formats.{Front}

-- What a reader answered, seen by view, with what it left, is what stands at the front of the bytes, unless memory ran out.
abbrev pub Sees : {A B : Type 0} → (A → B) → Result A Unread → Front B → List ℕ → Type 0
Sees view (Ok a) front rest = front ≡ Ok (view a, rest)
Sees view (Err (Breaks b)) front rest = front ≡ Err b
Sees view (Err Memory) front rest = Unit {0}

abbrev pub Reads : {A : Type 0} → Result A Unread → Front A → List ℕ → Type 0
Reads answer front rest = Sees (λ a. a) answer front rest

-- What a reading of all bytes answered, seen by view, is what they are, unless memory ran out.
abbrev pub GivesSeen : {A B : Type 0} → (A → B) → Result A Unread → Result B Broken → Type 0
GivesSeen view (Ok a) read = read ≡ Ok (view a)
GivesSeen view (Err (Breaks b)) read = read ≡ Err b
GivesSeen view (Err Memory) read = Unit {0}

abbrev pub Gives : {A : Type 0} → Result A Unread → Result A Broken → Type 0
Gives answer read = GivesSeen (λ a. a) answer read
