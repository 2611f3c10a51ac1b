-- Formats: which bytes spell a value, and which field is the first to break a rule in bytes that spell none.
use Rattle.std.specs.Prelude.{◌≡◌, ℕ, zero, suc, ◌<◌, ◌^◌, nat_lt, Bool, true, false, IsTrue, nat_eq, List, [], ◌∷◌, ◌++◌, length, take, drop, flat_map, slice_index, Option, Some, None, Result, Ok, Err}
use Rattle.byteorder.specs.Endian.{little_bytes, little_number}
use Rattle.cmm_rules.specs.declared.rule.Rule.{Rule}
use Rattle.cmm_format.specs.declared.fault.Broken.{Broken}

-- what stands at the front of bytes: a value and the bytes after it, or the first field that breaks a rule
abbrev pub Front : Type 0 → Type 0
Front A = Result (A × List ℕ) Broken

infixl 10 ◌>>=◌
abbrev pub ◌>>=◌ : {A B : Type 0} → Result A Broken → (A → Result B Broken) → Result B Broken
(Ok x) >>= f = f x
(Err e) >>= f = Err e

-- A format of values: the bytes of each, which values have a spelling, and what is read at the front of bytes.
pub record Format (A : Type 0) : Type 1 where
  pub spelled : A → List ℕ
  pub Holds : A → Type 0
  pub at : List ℕ → Front A

-- a rule is broken at a field, from whose first byte on these bytes are left
abbrev pub breaks : Rule → List ℕ → Broken
breaks rule bytes = record { rule = rule; left = length bytes }

abbrev pub AreBytes : List ℕ → Type 0
AreBytes bytes = (i : ℕ) → slice_index bytes i < 256

-- ---- kinds of field: each names the rule that is broken where the bytes end inside it

unfoldable pub number_bytes : ℕ → ℕ → List ℕ
number_bytes width n = little_bytes width n

unfoldable pub number_at : Rule → ℕ → List ℕ → Front ℕ
number_at cut width bytes = elim (nat_lt (length bytes) width) [
  | true ↦ Err (breaks cut bytes)
  | false ↦ Ok (little_number width bytes, drop width bytes)
]

-- a number of n bytes, the lowest first
abbrev pub number : Rule → ℕ → Format ℕ
number cut width = record { spelled = number_bytes width; Holds = λ n. n < 256 ^ width; at = number_at cut width }

unfoldable pub block_at : Rule → ℕ → List ℕ → Front (List ℕ)
block_at cut count bytes = elim (nat_lt (length bytes) count) [
  | true ↦ Err (breaks cut bytes)
  | false ↦ Ok (take count bytes, drop count bytes)
]

-- n bytes
abbrev pub block : Rule → ℕ → Format (List ℕ)
block cut count = record { spelled = λ text. text; Holds = λ text. (length text ≡ count) × AreBytes text; at = block_at cut count }

unfoldable pub text_bytes : List ℕ → List ℕ
text_bytes text = number_bytes 1 (length text) ++ text

unfoldable pub text_at : Rule → List ℕ → Front (List ℕ)
text_at cut [] = Err (breaks cut [])
text_at cut (count ∷ rest) = elim (nat_lt (length rest) count) [
  | true ↦ Err (breaks cut (count ∷ rest))
  | false ↦ Ok (take count rest, drop count rest)
]

-- a count of one byte, and n bytes
abbrev pub text : Rule → Format (List ℕ)
text cut = record { spelled = text_bytes; Holds = λ t. (length t < 256) × AreBytes t; at = text_at cut }

-- ---- rules of a field

-- a condition on a value, and the rule that is broken where it does not hold
pub record Condition (A : Type 0) : Type 0 where
  pub rule : Rule
  pub holds : A → Bool

abbrev pub KeepsAll : {A : Type 0} → List (Condition A) → A → Type 0
KeepsAll [] a = Unit {0}
KeepsAll (c ∷ cs) a = IsTrue (c.holds a) × KeepsAll cs a

-- the first of the conditions that does not hold
abbrev pub judged : {A : Type 0} → List (Condition A) → List ℕ → A × List ℕ → Front A
judged [] bytes x = Ok x
judged (c ∷ cs) bytes x = elim (c.holds x.0) [ true ↦ judged cs bytes x | false ↦ Err (breaks c.rule bytes) ]

-- a field with its conditions, in the order in which they are tested
infixl 9 ◌when◌
abbrev pub ◌when◌ : {A : Type 0} → Format A → List (Condition A) → Format A
F when cs = record {
  spelled = F.spelled;
  Holds = λ a. F.Holds a × KeepsAll cs a;
  at = λ bytes. F.at bytes >>= judged cs bytes;
}

-- ---- fields that stand for other values

-- a number, or the mark of none
abbrev pub optional_number : ℕ → Option ℕ → ℕ
optional_number mark None = mark
optional_number mark (Some n) = n

abbrev pub HoldsOptional : ℕ → ℕ → List (Condition ℕ) → Option ℕ → Type 0
HoldsOptional width mark cs None = mark < 256 ^ width
HoldsOptional width mark cs (Some n) = (n < 256 ^ width) × (nat_eq n mark ≡ false) × KeepsAll cs n

abbrev pub unless_mark : ℕ → List (Condition ℕ) → List ℕ → ℕ × List ℕ → Front (Option ℕ)
unless_mark mark cs bytes x = elim (nat_eq x.0 mark) [
  | true ↦ Ok (None, x.1)
  | false ↦ judged cs bytes x >>= λ y. Ok (Some y.0, y.1)
]

abbrev pub optional : Rule → ℕ → ℕ → List (Condition ℕ) → Format (Option ℕ)
optional cut width mark cs = record {
  spelled = λ o. number_bytes width (optional_number mark o);
  Holds = HoldsOptional width mark cs;
  at = λ bytes. number_at cut width bytes >>= unless_mark mark cs bytes;
}

-- values of another type, which stand for those of a format
abbrev pub as_ : {A B : Type 0} → (A → B) → (B → A) → Format A → Format B
as_ to from F = record {
  spelled = λ b. F.spelled (from b);
  Holds = λ b. F.Holds (from b);
  at = λ bytes. F.at bytes >>= λ x. Ok (to x.0, x.1);
}

-- values of another type, some of which stand for those of a format: those that come back
abbrev pub seen_as : {A B : Type 0} → (A → B) → (B → A) → Format A → Format B
seen_as to from F = record {
  spelled = λ b. F.spelled (from b);
  Holds = λ b. F.Holds (from b) × (to (from b) ≡ b);
  at = λ bytes. F.at bytes >>= λ x. Ok (to x.0, x.1);
}

-- no field, and this value
abbrev pub given : {A : Type 0} → A → Format A
given value = record { spelled = λ a. []; Holds = λ a. a ≡ value; at = λ bytes. Ok (value, bytes) }

-- the one format or the other
abbrev pub choose : {A : Type 0} → Bool → Format A → Format A → Format A
choose b F G = record {
  spelled = λ a. elim b [ true ↦ F.spelled a | false ↦ G.spelled a ];
  Holds = λ a. elim b [ true ↦ F.Holds a | false ↦ G.Holds a ];
  at = λ bytes. elim b [ true ↦ F.at bytes | false ↦ G.at bytes ];
}

-- ---- tables of fields

-- a field, and what follows it, which may depend on its value
infixr 5 ◌▸◌
abbrev pub ◌▸◌ : {A B : Type 0} → Format A → (A → Format B) → Format (A × B)
F ▸ G = record {
  spelled = λ x. F.spelled x.0 ++ (G x.0).spelled x.1;
  Holds = λ x. F.Holds x.0 × (G x.0).Holds x.1;
  at = λ bytes. F.at bytes >>= λ x. (G x.0).at x.1 >>= λ y. Ok ((x.0, y.0), y.1);
}

-- ---- rows

abbrev pub rows_at : {A : Type 0} → (Option A → List ℕ → Front A) → ℕ → Option A → List ℕ → Front (List A)
rows_at each zero previous bytes = Ok ([], bytes)
rows_at each (suc count) previous bytes =
    each previous bytes >>= λ x. rows_at each count (Some x.0) x.1 >>= λ y. Ok (x.0 ∷ y.0, y.1)

abbrev pub AreRows : {A : Type 0} → (Option A → A → Type 0) → Option A → List A → Type 0
AreRows Each previous [] = Unit {0}
AreRows Each previous (a ∷ as_) = Each previous a × AreRows Each (Some a) as_

-- n rows, each of a format that may depend on the row before
abbrev pub rows : {A : Type 0} → (Option A → Format A) → ℕ → Format (List A)
rows each count = record {
  spelled = flat_map (each None).spelled;
  Holds = λ as_. (length as_ ≡ count) × AreRows (λ previous. (each previous).Holds) None as_;
  at = rows_at (λ previous. (each previous).at) count None;
}

abbrev pub counted_at : {A : Type 0} → (List ℕ → Front ℕ) → (Option A → List ℕ → Front A) → List ℕ → Front (List A)
counted_at count each bytes = count bytes >>= λ n. rows_at each n.0 None n.1

-- rows, with their count before them
abbrev pub counted : {A : Type 0} → Format ℕ → (Option A → Format A) → Format (List A)
counted count each = record {
  spelled = λ as_. count.spelled (length as_) ++ flat_map (each None).spelled as_;
  Holds = λ as_. count.Holds (length as_) × AreRows (λ previous. (each previous).Holds) None as_;
  at = counted_at count.at (λ previous. (each previous).at);
}

abbrev pub rows_behind_at : {A : Type 0} → (List A → List ℕ → Front A) → ℕ → List A → List ℕ → Front (List A)
rows_behind_at each zero before bytes = Ok ([], bytes)
rows_behind_at each (suc count) before bytes =
    each before bytes >>= λ x. rows_behind_at each count (before ++ (x.0 ∷ [])) x.1 >>= λ y. Ok (x.0 ∷ y.0, y.1)

abbrev pub AreRowsBehind : {A : Type 0} → (List A → A → Type 0) → List A → List A → Type 0
AreRowsBehind Each before [] = Unit {0}
AreRowsBehind Each before (a ∷ as_) = Each before a × AreRowsBehind Each (before ++ (a ∷ [])) as_

-- n rows, each of a format that may depend on all rows before
abbrev pub rows_behind : {A : Type 0} → (List A → Format A) → ℕ → Format (List A)
rows_behind each count = record {
  spelled = flat_map (each []).spelled;
  Holds = λ as_. (length as_ ≡ count) × AreRowsBehind (λ before. (each before).Holds) [] as_;
  at = rows_behind_at (λ before. (each before).at) count [];
}
