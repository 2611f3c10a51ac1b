-- Worked rows of version 2's tables: a procedure with one variable, which is live at one site, and records that break one rule each.
use Rattle.std.proofs.Common.{◌≡◌, ℕ, List, [], ◌∷◌, ◌++◌, Some, None, false, Ok, Err, refl}
use Rattle.cmm_rules.specs.declared.rule.Rule.TheVariants.{BadImageField}
use Rattle.cmm_words.specs.declared.width.Width.TheVariants.{W32}
use Rattle.cmm_image.specs.declared.rows.ProcRow.{ProcRow}
use Rattle.cmm_image.specs.declared.rows.SiteRow.{SiteRow}
use Rattle.cmm_image.specs.declared.rows.VariablePlace.TheVariants.{Slot}
use Rattle.cmm_format.specs.Formats.{number_at, number_bytes, text_at, text_bytes}
use Rattle.cmm_image.specs.Places.{place_at}
use Rattle.cmm_image.specs.SecondFormat.{second_tables}

-- the procedure m at the code's start, with a frame of 16 bytes that saves its return address at 8
head : List ℕ
head = 0 ∷ 0 ∷ 1 ∷ 0 ∷ 0 ∷ 0 ∷ 0 ∷ 0 ∷ 1 ∷ 109 ∷ 16 ∷ 0 ∷ 0 ∷ 0 ∷ 8 ∷ 0 ∷ 0 ∷ 0 ∷ 0 ∷ []

-- one variable of 32 bits, not invariant, without a kind, in the slot at 0
variable : List ℕ
variable = 1 ∷ 0 ∷ 32 ∷ 0 ∷ 0 ∷ 1 ∷ 0 ∷ 0 ∷ 0 ∷ 0 ∷ []

-- no label, no continuation; one site, to which control comes back at 0x10004, of number 7, no yield, without results or exits, at which variable 0 is live; and the end
site : ℕ → List ℕ
site bits = 0 ∷ 0 ∷ 0 ∷ 0 ∷ 1 ∷ 0 ∷ 0 ∷ 0 ∷ 4 ∷ 0 ∷ 1 ∷ 0 ∷ 0 ∷ 0 ∷ 0 ∷ 0 ∷ 7 ∷ 0 ∷ 0 ∷ 0 ∷ 0 ∷ 255 ∷ 0 ∷ 0 ∷ 0 ∷ 0 ∷ 0 ∷ 0 ∷ bits ∷ 0 ∷ 0 ∷ []

pub m : ProcRow
m = record {
  code = 65536;
  name = 109 ∷ [];
  frame = 16;
  return_at = Some 8;
  saved = [];
  variables = record { width = W32; invariant = false; kind = [] } ∷ [];
  stack_labels = [];
  continuations = [];
}

back : SiteRow
back = record {
  return_address = 65540;
  procedure = 0;
  number = 7;
  never_returns = false;
  aborts = false;
  yield_values = None;
  results = [];
  returns = [];
  unwinds = [];
  cuts = [];
  variables = Slot 0 ∷ [];
  spans = [];
}

is_read : (second_tables 8 1 1).at (head ++ variable ++ site 1 ++ (0 ∷ 9 ∷ [])) ≡ Ok ((m ∷ [], back ∷ []), 9 ∷ [])
unfolding head variable site m back number_at number_bytes text_at text_bytes place_at
is_read = refl

is_spelled : (second_tables 8 1 1).spelled (m ∷ [], back ∷ []) ≡ head ++ variable ++ site 1 ++ (0 ∷ [])
unfolding head variable site m back number_at number_bytes text_at text_bytes place_at
is_spelled = refl

-- the site's bits have one that is no variable's
other_bits : (second_tables 8 1 1).at (head ++ variable ++ site 3 ++ (0 ∷ [])) ≡ Err (record { rule = BadImageField; left = 4 })
unfolding head variable site m back number_at number_bytes text_at text_bytes place_at
other_bits = refl

-- the variable has a place, and is live nowhere
never_live : (second_tables 8 1 1).at (head ++ variable ++ site 0 ++ (0 ∷ [])) ≡ Err (record { rule = BadImageField; left = 1 })
unfolding head variable site m back number_at number_bytes text_at text_bytes place_at
never_live = refl

-- the header has two sites
other_total : (second_tables 8 1 2).at (head ++ variable ++ site 1 ++ (0 ∷ [])) ≡ Err (record { rule = BadImageField; left = 1 })
unfolding head variable site m back number_at number_bytes text_at text_bytes place_at
other_total = refl

-- the end is not 0
other_end : (second_tables 8 1 1).at (head ++ variable ++ site 1 ++ (1 ∷ [])) ≡ Err (record { rule = BadImageField; left = 1 })
unfolding head variable site m back number_at number_bytes text_at text_bytes place_at
other_end = refl
