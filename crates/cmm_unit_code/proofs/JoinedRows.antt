-- A worked row: the codes of two units are joined, and these are the bytes, by hand.
--     main: auipc ra, f; jalr ra, f(ra); ret
--     g: ret; f: lui t0, t; addi t0, t0, t; auipc t1, main; jalr zero, main(t1)
-- There are one global register and one data label, t, at 0x40000008.
use Rattle.std.proofs.Common.{◌≡◌, ℕ, ◌<◌, ◌≤◌, List, [], ◌∷◌, refl, lit≤, map}
use Rattle.std.specs.Prelude.{true, false}
use Rattle.std.specs.Int.{w32, to_le_bytes}
use Rattle.std.specs.List.{All, flat_map}
use Rattle.std.proofs.lemmas.List.Elements.{All-cons, All-nil}
use Rattle.rv_asm.specs.declared.filling.CodeFix.{CodeFix}
use Rattle.cmm_unit_code.specs.Joined.{IsJoined, IsWhole, reference_value, symbol_value}
use Rattle.cmm_unit_code.specs.declared.text.Text.{Text}
use Rattle.cmm_unit_code.specs.declared.unit_code.Reference.TheVariants.{Register, Label, Procedure}
use Rattle.cmm_unit_code.specs.declared.unit_code.UnitCode.{UnitCode}

abbrev words : List ℕ → List ℕ
words ws = flat_map (to_le_bytes w32) ws

-- The procedures are 0 main, 1 g and 2 f. The first unit names f alone, the second the label and main, and neither the global register.
abbrev first : UnitCode
first = record {
  code = words (0x00000097 ∷ 0x000080e7 ∷ 0x00008067 ∷ []);
  references = Procedure 2 ∷ [];
  fixes = record { place = 0; symbol = 0; relative = true } ∷ [];
  procedures = 0 ∷ [];
  landings = (8 ∷ []) ∷ [];
  sites = (8 ∷ []) ∷ [];
}

abbrev second : UnitCode
second = record {
  code = words (0x00008067 ∷ 0x000002b7 ∷ 0x00028293 ∷ 0x00000317 ∷ 0x00030067 ∷ []);
  references = Label 0 ∷ Procedure 0 ∷ [];
  fixes = record { place = 4; symbol = 0; relative = false } ∷ record { place = 12; symbol = 1; relative = true } ∷ [];
  procedures = 0 ∷ 4 ∷ [];
  landings = [] ∷ (12 ∷ []) ∷ [];
  sites = [] ∷ (16 ∷ []) ∷ [];
}

-- f is 16 bytes behind the call in main, and main is 24 before the jump in f
abbrev joined : Text
joined = record {
  code = words (0x00000097 ∷ 0x010080e7 ∷ 0x00008067 ∷ 0x00008067 ∷ 0x400002b7 ∷ 0x00828293 ∷ 0x00000317 ∷ 0xfe830067 ∷ []);
  start = 0x10000;
  last = 0x10008;
  procedures = 0x10000 ∷ 0x1000c ∷ 0x10010 ∷ [];
  landings = (0x10008 ∷ []) ∷ [] ∷ (0x10018 ∷ []) ∷ [];
  sites = (0x10008 ∷ []) ∷ [] ∷ (0x1001c ∷ []) ∷ [];
}

is_joined : IsJoined (0x40000008 ∷ []) (first ∷ second ∷ []) 8 joined
is_joined = record { procedures = refl; landings = refl; sites = refl; code = refl; start = refl; last = refl }

-- what the program has, by its numbers, and what the second unit names, by its own
references : map (reference_value (0x40000008 ∷ []) joined.procedures) (Register 0 ∷ Register 2 ∷ Label 0 ∷ Procedure 0 ∷ Procedure 1 ∷ Procedure 2 ∷ Procedure 3 ∷ [])
    ≡ 448 ∷ 464 ∷ 0x40000008 ∷ 0x10000 ∷ 0x1000c ∷ 0x10010 ∷ 0 ∷ []
references = refl

symbols : map (symbol_value (reference_value (0x40000008 ∷ []) joined.procedures) second.references) (0 ∷ 1 ∷ 2 ∷ []) ≡ 0x40000008 ∷ 0x10000 ∷ 0 ∷ []
symbols = refl

-- what is required of units can be met
within : (size offset : ℕ) → offset ≤ size → (offsets : List ℕ) → All (λ place. place ≤ size) offsets → All (λ place. place ≤ size) (offset ∷ offsets)
within size offset less offsets = All-cons (λ place. place ≤ size) offset offsets less

none : (size : ℕ) → All (λ place. place ≤ size) []
none size = All-nil (λ place. place ≤ size)

landing_lists : (size : ℕ) (offsets : List ℕ) → All (λ place. place ≤ size) offsets → (lists : List (List ℕ)) → All (All (λ place. place ≤ size)) lists →
    All (All (λ place. place ≤ size)) (offsets ∷ lists)
landing_lists size offsets are lists = All-cons (All (λ place. place ≤ size)) offsets lists are

no_lists : (size : ℕ) → All (All (λ place. place ≤ size)) []
no_lists size = All-nil (All (λ place. place ≤ size))

-- a fix names one of so many
abbrev Names : ℕ → CodeFix → Type 0
Names count f = f.symbol < count

first_whole : IsWhole first
first_whole = record {
  apart = (lit≤ tt, lit≤ tt);
  symbols = All-cons (Names 1) (record { place = 0; symbol = 0; relative = true }) [] (lit≤ tt) (All-nil (Names 1));
  procedures = within 12 0 (lit≤ tt) [] (none 12);
  landings = landing_lists 12 (8 ∷ []) (within 12 8 (lit≤ tt) [] (none 12)) [] (no_lists 12);
  sites = landing_lists 12 (8 ∷ []) (within 12 8 (lit≤ tt) [] (none 12)) [] (no_lists 12);
}

second_whole : IsWhole second
second_whole = record {
  apart = (lit≤ tt, (lit≤ tt, lit≤ tt));
  symbols = All-cons (Names 2) (record { place = 4; symbol = 0; relative = false }) (record { place = 12; symbol = 1; relative = true } ∷ []) (lit≤ tt)
      (All-cons (Names 2) (record { place = 12; symbol = 1; relative = true }) [] (lit≤ tt) (All-nil (Names 2)));
  procedures = within 20 0 (lit≤ tt) (4 ∷ []) (within 20 4 (lit≤ tt) [] (none 20));
  landings = landing_lists 20 [] (none 20) ((12 ∷ []) ∷ []) (landing_lists 20 (12 ∷ []) (within 20 12 (lit≤ tt) [] (none 20)) [] (no_lists 20));
  sites = landing_lists 20 [] (none 20) ((16 ∷ []) ∷ []) (landing_lists 20 (16 ∷ []) (within 20 16 (lit≤ tt) [] (none 20)) [] (no_lists 20));
}

whole : All IsWhole (first ∷ second ∷ [])
whole = All-cons IsWhole first (second ∷ []) first_whole (All-cons IsWhole second [] second_whole (All-nil IsWhole))
