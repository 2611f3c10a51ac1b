-- Places in the bytes of data that wait for the address of a procedure (C-- Language Specification 2.0, initialised data).
use Rattle.std.specs.Prelude.{◌≡◌, ℕ, ◌+◌, ◌%◌, ◌^◌, ◌≤◌, List, [], ◌∷◌, ◌++◌, map, flat_map, replicate, take, drop}
use Rattle.cmm_items.specs.Apart as apart
use Rattle.cmm_words.specs.declared.constant.Constant.{Constant}
use Rattle.cmm_words.specs.declared.constant.Constant.TheVariants.{Number, Code, Address}
use Rattle.cmm_program.specs.declared.program.Program.{Program}
use Rattle.cmm_program.specs.declared.placement.Placement.{Placement}
use Rattle.cmm_program.specs.Layout.{bytes_of, row_of}
use Rattle.cmm_data.specs.declared.fix.Fix.{Fix}

-- the value that a fix waits for, where its procedure's code has this address
abbrev pub fix_value : ℕ → Fix → ℕ
fix_value code f = (code + f.plus) % 2 ^ 64

-- the bytes once the eight from a place on are those of a value, the lowest first
abbrev pub with_value : ℕ → ℕ → List ℕ → List ℕ
with_value value place bytes = take place bytes ++ (bytes_of 8 value ++ drop (place + 8) bytes)

-- the bytes once each fix has its value, where the code of each procedure has this address
abbrev pub filled : (ℕ → ℕ) → List Fix → List ℕ → List ℕ
filled code [] bytes = bytes
filled code (f ∷ fs) bytes = filled code fs (with_value (fix_value (code f.procedure) f) f.place bytes)

-- the address of a procedure's code
abbrev pub code_in : Placement → ℕ → ℕ
code_in placement procedure = (row_of placement procedure).code

-- ---- which fixes there are

-- the procedure whose address a value is, and how many bytes past it
abbrev pub procedure_address : Constant → List (ℕ × ℕ)
procedure_address (Number word width) = []
procedure_address (Code proc plus) = (proc, plus) ∷ []
procedure_address (Address label plus) = []

-- all that stand in the data of a program, in their order
abbrev pub procedure_addresses : Program → List (ℕ × ℕ)
procedure_addresses p = flat_map (λ d. flat_map procedure_address d.values) p.datums

abbrev pub fix_procedures : List Fix → List (ℕ × ℕ)
fix_procedures fixes = map (λ f. (f.procedure, f.plus)) fixes

-- each fix has eight of n bytes, which follow those of the fix before
abbrev pub AreApart : ℕ → List Fix → ℕ → Type 0
AreApart = apart.AreApart (λ f. f.place)

-- the bytes of a fix are 0
abbrev pub IsWaiting : List ℕ → Fix → Type 0
IsWaiting bytes f = take 8 (drop f.place bytes) ≡ replicate 8 0
