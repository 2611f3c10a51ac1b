-- Data is written where it may be, and an address past all of 64 bits is not in data.
use Rattle.std.proofs.Common.{◌≡◌, ℕ, ◌+◌, ◌^◌, ◌<◌, ◌≤◌, ◌%◌, true, false, Bool, List, Option, Some, None, refl, ap, subst, ◌∙◌, arith}
use Rattle.std.specs.Option.{option_map, ok_or}
use Rattle.std.proofs.Math.Nat.{mod-eq_of_lt}
use Rattle.std.proofs.lemmas.Bool.Decides.{nat_tests}
use Rattle.cmm_rules.specs.declared.rule.Rule.TheVariants.{NoPlace}
use Rattle.rv_table.specs.Machine.{State, data_base, stored}
use Rattle.cmm_script.specs.Lines.{ok_line}
use Rattle.cmm_program.specs.Asking.{Cursor}
use Rattle.cmm_program.specs.Commands.{says}
use Rattle.cmm_program.specs.Errors.{and_then, given, with_some}
use Rattle.cmm_program.specs.Layout.{bytes_of}
use Rattle.cmm_program.specs.Memory.{number_of}
use Rattle.cmm_machine_laws.proofs.Shared.{number_of_bytes}
use Rattle.cmm_image.specs.declared.parts.ImageParts.{ImageParts}
use Rattle.cmm_image.specs.declared.rows.LabelRow.{LabelRow}
use Rattle.cmm_image_machine.specs.Changes.{label_named, may_poke}
use Rattle.cmm_image_machine.specs.Frames.{Element}
use Rattle.cmm_resume.specs.Answering.{Change}
use Rattle.cmm_resume.specs.Finding.{label_place}
use Rattle.cmm_resume.specs.Laws.{PokesAreFound}

-- ---- past all addresses

not_poked : (count address : ℕ) → 2 ^ 64 ≤ address → data_base + count < 2 ^ 64 → may_poke count address 8 ≡ false
not_poked count address past short = grind (arith, nat_tests)

by : (count offset address : ℕ) (o : Option LabelRow) → 2 ^ 64 ≤ address + offset → data_base + count < 2 ^ 64 → option_map (λ l. l.address) o ≡ Some address →
    with_some o (λ l. elim (may_poke count (l.address + offset) 8) [ true ↦ Some (l.address + offset) | false ↦ None ]) ≡ None
by count offset address None past short is = refl
by count offset address (Some l) past short is =
    let same : l.address ≡ address = cc in
    let none : may_poke count (l.address + offset) 8 ≡ false = rw same (not_poked count (address + offset) past short) in
    ap (λ (b : Bool). elim b [ true ↦ Some (l.address + offset) | false ↦ None ]) none

pub none_over : (i : ImageParts) (count offset address : ℕ) (name : List ℕ) → 2 ^ 64 ≤ address + offset → data_base + count < 2 ^ 64 →
    option_map (λ l. l.address) (label_named i name) ≡ Some address → label_place count i name offset 8 ≡ None
none_over i count offset address name past short is = by count offset address (label_named i name) past short is

-- ---- what is found lies in data

pub record LiesInData (count address : ℕ) : Type 0 where
  pub aligned : address % 8 ≡ 0
  pub low : data_base ≤ address
  pub high : address + 8 ≤ data_base + count

may_lie : (count address : ℕ) → may_poke count address 8 ≡ true → LiesInData count address
may_lie count address is = record { aligned = grind (arith, nat_tests); low = grind (arith, nat_tests); high = grind (arith, nat_tests) }

at_test : (count made address : ℕ) (b : Bool) → may_poke count made 8 ≡ b → ◌≡◌ {A = Option ℕ} (elim b [ true ↦ Some made | false ↦ None ]) (Some address) → LiesInData count address
at_test count made address true may is = let same : made ≡ address = cc in subst (LiesInData count) same (may_lie count made may)
at_test count made address false may is = absurd cc

at_label : (count offset address : ℕ) (o : Option LabelRow) →
    with_some o (λ l. elim (may_poke count (l.address + offset) 8) [ true ↦ Some (l.address + offset) | false ↦ None ]) ≡ Some address → LiesInData count address
at_label count offset address None is = absurd cc
at_label count offset address (Some l) is = at_test count (l.address + offset) address (may_poke count (l.address + offset) 8) refl is

pub place_lies : (i : ImageParts) (count offset address : ℕ) (name : List ℕ) → label_place count i name offset 8 ≡ Some address → LiesInData count address
place_lies i count offset address name is = at_label count offset address (label_named i name) is

-- ---- what is written

module _ (cursor : Cursor Element) (s : State) (offset : ℕ) where
  abbrev pub written : ℕ → ℕ → State
  written value address = record s { memory = stored s.memory address 8 value }

  written_by : (value address : ℕ) (b : Bool) →
      ◌≡◌ {A = Change} (given (elim b [ true ↦ Some (written value address) | false ↦ None ]) NoPlace (says ok_line cursor))
      (and_then (ok_or (elim b [ true ↦ Some address | false ↦ None ]) NoPlace) (λ a. says ok_line cursor (written value a)))
  written_by value address true = refl
  written_by value address false = refl

  written_at : (count value : ℕ) (o : Option LabelRow) →
      ◌≡◌ {A = Change} (given (with_some o (λ l. elim (may_poke count (l.address + offset) 8) [ true ↦ Some (written value (l.address + offset)) | false ↦ None ])) NoPlace (says ok_line cursor))
      (and_then (ok_or (with_some o (λ l. elim (may_poke count (l.address + offset) 8) [ true ↦ Some (l.address + offset) | false ↦ None ])) NoPlace) (λ a. says ok_line cursor (written value a)))
  written_at count value None = refl
  written_at count value (Some l) = written_by value (l.address + offset) (may_poke count (l.address + offset) 8)

spelled_again : (value : ℕ) → value < 2 ^ 64 → number_of (bytes_of 8 value) ≡ value
spelled_again value short = number_of_bytes 8 value ∙ mod-eq_of_lt {n = value} short

pub pokes_are_found : PokesAreFound
pokes_are_found count i cursor s name offset value short =
    written_at cursor s offset count (number_of (bytes_of 8 value)) (label_named i name)
    ∙ ap (λ (v : ℕ). and_then (ok_or (label_place count i name offset 8) NoPlace) (λ a. says ok_line cursor (written cursor s offset v a))) (spelled_again value short)
