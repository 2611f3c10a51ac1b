-- The code of a list of instructions has each of them at its place.
use Rattle.std.proofs.Common.{◌≡◌, ℕ, ◌+◌, ◌-◌, ◌*◌, ◌%◌, ◌<◌, ◌^◌, refl, ap, ◌∙◌, arith, length, append_assoc, length-append}
use Rattle.std.specs.Prelude.{List, [], ◌∷◌, ◌++◌, Some, true, ◌==◌, nat_le}
use Rattle.std.specs.Int.{w32, to_le_bytes}
use Rattle.std.specs.List.{All}
use Rattle.std.specs.Option.{option_and_then}
use Rattle.std.proofs.Math.Seq.{drop-append_seam}
use Rattle.std.proofs.lemmas.Bool.Decides.{nat_tests}
use Rattle.std.proofs.lemmas.List.Elements.{All-head, All-tail}
use Rattle.std.proofs.lemmas.Nat.{from_le_bytes-to_le_bytes_4}
use Rattle.rv_table.specs.declared.instruction.Instr.{Instr}
use Rattle.rv_table.specs.Decoding.{instr_of}
use Rattle.rv_table.specs.Machine.{code_base, is_fetchable, fetched}
use Rattle.rv_table.specs.Stands.{standing, Stands, code_of}
use Rattle.rv_table.specs.Table.{IsValid, word_of}
use Rattle.rv_table.proofs.Encodes.{instr_of-word_of, word_of-lt}

-- the word that stands behind whole words is fetched
pub fetched-append : (before after : List ℕ) (word : ℕ) → length before % 4 ≡ 0 → word < 2 ^ 32 →
    fetched (before ++ (to_le_bytes w32 word ++ after)) (code_base + length before) ≡ Some word
fetched-append before after word e h =
    let a : ((code_base + length before) % 4 == 0) ≡ true = grind (arith, nat_tests) in
    let b : nat_le code_base (code_base + length before) ≡ true = grind (arith, nat_tests) in
    let c : nat_le (code_base + length before + 4) (code_base + length (before ++ (to_le_bytes w32 word ++ after))) ≡ true =
    rw (length-append) (grind (arith, nat_tests))
    in
    let d : code_base + length before - code_base ≡ length before = omega arith in
    let fits : is_fetchable (before ++ (to_le_bytes w32 word ++ after)) (code_base + length before) ≡ true = rw (a, b, c) in
    rw (fetched, fits, d, drop-append_seam before (to_le_bytes w32 word ++ after)) (ap Some (from_le_bytes-to_le_bytes_4 word h))

pub length-code_of : (is : List Instr) → length (code_of is) ≡ 4 * length is
length-code_of [] = refl
length-code_of (i ∷ is) = let h : length (code_of is) ≡ 4 * length is = length-code_of is in omega (arith, h)

-- the instructions stand where their code begins, whatever whole words are before it and whatever is after it
pub stands_behind : (front : List ℕ) (is : List Instr) (back : List ℕ) → length front % 4 ≡ 0 → All IsValid is →
    Stands (front ++ (code_of is ++ back)) (code_base + length front) is
stands_behind front [] back e valid = tt
stands_behind front (i ∷ is) back e valid =
    let w = word_of i in
    let bytes = to_le_bytes w32 w in
    let first = All-head IsValid i is valid in
    let here : standing (front ++ (bytes ++ (code_of is ++ back))) (code_base + length front) ≡ Some i =
    ap (option_and_then instr_of) (fetched-append front (code_of is ++ back) w e (word_of-lt i first))
    ∙ instr_of-word_of i first
    in
    let longer : length (front ++ bytes) ≡ length front + 4 = rw length-append (omega arith) in
    let rest : Stands ((front ++ bytes) ++ (code_of is ++ back)) (code_base + length (front ++ bytes)) is =
    stands_behind (front ++ bytes) is back (rw longer (omega arith)) (All-tail IsValid i is valid)
    in
    let place : code_base + length (front ++ bytes) ≡ code_base + length front + 4 = rw longer (omega arith) in
    let whole : (front ++ bytes) ++ (code_of is ++ back) ≡ front ++ (bytes ++ (code_of is ++ back)) =
    append_assoc front bytes (code_of is ++ back)
    in
    let later : Stands (front ++ (bytes ++ (code_of is ++ back))) (code_base + length front + 4) is = rw (whole, place) at rest in
    (here, later)
