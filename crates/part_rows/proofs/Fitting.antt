-- The frames and values of the call that is tried are what code asks for.
use Rattle.std.proofs.Common.{◌≡◌, ℕ, ◌+◌, ◌<◌, ◌≤◌, ◌^◌, Bool, true, false, get_or, List, [], ◌∷◌, ◌++◌, length, length-append, take, drop, refl, lit<, lit≤, arith}
use Rattle.std.specs.Prelude.{nat_le}
use Rattle.std.specs.List.{All, list_all}
use Rattle.std.proofs.lemmas.Bool.Decides.{nat_tests}
use Rattle.std.specs.Int.{w32, to_le_bytes}
use Rattle.std.proofs.lemmas.List.{length-drop, length-take-le}
use Rattle.cmm_chain.specs.Plans.{is_place}
use Rattle.cmm_chain.specs.declared.frame.Frame.{Frame}
use Rattle.rv_asm.specs.Filling.{with_high, with_low, with_number, word_at}
use Rattle.rv_asm.specs.Sizes.{all_longest}
use Rattle.rv_asm.specs.declared.part.Label.{Label}
use Rattle.rv_asm.specs.declared.part.Meaning.{Meaning}
use Rattle.rv_asm.specs.declared.part.Part.{Part}
use Rattle.rv_asm.specs.declared.part.Part.TheVariants.{Place as PlacePart}
use Rattle.cmm_effects.proofs.Shared.{adds_part}
use Rattle.cmm_words.specs.declared.width.Width.{Width}
use Rattle.cmm_words.specs.declared.width.Width.TheVariants.{W8, W16, W32, W64}
use Rattle.cmm_select.specs.Operands.{IsOperand}
use Rattle.cmm_select.specs.Operators.{shifts_of}
use Rattle.cmm_select.specs.declared.operand.Operand.{Operand}
use Rattle.cmm_select.specs.declared.operand.Operand.TheVariants.{Held, Symbol}
use Rattle.cmm_select.specs.declared.source.Source.TheVariants.{Place, Number, Address}
use Rattle.cmm_calls.proofs.Shared.{each, place_is}
use Rattle.cmm_calls.specs.Frames.{CanBeMade}
use Rattle.cmm_calls.specs.Values.{is_operand}
use Rattle.part_rows.specs.Layouts.{callee_frame, caller_frame, formals_of, passed_values, returned_of, slot_of}
use Rattle.part_rows.specs.declared.code.frames.Layout.{Layout}
use Rattle.part_rows.specs.declared.code.frames.Layout.TheVariants.{Small, Reach, Before, Behind, Last}

abbrev needs_no_label : Operand → Bool
needs_no_label (Held source) = true
needs_no_label (Symbol l plus) = false

pub caller_made : CanBeMade caller_frame
caller_made = record { laid = refl; small = lit< tt; registers = refl }

pub callee_made : (l : Layout) → CanBeMade (callee_frame l)
callee_made Small = record { laid = refl; small = lit< tt; registers = refl }
callee_made Reach = record { laid = refl; small = lit< tt; registers = refl }
callee_made Before = record { laid = refl; small = lit< tt; registers = refl }
callee_made Behind = record { laid = refl; small = lit< tt; registers = refl }
callee_made Last = record { laid = refl; small = lit< tt; registers = refl }

pub formals_are : (l : Layout) → list_all (is_place (callee_frame l)) (formals_of l) ≡ true
formals_are Small = refl
formals_are Reach = refl
formals_are Before = refl
formals_are Behind = refl
formals_are Last = refl

pub zeroed_is : (l : Layout) → list_all (is_place (callee_frame l)) (slot_of l 6 ∷ []) ≡ true
zeroed_is Small = refl
zeroed_is Reach = refl
zeroed_is Before = refl
zeroed_is Behind = refl
zeroed_is Last = refl

pub returned_are : (l : Layout) → list_all (is_operand (callee_frame l)) (returned_of l) ≡ true
returned_are Small = refl
returned_are Reach = refl
returned_are Before = refl
returned_are Behind = refl
returned_are Last = refl

-- operands in a frame need no label
operand_is : (f : Frame) (a : Operand) (labels : List Meaning) → CanBeMade f → is_operand f a ≡ true → needs_no_label a ≡ true → IsOperand labels a
operand_is f (Held (Place p)) labels can is none = place_is f p can is
operand_is f (Held (Number n)) labels can is none = tt
operand_is f (Held (Address o)) labels can is none = within f.size o is can.small
  where
    within : (size o : ℕ) → nat_le o size ≡ true → size < 2 ^ 21 → o < 2 ^ 21
    within size o h g = let e : o ≤ size = grind (arith, nat_tests, h) in omega (arith, e, g)
operand_is f (Symbol l plus) labels can is none = absurd (cc)

operands_are : (f : Frame) (xs : List Operand) (labels : List Meaning) → CanBeMade f → list_all (is_operand f) xs ≡ true → list_all needs_no_label xs ≡ true → All (IsOperand labels) xs
operands_are f xs labels can are none k d within =
    operand_is f (get_or xs k d) labels can (each (is_operand f) xs k d are within) (each needs_no_label xs k d none within)

pub passed_operands : (labels : List Meaning) → All (IsOperand labels) passed_values
passed_operands labels = operands_are caller_frame passed_values labels caller_made refl refl

pub returned_operands : (layout : Layout) (labels : List Meaning) → All (IsOperand labels) (returned_of layout)
returned_operands layout labels = operands_are (callee_frame layout) (returned_of layout) labels (callee_made layout) (returned_are layout) refl

pub shifts_few : (w : Width) → shifts_of w ≤ 2
shifts_few W8 = lit≤ tt
shifts_few W16 = lit≤ tt
shifts_few W32 = lit≤ tt
shifts_few W64 = lit≤ tt

-- a place adds no instruction
pub placed_few : (old new : List Part) (l : Label) → new ≡ old ++ PlacePart l ∷ [] → all_longest new ≤ all_longest old
placed_few old new l is = rw is (omega (arith, (adds_part old (PlacePart l) 0 (omega arith)).few))

-- the length of code stays as places get their numbers
pub filled_length : (n place : ℕ) (bytes : List ℕ) → place + 8 ≤ length bytes → length (with_number n place bytes) ≡ length bytes
filled_length n place bytes h =
    let high : List ℕ = to_le_bytes w32 (with_high n (word_at bytes place)) in
    let low : List ℕ = to_le_bytes w32 (with_low n (word_at bytes (place + 4))) in
    let a : length (take place bytes) ≡ place = length-take-le place bytes (omega (arith, h)) in
    let b : length high ≡ 4 = refl in
    let c : length low ≡ 4 = refl in
    let d = length-drop (place + 8) bytes in
    let e : length (low ++ drop (place + 8) bytes) ≡ length low + length (drop (place + 8) bytes) = length-append low (drop (place + 8) bytes) in
    let f : length (high ++ (low ++ drop (place + 8) bytes)) ≡ length high + length (low ++ drop (place + 8) bytes) = length-append high (low ++ drop (place + 8) bytes) in
    let g : length (take place bytes ++ (high ++ (low ++ drop (place + 8) bytes))) ≡ length (take place bytes) + length (high ++ (low ++ drop (place + 8) bytes)) =
    length-append (take place bytes) (high ++ (low ++ drop (place + 8) bytes)) in
    omega (arith, a, b, c, d, e, f, g, h)
