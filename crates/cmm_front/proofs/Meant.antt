-- The program that units mean that were read from bytes.
use Rattle.std.proofs.Common.{◌≡◌, ℕ, suc, ◌+◌, arith, List, [], ◌∷◌, length, map, ap, ◌∙◌}
use Rattle.std.specs.List.{All, AllZip}
use Rattle.std.proofs.lemmas.List.{length-append, length-map}
use Rattle.std.proofs.lemmas.List.Elements.{All-cons, All-head, All-nil, All-tail}
use Rattle.cmm_lexer.specs.declared.piece.Lexeme.{Lexeme}
use Rattle.cmm_grammar.specs.Derivation.{DerivesWithin}
use Rattle.cmm_ast.specs.declared.unit.Unit.{Unit as UnitTree}
use Rattle.cmm_lexer.specs.Laws.{AreBytes}
use Rattle.cmm_lexer.specs.Lexing.{tokens_of}
use Rattle.cmm_lexer.specs.Places.{line_at, column_at}
use Rattle.cmm_elaboration.specs.Laws.{AreDerivedWithin, AreRead, IsReadFromBytes, TextsAreBytes}
use Rattle.cmm_elaboration.proofs.Shared.{are_read, read_texts_are_bytes}
use Rattle.cmm_front.specs.Sources.{IsTreeOf, lexemes_in, places_in}

places_count : (unit : List ℕ) → length (places_in unit) ≡ suc (length (tokens_of unit))
places_count unit =
    length-append (map (λ t. record { line = t.line; column = t.column }) (tokens_of unit)) (record { line = line_at unit (length unit); column = column_at unit (length unit) } ∷ [])
    ∙ one_more (length-map (tokens_of unit) (λ t. record { line = t.line; column = t.column }))
  where
    one_more : {m n : ℕ} → m ≡ n → m + 1 ≡ suc n
    one_more same = omega arith

read_from : (unit : List ℕ) (tree : UnitTree) → AreBytes unit → IsTreeOf unit tree → IsReadFromBytes tree
read_from unit tree bytes is = record { bytes = unit; are_bytes = bytes; derives = is.derives.derives; places = ap length is.places ∙ places_count unit }

read_all : (units : List (List ℕ)) (trees : List UnitTree) → All AreBytes units → AllZip IsTreeOf units trees → All IsReadFromBytes trees
read_all [] [] bytes are = All-nil IsReadFromBytes
read_all [] (t ∷ ts) bytes are = absurd are
read_all (u ∷ us) [] bytes are = absurd are
read_all (u ∷ us) (t ∷ ts) bytes are =
    All-cons IsReadFromBytes t ts (read_from u t (All-head AreBytes u us bytes) are.0) (read_all us ts (All-tail AreBytes u us bytes) are.1)

-- what holds of trees that are read from bytes
pub when_read : {A : Type 0} (units : List (List ℕ)) (trees : List UnitTree) → All AreBytes units → AllZip IsTreeOf units trees → (AreRead trees → TextsAreBytes trees → A) → A
when_read units trees bytes are so = let read = read_all units trees bytes are in so (are_read trees read) (read_texts_are_bytes trees read)

-- trees of units derive their tokens within the limits on nesting
pub derived_within : (units : List (List ℕ)) (trees : List UnitTree) → AllZip IsTreeOf units trees → AreDerivedWithin trees
derived_within [] [] are = All-nil (λ u. (tokens : List Lexeme) × DerivesWithin tokens u)
derived_within [] (t ∷ ts) are = absurd are
derived_within (u ∷ us) [] are = absurd are
derived_within (u ∷ us) (t ∷ ts) are =
    All-cons (λ u. (tokens : List Lexeme) × DerivesWithin tokens u) t ts (lexemes_in u, are.0.derives) (derived_within us ts are.1)
