-- Worked rows: what laws ask of units, of small ones from their text: they break no rule, their texts are of bytes, and they derive their tokens.
use Rattle.std.proofs.Common.{◌≡◌, ℕ, suc, ◌<◌, refl, true, List, [], ◌∷◌, length}
use Rattle.std.specs.Prelude.{codes, map, None}
use Rattle.std.proofs.lemmas.List.Elements.{All-nil, All-cons, All-weaker}
use Rattle.std.proofs.lemmas.List.Sums.{AllPass-from_list_all}
use Rattle.std.proofs.lemmas.Bool.{ltb-true}
use Rattle.cmm_lexer.specs.declared.piece.Lexeme.{Lexeme}
use Rattle.cmm_lexer.specs.Laws.{AreBytes}
use Rattle.cmm_lexer.specs.Lexing.{tokens_of}
use Rattle.cmm_grammar.specs.Derivation.{Derives, DerivesWithin}
use Rattle.cmm_ast.specs.declared.unit.Unit.{Unit as UnitTree}
use Rattle.cmm_program.specs.InRange.{below}
use Rattle.cmm_static_semantics.specs.Faults.{AreAccepted}
use Rattle.cmm_elaboration.proofs.RuleTexts.{unit_of}
use Rattle.cmm_elaboration.specs.Laws.{AreDerivedWithin, AreRead, IsReadFromBytes, TextsAreBytes}
use Rattle.cmm_elaboration.proofs.Texts.{opened}

abbrev sample : List UnitTree
sample =
    unit_of (codes "const n = 2; register bits8 r; export main, d as \"data\"; section \"data\" { d: bits8[] \"hi\"; bits16[n] { 1, -2 }; } main() { bits64 x; x, r = d, 1::bits8; return (x / n); }")
    ∷ []

row_accepted : AreAccepted sample
unfolding opened
row_accepted = refl

row_bytes : TextsAreBytes sample
unfolding opened
row_bytes = refl

abbrev small : UnitTree
small = unit_of (codes "export main; main() { bits64 x; x = 1; return (x); }")

abbrev lexemes : List Lexeme
lexemes = map (λ t. t.lexeme) (tokens_of (codes "export main; main() { bits64 x; x = 1; return (x); }"))

row_derives : Derives lexemes small
unfolding opened
row_derives = record { after = record { left = []; taken = 20; open_brackets = 0; operators = 0; over = None }; takes = refl; all = refl }

row_places : length small.places ≡ suc (length lexemes)
unfolding opened
row_places = refl

row_read : AreRead (small ∷ [])
row_read = All-cons (λ u. (tokens : List Lexeme) × (Derives tokens u × (length u.places ≡ suc (length tokens)))) small [] (lexemes, (row_derives, row_places))
    (All-nil (λ u. (tokens : List Lexeme) × (Derives tokens u × (length u.places ≡ suc (length tokens)))))

row_within : AreDerivedWithin (small ∷ [])
unfolding opened row_derives
row_within = All-cons (λ u. (tokens : List Lexeme) × DerivesWithin tokens u) small [] (lexemes, record { derives = row_derives; within = refl })
    (All-nil (λ u. (tokens : List Lexeme) × DerivesWithin tokens u))

-- a unit that is read from bytes, with a text among its data
abbrev source : List ℕ
source = codes "export main; section \"data\" { d: bits8[] \"\\x68i\"; } main() { return; }"

row_source : AreBytes source
row_source = All-weaker (λ b. below 256 b ≡ true) (λ b. b < 256) (λ b. ltb-true b 256) source (AllPass-from_list_all (below 256) source refl)

row_read_from_bytes : IsReadFromBytes (unit_of source)
unfolding opened
row_read_from_bytes = record {
  bytes = source;
  are_bytes = row_source;
  derives = record { after = record { left = []; taken = 21; open_brackets = 0; operators = 0; over = None }; takes = refl; all = refl };
  places = refl;
}

row_source_accepted : AreAccepted (unit_of source ∷ [])
unfolding opened
row_source_accepted = refl
