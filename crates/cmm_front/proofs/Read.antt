-- What the lexer and the parser say of the tokens of a unit, said of its bytes.
use Rattle.std.proofs.Common.{◌≡◌, ℕ, zero, suc, List, [], ◌∷◌, ◌++◌, length, Some, refl, ap, sym, ◌∙◌, subst, arith}
use Rattle.std.specs.Prelude.{◌≤◌, ◌<◌, ◌^◌, Bool, true, false, cond, nat_lt, None, map, slice_get, slice_index_or}
use Rattle.std.specs.List.{All, AllZip}
use Rattle.std.proofs.lemmas.List.Elements.{All-cons, All-nil}
use Rattle.std.proofs.lemmas.Bool.Decides.{nat_tests}
use Rattle.cmm_rules.specs.declared.rule.Rule.{Rule}
use Rattle.cmm_rules.specs.declared.rule.Rule.TheVariants.{UnitTooLong}
use Rattle.cmm_lexer.specs.declared.tokens.TheConstants.{UNIT_LIMIT}
use Rattle.cmm_static_semantics.specs.declared.fault.Fault.{Fault}
use Rattle.cmm_ast.specs.declared.unit.Place.{Place}
use Rattle.cmm_ast.specs.declared.unit.Unit.{Unit as UnitTree}
use Rattle.cmm_grammar.specs.Derivation.{DerivesWithin}
use Rattle.cmm_lexer.specs.declared.token.Token.{Token}
use Rattle.cmm_lexer.specs.declared.tokens.Tokens.{Tokens}
use Rattle.cmm_lexer.specs.Lexing.{Lexes, faults_of, Spelled, lexeme_of, spelled, tokens_of}
use Rattle.cmm_lexer.specs.Places.{line_at, column_at}
use Rattle.cmm_parser.specs.declared.fault.SyntaxFault.TheVariants as syntax
use Rattle.cmm_parser.specs.Faults.{IsFaultOf, lexemes_of, place_of, places_of}
use Rattle.cmm_front.specs.Sources.{IsLexicalFault, IsSyntaxFault, IsTreeOf, lexemes_in, places_in}

not_above : (n : ℕ) → nat_lt UNIT_LIMIT n ≡ false → n ≤ UNIT_LIMIT
not_above n is = grind (arith, nat_tests)

lexemes_spelled : (keys : List (List ℕ)) (ts : List Token) → map (λ t. lexeme_of keys t.kind) ts ≡ map (λ s. s.lexeme) (map (spelled keys) ts)
lexemes_spelled keys [] = refl
lexemes_spelled keys (t ∷ ts) = ap (λ xs. lexeme_of keys t.kind ∷ xs) (lexemes_spelled keys ts)

abbrev place : Spelled → Place
place s = record { line = s.line; column = s.column }

places_spelled : (keys : List (List ℕ)) (ts : List Token) → map place_of ts ≡ map place (map (spelled keys) ts)
places_spelled keys [] = refl
places_spelled keys (t ∷ ts) = ap (λ xs. place_of t ∷ xs) (places_spelled keys ts)

-- the parser's tokens are those of the unit's bytes
pub same_lexemes : (unit : List ℕ) (ts : Tokens) → Lexes unit ts → lexemes_of ts ≡ lexemes_in unit
same_lexemes unit ts lexes = lexemes_spelled ts.spellings.keys ts.list ∙ ap (λ (xs : List Spelled). map (λ s. s.lexeme) xs) lexes.tokens

-- and they stand where those do
pub same_places : (unit : List ℕ) (ts : Tokens) → Lexes unit ts → places_of ts ≡ places_in unit
same_places unit ts lexes =
    ap (λ (xs : List Place). xs ++ record { line = ts.line; column = ts.column } ∷ []) (places_spelled ts.spellings.keys ts.list ∙ ap (λ (xs : List Spelled). map place xs) lexes.tokens)
    ∙ ap (λ (p : Place). map place (tokens_of unit) ++ p ∷ []) ends
  where
    ends : ◌≡◌ {A = Place} (record { line = ts.line; column = ts.column }) (record { line = line_at unit (length unit); column = column_at unit (length unit) })
    ends = λ i. record { line = lexes.line i; column = lexes.column i }

-- so a tree of the tokens is one of the unit
pub tree_is : (unit : List ℕ) (ts : Tokens) (tree : UnitTree) → Lexes unit ts → DerivesWithin (lexemes_of ts) tree → tree.places ≡ places_of ts → IsTreeOf unit tree
tree_is unit ts tree lexes derives places = record {
  unbroken = lexes.unbroken;
  derives = subst (λ xs. DerivesWithin xs tree) (same_lexemes unit ts lexes) derives;
  places = places ∙ same_places unit ts lexes;
}

-- a fault of the syntax of the tokens is one of the unit
pub syntax_is : (unit : List ℕ) (ts : Tokens) (rule : Rule) (token number : ℕ) (f : Fault) → Lexes unit ts → IsFaultOf (lexemes_of ts) (syntax.At rule token) → f.rule ≡ rule →
    f.unit ≡ number → slice_get (places_of ts) token ≡ Some record { line = f.line; column = f.column } → IsSyntaxFault unit number f
syntax_is unit ts rule token number f lexes broken rule_is unit_is place_is = record {
  is_unit = unit_is;
  unbroken = lexes.unbroken;
  token = token;
  broken = subst (λ r. IsFaultOf (lexemes_in unit) (syntax.At r token)) (sym rule_is) (subst (λ xs. IsFaultOf xs (syntax.At rule token)) (same_lexemes unit ts lexes) broken);
  place = ap (λ (ps : List Place). slice_get ps token) (sym (same_places unit ts lexes)) ∙ place_is;
}

-- a unit has no more tokens than it may have bytes
pub few_tokens : (unit : List ℕ) (ts : Tokens) → Lexes unit ts → length ts.list < 2 ^ 32
few_tokens unit ts lexes = by (nat_lt UNIT_LIMIT (length unit)) refl lexes.unbroken where
  by : (b : Bool) → nat_lt UNIT_LIMIT (length unit) ≡ b → cond b (Some record { rule = UnitTooLong; start = 0 }) (slice_get (faults_of unit) 0) ≡ None → length ts.list < 2 ^ 32
  by true is h = absurd cc
  by false is h =
      let few : length ts.list ≤ length unit = lexes.few in
      let within : length unit ≤ UNIT_LIMIT = not_above (length unit) is in
      omega arith

-- a unit of a list, by its index, and its tokens
pub lexed_front : (units : List (List ℕ)) (all : List Tokens) (k : ℕ) → AllZip Lexes units all → k < length all → k < length units
lexed_front [] [] k lexed inside = inside
lexed_front [] (t ∷ ts) k lexed inside = absurd lexed
lexed_front (u ∷ us) [] k lexed inside = absurd lexed
lexed_front (u ∷ us) (t ∷ ts) zero lexed inside = omega arith
lexed_front (u ∷ us) (t ∷ ts) (suc k) lexed inside = let more : k < length us = lexed_front us ts k lexed.1 (omega arith) in omega arith

pub lexed_at : (units : List (List ℕ)) (all : List Tokens) (k : ℕ) (tokens : Tokens) → AllZip Lexes units all → k < length all → tokens ≡ slice_index_or all k tokens →
    Lexes (slice_index_or units k []) tokens
lexed_at [] [] k tokens lexed inside is = absurd (omega arith)
lexed_at [] (t ∷ ts) k tokens lexed inside is = absurd lexed
lexed_at (u ∷ us) [] k tokens lexed inside is = absurd lexed
lexed_at (u ∷ us) (t ∷ ts) zero tokens lexed inside is = subst (Lexes u) (sym is) lexed.0
lexed_at (u ∷ us) (t ∷ ts) (suc k) tokens lexed inside is = lexed_at us ts k tokens lexed.1 (omega arith) is

-- there are as many tokens as units
pub lexed_count : (units : List (List ℕ)) (all : List Tokens) (n : ℕ) → AllZip Lexes units all → length all ≤ n → length units ≤ n
lexed_count [] [] n lexed most = most
lexed_count [] (t ∷ ts) n lexed most = absurd lexed
lexed_count (u ∷ us) [] n lexed most = absurd lexed
lexed_count (u ∷ us) (t ∷ ts) zero lexed most = absurd (omega arith)
lexed_count (u ∷ us) (t ∷ ts) (suc n) lexed most = let rest : length us ≤ n = lexed_count us ts n lexed.1 (omega arith) in omega arith

abbrev pub AreFew : List Tokens → Type 0
AreFew all = All (λ ts. length ts.list < 2 ^ 32) all

pub few_each : (units : List (List ℕ)) (all : List Tokens) → AllZip Lexes units all → AreFew all
few_each [] [] lexed = All-nil (λ ts. length ts.list < 2 ^ 32)
few_each [] (t ∷ ts) lexed = absurd lexed
few_each (u ∷ us) [] lexed = absurd lexed
few_each (u ∷ us) (t ∷ ts) lexed = All-cons (λ x. length x.list < 2 ^ 32) t ts (few_tokens u t lexed.0) (few_each us ts lexed.1)

over : (n : ℕ) → UNIT_LIMIT < n → nat_lt UNIT_LIMIT n ≡ true
over n more = grind (arith, nat_tests)

-- the first fault of a unit that is too long
pub too_long_is : (unit : List ℕ) (number : ℕ) → UNIT_LIMIT < length unit → IsLexicalFault unit number (record { rule = UnitTooLong; unit = number; line = 1; column = 1 })
too_long_is unit number more = record {
  is_unit = refl;
  first = (
    0,
    ap (λ (b : Bool). cond b (Some record { rule = UnitTooLong; start = 0 }) (slice_get (faults_of unit) 0)) (over (length unit) more),
    refl,
    refl,
  );
}
