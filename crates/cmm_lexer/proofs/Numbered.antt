-- Numbers of spellings, as more spellings come.
use Rattle.std.proofs.Common.{◌≡◌, ℕ, ◌<◌, ◌≤◌, true, nat_eq, nat_lt, List, [], ◌∷◌, ◌++◌, length, get_or, map, Some, refl, ap, sym, ◌∙◌, ◌+◌, arith, length-append}
use Rattle.std.proofs.Math.ListN.{length-map}
use Rattle.std.proofs.lemmas.Bool.{and_parts}
use Rattle.std.proofs.lemmas.Bool.Decides.{nat_tests}
use Rattle.std.proofs.lemmas.Grind.{common_steps}
use Rattle.std.proofs.lemmas.Option.{get_or_from_slice_get}
use Rattle.std.specs.List.{slice_get}
use Rattle.std.specs.Cmp.Lexicographic.{pointwise, same_text}
use Rattle.cmm_lexer.specs.declared.token.Token.{Token}
use Rattle.cmm_lexer.specs.declared.token.TokenKind.{TokenKind}
use Rattle.cmm_lexer.specs.declared.token.TokenKind.TheVariants.{Name, Int, Char, Text, Op, Checked, Word, Symbol}
use Rattle.cmm_lexer.specs.declared.piece.Lexeme.TheVariants as lexeme
use Rattle.cmm_lexer.specs.declared.piece.Lexeme.{Lexeme}
use Rattle.cmm_lexer.specs.declared.piece.Part.{Part}
use Rattle.cmm_lexer.specs.declared.piece.Part.TheVariants.{Skipped, Lexed, Broken}
use Rattle.cmm_lexer.specs.Lexing.{spelled, lexeme_of, is_numbered, are_numbered, token_in}

-- a spelling that is found is the one that was sought
pub found-same : (names : List (List ℕ)) (i : ℕ) (s : List ℕ) → ((k : List ℕ) × (slice_get names i ≡ Some k) × (pointwise nat_eq s k ≡ true)) → get_or names i [] ≡ s
found-same names i s (k, at, same) = get_or_from_slice_get names i k [] at ∙ sym (same_text s k (sym same))

get_or-more : (names more : List (List ℕ)) (n : ℕ) → nat_lt n (length names) ≡ true → get_or (names ++ more) n [] ≡ get_or names n []
get_or-more names more n h = let lt : n < length names = grind (arith, nat_tests) in grind (arith, common_steps)

-- a token's spelling stays as more come
lexeme_of-more : (names more : List (List ℕ)) (k : TokenKind) → is_numbered (length names) k ≡ true → lexeme_of (names ++ more) k ≡ lexeme_of names k
lexeme_of-more names more (Name n) h = ap lexeme.Name (get_or-more names more n h)
lexeme_of-more names more (Int n) h = refl
lexeme_of-more names more (Char n) h = refl
lexeme_of-more names more (Text n) h = ap lexeme.Text (get_or-more names more n h)
lexeme_of-more names more (Op n) h = ap lexeme.Op (get_or-more names more n h)
lexeme_of-more names more (Checked n) h = ap lexeme.Checked (get_or-more names more n h)
lexeme_of-more names more (Word n) h = refl
lexeme_of-more names more (Symbol n) h = refl

below-more : (n a b : ℕ) → a ≤ b → nat_lt n a ≡ true → nat_lt n b ≡ true
below-more n a b l h = grind (arith, nat_tests)

is_numbered-more : (a b : ℕ) → a ≤ b → (k : TokenKind) → is_numbered a k ≡ true → is_numbered b k ≡ true
is_numbered-more a b l (Name n) h = below-more n a b l h
is_numbered-more a b l (Int n) h = refl
is_numbered-more a b l (Char n) h = refl
is_numbered-more a b l (Text n) h = below-more n a b l h
is_numbered-more a b l (Op n) h = below-more n a b l h
is_numbered-more a b l (Checked n) h = below-more n a b l h
is_numbered-more a b l (Word n) h = refl
is_numbered-more a b l (Symbol n) h = refl

spelled-push : (names more : List (List ℕ)) (ts : List Token) (t : Token) → are_numbered (length names) ts ≡ true → map (spelled (names ++ more)) (ts ++ t ∷ []) ≡ map (spelled names) ts ++ spelled (names ++ more) t ∷ []
spelled-push names more [] t h = refl
spelled-push names more (u ∷ ts) t h =
    let parts = and_parts (is_numbered (length names) u.kind) (are_numbered (length names) ts) h in
    rw (lexeme_of-more names more u.kind parts.0, spelled-push names more ts t parts.1) refl

-- a token more
pub spelled-pushed : (names later : List (List ℕ)) (ts us : List Token) (t : Token) (x : Lexeme) → ((more : List (List ℕ)) × (length more ≤ 1) × (later ≡ names ++ more)) → us ≡ ts ++ t ∷ [] → are_numbered (length names) ts ≡ true → lexeme_of later t.kind ≡ x →
    map (spelled later) us ≡ map (spelled names) ts ++ record { lexeme = x; start = t.start; past = t.«end»; line = t.line; column = t.column } ∷ []
spelled-pushed names later ts us t x (more, few, grown) e h l =
    let there : lexeme_of (names ++ more) t.kind ≡ x = rw (← grown) l in
    rw (e, grown, spelled-push names more ts t h, there) refl

are_numbered-push : (a b : ℕ) → a ≤ b → (ts : List Token) (t : Token) → are_numbered a ts ≡ true → is_numbered b t.kind ≡ true → are_numbered b (ts ++ t ∷ []) ≡ true
are_numbered-push a b l [] t h n = rw n refl
are_numbered-push a b l (u ∷ ts) t h n =
    let parts = and_parts (is_numbered a u.kind) (are_numbered a ts) h in
    rw (is_numbered-more a b l u.kind parts.0, are_numbered-push a b l ts t parts.1 n) refl

pub are_numbered-pushed : (names later : List (List ℕ)) (ts us : List Token) (t : Token) → ((more : List (List ℕ)) × (length more ≤ 1) × (later ≡ names ++ more)) → us ≡ ts ++ t ∷ [] → are_numbered (length names) ts ≡ true → is_numbered (length later) t.kind ≡ true → are_numbered (length later) us ≡ true
are_numbered-pushed names later ts us t (more, few, grown) e h n =
    let l : length names ≤ length later = omega (arith, ap length grown, length-append names more) in
    rw e (are_numbered-push (length names) (length later) l ts t h n)

-- a part of a text is one token at most
token_in-few : (part : Part) (start past line column : ℕ) → length (token_in part start past line column) ≤ 1
token_in-few Skipped start past line column = omega arith
token_in-few (Lexed x) start past line column = omega arith
token_in-few (Broken r) start past line column = omega arith

pub counted-taken : (keys more : List (List ℕ)) (old new : List Token) (part : Part) (start past line column : ℕ) →
    map (spelled more) new ≡ map (spelled keys) old ++ token_in part start past line column → length new ≤ length old + 1
counted-taken keys more old new part start past line column e =
    let few = token_in-few part start past line column in
    omega (arith, simp (length-append, length-map) at (ap length e))
