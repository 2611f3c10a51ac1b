-- What is known of a unit at a fault and at its end.
use Rattle.std.proofs.Common.{◌≡◌, ℕ, ◌<◌, ◌≤◌, true, false, nat_lt, nat_eq, List, [], ◌∷◌, length, Some, Result, Ok, Err, refl, sym, ◌∙◌, arith, append-nil}
use Rattle.std.proofs.lemmas.Bool.Decides.{nat_tests, Decides-eqb}
use Rattle.std.proofs.lemmas.List.{drop_all}
use Rattle.std.proofs.lemmas.Map.Made.{AllPairs-from_IsDistinct}
use Rattle.std.proofs.lemmas.Slice.Eq.{slice_eq-Decides}
use Rattle.std.specs.List.{flat_map}
use Rattle.std.specs.Cmp.Lexicographic.{pointwise}
use Rattle.std.specs.Result.{IsErrAnd, IfErr}
use Rattle.cmm_lexer.specs.declared.piece.Piece.{Piece}
use Rattle.cmm_lexer.specs.declared.piece.Part.TheVariants.{Broken}
use Rattle.cmm_rules.specs.declared.rule.Rule.{Rule}
use Rattle.cmm_rules.specs.declared.rule.Rule.TheVariants.{UnitTooLong}
use Rattle.cmm_lexer.specs.declared.tokens.Tokens.{Tokens}
use Rattle.cmm_lexer.specs.declared.tokens.LexFault.{LexFault}
use Rattle.cmm_lexer.specs.declared.tokens.LexFault.TheVariants.{At, Memory}
use Rattle.cmm_lexer.specs.declared.tokens.TheConstants.{UNIT_LIMIT}
use Rattle.cmm_lexer.specs.Places.{line_at, column_at}
use Rattle.cmm_lexer.specs.Pieces.{Placed, pieces_from}
use Rattle.cmm_lexer.specs.Lexing.{Lexes, fault_of, faults_of, first_fault, IsFirstFault}
use Rattle.cmm_lexer.specs.inside.Blame.{Blames}
use Rattle.cmm_lexer.specs.inside.Reached.{Reached, pieces_at}

-- a unit is refused for its length first
pub first_fault-long : (unit : List ℕ) → UNIT_LIMIT < length unit → first_fault unit ≡ Some (record { rule = UnitTooLong; start = 0 })
first_fault-long unit h = let long : nat_lt UNIT_LIMIT (length unit) ≡ true = grind (arith, nat_tests) in rw long refl

-- of a short one the first broken piece counts
first_fault-broken : (unit : List ℕ) (place : ℕ) (p : Piece) (rule : Rule) (ps : List Placed) → length unit ≤ UNIT_LIMIT → p.part ≡ Broken rule → flat_map fault_of (record { start = place; piece = p } ∷ ps) ≡ faults_of unit →
    first_fault unit ≡ Some (record { rule = rule; start = place })
first_fault-broken unit place p rule ps h is e = let short : nat_lt UNIT_LIMIT (length unit) ≡ false = grind (arith, nat_tests) in rw (short, ← e, is) refl

-- the piece at the place reached breaks the rule of the fault
pub blamed : (unit : List ℕ) (place : ℕ) (p : Piece) (line column : ℕ) (fault : LexFault) (ps : List Placed) → length unit ≤ UNIT_LIMIT → pieces_at unit place ≡ record { start = place; piece = p } ∷ ps → flat_map fault_of (pieces_at unit place) ≡ faults_of unit →
    line ≡ line_at unit place → column ≡ column_at unit place → Blames p.part line column fault → IsFirstFault unit fault
blamed unit place p line column Memory ps h step e sl sc b = tt
blamed unit place p line column (At r l c) ps h step e sl sc (is, el, ec) =
    (place, first_fault-broken unit place p r ps h is (rw step at e), el ∙ sl, ec ∙ sc)

-- nothing is left at the end of a unit
pieces_at-end : (unit : List ℕ) (place : ℕ) → length unit ≤ place → pieces_at unit place ≡ []
unfolding pieces_from
pieces_at-end unit place h = rw (drop_all place unit h) refl

-- all is read
pub finished : (unit : List ℕ) (place : ℕ) (ts : Tokens) → Reached unit place ts → length unit ≤ place → length unit ≤ UNIT_LIMIT → Lexes unit ts
finished unit place ts r h s =
    let all : place ≡ length unit = omega (arith, r.within) in
    let none : pieces_at unit place ≡ [] = pieces_at-end unit place h in
    let short : nat_lt UNIT_LIMIT (length unit) ≡ false = grind (arith, nat_tests) in
    record {
      unbroken = rw (short, ← r.faults, none) refl;
      tokens = sym (append-nil _) ∙ (rw none at r.tokens);
      numbered = r.numbered;
      distinct = AllPairs-from_IsDistinct (λ xs ys. slice_eq-Decides Decides-eqb xs ys (pointwise nat_eq xs ys) refl) ts.spellings.keys r.distinct;
      few = rw (← all) r.counted;
      line = rw (← all) r.line;
      column = rw (← all) r.column;
    }

-- an error that is passed on
pub err-passed : {T E : Type 0} (r : Result T E) (e : E) (P : E → Type 0) → IsErrAnd r (λ y. y ≡ e) → P e → IfErr r P
err-passed (Ok x) e P h p = tt
err-passed (Err y) e P h p = rw h p
