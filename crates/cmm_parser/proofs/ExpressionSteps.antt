-- The loop over operators, and the operands of an operator by its name.
use Rattle.std.proofs.Common.{◌≡◌, ◌∙◌, sym, ap, refl, subst, ℕ, zero, suc, pred, ◌<◌, true, Option, Some, None, List, length, Result, Ok, Err, arith}
use Rattle.cmm_ast.specs.declared.expression.Expr.{Expr}
use Rattle.cmm_ast.specs.declared.expression.ExprForm.{ExprForm}
use Rattle.cmm_ast.specs.declared.expression.Infix.{Infix}
use Rattle.cmm_grammar.specs.ExpressionGrammar.{right_level}
use Rattle.cmm_grammar.specs.Reading.{Point, Answer, Read, Stopped, Reads, next, ◌>>=◌, give, look, listed, round, and_then, skip_operator}
use Rattle.cmm_grammar.specs.ExpressionReading.{begins_expression, operand, unary_by, named, operator_by, literal, prim_by, climb, infix_next, joined}
use Rattle.cmm_lexer.specs.declared.piece.Lexeme.TheVariants as l
use Rattle.cmm_ast.specs.declared.expression.ExprForm.TheVariants.{Named, Prim}
use Rattle.cmm_lexer.specs.declared.token.TokenKind.{TokenKind}
use Rattle.cmm_lexer.specs.declared.tokens.Tokens.{Tokens}
use Rattle.cmm_parser.specs.declared.fault.Stop.{Stop}
use Rattle.cmm_parser.specs.inside.Parsing.{Answered, Takes}
use Rattle.cmm_parser.specs.Faults.{lexeme_in}
use Rattle.cmm_parser.proofs.Steps.{stop_first}
use Rattle.cmm_parser.proofs.Loops.{Reaches, Turns, goes_on, ends, breaks}

-- how an expression goes on after its first operand
abbrev pub climbing : ℕ → Expr → ℕ → ℕ → Reads Expr
climbing level left fuel turns = climb turns (operand (pred fuel)) level left

abbrev pub first_operand : ℕ → Reads ExprForm
first_operand fuel = look (unary_by (pred fuel) (operand (pred fuel)))

abbrev pub begun : Point → ExprForm → Expr
begun before form = record { token = before.taken; form = form }

pub operand_starts : {before now : Point} {form : ExprForm} {left : Expr} (level : ℕ) → Takes first_operand before (Ok form) now →
    left ≡ begun before form → Reaches true (λ fuel. operand fuel level) before (climbing level left) now
operand_starts {before} {now} {form} level one is =
    subst (λ left. Reaches true (λ fuel. operand fuel level) before (climbing level left) now) (sym is) (record { goes = goes; taken = one.taken })
  where
    goes : (fuel : ℕ) → length before.left < fuel →
        Turns (operand fuel level true before) (λ turns. climbing level (begun before form) fuel turns true now) (length now.left)
    goes zero less = absurd (omega arith)
    goes (suc fuel) less = let below = one.taken in record {
      turns = suc fuel;
      enough = omega arith;
      same = ap (λ o. and_then o (λ form. climb (suc fuel) (operand fuel) level (begun before form) true)) (one.answers (suc fuel) less);
    }

pub operand_breaks : {before now : Point} {e : Stop} {result : Result Expr Stop} (level : ℕ) → Takes first_operand before (Err e) now → result ≡ Err e →
    Takes (λ fuel. operand fuel level) before result now
operand_breaks {before} {now} {e} {result} level one is =
    subst (λ result. Takes (λ fuel. operand fuel level) before result now) (sym is) (record { answers = answers; taken = tt })
  where
    answers : (fuel : ℕ) → length before.left < fuel → Answered (operand fuel level true before) (Err e) now
    answers zero less = absurd (omega arith)
    answers (suc fuel) less =
        stop_first e (first_operand (suc fuel) true before) (λ form. climb (suc fuel) (operand fuel) level (begun before form) true) now now (one.answers (suc fuel) less)

-- by the operator that is next
abbrev by_operator : ℕ → ℕ → ℕ → Expr → Option Infix → Reads Expr
by_operator turns fuel level left found = elim found [
  | Some op ↦ skip_operator >>= λ _. operand fuel (right_level op) >>= λ right. climb turns (operand fuel) level (joined left op right)
  | None ↦ give left
]

pub climb_turn : {before now between later : Point} {level : ℕ} {left right more : Expr} {op : Infix} {whole : ℕ → Reads Expr} → Reaches true whole before (climbing level left) now →
    infix_next level left.form (next now.left) ≡ Some op → Takes (λ fuel. skip_operator) now (Ok tt) between →
    Takes (λ fuel. operand fuel (right_level op)) between (Ok right) later → more ≡ joined left op right →
    Reaches true whole before (climbing level more) later
climb_turn {before} {now} {between} {later} {level} {left} {right} {more} {op} {whole} reached is taken one made =
    let below = one.taken in
    subst (λ more. Reaches true whole before (climbing level more) later) (sym made)
    (goes_on reached (omega arith) turn)
  where
    turn : (fuel turns : ℕ) → length now.left < fuel → climbing level left fuel (suc turns) true now ≡ climbing level (joined left op right) fuel turns true later
    turn zero turns less = absurd (omega arith)
    turn (suc fuel) turns less =
        ap (λ found. by_operator turns fuel level left found true now) is
        ∙ ap (λ o. and_then o (λ _ p. and_then (operand fuel (right_level op) true p) (λ right. climb turns (operand fuel) level (joined left op right) true))) (taken.answers (suc fuel) less)
        ∙ ap (λ o. and_then o (λ right. climb turns (operand fuel) level (joined left op right) true)) (one.answers fuel (omega arith))

pub climb_ends : {before now : Point} {level : ℕ} {left : Expr} {whole : ℕ → Reads Expr} → Reaches true whole before (climbing level left) now →
    infix_next level left.form (next now.left) ≡ None → Takes whole before (Ok left) now
climb_ends {now = now} {level = level} {left = left} reached is =
    ends reached (omega arith) (λ fuel turns less. ap (λ found. by_operator turns (pred fuel) level left found true now) is)

-- the operator passes a limit
pub climb_stops : {before now between : Point} {level : ℕ} {left : Expr} {op : Infix} {e : Stop} {result : Result Expr Stop} {whole : ℕ → Reads Expr} →
    Reaches true whole before (climbing level left) now → infix_next level left.form (next now.left) ≡ Some op →
    Takes (λ fuel. skip_operator) now (Err e) between → result ≡ Err e → Takes whole before result between
climb_stops {before} {now} {between} {level} {left} {op} {e} {result} {whole} reached is taken same =
    subst (λ result. Takes whole before result between) (sym same)
    (breaks e reached (λ fuel turns less.
    subst (λ found. Answered (by_operator turns (pred fuel) level left found true now) (Err e) between) (sym is)
    (stop_first e (skip_operator true now) (λ _ p. and_then (operand (pred fuel) (right_level op) true p) (λ right. climb turns (operand (pred fuel)) level (joined left op right) true))
    between between (taken.answers fuel less))))

-- the operand to its right is refused
pub climb_breaks : {before now between later : Point} {level : ℕ} {left : Expr} {op : Infix} {e : Stop} {result : Result Expr Stop} {whole : ℕ → Reads Expr} →
    Reaches true whole before (climbing level left) now → infix_next level left.form (next now.left) ≡ Some op →
    Takes (λ fuel. skip_operator) now (Ok tt) between →
    Takes (λ fuel. operand fuel (right_level op)) between (Err e) later → result ≡ Err e → Takes whole before result later
climb_breaks {before} {now} {between} {later} {level} {left} {op} {e} {result} {whole} reached is taken one same =
    subst (λ result. Takes whole before result later) (sym same) (breaks e reached stop)
  where
    stop : (fuel turns : ℕ) → length now.left < fuel → Answered (climbing level left fuel (suc turns) true now) (Err e) later
    stop zero turns less = absurd (omega arith)
    stop (suc fuel) turns less =
        subst (λ found. Answered (by_operator turns fuel level left found true now) (Err e) later) (sym is)
        (subst (λ o. Answered (and_then o (λ _ p. and_then (operand fuel (right_level op) true p) (λ right. climb turns (operand fuel) level (joined left op right) true))) (Err e) later)
        (sym (taken.answers (suc fuel) less))
        (stop_first e (operand fuel (right_level op) true between) (λ right. climb turns (operand fuel) level (joined left op right) true) later later (one.answers fuel (omega arith))))

-- the operator that is next, by the left operand out of its box
pub infix_seen : {before now : Point} {level : ℕ} {left seen : Expr} {told result : Option Infix} {whole : ℕ → Reads Expr} →
    Reaches true whole before (climbing level left) now → seen ≡ left → told ≡ infix_next level seen.form (next now.left) → told ≡ result →
    infix_next level left.form (next now.left) ≡ result
infix_seen {now = now} {level = level} reached same is found = ap (λ (e : Expr). infix_next level e.form (next now.left)) (sym same) ∙ sym is ∙ found

-- ---- by the first token

-- an operator by its name, whose name is read with it
named_is : {A B : Type 0} (o : Answer (Unit {0})) (a : A) (rest : A → Point → Answer B) →
    and_then (and_then o (λ _ after. Read a after)) rest ≡ and_then o (λ _ after. rest a after)
named_is (Read u p) a rest = refl
named_is (Stopped fault token) a rest = refl

pub by_name : {before after : Point} {bytes : List ℕ} {result : Result ExprForm Stop} → next before.left ≡ Some (l.Op bytes) →
    Takes (λ fuel. named (pred fuel) (operand (pred fuel))) before result after → Takes first_operand before result after
by_name {before} {after} {bytes} {result} is one = record { answers = answers; taken = one.taken } where
  rest : ℕ → List ℕ → Reads ExprForm
  rest fuel name = round (listed (pred fuel) begins_expression (operand (pred fuel) 0)) >>= λ operands. give (Named name operands)

  same : (fuel : ℕ) → first_operand fuel true before ≡ named (pred fuel) (operand (pred fuel)) true before
  same fuel =
      ap (λ x. unary_by (pred fuel) (operand (pred fuel)) x true before) is
      ∙ sym (named_is (skip_operator true before) bytes (λ name. rest fuel name true))
      ∙ sym (ap (λ x. and_then (operator_by x true before) (λ name. rest fuel name true)) is)

  answers : (fuel : ℕ) → length before.left < fuel → Answered (first_operand fuel true before) result after
  answers fuel less = subst (λ o. Answered o result after) (sym (same fuel)) (one.answers fuel less)

abbrev pub only_literal : Reads ExprForm
only_literal = literal >>= λ p. give (Prim p)

pub literal_first : (tokens : Tokens) (kind : TokenKind) (turns : ℕ) (inner : ℕ → Reads Expr) → ((x : ℕ) → kind ≡ TokenKind.Name x → ⊥) →
    ((x : ℕ) → kind ≡ TokenKind.Op x → ⊥) → ((x : ℕ) → kind ≡ TokenKind.Word x → ⊥) → ((x : ℕ) → kind ≡ TokenKind.Symbol x → ⊥) →
    unary_by turns inner (Some (lexeme_in tokens kind)) ≡ only_literal
literal_first tokens (TokenKind.Name n) turns inner no_name no_op no_word no_symbol = absurd (no_name n refl)
literal_first tokens (TokenKind.Op n) turns inner no_name no_op no_word no_symbol = absurd (no_op n refl)
literal_first tokens (TokenKind.Word n) turns inner no_name no_op no_word no_symbol = absurd (no_word n refl)
literal_first tokens (TokenKind.Symbol n) turns inner no_name no_op no_word no_symbol = absurd (no_symbol n refl)
literal_first tokens (TokenKind.Int n) turns inner no_name no_op no_word no_symbol = refl
literal_first tokens (TokenKind.Char n) turns inner no_name no_op no_word no_symbol = refl
literal_first tokens (TokenKind.Text n) turns inner no_name no_op no_word no_symbol = refl
literal_first tokens (TokenKind.Checked n) turns inner no_name no_op no_word no_symbol = refl

pub literal_only : (tokens : Tokens) (kind : TokenKind) (inner : ℕ → Reads Expr) → ((x : ℕ) → kind ≡ TokenKind.Name x → ⊥) →
    ((x : ℕ) → kind ≡ TokenKind.Symbol x → ⊥) → prim_by inner (Some (lexeme_in tokens kind)) ≡ literal
literal_only tokens (TokenKind.Name n) inner no_name no_symbol = absurd (no_name n refl)
literal_only tokens (TokenKind.Symbol n) inner no_name no_symbol = absurd (no_symbol n refl)
literal_only tokens (TokenKind.Op n) inner no_name no_symbol = refl
literal_only tokens (TokenKind.Word n) inner no_name no_symbol = refl
literal_only tokens (TokenKind.Int n) inner no_name no_symbol = refl
literal_only tokens (TokenKind.Char n) inner no_name no_symbol = refl
literal_only tokens (TokenKind.Text n) inner no_name no_symbol = refl
literal_only tokens (TokenKind.Checked n) inner no_name no_symbol = refl
