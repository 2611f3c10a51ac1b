-- How far the targets before an `=` are read, and names that are turned into what they stand for.
use Rattle.std.proofs.Common.{◌≡◌, ◌≢◌, ◌∙◌, sym, ap, refl, subst, ℕ, ◌≤◌, Bool, true, List, [], ◌∷◌, length, Result, Ok, Err, arith}
use Rattle.cmm_ast.specs.declared.token.Ident.{Ident}
use Rattle.cmm_grammar.specs.Reading.{Point, Answer, Read, Reads, and_then, choice, is_comma}
use Rattle.cmm_grammar.specs.declared.told_apart.Targets.{Targets}
use Rattle.cmm_grammar.specs.TargetReading.{next_target, more_targets, checked}
use Rattle.cmm_parser.specs.declared.fault.Stop.{Stop}
use Rattle.cmm_parser.specs.declared.fault.Stop.TheVariants as stop
use Rattle.cmm_parser.specs.inside.Parsing.{Answered, Parsed, Takes, Skips, Stays, skipped}
use Rattle.cmm_parser.proofs.Steps.{stop_first}
use Rattle.cmm_parser.proofs.Loops.{Reaches, goes_on, ends, breaks}

abbrev target_choice : (Targets → Reads Targets) → Reads Targets → Targets → Bool → Point → Answer Targets
target_choice later reads targets test now =
    choice test (λ limited p. and_then (reads limited (skipped p)) (λ more. later more limited)) (λ limited p. Read targets p) true now

pub target_turn : {some : Bool} {whole : ℕ → Reads Targets} {before now between after : Point} {targets more : Targets} →
    Reaches some whole before (λ fuel turns. more_targets turns fuel targets) now → Skips is_comma now between →
    Takes (λ fuel. next_target fuel targets) between (Ok more) after → Reaches some whole before (λ fuel turns. more_targets turns fuel more) after
target_turn {now = now} {targets = targets} reached comma one =
    let fewer = one.taken in let less = comma.fewer in
    goes_on reached (omega arith) (λ fuel turns less.
    ap (λ test. target_choice (λ more. more_targets turns fuel more) (next_target fuel targets) targets test now) comma.passing
    ∙ ap (λ p. and_then (next_target fuel targets true p) (λ more. more_targets turns fuel more true)) (sym comma.there)
    ∙ ap (λ o. and_then o (λ more. more_targets turns fuel more true)) (one.answers fuel (omega arith)))

pub target_ends : {some : Bool} {whole : ℕ → Reads Targets} {before now after : Point} {targets : Targets} →
    Reaches some whole before (λ fuel turns. more_targets turns fuel targets) now → Stays is_comma now after → Parsed some whole before (Ok targets) after
target_ends {now = now} {targets = targets} reached none =
    ends reached (subst (λ p. length p.left ≤ length now.left) (sym none.there) (omega arith)) (λ fuel turns less.
    ap (λ test. target_choice (λ more. more_targets turns fuel more) (next_target fuel targets) targets test now) none.failing
    ∙ ap (λ p. Read targets p) (sym none.there))

pub target_breaks : {some : Bool} {whole : ℕ → Reads Targets} {before now between after : Point} {targets : Targets} {e : Stop} {result : Result Targets Stop} →
    Reaches some whole before (λ fuel turns. more_targets turns fuel targets) now → Skips is_comma now between →
    Takes (λ fuel. next_target fuel targets) between (Err e) after → result ≡ Err e → Parsed some whole before result after
target_breaks {some = some} {whole = whole} {before = before} {now = now} {between = between} {after = after} {targets = targets} {e = e} reached comma one is =
    let less = comma.fewer in
    subst (λ result. Parsed some whole before result after) (sym is)
    (breaks e reached (λ fuel turns less.
    subst (λ o. Answered o (Err e) after)
    (sym (ap (λ test. target_choice (λ more. more_targets turns fuel more) (next_target fuel targets) targets test now) comma.passing
    ∙ ap (λ p. and_then (next_target fuel targets true p) (λ more. more_targets turns fuel more true)) (sym comma.there)))
    (stop_first e (next_target fuel targets true between) (λ more. more_targets turns fuel more true) after after (one.answers fuel (omega arith)))))

-- a checked operator has one result
pub not_checked : {before : Point} (names : List Ident) → length names ≢ 1 → Takes (λ fuel. checked fuel names) before (Err (stop.Unexpected before.taken)) before
not_checked [] not_one = record { answers = λ fuel less. refl; taken = tt }
not_checked (name ∷ []) not_one = absurd (not_one (omega arith))
not_checked (name ∷ other ∷ names) not_one = record { answers = λ fuel less. refl; taken = tt }
