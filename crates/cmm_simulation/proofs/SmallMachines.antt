-- The small machines: what lasts in them, the two simulations, and what the theory makes of these.
use Rattle.std.proofs.Common.{◌≡◌, ℕ, zero, suc, ◌+◌, ◌-◌, ◌≤◌, List, [], ◌∷◌, ◌++◌, length, Some, refl, ◌∙◌, arith}
use Rattle.std.proofs.lemmas.Bool.Decides.{nat_tests}
use Rattle.std.specs.Prelude.{Bool, true, false}
use Rattle.cmm_simulation.proofs.Agreements.{agrees_lazily}
use Rattle.cmm_simulation.proofs.Composing.{lazily_trans, simulates_trans}
use Rattle.cmm_simulation.proofs.Followings.{follows_of_simulates}
use Rattle.cmm_simulation.proofs.Paths.{joined, one_step}
use Rattle.cmm_simulation.proofs.Prefixes.{prefix_more, prefix_refl}
use Rattle.cmm_simulation.proofs.Runs.{one_end, right_until}
use Rattle.cmm_simulation.proofs.Scaling.{follows_scaled, simulates_scaled}
use Rattle.cmm_simulation.proofs.Simulations.{in_lock_step, stepwise}
use Rattle.cmm_simulation.proofs.Testing.{follows_tested}
use Rattle.cmm_simulation.specs.Examples.{UncheckedSimulates, TestedTicksFollow, TickingSimulates, TicksSimulate, TicksFollow, TicksAgree, EndsOnce, puts_at_most}
use Rattle.cmm_simulation.specs.Machine.{Machine, Lasts, after}
use Rattle.cmm_simulation.specs.Reader.{Reader, event_at, read_number, reader, start}
use Rattle.cmm_simulation.specs.Seen.{Event, Input, Client, End}
use Rattle.cmm_simulation.specs.Ticking.{ticking}

-- what is seen of a reader only grows, and one that is over or wrong stays so
pub reader_lasts : (checks : Bool) → Lasts (reader checks)
reader_lasts checks =
    record { grows = λ s. grind (arith, prefix_refl, prefix_more); over = λ s ending is. grind arith; wrong = λ s is. grind arith }

-- where the check finds no 0, it makes no difference
pub unchecked_simulates : UncheckedSimulates
unchecked_simulates = in_lock_step (λ s t is. grind arith) (λ s t is right. grind arith)

-- a machine lasts when it is done in ticks
pub ticking_lasts : {S L C E : Type 0} (M : Machine S L C E) → Lasts M → Lasts (ticking M)
ticking_lasts M lasts =
    record { grows = λ u. grind (arith, prefix_refl, lasts.grows u.0); over = λ u ending is. grind arith; wrong = λ u is. grind arith }

-- a step is fetched, which shows nothing, and done
pub ticking_simulates : TickingSimulates
ticking_simulates checks =
    stepwise (λ s u is. grind arith)
    (λ s u is right.
    rw is
    (joined {Q = λ v. v ≡ (s, true)} {m = 1} {n = 1} {o = 1}
    (one_step (grind (arith, (reader_lasts checks).grows s, right_until _ (reader_lasts checks) 0 1 s)) refl (omega arith))
    (λ v at. rw at (one_step (grind (arith, prefix_refl)) refl (omega arith))) (omega arith) (omega arith)))

-- both together, the first at two for a step
pub ticks_simulate : TicksSimulate
ticks_simulate =
    simulates_trans (simulates_scaled 2 (λ _. omega arith) (λ _. omega arith) unchecked_simulates) (ticking_simulates false)

-- the unchecked reader follows the checked one, at two for a step once this is scaled, and ticks follow it at two a step
pub ticks_follow : TicksFollow
ticks_follow input =
    lazily_trans
    (follows_scaled 2 (λ _. omega arith) (λ _. omega arith) (follows_of_simulates unchecked_simulates refl))
    (follows_of_simulates (ticking_simulates false) refl)

-- so they agree
pub ticks_agree : TicksAgree
ticks_agree input =
    agrees_lazily (reader_lasts true) (ticking_lasts (reader false) (reader_lasts false)) refl (ticks_follow input)

-- the reader ends once, as every machine that lasts
pub ends_once : EndsOnce
ends_once checks input first second m n = one_end (reader checks) (reader_lasts checks) first second m n (start input)

-- ---- events that pass

more_numbers : (output : List ℕ) (number : ℕ) → length (output ++ number ∷ []) ≡ suc (length output)
more_numbers [] number = refl
more_numbers (first ∷ output) number = omega (arith, more_numbers output number)

-- numbers left and numbers put are as many as were given
step_counts : (checks : Bool) (left : List ℕ) (r : Reader) → r.left ≡ left →
    length (read_number checks left r).left + length (read_number checks left r).seen.output ≡ length left + length r.seen.output
step_counts checks [] r is = grind (arith, is)
step_counts true (zero ∷ left) r is = grind (arith, is)
step_counts true (suc n ∷ left) r is = omega (arith, more_numbers r.seen.output (suc n - 1))
step_counts false (zero ∷ left) r is = omega (arith, more_numbers r.seen.output 0)
step_counts false (suc n ∷ left) r is = omega (arith, more_numbers r.seen.output (suc n - 1))

counts : (checks : Bool) (input : List ℕ) (m : ℕ) →
    let r = after (reader checks) m (start input) in length r.left + length r.seen.output ≡ length input
counts checks input zero = omega arith
counts checks input (suc m) =
    let r = after (reader checks) m (start input) in step_counts checks r.left r refl ∙ counts checks input m

at_most : (most : ℕ) (left : List ℕ) (r : Reader) (event : Event ℕ ℕ) → length r.seen.output ≤ most → event_at left r ≡ Some event →
    puts_at_most most event ≡ true
at_most most [] r (End count) le is =
    let one : length r.seen.output ≡ count = cc (is) in grind (arith, nat_tests, le, one)
at_most most [] r Input le is = refl
at_most most [] r (Client call) le is = refl
at_most most (number ∷ left) r Input le is = refl
at_most most (number ∷ left) r (Client call) le is = refl
at_most most (number ∷ left) r (End count) le is = absurd (cc (is))

pub tested_ticks_follow : TestedTicksFollow
tested_ticks_follow input =
    follows_tested (reader true) (ticking (reader false)) (puts_at_most (length input)) refl (λ _. 2) (λ _. 1) 1 (start input) (start input, false)
    (λ m right event is. let r = after (reader true) m (start input) in
    at_most (length input) r.left r event (omega (arith, counts true input m)) is)
    (ticks_follow input)
