-- What the theory proves of the small machines.
use Rattle.std.specs.Prelude.{◌≡◌, ℕ, List, length, nat_le, Bool, true, false, Some}
use Rattle.cmm_simulation.specs.Agreement.{Agrees}
use Rattle.cmm_simulation.specs.Following.{Follows, FollowsLazily}
use Rattle.cmm_simulation.specs.Machine.{after}
use Rattle.cmm_simulation.specs.Reader.{Reader, reader, start}
use Rattle.cmm_simulation.specs.Seen.{Event, Input, Client, End}
use Rattle.cmm_simulation.specs.Simulation.{Simulates, SimulatesLazily, Through}
use Rattle.cmm_simulation.specs.Tested.{tested}
use Rattle.cmm_simulation.specs.Ticking.{Phase, fetched_by, phased, phases_left, ticking, ticks_left}

-- in lock-step, the reader that does not check for 0 simulates the one that does, in the same states
abbrev pub UncheckedSimulates : Type 0
UncheckedSimulates = Simulates (reader true) (λ _. 1) (reader false) (λ _. 1) (λ s t. s ≡ t)

-- done in two ticks a step, a reader simulates itself: in the same state, its step still to be fetched
abbrev pub TickingSimulates : Type 0
TickingSimulates = (checks : Bool) → Simulates (reader checks) (λ _. 2) (ticking (reader checks)) (λ _. 1) (λ s u. u ≡ (s, false))

-- so the unchecked reader done in ticks simulates the checked one, at two ticks a step
abbrev pub TicksSimulate : Type 0
TicksSimulate = Simulates (reader true) (λ _. 2) (ticking (reader false)) (λ _. 1) (λ s u. (t : Reader) × (s ≡ t) × (u ≡ (t, false)))

-- on every input, the unchecked reader done in ticks follows the checked one at two ticks a step
abbrev pub TicksFollow : Type 0
TicksFollow = (input : List ℕ) → Follows (reader true) (λ _. 2) (ticking (reader false)) (λ _. 1) (start input) (start input, false)

-- and agrees with it with the factor 2
abbrev pub TicksAgree : Type 0
TicksAgree = (input : List ℕ) → Agrees (reader true) (ticking (reader false)) 0 2 1 (start input) (start input, false)

-- ---- lazily

-- a machine that does a step at once stands where one of ticks does
abbrev pub AtOnce : ℕ → Reader × Bool → Reader → Type 0
AtOnce rank u t = (t ≡ u.0) × (ticks_left u.1 ≡ rank)

-- a machine of two ticks stands where one of three does
abbrev pub InTwo : ℕ → Reader × Phase → Reader × Bool → Type 0
InTwo rank u v = (v ≡ (u.0, fetched_by u.1)) × (phases_left u.1 ≡ rank)

-- a reader does each second tick, and passes over those that fetch
abbrev pub FetchingIsPassedOver : Type 0
FetchingIsPassedOver = (checks : Bool) → SimulatesLazily (ticking (reader checks)) (λ _. 1) (reader checks) (λ _. 1) 2 AtOnce

-- and so does one of two ticks where there are three
abbrev pub PhasesArePassedOver : Type 0
PhasesArePassedOver = (checks : Bool) → SimulatesLazily (phased (reader checks)) (λ _. 1) (ticking (reader checks)) (λ _. 1) 2 InTwo

-- of three ticks the reader passes two over: each of the two passes over one, and the ranks add up
abbrev pub RanksAddUp : Type 0
RanksAddUp = (checks : Bool) → SimulatesLazily (phased (reader checks)) (λ _. 1) (reader checks) (λ _. 1) 3 (Through InTwo AtOnce)

-- a reader that does not check follows lazily the one that checks and is done in ticks: two of these are a step of it
abbrev pub ReaderFollowsTicks : Type 0
ReaderFollowsTicks = (input : List ℕ) → FollowsLazily (ticking (reader true)) (λ _. 1) (reader false) (λ _. 1) 2 (start input, false) (start input)

-- and agrees with it: where it stands after n steps, less than 2 * (n + 1) ticks have come
abbrev pub ReaderAgreesWithTicks : Type 0
ReaderAgreesWithTicks = (input : List ℕ) → Agrees (ticking (reader true)) (reader false) 0 1 2 (start input, false) (start input)

-- ---- ends and events

-- a run of a reader has one ending at most
abbrev pub EndsOnce : Type 0
EndsOnce = (checks : Bool) (input : List ℕ) (first second m n : ℕ) →
    (reader checks).asks (after (reader checks) m (start input)) ≡ Some (End first) →
    (reader checks).asks (after (reader checks) n (start input)) ≡ Some (End second) → first ≡ second

-- an event of a reader that has been given so many numbers: it is over once it has put no more
abbrev pub puts_at_most : ℕ → Event ℕ ℕ → Bool
puts_at_most most (End count) = nat_le count most
puts_at_most most Input = true
puts_at_most most (Client call) = true

-- Every reader ends with a count of at most the numbers given, so the unchecked one done in ticks is right also where it is tested for that.
abbrev pub TestedTicksFollow : Type 0
TestedTicksFollow = (input : List ℕ) →
    Follows (reader true) (λ _. 2) (tested (puts_at_most (length input)) (ticking (reader false))) (λ _. 1) (start input) (start input, false)
