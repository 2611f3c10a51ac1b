-- In which status a transfer leaves the store.
use Rattle.std.proofs.Common.{◌≡◌, ℕ, arith, List, [], ◌∷◌}
use Rattle.std.specs.Prelude.{Bool, true, false}
use Rattle.cmm_machine_laws.proofs.Shared.{KeptBy, keeping, kept_after, kept_ok}
use Rattle.cmm_program.specs.Client.{answered}
use Rattle.cmm_program.specs.Orders as order
use Rattle.cmm_program.specs.Orders.{Held, Memory, Order, Place, Word, Write}
use Rattle.cmm_program.specs.Performing.{Transfer, Stay, Wait, Away, Over, perform, returned}
use Rattle.cmm_program.specs.State.{Activation, Setting, Status, Store, Running, Waiting, Ended}
use Rattle.cmm_program.specs.Writes.{put, put_all}

-- after an order: who stays runs, and who waits waits for the client
abbrev pub is_waiting : Status → Bool
is_waiting (Waiting values) = true
is_waiting status = false

abbrev pub is_over : Status → Bool
is_over (Ended outcome) = true
is_over status = false

abbrev pub LeavesAs : Transfer → Type 0
LeavesAs (Stay way store) = store.status ≡ Running
LeavesAs (Wait store) = is_waiting store.status ≡ true
LeavesAs (Away gone store landing) = Unit {0}
LeavesAs (Over gone store) = is_over store.status ≡ true

-- after an answer nobody stays or waits
abbrev pub AnswersAs : Transfer → Type 0
AnswersAs (Stay way store) = ⊥
AnswersAs (Wait store) = ⊥
AnswersAs (Away gone store landing) = Unit {0}
AnswersAs (Over gone store) = is_over store.status ≡ true

-- writes leave the status
abbrev Runs : Store → Type 0
Runs store = store.status ≡ Running

put_runs : (place : Place) (value : ℕ) (store : Store) → store.status ≡ Running → KeptBy Runs (put place value store)
put_runs (Held target) value store running = kept_ok (grind (arith, running))
put_runs (Memory width aligned address) value store running = search (keeping, running)

all_run : (ws : List Write) (store : Store) → store.status ≡ Running → KeptBy Runs (put_all ws store)
all_run [] store running = kept_ok running
all_run (w ∷ ws) store running = kept_after (put_runs w.place w.value store running) (all_run ws)

module _ (s : Setting) (store : Store) (running : store.status ≡ Running) where
  returns_as : (exit alternates : ℕ) (words : List Word) (older : List Activation) → KeptBy LeavesAs (returned s exit alternates words older store)
  returns_as exit alternates words [] = grind arith
  returns_as exit alternates words (a ∷ older) = search keeping depth 10

  pub performed : (o : Order) → KeptBy LeavesAs (perform s o store)
  performed (order.Assign ws) = kept_after (all_run ws store running) (λ after here. kept_ok here)
  performed (order.GetByte target) = grind arith
  performed (order.Return exit alternates words) = grind (arith, returns_as exit alternates words)
  performed o = search keeping depth 10

pub answered_as : (s : Setting) (values : List ℕ) (store : Store) → AnswersAs (answered s values store)
answered_as s values store = grind arith
