-- The stack is kept, and what went in and out stays, while orders and the client's commands are done to a store.
use Rattle.cmm_machine_laws.proofs.Kept.{keeping, kept_after, kept_ok, KeptBy, KeptIn}
use Rattle.cmm_machine_laws.specs.Runs.{Traffic, places, traffic}
use Rattle.cmm_machine_laws.specs.Stacks.{IsStack, extent, stack_of, stackdata_of}
use Rattle.cmm_program.specs.Orders.{Held, Memory, Place, Write}
use Rattle.cmm_program.specs.Client.{with_value}
use Rattle.cmm_program.specs.Exits.{Back, Landing, Resumed, land, parameters_of, results_of}
use Rattle.cmm_program.specs.Frames.{frame_size, sum_of_sizes, with_site, without}
use Rattle.cmm_program.specs.Memory.{Room, with_byte_in, with_bytes}
use Rattle.cmm_program.specs.State.{Activation, Setting, Store}
use Rattle.cmm_program.specs.Writes.{all_assigned, assigned, put, put_all}
use Rattle.cmm_program.specs.declared.procedure.Target.{Target}
use Rattle.std.proofs.Common.{◌+◌, arith, List, None, Option, [], drop, map, refl, suc, zero, ℕ, ◌∷◌, ◌≡◌, ◌≤◌}
use Rattle.std.proofs.lemmas.Bool.Decides.{nat_tests}
use Rattle.std.proofs.lemmas.List.{drop-map, length-set}
use Rattle.std.proofs.lemmas.List.Sums.{sum_by-cons, sum_by-take-drop}

-- values of variables leave where activations stand
pub places_with_value : (cursor n value : ℕ) (fs : List Activation) → places (with_value cursor n value fs) ≡ places fs
places_with_value cursor n value [] = refl
places_with_value cursor n value (f ∷ fs) = grind (arith, λ (k : ℕ). places_with_value k n value fs)

-- a byte in a room, and bytes in all of them, leave where rooms lie
extents_with_byte : (rooms : List Room) (address byte : ℕ) → map extent (map (λ room. with_byte_in room address byte) rooms) ≡ map extent rooms
extents_with_byte [] address byte = refl
extents_with_byte (r ∷ rs) address byte = grind (arith, length-set, extents_with_byte rs address byte)

module _ (s : Setting) where
  -- values of variables leave the sizes and the stackdata of frames
  pub stack_with_value : (cursor n value : ℕ) (fs : List Activation) →
      (sum_of_sizes s (with_value cursor n value fs) ≡ sum_of_sizes s fs) × (stackdata_of s (with_value cursor n value fs) ≡ stackdata_of s fs)
  stack_with_value cursor n value [] = (refl, refl)
  stack_with_value cursor n value (f ∷ fs) = grind (arith, sum_by-cons (frame_size s), λ (k : ℕ). stack_with_value k n value fs)

  -- the stackdata of frames without some of the youngest
  pub stackdata_drop : (n : ℕ) (fs : List Activation) → drop n (stackdata_of s fs) ≡ stackdata_of s (drop n fs)
  stackdata_drop zero fs = refl
  stackdata_drop (suc n) fs = grind (arith, stackdata_drop n)

  -- what comes after a store keeps the stack: its frames still fit, and it still has its stack
  abbrev pub KeepsStack : Store → Store → Type 0
  KeepsStack before after =
      (sum_of_sizes s before.activations ≤ s.stack_size → sum_of_sizes s after.activations ≤ s.stack_size)
      × (IsStack s (stack_of before) → IsStack s (stack_of after))

  -- without some of the youngest activations it does
  pub without_keeps : (n : ℕ) (store : Store) → KeepsStack store (without n store)
  without_keeps n store = grind (arith, drop-map, stackdata_drop n store.activations, sum_by-take-drop (frame_size s) store.activations n)

  -- what comes after a store while its status stays: the stack is kept, and T holds of what went in and out
  pub record After (before : Store) (T : Traffic → Type 0) (after : Store) : Type 0 where
    pub passed : T (record (traffic after) { yielded = None })
    pub status : after.status ≡ before.status
    pub stack : KeepsStack before after

  -- a store comes after itself
  pub nothing_after : {T : Traffic → Type 0} (store : Store) → T (record (traffic store) { yielded = None }) → After store T store
  nothing_after store passed = record { passed = passed; status = refl; stack = (λ h. h, λ h. h) }

  -- what comes after a store whatever the status is: T holds also of the values for the client
  abbrev pub Leads : Store → (Traffic → Type 0) → Store → Type 0
  Leads before T after = T (traffic after) × KeepsStack before after

module _ {s : Setting} {from : Store} {T : Traffic → Type 0} where
  -- a site, and values of the youngest activation's targets
  pub site_after : (site : Option ℕ) (store : Store) → After s from T store → After s from T (record store { activations = with_site site store.activations })
  site_after site store here = grind arith

  pub assigned_after : (target : Target) (value : ℕ) (store : Store) → After s from T store → After s from T (assigned target value store)
  assigned_after target value store here = grind arith

  all_assigned_after : (ts : List Target) (vs : List ℕ) (store : Store) → After s from T store → After s from T (all_assigned ts vs store)
  all_assigned_after (t ∷ ts) (v ∷ vs) store here = all_assigned_after ts vs (assigned t v store) (assigned_after t v store here)
  all_assigned_after ts vs store here = grind arith

  -- bytes of data and rooms
  pub bytes_after : (address : ℕ) (bytes : List ℕ) (store : Store) → After s from T store →
      After s from T (record store { memory = with_bytes store.memory address bytes })
  bytes_after address [] store here = here
  bytes_after address (byte ∷ bytes) store here =
      bytes_after (address + 1) bytes _ (grind (arith, length-set, extents_with_byte store.memory.rooms address byte))

  -- without some of the youngest activations
  pub without_after : (n : ℕ) (store : Store) → After s from T store → After s from T (without n store)
  without_after n store here = grind (arith, without_keeps s n store)

  -- values put into places
  put_after : (place : Place) (value : ℕ) (store : Store) → After s from T store → KeptBy (After s from T) (put place value store)
  put_after (Held target) value store here = search (keeping, assigned_after)
  put_after (Memory width aligned address) value store here = search (keeping, bytes_after)

  pub put_all_after : (ws : List Write) (store : Store) → After s from T store → KeptBy (After s from T) (put_all ws store)
  put_all_after [] store here = kept_ok here
  put_all_after (w ∷ ws) store here = kept_after (put_after w.place w.value store here) (put_all_after ws)

  -- each landing
  pub land_after : (landing : Landing) (store : Store) → After s from T store → KeptIn (After s from T) (land s landing store)
  land_after (Back values) store here = grind (arith, site_after, all_assigned_after (results_of s store.activations) values store)
  land_after (Resumed k values) store here = grind (arith, site_after, all_assigned_after (parameters_of s k store.activations) values store)
  land_after landing store here = grind (arith, nat_tests, site_after)
