-- The places that a colouring gives to the locals of a graph, for what is live where.
use Rattle.std.specs.Prelude.{◌≡◌, ◌≢◌, ℕ, ◌*◌, ◌<◌, ◌||◌, Bool, true, false, Contains, List, [], ◌∷◌, length, map}
use Rattle.std.specs.List.{range_with_len}
use Rattle.cmm_abi.specs.Registers.{callee_saves}
use Rattle.cmm_graph.specs.declared.graph.Graph.{Graph}
use Rattle.cmm_live.specs.declared.live_sets.LiveSets.{LiveSets}
use Rattle.cmm_live.specs.Locals.{local_count}
use Rattle.cmm_chain.specs.declared.frame.Location.{Location}
use Rattle.cmm_chain.specs.declared.frame.Location.TheVariants.{Saved, Temp}
use Rattle.cmm_colour.specs.Peeling.{Peels}
use Rattle.cmm_located.specs.Layouts.{slot_offsets}
use Rattle.cmm_allocate.specs.Classes.{conflict, conflict_within, suits_callee_saves, suits_register, suits_temporary}
use Rattle.cmm_allocate.specs.Placed.{place_at}

-- the temporary registers that locals get: t3 to t6, and a2 to a5, in which values travel
abbrev pub temporaries : List ℕ
temporaries = 28 ∷ 29 ∷ 30 ∷ 31 ∷ 12 ∷ 13 ∷ 14 ∷ 15 ∷ []

abbrev pub is_in_temporary : Location → Bool
is_in_temporary (Temp r) = true
is_in_temporary _ = false

abbrev pub is_in_callee_saves : Location → Bool
is_in_callee_saves (Saved r) = true
is_in_callee_saves _ = false

abbrev pub is_in_register : Location → Bool
is_in_register place = is_in_temporary place || is_in_callee_saves place

pub record AreAllocated (g : Graph) (live : LiveSets) (locals : List Location) : Type 0 where
  pub count : length locals ≡ local_count g
  -- A register is given to a local that suits it. A callee-saves register suits those too that suit temporary registers: what is live at no site, and
  -- where no cut statement leads, is lost by nothing.
  pub temporary : (v r : ℕ) → v < local_count g → place_at locals v ≡ Temp r → Contains temporaries r × (suits_temporary g live v ≡ true)
  pub saved : (v r : ℕ) → v < local_count g → place_at locals v ≡ Saved r → Contains callee_saves r × (suits_register g live v ≡ true)
  -- two that conflict share no place
  pub apart : (v w : ℕ) → v < local_count g → w < local_count g → conflict g live v w ≡ true → place_at locals v ≢ place_at locals w
  -- slots stand from offset 0 on without a gap, one for each local that has no register
  pub slots : slot_offsets locals ≡ map (λ i. 8 * i) (range_with_len 0 (length (slot_offsets locals)))
  -- each local that peels in the graph of the conflicts of its class, at the count of the registers for it, has a register
  pub temporary_full : (v : ℕ) → v < local_count g → suits_temporary g live v ≡ true →
      Peels (local_count g) (conflict_within g live (suits_temporary g live)) (length temporaries) v → is_in_temporary (place_at locals v) ≡ true
  pub saved_full : (v : ℕ) → v < local_count g → suits_callee_saves live v ≡ true →
      Peels (local_count g) (conflict_within g live (suits_callee_saves live)) (length callee_saves) v → is_in_callee_saves (place_at locals v) ≡ true
  -- Where each local that suits callee-saves registers peels in the graph of the conflicts of all that suit registers, at the count of the callee-saves
  -- registers, as it is where no local suits these, each that suits temporary registers and peels there has a register, of the one kind or the other.
  pub either_full : ((w : ℕ) → w < local_count g → suits_callee_saves live w ≡ true →
      Peels (local_count g) (conflict_within g live (suits_register g live)) (length callee_saves) w) →
      (v : ℕ) → v < local_count g → suits_temporary g live v ≡ true → Peels (local_count g) (conflict_within g live (suits_register g live)) (length callee_saves) v →
      is_in_register (place_at locals v) ≡ true
