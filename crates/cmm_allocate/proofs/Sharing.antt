-- Who has a callee-saves register where those without a temporary one share these.
use Rattle.std.proofs.Common.{◌≡◌, ◌⊎◌, inl, inr, ℕ, ◌<◌, Bool, true, false, ◌&&◌, ◌||◌, List, length, Option, is_none, is_some, refl, sym, ◌∙◌, subst}
use Rattle.std.proofs.lemmas.Bool.{and_from, and_parts, or_left, or_right}
use Rattle.cmm_abi.specs.Registers.{callee_saves}
use Rattle.cmm_bitset.proofs.Shared.{has-union, length-union}
use Rattle.cmm_bitset.specs.Sets.{has, union}
use Rattle.cmm_colour.specs.Colours.{colour_of}
use Rattle.cmm_colour.specs.Peeling.{Peels}
use Rattle.cmm_graph.specs.declared.graph.Graph.{Graph}
use Rattle.cmm_live.specs.declared.live_sets.LiveSets.{LiveSets}
use Rattle.cmm_live.specs.Exact.{AreLiveSets}
use Rattle.cmm_live.specs.Laws.{SetsDecideConflicts}
use Rattle.cmm_live.specs.Locals.{local_count}
use Rattle.cmm_allocate.specs.Classes.{conflict, conflict_within, suits_callee_saves, suits_register, suits_temporary}
use Rattle.cmm_allocate.specs.inside.Colouring.{AreKept, AreRegisters, IsColoured, IsShared}
use Rattle.cmm_allocate.proofs.Coloured.{full}
use Rattle.cmm_allocate.proofs.Living.{has_within}
use Rattle.cmm_allocate.proofs.Peeling.{peels_less}

-- who peels among all that suit registers
abbrev pub PeelsAmongAll : Graph → LiveSets → ℕ → Type 0
PeelsAmongAll g live v = Peels (local_count g) (conflict_within g live (suits_register g live)) (length callee_saves) v

-- what holds of the class and more locals, coloured together, if the class is kept, and else of the class alone, holds of what is shared
by_outcome : {g : Graph} {class more second : List Bool} {colours others : List (Option ℕ)} (P : List Bool → List (Option ℕ) → Type 0)
    (shared : IsShared g class colours more second others) → (AreKept class colours shared.together → P (union class more) shared.together) →
    ((AreKept class colours shared.together → ⊥) → P class colours) → P second others
by_outcome {g} {class} {more} {second} {colours} {others} P shared if_kept if_lost = by shared.outcome
  where
    by : (AreKept class colours shared.together × (second ≡ union class more) × (others ≡ shared.together))
        ⊎ ((AreKept class colours shared.together → ⊥) × (second ≡ class) × (others ≡ colours)) → P second others
    by (inl is) = subst (λ s. P s others) (sym is.1) (subst (λ o. P (union class more) o) (sym is.2) (if_kept is.0))
    by (inr is) = subst (λ s. P s others) (sym is.1) (subst (λ o. P class o) (sym is.2) (if_lost is.0))

module _ {g : Graph} {live : LiveSets} {first second : List Bool} {colours others : List (Option ℕ)} (registers : AreRegisters g live first colours second others) where
  same_size : length registers.class ≡ length registers.left
  same_size = registers.apart.classes.callee_saves.size ∙ (sym registers.apart.classes.temporary.size ∙ sym registers.left_over.size_is)

  wider_size : length (union registers.class registers.left) ≡ local_count g
  wider_size = length-union registers.class registers.left same_size ∙ registers.apart.classes.callee_saves.size

  pub second_size : length second ≡ local_count g
  second_size = by_outcome (λ s o. length s ≡ local_count g) registers.shared (λ kept. wider_size) (λ lost. registers.apart.classes.callee_saves.size)

  pub second_coloured : IsColoured g second (length callee_saves) others
  second_coloured = by_outcome (λ s o. IsColoured g s (length callee_saves) o) registers.shared (λ kept. registers.shared.coloured) (λ lost. registers.apart.second_coloured)

-- who has a callee-saves register, and who must have one
pub record AreSecond (g : Graph) (live : LiveSets) (colours : List (Option ℕ)) (second : List Bool) (others : List (Option ℕ)) : Type 0 where
  pub suits : (v : ℕ) → v < local_count g → has second v ≡ true → suits_register g live v ≡ true
  pub all : (v : ℕ) → v < local_count g → suits_callee_saves live v ≡ true → has second v ≡ true
  pub full : (v : ℕ) → v < local_count g → suits_callee_saves live v ≡ true →
      Peels (local_count g) (conflict_within g live (suits_callee_saves live)) (length callee_saves) v → is_some (colour_of others v) ≡ true
  pub either_full : ((w : ℕ) → w < local_count g → suits_callee_saves live w ≡ true → PeelsAmongAll g live w) →
      (v : ℕ) → v < local_count g → suits_temporary g live v ≡ true → PeelsAmongAll g live v → is_none (colour_of colours v) ≡ true →
      (has second v ≡ true) × (is_some (colour_of others v) ≡ true)

module _ (decide : SetsDecideConflicts) (g : Graph) (live : LiveSets) (sets : AreLiveSets g live) (first : List Bool) (colours : List (Option ℕ)) (second : List Bool)
    (others : List (Option ℕ)) (registers : AreRegisters g live first colours second others) where
  abbrev wider : List Bool
  wider = union registers.class registers.left

  has_wider : (v : ℕ) → has wider v ≡ (has registers.class v || has registers.left v)
  has_wider v = has-union registers.class registers.left v (same_size registers)

  -- who is left over suits temporary registers and has none
  is_left : (v : ℕ) → v < local_count g → has registers.left v ≡ (has first v && is_none (colour_of colours v))
  is_left v low = registers.left_over.below v (subst (λ n. v < n) (sym registers.apart.classes.temporary.size) low)

  suits_saved : (v : ℕ) → v < local_count g → has registers.class v ≡ suits_callee_saves live v
  suits_saved v low = registers.apart.classes.callee_saves.exact v low

  suits : (v : ℕ) → v < local_count g → has wider v ≡ true → suits_register g live v ≡ true
  suits v low is = by (has registers.class v) (has registers.left v) refl refl (sym (has_wider v) ∙ is)
    where
      by : (a b : Bool) → has registers.class v ≡ a → has registers.left v ≡ b → (has registers.class v || has registers.left v) ≡ true → suits_register g live v ≡ true
      by true b one other either = or_left (suits_callee_saves live v) (suits_temporary g live v) (sym (suits_saved v low) ∙ one)
      by false true one other either =
          or_right (suits_callee_saves live v) (suits_temporary g live v)
          (sym (registers.apart.classes.temporary.exact v low) ∙ (and_parts (has first v) (is_none (colour_of colours v)) (sym (is_left v low) ∙ other)).0)
      by false false one other either = absurd (cc)

  -- who peels among all that suit registers is coloured where the class and those left over are coloured together
  together : (v : ℕ) → v < local_count g → PeelsAmongAll g live v → is_some (colour_of registers.shared.together v) ≡ true
  together v low peels =
      full decide g live sets wider (length callee_saves) registers.shared.together registers.shared.coloured
      (has wider) (record { size = wider_size registers; exact = λ w below. refl }) v low
      (peels_less (local_count g) (length callee_saves) (conflict_within g live (has wider)) (conflict_within g live (suits_register g live)) fewer v peels)
    where
      fewer : (v w : ℕ) → w < local_count g → conflict_within g live (has wider) v w ≡ true →
          conflict_within g live (suits_register g live) v w ≡ true
      fewer v w w_low are =
          let both = and_parts (has wider v && has wider w) (conflict g live v w) are in
          let members = and_parts (has wider v) (has wider w) both.0 in
          let v_low : v < local_count g = subst (λ n. v < n) (wider_size registers) (has_within wider v members.0) in
          and_from (suits_register g live v && suits_register g live w) (conflict g live v w)
          (and_from (suits_register g live v) (suits_register g live w) (suits v v_low members.0) (suits w w_low members.1)) both.1

  -- who peels in the class is coloured where that is coloured alone
  alone : (v : ℕ) → v < local_count g → Peels (local_count g) (conflict_within g live (suits_callee_saves live)) (length callee_saves) v →
      is_some (colour_of registers.alone v) ≡ true
  alone v low peels =
      full decide g live sets registers.class (length callee_saves) registers.alone registers.apart.second_coloured (suits_callee_saves live) registers.apart.classes.callee_saves v low peels

  if_kept : AreKept registers.class registers.alone registers.shared.together → AreSecond g live colours wider registers.shared.together
  if_kept kept = record {
    suits = suits;
    all = λ v low is. has_wider v ∙ or_left (has registers.class v) (has registers.left v) (suits_saved v low ∙ is);
    full = λ v low is peels. kept v (suits_saved v low ∙ is) (alone v low peels);
    either_full = λ all v low is peels none. (
      has_wider v ∙ or_right (has registers.class v) (has registers.left v)
          (is_left v low ∙ and_from (has first v) (is_none (colour_of colours v)) (registers.apart.classes.temporary.exact v low ∙ is) none),
      together v low peels,
    );
  }

  if_lost : (AreKept registers.class registers.alone registers.shared.together → ⊥) → AreSecond g live colours registers.class registers.alone
  if_lost lost = record {
    suits = λ v low is. or_left (suits_callee_saves live v) (suits_temporary g live v) (sym (suits_saved v low) ∙ is);
    all = λ v low is. suits_saved v low ∙ is;
    full = λ v low is peels. alone v low peels;
    either_full = λ all v low is peels none. absurd (lost (λ w has_w some.
        let w_low : w < local_count g = subst (λ n. w < n) registers.apart.classes.callee_saves.size (has_within registers.class w has_w) in
        together w w_low (all w w_low (sym (suits_saved w w_low) ∙ has_w))));
  }

  pub are_second : AreSecond g live colours second others
  are_second = by_outcome (λ s o. AreSecond g live colours s o) registers.shared if_kept if_lost
