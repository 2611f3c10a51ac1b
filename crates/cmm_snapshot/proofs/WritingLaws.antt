-- What is written is a snapshot.
use Rattle.std.proofs.Common.{◌≡◌, ℕ, suc, ◌+◌, ◌*◌, ◌%◌, ◌^◌, ◌<◌, ◌≤◌, List, [], ◌∷◌, ◌++◌, length, drop, slice_index, Option, Some, None, true, refl, sym, ap, subst, ◌∙◌, append_assoc, inl, inr, arith}
use Rattle.std.proofs.Math.ListN.{get_or-append}
use Rattle.std.proofs.lemmas.Bool.{cases_lt}
use Rattle.std.proofs.lemmas.Bool.Decides.{nat_tests}
use Rattle.std.proofs.lemmas.List.{length-append, get_or-append-add, get_or_past}
use Rattle.std.proofs.lemmas.Slice.Eq.{bytes_eq-Decides}
use Rattle.rv_table.specs.declared.memory_map.TheConstants.{STACK_SIZE_LIMIT}
use Rattle.rv_table.specs.declared.registers.Regs.{Regs}
use Rattle.rv_memory.specs.Regions.{Fits, Regions}
use Rattle.cmm_format.specs.Formats.{AreBytes, AreRows, number_bytes}
use Rattle.cmm_format.proofs.Shared.{length-number_bytes}
use Rattle.cmm_image.specs.declared.parts.ImageParts.{ImageParts}
use Rattle.cmm_image.specs.WholeImage.{header_bytes}
use Rattle.cmm_image.proofs.Shared.{header_long}
use Rattle.cmm_snapshot.specs.SnapshotFormat.{is_stack_size, magic, registers, snapshot, taken_of, u64}
use Rattle.cmm_snapshot.specs.Snapshots.{SpellsSnapshot}
use Rattle.cmm_snapshot.specs.inside.Takings.{front_bytes, memory_bytes, numbered_bytes}
use Rattle.cmm_snapshot.proofs.StateLaws.{behind-first}
use Rattle.cmm_snapshot.proofs.TakingLaws.{count_is}

-- ---- the registers

all-rows : (previous : Option ℕ) (words : List ℕ) → ((i : ℕ) → slice_index words i < 256 ^ 8) → AreRows (λ previous. u64.Holds) previous words
all-rows previous [] fits = tt
all-rows previous (w ∷ words) fits = (fits 0, all-rows (Some w) words (λ i. fits (suc i)))

behind-long : (x : List ℕ) → length x ≡ 32 → length (drop 1 x) ≡ 31
behind-long [] long = absurd (omega arith)
behind-long (y ∷ ys) long = omega (arith, long)

pub registers-hold : (x : List ℕ) (pc : ℕ) → length x ≡ 32 → ((i : ℕ) → slice_index x i < 256 ^ 8) → pc < 256 ^ 8 → registers.Holds (drop 1 x, pc)
registers-hold x pc long fits low =
    let count = behind-long x long ∙ sym count_is in
    ((omega arith, (refl, tt)), ((count, all-rows None (drop 1 x) (λ i. subst (λ (n : ℕ). n < 256 ^ 8) (sym (behind-first x i)) (fits (suc i)))), low))

-- ---- bytes of a part

front-are : (xs ys : List ℕ) → AreBytes (xs ++ ys) → AreBytes xs
front-are xs ys fits k =
    elim (cases_lt k (length xs)) [
      | inl lt ↦ subst (λ (n : ℕ). n < 256) (get_or-append xs ys 0 k lt) (fits k)
      | inr le ↦ subst (λ (n : ℕ). n < 256) (sym (get_or_past xs k 0 le)) (omega arith)
    ]

rest-are : (xs ys : List ℕ) → AreBytes (xs ++ ys) → AreBytes ys
rest-are xs ys fits k = subst (λ (n : ℕ). n < 256) (get_or-append-add xs ys k 0) (fits (length xs + k))

-- those of the header, the data and the region
parts-are : (a b h s z d g : List ℕ) → AreBytes (a ++ (b ++ (h ++ (s ++ (z ++ (d ++ g)))))) → AreBytes h × (AreBytes d × AreBytes g)
parts-are a b h s z d g fits =
    let behind = rest-are b (h ++ (s ++ (z ++ (d ++ g)))) (rest-are a (b ++ (h ++ (s ++ (z ++ (d ++ g))))) fits) in
    let memory = rest-are z (d ++ g) (rest-are s (z ++ (d ++ g)) (rest-are h (s ++ (z ++ (d ++ g))) behind)) in
    (front-are h (s ++ (z ++ (d ++ g))) behind, (front-are d g memory, rest-are d g memory))

-- ---- lengths

words-long : (words : List ℕ) → length (numbered_bytes words) ≡ 8 * length words
words-long [] = refl
words-long (w ∷ words) = omega (arith, length-append (number_bytes 8 w) (numbered_bytes words), length-number_bytes 8 w, words-long words)

whole-long : (a b h s z w p d g : List ℕ) → length a ≡ 4 → length b ≡ 4 → length h ≡ 64 → length s ≡ 8 → length z ≡ 8 → length w ≡ 248 → length p ≡ 8
    → length (a ++ (b ++ (h ++ (s ++ ((z ++ (w ++ p)) ++ (d ++ g)))))) ≡ 344 + (length d + length g)
whole-long a b h s z w p d g la lb lh ls lz lw lp =
    omega (
      arith,
      la,
      lb,
      lh,
      ls,
      lz,
      lw,
      lp,
      length-append a (b ++ (h ++ (s ++ ((z ++ (w ++ p)) ++ (d ++ g))))),
      length-append b (h ++ (s ++ ((z ++ (w ++ p)) ++ (d ++ g)))),
      length-append h (s ++ ((z ++ (w ++ p)) ++ (d ++ g))),
      length-append s ((z ++ (w ++ p)) ++ (d ++ g)),
      length-append (z ++ (w ++ p)) (d ++ g),
      length-append z (w ++ p),
      length-append w p,
      length-append d g,
    )

-- ---- the whole

size_allowed : (n : ℕ) → n % 16 ≡ 0 → n ≤ STACK_SIZE_LIMIT → is_stack_size n ≡ true
size_allowed n whole few = grind (arith, nat_tests)

regroup : (a b h s rest : List ℕ) → (a ++ (b ++ (h ++ s))) ++ rest ≡ a ++ (b ++ (h ++ (s ++ rest)))
regroup a b h s rest = simp append_assoc

module _ (i : ImageParts) (r : Regs) (m : Regions) (held : registers.Holds (drop 1 r.x, r.pc)) (kept : Fits m) (same : length m.data_bytes ≡ length i.initial) (whole : m.stack_size % 16 ≡ 0) where
  spelled-long : length ((snapshot i).spelled (taken_of r m)) ≡ 344 + (length m.data_bytes + length m.region_bytes)
  spelled-long =
      let count : length (drop 1 r.x) ≡ 31 = held.1.0.0 ∙ count_is in
      whole-long (number_bytes 4 magic) (number_bytes 4 1) (header_bytes i) (number_bytes 8 m.stack_size) (number_bytes 8 0) (numbered_bytes (drop 1 r.x)) (number_bytes 8 r.pc) m.data_bytes m.region_bytes
      (length-number_bytes 4 magic) (length-number_bytes 4 1) (header_long i) (length-number_bytes 8 m.stack_size) (length-number_bytes 8 0) (omega (arith, words-long (drop 1 r.x), count)) (length-number_bytes 8 r.pc)

  holds : AreBytes (header_bytes i) → AreBytes m.data_bytes → AreBytes m.region_bytes → (snapshot i).Holds (taken_of r m)
  holds header initial region =
      let few = kept.stack in
      let low : m.stack_size < 256 ^ 8 = omega (arith, few) in (
        (omega arith, (refl, tt)),
        (
          (omega arith, (refl, tt)),
          (
            ((header_long i, header), ((bytes_eq-Decides (header_bytes i) (header_bytes i)).1 refl, tt)),
            ((low, (size_allowed m.stack_size whole few, tt)), (held, ((same, initial), (kept.region, region)))),
          ),
        ),
      )

  pub written-so : (header out : List ℕ) → header ≡ header_bytes i → out ≡ [] ++ (front_bytes header m.stack_size ++ (registers.spelled (drop 1 r.x, r.pc) ++ memory_bytes m)) → AreBytes out → SpellsSnapshot i out (taken_of r m)
  written-so header out begins is fits =
      let spelled : out ≡ (snapshot i).spelled (taken_of r m) =
      is ∙ ap (λ (h : List ℕ). front_bytes h m.stack_size ++ (registers.spelled (drop 1 r.x, r.pc) ++ memory_bytes m)) begins
      ∙ regroup (number_bytes 4 magic) (number_bytes 4 1) (header_bytes i) (number_bytes 8 m.stack_size) (registers.spelled (drop 1 r.x, r.pc) ++ memory_bytes m)
      in
      let parts = parts-are (number_bytes 4 magic) (number_bytes 4 1) (header_bytes i) (number_bytes 8 m.stack_size) (registers.spelled (drop 1 r.x, r.pc)) m.data_bytes m.region_bytes (subst AreBytes spelled fits) in
      let initial = kept.initial in
      let region = kept.region in
      let few = kept.stack in
      record {
        fields = holds parts.0 parts.1.0 parts.1.1;
        spelled = spelled;
        short = omega (arith, ap length spelled, spelled-long, initial, region, few);
      }
