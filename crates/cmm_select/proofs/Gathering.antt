-- Words of memory in several accesses.
use Rattle.std.proofs.lemmas.Bool.{or_parts}
use Rattle.std.proofs.Common.{◌≡◌, ◌≢◌, ℕ, zero, suc, ◌+◌, ◌-◌, ◌*◌, ◌/◌, ◌%◌, ◌<◌, ◌≤◌, ◌^◌, ◌⊎◌, inl, inr, refl, sym, ◌∙◌, ap, subst, arith, pos, List, true, false}
use Rattle.std.specs.Prelude.{◌==◌, ◌||◌, Bool, IsTrue}
use Rattle.std.proofs.Math.Nat.{div-div-eq-div-mul, suc-mul}
use Rattle.std.proofs.Math.Path.{fun_ext}
use Rattle.std.proofs.Math.Pow.{pow_mono}
use Rattle.std.proofs.lemmas.Bool.Decides.{nat_tests}
use Rattle.std.proofs.lemmas.Nat.{pow-add}
use Rattle.cmm_words.specs.Widths.{bytes}
use Rattle.cmm_words.specs.declared.width.Width.{Width}
use Rattle.cmm_words.specs.declared.width.Width.TheVariants.{W8, W16, W32, W64}
use Rattle.rv_asm.specs.Appending.{Then}
use Rattle.rv_asm.specs.Parts.{Code}
use Rattle.rv_asm.specs.declared.part.Part.{Part}
use Rattle.rv_table.proofs.Shared.{loaded-lt, stored-inside, stored-outside}
use Rattle.rv_table.specs.Bounds.{IsSound}
use Rattle.rv_table.specs.Machine.{MemoryMap, State, extended, is_accessible, loaded, stored}
use Rattle.rv_table.specs.Row.{row}
use Rattle.rv_table.specs.Words.{modulo, shifted_left, shifted_right, sum}
use Rattle.rv_table.specs.declared.effects.Effect.TheVariants.{Load, Store}
use Rattle.rv_table.specs.declared.instruction.Instr.{Instr}
use Rattle.rv_table.specs.declared.instruction.Instr.TheVariants.{Add}
use Rattle.cmm_effects.proofs.Shared.{keeps_then, leads_load, leads_set, leads_store_alone, leads_then, leads_weaker, runs_of, set_keeps}
use Rattle.cmm_abi.specs.Registers.{is_scratch}
use Rattle.cmm_effects.specs.Changes.{Keeps, Sets, Writes}
use Rattle.cmm_effects.specs.Pieces.{Adds, Always, Leads}
use Rattle.cmm_select.proofs.Places.{One, set_as}
use Rattle.cmm_select.proofs.Sums.{loaded_whole, plus_near}
use Rattle.cmm_select.specs.Cells.{IsCell, Loads}
use Rattle.cmm_select.specs.Memory.{IsCellBy, access_of, access_of_half, access_of_word}
use Rattle.cmm_select.specs.inside.Accesses.{load_part, store_part}
use Rattle.cmm_select.specs.inside.Gathering.{CanAccess, Gathers, Joins, Scatters, shift_down, shift_up}

-- ---- numbers of bytes that are put together

pub loaded-split : (m : ℕ → ℕ) (a b k : ℕ) → loaded m a (b + k) ≡ loaded m a b + 2 ^ (8 * b) * loaded m (a + b) k
loaded-split m a zero k =
    let e : zero + k ≡ k = omega arith in
    let f : a + zero ≡ a = omega arith in
    rw (e, f) (omega arith)
loaded-split m a (suc b) k =
    let e : suc b + k ≡ suc (b + k) = omega arith in
    let f : a + suc b ≡ a + 1 + b = omega arith in
    let p : 2 ^ (8 * suc b) ≡ 2 ^ (8 * b) * 2 ^ 8 = ap (λ (i : ℕ). 2 ^ i) (eight_more b) ∙ pow-add 2 (8 * b) 8 in
    let r = loaded-split m (a + 1) b k in
    rw (e, f) (parts (m a) (loaded m (a + 1) (b + k)) (loaded m (a + 1) b) (2 ^ (8 * b)) (2 ^ (8 * suc b)) (loaded m (a + 1 + b) k) p r)
  where
    eight_more : (b : ℕ) → 8 * suc b ≡ 8 * b + 8
    eight_more b = omega arith

    parts : (h all low q q' high : ℕ) → q' ≡ q * 2 ^ 8 → all ≡ low + q * high → h + 256 * all ≡ h + 256 * low + q' * high
    parts h all low q q' high e f = rw (e, f) (omega arith)

-- a number above and one below it fit 64 bits together
above : (x y j k : ℕ) → x < 2 ^ k → y < 2 ^ j → k + j ≤ 64 → sum (shifted_left x j) y ≡ y + 2 ^ j * x
above x y j k h g fits =
    let p : 2 ^ (k + j) ≡ 2 ^ k * 2 ^ j = pow-add 2 k j in
    let m : 2 ^ (k + j) ≤ 2 ^ 64 = pow_mono fits in
    bounded x y (2 ^ j) (2 ^ k) (2 ^ (k + j)) h g p m
  where
    bounded : (x y q r n : ℕ) → x < r → y < q → n ≡ r * q → n ≤ 2 ^ 64 → (x * q % 2 ^ 64 + y) % 2 ^ 64 ≡ y + q * x
    bounded x y q r n h g e m =
        let more : (x + 1) * q ≤ r * q = mul-le x r q h in
        let fits : x * q + y < 2 ^ 64 = omega (arith, more) in
        omega (arith, fits)
      where
        mul-le : (x r q : ℕ) → x < r → (x + 1) * q ≤ r * q
        mul-le x r q h = grind arith

joined_value : (m : ℕ → ℕ) (a b k : ℕ) → ((i : ℕ) → m i < 2 ^ 8) → 8 * (b + k) ≤ 64 →
    sum (shifted_left (loaded m (a + b) k) (8 * b)) (loaded m a b) ≡ loaded m a (b + k)
joined_value m a b k small fits =
    above (loaded m (a + b) k) (loaded m a b) (8 * b) (8 * k) (loaded-lt m (a + b) k small) (loaded-lt m a b small) (omega arith) ∙ sym (loaded-split m a b k)

-- ---- bytes that are stored in turn

pub stored-split : (m : ℕ → ℕ) (a b k v : ℕ) → stored (stored m a b v) (a + b) k (v / 2 ^ (8 * b)) ≡ stored m a (b + k) v
stored-split m a b k v = fun_ext (λ at. by at (cases at a) (cases at (a + b)) (cases at (a + b + k)))
  where
    cases : (x y : ℕ) → (x < y) ⊎ (y ≤ x)
    cases x y = grind arith

    upper : (at : ℕ) → a + b ≤ at → v / 2 ^ (8 * b) / 2 ^ (8 * (at - (a + b))) ≡ v / 2 ^ (8 * (at - a))
    upper at h =
        let e : 8 * b + 8 * (at - (a + b)) ≡ 8 * (at - a) = omega arith in
        div-div-eq-div-mul v (2 ^ (8 * b)) (2 ^ (8 * (at - (a + b))))
        ∙ ap (λ (q : ℕ). v / q) (sym (pow-add 2 (8 * b) (8 * (at - (a + b)))) ∙ ap (λ (i : ℕ). 2 ^ i) e)

    by : (at : ℕ) → (at < a) ⊎ (a ≤ at) → (at < a + b) ⊎ (a + b ≤ at) → (at < a + b + k) ⊎ (a + b + k ≤ at) →
        stored (stored m a b v) (a + b) k (v / 2 ^ (8 * b)) at ≡ stored m a (b + k) v at
    by at (inl below) q r =
        stored-outside (stored m a b v) (a + b) k (v / 2 ^ (8 * b)) at (inl (omega arith)) ∙ stored-outside m a b v at (inl below)
        ∙ sym (stored-outside m a (b + k) v at (inl below))
    by at (inr low) (inl high) r =
        stored-outside (stored m a b v) (a + b) k (v / 2 ^ (8 * b)) at (inl high) ∙ stored-inside m a b v at low high
        ∙ sym (stored-inside m a (b + k) v at low (omega arith))
    by at (inr low) (inr past) (inl high) =
        stored-inside (stored m a b v) (a + b) k (v / 2 ^ (8 * b)) at past high ∙ ap (λ (n : ℕ). n % 256) (upper at past)
        ∙ sym (stored-inside m a (b + k) v at low (omega arith))
    by at (inr low) (inr past) (inr end) =
        stored-outside (stored m a b v) (a + b) k (v / 2 ^ (8 * b)) at (inr end) ∙ stored-outside m a b v at (inr past)
        ∙ sym (stored-outside m a (b + k) v at (inr (omega arith)))

-- ---- one access

pub some_bytes : (p : Width) → 0 < bytes p
some_bytes W8 = omega arith
some_bytes W16 = omega arith
some_bytes W32 = omega arith
some_bytes W64 = omega arith

module _ (x : Code) (p : Width) (o : ℕ) (near : o < 2048) where
  there : (s : State) → CanAccess p o 1 x.map s → sum (s.registers 5) (modulo 64 (pos o)) ≡ s.registers 5 + o
  there s can = plus_near (s.registers 5) o near (omega (arith, can.fits, some_bytes p))

  reached : (s : State) → CanAccess p o 1 x.map s → IsTrue (is_accessible x.map (sum (s.registers 5) (modulo 64 (pos o))) (bytes p))
  reached s can =
      let e : s.registers 5 + o + 0 * bytes p ≡ sum (s.registers 5) (modulo 64 (pos o)) = omega arith ∙ sym (there s can) in
      subst (λ (a : ℕ). IsTrue (is_accessible x.map a (bytes p))) e (can.accessible 0 (omega arith))

  abbrev LoadsPart : ℕ → ℕ → ℕ → Type 0
  LoadsPart rd from to = Leads 1 (CanAccess p o 1) (λ s t. Sets rd (loaded s.memory (s.registers 5 + o) (bytes p)) s t) x from to

  loads_by : (rd from to : ℕ) (i : Instr) (signed : Bool) → rd ≢ 0 → ((r : ℕ → ℕ) (pc : ℕ) → row r pc i ≡ Load rd (sum (r 5) (modulo 64 (pos o))) (bytes p) signed) →
      ((s : State) (a : ℕ) → IsSound s → extended signed (bytes p) (loaded s.memory a (bytes p)) ≡ loaded s.memory a (bytes p)) → One i x from to → LoadsPart rd from to
  loads_by rd from to i signed written is value does =
      leads_weaker (leads_load x i from to rd (bytes p) signed (λ r. sum (r 5) (modulo 64 (pos o))) written is does) (omega arith)
      (λ s sound can. reached s can)
      (λ s t sound can sets.
      set_as rd (extended signed (bytes p) (loaded s.memory (sum (s.registers 5) (modulo 64 (pos o))) (bytes p))) (loaded s.memory (s.registers 5 + o) (bytes p)) s t
      (value s (sum (s.registers 5) (modulo 64 (pos o))) sound ∙ ap (λ (a : ℕ). loaded s.memory a (bytes p)) (there s can)) sets)

  abbrev StoresPart : ℕ → ℕ → Type 0
  StoresPart from to =
      Leads 1 (CanAccess p o 1) (λ s t. (t.registers ≡ s.registers) × (t.memory ≡ stored s.memory (s.registers 5 + o) (bytes p) (s.registers 7))) x from to

  stores_by : (from to : ℕ) (i : Instr) → ((r : ℕ → ℕ) (pc : ℕ) → row r pc i ≡ Store (sum (r 5) (modulo 64 (pos o))) (bytes p) (r 7)) → One i x from to → StoresPart from to
  stores_by from to i is does =
      leads_weaker (leads_store_alone x i from to (bytes p) (λ r. sum (r 5) (modulo 64 (pos o))) (λ r. r 7) is does) (omega arith)
      (λ s sound can. reached s can)
      (λ s t sound can wrote. (wrote.0, wrote.1 ∙ ap (λ (a : ℕ). stored s.memory a (bytes p) (s.registers 7)) (there s can)))

module _ (x : Code) (o : ℕ) (near : o < 2048) (from to : ℕ) where
  pub loads_part : (p : Width) (rd : ℕ) → rd ≢ 0 → One (load_part p rd 5 o) x from to → LoadsPart x p o near rd from to
  loads_part W8 rd written does = loads_by x W8 o near rd from to (load_part W8 rd 5 o) false written (λ r pc. refl) (λ s a sound. refl) does
  loads_part W16 rd written does = loads_by x W16 o near rd from to (load_part W16 rd 5 o) false written (λ r pc. refl) (λ s a sound. refl) does
  loads_part W32 rd written does = loads_by x W32 o near rd from to (load_part W32 rd 5 o) false written (λ r pc. refl) (λ s a sound. refl) does
  loads_part W64 rd written does = loads_by x W64 o near rd from to (load_part W64 rd 5 o) true written (λ r pc. refl) (λ s a sound. loaded_whole s.memory a sound.memory) does

  pub stores_part : (p : Width) → One (store_part p 5 7 o) x from to → StoresPart x p o near from to
  stores_part W8 does = stores_by x W8 o near from to (store_part W8 5 7 o) (λ r pc. refl) does
  stores_part W16 does = stores_by x W16 o near from to (store_part W16 5 7 o) (λ r pc. refl) does
  stores_part W32 does = stores_by x W32 o near from to (store_part W32 5 7 o) (λ r pc. refl) does
  stores_part W64 does = stores_by x W64 o near from to (store_part W64 5 7 o) (λ r pc. refl) does

module _ (x : Code) (from to : ℕ) where
  pub shifts_up : (p : Width) → bytes p < 8 → One (shift_up p) x from to → Leads 1 Always (λ s t. Sets 7 (shifted_left (s.registers 7) (8 * bytes p)) s t) x from to
  shifts_up W8 h does = leads_set x (shift_up W8) from to 7 (λ r. shifted_left (r 7) 8) (omega arith) (λ r pc. refl) does
  shifts_up W16 h does = leads_set x (shift_up W16) from to 7 (λ r. shifted_left (r 7) 16) (omega arith) (λ r pc. refl) does
  shifts_up W32 h does = leads_set x (shift_up W32) from to 7 (λ r. shifted_left (r 7) 32) (omega arith) (λ r pc. refl) does
  shifts_up W64 h does = absurd (omega arith)

  pub shifts_down : (p : Width) → bytes p < 8 → One (shift_down p) x from to → Leads 1 Always (λ s t. Sets 7 (shifted_right (s.registers 7) (8 * bytes p)) s t) x from to
  shifts_down W8 h does = leads_set x (shift_down W8) from to 7 (λ r. shifted_right (r 7) 8) (omega arith) (λ r pc. refl) does
  shifts_down W16 h does = leads_set x (shift_down W16) from to 7 (λ r. shifted_right (r 7) 16) (omega arith) (λ r pc. refl) does
  shifts_down W32 h does = leads_set x (shift_down W32) from to 7 (λ r. shifted_right (r 7) 32) (omega arith) (λ r pc. refl) does
  shifts_down W64 h does = absurd (omega arith)

-- ---- one access below what is there

pub access_kept : (x : Code) (p : Width) (o n : ℕ) (s t : State) → t.registers 5 ≡ s.registers 5 → CanAccess p o n x.map s → CanAccess p o n x.map t
access_kept x p o n s t is can = record {
  fits = subst (λ (a : ℕ). a + o + n * bytes p ≤ 2 ^ 64) (sym is) can.fits;
  accessible = λ k h. subst (λ (a : ℕ). IsTrue (is_accessible x.map (a + o + k * bytes p) (bytes p))) (sym is) (can.accessible k h);
}

module _ (x : Code) (p : Width) (o rd from to : ℕ) (near : o < 2048) (half : bytes p < 8) (written : rd ≢ 0) where
  pub joins : Then (One (shift_up p)) (Then (One (load_part p 6 5 o)) (One (Add rd 7 6))) x from to → Leads 3 (CanAccess p o 1) (Joins p o rd) x from to
  joins does =
      leads_weaker
      (leads_then
      (leads_weaker {R = CanAccess p o 1} {S = λ s t. Sets 7 (shifted_left (s.registers 7) (8 * bytes p)) s t} {b = 1} (shifts_up x from does.0 p half does.1) (omega arith)
      (λ s sound can. tt) (λ s t sound can sets. sets))
      (runs_of (leads_then (loads_part x o near does.0 does.2.0 p 6 (omega arith) does.2.1)
      (runs_of (leads_set x (Add rd 7 6) does.2.0 to rd (λ g. sum (g 7) (g 6)) written (λ g pc. refl) does.2.2))
      (λ s t sound also q r. tt)))
      (λ s t sound also can sets. access_kept x p o 1 s t (sets.others 5 refl) can))
      (omega arith) (λ s sound can. can)
      (λ s w sound can three. all s three.0 three.2.0 w three.1 three.2.1 three.2.2)
    where
      all : (s t u w : State) → Sets 7 (shifted_left (s.registers 7) (8 * bytes p)) s t → Sets 6 (loaded t.memory (t.registers 5 + o) (bytes p)) t u →
          Sets rd (sum (u.registers 7) (u.registers 6)) u w → Joins p o rd s w
      all s t u w first second third = record {
        given = third.given
            ∙ ap (λ (n : ℕ). sum n (u.registers 6)) (second.others 7 refl ∙ first.given)
            ∙ ap (sum (shifted_left (s.registers 7) (8 * bytes p)))
            (second.given ∙ ap (λ (m : ℕ → ℕ). loaded m (t.registers 5 + o) (bytes p)) first.memory
            ∙ ap (λ (a : ℕ). loaded s.memory (a + o) (bytes p)) (first.others 5 refl));
        others = λ r h.
            third.others r (or_parts (r == rd) ((r == 6) || (r == 7)) h).0
            ∙ second.others r (or_parts (r == 6) (r == 7) (or_parts (r == rd) ((r == 6) || (r == 7)) h).1).0
            ∙ first.others r (or_parts (r == 6) (r == 7) (or_parts (r == rd) ((r == 6) || (r == 7)) h).1).1;
        memory = third.memory ∙ second.memory ∙ first.memory;
      }

-- ---- more than one

-- what has several accesses has the first one and the others
module _ (x : Code) (p : Width) (o k : ℕ) (s : State) (can : CanAccess p o (suc k) x.map s) where
  pub first_access : CanAccess p o 1 x.map s
  first_access = record {
    fits = omega (arith, can.fits, suc-mul k (bytes p));
    accessible = λ i h. can.accessible i (omega arith);
  }

  pub other_accesses : CanAccess p (o + bytes p) k x.map s
  other_accesses = record {
    fits = omega (arith, can.fits, suc-mul k (bytes p));
    accessible = λ i h.
        let e : s.registers 5 + o + suc i * bytes p ≡ s.registers 5 + (o + bytes p) + i * bytes p = omega (arith, suc-mul i (bytes p)) in
        subst (λ (a : ℕ). IsTrue (is_accessible x.map a (bytes p))) e (can.accessible (suc i) (omega arith));
  }

-- a register gets all of them
gathered : (p : Width) (o k rd : ℕ) (s t w : State) → IsSound s → o + suc k * bytes p ≤ 8 → Gathers p (o + bytes p) k s t → Joins p o rd t w →
    w.registers rd ≡ loaded s.memory (s.registers 5 + o) (suc k * bytes p)
gathered p o k rd s t w sound within gathers joined =
    let e : s.registers 5 + (o + bytes p) ≡ s.registers 5 + o + bytes p = omega arith in
    let f : bytes p + k * bytes p ≡ suc k * bytes p = omega (arith, suc-mul k (bytes p)) in
    let fits : 8 * (bytes p + k * bytes p) ≤ 64 = omega (arith, suc-mul k (bytes p)) in
    joined.given
    ∙ ap (λ (n : ℕ). sum (shifted_left n (8 * bytes p)) (loaded t.memory (t.registers 5 + o) (bytes p))) (gathers.given ∙ ap (λ (a : ℕ). loaded s.memory a (k * bytes p)) e)
    ∙ ap (λ (m : ℕ → ℕ). sum (shifted_left (loaded s.memory (s.registers 5 + o + bytes p) (k * bytes p)) (8 * bytes p)) (loaded m (t.registers 5 + o) (bytes p))) gathers.keeps.memory
    ∙ ap (λ (a : ℕ). sum (shifted_left (loaded s.memory (s.registers 5 + o + bytes p) (k * bytes p)) (8 * bytes p)) (loaded s.memory (a + o) (bytes p))) gathers.first
    ∙ joined_value s.memory (s.registers 5 + o) (bytes p) (k * bytes p) sound.memory fits
    ∙ ap (loaded s.memory (s.registers 5 + o)) f

joins_keeps : (p : Width) (o rd : ℕ) (s t : State) → IsTrue (is_scratch rd) → Joins p o rd s t → Keeps s t
joins_keeps p o rd s t scratch joined = record {
  registers = λ r h. joined.others r (none r (r == rd) (r == 6) (r == 7) refl refl refl h);
  memory = joined.memory;
}
  where
    is : (r k : ℕ) → r ≡ k → IsTrue (is_scratch k) → is_scratch r ≡ false → ⊥
    is r k e scratch h = let g : is_scratch k ≡ false = subst (λ (j : ℕ). is_scratch j ≡ false) e h in absurd (cc)

    none : (r : ℕ) (a b c : Bool) → (r == rd) ≡ a → (r == 6) ≡ b → (r == 7) ≡ c → is_scratch r ≡ false → (a || (b || c)) ≡ false
    none r false false false e f g h = refl
    none r true b c e f g h = absurd (is r rd (grind (arith, nat_tests)) scratch h)
    none r false true c e f g h = absurd (is r 6 (grind (arith, nat_tests)) refl h)
    none r false false true e f g h = absurd (is r 7 (grind (arith, nat_tests)) refl h)

module _ (x : Code) (p : Width) (o k from to : ℕ) (within : o + suc k * bytes p ≤ 8) where
  abbrev GathersOthers : Code → ℕ → ℕ → Type 0
  GathersOthers = Leads (3 * k - 2) (CanAccess p (o + bytes p) k) (Gathers p (o + bytes p) k)

  gather_and_join : (rd : ℕ) → Then GathersOthers (Leads 3 (CanAccess p o 1) (Joins p o rd)) x from to →
      Leads (3 * k - 2 + 3) (CanAccess p o (suc k)) (λ s w. (t : State) × Gathers p (o + bytes p) k s t × Joins p o rd t w) x from to
  gather_and_join rd does =
      leads_then
      (leads_weaker {R = CanAccess p o (suc k)} {S = Gathers p (o + bytes p) k} {b = 3 * k - 2} does.1 (omega arith)
      (λ s sound can. other_accesses x p o k s can) (λ s t sound can gathers. gathers))
      (runs_of does.2)
      (λ s t sound also can gathers. access_kept x p o 1 s t gathers.first (first_access x p o k s can))

  pub gathers_more : 0 < k → Then GathersOthers (Leads 3 (CanAccess p o 1) (Joins p o 7)) x from to →
      Leads (3 * suc k - 2) (CanAccess p o (suc k)) (Gathers p o (suc k)) x from to
  gathers_more some does =
      leads_weaker (gather_and_join 7 does) (omega arith) (λ s sound can. can)
      (λ s w sound can both. record {
        given = gathered p o k 7 s both.0 w sound within both.1 both.2;
        first = both.2.others 5 refl ∙ both.1.first;
        keeps = keeps_then s both.0 w both.1.keeps (joins_keeps p o 7 both.0 w refl both.2);
      })

-- the word whose accesses they are
pub loads_joined : (x : Code) (p w : Width) (k from to : ℕ) → suc k * bytes p ≡ bytes w → suc k ≡ bytes w / bytes p → bytes w ≤ 8 → 0 < k →
    Then (Leads (3 * k - 2) (CanAccess p (bytes p) k) (Gathers p (bytes p) k)) (Leads 3 (CanAccess p 0 1) (Joins p 0 5)) x from to →
    Leads (3 * suc k - 2) (λ m s. IsCellBy p w (s.registers 5) m) (Loads w) x from to
loads_joined x p w k from to all count small some does =
    let e : bytes p ≡ 0 + bytes p = omega arith in
    let others = subst (λ (j : ℕ). Leads (3 * k - 2) (CanAccess p j k) (Gathers p j k) x from does.0) e does.1 in
    leads_weaker (gather_and_join x p 0 k from to (omega (arith, all)) 5 (does.0, others, does.2)) (omega arith)
    (λ s sound cell. accessed s cell)
    (λ s u sound cell both. record {
      given = gathered p 0 k 5 s both.0 u sound (omega (arith, all)) both.1 both.2
          ∙ ap (loaded s.memory (s.registers 5 + 0)) all ∙ ap (λ (a : ℕ). loaded s.memory a (bytes w)) (none_more (s.registers 5));
      keeps = keeps_then s both.0 u both.1.keeps (joins_keeps p 0 5 both.0 u refl both.2);
    })
  where
    none_more : (a : ℕ) → a + 0 ≡ a
    none_more a = omega arith

    accessed : (s : State) → IsCellBy p w (s.registers 5) x.map → CanAccess p 0 (suc k) x.map s
    accessed s cell = record {
      fits = omega (arith, all, cell.fits);
      accessible = λ i h.
          subst (λ (a : ℕ). IsTrue (is_accessible x.map (a + i * bytes p) (bytes p))) (sym (none_more (s.registers 5))) (cell.accessible i (omega (arith, count)));
    }

no_seven : (r : ℕ) → is_scratch r ≡ false → (r == 7) ≡ false
no_seven r h = by (r == 7) refl
  where
    by : (test : Bool) → (r == 7) ≡ test → test ≡ false
    by false e = refl
    by true e =
        let same : r ≡ 7 = grind (arith, nat_tests) in
        let g : is_scratch 7 ≡ false = subst (λ (j : ℕ). is_scratch j ≡ false) same h in
        absurd (cc)

-- ---- stores, one after another

module _ (x : Code) (p : Width) (o from to : ℕ) (near : o < 2048) where
  pub scatters_one : One (store_part p 5 7 o) x from to → Leads 1 (CanAccess p o 1) (Scatters p o 1) x from to
  scatters_one does =
      leads_weaker (stores_part x o near from to p does) (omega arith) (λ s sound can. can)
      (λ s t sound can wrote. record {
        writes = record {
          registers = λ r h. ap (λ (g : ℕ → ℕ). g r) wrote.0;
          memory = wrote.1 ∙ ap (λ (n : ℕ). stored s.memory (s.registers 5 + o) n (s.registers 7)) (once (bytes p));
        };
        first = ap (λ (g : ℕ → ℕ). g 5) wrote.0;
      })
    where
      once : (n : ℕ) → n ≡ 1 * n
      once n = omega arith

  abbrev Stored : State → State → Type 0
  Stored s t = (t.registers ≡ s.registers) × (t.memory ≡ stored s.memory (s.registers 5 + o) (bytes p) (s.registers 7))

  abbrev Shifted : State → State → Type 0
  Shifted s t = Sets 7 (shifted_right (s.registers 7) (8 * bytes p)) s t

  pub scatters_more : (k : ℕ) → bytes p < 8 → 0 < k →
      Then (One (store_part p 5 7 o)) (Then (One (shift_down p)) (Leads (2 * k - 1) (CanAccess p (o + bytes p) k) (Scatters p (o + bytes p) k))) x from to →
      Leads (2 * suc k - 1) (CanAccess p o (suc k)) (Scatters p o (suc k)) x from to
  scatters_more k half some does =
      leads_weaker
      (leads_then
      (leads_weaker {R = CanAccess p o (suc k)} {S = Stored} {b = 1} (stores_part x o near from does.0 p does.1) (omega arith) (λ s sound can. first_access x p o k s can) (λ s t sound can wrote. wrote))
      (runs_of (leads_then
      (leads_weaker {R = CanAccess p (o + bytes p) k} {S = Shifted} {b = 1} (shifts_down x does.0 does.2.0 p half does.2.1) (omega arith) (λ s sound can. tt) (λ s t sound can sets. sets))
      (runs_of does.2.2)
      (λ s t sound also can sets. access_kept x p (o + bytes p) k s t (sets.others 5 refl) can)))
      (λ s t sound also can wrote. access_kept x p (o + bytes p) k s t (ap (λ (g : ℕ → ℕ). g 5) wrote.0) (other_accesses x p o k s can)))
      (omega (arith, some)) (λ s sound can. can)
      (λ s v sound can all. scattered s all.0 all.2.0 v all.1 all.2.1 all.2.2)
    where
      scattered : (s t u v : State) → Stored s t → Shifted t u → Scatters p (o + bytes p) k u v → Scatters p o (suc k) s v
      scattered s t u v wrote sets rest =
          let same = λ (r : ℕ). ap (λ (g : ℕ → ℕ). g r) wrote.0 in
          let five : u.registers 5 ≡ s.registers 5 = sets.others 5 refl ∙ same 5 in
          let e : s.registers 5 + (o + bytes p) ≡ s.registers 5 + o + bytes p = omega arith in
          let f : bytes p + k * bytes p ≡ suc k * bytes p = omega (arith, suc-mul k (bytes p)) in
          record {
            writes = record {
              registers = λ r h. rest.writes.registers r h ∙ sets.others r (no_seven r h) ∙ same r;
              memory =
                  rest.writes.memory
                  ∙ ap (λ (m : ℕ → ℕ). stored m (u.registers 5 + (o + bytes p)) (k * bytes p) (u.registers 7)) (sets.memory ∙ wrote.1)
                  ∙ ap (λ (a : ℕ). stored (stored s.memory (s.registers 5 + o) (bytes p) (s.registers 7)) a (k * bytes p) (u.registers 7)) (ap (λ (a : ℕ). a + (o + bytes p)) five ∙ e)
                  ∙ ap (stored (stored s.memory (s.registers 5 + o) (bytes p) (s.registers 7)) (s.registers 5 + o + bytes p) (k * bytes p))
                  (sets.given ∙ ap (λ (n : ℕ). n / 2 ^ (8 * bytes p)) (same 7))
                  ∙ stored-split s.memory (s.registers 5 + o) (bytes p) (k * bytes p) (s.registers 7)
                  ∙ ap (λ (n : ℕ). stored s.memory (s.registers 5 + o) n (s.registers 7)) f;
            };
            first = rest.first ∙ five;
          }

-- ---- the accesses of a word make it up

pub record Parts (w p : Width) : Type 0 where
  pub some : 0 < bytes w / bytes p
  pub all : bytes w / bytes p * bytes p ≡ bytes w
  pub single : bytes w / bytes p ≡ 1 → p ≡ w

whole : (w : Width) → Parts w w
whole W8 = record { some = omega arith; all = refl; single = λ e. refl }
whole W16 = record { some = omega arith; all = refl; single = λ e. refl }
whole W32 = record { some = omega arith; all = refl; single = λ e. refl }
whole W64 = record { some = omega arith; all = refl; single = λ e. refl }

by_halves : (w : Width) → Parts w W16 → Parts w W8 → (b : Bool) → Parts w (elim b as (λ _. Width) [ true ↦ W16 | false ↦ W8 ])
by_halves w one other true = one
by_halves w one other false = other

by_words : (w : Width) → Parts w W32 → (rest : Width) → Parts w rest → (b : Bool) → Parts w (elim b as (λ _. Width) [ true ↦ W32 | false ↦ rest ])
by_words w one rest other true = one
by_words w one rest other false = other

wide : (rest : Width) → Parts W64 rest → (b : Bool) → Parts W64 (elim b as (λ _. Width) [ true ↦ W64 | false ↦ rest ])
wide rest other true = whole W64
wide rest other false = other

halves_of_word : (aligned : ℕ) → Parts W32 (access_of_half aligned)
halves_of_word aligned =
    by_halves W32 (record { some = omega arith; all = refl; single = λ e. absurd (omega (arith, e)) })
    (record { some = omega arith; all = refl; single = λ e. absurd (omega (arith, e)) }) (aligned % 2 == 0)

halves_of_wide : (aligned : ℕ) → Parts W64 (access_of_half aligned)
halves_of_wide aligned =
    by_halves W64 (record { some = omega arith; all = refl; single = λ e. absurd (omega (arith, e)) })
    (record { some = omega arith; all = refl; single = λ e. absurd (omega (arith, e)) }) (aligned % 2 == 0)

pub parts : (w : Width) (aligned : ℕ) → Parts w (access_of w aligned)
parts W8 aligned = whole W8
parts W16 aligned = by_halves W16 (whole W16) (record { some = omega arith; all = refl; single = λ e. absurd (omega (arith, e)) }) (aligned % 2 == 0)
parts W32 aligned = by_words W32 (whole W32) (access_of_half aligned) (halves_of_word aligned) (aligned % 4 == 0)
parts W64 aligned =
    wide (access_of_word aligned)
    (by_words W64 (record { some = omega arith; all = refl; single = λ e. absurd (omega (arith, e)) }) (access_of_half aligned) (halves_of_wide aligned) (aligned % 4 == 0))
    (aligned % 8 == 0)

pub eight_bytes : (w : Width) → bytes w ≤ 8
eight_bytes W8 = omega arith
eight_bytes W16 = omega arith
eight_bytes W32 = omega arith
eight_bytes W64 = omega arith

-- where there are several in eight bytes, each has less
pub less_than_eight : (k b : ℕ) → 0 < k → suc k * b ≤ 8 → b < 8
less_than_eight zero b some h = absurd (omega arith)
less_than_eight (suc j) b some h = omega (arith, suc-mul (suc j) b, suc-mul j b)

pub cell_alone : (p w : Width) (m : MemoryMap) (a : ℕ) → p ≡ w → 0 < bytes w / bytes p → IsCellBy p w a m → IsCell w m a
cell_alone p w m a same some cell =
    let e : a + 0 * bytes p ≡ a = omega arith in
    subst (λ (q : Width). IsTrue (is_accessible m a (bytes q))) same
    (subst (λ (k : ℕ). IsTrue (is_accessible m k (bytes p))) e (cell.accessible 0 some))

pub gathers_one : (x : Code) (p : Width) (o from to : ℕ) → o < 2048 → One (load_part p 7 5 o) x from to → Leads 1 (CanAccess p o 1) (Gathers p o 1) x from to
gathers_one x p o from to near does =
    leads_weaker (loads_part x o near from to p 7 (omega arith) does) (omega arith) (λ s sound can. can)
    (λ s t sound can sets. record {
      given = sets.given ∙ ap (loaded s.memory (s.registers 5 + o)) (once (bytes p));
      first = sets.others 5 refl;
      keeps = set_keeps 7 (loaded s.memory (s.registers 5 + o) (bytes p)) s t refl sets;
    })
  where
    once : (n : ℕ) → n ≡ 1 * n
    once n = omega arith

-- ---- counts

pub gathers_as : (old new : List Part) (p : Width) (o n m : ℕ) → m ≡ n → Adds (3 * m - 2) old new (Leads (3 * m - 2) (CanAccess p o m) (Gathers p o m)) →
    Adds (3 * n - 2) old new (Leads (3 * n - 2) (CanAccess p o n) (Gathers p o n))
gathers_as old new p o n m is adds = subst (λ (j : ℕ). Adds (3 * j - 2) old new (Leads (3 * j - 2) (CanAccess p o j) (Gathers p o j))) is adds

pub scatters_as : (old new : List Part) (p : Width) (o n m : ℕ) → m ≡ n → Adds (2 * m - 1) old new (Leads (2 * m - 1) (CanAccess p o m) (Scatters p o m)) →
    Adds (2 * n - 1) old new (Leads (2 * n - 1) (CanAccess p o n) (Scatters p o n))
scatters_as old new p o n m is adds = subst (λ (j : ℕ). Adds (2 * j - 1) old new (Leads (2 * j - 1) (CanAccess p o j) (Scatters p o j))) is adds

-- ---- the whole word is stored

pub stores_scattered : (x : Code) (p w : Width) (from to : ℕ) → Parts w p →
    Leads (2 * (bytes w / bytes p) - 1) (CanAccess p 0 (bytes w / bytes p)) (Scatters p 0 (bytes w / bytes p)) x from to →
    Leads (2 * (bytes w / bytes p) - 1) (λ m s. IsCellBy p w (s.registers 5) m) (λ s t. Writes (s.registers 5) (bytes w) (s.registers 7) s t) x from to
stores_scattered x p w from to made leads =
    leads_weaker leads (omega arith)
    (λ s sound cell. record {
      fits = omega (arith, made.all, cell.fits);
      accessible = λ i h.
          subst (λ (a : ℕ). IsTrue (is_accessible x.map (a + i * bytes p) (bytes p))) (sym (none_more (s.registers 5))) (cell.accessible i h);
    })
    (λ s t sound cell scatters. record {
      registers = scatters.writes.registers;
      memory =
          scatters.writes.memory ∙ ap (λ (n : ℕ). stored s.memory (s.registers 5 + 0) n (s.registers 7)) made.all
          ∙ ap (λ (a : ℕ). stored s.memory a (bytes w) (s.registers 7)) (none_more (s.registers 5));
    })
  where
    none_more : (a : ℕ) → a + 0 ≡ a
    none_more a = omega arith
