-- Operands are where they are, and results are made where they are to be.
use Rattle.std.proofs.Common.{◌≡◌, ◌≢◌, ◌⊎◌, inl, inr, ℕ, ◌+◌, ◌<◌, ◌≤◌, refl, sym, ◌∙◌, ap, subst, arith, true, false, Option, Some, None, List}
use Rattle.std.specs.Prelude.{◌==◌, ◌||◌, Bool, IsTrue}
use Rattle.std.proofs.lemmas.Bool.Decides.{nat_tests}
use Rattle.std.proofs.lemmas.Bool.{eqb-true, or_parts}
use Rattle.std.proofs.lemmas.Option.{same_Some}
use Rattle.cmm_abi.specs.Registers.{is_scratch}
use Rattle.cmm_words.specs.Widths.{IsWord}
use Rattle.cmm_words.specs.declared.width.Width.{Width}
use Rattle.cmm_chain.proofs.Shared.{callee_saves_is_apart, callee_saves_is_kept, callee_saves_is_written, temporary_is_kept, temporary_is_written}
use Rattle.cmm_chain.specs.declared.frame.Location.TheVariants.{Slot, Saved, Temp}
use Rattle.rv_asm.proofs.Shared.{reaches_then, reaches_weaker}
use Rattle.rv_asm.specs.Appending.{Then}
use Rattle.rv_asm.specs.Parts.{Code}
use Rattle.rv_asm.specs.declared.part.Meaning.{Meaning}
use Rattle.rv_table.specs.Bounds.{IsSound}
use Rattle.rv_table.specs.Machine.{MemoryMap, State}
use Rattle.cmm_effects.proofs.Shared.{keeps_then, leads_then, leads_weaker, reaches_more, reaches_sound, runs_none, runs_of, runs_then, runs_weaker}
use Rattle.cmm_effects.specs.Changes.{Keeps, Sets}
use Rattle.cmm_effects.specs.Pieces.{BeginsQuietly, Leads}
use Rattle.cmm_effects.specs.Ways.{Turns}
use Rattle.cmm_select.proofs.Keeping.{operand_as_before, put_after, still_brought, still_put}
use Rattle.cmm_select.specs.Destinations.{CanPut, IsDestination, PutsFrom, PutsTo}
use Rattle.cmm_select.specs.Operands.{AreWords, Brings, BringsOperand, CanBringBoth, CanBringOperand, IsOperand, most_for, operand_at}
use Rattle.cmm_select.specs.declared.destination.Destination.{Destination}
use Rattle.cmm_select.specs.declared.destination.Destination.TheVariants as destination
use Rattle.cmm_select.specs.declared.operand.Operand.{Operand}
use Rattle.cmm_select.specs.declared.operand.Operand.TheVariants.{Held, Symbol}
use Rattle.cmm_select.specs.declared.source.Source.TheVariants.{Place, Number, Address}
use Rattle.cmm_select.specs.inside.InPlace.{AreIn, Finishes, HaveWordsIn, IsHome, IsTarget, KeepsBeside, Locates, LocatesBoth, LocatesOperand, Makes, Passes, home_of, target_of}

-- ---- one piece after another, of which the first may be empty

after_empty : (x : Code) {from mid : ℕ} → (from ≡ mid) ⊎ BeginsQuietly x from → BeginsQuietly x mid → BeginsQuietly x from
after_empty x (inl same) quiet = subst (λ (n : ℕ). BeginsQuietly x n) (sym same) quiet
after_empty x (inr first) quiet = first

module _ {x : Code} {from mid to : ℕ} {P R : MemoryMap → State → Type 0} {Q S : State → State → Type 0} {a c : ℕ} where
  pub passes_leads : Passes a P Q x from mid → Leads c R S x mid to → ((s t : State) → IsSound s → IsSound t → P x.map s → Q s t → R x.map t) →
      Leads (a + c) P (λ s u. (t : State) × Q s t × S t u) x from to
  passes_leads first second meets = record {
    quiet = after_empty x first.begins second.quiet;
    runs = runs_weaker {l = 0 + 1} {k = 1} (runs_then {l = 0} first.runs second.runs meets) (omega arith) (omega arith) (λ s sound p. p) (λ s u sound p both. both);
  }

  pub passes_then : Passes a P Q x from mid → Passes c R S x mid to → ((s t : State) → IsSound s → IsSound t → P x.map s → Q s t → R x.map t) →
      Passes (a + c) P (λ s u. (t : State) × Q s t × S t u) x from to
  passes_then first second meets = record {
    begins = by first.begins second.begins;
    runs = runs_weaker {l = 0 + 0} {k = 0} (runs_then {l = 0} first.runs second.runs meets) (omega arith) (omega arith) (λ s sound p. p) (λ s u sound p both. both);
  }
    where
      by : (from ≡ mid) ⊎ BeginsQuietly x from → (mid ≡ to) ⊎ BeginsQuietly x mid → (from ≡ to) ⊎ BeginsQuietly x from
      by (inl same) (inl also) = inl (same ∙ also)
      by (inl same) (inr quiet) = inr (subst (λ (n : ℕ). BeginsQuietly x n) (sym same) quiet)
      by (inr quiet) second = inr quiet

-- a piece, and then one that goes some way
pub passes_turns : {x : Code} {from mid a b : ℕ} {P R : MemoryMap → State → Type 0} {Q S : State → State → Type 0} {there : State → ℕ} → Passes a P Q x from mid →
    Turns b R there S x mid → ((s t : State) → IsSound s → IsSound t → P x.map s → Q s t → R x.map t) → (far : State → ℕ) →
    ((s t : State) → P x.map s → Q s t → there t ≡ far s) → Turns (a + b) P far (λ s u. (t : State) × Q s t × S t u) x from
passes_turns {x = x} first second meets far same = record {
  quiet = after_empty x first.begins second.quiet;
  goes = record {
    go = λ s sound at p.
        reaches_weaker
        (reaches_then (reaches_sound (first.runs.go s sound at p) sound)
        (λ t there. reaches_more (second.goes.go t there.1 there.0.0 (meets s t sound there.1 p there.0.1))
        (λ u arrived. (arrived.0 ∙ same s t p there.0.1, (t, there.0.1, arrived.1)))))
        (omega arith) (omega arith) (λ u arrived. arrived);
  };
}

pub passes_weaker : {x : Code} {from to : ℕ} {P R : MemoryMap → State → Type 0} {Q S : State → State → Type 0} {a b : ℕ} → Passes a P Q x from to → a ≤ b →
    ((s : State) → IsSound s → R x.map s → P x.map s) → ((s t : State) → IsSound s → R x.map s → Q s t → S s t) → Passes b R S x from to
passes_weaker first most less more = record { begins = first.begins; runs = runs_weaker {l = 0} {k = 0} first.runs (omega arith) most less more }

pub passes_of : {x : Code} {from to : ℕ} {P : MemoryMap → State → Type 0} {Q : State → State → Type 0} {a : ℕ} → Leads a P Q x from to → Passes a P Q x from to
passes_of leads = record { begins = inr leads.quiet; runs = runs_of leads }

-- ---- operands that are in registers

-- it is in it
pub home_has : (at : ℕ → ℕ) (a : Operand) (r : ℕ) (s : State) → s.registers 0 ≡ 0 → home_of a ≡ Some r → s.registers r ≡ operand_at at a s
home_has at (Held (Place (Slot o))) r s none is = absurd (cc (is))
home_has at (Held (Place (Saved k))) r s none is = ap (λ n. s.registers n) (sym (same_Some k r is))
home_has at (Held (Place (Temp k))) r s none is = ap (λ n. s.registers n) (sym (same_Some k r is))
home_has at (Held (Number n)) r s none is = by (n == 0) refl is
  where
    by : (b : Bool) → (n == 0) ≡ b → elim b as (λ _. Option ℕ) [ true ↦ Some 0 | false ↦ None ] ≡ Some r → s.registers r ≡ n
    by true zero_ e = ap (λ k. s.registers k) (sym (same_Some 0 r e)) ∙ (none ∙ sym (eqb-true n 0 zero_))
    by false some e = absurd (cc (e))
home_has at (Held (Address o)) r s none is = absurd (cc (is))
home_has at (Symbol l plus) r s none is = absurd (cc (is))

-- and it is no scratch register
pub home_is : (labels : List Meaning) (a : Operand) (r : ℕ) → IsOperand labels a → home_of a ≡ Some r → (is_scratch r ≡ false) × (r < 32)
home_is labels (Held (Place (Slot o))) r good is = absurd (cc (is))
home_is labels (Held (Place (Saved k))) r good is =
    subst (λ n. (is_scratch n ≡ false) × (n < 32)) (same_Some k r is) (callee_saves_is_kept k good, (callee_saves_is_written k good).1)
home_is labels (Held (Place (Temp k))) r good is =
    subst (λ n. (is_scratch n ≡ false) × (n < 32)) (same_Some k r is) (temporary_is_kept k good, (temporary_is_written k good).1)
home_is labels (Held (Number n)) r good is = by (n == 0) is
  where
    by : (b : Bool) → elim b as (λ _. Option ℕ) [ true ↦ Some 0 | false ↦ None ] ≡ Some r → (is_scratch r ≡ false) × (r < 32)
    by true e = subst (λ n. (is_scratch n ≡ false) × (n < 32)) (same_Some 0 r e) (refl, omega arith)
    by false e = absurd (cc (e))
home_is labels (Held (Address o)) r good is = absurd (cc (is))
home_is labels (Symbol l plus) r good is = absurd (cc (is))

pub located_home : (a : Operand) (spare r : ℕ) (x : Code) (from to : ℕ) → home_of a ≡ Some r → from ≡ to → LocatesOperand a spare r x from to
located_home a spare r x from to is same = record {
  begins = inl same;
  runs = runs_none same (λ s sound p. record { given = home_has x.at a r s sound.zero is; others = λ k h. refl; memory = refl });
}

pub located_brought : (a : Operand) (spare : ℕ) (x : Code) (from to : ℕ) → BringsOperand a spare x from to → LocatesOperand a spare spare x from to
located_brought a spare x from to brings =
    passes_weaker (passes_of brings) (omega arith) (λ s sound p. p) (λ s t sound p q. record { given = q.given; others = q.others; memory = q.memory })

-- so it may be read while register 6 helps
pub home_other : (labels : List Meaning) (a : Operand) (r : ℕ) → IsOperand labels a → home_of a ≡ Some r → r ≢ 6
home_other labels a r good is e =
    let g : is_scratch 6 ≡ false = subst (λ (n : ℕ). is_scratch n ≡ false) e (home_is labels a r good is).0 in absurd (cc)

pub home_small : (spare r : ℕ) → spare < 32 → IsHome spare r → r < 32
home_small spare r small (inl same) = subst (λ n. n < 32) (sym same) small
home_small spare r small (inr home) = home.1

-- ---- two operands

pub locates_keeps : (at : ℕ → ℕ) (a : Operand) (spare r : ℕ) (s t : State) → IsTrue (is_scratch spare) → Locates at a spare r s t → Keeps s t
locates_keeps at a spare r s t scratch located = record {
  registers = λ k is. located.others k (neither k (k == spare) (k == 6) refl refl is);
  memory = located.memory;
}
  where
    neither : (k : ℕ) (one other : Bool) → (k == spare) ≡ one → (k == 6) ≡ other → is_scratch k ≡ false → (one || other) ≡ false
    neither k false false e f is = refl
    neither k false true e f is =
        let same : k ≡ 6 = grind (arith, nat_tests) in
        let g : is_scratch 6 ≡ false = subst (λ (n : ℕ). is_scratch n ≡ false) same is in absurd (cc)
    neither k true other e f is =
        let same : k ≡ spare = grind (arith, nat_tests) in
        let h : IsTrue (is_scratch k) = subst (λ (n : ℕ). IsTrue (is_scratch n)) (sym same) scratch in absurd (cc)

-- what one register has stays while another operand is brought
stays : (at : ℕ → ℕ) (right : Operand) (a b : ℕ) (s t : State) → IsHome 5 a → Locates at right 7 b s t → t.registers a ≡ s.registers a
stays at right a b s t (inl five) located = ap (λ n. t.registers n) five ∙ (located.others 5 refl ∙ ap (λ n. s.registers n) (sym five))
stays at right a b s t (inr home) located = (locates_keeps at right 7 b s t refl located).registers a home.0

pub locates_both : (x : Code) (from to : ℕ) (left right : Operand) (a b : ℕ) (labels : List Meaning) → IsOperand labels right → IsHome 5 a →
    Then (LocatesOperand left 5 a) (LocatesOperand right 7 b) x from to → LocatesBoth left right a b x from to
locates_both x from to left right a b labels good home does =
    passes_weaker
    (passes_then
    (passes_weaker {R = CanBringBoth left right} {S = Locates x.at left 5 a} {b = most_for left} does.1 (omega arith) (λ s sound can. can.brings_left) (λ s t sound can q. q))
    does.2
    (λ s t sound also can q. still_brought right x.map s t (locates_keeps x.at left 5 a s t refl q) can.brings_right))
    (omega arith) (λ s sound can. can)
    (λ s u sound can all. both s all.0 u all.1 all.2)
  where
    both : (s t u : State) → Locates x.at left 5 a s t → Locates x.at right 7 b t u → AreIn x.at left right a b s u
    both s t u one two =
        let before : Keeps s t = locates_keeps x.at left 5 a s t refl one in
        record {
          first = stays x.at right a b t u home two ∙ one.given;
          second = two.given ∙ operand_as_before labels x.at right s t good before;
          keeps = keeps_then s t u before (locates_keeps x.at right 7 b t u refl two);
        }

-- ---- results

pub set_beside : (rd n : ℕ) (s t : State) → Sets rd n s t → KeepsBeside rd s t
set_beside rd n s t sets = record { registers = λ k is. sets.others k (or_parts (k == rd) (is_scratch k) is).0; memory = sets.memory }

pub brings_beside : (rd n : ℕ) (s t : State) → Brings rd n s t → KeepsBeside rd s t
brings_beside rd n s t brings = record { registers = λ k is. brings.others k (by k (k == rd) refl is); memory = brings.memory }
  where
    by : (k : ℕ) (one : Bool) → (k == rd) ≡ one → (one || is_scratch k) ≡ false → (one || (k == 6)) ≡ false
    by k true e is = absurd (cc (is))
    by k false e is = other k (k == 6) refl is
      where
        other : (k : ℕ) (six : Bool) → (k == 6) ≡ six → is_scratch k ≡ false → six ≡ false
        other k false e is = refl
        other k true e is =
            let same : k ≡ 6 = grind (arith, nat_tests) in
            let g : is_scratch 6 ≡ false = subst (λ (n : ℕ). is_scratch n ≡ false) same is in absurd (cc)

pub keeps_beside : (rd : ℕ) (s t : State) → Keeps s t → KeepsBeside rd s t
keeps_beside rd s t keeps = record { registers = λ k is. keeps.registers k (or_parts (k == rd) (is_scratch k) is).1; memory = keeps.memory }

pub beside_then : (rd : ℕ) (s t u : State) → KeepsBeside rd s t → KeepsBeside rd t u → KeepsBeside rd s u
beside_then rd s t u first second = record { registers = λ k is. second.registers k is ∙ first.registers k is; memory = second.memory ∙ first.memory }

-- where the register is a scratch one, nothing else is changed
pub beside_scratch : (rd : ℕ) (s t : State) → IsTrue (is_scratch rd) → KeepsBeside rd s t → Keeps s t
beside_scratch rd s t scratch keeps = record { registers = λ k is. keeps.registers k (either k (k == rd) refl is); memory = keeps.memory }
  where
    either : (k : ℕ) (one : Bool) → (k == rd) ≡ one → is_scratch k ≡ false → (one || is_scratch k) ≡ false
    either k false e is = is
    either k true e is =
        let same : k ≡ rd = grind (arith, nat_tests) in
        let h : IsTrue (is_scratch k) = subst (λ (n : ℕ). IsTrue (is_scratch n)) (sym same) scratch in absurd (cc)

-- a register that a destination has may be written
pub target_is : (labels : List Meaning) (to : Destination) → IsDestination labels to → IsTarget (target_of to)
target_is labels (destination.Place (Slot k)) good = (omega arith, omega arith, λ e. omega (arith, e))
target_is labels (destination.Place (Saved k)) good = (grind (arith, nat_tests, good), (callee_saves_is_written k good).1, callee_saves_is_apart k 6 (omega arith) good)
target_is labels (destination.Place (Temp k)) good = (grind (arith, nat_tests, good), (temporary_is_written k good).1, λ e. grind (arith, nat_tests, good, e))
target_is labels (destination.Register l) good = (omega arith, omega arith, λ e. omega (arith, e))

module _ (x : Code) where
  -- it is there, or it is put there from register 5
  pub finishes_there : (to : Destination) (from end : ℕ) → target_of to ≢ 5 → from ≡ end → Finishes to x from end
  finishes_there (destination.Place (Slot k)) from end other same = absurd (other refl)
  finishes_there (destination.Place (Saved r)) from end other same = runs_none same (λ t sound p s keeps. (refl, keeps.registers, keeps.memory))
  finishes_there (destination.Place (Temp r)) from end other same = runs_none same (λ t sound p s keeps. (refl, keeps.registers, keeps.memory))
  finishes_there (destination.Register l) from end other same = absurd (other refl)

  pub finishes_put : (to : Destination) (from end : ℕ) → target_of to ≡ 5 → PutsFrom 5 to x from end → Finishes to x from end
  finishes_put to from end is puts =
      runs_weaker {k = 0} (runs_of puts) (omega arith) (omega arith) (λ t sound can. can)
      (λ t u sound can put s keeps. subst (λ (n : ℕ). PutsTo x.at to (t.registers n) s u) (sym is)
      (put_after x.at to (t.registers 5) s t u (beside_scratch 5 s t refl (subst (λ (n : ℕ). KeepsBeside n s t) is keeps)) put))

  still_reached : (to : Destination) (s t : State) → KeepsBeside (target_of to) s t → CanPut x.at to x.map s → CanPut x.at to x.map t
  still_reached (destination.Place (Slot k)) s t keeps can = still_put x.at (destination.Place (Slot k)) x.map s t (beside_scratch 5 s t refl keeps) can
  still_reached (destination.Place (Saved r)) s t keeps can = tt
  still_reached (destination.Place (Temp r)) s t keeps can = tt
  still_reached (destination.Register l) s t keeps can = still_put x.at (destination.Register l) x.map s t (beside_scratch 5 s t refl keeps) can

  -- a number is made in a destination's register, and then it is there
  pub then_finished : (Is : State → ℕ → Type 0) {P : MemoryMap → State → Type 0} {n from mid end : ℕ} (to : Destination) →
      Leads n P (λ s t. Makes (target_of to) (Is s) s t) x from mid → Finishes to x mid end →
      Leads (n + 4) (λ m s. P m s × CanPut x.at to m s) (λ s u. (k : ℕ) × Is s k × PutsTo x.at to k s u) x from end
  then_finished Is {P = P} {n = n} to made finishes =
      leads_weaker
      (leads_then
      (leads_weaker {R = λ m s. P m s × CanPut x.at to m s} {S = λ s t. Makes (target_of to) (Is s) s t} {b = n} made (omega arith) (λ s sound p. p.0) (λ s t sound p q. q))
      finishes
      (λ s t sound also p makes. still_reached to s t makes.keeps p.1))
      (omega arith) (λ s sound p. p)
      (λ s u sound p both. (both.0.registers (target_of to), both.1.given, both.2 s both.1.keeps))

  -- a number is made of two operands
  pub both_make : (Is : ℕ → ℕ → ℕ → Type 0) {n from mid end rd a b : ℕ} (w : Width) (left right : Operand) → LocatesBoth left right a b x from mid →
      Leads n (HaveWordsIn w a b) (λ s t. Makes rd (Is (s.registers a) (s.registers b)) s t) x mid end →
      Leads (most_for left + most_for right + n) (λ m s. CanBringBoth left right m s × AreWords x.at w left right s)
      (λ s t. Makes rd (Is (operand_at x.at left s) (operand_at x.at right s)) s t) x from end
  both_make Is {rd = rd} {a = a} {b = b} w left right first second =
      leads_weaker
      (passes_leads
      (passes_weaker {R = λ m s. CanBringBoth left right m s × AreWords x.at w left right s} {S = AreIn x.at left right a b} {b = most_for left + most_for right} first (omega arith)
      (λ s sound p. p.0) (λ s t sound p q. q))
      second
      (λ s t sound also p are. (subst (λ (k : ℕ). IsWord w k) (sym are.first) p.1.0, subst (λ (k : ℕ). IsWord w k) (sym are.second) p.1.1)))
      (omega arith) (λ s sound p. p)
      (λ s u sound p both. record {
        given = subst (λ (k : ℕ). Is k (operand_at x.at right s) (u.registers rd)) both.1.first
            (subst (λ (k : ℕ). Is (both.0.registers a) k (u.registers rd)) both.1.second both.2.given);
        keeps = beside_then rd s both.0 u (keeps_beside rd s both.0 both.1.keeps) both.2.keeps;
      })

  -- a number is made of one operand and memory
  pub one_makes : (Is : (ℕ → ℕ) → ℕ → ℕ → Type 0) (Fits : MemoryMap → ℕ → Type 0) {n from mid end rd r : ℕ} (a : Operand) → LocatesOperand a 5 r x from mid →
      Leads n (λ m s. Fits m (s.registers r)) (λ s t. Makes rd (Is s.memory (s.registers r)) s t) x mid end →
      Leads (most_for a + n) (λ m s. CanBringOperand a m s × Fits m (operand_at x.at a s)) (λ s t. Makes rd (Is s.memory (operand_at x.at a s)) s t) x from end
  one_makes Is Fits {rd = rd} {r = r} a first second =
      leads_weaker
      (passes_leads
      (passes_weaker {R = λ m s. CanBringOperand a m s × Fits m (operand_at x.at a s)} {S = Locates x.at a 5 r} {b = most_for a} first (omega arith) (λ s sound p. p.0) (λ s t sound p q. q))
      second
      (λ s t sound also p located. subst (λ (k : ℕ). Fits x.map k) (sym located.given) p.1))
      (omega arith) (λ s sound p. p)
      (λ s u sound p both. record {
        given = subst (λ (m : ℕ → ℕ). Is m (operand_at x.at a s) (u.registers rd)) both.1.memory
            (subst (λ (k : ℕ). Is both.0.memory k (u.registers rd)) both.1.given both.2.given);
        keeps = beside_then rd s both.0 u (keeps_beside rd s both.0 (locates_keeps x.at a 5 r s both.0 refl both.1)) both.2.keeps;
      })

  -- in the register of a destination, and then it is there
  pub one_finished : (Is : (ℕ → ℕ) → ℕ → ℕ → Type 0) (Fits : MemoryMap → ℕ → Type 0) {n from mid more end rd r : ℕ} (a : Operand) (to : Destination) → rd ≡ target_of to →
      LocatesOperand a 5 r x from mid → Leads n (λ m s. Fits m (s.registers r)) (λ s t. Makes rd (Is s.memory (s.registers r)) s t) x mid more → Finishes to x more end →
      Leads (most_for a + n + 4) (λ m s. (CanBringOperand a m s × Fits m (operand_at x.at a s)) × CanPut x.at to m s)
      (λ s u. (k : ℕ) × Is s.memory (operand_at x.at a s) k × PutsTo x.at to k s u) x from end
  one_finished Is Fits {n = n} {mid = mid} {more = more} {rd = rd} {r = r} a to is first second third =
      then_finished (λ s. Is s.memory (operand_at x.at a s)) to
      (one_makes Is Fits a first
      (subst (λ (k : ℕ). Leads n (λ m s. Fits m (s.registers r)) (λ s t. Makes k (Is s.memory (s.registers r)) s t) x mid more) is second))
      third

  -- a number is made of two operands in the register of a destination, and then it is there
  pub both_finished : (Is : ℕ → ℕ → ℕ → Type 0) {n rd from mid more end a b : ℕ} (w : Width) (left right : Operand) (to : Destination) → rd ≡ target_of to →
      LocatesBoth left right a b x from mid → Leads n (HaveWordsIn w a b) (λ s t. Makes rd (Is (s.registers a) (s.registers b)) s t) x mid more →
      Finishes to x more end →
      Leads (most_for left + most_for right + n + 4) (λ m s. (CanBringBoth left right m s × AreWords x.at w left right s) × CanPut x.at to m s)
      (λ s u. (k : ℕ) × Is (operand_at x.at left s) (operand_at x.at right s) k × PutsTo x.at to k s u) x from end
  both_finished Is {n = n} {rd = rd} {mid = mid} {more = more} {a = a} {b = b} w left right to is first second third =
      then_finished (λ s. Is (operand_at x.at left s) (operand_at x.at right s)) to
      (both_make Is w left right first
      (subst (λ (r : ℕ). Leads n (HaveWordsIn w a b) (λ s t. Makes r (Is (s.registers a) (s.registers b)) s t) x mid more) is second))
      third
