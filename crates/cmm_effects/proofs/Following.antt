-- Pieces: of one instruction, and one after another.
use Rattle.std.proofs.Common.{◌≡◌, ◌≢◌, ℕ, ◌+◌, ◌*◌, ◌≤◌, refl, sym, ◌∙◌, ap, subst, arith, List, [], ◌∷◌, ◌++◌}
use Rattle.std.specs.Prelude.{◌==◌, Bool, true, false, IsTrue}
use Rattle.std.proofs.lemmas.Bool.Decides.{nat_tests}
use Rattle.rv_asm.proofs.Shared.{appends_none, appends_one, appends_then, appends_weaker, longest-append, reaches_then, reaches_weaker, single_does}
use Rattle.rv_asm.specs.Appending.{Then}
use Rattle.rv_asm.specs.Parts.{Code, Does, Gives}
use Rattle.rv_asm.specs.Reaching.{Reaches}
use Rattle.rv_asm.specs.Sizes.{longest}
use Rattle.rv_asm.specs.declared.part.Part.{Part}
use Rattle.rv_asm.specs.declared.part.Part.TheVariants.{Single}
use Rattle.rv_table.proofs.Shared.{sound_steps}
use Rattle.rv_table.specs.Bounds.{IsSound}
use Rattle.rv_table.specs.Machine.{MemoryMap, State, Asks, done, extended, is_accessible, loaded}
use Rattle.rv_table.specs.Row.{row}
use Rattle.rv_table.specs.declared.effects.Effect.{Effect}
use Rattle.rv_table.specs.declared.effects.Effect.TheVariants.{Set, Load, Store}
use Rattle.rv_table.specs.declared.instruction.Instr.{Instr}
use Rattle.rv_table.specs.declared.request.Request.{Request}
use Rattle.cmm_effects.specs.Changes.{Sets, Writes}
use Rattle.cmm_effects.specs.Laws.{SetsFollow}
use Rattle.cmm_effects.specs.Pieces.{Adds, Always, BeginsQuietly, Leads, Runs}

-- ---- runs

-- more is known where a run arrives
pub reaches_more : {m : MemoryMap} {a b : ℕ} {s : State} {Q R : State → Type 0} → Reaches m a b s Q → ((t : State) → Q t → R t) → Reaches m a b s R
reaches_more first more = record {
  count = first.count;
  to = first.to;
  enough = first.enough;
  few = first.few;
  runs = first.runs;
  arrives = more first.to first.arrives;
}

-- a run from a sound state arrives in one
pub reaches_sound : {m : MemoryMap} {a b : ℕ} {s : State} {Q : State → Type 0} → Reaches m a b s Q → IsSound s → Reaches m a b s (λ t. Q t × IsSound t)
reaches_sound {m = m} {s = s} first sound = record {
  count = first.count;
  to = first.to;
  enough = first.enough;
  few = first.few;
  runs = first.runs;
  arrives = (first.arrives, sound_steps m first.count s first.to sound first.runs);
}

-- ---- one piece after another

module _ {x : Code} {from mid to : ℕ} {P R : MemoryMap → State → Type 0} {Q S : State → State → Type 0} {a b c : ℕ} where
  pub runs_then : {l : ℕ} → Runs l a P Q x from mid → Runs b c R S x mid to →
      ((s t : State) → IsSound s → IsSound t → P x.map s → Q s t → R x.map t) → Runs (l + b) (a + c) P (λ s u. (t : State) × Q s t × S t u) x from to
  runs_then first second meets = record {
    go = λ s sound at p.
        reaches_then (reaches_sound (first.go s sound at p) sound)
        (λ t there. reaches_more (second.go t there.1 there.0.0 (meets s t sound there.1 p there.0.1)) (λ u arrived. (arrived.0, (t, there.0.1, arrived.1))));
  }

  pub leads_then : Leads a P Q x from mid → Runs b c R S x mid to →
      ((s t : State) → IsSound s → IsSound t → P x.map s → Q s t → R x.map t) → Leads (a + c) P (λ s u. (t : State) × Q s t × S t u) x from to
  leads_then first second meets =
      let both = runs_then {l = 1} first.runs second meets in
      record {
        quiet = first.quiet;
        runs = record { go = λ s sound at p. reaches_weaker (both.go s sound at p) (omega arith) (omega arith) (λ u arrived. arrived) };
      }

module _ {x : Code} {from to : ℕ} {P R : MemoryMap → State → Type 0} {Q S : State → State → Type 0} {a b : ℕ} where
  pub runs_weaker : {l k : ℕ} → Runs l a P Q x from to → k ≤ l → a ≤ b → ((s : State) → IsSound s → R x.map s → P x.map s) →
      ((s t : State) → IsSound s → R x.map s → Q s t → S s t) → Runs k b R S x from to
  runs_weaker first few most less more = record {
    go = λ s sound at r. reaches_weaker (first.go s sound at (less s sound r)) few most (λ t arrived. (arrived.0, more s t sound r arrived.1));
  }

  pub leads_weaker : Leads a P Q x from to → a ≤ b → ((s : State) → IsSound s → R x.map s → P x.map s) →
      ((s t : State) → IsSound s → R x.map s → Q s t → S s t) → Leads b R S x from to
  leads_weaker first most less more = record { quiet = first.quiet; runs = runs_weaker {l = 1} {k = 1} first.runs (omega arith) most less more }

module _ {x : Code} {from to : ℕ} {P : MemoryMap → State → Type 0} {Q : State → State → Type 0} {a : ℕ} where
  pub runs_of : Leads a P Q x from to → Runs 0 a P Q x from to
  runs_of first = record {
    go = λ s sound at p. reaches_weaker (first.runs.go s sound at p) (omega arith) (omega arith) (λ t arrived. arrived);
  }

module _ {x : Code} {from to : ℕ} {P : MemoryMap → State → Type 0} {Q : State → State → Type 0} {most : ℕ} where
  -- no instruction at all
  pub runs_none : from ≡ to → ((s : State) → IsSound s → P x.map s → Q s s) → Runs 0 most P Q x from to
  runs_none is holds = record {
    go = λ s sound at p. record {
      count = 0;
      to = s;
      enough = omega arith;
      few = omega arith;
      runs = refl;
      arrives = (at ∙ is, holds s sound p);
    };
  }

-- ---- pieces that are added

module _ {old new : List Part} {P : Code → ℕ → ℕ → Type 0} {a b : ℕ} where
  pub adds_then : {mid : List Part} {Q : Code → ℕ → ℕ → Type 0} → Adds a old mid P → Adds b mid new Q → Adds (a + b) old new (Then P Q)
  adds_then first second = record { appends = appends_then first.appends second.appends; few = omega (arith, first.few, second.few) }

  pub adds_weaker : {Q : Code → ℕ → ℕ → Type 0} → Adds a old new P → a ≤ b → ((x : Code) (from to : ℕ) → P x from to → Q x from to) → Adds b old new Q
  adds_weaker first most more = record { appends = appends_weaker first.appends more; few = omega (arith, first.few, most) }

pub adds_part : (old : List Part) (p : Part) (most : ℕ) → longest p ≤ 4 * most → Adds most old (old ++ p ∷ []) (λ x from to. Does x p from to)
adds_part old p most few = record { appends = appends_one old p; few = rw (longest-append old (p ∷ [])) (omega (arith, few)) }

pub adds_one : (old : List Part) (i : Instr) → Adds 1 old (old ++ Single i ∷ []) (λ x from to. Does x (Single i) from to)
adds_one old i = adds_part old (Single i) 1 (omega arith)

pub adds_none : (old : List Part) → Adds 0 old old (λ x from to. from ≡ to)
adds_none old = record { appends = appends_none old; few = omega arith }

-- ---- one instruction

-- an instruction whose effect is not to ask
pub quiet_by : (x : Code) (i : Instr) (from to : ℕ) → Does x (Single i) from to →
    ((s : State) (r : Request) → s.pc ≡ from → done x.map s (row s.registers from i) ≡ Asks r → ⊥) → BeginsQuietly x from
quiet_by x i from to does never s r at asks = absurd (never s r at (sym (does.1 s at) ∙ asks))

never_after_set : (m : MemoryMap) (s : State) (e : Effect) (rd value : ℕ) (r : Request) → e ≡ Set rd value → done m s e ≡ Asks r → ⊥
never_after_set m s e rd value r is asks =
    let h : done m s (Set rd value) ≡ Asks r = subst (λ (f : Effect). done m s f ≡ Asks r) is asks in
    absurd (cc)

never_after_load : (m : MemoryMap) (s : State) (e : Effect) (rd address size : ℕ) (signed : Bool) (r : Request) → e ≡ Load rd address size signed →
    done m s e ≡ Asks r → ⊥
never_after_load m s e rd address size signed r is asks =
    by (is_accessible m address size) refl (subst (λ (f : Effect). done m s f ≡ Asks r) is asks)
  where
    by : (test : Bool) → is_accessible m address size ≡ test → done m s (Load rd address size signed) ≡ Asks r → ⊥
    by true e h = let g = rw (e, done) at h in absurd (cc)
    by false e h = let g = rw (e, done) at h in absurd (cc)

never_after_store : (m : MemoryMap) (s : State) (e : Effect) (address size value : ℕ) (r : Request) → e ≡ Store address size value →
    done m s e ≡ Asks r → ⊥
never_after_store m s e address size value r is asks =
    by (is_accessible m address size) refl (subst (λ (f : Effect). done m s f ≡ Asks r) is asks)
  where
    by : (test : Bool) → is_accessible m address size ≡ test → done m s (Store address size value) ≡ Asks r → ⊥
    by true e h = let g = rw (e, done) at h in absurd (cc)
    by false e h = let g = rw (e, done) at h in absurd (cc)

differs : (r rd : ℕ) → (r == rd) ≡ false → r ≢ rd
differs r rd h = grind (arith, nat_tests)

pub gives_sets : (rd n to : ℕ) (s t : State) → Gives rd n to s t → (t.pc ≡ to) × Sets rd n s t
gives_sets rd n to s t gives = (
  gives.pc,
  record {
    given = gives.given;
    others = λ r h. gives.registers r (differs r rd h);
    memory = gives.memory;
  },
)

-- a register is set to what the registers give
pub leads_set : (x : Code) (i : Instr) (from to rd : ℕ) (value : (ℕ → ℕ) → ℕ) → rd ≢ 0 → ((r : ℕ → ℕ) (pc : ℕ) → row r pc i ≡ Set rd (value r)) →
    Does x (Single i) from to → Leads 1 Always (λ s t. Sets rd (value s.registers) s t) x from to
leads_set x i from to rd value written is does = record {
  quiet = quiet_by x i from to does (λ s r at. never_after_set x.map s (row s.registers from i) rd (value s.registers) r (is s.registers from));
  runs = record {
    go = λ s sound at p.
        reaches_more ((single_does x i from to s does at).set rd (value s.registers) written (is s.registers from))
        (λ t gives. gives_sets rd (value s.registers) to s t gives);
  };
}

-- a register is loaded
pub leads_load : (x : Code) (i : Instr) (from to rd size : ℕ) (signed : Bool) (address : (ℕ → ℕ) → ℕ) → rd ≢ 0 →
    ((r : ℕ → ℕ) (pc : ℕ) → row r pc i ≡ Load rd (address r) size signed) → Does x (Single i) from to →
    Leads 1 (λ m s. IsTrue (is_accessible m (address s.registers) size)) (λ s t. Sets rd (extended signed size (loaded s.memory (address s.registers) size)) s t) x from to
leads_load x i from to rd size signed address written is does = record {
  quiet = quiet_by x i from to does (λ s r at. never_after_load x.map s (row s.registers from i) rd (address s.registers) size signed r (is s.registers from));
  runs = record {
    go = λ s sound at p.
        reaches_more ((single_does x i from to s does at).load rd (address s.registers) size signed written (is s.registers from) p)
        (λ t gives. gives_sets rd (extended signed size (loaded s.memory (address s.registers) size)) to s t gives);
  };
}

-- a number is stored
pub leads_store : (x : Code) (i : Instr) (from to size : ℕ) (address value : (ℕ → ℕ) → ℕ) →
    ((r : ℕ → ℕ) (pc : ℕ) → row r pc i ≡ Store (address r) size (value r)) → Does x (Single i) from to →
    Leads 1 (λ m s. IsTrue (is_accessible m (address s.registers) size)) (λ s t. Writes (address s.registers) size (value s.registers) s t) x from to
leads_store x i from to size address value is does = record {
  quiet = quiet_by x i from to does (λ s r at. never_after_store x.map s (row s.registers from i) (address s.registers) size (value s.registers) r (is s.registers from));
  runs = record {
    go = λ s sound at p.
        reaches_more ((single_does x i from to s does at).store (address s.registers) size (value s.registers) (is s.registers from) p)
        (λ t wrote. (wrote.pc, record { registers = λ r h. ap (λ (y : ℕ → ℕ). y r) wrote.registers; memory = wrote.memory }));
  };
}

pub sets_follow : SetsFollow
sets_follow x from mid to a b u v first second = leads_then first (runs_of second) (λ s t sound also p q. tt)
