-- The two small controls: quiet steps that are passed over, and quiet steps that are a chain.
use Rattle.std.proofs.Common.{◌≡◌, ◌⊎◌, ℕ, ◌<◌, inl, inr, refl, ap, arith}
use Rattle.std.specs.Prelude.{Bool, true, false}
use Rattle.cmm_program.specs.Acts.{evaluated}
use Rattle.cmm_program.specs.Control.{Control}
use Rattle.cmm_program.specs.State.{Setting, Store}
use Rattle.cmm_program.specs.Todo.{todo_control}
use Rattle.cmm_program.specs.Writes.{reads_of}
use Rattle.cmm_simulation.specs.Ticking.{ticks_left}
use Rattle.cmm_rewriting.specs.Examples.{EntriesFollow, TicksArePassedOver, entering, ticked}
use Rattle.cmm_rewriting.specs.Places.{AreRewritten, BothGo, BothStay, GoesAlone}
use Rattle.cmm_rewriting.proofs.Following.{rewritten_follows}
use Rattle.cmm_rewriting.proofs.Simulating.{rewritten_simulates}
use Rattle.cmm_rewriting.proofs.Stepping.{entry_few}

module _ {C : Type 0} (m : Control C) (s : Setting) where
  -- ---- before each step

  -- both places are at the same step
  abbrev AtSame : Store → C × Bool → C → Type 0
  AtSame store u d = d ≡ u.0

  abbrev WaitsSame : C × Bool → C → Type 0
  WaitsSame u d = d ≡ u.0

  abbrev left : C × Bool → ℕ
  left u = ticks_left u.1

  tick_steps : (store : Store) (c : C) (ready : Bool) (d : C) → d ≡ c →
      BothGo (ticked m) m s AtSame WaitsSame left (λ u. 1) (λ d. 1) 0 store (c, ready) d
      ⊎ (BothStay (ticked m) m s AtSame WaitsSame left (λ u. 1) (λ d. 1) 0 store (c, ready) d ⊎ GoesAlone (ticked m) m s AtSame WaitsSame left (λ u. 1) (λ d. 1) 0 store (c, ready) d)
  tick_steps store c true d is =
      inl record {
        cheap = λ t at. let none = entry_few 0 t in omega (arith, none);
        asks = ap (λ e. evaluated (reads_of s store) (m.act e)) is;
        rests = λ t at rests. is;
        on = λ way after at. ap (m.on way) is;
      }
  tick_steps store c false d is = inr (inr record { way = 0; stays = refl; there = is; nearer = omega arith })

  left_few : (ready : Bool) → ticks_left ready < 2
  left_few true = omega arith
  left_few false = omega arith

  ticks : AreRewritten (ticked m) m s AtSame WaitsSame left (λ u. 1) (λ d. 1) 0 (λ store u. Unit {0}) 2
  ticks = record {
    positive = omega arith;
    few = λ u. left_few u.1;
    steps = λ store u d known is. tick_steps store u.0 u.1 d is;
    later = λ u d is. ap (m.later) is;
    back = λ store u d is. ap (m.back) is;
    resume = λ store n u d is. ap (m.resume n) is;
    begin = λ store n q at. (0, refl);
  }

  -- ---- where an activation begins

  abbrev AtReady : Store → C → C × Bool → Type 0
  AtReady store c u = u ≡ (c, true)

  abbrev WaitsReady : C → C × Bool → Type 0
  WaitsReady c u = u ≡ (c, true)

  entries : AreRewritten m (entering m) s AtReady WaitsReady (λ c. 0) (λ c. 2) (λ u. 1) 1 (λ store c. Unit {0}) 1
  entries = record {
    positive = omega arith;
    few = λ c. omega arith;
    steps = λ store c u known is. inl record {
      cheap = λ t at. let few = entry_few 1 t in omega (arith, few);
      asks = ap (λ (v : C × Bool). evaluated (reads_of s store) ((entering m).act v)) is;
      rests = λ t at rests. is;
      on = λ way after at. ap ((entering m).on way) is;
    };
    later = λ c u is. ap ((entering m).later) is;
    back = λ store c u is. ap ((entering m).back) is;
    resume = λ store n c u is. ap ((entering m).resume n) is;
    begin = λ store n q at. (1, record { way = 0; stays = refl; quiet = refl; left = 0; within = omega arith; on = refl });
  }

pub ticks_are_passed_over : TicksArePassedOver
ticks_are_passed_over s =
    rewritten_simulates (ticks (todo_control s.program) s) record {
      runs = λ store u us d ds running extra few le. omega (arith, few);
      alone = λ store d ds way running stays few. absurd (omega (arith, few));
      waits = λ x y values is status. omega arith;
      rests = λ x y is none. omega arith;
    } record { next = λ st is. tt; known = λ store u us running holds. tt }

pub entries_follow : EntriesFollow
entries_follow s input =
    rewritten_follows (entries (todo_control s.program) s) {a = λ x. 2} {b = λ y. 1} record {
      runs = λ store c cs u us running extra few le. omega (arith, few);
      alone = λ store u us way running stays few. omega arith;
      waits = λ x y values is status. omega arith;
      rests = λ x y is none. omega arith;
    } {H = λ st. Unit {0}} record { next = λ st is. tt; known = λ store c cs running holds. tt } input tt
