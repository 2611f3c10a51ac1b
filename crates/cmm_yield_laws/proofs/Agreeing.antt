-- The image agrees with a machine that the located machine follows, with its yields and its client.
use Rattle.std.proofs.Common.{◌≡◌, inl, ℕ, zero, suc, ◌+◌, ◌-◌, ◌*◌, ◌≤◌, ◌<◌, ◌++◌, false, List, Option, Some, None, refl, sym, ◌∙◌, ap, subst, arith}
use Rattle.std.specs.List.{All}
use Rattle.std.proofs.lemmas.Bool.{or_from, or_parts}
use Rattle.cmm_simulation.proofs.Agreements.{agrees_later, agrees_once_begun}
use Rattle.cmm_simulation.proofs.Composing.{lazily_trans}
use Rattle.cmm_simulation.proofs.Followings.{follows_of_simulates}
use Rattle.cmm_simulation.proofs.Paths.{joined, weaker}
use Rattle.cmm_simulation.proofs.Prefixes.{within_trans}
use Rattle.cmm_simulation.proofs.Runs.{right_at_start}
use Rattle.cmm_simulation.proofs.Scaling.{follows_scaled}
use Rattle.cmm_simulation.proofs.Simulations.{each_leads}
use Rattle.cmm_simulation.specs.Agreement.{Agrees}
use Rattle.cmm_simulation.specs.Following.{Follows}
use Rattle.cmm_simulation.specs.Machine.{Machine, Lasts, after}
use Rattle.cmm_simulation.specs.Observing.{Level, Passes, Precedes}
use Rattle.cmm_simulation.specs.Seen.{Seen, Event, Client, IsPrefix, IsWithin, but_input}
use Rattle.cmm_simulation.specs.Simulation.{Leads}
use Rattle.cmm_script.specs.Lines.{yield_line}
use Rattle.cmm_script.specs.Walk.{Activation}
use Rattle.cmm_program.specs.Machine.{start as start_of}
use Rattle.cmm_program.specs.State.{Setting}
use Rattle.cmm_program.specs.Todo.{todo_control}
use Rattle.cmm_machine_laws.proofs.Shared.{starts_right}
use Rattle.cmm_machine_laws.specs.Fitting.{StatesAreSound}
use Rattle.cmm_program.specs.Memory.{IsByte}
use Rattle.cmm_machine_laws.specs.Observed.{Call, Ending, LineUnseen, MachineLasts, machine_of}
use Rattle.cmm_select.specs.Laws.{SwitchesLead}
use Rattle.cmm_image_machine.specs.Laws.{ImagesLast}
use Rattle.cmm_image_machine.specs.Machine.{Launch, Run, first_memory, first_run}
use Rattle.cmm_image_machine.specs.Observed.{image_machine}
use Rattle.cmm_located.specs.Compiled.{Compiled, Located}
use Rattle.cmm_located.specs.LocatedMachine.{located_machine, located_start, located_step, tokens_at}
use Rattle.cmm_emit_laws.proofs.Shared.{first_asks, first_shows, nothing, nothing_within, shown_at_start}
use Rattle.cmm_emit_laws.specs.Finished.{Finished}
use Rattle.cmm_emit_laws.specs.Laws.{IsRepresentedIn, most_for_step}
use Rattle.cmm_emit_laws.specs.Starting.{StartCode}
use Rattle.cmm_client_laws.proofs.Shared.{lines_come_soon}
use Rattle.cmm_client_laws.specs.Fits.{event_fits}
use Rattle.cmm_yield_laws.proofs.Simulating.{images_simulate_yields}
use Rattle.cmm_yield_laws.proofs.Composing.{fits_follow}
use Rattle.cmm_yield_laws.specs.Laws.{ImagesAgreeWithClients, IsRepresentedWhole, LinesAreThere, fitting_machine}
use Rattle.cmm_simulation.specs.Tested.{fails}
use Rattle.cmm_yield_laws.specs.WholeCode.{IsWholeCode}

module _ (lead : SwitchesLead) (line : LineUnseen) (images : ImagesLast) (s : Setting) (c : Compiled) (l : Launch) (f : Finished) (whole : IsWholeCode s c l f) (input : List ℕ) (is_bytes : All IsByte input)
    (begins : StartCode s c l f) where
  abbrev start : Located
  start = located_start s c input

  -- ---- the start

  starts : (u : Run) → IsRepresentedIn s c l f (first_memory l.image) (located_start s c input) u → IsRepresentedWhole s c l f (first_memory l.image) (located_start s c input) u
  starts u shown = record {
    outside = shown.outside;
    right = or_from ((located_machine s c).wrong (located_start s c input)) (fails event_fits ((located_machine s c).asks (located_start s c input))) shown.right
        (ap (λ (o : Option (Event Call Ending)). fails event_fits o) (first_asks s c l f whole.code.around input is_bytes begins));
    holds = shown.holds;
    running = λ going. inl (shown.running going);
    over = shown.over;
  }

  passed : (u : Run) → Passes (located_machine s c) (image_machine l) (located_start s c input) u → Passes (fitting_machine s c) (image_machine l) (located_start s c input) u
  passed u p = record {
    seen = p.seen;
    asks = p.asks;
    right = λ fine. p.right (or_parts ((located_machine s c).wrong (located_step s c (located_start s c input)))
        (fails event_fits ((located_machine s c).asks (located_step s c (located_start s c input)))) fine).0;
  }

  pub whole_begins : Leads (image_machine l) (λ run. 1) (Passes (fitting_machine s c) (image_machine l) (located_start s c input))
      (IsRepresentedWhole s c l f (first_memory l.image) (located_start s c input)) 0 begins.most (first_run l input)
  whole_begins = weaker (shown_at_start s c l f whole.code.around input is_bytes begins) passed starts (omega arith) (λ n le. le)

  -- ---- a machine that is followed over locations, once `main` is entered

  module _ {S : Type 0} (A : Machine S ℕ Call Ending) (a : S) (cost : ℕ) (lasts : Lasts A) (right : A.wrong a ≡ false)
      (follows : Follows A (λ _. cost) (fitting_machine s c) (tokens_at s c) a (located_step s c (located_start s c input)))
      (soon : begins.most + 32 * tokens_at s c (located_start s c input) ≤ 32 * cost) where
    -- it begins level with the located machine behind the first step of that, and has shown nothing
    level_first : Level A (fitting_machine s c) a (located_step s c (located_start s c input))
    level_first =
        subst (λ (n : ℕ). Level A (fitting_machine s c) a (after (fitting_machine s c) n (located_step s c (located_start s c input)))) follows.begins
        (follows.level 0 (right_at_start A a right))

    shows_nothing : A.seen a ≡ nothing
    shows_nothing = level_first.seen ∙ first_shows s c l f whole.code.around input is_bytes begins

    right_at_first : (fitting_machine s c).wrong (located_step s c (located_start s c input)) ≡ false
    right_at_first = sym level_first.wrong ∙ right

    precedes : (u : Run) → Passes (fitting_machine s c) (image_machine l) (located_start s c input) u → Precedes A (image_machine l) a u
    precedes u p = record {
      shown = subst (λ (z : Seen ℕ). IsWithin z ((image_machine l).seen u)) (sym shows_nothing) (nothing_within ((image_machine l).seen u));
      seen = within_trans (subst (λ (z : Seen ℕ). IsWithin ((image_machine l).seen ((image_machine l).step u)) z) (first_shows s c l f whole.code.around input is_bytes begins) p.seen)
          (nothing_within (A.seen a));
      asks = by ((image_machine l).asks u) refl;
      right = p.right right_at_first;
    }
      where
        by : (o : Option (Event Call Ending)) → (image_machine l).asks u ≡ o → o ≡ None
        by None is = refl
        by (Some event) is = let asked = (p.asks event is).0 in let none = first_asks s c l f whole.code.around input is_bytes begins in absurd (cc)

    begun_by : Leads (image_machine l) (λ _. 1) (Precedes A (image_machine l) a) (Follows A (λ _. 32 * cost) (image_machine l) (λ _. 1) a) 0
        (begins.most + 32 * tokens_at s c (located_start s c input)) (first_run l input)
    begun_by =
        weaker
        (joined {l = 0} {m = begins.most} {n = 1} {o = most_for_step s c (located_start s c input)} {least = 0} {most = begins.most + 32 * tokens_at s c (located_start s c input)}
        whole_begins (λ u is_shown. each_leads (images_simulate_yields lead line s c l f whole (first_memory l.image)) (located_start s c input) u is_shown right_at_first) (omega arith) (omega arith))
        (λ u p. precedes u p)
        (λ u is_shown.
        lazily_trans (follows_scaled {a' = λ _. 32 * cost} {b' = most_for_step s c} 32 (λ _. omega arith) (λ _. omega arith) follows)
        (follows_of_simulates (images_simulate_yields lead line s c l f whole (first_memory l.image)) is_shown))
        (omega arith) (λ n le. le)

    positive : 1 ≤ 32 * cost
    positive = let path = whole_begins in omega (arith, path.arrives.holds.tokens, soon)

    -- the image agrees with it, at 32 instructions for each token that a step of the machine costs over locations, behind those by which it begins
    pub whole_agrees : Agrees A (image_machine l) (begins.most + 32 * tokens_at s c (located_start s c input)) (32 * cost) 1 a (first_run l input)
    whole_agrees =
        agrees_once_begun A (image_machine l) (begins.most + 32 * tokens_at s c (located_start s c input)) (32 * cost) 1 a (first_run l input) lasts (images l) soon right begun_by

    -- Where it waits for the client, the line of the yield is in the image's log by the next step's cost, if the start leaves an instruction.
    pub lines_are_there : begins.most + 32 * tokens_at s c (located_start s c input) + 1 ≤ 32 * cost → (m : ℕ) → A.wrong (after A m a) ≡ false → (call : Call) (walk : List Activation) →
        A.asks (after A m a) ≡ Some (Client call) → call.walk ≡ Some walk →
        IsPrefix ((A.seen (after A m a)).log ++ yield_line call.values) (after (image_machine l) (32 * cost * (m + 1)) (first_run l input)).log
    lines_are_there spare m fine call walk asks is_walk =
        let there = (whole_agrees.down m fine).stands (Client call) (ap but_input asks) in
        let bound : there.0 ≤ 32 * cost * (m + 1) - 1 = omega (arith, there.1, spare) in
        let least : 1 ≤ 32 * cost * (m + 1) = omega (arith, positive) in
        let last : 32 * cost * (m + 1) - 1 + 1 ≡ 32 * cost * (m + 1) = omega (arith, least) in
        subst (λ (n : ℕ). IsPrefix ((A.seen (after A m a)).log ++ yield_line call.values) (after (image_machine l) n (first_run l input)).log) last
        (lines_come_soon A (after A m a) l (first_run l input) (32 * cost * (m + 1) - 1) call walk is_walk (there.0, bound, there.2))

-- ---- the C-- machine

pub images_agree_with_clients : SwitchesLead → LineUnseen → ImagesLast → StatesAreSound → MachineLasts → ImagesAgreeWithClients
images_agree_with_clients lead line images are_sound lasts s set c l f code begins input is_bytes cost follows soon =
    agrees_later soon
    (whole_agrees lead line images s c l f code input is_bytes begins (machine_of (todo_control s.program) s) (start_of s input) cost (lasts s)
    (starts_right (todo_control s.program) s input)
    (fits_follow are_sound s set input is_bytes (λ _. cost) (located_machine s c) (tokens_at s c) (located_step s c (located_start s c input)) follows) soon)

pub lines_are_logged : SwitchesLead → LineUnseen → ImagesLast → StatesAreSound → MachineLasts → LinesAreThere
lines_are_logged lead line images are_sound lasts s set c l f code begins input is_bytes cost follows spare m right call walk asks is_walk =
    lines_are_there lead line images s c l f code input is_bytes begins (machine_of (todo_control s.program) s) (start_of s input) cost (lasts s)
    (starts_right (todo_control s.program) s input)
    (fits_follow are_sound s set input is_bytes (λ _. cost) (located_machine s c) (tokens_at s c) (located_step s c (located_start s c input)) follows) (omega (arith, spare)) spare m
    right call walk asks is_walk
