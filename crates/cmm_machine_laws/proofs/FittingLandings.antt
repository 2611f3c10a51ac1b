-- Landings leave what fits: activations that come, go, are suspended and go on.
use Rattle.cmm_machine_laws.proofs.FittingStores.{IsYoungest, with_site_keeps, gone_on_fits}
use Rattle.cmm_program.specs.Exits.{variable_width}
use Rattle.cmm_program.specs.declared.procedure.Target.TheVariants.{Variable}
use Rattle.std.proofs.lemmas.Bool.Decides.{nat_tests}
use Rattle.cmm_machine_laws.proofs.FittingActs.{results_fit}
use Rattle.cmm_machine_laws.proofs.Bodies.{body_of, follow_of, rest_of}
use Rattle.cmm_machine_laws.proofs.FittingExits.{FormalsFit, LandingFits, Left}
use Rattle.cmm_machine_laws.proofs.FittingStores.{Leaves}
use Rattle.cmm_machine_laws.proofs.Kept.{KeptIn, kept_if, kept_some, kept_with_some}
use Rattle.cmm_program.proofs.Shared.{all_get, list_all_get}
use Rattle.cmm_machine_laws.proofs.Lists.{some_get, zip_filled}
use Rattle.cmm_machine_laws.specs.Fitting.{AreActivations, CellFits, Demand, IsStatementOf, IsSuspended, RoomFits, Youngest}
use Rattle.cmm_program.specs.Bodies.{AtContinuation}
use Rattle.cmm_program.specs.Control.{moved, arrived}
use Rattle.cmm_program.specs.Exits.{Back, Called, Instead, Landing, Resumed, entered, land, parameters_of, results_of}
use Rattle.cmm_program.specs.Frames.{with_site, fits_stack, new_activation, procedure_at}
use Rattle.cmm_program.specs.InRange.{IsInRange, IsProcInRange, below, is_body_in, is_continuation}
use Rattle.std.specs.List.{list_all}
use Rattle.cmm_program.specs.State.{Activation, Running, Setting, Store}
use Rattle.cmm_program.specs.Todo.{todo_on, Todo, in_procedure, todo_control}
use Rattle.cmm_program.specs.Typing.{is_target}
use Rattle.cmm_program.specs.declared.procedure.Proc.{Proc}
use Rattle.cmm_program.specs.declared.procedure.VarInfo.{VarInfo}
use Rattle.cmm_program.specs.declared.statement.Form.TheVariants.{Span}
use Rattle.cmm_program.specs.declared.statement.Statement.{Statement}
use Rattle.cmm_words.specs.Widths.{IsWord, bits}
use Rattle.cmm_words.specs.declared.width.Width.TheVariants.{W64}
use Rattle.std.proofs.Common.{arith, subst, All, IsTrue, List, Some, [], drop, length, map, refl, suc, ℕ, ◌∷◌, ◌≡◌}
use Rattle.std.proofs.lemmas.List.Elements.{All-cons, All-head, All-nil, All-replicate, All-tail}
use Rattle.std.proofs.lemmas.Nat.{pow_pos}
use Rattle.std.proofs.lemmas.Option.{get_or_from_slice_get, slice_get-map, slice_get_within}
use Rattle.std.specs.Prelude.{⊤}

-- ---- the youngest activation

-- once some are gone, the youngest of those that are left is suspended
pub dropped_keeps : (s : Setting) (P : Demand) (n : ℕ) (fs : List Activation) (ts : List Todo) → AreActivations s P fs ts →
    AreActivations s (Left n) (drop n fs) (drop n ts)
dropped_keeps s P n (f ∷ fs) (t ∷ ts) are = grind (arith, λ (m : ℕ). dropped_keeps s IsSuspended m fs ts)
dropped_keeps s P n fs ts are = grind arith

-- and of the youngest nothing may be demanded
pub any_site : (s : Setting) (P : Demand) (fs : List Activation) (ts : List Todo) → AreActivations s P fs ts → AreActivations s (λ x. ⊤) fs ts
any_site s P = dropped_keeps s P 0

-- ---- what takes the values of a landing

module _ (s : Setting) (range : IsInRange s.program) where
  -- a procedure of a program in range is in range
  pub proc_in_range : (n : ℕ) (q : Proc) → procedure_at s n ≡ Some q → IsProcInRange s.program q
  proc_in_range n q is = all_get (IsProcInRange s.program) s.program.procs n q range.procedures is

  -- parameters in range are targets of a procedure
  targets_of : (q : Proc) (ns : List ℕ) → IsTrue (list_all (below (length q.vars)) ns) →
      IsTrue (list_all (is_target s.program q) (map (λ n. Variable n (variable_width q n)) ns))
  targets_of q [] are = refl
  targets_of q (n ∷ ns) are =
      let width = λ (v : VarInfo). get_or_from_slice_get (map (λ (x : VarInfo). x.width) q.vars) n v.width W64 in
      grind (arith, nat_tests, some_get q.vars n, width, slice_get-map (λ (x : VarInfo). x.width) q.vars n, targets_of q ns)

  -- so is what takes the values behind the site of the youngest activation, and at a continuation
  takers_fit : (activations : List Activation) (q : Proc) (k : ℕ) → IsYoungest s q activations →
      IsTrue (list_all (is_target s.program q) (results_of s activations)) × IsTrue (list_all (is_target s.program q) (parameters_of s k activations))
  takers_fit activations q k is =
      grind (arith, nat_tests, results_fit, λ (n : ℕ). proc_in_range n q, targets_of q, list_all_get (is_continuation s.program q) q.conts k)

  -- ---- what is left to do

  -- the youngest activation past its statement
  pub moved_keeps : (P : Demand) (way : ℕ) (fs : List Activation) (ts : List Todo) → AreActivations s P fs ts →
      AreActivations s P fs (moved (todo_on s.program way) ts)
  moved_keeps P way (f ∷ fs) (t ∷ ts) are =
      let next = λ (q : Proc) (is : procedure_at s f.procedure ≡ Some q) (x : Statement) (rest : List Statement) (left : t.rest ≡ x ∷ rest).
      let IsOf = IsStatementOf s.program q in
      let were = subst (All IsOf) left (are.1.procedure q is).statements in
      rest_of s.program q way x.form rest (proc_in_range f.procedure q is).body (All-head IsOf x rest were).1 (All-tail IsOf x rest were) in
      grind (arith, next)
  moved_keeps P way fs ts are = grind arith

  -- and with other statements of its procedure to do
  goes_on : (P : Demand) (fs : List Activation) (t : Todo) (ts : List Todo) (rest : Proc → List Statement) → AreActivations s P fs (t ∷ ts) →
      ((q : Proc) → IsTrue (is_body_in s.program q (Span q.body)) → All (IsStatementOf s.program q) (rest q)) →
      AreActivations s P fs (record t { rest = in_procedure s.program t.procedure [] rest } ∷ ts)
  goes_on P (f ∷ fs) t ts rest are next =
      grind (arith, λ (q : Proc) (is : procedure_at s f.procedure ≡ Some q). next q (proc_in_range f.procedure q is).body)
  goes_on P fs t ts rest are next = grind arith

  -- ---- every landing

  -- a new activation begins above suspended ones, with its formals as passed
  entered_fits : (n : ℕ) (values : List ℕ) (store : Store) (ts : List Todo) → Leaves s IsSuspended ts store → FormalsFit s n values →
      KeptIn (Leaves s (Youngest Running) ((todo_control s.program).begin n ∷ ts)) (entered s n values store.activations store)
  entered_fits n values store ts old formals =
      kept_with_some (procedure_at s n) _ (λ q is. kept_if (fits_stack s (new_activation n q values ∷ store.activations)) _ (λ holds.
      let filled = zip_filled IsWord (λ (v : VarInfo). v.width) q.formals q.vars values (λ w. pow_pos (bits w)) (formals q is) in
      let body = body_of s.program q (proc_in_range n q is).body in
      grind (arith, filled, slice_get_within, body, All-replicate CellFits, All-nil CellFits, All-cons RoomFits)))

  -- each landing leaves what fits
  pub land_fits : (gone : ℕ) (landing : Landing) (store : Store) (ts : List Todo) → Leaves s (Left gone) ts store →
      LandingFits s gone landing store.activations →
      KeptIn (Leaves s (Youngest Running) (arrived (todo_control s.program) landing ts)) (land s landing store)
  land_fits gone (Called site n values) store (t ∷ ts) old fits =
      let waits = with_site_keeps s fits.0 _ IsSuspended (Some site) store.activations _ refl fits.2 (moved_keeps _ 0 _ (t ∷ ts) old.1) fits.1 in
      entered_fits n values (record store { activations = with_site (Some site) store.activations }) _ (old.0, waits) fits.3
  land_fits (suc gone) (Instead n values) store ts old fits = entered_fits n values store ts old fits.1
  land_fits gone (Back values) store (t ∷ ts) old fits =
      kept_some (gone_on_fits s fits.0 _ _ _ _ _ store (old, fits.1, refl) (takers_fit store.activations fits.0 0 fits.1).0 fits.2)
  land_fits gone (Resumed k values) store (t ∷ ts) old fits =
      let here = goes_on (Left gone) store.activations t ts _ old.1 (λ q. follow_of s.program q (AtContinuation k)) in
      kept_some (gone_on_fits s fits.0 _ _ _ _ _ store ((old.0, here), fits.1, refl) (takers_fit store.activations fits.0 k fits.1).1 fits.2)
  land_fits gone landing store ts old fits = grind arith
