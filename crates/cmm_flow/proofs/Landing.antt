-- Landings: where control arrives in both machines, each activation stands for what it has to do.
use Rattle.std.proofs.Common.{◌≡◌, ℕ, not, ◌&&◌, ◌==◌, nat_lt, Bool, true, false, Option, Some, None, List, [], ◌∷◌, map, drop, length, slice_get, refl, ap, sym, ◌∙◌, subst, arith}
use Rattle.std.proofs.lemmas.Bool.Decides.{nat_tests}
use Rattle.cmm_machine_laws.proofs.Shared.{search_finds, targets_take}
use Rattle.cmm_machine_laws.specs.Landings.{begun_above}
use Rattle.cmm_program.specs.declared.procedure.Cont.{Cont}
use Rattle.cmm_program.specs.declared.procedure.Proc.{Proc}
use Rattle.cmm_program.specs.declared.procedure.Site.{Site}
use Rattle.cmm_program.specs.declared.procedure.Target.{Target}
use Rattle.cmm_program.specs.Errors.{with_some}
use Rattle.cmm_program.specs.Exits.{Back, Exit, Resumed, begun, continuation_exit, gone_on, return_exit, normal_exit, unwind_exit, variable_width}
use Rattle.cmm_program.specs.Frames.{Suspended, fits_stack, new_activation, procedure_at, suspended_at}
use Rattle.cmm_program.specs.Performing.{Found, cut_among, found_exit}
use Rattle.cmm_program.specs.State.{Activation, Setting, Store}

-- ---- exits

-- an exit to a continuation of the youngest of these activations
pub record IsToContinuation (s : Setting) (activations : List Activation) (e : Exit) : Type 0 where
  pub youngest : Activation
  pub older : List Activation
  pub procedure : Proc
  pub number : ℕ
  pub cont : Cont
  pub stands : activations ≡ youngest ∷ older
  pub is_procedure : procedure_at s youngest.procedure ≡ Some procedure
  pub is_cont : slice_get procedure.conts number ≡ Some cont
  pub lands : e.landing ≡ Resumed number

-- or the normal exit of its site, which may return
pub data IsExit (s : Setting) (activations : List Activation) (e : Exit) : Type 0 where
  ToNormal : (a : Suspended) → suspended_at s activations ≡ Some a → a.site.never ≡ false → e.landing ≡ Back → IsExit s activations e
  ToContinuation : IsToContinuation s activations e → IsExit s activations e

module _ (s : Setting) where
  continuation_is : (a : Activation) (older : List Activation) (p : Proc) (k : ℕ) (e : Exit) → procedure_at s a.procedure ≡ Some p →
      continuation_exit p k ≡ Some e → IsToContinuation s (a ∷ older) e
  continuation_is a older p k e is_p is = by (slice_get p.conts k) refl is
    where
      by : (o : Option Cont) → slice_get p.conts k ≡ o → with_some o (λ c. Some record { widths = map (variable_width p) c.params; landing = Resumed k }) ≡ Some e → IsToContinuation s (a ∷ older) e
      by (Some c) found is = record {
        youngest = a;
        older = older;
        procedure = p;
        number = k;
        cont = c;
        stands = refl;
        is_procedure = is_p;
        is_cont = found;
        lands = grind (arith, is);
      }
      by None found is = grind (arith, is)

  -- what a suspended activation has
  suspended_is : (a : Activation) (older : List Activation) (f : Suspended) → suspended_at s (a ∷ older) ≡ Some f →
      procedure_at s a.procedure ≡ Some f.procedure
  suspended_is a older f is = by a.site refl is
    where
      by : (o : Option ℕ) → a.site ≡ o → with_some o (λ n. with_some (procedure_at s a.procedure) (λ p. with_some (slice_get p.sites n) (λ site.
          Some record { activation = a; procedure = p; number = n; site = site }))) ≡ Some f → procedure_at s a.procedure ≡ Some f.procedure
      by (Some n) at is = by_procedure (procedure_at s a.procedure) refl is
        where
          by_procedure : (o : Option Proc) → procedure_at s a.procedure ≡ o → with_some o (λ p. with_some (slice_get p.sites n) (λ site.
              Some record { activation = a; procedure = p; number = n; site = site })) ≡ Some f → procedure_at s a.procedure ≡ Some f.procedure
          by_procedure (Some p) is_p is = by_site (slice_get p.sites n) is
            where
              by_site : (o : Option Site) → with_some o (λ site. Some record { activation = a; procedure = p; number = n; site = site }) ≡ Some f →
                  procedure_at s a.procedure ≡ Some f.procedure
              by_site (Some site) is = is_p ∙ ap (λ p. Some p) (grind (arith, is))
              by_site None is = grind (arith, is)
          by_procedure None is_p is = grind (arith, is)
      by None at is = grind (arith, is)

  -- the exits of a suspended activation's site
  pub return_is : (activations : List Activation) (f : Suspended) (n : ℕ) (e : Exit) → suspended_at s activations ≡ Some f →
      return_exit f.procedure f.site n ≡ Some e → IsExit s activations e
  return_is [] f n e at is = grind (arith, at)
  return_is (a ∷ older) f n e at is = by (nat_lt n (length f.site.returns)) is
    where
      normal : (test : Bool) → (n == length f.site.returns) && not f.site.never ≡ test →
          elim test [ true ↦ Some (normal_exit f.site) | false ↦ None ] ≡ Some e → IsExit s (a ∷ older) e
      normal true holds is = ToNormal f at (grind (arith, nat_tests, holds)) (grind (arith, is))
      normal false holds is = grind (arith, is)

      among : (o : Option ℕ) → with_some o (continuation_exit f.procedure) ≡ Some e → IsExit s (a ∷ older) e
      among (Some k) is = ToContinuation (continuation_is a older f.procedure k e (suspended_is a older f at) is)
      among None is = grind (arith, is)

      by : (test : Bool) → elim test [
        | true ↦ with_some (slice_get f.site.returns n) (continuation_exit f.procedure)
        | false ↦ elim ((n == length f.site.returns) && not f.site.never) [ true ↦ Some (normal_exit f.site) | false ↦ None ]
      ] ≡ Some e → IsExit s (a ∷ older) e
      by true is = among (slice_get f.site.returns n) is
      by false is = normal ((n == length f.site.returns) && not f.site.never) refl is

  pub unwind_is : (activations : List Activation) (f : Suspended) (n : ℕ) (e : Exit) → suspended_at s activations ≡ Some f →
      unwind_exit f.procedure f.site n ≡ Some e → IsExit s activations e
  unwind_is [] f n e at is = grind (arith, at)
  unwind_is (a ∷ older) f n e at is = among (slice_get f.site.unwinds n) is
    where
      among : (o : Option ℕ) → with_some o (continuation_exit f.procedure) ≡ Some e → IsExit s (a ∷ older) e
      among (Some k) is = ToContinuation (continuation_is a older f.procedure k e (suspended_is a older f at) is)
      among None is = grind (arith, is)

  -- and what a client cuts to
  pub cut_is : (activations : List Activation) (f : Suspended) (k : ℕ) (e : Exit) → suspended_at s activations ≡ Some f → continuation_exit f.procedure k ≡ Some e →
      IsToContinuation s activations e
  cut_is [] f k e at is = grind (arith, at)
  cut_is (a ∷ older) f k e at is = continuation_is a older f.procedure k e (suspended_is a older f at) is

  -- what a cut finds
  pub found_is : (own : List ℕ) (value : ℕ) (activations : List Activation) (found : Found) (e : Exit) → cut_among s 0 own value activations ≡ Some found →
      found_exit s found ≡ Some e → IsToContinuation s (drop found.younger activations) e
  found_is own value activations found e is is_exit =
      let listed = search_finds s own value activations found is in
      subst (λ as_. IsToContinuation s as_ e) (sym listed.stands) (by listed.activation listed.older listed.procedure (procedure_at s found.procedure) refl is_exit)
    where
      by : (a : Activation) (older : List Activation) → found.procedure ≡ a.procedure → (o : Option Proc) → procedure_at s found.procedure ≡ o →
          with_some o (λ p. continuation_exit p found.continuation) ≡ Some e → IsToContinuation s (a ∷ older) e
      by a older same (Some p) at is = continuation_is a older p found.continuation e (ap (procedure_at s) (sym same) ∙ at) is
      by a older same None at is = grind (arith, is)

-- ---- what a landing makes of the activations

-- one that begins
pub begun_is : (s : Setting) (store : Store) (n : ℕ) (p : Proc) (values : List ℕ) (older : List Activation) (after : Store) →
    begun_above s store n p values older ≡ Some after → after.activations ≡ new_activation n p values ∷ older
begun_is s store n p values older after is = by (fits_stack s (new_activation n p values ∷ older)) is
  where
    by : (b : Bool) → elim b [ true ↦ Some (begun s n p values older store) | false ↦ None ] ≡ Some after → after.activations ≡ new_activation n p values ∷ older
    by true is = sym (ap (λ (s : Store). s.activations) (given is)) where
      given : Some (begun s n p values older store) ≡ Some after → begun s n p values older store ≡ after
      given is = grind (arith, is)
    by false is = grind (arith, is)

-- the youngest that goes on
pub record IsGoneOn (a : Activation) (older : List Activation) (after : Store) : Type 0 where
  pub youngest : Activation
  pub procedure : youngest.procedure ≡ a.procedure
  pub activations : after.activations ≡ youngest ∷ older

pub gone_on_is : (targets : List Target) (values : List ℕ) (store after : Store) (a : Activation) (older : List Activation) → store.activations ≡ a ∷ older →
    Some (gone_on targets values store) ≡ Some after → IsGoneOn a older after
gone_on_is targets values store after a older are is =
    let same : gone_on targets values store ≡ after = grind (arith, is) in
    subst (IsGoneOn a older) same (subst (IsGoneOn a older) (sym (targets_take targets values store a older are)) (record { youngest = _; procedure = refl; activations = refl }))
