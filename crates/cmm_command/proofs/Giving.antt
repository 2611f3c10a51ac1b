-- What a function gives follows from what its steps give.
use Rattle.std.proofs.Common.{◌≡◌, ◌∙◌, ℕ, ap, subst, sym, List, map, Option, Result, Ok, Err, IsErrAnd}
use Rattle.std.specs.Borrow.{Bor}
use Rattle.std.specs.Option.{option_and_then, option_map}
use Rattle.cmm_command.specs.declared.command.RunLimits.{RunLimits}
use Rattle.cmm_command.specs.declared.fault.CommandFault.{CommandFault}
use Rattle.cmm_command.specs.declared.fault.CommandFault.TheVariants.{Usage, Memory}
use Rattle.cmm_command.specs.Reading.{Gives, read_or}

-- how what is returned is seen
abbrev pub text : Bor (List ℕ) → List ℕ
text s = s.now

abbrev pub texts : List (Bor (List ℕ)) → List (List ℕ)
texts = map text

abbrev pub text_if_given : Option (Bor (List ℕ)) → Option (List ℕ)
text_if_given = option_map text

abbrev pub number : ℕ → ℕ
number n = n

abbrev pub limits : RunLimits → RunLimits
limits l = l

-- a step gives nothing
pub stops : {A B C D : Type 0} (view : A → B) (seen : C → D) (o : Option B) (f : B → Option D) (e : CommandFault) (r : Result C CommandFault)
    → Gives view o (Err e) → IsErrAnd r (λ d. d ≡ e) → Gives seen (option_and_then f o) r
stops view seen o f e (Ok c) gives is = absurd is
stops view seen o f Usage (Err d) gives is = subst (λ (w : CommandFault). Gives seen (option_and_then f o) (Err w)) (sym is) (ap (option_and_then f) gives)
stops view seen o f Memory (Err d) gives is = subst (λ (w : CommandFault). Gives seen (option_and_then f o) (Err w)) (sym is) tt

-- a step gives x, and the rest goes on from there
pub goes : {A B C D : Type 0} (view : A → B) (seen : C → D) (o : Option B) (f : B → Option D) (x : A) (r : Result C CommandFault)
    → Gives view o (Ok x) → Gives seen (f (view x)) r → Gives seen (option_and_then f o) r
goes view seen o f x (Ok c) some next = ap (option_and_then f) some ∙ next
goes view seen o f x (Err Usage) some next = ap (option_and_then f) some ∙ next
goes view seen o f x (Err Memory) some next = tt

-- what may be left out is read, by another name of it
pub reads_along : {A B : Type 0} (seen : A → B) (usual : B) (read : List ℕ → Option B) (o p : Option (List ℕ)) (r : Result A CommandFault)
    → o ≡ p → Gives seen (read_or usual read p) r → Gives seen (read_or usual read o) r
reads_along seen usual read o p r is gives = subst (λ (q : Option (List ℕ)). Gives seen (read_or usual read q) r) (sym is) gives
