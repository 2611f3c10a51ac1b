-- Where control may arrive: what fits there, and that the exits of a site lead only to where their values fit.
use Rattle.cmm_machine_laws.proofs.FittingStores.{IsYoungest}
use Rattle.std.proofs.lemmas.Simd.{map-map}
use Rattle.std.proofs.lemmas.List.{drop-drop}
use Rattle.std.proofs.lemmas.Bool.Decides.{nat_tests}
use Rattle.cmm_machine_laws.proofs.FittingActs.{WordFits}
use Rattle.cmm_machine_laws.specs.Fitting.{Demand, IsSuspended}
use Rattle.cmm_program.specs.Orders.{Word, target_width}
use Rattle.cmm_program.specs.Commands.{all_fit}
use Rattle.cmm_program.specs.Exits.{Back, Called, Exit, Instead, Landing, Resumed, continuation_exit, have_widths, numbers, parameters_of, results_of, return_exit, unwind_exit, variable_width}
use Rattle.cmm_program.specs.Frames.{Suspended, procedure_at, suspended_at, site_cuts}
use Rattle.cmm_program.specs.Performing.{Found, cut_among, found_exit}
use Rattle.cmm_program.specs.State.{Activation, Setting}
use Rattle.cmm_program.specs.declared.procedure.Proc.{Proc}
use Rattle.cmm_program.specs.declared.procedure.Target.TheVariants.{Variable}
use Rattle.cmm_words.specs.Widths.{IsWord}
use Rattle.cmm_words.specs.declared.width.Width.{Width}
use Rattle.std.proofs.Common.{All, IsTrue, List, Some, [], arith, drop, length, map, suc, take, zero, ℕ, ◌<◌, ◌∷◌, ◌≡◌}
use Rattle.std.proofs.lemmas.List.Elements.{All-head, All-tail}
use Rattle.std.specs.List.{AllZip}
use Rattle.std.specs.Prelude.{⊤}

-- ---- what fits

-- what is demanded of the youngest activation once n are gone: it is suspended, if any is
abbrev pub Left : ℕ → Demand
Left gone = elim gone [ zero ↦ λ x. ⊤ | suc _ ↦ IsSuspended ]

-- the values that a procedure is entered with fit its formals
abbrev pub FormalsFit : Setting → ℕ → List ℕ → Type 0
FormalsFit s n values = (q : Proc) → procedure_at s n ≡ Some q → AllZip IsWord (map (λ v. v.width) (take q.formals q.vars)) values

-- the values of a landing fit what takes them; an activation is there that calls or takes them, or one is gone that is replaced
abbrev pub LandingFits : Setting → ℕ → Landing → List Activation → Type 0
LandingFits s gone (Called site n values) fs = (q : Proc) × IsYoungest s q fs × (site < length q.sites) × FormalsFit s n values
LandingFits s gone (Instead n values) fs = (0 < gone) × FormalsFit s n values
LandingFits s gone (Back values) fs = (q : Proc) × IsYoungest s q fs × AllZip IsWord (map target_width (results_of s fs)) values
LandingFits s gone (Resumed k values) fs = (q : Proc) × IsYoungest s q fs × AllZip IsWord (map target_width (parameters_of s k fs)) values

-- values of the widths that an exit asks for fit where it leads
abbrev pub ExitFits : Setting → List Activation → Exit → Type 0
ExitFits s activations e = (values : List ℕ) → AllZip IsWord e.widths values → (gone : ℕ) → LandingFits s gone (e.landing values) activations

-- ---- values of the widths that an exit asks for

-- words that have just these widths fit them
pub words_zip : (ws : List Width) (words : List Word) → IsTrue (have_widths ws words) → All WordFits words → AllZip IsWord ws (numbers words)
words_zip (w ∷ ws) (v ∷ vs) have fit = grind (arith, nat_tests, All-head WordFits v vs fit, words_zip ws vs, All-tail WordFits v vs fit)
words_zip ws words have fit = grind arith

-- as many values as widths, each of which fits
pub fitting_zip : (ws : List Width) (values : List ℕ) → length ws ≡ length values → IsTrue (all_fit ws values) → AllZip IsWord ws values
fitting_zip (w ∷ ws) (v ∷ vs) same fit = grind (arith, nat_tests, fitting_zip ws vs)
fitting_zip ws values same fit = grind arith

-- ---- exits

-- parameters as targets have the widths of their variables
parameter_widths : (q : Proc) (ns : List ℕ) → map target_width (map (λ n. Variable n (variable_width q n)) ns) ≡ map (variable_width q) ns
parameter_widths q = map-map target_width (λ n. Variable n (variable_width q n))

module _ (s : Setting) (f : Activation) (fs : List Activation) (q : Proc) (is : procedure_at s f.procedure ≡ Some q) where
  -- the exits to continuations of the youngest activation fit where they lead, and so do those of a return to its site
  continuation_fits : (k : ℕ) (e : Exit) → continuation_exit q k ≡ Some e → ExitFits s (f ∷ fs) e
  continuation_fits k e at = grind (arith, parameter_widths q)

  return_fits : (a : Suspended) → suspended_at s (f ∷ fs) ≡ Some a → (n : ℕ) (e : Exit) → return_exit q a.site n ≡ Some e → ExitFits s (f ∷ fs) e
  return_fits a there n e at = grind (arith, continuation_fits)

-- so do those of a suspended activation's site
pub suspended_fits : (s : Setting) (activations : List Activation) (a : Suspended) → suspended_at s activations ≡ Some a → (n : ℕ) (e : Exit) →
    (return_exit a.procedure a.site n ≡ Some e → ExitFits s activations e) × (unwind_exit a.procedure a.site n ≡ Some e → ExitFits s activations e)
suspended_fits s activations a at n e = grind (arith, continuation_fits s, return_fits s)

-- and to any of its continuations
pub cuts_fit : (s : Setting) (activations : List Activation) (a : Suspended) → suspended_at s activations ≡ Some a → (k : ℕ) (e : Exit) →
    continuation_exit a.procedure k ≡ Some e → ExitFits s activations e
cuts_fit s activations a at k e is = grind (arith, continuation_fits s)

-- and the exit that a cut finds among these frames, which are what is left of all without the younger ones
pub found_fits : (s : Setting) (all : List Activation) (value younger : ℕ) (own : List ℕ) (fs : List Activation) → drop younger all ≡ fs →
    (found : Found) (e : Exit) → cut_among s younger own value fs ≡ Some found → found_exit s found ≡ Some e → ExitFits s (drop found.younger all) e
found_fits s all value younger own [] left found e is at = grind arith
found_fits s all value younger own (f ∷ fs) left found e is at =
    grind (arith, drop-drop 1 younger all, found_fits s all value (suc younger) (site_cuts s fs) fs, continuation_fits s f fs)
