-- What a call answers, by what was to be done.
use Rattle.std.proofs.Common.{◌≡◌, ◌==◌, Bool, true, false, List, length, ℕ, Result, Ok, Err, Option, Some, None, refl, sym, ap, subst}
use Rattle.cmm_rules.specs.declared.rule.Rule.{Rule}
use Rattle.cmm_rules.specs.declared.rule.Rule.TheVariants.{DoesNotFit, NoExit, OtherCount}
use Rattle.cmm_words.specs.declared.width.Width.{Width}
use Rattle.rv_table.specs.Machine.{State}
use Rattle.cmm_script.specs.Lines.{resume_line}
use Rattle.cmm_program.specs.Commands.{all_fit, Goes, Reply, Resumes, resumed}
use Rattle.cmm_program.specs.Errors.{provided, with_some}
use Rattle.cmm_program.specs.Asking.{Cursor, Exit}
use Rattle.cmm_image_machine.specs.Frames.{Element}
use Rattle.cmm_resume.specs.declared.refusal.Refusal.{Refusal}
use Rattle.cmm_resume.specs.declared.refusal.Refusal.TheVariants.{ByRule, Torn}
use Rattle.cmm_resume.specs.Answering.{Answers, Change}
use Rattle.cmm_resume.specs.Finding.{Finds, checked}

-- a rule refuses it
pub refused_is : (change : Change) (rule : Rule) (s : State) → change ≡ Err rule → Answers change s s (Err (ByRule rule))
refused_is change rule s is = subst (λ (c : Change). Answers c s s (Err (ByRule rule))) (sym is) (refl, refl)

-- the next command runs
pub goes_is : (change : Change) (text : List ℕ) (cursor : Cursor Element) (s before after : State) → change ≡ Ok (record { text = text; after = Goes cursor s }) → after ≡ s →
    Answers change before after (Ok tt)
goes_is change text cursor s before after is same = subst (λ (c : Change). Answers c before after (Ok tt)) (sym is) (refl, same)

-- the program goes on
pub resumes_is : (change : Change) (text : List ℕ) (s before after : State) → change ≡ Ok (record { text = text; after = Resumes s }) → after ≡ s →
    Answers change before after (Ok tt)
resumes_is change text s before after is same = subst (λ (c : Change). Answers c before after (Ok tt)) (sym is) (refl, same)

-- what was found refuses it
pub found_err : {T : Type 0} (change : Change) (made : T → State) (s : State) (why : Refusal) → Finds change made (Err why) → Answers change s s (Err why)
found_err change made s (ByRule rule) is = refused_is change rule s is
found_err change made s (Torn t) is = subst (λ (c : Change). Answers c s s (Err (Torn t))) (sym is) (refl, refl)

-- what is asked of an exit is whether it takes the values
abbrev exit_with : (List ℕ → State) → Option (List Width) → Option (Exit State)
exit_with f o = with_some o (λ ws. Some record { widths = ws; resumed = f })

through_ok : (b c : Bool) (x : Reply Element State State) → ◌≡◌ {A = Result (Unit {0}) Rule} (provided b OtherCount (provided c DoesNotFit (Ok tt))) (Ok tt) →
    ◌≡◌ {A = Change} (provided b OtherCount (provided c DoesNotFit (Ok x))) (Ok x)
through_ok true true x is = refl
through_ok true false x is = absurd cc
through_ok false c x is = absurd cc

through_err : (b c : Bool) (x : Reply Element State State) (rule : Rule) → ◌≡◌ {A = Result (Unit {0}) Rule} (provided b OtherCount (provided c DoesNotFit (Ok tt))) (Err rule) →
    ◌≡◌ {A = Change} (provided b OtherCount (provided c DoesNotFit (Ok x))) (Err rule)
through_err true true x rule is = absurd cc
through_err true false x rule is = let same : DoesNotFit ≡ rule = cc in ap Err same
through_err false c x rule is = let same : OtherCount ≡ rule = cc in ap Err same

pub resumed_ok : (f : List ℕ → State) (o : Option (List Width)) (values : List ℕ) → checked o values ≡ Ok tt →
    ◌≡◌ {A = Change} (resumed (exit_with f o) values) (Ok record { text = resume_line; after = Resumes (f values) })
resumed_ok f None values is = absurd cc
resumed_ok f (Some ws) values is = through_ok (length ws == length values) (all_fit ws values) record { text = resume_line; after = Resumes (f values) } is

pub resumed_err : (f : List ℕ → State) (o : Option (List Width)) (values : List ℕ) (rule : Rule) → checked o values ≡ Err rule →
    ◌≡◌ {A = Change} (resumed (exit_with f o) values) (Err rule)
resumed_err f None values rule is = let same : NoExit ≡ rule = cc in ap Err same
resumed_err f (Some ws) values rule is = through_err (length ws == length values) (all_fit ws values) record { text = resume_line; after = Resumes (f values) } rule is
