-- What a call answers that is to change a stopped program.
use Rattle.std.specs.Prelude.{◌≡◌, ℕ, Result, Ok, Err}
use Rattle.cmm_rules.specs.Rules.{rule_number}
use Rattle.rv_table.specs.Machine.{State}
use Rattle.cmm_program.specs.Commands.{After, Asked, Goes, Resumes, Stops, Tears}
use Rattle.cmm_image_machine.specs.Frames.{Element}
use Rattle.cmm_resume.specs.declared.refusal.Refusal.{Refusal}
use Rattle.cmm_resume.specs.declared.refusal.Refusal.TheVariants.{ByRule, Torn}

-- what a command of the client answers over a stopped image
abbrev pub Change : Type 0
Change = Asked Element State State

abbrev pub refusal_number : Refusal → ℕ
refusal_number (ByRule rule) = rule_number rule
refusal_number (Torn t) = 0

-- the change is made, or the chain of frames breaks and all is as it was
abbrev pub Leads : After Element State State → State → State → Result (Unit {0}) Refusal → Type 0
Leads (Goes cursor s) before after result = (result ≡ Ok tt) × (after ≡ s)
Leads (Resumes s) before after result = (result ≡ Ok tt) × (after ≡ s)
Leads Stops before after result = ⊥
Leads (Tears b) before after result = (result ≡ Err (Torn record { frame = b.frame; address = b.address })) × (after ≡ before)

-- or a rule refuses it, and all is as it was
abbrev pub Answers : Change → State → State → Result (Unit {0}) Refusal → Type 0
Answers (Ok reply) before after result = Leads reply.after before after result
Answers (Err rule) before after result = (result ≡ Err (ByRule rule)) × (after ≡ before)
