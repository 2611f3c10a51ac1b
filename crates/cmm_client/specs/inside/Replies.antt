-- What comes of a command: what is asked, what the log says of it, and where the client stands then.
use Rattle.std.specs.Prelude.{◌≡◌, ℕ, List, [], ◌++◌, take, IfOk, IfSome, Result, Ok, Err, Option, Some, None, codes, decimal}
use Rattle.std.specs.Option.{ok_or}
use Rattle.rv_table.specs.Machine.{State}
use Rattle.cmm_abi.specs.Regions.{Region}
use Rattle.cmm_rules.specs.declared.rule.Rule.{Rule}
use Rattle.cmm_rules.specs.declared.rule.Rule.TheVariants.{NoActivation}
use Rattle.cmm_outside.specs.Output.{WritesAll}
use Rattle.cmm_outside.specs.declared.Failed.{Failed}
use Rattle.cmm_script.specs.Lines.{at_line, descriptor_line, ok_line, refused_line, resume_line, var_line}
use Rattle.cmm_script.specs.Walk.{value_or_dead}
use Rattle.cmm_program.specs.Asking.{Cursor}
use Rattle.cmm_program.specs.Commands as client
use Rattle.cmm_program.specs.Commands.{Asked, listed, says}
use Rattle.cmm_image.specs.declared.parts.ImageParts.{ImageParts}
use Rattle.cmm_image_machine.specs.Frames.{Element, chain_of}
use Rattle.cmm_image_machine.specs.Machine.{askable}
use Rattle.cmm_walk.specs.declared.activation.Activation.{Activation}
use Rattle.cmm_walk.specs.declared.chain.Torn as walk
use Rattle.cmm_walk.specs.declared.variable.Var.{Var}
use Rattle.cmm_walk.specs.declared.variable.Var.TheVariants.{Dead, Live}
use Rattle.cmm_walk.specs.Activations.{Fits, element_of}
use Rattle.cmm_walk.specs.Walking.{break_of}
use Rattle.cmm_resume.specs.declared.refusal.Refusal.{Refusal}
use Rattle.cmm_resume.specs.declared.refusal.Refusal.TheVariants.{ByRule, Torn}
use Rattle.cmm_client.specs.declared.cursor.Cursor.{Cursor as CursorOf}
use Rattle.cmm_client.specs.declared.reply.After.{After}
use Rattle.cmm_client.specs.declared.reply.After.TheVariants.{Goes, Resumes, Stops, Tears}
use Rattle.cmm_client.specs.declared.reply.Reply.{Reply}
use Rattle.cmm_client.specs.declared.reply.Reply.TheVariants.{Walk, Stands, Descriptor, Variable, Changed, Resumed, Stopped}
use Rattle.cmm_client.specs.Stops.{cursor_of}

-- ---- what is asked

abbrev pub value_in : Var → Option ℕ
value_in Dead = None
value_in (Live value width) = Some value

-- the answer of the definition's command that this is, in the state that it leads to
abbrev pub meant : ImageParts → Region → Cursor Element → State → Result Reply Refusal → Asked Element State State
meant i r cursor s (Ok Walk) = listed (askable i r) cursor s (chain_of i r s)
meant i r cursor s (Ok (Stands a)) = let e = element_of i a in says (at_line e.procedure.name e.site.number) record { activation = Some e } s
meant i r cursor s (Ok (Descriptor value)) = says (descriptor_line value) cursor s
meant i r cursor s (Ok (Variable n v)) = says (var_line n (value_in v)) cursor s
meant i r cursor s (Ok Changed) = says ok_line cursor s
meant i r cursor s (Ok Resumed) = Ok record { text = resume_line; after = client.Resumes s }
meant i r cursor s (Ok Stopped) = Ok record { text = []; after = client.Stops }
meant i r cursor s (Err (ByRule rule)) = Err rule
meant i r cursor s (Err (Torn t)) = Ok record { text = []; after = client.Tears (break_of t) }

-- an activation to which the cursor goes fits
abbrev pub ReplyFits : ImageParts → Region → Result Reply Refusal → Type 0
ReplyFits i r (Ok (Stands a)) = Fits i r a
ReplyFits i r _ = Unit {0}

-- a program that is neither changed nor let go on stays as it was
abbrev pub Keeps : State → State → Result Reply Refusal → Type 0
Keeps before after (Ok Changed) = Unit {0}
Keeps before after (Ok Resumed) = Unit {0}
Keeps before after _ = after ≡ before

-- ---- parts of commands

-- a refusal by a rule
abbrev pub ruled : {A : Type 0} → Result A Rule → Result A Refusal
ruled (Ok a) = Ok a
ruled (Err rule) = Err (ByRule rule)

-- so many numbers of an array
abbrev pub first_numbers : ℕ → Result (List ℕ) Refusal → Result (List ℕ) Refusal
first_numbers count (Ok numbers) = Ok (take count numbers)
first_numbers count (Err refusal) = Err refusal

-- the activation at the cursor
abbrev pub standing_at : CursorOf → Result Activation Refusal
standing_at cursor = ok_or cursor.activation (ByRule NoActivation)

-- the cursor goes to what was found
abbrev pub standing : Result (Option Activation) walk.Torn → Result Reply Refusal
standing (Ok (Some a)) = Ok (Stands a)
standing (Ok None) = Err (ByRule NoActivation)
standing (Err t) = Err (Torn t)

-- ---- what is said of it

-- the reply to what is asked: a refusal changes nothing
abbrev pub reply_of : Cursor Element → State → Asked Element State State → client.Reply Element State State
reply_of cursor s asked = elim asked [ Ok r ↦ r | Err refusal ↦ record { text = refused_line refusal; after = client.Goes cursor s } ]

-- the client stands there: cursor and state
abbrev pub StandsAt : ImageParts → State → client.After Element State State → After → Type 0
StandsAt i s (client.Goes cursor t) (Goes c) = (cursor ≡ cursor_of i c) × (t ≡ s)
StandsAt i s (client.Resumes t) Resumes = t ≡ s
StandsAt i s client.Stops Stops = Unit {0}
StandsAt i s (client.Tears b) (Tears t) = b ≡ break_of t
StandsAt i s _ _ = ⊥

-- and the cursor fits
abbrev pub CursorFits : ImageParts → Region → After → Type 0
CursorFits i r (Goes cursor) = IfSome cursor.activation (Fits i r)
CursorFits i r _ = Unit {0}

-- a client that ends the run has not changed the program
abbrev pub Stays : State → State → After → Type 0
Stays before after Stops = after ≡ before
Stays before after (Tears t) = after ≡ before
Stays before after _ = Unit {0}

abbrev pub StaysWhere : State → State → Result After Failed → Type 0
StaysWhere before after result = IfOk result (Stays before after)

-- A reply is said: its text is written whole and the client stands where the reply says, or a front of the text is, and a call on the log failed.
pub record Replies {Sink : Type 0} (taken : Sink → Option (List ℕ)) (faults : Sink → ℕ) (old new : Sink) (i : ImageParts) (r : Region) (s : State)
    (reply : client.Reply Element State State) (result : Result After Failed) : Type 0 where
  pub writes : WritesAll taken faults old new reply.text result
  pub stands : IfOk result (StandsAt i s reply.after)
  pub fits : IfOk result (CursorFits i r)

-- ---- lines, as they are written

abbrev pub at_text : Element → List ℕ
at_text e = codes "at " ++ (e.procedure.name ++ (codes " site " ++ (decimal e.site.number ++ codes "\n")))

abbrev pub variable_text : ℕ → Var → List ℕ
variable_text n v = codes "var " ++ (decimal n ++ (codes " " ++ (value_or_dead (value_in v) ++ codes "\n")))
