-- What is said of a command, and where the client stands then.
use Rattle.std.proofs.Common.{◌≡◌, ℕ, List, Result, Ok, Err, Option, refl, sym, ap, subst, ◌∙◌}
use Rattle.std.specs.Result.{result_and}
use Rattle.rv_table.specs.Machine.{State}
use Rattle.cmm_abi.specs.Regions.{Region}
use Rattle.cmm_outside.specs.Output.{WritesAll}
use Rattle.cmm_outside.specs.declared.Failed.{Failed}
use Rattle.cmm_script.specs.declared.script.Command.{Command}
use Rattle.cmm_program.specs.Asking.{Cursor}
use Rattle.cmm_program.specs.Commands as client
use Rattle.cmm_program.specs.Commands.{Asked, asked, listed, reply}
use Rattle.cmm_image.specs.declared.parts.ImageParts.{ImageParts}
use Rattle.cmm_image_machine.specs.Frames.{Element}
use Rattle.cmm_image_machine.specs.Machine.{askable}
use Rattle.cmm_resume.specs.declared.refusal.Refusal.{Refusal}
use Rattle.cmm_client.specs.declared.reply.After.{After}
use Rattle.cmm_client.specs.declared.reply.After.TheVariants.{Goes, Resumes, Stops, Tears}
use Rattle.cmm_client.specs.declared.reply.Reply.{Reply}
use Rattle.cmm_client.specs.declared.reply.Reply.TheVariants.{Walk, Stands, Descriptor, Variable, Changed, Resumed, Stopped}
use Rattle.cmm_client.specs.inside.Replies.{CursorFits, Keeps, Replies, StandsAt, Stays, StaysWhere, meant, reply_of}

module _ {Sink : Type 0} (taken : Sink → Option (List ℕ)) (faults : Sink → ℕ) (old new : Sink) (i : ImageParts) (r : Region) (s : State) where
  said_by : (reply : client.Reply Element State State) (written : Result (Unit {0}) Failed) (after : After) → WritesAll taken faults old new reply.text written →
      StandsAt i s reply.after after → CursorFits i r after → Replies taken faults old new i r s reply (result_and written (Ok after))
  said_by reply (Ok done) after writes stands fits = record {
    writes = record { ok = writes.ok; err = tt; no_fault = writes.no_fault; fault = tt };
    stands = stands;
    fits = fits;
  }
  said_by reply (Err failed) after writes stands fits = record {
    writes = record { ok = tt; err = writes.err; no_fault = tt; fault = writes.fault };
    stands = tt;
    fits = tt;
  }

  -- a line is written, and the client stands behind it
  pub said : (reply : client.Reply Element State State) (text : List ℕ) (written : Result (Unit {0}) Failed) (after : After) (result : Result After Failed) →
      result ≡ result_and written (Ok after) → text ≡ reply.text → WritesAll taken faults old new text written → StandsAt i s reply.after after → CursorFits i r after →
      Replies taken faults old new i r s reply result
  said reply text written after result is same writes stands fits =
      subst (λ (x : Result After Failed). Replies taken faults old new i r s reply x) (sym is)
      (said_by reply written after (subst (λ (t : List ℕ). WritesAll taken faults old new t written) same writes) stands fits)

-- ---- a whole command

-- a reply does not tell the state before it from the one after
reply_kept : (i : ImageParts) (r : Region) (cursor : Cursor Element) (before after : State) (asked : Result Reply Refusal) → Keeps before after asked →
    reply_of cursor before (meant i r cursor after asked) ≡ reply_of cursor after (meant i r cursor after asked)
reply_kept i r cursor before after (Ok Changed) keeps = refl
reply_kept i r cursor before after (Ok Resumed) keeps = refl
reply_kept i r cursor before after (Ok Walk) keeps = ap (λ (t : State). reply_of cursor t (meant i r cursor after (Ok Walk))) (sym keeps)
reply_kept i r cursor before after (Ok (Stands a)) keeps = refl
reply_kept i r cursor before after (Ok (Descriptor value)) keeps = refl
reply_kept i r cursor before after (Ok (Variable n v)) keeps = refl
reply_kept i r cursor before after (Ok Stopped) keeps = refl
reply_kept i r cursor before after (Err refusal) keeps = ap (λ (t : State). reply_of cursor t (meant i r cursor after (Err refusal))) (sym keeps)

module _ {Sink : Type 0} (taken : Sink → Option (List ℕ)) (faults : Sink → ℕ) (old new : Sink) (i : ImageParts) (r q : Region) (same : q ≡ r) (yielded : List ℕ) (cursor : Cursor Element)
    (before after : State) (c : Command) (asked_is : Result Reply Refusal) (keeps : Keeps before after asked_is)
    (is : asked (askable i r) yielded cursor before c ≡ meant i r cursor after asked_is) (result : Result After Failed)
    (replies : Replies taken faults old new i q after (reply_of cursor after (meant i q cursor after asked_is)) result) where
  here : Replies taken faults old new i r after (reply_of cursor after (meant i r cursor after asked_is)) result
  here = subst (λ (x : Region). Replies taken faults old new i x after (reply_of cursor after (meant i x cursor after asked_is)) result) same replies

  pub command_replies : Replies taken faults old new i r after (reply (askable i r) yielded cursor before c) result
  command_replies =
      subst (λ (x : client.Reply Element State State). Replies taken faults old new i r after x result)
      (sym (ap (reply_of cursor before) is ∙ reply_kept i r cursor before after asked_is keeps)) here

stays_kept : (before after : State) (a : After) → after ≡ before → Stays before after a
stays_kept before after (Goes cursor) same = tt
stays_kept before after Resumes same = tt
stays_kept before after Stops same = same
stays_kept before after (Tears t) same = same

stays_by : (i : ImageParts) (r : Region) (cursor : Cursor Element) (before after : State) (asked : Result Reply Refusal) (a : After) → Keeps before after asked →
    StandsAt i after (reply_of cursor after (meant i r cursor after asked)).after a → Stays before after a
stays_by i r cursor before after (Ok Changed) (Goes c) keeps stands = tt
stays_by i r cursor before after (Ok Changed) Resumes keeps stands = absurd stands
stays_by i r cursor before after (Ok Changed) Stops keeps stands = absurd stands
stays_by i r cursor before after (Ok Changed) (Tears t) keeps stands = absurd stands
stays_by i r cursor before after (Ok Resumed) (Goes c) keeps stands = absurd stands
stays_by i r cursor before after (Ok Resumed) Resumes keeps stands = tt
stays_by i r cursor before after (Ok Resumed) Stops keeps stands = absurd stands
stays_by i r cursor before after (Ok Resumed) (Tears t) keeps stands = absurd stands
stays_by i r cursor before after (Ok Walk) a keeps stands = stays_kept before after a keeps
stays_by i r cursor before after (Ok (Stands b)) a keeps stands = stays_kept before after a keeps
stays_by i r cursor before after (Ok (Descriptor value)) a keeps stands = stays_kept before after a keeps
stays_by i r cursor before after (Ok (Variable n v)) a keeps stands = stays_kept before after a keeps
stays_by i r cursor before after (Ok Stopped) a keeps stands = stays_kept before after a keeps
stays_by i r cursor before after (Err refusal) a keeps stands = stays_kept before after a keeps

pub command_stays : {Sink : Type 0} (taken : Sink → Option (List ℕ)) (faults : Sink → ℕ) (old new : Sink) (i : ImageParts) (r : Region) (cursor : Cursor Element) (before after : State)
    (asked : Result Reply Refusal) (result : Result After Failed) → Keeps before after asked →
    Replies taken faults old new i r after (reply_of cursor after (meant i r cursor after asked)) result → StaysWhere before after result
command_stays taken faults old new i r cursor before after asked (Ok a) keeps replies = stays_by i r cursor before after asked a keeps replies.stands
command_stays taken faults old new i r cursor before after asked (Err e) keeps replies = tt
