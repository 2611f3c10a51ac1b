-- The client's answer, command by command.
use Rattle.std.proofs.Common.{◌≡◌, ℕ, suc, ◌+◌, ◌<◌, List, [], ◌∷◌, ◌++◌, length, drop, get_or, Result, Ok, Err, Option, IfSome, sym, ap, subst, ◌∙◌, append_assoc, append-nil, add-one}
use Rattle.std.specs.Result.{IsErr}
use Rattle.std.proofs.Math.Seq.{drop-cons}
use Rattle.rv_table.specs.Machine.{State}
use Rattle.cmm_abi.specs.Regions.{Region}
use Rattle.cmm_outside.specs.Output.{WritesAll}
use Rattle.cmm_outside.specs.declared.Failed.{Failed}
use Rattle.cmm_outside.proofs.Shared.{HasWritten}
use Rattle.cmm_report.proofs.Shared.{appends_then_front, front_longer}
use Rattle.cmm_script.specs.declared.script.Command.{Command}
use Rattle.cmm_program.specs.Asking.{Askable, Cursor}
use Rattle.cmm_program.specs.Commands as client
use Rattle.cmm_program.specs.Commands.{After, Answer, Reply, answer_of, reply}
use Rattle.cmm_image.specs.declared.parts.ImageParts.{ImageParts}
use Rattle.cmm_image_machine.specs.Frames.{Element}
use Rattle.cmm_image_machine.specs.Machine.{askable}
use Rattle.cmm_walk.specs.Activations.{Fits}
use Rattle.cmm_walk.proofs.Shared.{joined, written_ok}
use Rattle.cmm_client.specs.declared.cursor.Cursor.{Cursor as CursorOf}
use Rattle.cmm_client.specs.declared.reply.After.{After as AfterOf}
use Rattle.cmm_client.specs.declared.reply.After.TheVariants.{Goes}
use Rattle.cmm_client.specs.Stops.{cursor_of}
use Rattle.cmm_client.specs.inside.Replies.{Replies, StandsAt, StaysWhere}

-- what a reply leads to, with the commands behind it
abbrev by_reply : {A S R : Type 0} → Askable A S R → List ℕ → List ℕ → S → List Command → Reply A S R → Answer S R
by_reply k ys text s cs r = elim r.after [
  | client.Goes c t ↦ answer_of k ys (text ++ r.text) c t cs
  | client.Resumes t ↦ record { text = text ++ r.text; left = client.Running t }
  | client.Stops ↦ record { text = text ++ r.text; left = client.Stopped s }
  | client.Tears b ↦ record { text = text ++ r.text; left = client.Torn b s }
]

grows_by : {A S R : Type 0} (k : Askable A S R) (ys text : List ℕ) (s : S) (cs : List Command) (t : List ℕ) (after : After A S R) →
    ((text : List ℕ) (c : Cursor A) (s : S) → (more : List ℕ) × ((answer_of k ys text c s cs).text ≡ text ++ more)) →
    (more : List ℕ) × ((by_reply k ys text s cs record { text = t; after = after }).text ≡ (text ++ t) ++ more)
grows_by k ys text s cs t (client.Goes c u) rest = rest (text ++ t) c u
grows_by k ys text s cs t (client.Resumes u) rest = ([], sym (append-nil (text ++ t)))
grows_by k ys text s cs t client.Stops rest = ([], sym (append-nil (text ++ t)))
grows_by k ys text s cs t (client.Tears b) rest = ([], sym (append-nil (text ++ t)))

-- the text begins with what was written before
grows : {A S R : Type 0} (k : Askable A S R) (ys : List ℕ) (cs : List Command) (text : List ℕ) (c : Cursor A) (s : S) → (more : List ℕ) × ((answer_of k ys text c s cs).text ≡ text ++ more)
grows k ys [] text c s = ([], sym (append-nil text))
grows k ys (d ∷ cs) text c s =
    let r = reply k ys c s d in
    let rest = grows_by k ys text s cs r.text r.after (λ more c s. grows k ys cs more c s) in
    (r.text ++ rest.0, rest.1 ∙ append_assoc text r.text rest.0)

-- ---- the commands so far

-- What was written so far, and the answer that is left to give, from this cursor and state on.
pub record SoFar {Sink : Type 0} (taken : Sink → Option (List ℕ)) (faults : Sink → ℕ) (old new : Sink) (i : ImageParts) (r : Region) (ys : List ℕ) (all : Answer State State)
    (cursor : CursorOf) (s : State) (cs : List Command) : Type 0 where
  pub text : List ℕ
  pub written : HasWritten taken faults old new text
  pub whole : all ≡ answer_of (askable i r) ys text (cursor_of i cursor) s cs
  pub fits : IfSome cursor.activation (Fits i r)

module _ (i : ImageParts) (r : Region) (ys text t : List ℕ) (s after : State) (cs : List Command) where
  led : After Element State State → Answer State State
  led a = by_reply (askable i r) ys text s cs record { text = t; after = a }

  to_goes : (a : After Element State State) (c : CursorOf) → StandsAt i after a (Goes c) → led a ≡ answer_of (askable i r) ys (text ++ t) (cursor_of i c) after cs
  unfolding led
  to_goes (client.Goes c' s') c stands = λ j. answer_of (askable i r) ys (text ++ t) (stands.0 j) (stands.1 j) cs
  to_goes (client.Resumes s') c stands = absurd stands
  to_goes client.Stops c stands = absurd stands
  to_goes (client.Tears b) c stands = absurd stands

-- where the next write fails, a front of what was to come is written
failing : {Sink A B Fault : Type 0} (taken : Sink → Option (List ℕ)) (faults : Sink → ℕ) (old mid new : Sink) (xs ys more all : List ℕ) (first : Result A Failed) (e : Failed) (last : Result B Fault) →
    first ≡ Err e → IsErr last → all ≡ (xs ++ ys) ++ more → HasWritten taken faults old mid xs → WritesAll taken faults mid new ys first → WritesAll taken faults old new all last
failing taken faults old mid new xs ys more all (Ok a) e last was failed whole written wrote = absurd cc
failing taken faults old mid new xs ys more all (Err d) e (Ok b) was failed whole written wrote = absurd cc
failing taken faults old mid new xs ys more all (Err d) e (Err f) was failed whole written wrote = record {
  ok = tt;
  err = rw whole (front_longer (taken old) (taken new) (xs ++ ys) more (appends_then_front (taken old) (taken mid) (taken new) xs ys written.appended wrote.err));
  no_fault = tt;
  fault = rw (← written.same_faults) wrote.fault;
}

module _ {Sink : Type 0} (taken : Sink → Option (List ℕ)) (faults : Sink → ℕ) (old mid new : Sink) (i : ImageParts) (r : Region) (ys : List ℕ) (all : Answer State State)
    (cursor : CursorOf) (s after : State) (c : Command) (cs : List Command) (so_far : SoFar taken faults old mid i r ys all cursor s (c ∷ cs))
    (result : Result AfterOf Failed) (replies : Replies taken faults mid new i r after (reply (askable i r) ys (cursor_of i cursor) s c) result)
    (stays : StaysWhere s after result) where
  stands_as : (a : AfterOf) → result ≡ Ok a → StandsAt i after (reply (askable i r) ys (cursor_of i cursor) s c).after a
  stands_as a is = rw is at replies.stands

  wrote : (a : AfterOf) → result ≡ Ok a → HasWritten taken faults old new (so_far.text ++ (reply (askable i r) ys (cursor_of i cursor) s c).text)
  wrote a is = joined taken faults old mid new so_far.text _ so_far.written (written_ok taken faults mid new _ result a is replies.writes)

  pub goes_on : (next : CursorOf) → result ≡ Ok (Goes next) → SoFar taken faults old new i r ys all next after cs
  unfolding led
  goes_on next is = let t = (reply (askable i r) ys (cursor_of i cursor) s c).text in record {
    text = so_far.text ++ t;
    written = wrote (Goes next) is;
    whole = so_far.whole ∙ to_goes i r ys so_far.text t s after cs (reply (askable i r) ys (cursor_of i cursor) s c).after next (stands_as (Goes next) is);
    fits = rw is at replies.fits;
  }

  pub fails : {B Fault : Type 0} (e : Failed) (last : Result B Fault) → result ≡ Err e → IsErr last → WritesAll taken faults old new all.text last
  fails e last was failed =
      let t = (reply (askable i r) ys (cursor_of i cursor) s c).text in
      let more = grows_by (askable i r) ys so_far.text s cs t (reply (askable i r) ys (cursor_of i cursor) s c).after (λ text c s. grows (askable i r) ys cs text c s) in
      failing taken faults old mid new so_far.text t more.0 all.text result e last was failed (ap (λ (a : Answer State State). a.text) so_far.whole ∙ more.1) so_far.written replies.writes

-- ---- as the loop has them

-- the commands from a place on
pub from_place : (all : List Command) (j : ℕ) (c : Command) → j < length all → c ≡ get_or all j c → drop j all ≡ c ∷ drop (suc j) all
from_place all j c below is = drop-cons all j c below ∙ ap (λ d. d ∷ drop (suc j) all) (sym is)

module _ {Sink : Type 0} (taken : Sink → Option (List ℕ)) (faults : Sink → ℕ) (old mid new : Sink) (i : ImageParts) (r q : Region) (same : q ≡ r) (ys : List ℕ)
    (answer : Answer State State) (cursor : CursorOf) (s after : State) (all : List Command) (j : ℕ) (c : Command) (below : j < length all) (is : c ≡ get_or all j c)
    (so_far : SoFar taken faults old mid i r ys answer cursor s (drop j all)) (result : Result AfterOf Failed)
    (replies : Replies taken faults mid new i q after (reply (askable i q) ys (cursor_of i cursor) s c) result) (stays : StaysWhere s after result) where
  before : SoFar taken faults old mid i r ys answer cursor s (c ∷ drop (suc j) all)
  before = subst (λ cs. SoFar taken faults old mid i r ys answer cursor s cs) (from_place all j c below is) so_far

  replied : Replies taken faults mid new i r after (reply (askable i r) ys (cursor_of i cursor) s c) result
  replied = subst (λ x. Replies taken faults mid new i x after (reply (askable i x) ys (cursor_of i cursor) s c) result) same replies

  pub next_goes : (to : AfterOf) (next : CursorOf) → result ≡ Ok to → to ≡ Goes next → SoFar taken faults old new i r ys answer next after (drop (j + 1) all)
  next_goes to next was goes =
      rw (add-one j) (goes_on taken faults old mid new i r ys answer cursor s after c (drop (suc j) all) before result replied stays next (was ∙ ap Ok goes))

  pub next_fails : {B Fault : Type 0} (e : Failed) (left : Result B Fault) → result ≡ Err e → IsErr left → WritesAll taken faults old new answer.text left
  next_fails e left was failed =
      fails taken faults old mid new i r ys answer cursor s after c (drop (suc j) all) before result replied stays e left was failed
