-- Output that waits, and what was written of it.
use Rattle.std.proofs.Common.{◌≡◌, ℕ, List, [], ◌++◌, Option, ap, sym, ◌∙◌, subst, append-nil, append_assoc}
use Rattle.cmm_outside.specs.Output.{Appends, AppendsFront}
use Rattle.cmm_report.proofs.Shared.{appends_then, appends_then_front}
use Rattle.cmm_run.specs.inside.Waits.{Moves}

-- all that waits is written
pub moves_all : (start before after : Option (List ℕ)) (bytes waiting : List ℕ) → Moves start before bytes waiting → Appends before after waiting → Appends start after bytes
moves_all start before after bytes waiting moves appended =
    rw moves.parts (appends_then start before after moves.written waiting moves.appended appended)

pub moved : (start after : Option (List ℕ)) (bytes waiting : List ℕ) → waiting ≡ [] → Appends start after bytes → Moves start after bytes waiting
moved start after bytes waiting none appended = record { written = bytes; parts = sym (ap (λ (ws : List ℕ). bytes ++ ws) none ∙ append-nil bytes); appended = appended }

-- where nothing waits, all is written
pub moves_end : (start after : Option (List ℕ)) (bytes waiting : List ℕ) → waiting ≡ [] → Moves start after bytes waiting → Appends start after bytes
moves_end start after bytes waiting none moves =
    subst (Appends start after) (sym (moves.parts ∙ ap (λ (ws : List ℕ). moves.written ++ ws) none ∙ append-nil moves.written)) moves.appended

-- a front of what waits is written
pub moves_front : (start before after : Option (List ℕ)) (bytes waiting : List ℕ) → Moves start before bytes waiting → AppendsFront before after waiting →
    AppendsFront start after bytes
moves_front start before after bytes waiting moves front =
    rw moves.parts (appends_then_front start before after moves.written waiting moves.appended front)

-- more is put
pub moves_more : (start before after : Option (List ℕ)) (bytes more waiting rest : List ℕ) → Moves start before bytes waiting → Moves before after (waiting ++ more) rest →
    Moves start after (bytes ++ more) rest
moves_more start before after bytes more waiting rest first second = record {
  written = first.written ++ second.written;
  parts = ap (λ (xs : List ℕ). xs ++ more) first.parts ∙ append_assoc first.written waiting more
      ∙ ap (λ (xs : List ℕ). first.written ++ xs) second.parts ∙ sym (append_assoc first.written second.written rest);
  appended = appends_then start before after first.written second.written first.appended second.appended;
}
