use Rattle.std.proofs.Common.{◌≡◌, ℕ, List, ◌++◌, ap, ◌∙◌, append_assoc}
use Rattle.std.proofs.lemmas.Result.{on_ok_weaker}
use Rattle.cmm_image.proofs.writing.put_image.Goals as goal

two : (old a middle b new : List ℕ) → middle ≡ old ++ a → new ≡ middle ++ b → new ≡ old ++ (a ++ b)
two old a middle b new e f = f ∙ ap (λ (t : List ℕ). t ++ b) e ∙ append_assoc old a b

pub returns : goal.returns
returns c = on_ok_weaker c.put_body.result (two _ _ _ _ _ c.in_ok-put_header.ensures) c.put_body.ensures
