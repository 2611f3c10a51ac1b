-- The lines of the log, as they are written.
use Rattle.std.proofs.Common.{◌≡◌, ℕ, List, [], ◌∷◌, ◌++◌, codes, decimal, sym, ap, ◌∙◌, append_assoc}
use Rattle.cmm_script.specs.Lines.{at_line, var_line}
use Rattle.cmm_script.specs.Walk.{and, line, value_or_dead}
use Rattle.cmm_image_machine.specs.Frames.{Element}
use Rattle.cmm_walk.specs.declared.variable.Var.{Var}
use Rattle.cmm_client.specs.inside.Replies.{at_text, value_in, variable_text}

at_by : (a b : List ℕ) → codes "at " ++ (a ++ (codes " site " ++ (b ++ codes "\n"))) ≡ line (codes "at" ++ and a ++ and (codes "site") ++ and b)
at_by a b =
    ap (λ (t : List ℕ). codes "at " ++ t)
    (sym (append_assoc (a ++ and (codes "site")) (and b) (10 ∷ []) ∙ append_assoc a (and (codes "site")) (and b ++ (10 ∷ []))))

pub at_is : (e : Element) → at_text e ≡ at_line e.procedure.name e.site.number
at_is e = at_by e.procedure.name (decimal e.site.number)

var_by : (a b : List ℕ) → codes "var " ++ (a ++ (codes " " ++ (b ++ codes "\n"))) ≡ line (codes "var" ++ and a ++ and b)
var_by a b = ap (λ (t : List ℕ). codes "var " ++ t) (sym (append_assoc a (and b) (10 ∷ [])))

pub variable_is : (n : ℕ) (v : Var) → variable_text n v ≡ var_line n (value_in v)
variable_is n v = var_by (decimal n) (value_or_dead (value_in v))
