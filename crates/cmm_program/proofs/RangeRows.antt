-- Worked rows: resolved programs are in range, with counts of tokens that were counted in their texts.
use Rattle.std.specs.List.{list_all}
use Rattle.std.proofs.Common.{◌≡◌, ℕ, Bool, true, false, List, [], ◌∷◌, refl}
use Rattle.std.specs.Prelude.{◌&&◌, nat_le, None}
use Rattle.cmm_words.specs.declared.width.Width.TheVariants.{W8, W64}
use Rattle.cmm_words.specs.declared.operators.Op2.TheVariants.{Add}
use Rattle.cmm_words.specs.declared.constant.Constant.TheVariants.{Number}
use Rattle.cmm_program.specs.declared.expression.Expression.TheVariants as e
use Rattle.cmm_program.specs.declared.statement.Form.TheVariants as f
use Rattle.cmm_program.specs.declared.procedure.Proc.{Proc}
use Rattle.cmm_program.specs.declared.program.Program.{Program}
use Rattle.cmm_program.specs.InRange.{is_body_in, is_form, is_site, is_continuation}
use Rattle.cmm_program.specs.declared.statement.Case.TheVariants.{In}
use Rattle.cmm_program.specs.declared.statement.Statement.{Statement}
use Rattle.cmm_program.specs.Numbering.{are_each_once, body_numbers, label_number, continuation_number, site_number, body_tokens}
use Rattle.cmm_program.specs.Tokens.{procedure_tokens}
use Rattle.cmm_program.specs.Typing.{typed}
use Rattle.cmm_program.proofs.Samples.{opened, num, is, arm, procedure}
use Rattle.cmm_program.proofs.Calls.{alternates, alternates-main, alternates-t, alternates-h, cutting, cutting-c, cutting-d, cutting-e, tail, tail-f}
use Rattle.cmm_program.proofs.Yielding.{unwinding, unwinding-mid, checked, checked-main, changing, changing-main, divide, divide-put, divide-main, divide-divide}

-- a procedure without declarations
abbrev bare : ℕ → List Statement → Proc
bare tokens body = procedure [] tokens 0 0 [] body

-- the statements, sites, continuations and counts of a procedure
abbrev keeps_rules : Program → Proc → Bool
keeps_rules p q =
    is_body_in p q (f.Span q.body) && list_all (is_site p q) q.sites && list_all (is_continuation p q) q.conts
    && nat_le (procedure_tokens q) q.tokens && nat_le (body_tokens q) q.tokens

alternates_main : keeps_rules alternates.program alternates-main ≡ true
unfolding opened
alternates_main = refl

alternates_t : keeps_rules alternates.program alternates-t ≡ true
unfolding opened
alternates_t = refl

alternates_h : keeps_rules alternates.program alternates-h ≡ true
unfolding opened
alternates_h = refl

cutting_c : keeps_rules cutting.program cutting-c ≡ true
unfolding opened
cutting_c = refl

cutting_d : keeps_rules cutting.program cutting-d ≡ true
unfolding opened
cutting_d = refl

cutting_e : keeps_rules cutting.program cutting-e ≡ true
unfolding opened
cutting_e = refl

tail_f : keeps_rules tail.program tail-f ≡ true
unfolding opened
tail_f = refl

unwinding_mid : keeps_rules unwinding.program unwinding-mid ≡ true
unfolding opened
unwinding_mid = refl

checked_main : keeps_rules checked.program checked-main ≡ true
unfolding opened
checked_main = refl

changing_main : keeps_rules changing.program changing-main ≡ true
unfolding opened
changing_main = refl

divide_put : keeps_rules divide.program divide-put ≡ true
unfolding opened
divide_put = refl

divide_main : keeps_rules divide.program divide-main ≡ true
unfolding opened
divide_main = refl

divide_divide : keeps_rules divide.program divide-divide ≡ true
unfolding opened
divide_divide = refl

-- `f() { ; }`, with one token more counted to the statement than it needs, as the whole leaves room for it
spare_token : keeps_rules tail.program (bare 6 (is 2 f.Empty ∷ [])) ≡ true
unfolding opened
spare_token = refl

-- but not where the statements' counts come to more than the procedure's, nor where a statement has too few
too_many_counted : keeps_rules tail.program (bare 6 (is 7 f.Empty ∷ [])) ≡ false
unfolding opened
too_many_counted = refl

too_few_counted : keeps_rules tail.program (bare 6 (is 0 f.Empty ∷ [])) ≡ false
unfolding opened
too_few_counted = refl

-- nothing assigned, and a case without a range
nothing_assigned : is_form tail.program tail-f (f.Assign [] []) ≡ false
unfolding opened
nothing_assigned = refl

no_range : is_form tail.program tail-f (f.Switch (num 1) (arm (In []) [] ∷ [])) ≡ false
unfolding opened
no_range = refl

-- a procedure with a token less than its text has
too_few_tokens : keeps_rules tail.program record tail-f { tokens = 25 } ≡ false
unfolding opened
too_few_tokens = refl

-- a sum of two widths
widths_differ : typed tail.program tail-f (e.Binary Add W64 (num 1) (e.Known (Number 1 W8))) ≡ None
unfolding opened
widths_differ = refl

-- numbers stand once each
alternates_continuations : body_numbers continuation_number alternates-t ≡ 0 ∷ 1 ∷ 2 ∷ []
unfolding opened
alternates_continuations = refl

divide_sites : body_numbers site_number divide-main ≡ 0 ∷ 1 ∷ []
unfolding opened
divide_sites = refl

divide_labels : body_numbers label_number divide-put ≡ 0 ∷ []
unfolding opened
divide_labels = refl

in_any_order : are_each_once 3 (2 ∷ 0 ∷ 1 ∷ []) ≡ true
in_any_order = refl

one_twice : are_each_once 3 (2 ∷ 0 ∷ 2 ∷ []) ≡ false
one_twice = refl

one_above : are_each_once 2 (0 ∷ 1 ∷ 2 ∷ []) ≡ false
one_above = refl
