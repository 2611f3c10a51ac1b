use Rattle.std.proofs.Common.{◌≡◌, ◌+◌, ◌<◌, ◌≤◌, length, subst, arith, ◌∷◌, ◌++◌}
use Rattle.cmm_static_semantics.specs.declared.fault.Fault.{Fault}
use Rattle.cmm_rules.specs.declared.rule.Rule.TheVariants.{UnitTooLong}
use Rattle.cmm_front.specs.Refusing.{BreaksLexis}
use Rattle.cmm_front.specs.Sources.{HasTokens, IsLexicalFault}
use Rattle.cmm_front.proofs.First.{first_behind, first_still, have_tokens, refused_for}
use Rattle.cmm_front.proofs.Named.{first_unit}
use Rattle.cmm_front.proofs.Read.{too_long_is}
use Rattle.cmm_front.proofs.tokens.too_long.Goals as goal

pub returns-in-Err-clause-first : goal.returns-in-Err-clause-first
returns-in-Err-clause-first c unit rest more =
    refused_for (BreaksLexis c.args.before.now) (BreaksLexis (c.args.before.now ++ unit ∷ rest)) (λ f broken. first_still HasTokens IsLexicalFault 0 c.args.before.now (unit ∷ rest) f broken)
    c.in-Err.fault c.in-Err.ensures.err

pub returns-clause-first : goal.returns-clause-first
returns-clause-first c unit rest more =
    let n = length c.args.before.now in
    let f : Fault = record { rule = UnitTooLong; unit = n; line = 1; column = 1 } in
    let same : n ≡ 0 + n = omega arith in
    first_behind HasTokens IsLexicalFault 0 c.args.before.now unit rest f (have_tokens c.args.before.now c.in_default.field-0 c.in_default.ensures.ok)
    (subst (λ m. IsLexicalFault unit m f) same (too_long_is unit n more))

pub returns-in-Err-clause-named : goal.returns-in-Err-clause-named
returns-in-Err-clause-named c =
    refused_for (BreaksLexis c.args.before.now) (λ f. f.unit ≤ length c.args.before.now)
    (λ f broken. let below : f.unit < 0 + length c.args.before.now = first_unit HasTokens IsLexicalFault (λ unit number g b. b.is_unit) 0 c.args.before.now f broken in omega arith)
    c.in-Err.fault c.in-Err.ensures.err
