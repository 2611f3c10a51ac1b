use Rattle.std.proofs.Common.{ℕ, ◌^◌, ◌<◌, Option, IfSome, subst}
use Rattle.cmm_words.specs.declared.operators.Op2.TheVariants.{Or, Xor, Rotl, Rotr}
use Rattle.cmm_words.specs.Widths.{bits}
use Rattle.cmm_words.proofs.WordLaws.{value2-word}
use Rattle.cmm_words.proofs.apply.apply2.Goals as goal

pub returns-in-Or-clause-word : goal.returns-in-Or-clause-word
returns-in-Or-clause-word c = value2-word Or c.args.width c.args.left c.args.right c.requires.left c.requires.right

pub returns-in-Xor-clause-word : goal.returns-in-Xor-clause-word
returns-in-Xor-clause-word c = value2-word Xor c.args.width c.args.left c.args.right c.requires.left c.requires.right

pub returns-in-Rotl-clause-word : goal.returns-in-Rotl-clause-word
returns-in-Rotl-clause-word c =
    let P : Option ℕ → Type 0 = λ value. IfSome value (λ n. n < 2 ^ bits c.args.width) in
    subst P c.rotate_left.ensures (value2-word Rotl c.args.width c.args.left c.args.right c.requires.left c.requires.right)

pub returns-in-Rotr-clause-word : goal.returns-in-Rotr-clause-word
returns-in-Rotr-clause-word c =
    let P : Option ℕ → Type 0 = λ value. IfSome value (λ n. n < 2 ^ bits c.args.width) in
    subst P c.rotate_right.ensures (value2-word Rotr c.args.width c.args.left c.args.right c.requires.left c.requires.right)
