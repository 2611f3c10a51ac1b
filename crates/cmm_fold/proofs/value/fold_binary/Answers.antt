use Rattle.std.proofs.Common.{◌≡◌, sym, Some}
use Rattle.cmm_words.specs.Words.{value2}
use Rattle.cmm_fold.specs.Folding.{number_in}
use Rattle.cmm_fold.proofs.Standing.{binary_stands, number_is}
use Rattle.cmm_fold.proofs.value.fold_binary.Goals as goal

pub returns-in-Some-apply2-clause-stands : goal.returns-in-Some-apply2-clause-stands
returns-in-Some-apply2-clause-stands c =
    let first : number_in c.args.width c.args.left ≡ Some c.in-Some.a = sym c.in-Some.ensures in
    let second : number_in c.args.width c.args.right ≡ Some c.in-Some-number_in.b = sym c.in-Some-number_in.ensures in
    let value : value2 c.args.operator c.args.width c.in-Some.a c.in-Some-number_in.b ≡ Some c.in-Some-apply2.value = sym c.in-Some-apply2.ensures.value in
    rw c.number.ensures
    (binary_stands c.args.operator c.args.width c.args.left c.args.right c.in-Some.a c.in-Some-number_in.b c.in-Some-apply2.value
    (number_is c.args.width c.args.left c.in-Some.a first) (number_is c.args.width c.args.right c.in-Some-number_in.b second) value c.in-Some-apply2.ensures.word)
