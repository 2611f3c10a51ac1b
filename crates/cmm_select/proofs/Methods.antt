-- By which method each operator is done.
use Rattle.std.proofs.Common.{◌≡◌, refl}
use Rattle.std.specs.Prelude.{IsTrue}
use Rattle.cmm_words.specs.declared.operators.Op2.{Op2}
use Rattle.cmm_words.specs.declared.operators.Op2.TheVariants as op
use Rattle.cmm_select.specs.declared.operator.Method.TheVariants.{Plain, Shift, Copies, Left, Right, Signed, Quotient, Remainder}
use Rattle.cmm_select.specs.inside.Wide.{is_plain, is_shift, is_signed, method_of}

pub by_plain : (o : Op2) → method_of o ≡ Plain → IsTrue (is_plain o)
by_plain op.Add is = refl
by_plain op.Sub is = refl
by_plain op.Mul is = refl
by_plain op.And is = refl
by_plain op.Or is = refl
by_plain op.Xor is = refl
by_plain op.Divu is = refl
by_plain op.Modu is = refl
by_plain _ is = absurd (cc)

pub by_shift : (o : Op2) → method_of o ≡ Shift → IsTrue (is_shift o)
by_shift op.Shl is = refl
by_shift op.Shrl is = refl
by_shift _ is = absurd (cc)

pub by_signed : (o : Op2) → method_of o ≡ Signed → IsTrue (is_signed o)
by_signed op.Quot is = refl
by_signed op.Rem is = refl
by_signed _ is = absurd (cc)

pub by_copies : (o : Op2) → method_of o ≡ Copies → o ≡ op.Shra
by_copies op.Shra is = refl
by_copies _ is = absurd (cc)

pub by_left : (o : Op2) → method_of o ≡ Left → o ≡ op.Rotl
by_left op.Rotl is = refl
by_left _ is = absurd (cc)

pub by_right : (o : Op2) → method_of o ≡ Right → o ≡ op.Rotr
by_right op.Rotr is = refl
by_right _ is = absurd (cc)

pub by_quotient : (o : Op2) → method_of o ≡ Quotient → o ≡ op.Div
by_quotient op.Div is = refl
by_quotient _ is = absurd (cc)

pub by_remainder : (o : Op2) → method_of o ≡ Remainder → o ≡ op.Mod
by_remainder op.Mod is = refl
by_remainder _ is = absurd (cc)
