-- Worked rows: the formulas, computed on values written by hand.
use Rattle.std.proofs.Common.{◌≡◌, Some, None, [], true, false, refl, codes}
use Rattle.cmm_words.specs.declared.width.Width.TheVariants.{W8, W16, W32, W64}
use Rattle.cmm_words.specs.declared.operators.Op1.TheVariants.{Com, Neg}
use Rattle.cmm_words.specs.declared.operators.Op2.TheVariants.{Sub, Shl, Shrl, Shra, Rotl, Rotr, Divu, Div, Mod, Quot, Rem}
use Rattle.cmm_words.specs.declared.operators.Cmp.TheVariants.{Lt, Ltu}
use Rattle.cmm_words.specs.Digits.{written}
use Rattle.cmm_words.specs.Words.{value1, value2, holds, sign_extended, low_bits}

-- -7 by 2, at each width: rounded down the quotient is -4 and the remainder 1, and toward zero they are -3 and -1
div_8 : value2 Div W8 249 2 ≡ Some 252
div_8 = refl

mod_8 : value2 Mod W8 249 2 ≡ Some 1
mod_8 = refl

quot_8 : value2 Quot W8 249 2 ≡ Some 253
quot_8 = refl

rem_8 : value2 Rem W8 249 2 ≡ Some 255
rem_8 = refl

div_16 : value2 Div W16 65529 2 ≡ Some 65532
div_16 = refl

mod_16 : value2 Mod W16 65529 2 ≡ Some 1
mod_16 = refl

quot_16 : value2 Quot W16 65529 2 ≡ Some 65533
quot_16 = refl

rem_16 : value2 Rem W16 65529 2 ≡ Some 65535
rem_16 = refl

div_32 : value2 Div W32 4294967289 2 ≡ Some 4294967292
div_32 = refl

mod_32 : value2 Mod W32 4294967289 2 ≡ Some 1
mod_32 = refl

quot_32 : value2 Quot W32 4294967289 2 ≡ Some 4294967293
quot_32 = refl

rem_32 : value2 Rem W32 4294967289 2 ≡ Some 4294967295
rem_32 = refl

div_64 : value2 Div W64 18446744073709551609 2 ≡ Some 18446744073709551612
div_64 = refl

mod_64 : value2 Mod W64 18446744073709551609 2 ≡ Some 1
mod_64 = refl

quot_64 : value2 Quot W64 18446744073709551609 2 ≡ Some 18446744073709551613
quot_64 = refl

rem_64 : value2 Rem W64 18446744073709551609 2 ≡ Some 18446744073709551615
rem_64 = refl

-- the least value by -1 is itself, and leaves nothing
div_least : value2 Div W8 128 255 ≡ Some 128
div_least = refl

mod_least : value2 Mod W8 128 255 ≡ Some 0
mod_least = refl

quot_least : value2 Quot W8 128 255 ≡ Some 128
quot_least = refl

rem_least : value2 Rem W8 128 255 ≡ Some 0
rem_least = refl

-- nothing is divided by 0
divu_zero : value2 Divu W8 128 0 ≡ None
divu_zero = refl

rem_zero : value2 Rem W8 128 0 ≡ None
rem_zero = refl

-- shifts of 129 by 0, 7, 8 and 255
shl_0 : value2 Shl W8 129 0 ≡ Some 129
shl_0 = refl

shl_7 : value2 Shl W8 129 7 ≡ Some 128
shl_7 = refl

shl_8 : value2 Shl W8 129 8 ≡ Some 0
shl_8 = refl

shl_255 : value2 Shl W8 129 255 ≡ Some 0
shl_255 = refl

shrl_7 : value2 Shrl W8 129 7 ≡ Some 1
shrl_7 = refl

shrl_255 : value2 Shrl W8 129 255 ≡ Some 0
shrl_255 = refl

shra_0 : value2 Shra W8 129 0 ≡ Some 129
shra_0 = refl

shra_7 : value2 Shra W8 129 7 ≡ Some 255
shra_7 = refl

shra_255 : value2 Shra W8 129 255 ≡ Some 255
shra_255 = refl

-- a count far past the width computes too
shra_far : value2 Shra W64 9223372036854775808 18446744073709551615 ≡ Some 18446744073709551615
shra_far = refl

-- rotations of 129
rotl_1 : value2 Rotl W8 129 1 ≡ Some 3
rotl_1 = refl

rotl_8 : value2 Rotl W8 129 8 ≡ Some 129
rotl_8 = refl

rotr_1 : value2 Rotr W8 129 1 ≡ Some 192
rotr_1 = refl

rotr_9 : value2 Rotr W8 129 9 ≡ Some 192
rotr_9 = refl

-- the rest, once each
sub_wraps : value2 Sub W8 3 5 ≡ Some 254
sub_wraps = refl

neg_least : value1 Neg W8 128 ≡ 128
neg_least = refl

com_8 : value1 Com W8 129 ≡ 126
com_8 = refl

signed_order : holds Lt W8 128 127 ≡ true
signed_order = refl

unsigned_order : holds Ltu W8 128 127 ≡ false
unsigned_order = refl

extended_high : sign_extended W8 W16 129 ≡ 65409
extended_high = refl

cut : low_bits W8 65409 ≡ 129
cut = refl

-- the digits of each base, of which the first counts the most
octal : written 8 (codes "0777") ≡ Some 511
octal = refl

decimal : written 10 (codes "1907") ≡ Some 1907
decimal = refl

hexadecimal : written 16 (codes "fF") ≡ Some 255
hexadecimal = refl

-- a digit of another base, and no digit at all, are no number
octal_8 : written 8 (codes "18") ≡ None
octal_8 = refl

no_digit : written 10 [] ≡ None
no_digit = refl

-- the greatest number, and the first that is too great
greatest : written 10 (codes "18446744073709551615") ≡ Some 18446744073709551615
greatest = refl

too_great : written 16 (codes "10000000000000000") ≡ None
too_great = refl
