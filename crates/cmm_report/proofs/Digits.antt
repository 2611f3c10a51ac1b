-- The digits of bytes are those of the numbers that they make.
use Rattle.std.proofs.Common.{◌≡◌, ℕ, ◌*◌, ◌/◌, ◌%◌, ◌^◌, ◌<◌, true, false, [], ◌∷◌, Result, Ok, Err, refl, ap, ◌∙◌, arith}
use Rattle.std.proofs.Math.Nat.{div-div-eq-div-mul}
use Rattle.std.specs.Result.{IsOk, OnOk}
use Rattle.std.specs.Int.{to_be_bytes, w64}
use Rattle.hex.specs.Hex.{encode_with, encode_lower}
use Rattle.cmm_report.specs.Texts.{address_text}
use Rattle.cmm_script.specs.Kinds.{hex_digit, is_plain, kind_byte}

pub kind_byte-plain : (b : ℕ) → is_plain b ≡ true → kind_byte b ≡ b ∷ []
unfolding kind_byte
kind_byte-plain b h = rw h refl

-- the two digits of a byte, which stands before others in a number
byte-high : (q : ℕ) → q % 256 / 16 ≡ q / 16 % 16
byte-high q = omega arith

byte-low : (q : ℕ) → q % 256 % 16 ≡ q % 16
byte-low q = omega arith

table-high : (n d : ℕ) → hex_digit (n / d % 256 / 16) ≡ hex_digit (n / (d * 16) % 16)
table-high n d = ap hex_digit (byte-high (n / d) ∙ ap (λ (m : ℕ). m % 16) (div-div-eq-div-mul n d 16))

table-low : (q : ℕ) → hex_digit (q % 256 % 16) ≡ hex_digit (q % 16)
table-low q = ap hex_digit (byte-low q)

div-one : (n : ℕ) → n / 1 ≡ n
div-one n = omega arith

-- a byte that is not plain
pub kind_byte-other : (b : ℕ) → b < 256 → is_plain b ≡ false → kind_byte b ≡ 92 ∷ 120 ∷ encode_lower (b ∷ [])
unfolding kind_byte encode_with
kind_byte-other b l h =
    let high : b / 16 ^ 1 % 16 ≡ b / 16 = omega arith in
    let low : b / 16 ^ 0 % 16 ≡ b % 16 = omega arith in
    rw (h, high, low) refl

-- the digits of an address are those of its bytes
pub address_text-bytes : (n : ℕ) → encode_lower (to_be_bytes w64 n) ≡ address_text n
unfolding address_text encode_with
address_text-bytes n =
    let last : hex_digit (n / 1 % 16) ≡ hex_digit (n % 16) = ap (λ (m : ℕ). hex_digit (m % 16)) (div-one n) in
    let high : hex_digit (n % 256 / 16) ≡ hex_digit (n / 16 % 16) = ap hex_digit (byte-high n) in
    cc (
      table-high n 72057594037927936,
      table-low (n / 72057594037927936),
      table-high n 281474976710656,
      table-low (n / 281474976710656),
      table-high n 1099511627776,
      table-low (n / 1099511627776),
      table-high n 4294967296,
      table-low (n / 4294967296),
      table-high n 16777216,
      table-low (n / 16777216),
      table-high n 65536,
      table-low (n / 65536),
      table-high n 256,
      table-low (n / 256),
      high,
      table-low n,
      last,
    )

-- what holds where a call went well
pub on_ok : {T E : Type 0} (r : Result T E) {P : Type 0} → IsOk r → OnOk r P → P
on_ok (Ok x) h p = p
on_ok (Err e) h p = absurd (cc)
