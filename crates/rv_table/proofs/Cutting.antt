-- A word's fields: cutting undoes packing, and packing undoes cutting.
use Rattle.std.proofs.Common.{◌≡◌, ℕ, ◌/◌, ◌%◌, ◌<◌, ◌^◌, arith}
use Rattle.rv_table.specs.declared.word_fields.Fields.{Fields}
use Rattle.rv_table.specs.Encoding.{InRange, packed, cut}

pub packed-lt : (f : Fields) → InRange f → packed f < 2 ^ 32
packed-lt f r = omega arith

pub packed-cut : (word : ℕ) → packed (cut word) ≡ word
packed-cut word = omega arith

pub in_range_cut : (word : ℕ) → word < 2 ^ 32 → InRange (cut word)
in_range_cut word h = record {
  opcode = omega arith;
  rd = omega arith;
  funct3 = omega arith;
  rs1 = omega arith;
  rs2 = omega arith;
  funct7 = omega arith;
}

pub cut-packed : (f : Fields) → InRange f → cut (packed f) ≡ f
cut-packed f r =
    let a : packed f % 128 ≡ f.opcode = omega arith in
    let b : packed f / 128 % 32 ≡ f.rd = omega arith in
    let c : packed f / 4096 % 8 ≡ f.funct3 = omega arith in
    let d : packed f / 32768 % 32 ≡ f.rs1 = omega arith in
    let e : packed f / 1048576 % 32 ≡ f.rs2 = omega arith in
    let g : packed f / 33554432 ≡ f.funct7 = omega arith in
    rw (a, b, c, d, e, g)
