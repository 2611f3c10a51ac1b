-- The orders in which B, U and J spread an immediate's bits, and back.
use Rattle.std.proofs.Common.{◌≡◌, ℕ, ◌+◌, ◌*◌, ◌/◌, ◌%◌, ◌<◌, ◌^◌, arith}
use Rattle.rv_table.specs.Encoding.{jump_order}

-- bits 12, 11, 10 to 5 and 4 to 1 of an even number make it up, as B spreads them over funct7 and rd
pub b_parts : (u : ℕ) → u < 2 ^ 13 → u % 2 ≡ 0 →
    (u / 4096 * 64 + u / 32 % 64) / 64 * 4096 + (u / 2 % 16 * 2 + u / 2048 % 2) % 2 * 2048 +
    (u / 4096 * 64 + u / 32 % 64) % 64 * 32 + (u / 2 % 16 * 2 + u / 2048 % 2) / 2 * 2 ≡ u
b_parts u h even = omega arith

-- a number spread over the fields above bit 12
pub upper_parts : (v : ℕ) → v / 8192 * 8192 + v / 256 % 32 * 256 + v / 8 % 32 * 8 + v % 8 ≡ v
upper_parts v = omega arith

-- the order of J undone
abbrev pub j_order : ℕ → ℕ
j_order v = v / 524288 * 1048576 + v % 256 * 4096 + v / 256 % 2 * 2048 + v / 512 % 1024 * 2

pub j_parts : (u : ℕ) → u < 2 ^ 21 → u % 2 ≡ 0 → j_order (jump_order u) ≡ u
j_parts u h even = omega arith

pub j_order-lt : (v : ℕ) → v < 2 ^ 20 → j_order v < 2 ^ 21
j_order-lt v h = omega arith

pub j_order-even : (v : ℕ) → j_order v % 2 ≡ 0
j_order-even v = omega arith

pub jump_order-j_order : (v : ℕ) → v < 2 ^ 20 → jump_order (j_order v) ≡ v
jump_order-j_order v h = omega arith
