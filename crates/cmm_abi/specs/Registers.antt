-- The registers by their roles (RISC-V ABIs Specification, Integer Register Convention: s1 to s11 are saved by who is called).
use Rattle.std.specs.Prelude.{ℕ, ◌+◌, ◌==◌, ◌&&◌, ◌||◌, nat_le, nat_lt, Bool, List}
use Rattle.cmm_abi.specs.declared.registers.TheConstants.{ZERO, RETURN_ADDRESS, FRAME, REGION, FIRST_SCRATCH, SECOND_SCRATCH, FIRST_VALUE, CALLEE_SAVES}
use Rattle.cmm_abi.specs.declared.values.TheConstants.{IN_REGISTERS}

-- the registers s1 to s11, which a procedure gives back as it got them
abbrev pub is_callee_saves : ℕ → Bool
is_callee_saves r = (r == 9) || (nat_le 18 r && nat_le r 27)

abbrev pub callee_saves : List ℕ
callee_saves = CALLEE_SAVES

-- other registers in which a local may be
abbrev pub is_temporary : ℕ → Bool
is_temporary r = (nat_le 12 r && nat_le r 15) || (nat_le 28 r && nat_le r 31)

-- registers 5 to 7, which code uses between two nodes and nothing keeps
abbrev pub is_scratch : ℕ → Bool
is_scratch r = nat_le FIRST_SCRATCH r && nat_le r SECOND_SCRATCH

-- registers that have one meaning wherever code runs: 0, the return address, the frame, the region
abbrev pub is_fixed : ℕ → Bool
is_fixed r = (r == ZERO) || ((r == RETURN_ADDRESS) || ((r == FRAME) || (r == REGION)))

-- registers 10 to 17, in which values travel
abbrev pub carries_value : ℕ → Bool
carries_value r = nat_le FIRST_VALUE r && nat_lt r (FIRST_VALUE + IN_REGISTERS)
