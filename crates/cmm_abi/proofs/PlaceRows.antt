-- Worked rows, by computing: where values and global registers lie in a region.
use Rattle.std.proofs.Common.{◌≡◌, refl}
use Rattle.cmm_abi.specs.Regions.{Region, InRegister, InMemory, bottom, global_address, top, value_place}

-- a region of another thread, with a stack of 4,096 bytes
region : Region
region = record { address = 0x60100000; stack_size = 4096 }

stack : (bottom region ≡ 0x60101000) × (top region ≡ 0x60102000)
unfolding region
stack = (refl, refl)

-- the first eight values in registers, and the others in the argument area up to the global registers
in_registers : (value_place region 0 ≡ InRegister 10) × (value_place region 7 ≡ InRegister 17)
unfolding region
in_registers = (refl, refl)

in_memory : (value_place region 8 ≡ InMemory 0x60100000) × (value_place region 63 ≡ InMemory 0x601001b8)
unfolding region
in_memory = (refl, refl)

globals : (global_address region 0 ≡ 0x601001c0) × (global_address region 255 ≡ 0x601009b8)
unfolding region
globals = (refl, refl)
