use Rattle.std.proofs.Common.{◌≡◌, replicate, refl, ◌∙◌}
use Rattle.rv_memory.specs.Regions.{region_of}
use Rattle.rv_table.specs.Machine.{top}
use Rattle.rv_table.specs.Registers.{registers_of, with_register}
use Rattle.cmm_abi.specs.declared.registers.TheConstants.{FRAME, REGION}
use Rattle.cmm_run.proofs.Zeros.{all_zero}
use Rattle.cmm_run.proofs.machine.first_registers.Goals as goal

pub returns : goal.returns
returns c bytes =
    let nothing : registers_of (record { x = replicate 32 0; pc = c.args.start }) ≡ (λ _. 0) = all_zero (record { x = replicate 32 0; pc = c.args.start }) refl in
    let first : registers_of c.write.new.self ≡ with_register (λ _. 0) FRAME (top (region_of c.args.memory.now)) =
    c.write.ensures.register ∙ (λ i. with_register (nothing i) FRAME (c.top.ensures i)) in
    let both = c.write-2.ensures.register ∙ (λ i. with_register (first i) REGION (c.region.ensures.address i)) in
    λ i. record { registers = both i; pc = (c.write-2.ensures.pc ∙ c.write.ensures.pc) i; memory = bytes }
