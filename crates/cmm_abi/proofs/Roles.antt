-- The roles of registers: who is called saves those that are listed, and nothing else is in a scratch register.
use Rattle.std.proofs.Common.{arith}
use Rattle.std.proofs.lemmas.Bool.Decides.{nat_tests}
use Rattle.cmm_abi.specs.Laws.{CalleeSavesAreListed, ScratchIsApart}

pub callee_saves_are_listed : CalleeSavesAreListed
callee_saves_are_listed r = grind (arith, nat_tests)

pub scratch_is_apart : ScratchIsApart
scratch_is_apart r is = record {
  saved = grind (arith, nat_tests, is);
  temporary = grind (arith, nat_tests, is);
  value = grind (arith, nat_tests, is);
  fixed = grind (arith, nat_tests, is);
}
