use Rattle.rv_table.proofs.RegisterFacts.{with_register-same, with_register-other, with_register-0}
use Rattle.rv_table.proofs.laws.registers_are_kept.Goals as goal

pub returns : goal.returns
returns c = record { same = with_register-same; other = with_register-other; zero = with_register-0 }
