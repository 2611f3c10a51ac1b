use Rattle.cmm_image.proofs.SecondLaws.{second-exact}
use Rattle.cmm_image.proofs.laws.second_tables_are_read.Goals as goal

pub returns : goal.returns
returns c = record {
  again = λ code_length procedures sites. (second-exact code_length procedures sites).again;
  taken = λ code_length procedures sites bytes t rest fits e.
      let taken = (second-exact code_length procedures sites).taken bytes t rest fits e in
      (taken.0, taken.1);
}
