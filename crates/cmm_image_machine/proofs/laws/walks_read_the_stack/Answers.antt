use Rattle.cmm_image_machine.proofs.StackRead.{walk_reads_the_stack}
use Rattle.cmm_image_machine.proofs.laws.walks_read_the_stack.Goals as goal

pub returns : goal.returns
returns c = walk_reads_the_stack
