-- A thread of a stopped program that is lent to be changed.
use Rattle.std.specs.Borrow.{Lends, MutBor, Fml}
use Rattle.cmm_client.specs.declared.stopped.Stopped.{Stopped}
use Rattle.cmm_client.specs.declared.stopped.Thread.{Thread}
use Rattle.cmm_client.specs.contracts.stopped.Stopped as stopped
use Rattle.cmm_client.specs.contracts.stopped.Thread as thread

-- the program ends with the thread that the caller leaves
abbrev pub LendsThread : MutBor Stopped → MutBor Thread → Fml
LendsThread s t = Lends stopped.the_row thread.the_row s t (λ left. record { thread = left })
