-- What the layers above use of the definitions of liveness, and what a client lists.
use Rattle.std.specs.Prelude.{◌≡◌, ℕ, ◌↔◌, IsTrue, Contains, List}
use Rattle.cmm_script.specs.declared.script.Command.TheVariants.{List as ListAll}
use Rattle.cmm_script.specs.Walk.{walk_text}
use Rattle.cmm_program.specs.declared.statement.Statement.{Statement}
use Rattle.cmm_program.specs.declared.procedure.Proc.{Proc}
use Rattle.cmm_program.specs.declared.procedure.Site.{Site}
use Rattle.cmm_program.specs.declared.program.Program.{Program}
use Rattle.cmm_program.specs.InRange.{IsProcInRange}
use Rattle.cmm_program.specs.Liveness.{Way, exits, is_live_at}
use Rattle.cmm_program.specs.LivePaths.{IsExit, IsLiveAt}
use Rattle.cmm_program.specs.State.{Setting, Store}
use Rattle.cmm_program.specs.Walks.{walk_of}
use Rattle.cmm_program.specs.Asking.{Cursor}
use Rattle.cmm_program.specs.Commands.{Goes, reply}
use Rattle.cmm_program.specs.Client.{Located, store_askable}

-- paths leave a site by its exits and by nothing else
abbrev pub ExitsAreComplete : Type 0
ExitsAreComplete = (q : Proc) (site : Site) (rest : List Statement) (way : Way) →
    Contains (exits q site rest) way ↔ IsExit q site rest way

-- The test of liveness, which looks along paths of at most as many statements as the procedure has tokens, misses no path.
abbrev pub LivenessIsByPaths : Type 0
LivenessIsByPaths = (p : Program) (q : Proc) (site v : ℕ) → IsProcInRange p q →
    IsTrue (is_live_at q site v) ↔ IsLiveAt q site v

-- the walk of the store is what a client lists
abbrev pub ListingIsTheWalk : Type 0
ListingIsTheWalk = (s : Setting) (yielded : List ℕ) (cursor : Cursor Located) (store : Store) →
    reply (store_askable s) yielded cursor store ListAll ≡ record { text = walk_text (walk_of s store); after = Goes cursor store }
