-- Which variables are live at a call site, in terms of paths of any length: a variable is live at a site where some path
-- from one of the site's exits reaches a statement that reads it, and nothing writes it before on that path (Ramsey and
-- Peyton Jones, PLDI 2000, flow edges). The positions and the ways of a path are those of `Liveness`, whose `is_live_at`
-- computes the same, as `Laws` says.
use Rattle.std.specs.Prelude.{ℕ, IsTrue, IsFalse, Contains, List, ◌∷◌}
use Rattle.cmm_program.specs.declared.statement.Statement.{Statement}
use Rattle.cmm_program.specs.declared.procedure.Proc.{Proc}
use Rattle.cmm_program.specs.declared.procedure.Site.{Site}
use Rattle.cmm_program.specs.Bodies.{AtSite, follow}
use Rattle.cmm_program.specs.Liveness.{Way, to_next, to_continuation, exits_at, ways, read_in, is_among}

-- the exits of a site, before what follows its statement: the normal one, unless the site never returns, and one to each
-- continuation that it also returns, unwinds or cuts to
pub data IsExit (p : Proc) (site : Site) (rest : List Statement) : Way → Type 0 where
  Normal : IsFalse site.never → IsExit p site rest (to_next site rest)
  Alternate : (k : ℕ) → Contains site.returns k → IsExit p site rest (to_continuation p k)
  Unwind : (k : ℕ) → Contains site.unwinds k → IsExit p site rest (to_continuation p k)
  Cut : (k : ℕ) → Contains site.cuts k → IsExit p site rest (to_continuation p k)

-- some path from here on reaches a statement that reads the variable, and nothing writes it before on that path
pub data IsReadFrom (p : Proc) (v : ℕ) : List Statement → Type 0 where
  -- the statement here reads it
  Here : (s : Statement) (rest : List Statement) → IsTrue (is_among v (read_in s.form)) → IsReadFrom p v (s ∷ rest)
  -- a way on from the statement here, on which it is not written, leads to where such a path begins
  Onward : (s : Statement) (rest : List Statement) (way : Way) → Contains (ways p s.form rest) way →
      IsFalse (is_among v way.written) → IsReadFrom p v way.to → IsReadFrom p v (s ∷ rest)

-- such a path begins at an exit of the site, and the variable is not written at that exit
pub record IsLiveAt (p : Proc) (site v : ℕ) : Type 0 where
  pub exit : Way
  pub is_exit : Contains (exits_at p site (follow p (AtSite site))) exit
  pub unwritten : IsFalse (is_among v exit.written)
  pub is_read : IsReadFrom p v exit.to
