-- What the tables of an image keep inside frames.
use Rattle.std.specs.Prelude.{◌≡◌, ◌+◌, ◌≤◌, IsSome, IfSome, length}
use Rattle.std.specs.List.{All}
use Rattle.cmm_image.specs.declared.rows.ProcRow.{ProcRow}
use Rattle.cmm_image.specs.declared.rows.SiteRow.{SiteRow}
use Rattle.cmm_image.specs.Places.{IsPlace}

-- A site in a procedure: the frame has 16 bytes, and the saved return address, each saved register and the slot of each variable lie in it.
-- Each variable has a place at the site.
pub record KeepsFrame (p : ProcRow) (s : SiteRow) : Type 0 where
  pub size : 16 ≤ p.frame
  pub saves : IsSome p.return_at
  pub returns : IfSome p.return_at (λ offset. offset + 8 ≤ p.frame)
  pub saved : All (λ r. r.offset + 8 ≤ p.frame) p.saved
  pub places : All (IsPlace p.frame) s.variables
  pub count : length s.variables ≡ length p.variables
