-- What the tables of an image bound, row by row, beside what lies in frames.
use Rattle.std.specs.Prelude.{ℕ, ◌+◌, ◌<◌, ◌≤◌, IsTrue, IfSome, length}
use Rattle.std.specs.List.{All}
use Rattle.rv_table.specs.declared.memory_map.TheConstants.{CODE_BASE, CODE_LENGTH_LIMIT, DATA_LENGTH_LIMIT}
use Rattle.cmm_abi.specs.Registers.{is_callee_saves}
use Rattle.cmm_image.specs.declared.parts.ImageParts.{ImageParts}
use Rattle.cmm_image.specs.declared.rows.ProcRow.{ProcRow}
use Rattle.cmm_image.specs.declared.rows.SiteRow.{SiteRow}

-- A procedure: it saves callee-saves registers alone, its stackdata labels lie in its frame or at the frame's end, and no continuation has more
-- than 64 parameters.
pub record BoundsProcedure (p : ProcRow) : Type 0 where
  pub registers : All (λ s. IsTrue (is_callee_saves s.register)) p.saved
  pub variables : length p.variables ≤ 1024
  pub labels : All (λ l. l.offset ≤ p.frame) p.stack_labels
  pub parameters : All (λ c. length c.parameters ≤ 64) p.continuations

-- A site in code of this length: its return address is in the code, and it has at most 64 results, alternate exits and values that it yields.
pub record BoundsSite (code_length : ℕ) (s : SiteRow) : Type 0 where
  pub above : CODE_BASE ≤ s.return_address
  pub below : s.return_address < CODE_BASE + code_length
  pub results : length s.results ≤ 64
  pub returns : length s.returns ≤ 64
  pub yields : IfSome s.yield_values (λ count. count ≤ 64)

-- all rows of an image, and the lengths of its code and of its data
pub record BoundsRows (i : ImageParts) : Type 0 where
  pub code : length i.code ≤ CODE_LENGTH_LIMIT
  pub initial : length i.initial ≤ DATA_LENGTH_LIMIT
  pub procedures : All BoundsProcedure i.procs
  pub sites : All (BoundsSite (length i.code)) i.sites
