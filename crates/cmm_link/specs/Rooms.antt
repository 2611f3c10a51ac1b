-- Which programs have images that are not too long.
use Rattle.std.specs.Prelude.{ℕ, ◌+◌, ◌*◌, ◌≤◌, length, sum_by}
use Rattle.cmm_program.specs.declared.program.Program.{Program}
use Rattle.cmm_program.specs.Bounds.{code_bound}
use Rattle.cmm_program.specs.Limits.{token_limit}
use Rattle.cmm_unit_code.specs.declared.text.Text.{Text}

-- the names under which data labels are exported
abbrev pub link_count : Program → ℕ
link_count p = sum_by (λ l. length l.links) p.labels

-- The code is as long as the tokens of all units allow, and the tokens of procedures and of exports are among these. An export of a name
-- has two tokens at least: a name, and what stands behind it.
pub record HasRoom (p : Program) (t : Text) : Type 0 where
  pub code : length t.code ≤ code_bound token_limit
  pub tokens : sum_by (λ q. q.tokens) p.procs + 2 * link_count p ≤ token_limit
