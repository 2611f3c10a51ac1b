-- How many procedures and call sites a program has, as `gen` tells it. Each line has the byte 10 at its end.
use Rattle.std.specs.Prelude.{ℕ, List, ◌++◌, codes, decimal, length, sum_by}
use Rattle.cmm_program.specs.declared.program.Program.{Program}

-- how many call sites a program has
abbrev pub site_count : Program → ℕ
site_count p = sum_by (λ q. length q.sites) p.procs

-- the lines of the counts of a program
abbrev pub counts_lines : Program → List ℕ
counts_lines p = codes "procedures " ++ (decimal (length p.procs) ++ (codes "\nsites " ++ (decimal (site_count p) ++ codes "\n")))
