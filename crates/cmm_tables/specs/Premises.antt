-- Which procedures have numbers that rows have room for, and sets that are exact.
use Rattle.std.specs.Prelude.{◌≡◌, ℕ, ◌<◌, ◌^◌, Bool, [], List, length, slice_index_or}
use Rattle.std.specs.List.{All}
use Rattle.cmm_bitset.specs.Sets.{has}
use Rattle.cmm_program.specs.declared.procedure.Proc.{Proc}
use Rattle.cmm_program.specs.declared.procedure.Site.{Site}
use Rattle.cmm_program.specs.Liveness.{is_live_at}

abbrev pub AreShort : List ℕ → Type 0
AreShort numbers = All (λ k. k < 2 ^ 16) numbers

-- the exits of a site lead to continuations with short numbers
pub record HasShortExits (site : Site) : Type 0 where
  pub returns : AreShort site.returns
  pub unwinds : AreShort site.unwinds
  pub cuts : AreShort site.cuts

-- variables, sites and continuations of a procedure have numbers that rows have room for
pub record HasShortSites (p : Proc) : Type 0 where
  pub variables : length p.vars < 2 ^ 16
  pub count : length p.sites < 2 ^ 32
  pub exits : All HasShortExits p.sites

-- the set of each site has just the variables that are live there
abbrev pub AreExactSets : Proc → List (List Bool) → Type 0
AreExactSets p sets = (n v : ℕ) → n < length p.sites → v < length p.vars → has (slice_index_or sets n []) v ≡ is_live_at p n v
