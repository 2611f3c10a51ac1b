-- The parameters of continuations, and the exits of sites, of a program in range have small numbers.
use Rattle.std.proofs.Common.{◌≡◌, ℕ, ◌<◌, ◌≤◌, ◌^◌, nat_lt, true, All, List, [], ◌∷◌, length, arith}
use Rattle.std.proofs.lemmas.Bool.{and_parts, ltb-true}
use Rattle.std.proofs.lemmas.List.Elements.{All-cons, All-head, All-nil, All-tail}
use Rattle.std.specs.List.{list_all}
use Rattle.cmm_program.specs.declared.procedure.Cont.{Cont}
use Rattle.cmm_program.specs.declared.procedure.Proc.{Proc}
use Rattle.cmm_program.specs.declared.program.Program.{Program}
use Rattle.cmm_program.specs.InRange.{IsInRange, IsProcInRange, at_most_64, below, is_continuation}
use Rattle.cmm_program.specs.declared.procedure.Site.{Site}
use Rattle.cmm_program.specs.InRange.{is_site}
use Rattle.cmm_tables.specs.Premises as tables
use Rattle.cmm_tables.specs.Premises.{HasShortExits, HasShortSites}
use Rattle.cmm_link.specs.inside.Named.{AreShort, HasShortParameters}
use Rattle.cmm_link.proofs.SiteYields.{parts_of}
use Rattle.cmm_link.proofs.Tokens.{sites_counted, tokens_of_parts}

params_short : (count : ℕ) (params : List ℕ) → count ≤ 1024 → list_all (below count) params ≡ true → All (λ v. v < 2 ^ 16) params
params_short count [] few are = All-nil (λ v. v < 2 ^ 16)
params_short count (v ∷ vs) few are =
    let both = and_parts (nat_lt v count) (list_all (below count) vs) are in
    All-cons (λ v. v < 2 ^ 16) v vs (omega (arith, few, ltb-true v count both.0)) (params_short count vs few both.1)

conts_short : (p : Program) (q : Proc) (conts : List Cont) → length q.vars ≤ 1024 → list_all (is_continuation p q) conts ≡ true → All HasShortParameters conts
conts_short p q [] few are = All-nil HasShortParameters
conts_short p q (c ∷ cs) few are =
    let both = and_parts (is_continuation p q c) (list_all (is_continuation p q) cs) are in
    let own = and_parts (at_most_64 c.params) (list_all (below (length q.vars)) c.params) both.0 in
    All-cons HasShortParameters c cs (params_short (length q.vars) c.params few own.1) (conts_short p q cs few both.1)

procs_short : (p : Program) (procs : List Proc) → All (IsProcInRange p) procs → All AreShort procs
procs_short p [] range = All-nil AreShort
procs_short p (q ∷ procs) range =
    let here : IsProcInRange p q = All-head (IsProcInRange p) q procs range in
    All-cons AreShort q procs (conts_short p q q.conts here.variables here.continuations) (procs_short p procs (All-tail (IsProcInRange p) q procs range))

pub parameters_short : (p : Program) → IsInRange p → All AreShort p.procs
parameters_short p range = procs_short p p.procs range.procedures

-- ---- sites

below_short : (count : ℕ) (ks : List ℕ) → count ≤ 2 ^ 16 → list_all (below count) ks ≡ true → tables.AreShort ks
below_short count [] few are = All-nil (λ k. k < 2 ^ 16)
below_short count (k ∷ ks) few are =
    let both = and_parts (nat_lt k count) (list_all (below count) ks) are in
    All-cons (λ k. k < 2 ^ 16) k ks (omega (arith, few, ltb-true k count both.0)) (below_short count ks few both.1)

exits_short : (p : Program) (q : Proc) (sites : List Site) → length q.conts ≤ 2 ^ 16 → list_all (is_site p q) sites ≡ true → All HasShortExits sites
exits_short p q [] few are = All-nil HasShortExits
exits_short p q (s ∷ sites) few are =
    let both = and_parts (is_site p q s) (list_all (is_site p q) sites) are in
    let parts = (parts_of p q s both.0).0 in
    let exits : HasShortExits s = record {
      returns = below_short (length q.conts) s.returns few parts.returns_below;
      unwinds = below_short (length q.conts) s.unwinds few parts.unwinds_below;
      cuts = below_short (length q.conts) s.cuts few parts.cuts_below;
    } in
    All-cons HasShortExits s sites exits (exits_short p q sites few both.1)

sites_short_in : (p : Program) (q : Proc) → IsProcInRange p q → HasShortSites q
sites_short_in p q range =
    let most = range.frames.tokens in
    let few = range.variables in
    record {
      variables = omega (arith, few);
      count = omega (arith, most, tokens_of_parts p q range, sites_counted q.sites);
      exits = exits_short p q q.sites (omega (arith, most, tokens_of_parts p q range)) range.sites;
    }

all_short : (p : Program) (procs : List Proc) → All (IsProcInRange p) procs → All HasShortSites procs
all_short p [] range = All-nil HasShortSites
all_short p (q ∷ procs) range =
    All-cons HasShortSites q procs (sites_short_in p q (All-head (IsProcInRange p) q procs range)) (all_short p procs (All-tail (IsProcInRange p) q procs range))

pub sites_short : (p : Program) → IsInRange p → All HasShortSites p.procs
sites_short p range = all_short p p.procs range.procedures
