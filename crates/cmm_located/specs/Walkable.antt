-- Whether the stack is a chain of the activations that wait, which the located machine tests at a yield.
use Rattle.std.specs.Prelude.{◌≡◌, ◌&&◌, ◌||◌, ◌+◌, ◌==◌, not, nat_lt, ℕ, suc, Bool, true, false, List, [], ◌∷◌, length, Option, Some, None}
use Rattle.std.specs.List.{list_all, range_with_len}
use Rattle.cmm_program.specs.declared.procedure.Proc.{Proc}
use Rattle.cmm_program.specs.Frames.{procedure_at}
use Rattle.cmm_program.specs.Liveness.{is_live_at}
use Rattle.cmm_program.specs.State.{Setting, Activation, stack_top}
use Rattle.cmm_graph.specs.declared.number.NodeId.{NodeId}
use Rattle.cmm_graph.specs.declared.number.SiteId.{SiteId}
use Rattle.cmm_graph.specs.GraphControl.{kind_at}
use Rattle.cmm_live.specs.Sites.{site_of}
use Rattle.cmm_chain.specs.Contents.{Content, Contents, Number, ReturnTo, LandingOf, LastReturn}
use Rattle.cmm_chain.specs.Chain.{Point, behind, found}
use Rattle.cmm_located.specs.Compiled.{Compiled}

abbrev pub is_number : Content → Bool
is_number (Number n) = true
is_number _ = false

abbrev pub is_number_of : ℕ → Content → Bool
is_number_of m (Number n) = n == m
is_number_of m _ = false

abbrev pub is_return_to : ℕ → ℕ → Content → Bool
is_return_to q n (ReturnTo p k) = (p == q) && (k == n)
is_return_to q n _ = false

abbrev pub is_landing_of : ℕ → ℕ → Content → Bool
is_landing_of q n (LandingOf p k) = (p == q) && (k == n)
is_landing_of q n _ = false

abbrev pub is_last : Content → Bool
is_last LastReturn = true
is_last _ = false

-- the pairs of continuations, counted from one on, stand in the frame
abbrev pub have_pairs : Contents → ℕ → ℕ → ℕ → List ℕ → Bool
have_pairs contents q at k [] = true
have_pairs contents q at k (offset ∷ rest) =
    is_landing_of q k (contents (at + offset)) && (is_number_of at (contents (at + (offset + 8))) && have_pairs contents q at (suc k) rest)

module _ (s : Setting) (c : Compiled) (contents : Contents) where
  abbrev pub locals_known : Point → ℕ → Proc → ℕ → Bool
  locals_known p q proc n = list_all (λ v. not (is_live_at proc n v) || is_number (found contents p (c.plan.place q v))) (range_with_len 0 (length proc.vars))

  abbrev pub waits_at : Point → ℕ → Option Proc → Option ℕ → Bool
  waits_at p q (Some proc) (Some n) =
      nat_lt n (length proc.sites) && (is_return_to q n p.back && (locals_known p q proc n && have_pairs contents q p.at 0 (c.plan.frame q).pairs))
  waits_at p q _ _ = false

  abbrev pub is_walkable : List Activation → Point → Bool
  is_walkable [] p = (p.at == stack_top s) && is_last p.back
  is_walkable (a ∷ older) p =
      c.plan.is_procedure a.procedure && (waits_at p a.procedure (procedure_at s a.procedure) a.site && is_walkable older (behind c.plan contents a.procedure p))

-- the sites at which nodes wait are sites of their procedures
abbrev pub HaveSites : Setting → Compiled → Type 0
HaveSites s c = (q : ℕ) (n : NodeId) (site : SiteId) → c.plan.is_procedure q ≡ true → site_of (kind_at c.graphs q n) ≡ Some site →
    (p : Proc) × (procedure_at s q ≡ Some p) × (nat_lt site.number (length p.sites) ≡ true)
