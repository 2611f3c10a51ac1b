-- Which locals suit registers of either kind (RISC-V ABIs Specification, Integer Register Convention: temporaries are lost over a call, and
-- callee-saves registers are not), and which of them may not share one.
use Rattle.std.specs.Prelude.{ℕ, ◌-◌, ◌&&◌, ◌||◌, not, nat_lt, Bool, true, false, List}
use Rattle.std.specs.List.{list_any}
use Rattle.cmm_bitset.specs.Sets.{has}
use Rattle.cmm_graph.specs.declared.graph.Graph.{Graph}
use Rattle.cmm_graph.specs.declared.node.Node.{Node}
use Rattle.cmm_graph.specs.declared.operand.Local.{Local}
use Rattle.cmm_graph.specs.declared.operand.Local.TheVariants as local
use Rattle.cmm_graph.specs.Paths.{successors}
use Rattle.cmm_live.specs.declared.live_sets.LiveSets.{LiveSets}
use Rattle.cmm_live.specs.Conflicts.{conflicts}
use Rattle.cmm_live.specs.Exact.{set_at}
use Rattle.cmm_allocate.specs.Placed.{cuts_inside}

-- the local of a number
abbrev pub local_by : Graph → ℕ → Bool → Local
local_by g v true = local.Variable record { number = v }
local_by g v false = local.Temporary record { number = v - g.variables }

abbrev pub local_at : Graph → ℕ → Local
local_at g v = local_by g v (nat_lt v g.variables)

-- a local is in one of some sets
abbrev pub is_in_some : List (List Bool) → ℕ → Bool
is_in_some sets v = list_any (λ set. has set v) sets

-- a node is a cut statement that leads to a continuation where a local is live, whose parameters are taken away
abbrev pub leads_past_cut : Graph → List (List Bool) → Node → ℕ → Bool
leads_past_cut g before node v = cuts_inside node.kind && list_any (λ m. has (set_at before m.number) v) (successors g node.kind)

-- a local is live where a continuation begins that a cut statement lists
abbrev pub is_live_past_cut : Graph → LiveSets → ℕ → Bool
is_live_past_cut g live v = list_any (λ node. leads_past_cut g live.before node v) g.nodes

-- a local is live at no site, and no cut statement leads to where it is live: nothing that loses temporary registers comes in between
abbrev pub suits_temporary : Graph → LiveSets → ℕ → Bool
suits_temporary g live v = not (is_live_past_cut g live v || is_in_some live.sites v)

-- a local is live at some site, and on no cut exit of any, since a cut restores no register
abbrev pub suits_callee_saves : LiveSets → ℕ → Bool
suits_callee_saves live v = is_in_some live.sites v && not (is_in_some live.cuts v)

-- A local suits registers of some kind. One that suits temporary registers may have a callee-saves register as well: it is live at no site, and so on no
-- cut exit of any, and no cut statement leads to where it is live, so nothing comes in between that loses a register of either kind.
abbrev pub suits_register : Graph → LiveSets → ℕ → Bool
suits_register g live v = suits_callee_saves live v || suits_temporary g live v

-- two locals, by their numbers, may not share a place
abbrev pub conflict : Graph → LiveSets → ℕ → ℕ → Bool
conflict g live v w = conflicts g live (local_at g v) (local_at g w)

-- and both are of a class
abbrev pub conflict_within : Graph → LiveSets → (ℕ → Bool) → ℕ → ℕ → Bool
conflict_within g live class v w = class v && class w && conflict g live v w
