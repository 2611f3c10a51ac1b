use Rattle.std.proofs.Common.{◌≡◌, ◌+◌, ◌++◌, length, take}
use Rattle.cmm_hoist.specs.Graphs.{chain, chain_start}
use Rattle.cmm_hoist.proofs.hoisting.push_chain.Given as goal

abbrev pub invariant-loop-index : goal.invariant-loop-index
invariant-loop-index l = record {
  count : length l.nodes ≡ length l.fn.nodes + l.index;
  start : l.start ≡ chain_start (length l.fn.nodes) l.fn.next (take l.index l.kept);
  pushed : l.nodes ≡ l.fn.nodes ++ chain l.first (length l.fn.nodes) l.fn.next (take l.index l.kept);
}
