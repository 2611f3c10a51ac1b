-- The chain of the nodes that write what is kept, as one more constant is.
use Rattle.std.proofs.Common.{◌≡◌, ℕ, suc, ◌+◌, ◌<◌, ◌≤◌, refl, ◌∙◌, ap, append_assoc, arith, List, [], ◌∷◌, ◌++◌, get_or, length, take}
use Rattle.std.specs.Prelude.{IsTrue, nat_le}
use Rattle.std.specs.List.{list_all}
use Rattle.std.proofs.lemmas.Bool.{and_from}
use Rattle.std.proofs.lemmas.Bool.Decides.{nat_tests}
use Rattle.std.proofs.lemmas.Grind.{take_at_read}
use Rattle.std.proofs.lemmas.List.{length-take-le}
use Rattle.cmm_words.specs.declared.constant.Constant.{Constant}
use Rattle.cmm_graph.specs.declared.node.Node.{Node}
use Rattle.cmm_graph.specs.declared.number.NodeId.{NodeId}
use Rattle.cmm_hoist.specs.Graphs.{chain, chain_start, keeping_node}

pub chain_more : (first at : ℕ) (next : NodeId) (kept : List Constant) (constant : Constant) →
    chain first at next (kept ++ constant ∷ []) ≡ chain first at next kept ++ keeping_node (first + length kept) constant (chain_start at next kept) ∷ []
chain_more first at next [] constant = let none : first ≡ first + 0 = omega arith in ap (λ (n : ℕ). keeping_node n constant next ∷ []) none
chain_more first at next (it ∷ kept) constant =
    let here : NodeId = record { number = at } in
    let number : suc first + length kept ≡ first + length (it ∷ kept) = omega arith in
    let last = λ (n : ℕ). keeping_node n constant (chain_start (suc at) here kept) ∷ [] in
    ap (λ (nodes : List Node). keeping_node first it next ∷ nodes)
    (chain_more (suc first) (suc at) here kept constant ∙ ap (λ (n : ℕ). chain (suc first) (suc at) here kept ++ last n) number)

pub chain_start_more : (at : ℕ) (next : NodeId) (kept : List Constant) (constant : Constant) →
    chain_start at next (kept ++ constant ∷ []) ≡ record { number = at + length kept }
chain_start_more at next [] constant = let none : at ≡ at + 0 = omega arith in ap (λ (n : ℕ). record { number = n }) none
chain_start_more at next (it ∷ kept) constant =
    let number : suc at + length kept ≡ at + length (it ∷ kept) = omega arith in
    chain_start_more (suc at) (record { number = at }) kept constant ∙ ap (λ (n : ℕ). record { number = n }) number

pub length_chain : (first at : ℕ) (next : NodeId) (kept : List Constant) → length (chain first at next kept) ≡ length kept
length_chain first at next [] = refl
length_chain first at next (it ∷ kept) = ap suc (length_chain (suc first) (suc at) (record { number = at }) kept)

-- what the first constants are kept by, and one more
module _ (first : ℕ) (old : List Node) (next : NodeId) (kept : List Constant) (i : ℕ) (it : Constant) (less : i < length kept) where
  taken : take (i + 1) kept ≡ take i kept ++ get_or kept i it ∷ []
  taken = (take_at_read kept i it less).1

  count : length (take i kept) ≡ i
  count = length-take-le i kept (omega (arith, less))

  pub start_more : (number : ℕ) → number ≡ length old + i → record { number = number } ≡ chain_start (length old) next (take (i + 1) kept)
  start_more number is = rw (is, taken, chain_start_more (length old) next (take i kept) (get_or kept i it), count)

  pub nodes_more : (nodes : List Node) (start : NodeId) → start ≡ chain_start (length old) next (take i kept) →
      nodes ≡ old ++ chain first (length old) next (take i kept) →
      nodes ++ keeping_node (first + i) (get_or kept i it) start ∷ [] ≡ old ++ chain first (length old) next (take (i + 1) kept)
  nodes_more nodes start begins so_far =
      rw (so_far, begins, taken, chain_more first (length old) next (take i kept) (get_or kept i it), count, append_assoc)

-- each of them has one token
pub chain_within : (most first at : ℕ) (next : NodeId) (kept : List Constant) → 1 ≤ most →
    IsTrue (list_all (λ node. nat_le node.tokens most) (chain first at next kept))
chain_within most first at next [] some = refl
chain_within most first at next (it ∷ kept) some =
    and_from (nat_le 1 most) (list_all (λ node. nat_le node.tokens most) (chain (suc first) (suc at) (record { number = at }) kept))
    (grind (arith, nat_tests)) (chain_within most (suc first) (suc at) (record { number = at }) kept some)
