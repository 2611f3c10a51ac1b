-- The nodes of a chain that gives temporaries the constants that they keep.
use Rattle.std.proofs.Common.{◌≡◌, ℕ, zero, suc, ◌+◌, refl, ◌∙◌, ap, arith, List, [], ◌∷◌, length}
use Rattle.std.specs.Prelude.{slice_get, Option, Some, None}
use Rattle.cmm_words.specs.declared.constant.Constant.{Constant}
use Rattle.cmm_graph.specs.declared.node.Node.{Node}
use Rattle.cmm_graph.specs.declared.number.NodeId.{NodeId}
use Rattle.cmm_hoist.specs.Graphs.{chain, chain_start, keeping_node}

-- where the node of the constant with a number leads, in a chain whose nodes have the numbers from `at` on
abbrev pub lead_from : ℕ → NodeId → ℕ → NodeId
lead_from at next zero = next
lead_from at next (suc k) = record { number = at + k }

-- past its first node a chain is another
lead_rest : (at : ℕ) (next : NodeId) (k : ℕ) → lead_from (suc at) (record { number = at }) k ≡ lead_from at next (suc k)
lead_rest at next zero = let same : at ≡ at + 0 = omega arith in ap (λ (n : ℕ). record { number = n }) same
lead_rest at next (suc k) = let same : suc at + k ≡ at + suc k = omega arith in ap (λ (n : ℕ). record { number = n }) same

pub chain_start_is : (at : ℕ) (next : NodeId) (kept : List Constant) → chain_start at next kept ≡ lead_from at next (length kept)
chain_start_is at next [] = refl
chain_start_is at next (constant ∷ kept) = chain_start_is (suc at) (record { number = at }) kept ∙ lead_rest at next (length kept)

pub length-chain : (first at : ℕ) (next : NodeId) (kept : List Constant) → length (chain first at next kept) ≡ length kept
length-chain first at next [] = refl
length-chain first at next (constant ∷ kept) = let rest = length-chain (suc first) (suc at) (record { number = at }) kept in omega (arith, rest)

-- the node of each constant
pub chain_there : (first at : ℕ) (next : NodeId) (kept : List Constant) (k : ℕ) (constant : Constant) → slice_get kept k ≡ Some constant →
    slice_get (chain first at next kept) k ≡ Some (keeping_node (first + k) constant (lead_from at next k))
chain_there first at next [] k constant is = absurd (cc)
chain_there first at next (c ∷ kept) zero constant is =
    let same : c ≡ constant = cc in
    let number : first ≡ first + 0 = omega arith in
    ap (λ (n : ℕ). Some (keeping_node n c next)) number ∙ ap (λ z. Some (keeping_node (first + 0) z next)) same
chain_there first at next (c ∷ kept) (suc k) constant is =
    let number : suc first + k ≡ first + suc k = omega arith in
    chain_there (suc first) (suc at) (record { number = at }) kept k constant is
    ∙ (ap (λ (n : ℕ). Some (keeping_node n constant (lead_from (suc at) (record { number = at }) k))) number
    ∙ ap (λ to. Some (keeping_node (first + suc k) constant to)) (lead_rest at next k))

-- there are no others
pub record IsInChain (first at : ℕ) (next : NodeId) (kept : List Constant) (k : ℕ) (node : Node) : Type 0 where
  pub constant : Constant
  pub is_kept : slice_get kept k ≡ Some constant
  pub is : node ≡ keeping_node (first + k) constant (lead_from at next k)

chain_none : (first at : ℕ) (next : NodeId) (kept : List Constant) (k : ℕ) → slice_get kept k ≡ None → slice_get (chain first at next kept) k ≡ None
chain_none first at next [] k is = refl
chain_none first at next (c ∷ kept) zero is = absurd (cc)
chain_none first at next (c ∷ kept) (suc k) is = chain_none (suc first) (suc at) (record { number = at }) kept k is

pub in_chain : (first at : ℕ) (next : NodeId) (kept : List Constant) (k : ℕ) (node : Node) →
    slice_get (chain first at next kept) k ≡ Some node → IsInChain first at next kept k node
in_chain first at next kept k node there = by (slice_get kept k) refl
  where
    by : (o : Option Constant) → slice_get kept k ≡ o → IsInChain first at next kept k node
    by None is = let none = chain_none first at next kept k is in absurd (cc)
    by (Some constant) is = let some = chain_there first at next kept k constant is in record { constant = constant; is_kept = is; is = cc }
