-- Worked rows, by computing: a small graph with a loop before and after its constants are hoisted, which is hoisted from it, and runs of both.
use Rattle.std.proofs.Common.{◌≡◌, ℕ, inl, inr, refl, List, [], ◌∷◌, lit<, lit≤}
use Rattle.std.proofs.lemmas.List.Elements.{All-from_recursion}
use Rattle.std.specs.Prelude.{Contains}
use Rattle.cmm_words.specs.declared.constant.Constant.{Constant}
use Rattle.cmm_words.specs.declared.constant.Constant.TheVariants.{Address, Number}
use Rattle.cmm_words.specs.declared.operators.Cmp.TheVariants.{Eq}
use Rattle.cmm_words.specs.declared.operators.Op2.TheVariants.{Add}
use Rattle.cmm_words.specs.declared.width.Width.TheVariants.{W64}
use Rattle.cmm_program.proofs.Shared.{data_label, datum, frame, no_client, procedure, program, sample, setting}
use Rattle.cmm_program.specs.declared.procedure.Target.TheVariants as target
use Rattle.cmm_program.specs.State.{Done, Ended, Setting}
use Rattle.cmm_graph.proofs.Shared.{arg, n, op, set_temporary, set_variable, status_after, t, test, v}
use Rattle.cmm_graph.specs.declared.graph.Graph.{Graph}
use Rattle.cmm_graph.specs.declared.node.Node.{Node}
use Rattle.cmm_graph.specs.declared.node.NodeKind.{NodeKind}
use Rattle.cmm_graph.specs.declared.node.NodeKind.TheVariants.{Branch, Entry, Goto, Return, Stop, Store}
use Rattle.cmm_graph.specs.declared.number.NodeId.{NodeId}
use Rattle.cmm_graph.specs.declared.operand.Destination.TheVariants as destination
use Rattle.cmm_graph.specs.declared.operand.Operand.{Operand}
use Rattle.cmm_graph.specs.declared.operand.Operand.TheVariants as operand
use Rattle.cmm_graph.specs.declared.operand.Rvalue.TheVariants.{Copy}
use Rattle.cmm_hoist.specs.Graphs.{IsHoistedFrom, IsHoistedWithin, all_operands}
use Rattle.cmm_hoist.specs.Keeping.{Assigns, Branches, Compares, Computes, NodeStandsFor, OperandStandsFor, SameKind, Stores}

-- ---- the graphs
--     main() {
--       bits64 x;
--       top:
--       bits64[l] = 0x123456789;
--       x = x + l;
--       if x == l { goto top; }
--       return (x);
--     }

abbrev node : ℕ → NodeKind → Node
node tokens kind = record { tokens = tokens; kind = kind }

-- nodes of the loop at an address and a number
abbrev branches : Operand → Node
branches place = node 3 (Branch (test Eq (v 0) place) (n 0) (n 3))

abbrev adds : Operand → Node
adds place = node 4 (set_variable 0 (op Add (v 0) place) (n 4))

abbrev stores : Operand → Operand → Node
stores place word = node 6 (Store W64 8 place word (n 5))

-- its label stands in front, its statements behind that, the last one first, and its Entry behind all; other nodes may follow
abbrev looping : ℕ → ℕ → NodeId → Operand → Operand → List Node → Graph
looping temporaries tokens next place word more = record {
  variables = 1;
  temporaries = temporaries;
  nodes = node 1 (Goto (n 6))
      ∷ node 1 (Goto (n 2))
      ∷ node 1 Stop
      ∷ node 5 (Return 0 0 (arg (v 0) ∷ []))
      ∷ branches place
      ∷ adds place
      ∷ stores place word
      ∷ node tokens (Entry [] next)
      ∷ more;
  first = n 7;
  continuations = [];
}

abbrev address : Constant
address = Address 0 0

abbrev wide : Constant
wide = Number 0x123456789 W64

abbrev pub plain : Graph
plain = looping 0 40 (n 0) (operand.Constant address) (operand.Constant wide) []

-- the address and the number are kept, of which the Entry has left each node a token
abbrev pub hoisted : Graph
hoisted = looping 2 16 (n 9) (t 0) (t 1)
    (node 1 (set_temporary 0 (Copy (operand.Constant address)) (n 0)) ∷ node 1 (set_temporary 1 (Copy (operand.Constant wide)) (n 8)) ∷ [])

abbrev constants : List Constant
constants = address ∷ wide ∷ []

-- ---- the one is hoisted from the other

same : (a : Operand) → OperandStandsFor 0 constants a a
same a = inl refl

address_stands : OperandStandsFor 0 constants (operand.Constant address) (t 0)
address_stands = inr (record { index = 0; constant = address; is_kept = refl; was = refl; is = refl })

wide_stands : OperandStandsFor 0 constants (operand.Constant wide) (t 1)
wide_stands = inr (record { index = 1; constant = wide; is_kept = refl; was = refl; is = refl })

left : (a : Node) → NodeStandsFor 0 constants a a
left a = record { tokens = refl; kind = SameKind a.kind }

branch_stands : NodeStandsFor 0 constants (branches (operand.Constant address)) (branches (t 0))
branch_stands =
    let old = test Eq (v 0) (operand.Constant address) in
    record { tokens = refl; kind = Branches old (test Eq (v 0) (t 0)) (n 0) (n 3) (Compares old (v 0) (t 0) (same (v 0)) address_stands) }

sum_stands : NodeStandsFor 0 constants (adds (operand.Constant address)) (adds (t 0))
sum_stands = record {
  tokens = refl;
  kind =
      Assigns (destination.Target (target.Variable 0 W64)) (op Add (v 0) (operand.Constant address)) (op Add (v 0) (t 0)) (n 4)
      (Computes Add W64 (v 0) (operand.Constant address) (v 0) (t 0) (same (v 0)) address_stands);
}

store_stands : NodeStandsFor 0 constants (stores (operand.Constant address) (operand.Constant wide)) (stores (t 0) (t 1))
store_stands = record { tokens = refl; kind = Stores W64 8 (operand.Constant address) (operand.Constant wide) (t 0) (t 1) (n 5) address_stands wide_stands }

pub is_hoisted : IsHoistedFrom plain hoisted
is_hoisted = record {
  kept = constants;
  variables = refl;
  temporaries = refl;
  first = refl;
  continuations = refl;
  named =
      All-from_recursion (λ (constant : Constant). Contains (all_operands plain) (operand.Constant constant)) constants
      ((2, lit< tt, refl), ((6, lit< tt, refl), tt));
  formals = [];
  next = n 0;
  before = 40;
  tokens = 16;
  was = refl;
  shared = lit≤ tt;
  covered = inr (record { words = lit≤ tt; formals = lit≤ tt; some = lit≤ tt });
  others = (looping 0 40 (n 0) (t 0) (t 1) []).nodes;
  stand = (
    left (node 1 (Goto (n 6))),
    (
      left (node 1 (Goto (n 2))),
      (
        left (node 1 Stop),
        (
          left (node 5 (Return 0 0 (arg (v 0) ∷ []))),
          (
            branch_stands,
            (
              sum_stands,
              (
                store_stands,
                (left (node 40 (Entry [] (n 0))), tt),
              ),
            ),
          ),
        ),
      ),
    ),
  );
  nodes = refl;
}

-- no node has more than 16 tokens, where the longest procedure has 40
pub is_hoisted_within : IsHoistedWithin 16 40 plain hoisted
unfolding is_hoisted
is_hoisted_within = record { hoisted = is_hoisted; tokens = refl; spared = lit≤ tt }

-- ---- runs

-- a label stands on a word of data, at 0x40000000
abbrev small : Setting
small =
    setting
    (sample (record (program (procedure [] 40 0 1 [] [] ∷ [])) { datums = datum 8 1 W64 (Number 0 W64 ∷ []) ∷ []; labels = data_label [] 0 ∷ [] }) (frame 16 ∷ []))
    4096 no_client

-- both do the same, and the hoisted one takes a step for each constant that it keeps
plain_runs : status_after (plain ∷ []) small 10 ≡ Ended (Done 0x80000000)
plain_runs = refl

hoisted_runs : status_after (hoisted ∷ []) small 12 ≡ Ended (Done 0x80000000)
hoisted_runs = refl
