-- Worked rows, by computing: what folding leaves, and a small graph before and after it.
use Rattle.std.proofs.Common.{◌≡◌, ℕ, inl, inr, refl, [], ◌∷◌, lit<}
use Rattle.std.proofs.lemmas.List.Elements.{All-from_recursion}
use Rattle.std.specs.Prelude.{Some, None}
use Rattle.cmm_words.specs.declared.constant.Constant.TheVariants.{Number}
use Rattle.cmm_words.specs.declared.operators.Op2.TheVariants.{Add, And, Divu, Modu, Mul, Shl}
use Rattle.cmm_words.specs.declared.width.Width.TheVariants.{W8, W64}
use Rattle.cmm_program.proofs.Shared.{alone, frame, no_client, procedure, setting}
use Rattle.cmm_program.specs.declared.procedure.Target.TheVariants as target
use Rattle.cmm_program.specs.State.{Done, Ended, Setting}
use Rattle.cmm_graph.proofs.Shared.{arg, n, num, op, set_variable, status_after, v}
use Rattle.cmm_graph.specs.declared.graph.Graph.{Graph}
use Rattle.cmm_graph.specs.declared.node.Node.{Node}
use Rattle.cmm_graph.specs.declared.node.NodeKind.{NodeKind}
use Rattle.cmm_graph.specs.declared.node.NodeKind.TheVariants.{Entry, Goto, Return, Stop}
use Rattle.cmm_graph.specs.declared.number.NodeId.{NodeId}
use Rattle.cmm_graph.specs.declared.operand.Destination.TheVariants as destination
use Rattle.cmm_graph.specs.declared.operand.Operand.TheVariants as operand
use Rattle.cmm_graph.specs.declared.operand.Rvalue.{Rvalue}
use Rattle.cmm_graph.specs.declared.operand.Rvalue.TheVariants.{Copy}
use Rattle.cmm_fold.specs.Folding.{IsIrreducible, StandsFor, number_in}
use Rattle.cmm_fold.specs.Graphs.{GraphStandsFor, IsFolded, KindIsIrreducible, NodeStandsFor}
use Rattle.cmm_fold.proofs.Standing.{binary_stands, modu_right, mul_right, number_is}

-- ---- right sides

-- a number is one of a width where it is a word of it, whatever its own width is
numbers : (number_in W8 (operand.Constant (Number 255 W64)) ≡ Some 255) × (number_in W8 (operand.Constant (Number 256 W64)) ≡ None) × (number_in W64 (v 0) ≡ None)
numbers = (refl, refl, refl)

-- a division by 0 is left, and a sum of a variable
left : IsIrreducible (op Divu (num 7) (num 0)) × IsIrreducible (op Add (v 0) (num 8)) × IsIrreducible (Copy (v 0))
left = (refl, tt, tt)

-- a sum of numbers is not, nor a product with 8, nor a quotient by 1
sum_goes : ¬ IsIrreducible (op Add (num 2) (num 3))
sum_goes is = absurd (cc)

product_goes : ¬ IsIrreducible (op Mul (v 0) (num 8))
product_goes is = is 3 refl

product_goes_too : ¬ IsIrreducible (op Mul (num 8) (v 0))
product_goes_too is = is 3 refl

quotient_goes : ¬ IsIrreducible (op Divu (v 0) (num 1))
quotient_goes is = is 0 refl

-- ---- a graph
--     main() { bits64 x; x = 2 + 3; x = x * 8; x = %modu(x, 16); return (x); }

abbrev node : ℕ → NodeKind → Node
node tokens kind = record { tokens = tokens; kind = kind }

-- a graph of one variable, with three assignments to it and a return of it
abbrev assigning : Rvalue → Rvalue → Rvalue → Graph
assigning first second third = record {
  variables = 1;
  temporaries = 0;
  nodes = node 40 (Entry [] (n 1))
      ∷ node 2 (set_variable 0 first (n 2))
      ∷ node 1 (set_variable 0 second (n 3))
      ∷ node 1 (set_variable 0 third (n 4))
      ∷ node 5 (Return 0 0 (arg (v 0) ∷ []))
      ∷ node 1 Stop
      ∷ node 1 (Goto (n 5))
      ∷ [];
  first = n 0;
  continuations = [];
}

abbrev pub plain : Graph
plain = assigning (op Add (num 2) (num 3)) (op Mul (v 0) (num 8)) (op Modu (v 0) (num 16))

abbrev pub folded : Graph
folded = assigning (Copy (num 5)) (op Shl (v 0) (num 3)) (op And (v 0) (num 15))

kept : (a : Node) → NodeStandsFor a a
kept a = record { tokens = refl; kind = inl refl }

instead : (tokens : ℕ) (a b : Rvalue) (next : NodeId) → StandsFor a b → NodeStandsFor (node tokens (set_variable 0 a next)) (node tokens (set_variable 0 b next))
instead tokens a b next stands = record {
  tokens = refl;
  kind =
      inr (record {
        to = destination.Target (target.Variable 0 W64);
        value = a;
        folded = b;
        next = next;
        was = refl;
        is = refl;
        stands = stands;
      });
}

pub stands : GraphStandsFor plain folded
stands = record {
  variables = refl;
  temporaries = refl;
  first = refl;
  continuations = refl;
  nodes = (
    kept (node 40 (Entry [] (n 1))),
    (
      instead 2 (op Add (num 2) (num 3)) (Copy (num 5)) (n 2) (binary_stands Add W64 (num 2) (num 3) 2 3 5 (number_is W64 (num 2) 2 refl) (number_is W64 (num 3) 3 refl) refl (lit< tt)),
      (
        instead 1 (op Mul (v 0) (num 8)) (op Shl (v 0) (num 3)) (n 3) (mul_right W64 (v 0) (num 8) 8 3 (number_is W64 (num 8) 8 refl) refl),
        (
          instead 1 (op Modu (v 0) (num 16)) (op And (v 0) (num 15)) (n 4) (modu_right W64 (v 0) (num 16) 16 4 (number_is W64 (num 16) 16 refl) refl),
          (kept (node 5 (Return 0 0 (arg (v 0) ∷ []))), (kept (node 1 Stop), (kept (node 1 (Goto (n 5))), tt))),
        ),
      ),
    ),
  );
}

is_folded : IsFolded folded
is_folded = All-from_recursion (λ (node : Node). KindIsIrreducible node.kind) folded.nodes (tt, (tt, (tt, (tt, (tt, (tt, (tt, tt)))))))

abbrev small : Setting
small = setting (alone (procedure [] 40 0 1 [] []) (frame 16)) 4096 no_client

-- both do the same
plain_runs : status_after (plain ∷ []) small 5 ≡ Ended (Done 8)
plain_runs = refl

folded_runs : status_after (folded ∷ []) small 5 ≡ Ended (Done 8)
folded_runs = refl
