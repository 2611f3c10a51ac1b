-- What is laid between two nodes, one part after another.
use Rattle.std.proofs.Common.{arith, Bool, List, Option, None}
use Rattle.rv_asm.proofs.Shared.{appends_none, appends_then, appends_weaker}
use Rattle.rv_asm.specs.declared.part.Meaning.{Meaning}
use Rattle.rv_asm.specs.declared.part.Part.{Part}
use Rattle.cmm_graph.specs.declared.graph.Graph.{Graph}
use Rattle.cmm_graph.specs.declared.number.NodeId.{NodeId}
use Rattle.cmm_emit.specs.declared.context.Context.{Context}
use Rattle.cmm_emit.specs.declared.context.Targets.{Targets}
use Rattle.cmm_emit.proofs.Own.{own_none, own_then}
use Rattle.cmm_emit.specs.LaidNodes.{IsLaidBehind}

module _ (p : Context) (y : Targets) (g : Graph) where
  pub none_behind : (labels : List Meaning) (placed : List Bool) (parts : List Part) → IsLaidBehind p y g None labels labels placed placed parts parts
  none_behind labels placed parts = record {
    grows = λ k is. is;
    added = appends_weaker (appends_none parts) (λ x from to is. tt);
    places = own_none p labels;
    size = omega arith;
  }

  pub both_behind : (next : Option NodeId) (l m n : List Meaning) (a b c : List Bool) (ps qs rs : List Part) → IsLaidBehind p y g next l m a b ps qs →
      IsLaidBehind p y g None m n b c qs rs → IsLaidBehind p y g next l n a c ps rs
  both_behind next l m n a b c ps qs rs first second = record {
    grows = λ k is. second.grows k (first.grows k is);
    added = appends_weaker (appends_then first.added second.added) (λ x from to does. tt);
    places = own_then p l m n first.places second.places;
    size = let one = first.size in let two = second.size in omega (arith, one, two);
  }
