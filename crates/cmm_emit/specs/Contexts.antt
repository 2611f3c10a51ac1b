-- What the code of each procedure is made over, and which labels it has.
use Rattle.std.specs.Prelude.{◌≡◌, ℕ, suc, ◌+◌, ◌≤◌, ◌^◌, List, [], ◌∷◌, length, map, slice_get, slice_index_or, Some}
use Rattle.rv_asm.specs.declared.part.Label.{Label}
use Rattle.cmm_chain.specs.declared.frame.Location.{Location}
use Rattle.cmm_program.specs.declared.procedure.Proc.{Proc}
use Rattle.cmm_graph.specs.declared.graph.Graph.{Graph}
use Rattle.cmm_allocate.specs.Compiling.{no_place}
use Rattle.cmm_allocate.specs.declared.procedure.ProcedurePlaces.{ProcedurePlaces}
use Rattle.cmm_emit.specs.declared.context.Context.{Context}
use Rattle.cmm_emit.specs.Naming.{label_at}
use Rattle.cmm_emit.specs.Labels.{labels_from}

-- the place of a local
abbrev pub place_in : ProcedurePlaces → ℕ → Location
place_in k local = slice_index_or k.locals local no_place

-- The context of a procedure with its graph and its places, whose labels are numbered from one on: first those of the nodes, then those of the sites.
pub record IsMadeFor (q : Proc) (g : Graph) (k : ProcedurePlaces) (first : ℕ) (p : Context) : Type 0 where
  pub variables : p.variables ≡ g.variables
  pub places : p.places ≡ k.locals
  pub zeroed : p.zeroed ≡ map (place_in k) k.zeroed
  pub frame : p.frame ≡ k.frame
  pub nodes : p.nodes ≡ labels_from first (length g.nodes)
  pub sites : p.sites ≡ labels_from (first + length g.nodes) (length q.sites)
  pub landings : p.landings ≡ map (λ n. label_at p.nodes n.number) g.continuations

-- how many labels a procedure has
abbrev pub label_count : Proc → Graph → ℕ
label_count q g = length g.nodes + length q.sites

-- the number of the first label of a procedure, where those of the first one begin at a number
abbrev pub first_label : ℕ → List Proc → List Graph → ℕ → ℕ
first_label first (q ∷ qs) (g ∷ gs) (suc n) = first_label (first + label_count q g) qs gs n
first_label first _ _ _ = first

-- of each procedure of a program
pub record AreMade (first : ℕ) (procedures : List Proc) (graphs : List Graph) (found : List ProcedurePlaces) (contexts : List Context) : Type 0 where
  pub count : length contexts ≡ length procedures
  pub each : (n : ℕ) (q : Proc) (g : Graph) (k : ProcedurePlaces) (p : Context) → slice_get procedures n ≡ Some q → slice_get graphs n ≡ Some g →
      slice_get found n ≡ Some k → slice_get contexts n ≡ Some p → IsMadeFor q g k (first_label first procedures graphs n) p
  pub few : (n : ℕ) (g : Graph) → slice_get graphs n ≡ Some g → first + length g.nodes ≤ 2 ^ 32

-- the labels of the first nodes
abbrev pub entry_labels : List Context → List Graph → List Label
entry_labels (p ∷ ps) (g ∷ gs) = label_at p.nodes g.first.number ∷ entry_labels ps gs
entry_labels _ _ = []
