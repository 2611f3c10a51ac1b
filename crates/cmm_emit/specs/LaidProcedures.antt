-- The code of a unit that is laid, procedure by procedure.
use Rattle.std.specs.Prelude.{◌≡◌, ◌⊎◌, ℕ, ◌+◌, ◌*◌, ◌<◌, ◌≤◌, ◌^◌, true, false, IsTrue, List, ◌∷◌, [], ◌++◌, length, take, slice_get, slice_index_or, sum_by, Some}
use Rattle.std.specs.List.{All, list_all}
use Rattle.rv_asm.specs.Appending.{Codes}
use Rattle.rv_asm.specs.Assembly.{is_inner}
use Rattle.rv_asm.specs.Sizes.{all_longest}
use Rattle.rv_asm.specs.declared.part.Meaning.{Meaning}
use Rattle.rv_asm.specs.declared.part.Meaning.TheVariants.{Inner, Outer}
use Rattle.rv_asm.specs.declared.part.Part.{Part}
use Rattle.rv_asm.specs.declared.part.Part.TheVariants.{Place}
use Rattle.rv_table.specs.declared.request.Request.TheVariants.{StackLimit, Yield}
use Rattle.cmm_program.specs.declared.procedure.Proc.{Proc}
use Rattle.cmm_program.specs.declared.program.Program.{Program}
use Rattle.cmm_graph.specs.declared.graph.Graph.{Graph}
use Rattle.cmm_graph.specs.declared.node.Node.{Node}
use Rattle.cmm_effects.specs.Changes.{IsPlace}
use Rattle.cmm_calls.specs.Frames.{CanBeMade}
use Rattle.cmm_allocate.specs.declared.procedure.ProcedurePlaces.{ProcedurePlaces}
use Rattle.cmm_effects.specs.Requests.{AsksFor}
use Rattle.cmm_emit.specs.declared.context.Context.{Context}
use Rattle.cmm_emit.specs.declared.context.Targets.{Targets}
use Rattle.cmm_emit.specs.Costs.{total_cost}
use Rattle.cmm_emit.specs.LaidNodes.{StandsHere, WaitApart}
use Rattle.cmm_unit_code.specs.declared.unit_code.Reference.{Reference}
use Rattle.cmm_emit.specs.Labels.{is_reached}
use Rattle.cmm_emit.specs.Naming.{has_kind, label_at}
use Rattle.cmm_emit.specs.Standing.{SiteStands}
use Rattle.cmm_emit.specs.Contexts.{first_label}
use Rattle.cmm_emit.specs.Orders.{AreInOrder, IsClosed}
use Rattle.cmm_emit.specs.Outlines.{IsOutlineIn, first_own, own}
use Rattle.cmm_emit.specs.declared.outline.Outline.{Outline}

-- ---- before

-- the nodes of a graph name what is there, in a frame that can be made
pub record CanBeLaid (y : Targets) (p : Context) (g : Graph) : Type 0 where
  pub frame : CanBeMade p.frame
  pub places : All IsPlace p.places
  pub stack : All (λ offset. offset < 2 ^ 21) p.frame.stack
  pub pairs : All (λ offset. offset < 2 ^ 21) p.frame.pairs
  pub landed : length p.landings ≡ length p.frame.pairs
  pub landings : All (λ n. n.number < length g.nodes) g.continuations
  pub kinds : IsTrue (list_all (λ node. has_kind p y node.kind) g.nodes)
  pub first : g.first.number < length g.nodes
  pub once : WaitApart g

-- so it is for each procedure of a unit
pub record CanAllBeLaid (p : Program) (procs : List Proc) (graphs : List Graph) (found : List ProcedurePlaces) (o : Outline) : Type 0 where
  pub graph_count : length graphs ≡ length procs
  pub found_count : length found ≡ length procs
  pub registers : length p.globals ≤ 256
  pub each : (n : ℕ) (c : Context) (g : Graph) → slice_get o.contexts n ≡ Some c → slice_get graphs n ≡ Some g → CanBeLaid o.targets c g
  pub short : (n : ℕ) (q : Proc) (c : Context) (g : Graph) → slice_get procs n ≡ Some q → slice_get o.contexts n ≡ Some c → slice_get graphs n ≡ Some g →
      total_cost c o.targets g.nodes + 1 ≤ 64 * q.tokens

abbrev pub CanAllBeLaidIn : Program → List Graph → List ProcedurePlaces → Outline → Type 0
CanAllBeLaidIn p graphs found o = CanAllBeLaid p (own o p.procs) (own o graphs) (own o found) o

-- a unit has this outline over the places of its procedures, and its code can be laid
pub record HasOutline (p : Program) (graphs : List Graph) (o : Outline) : Type 0 where
  pub found : List ProcedurePlaces
  pub is_outline : IsOutlineIn p graphs found o
  pub can : CanAllBeLaidIn p graphs found o

-- ---- while n procedures are laid

-- each of what is named has a label, the symbol of its place
abbrev pub AreSymbolsIn : List Reference → List Meaning → Type 0
AreSymbolsIn references labels = (k : ℕ) (r : Reference) → slice_get references k ≡ Some r → slice_get labels k ≡ Some (Outer k (is_reached r))

-- from one on, labels are places in the code
abbrev pub AreInnerFrom : ℕ → List Meaning → Type 0
AreInnerFrom first labels = (k : ℕ) → first ≤ k → k < length labels → IsTrue (is_inner (slice_index_or labels k (Inner false)))

-- what labels mean then: those of the other procedures, of the limit and of the call of the client have no place yet, and behind the labels of all
-- procedures stand those that code made for itself
pub record HaveLabels (procs : List Proc) (graphs : List Graph) (o : Outline) (n : ℕ) (labels : List Meaning) : Type 0 where
  pub count : first_label (first_own o) procs graphs (length procs) ≤ length labels
  pub symbols : AreSymbolsIn o.references labels
  pub limit : slice_get labels (length o.references) ≡ Some (Inner false)
  pub client : slice_get labels (length o.references + 1) ≡ Some (Inner false)
  pub inner : AreInnerFrom (length o.references) labels
  pub fresh : (k : ℕ) → first_label (first_own o) procs graphs n ≤ k → k < first_label (first_own o) procs graphs (length procs) → slice_get labels k ≡ Some (Inner false)

abbrev pub HaveLabelsIn : Program → List Graph → Outline → ℕ → List Meaning → Type 0
HaveLabelsIn p graphs o n labels = HaveLabels (own o p.procs) (own o graphs) o n labels

-- the tokens of the first procedures of a unit
abbrev pub tokens_of_first : ℕ → List Proc → ℕ
tokens_of_first n procs = sum_by (λ q. q.tokens) (take n procs)

-- the code has that of their nodes, each behind its label, and is at most 256 for each of their tokens
pub record HaveCodes (procs : List Proc) (graphs : List Graph) (o : Outline) (n : ℕ) (parts : List Part) : Type 0 where
  pub nodes : (q : ℕ) (c : Context) (g : Graph) (k : ℕ) → q < n → slice_get o.contexts q ≡ Some c → slice_get graphs q ≡ Some g → k < length g.nodes →
      Codes parts (label_at c.nodes k) (StandsHere c o.targets g k)
  pub sites : (q : ℕ) (c : Context) (g : Graph) (k : ℕ) (node : Node) → q < n → slice_get o.contexts q ≡ Some c → slice_get graphs q ≡ Some g →
      slice_get g.nodes k ≡ Some node → SiteStands true c node.kind parts
  pub order : AreInOrder (take n o.entries) parts
  pub closed : (parts ≡ []) ⊎ IsClosed parts
  pub size : all_longest parts ≤ 256 * tokens_of_first n procs

abbrev pub HaveCodesIn : Program → List Graph → Outline → ℕ → List Part → Type 0
HaveCodesIn p graphs o n parts = HaveCodes (own o p.procs) (own o graphs) o n parts

-- ---- the whole

-- behind all procedures, the run ends at the limit of the stack, and the client is called; and there is no more of it than tokens allow
pub record IsWhole (procs : List Proc) (graphs : List Graph) (o : Outline) (labels : List Meaning) (parts : List Part) : Type 0 where
  pub count : first_label (first_own o) procs graphs (length procs) ≤ length labels
  pub symbols : AreSymbolsIn o.references labels
  pub inner : AreInnerFrom (length o.references) labels
  pub front : List Part
  pub codes : HaveCodes procs graphs o (length procs) front
  pub back : List Part
  pub is : parts ≡ front ++ Place o.targets.limit ∷ back
  pub limits : Codes parts o.targets.limit (λ x from to. AsksFor 1 (λ t. StackLimit) x from)
  pub client : Codes parts o.targets.client (λ x from to. AsksFor 1 (λ t. Yield) x from)
  pub size : all_longest parts ≤ 256 * sum_by (λ q. q.tokens) procs + 16

abbrev pub IsWholeIn : Program → List Graph → Outline → List Meaning → List Part → Type 0
IsWholeIn p graphs o labels parts = IsWhole (own o p.procs) (own o graphs) o labels parts
