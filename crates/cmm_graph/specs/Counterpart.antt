-- When a graph is one of a procedure: it has the procedure's variables, its landings take what those of the procedure take,
-- its sites have the exits of the procedure's sites, and it names only what the program has. What the nodes do is not asked
-- here.
use Rattle.std.specs.Prelude.{◌≡◌, ℕ, ◌&&◌, nat_lt, Bool, true, false, IsTrue, List, [], ◌∷◌, map, length, slice_get, is_some, Option, Some, None}
use Rattle.std.specs.List.{All, AllZip, list_all, range_with_len}
use Rattle.cmm_program.specs.declared.procedure.Target.{Target}
use Rattle.cmm_program.specs.declared.procedure.Target.TheVariants as target
use Rattle.cmm_program.specs.declared.procedure.Proc.{Proc}
use Rattle.cmm_program.specs.declared.procedure.Cont.{Cont}
use Rattle.cmm_program.specs.declared.procedure.Site.{Site}
use Rattle.cmm_program.specs.declared.program.Program.{Program}
use Rattle.cmm_program.specs.Errors.{with_some}
use Rattle.cmm_program.specs.Exits.{variable_width}
use Rattle.cmm_program.specs.Layout.{stackdata_labels}
use Rattle.cmm_program.specs.Typing.{constant_width, is_target}
use Rattle.cmm_graph.specs.declared.number.NodeId.{NodeId}
use Rattle.cmm_graph.specs.declared.number.SiteId.{SiteId}
use Rattle.cmm_graph.specs.declared.number.ContinuationId.{ContinuationId}
use Rattle.cmm_graph.specs.declared.operand.Operand.{Operand}
use Rattle.cmm_graph.specs.declared.operand.Operand.TheVariants as operand
use Rattle.cmm_graph.specs.declared.operand.Rvalue.{Rvalue}
use Rattle.cmm_graph.specs.declared.operand.Rvalue.TheVariants as rvalue
use Rattle.cmm_graph.specs.declared.operand.Destination.{Destination}
use Rattle.cmm_graph.specs.declared.operand.Destination.TheVariants as destination
use Rattle.cmm_graph.specs.declared.node.Exits.{Exits}
use Rattle.cmm_graph.specs.declared.node.HostCall.TheVariants.{GetByte}
use Rattle.cmm_graph.specs.declared.node.NodeKind.{NodeKind}
use Rattle.cmm_graph.specs.declared.node.NodeKind.TheVariants.{Entry, CopyIn, Assign, Call, Yield, Host}
use Rattle.cmm_graph.specs.declared.graph.Graph.{Graph}
use Rattle.cmm_graph.specs.Paths.{node_of, operands}
use Rattle.cmm_graph.specs.Ranges.{IsValid}

-- ---- landings

-- what takes the values that come to a CopyIn
abbrev pub taken_by : NodeKind → Option (List Target)
taken_by (CopyIn to next) = Some to
taken_by _ = None

abbrev pub taken_at : Graph → NodeId → Option (List Target)
taken_at g n = with_some (node_of g n) (λ node. taken_by node.kind)

-- the numbers of the variables that take the arguments
abbrev pub formals_of : NodeKind → Option (List ℕ)
formals_of (Entry formals next) = Some (map (λ v. v.number) formals)
formals_of _ = None

abbrev pub parameter_targets : Proc → Cont → List Target
parameter_targets q c = map (λ n. target.Variable n (variable_width q n)) c.params

-- ---- sites

abbrev pub numbers_of : List ContinuationId → List ℕ
numbers_of ks = map (λ k. k.number) ks

-- the exits are those of a site of the procedure
pub record AreExitsOf (q : Proc) (g : Graph) (n : SiteId) (exits : Exits) : Type 0 where
  pub site : Site
  pub is_site : slice_get q.sites n.number ≡ Some site
  -- there is a normal exit unless the site never returns, and its results take what it brings
  pub normal : with_some exits.normal (taken_at g) ≡ elim site.never [ true ↦ None | false ↦ Some site.results ]
  pub returns : numbers_of exits.returns ≡ site.returns
  pub unwinds : numbers_of exits.unwinds ≡ site.unwinds
  pub cuts : numbers_of exits.cuts ≡ site.cuts

abbrev pub HasSite : Proc → Graph → NodeKind → Type 0
HasSite q g (Call site callee arguments exits) = AreExitsOf q g site exits
HasSite q g (Yield site values exits) = AreExitsOf q g site exits
HasSite q g _ = Unit {0}

-- ---- names

abbrev pub names_operand : Program → Proc → Operand → Bool
names_operand p q (operand.Constant c) = is_some (constant_width p c)
names_operand p q (operand.Stackdata label) = nat_lt label.number (length (stackdata_labels q.stack))
names_operand p q _ = true

abbrev pub names_rvalue : Program → Rvalue → Bool
names_rvalue p (rvalue.Register r) = nat_lt r.number (length p.globals)
names_rvalue p _ = true

abbrev pub targets_of_destination : Destination → List Target
targets_of_destination (destination.Target t) = t ∷ []
targets_of_destination (destination.Temporary t) = []

-- the variables and the global registers that a node names as what takes a value, with their widths
abbrev pub targets : NodeKind → List Target
targets (CopyIn to next) = to
targets (Assign to value next) = targets_of_destination to
targets (Host (GetByte to) next) = to ∷ []
targets _ = []

abbrev pub reads_registers : Program → NodeKind → Bool
reads_registers p (Assign to value next) = names_rvalue p value
reads_registers p _ = true

-- what a node names is there
abbrev pub names_there : Program → Proc → NodeKind → Bool
names_there p q kind = list_all (names_operand p q) (operands kind) && list_all (is_target p q) (targets kind) && reads_registers p kind

-- ---- a graph

pub record IsGraphOf (p : Program) (q : Proc) (g : Graph) : Type 0 where
  pub valid : IsValid g
  pub variables : g.variables ≡ length q.vars
  -- the Entry takes the arguments to the formals
  pub formals : with_some (node_of g g.first) (λ node. formals_of node.kind) ≡ Some (range_with_len 0 q.formals)
  -- the CopyIn of each continuation takes its parameters
  pub continuations : map (taken_at g) g.continuations ≡ map (λ c. Some (parameter_targets q c)) q.conts
  pub sites : All (λ node. HasSite q g node.kind) g.nodes
  pub names : IsTrue (list_all (λ node. names_there p q node.kind) g.nodes)

-- a graph for each procedure of a program
abbrev pub AreGraphsOf : Program → List Graph → Type 0
AreGraphsOf p graphs = AllZip (IsGraphOf p) p.procs graphs
