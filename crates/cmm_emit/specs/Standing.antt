-- What is known of the code of a node, wherever finished code of a program has it.
use Rattle.std.specs.Prelude.{◌≡◌, ℕ, ◌+◌, ◌*◌, ◌%◌, ◌<◌, ◌≤◌, ◌^◌, ◌==◌, IsTrue, IfSome, Bool, List, length, map, slice_get, slice_index_or, slice_set, Option, Some, None, true, false}
use Rattle.std.specs.List.{All}
use Rattle.cmm_abi.specs.declared.registers.TheConstants.{REQUEST_VALUE}
use Rattle.cmm_words.specs.declared.constant.Constant.TheVariants as constant
use Rattle.cmm_chain.specs.declared.frame.Location.TheVariants.{Slot}
use Rattle.cmm_program.specs.Layout.{constant_value}
use Rattle.cmm_program.specs.State.{Setting}
use Rattle.cmm_graph.specs.declared.operand.Local.{Local}
use Rattle.cmm_graph.specs.declared.operand.Rvalue.{Rvalue}
use Rattle.cmm_graph.specs.declared.number.NodeId.{NodeId}
use Rattle.cmm_graph.specs.declared.number.SiteId.{SiteId}
use Rattle.cmm_graph.specs.declared.operand.Argument.{Argument}
use Rattle.cmm_graph.specs.declared.operand.Operand.{Operand}
use Rattle.cmm_graph.specs.declared.node.Exits.{Exits}
use Rattle.cmm_graph.specs.declared.node.NodeKind.{NodeKind}
use Rattle.cmm_graph.specs.declared.node.NodeKind.TheVariants.{Entry, CopyIn, Assign, Store, Branch, Switch, Call, Host, Goto, Yield}
use Rattle.cmm_live.specs.Sites.{site_of}
use Rattle.rv_asm.specs.Assembly.{IsInner, IsLabel, IsTarget, table_limit}
use Rattle.rv_asm.specs.Parts.{Code}
use Rattle.rv_asm.specs.declared.part.Label.{Label}
use Rattle.rv_asm.specs.declared.part.Meaning.{Meaning}
use Rattle.rv_asm.specs.declared.part.Meaning.TheVariants.{Inner}
use Rattle.rv_asm.specs.declared.part.Part.{Part}
use Rattle.rv_table.specs.Words.{sum}
use Rattle.rv_table.specs.declared.request.Request.TheVariants as request
use Rattle.cmm_effects.specs.Changes.{IsPlace, Keeps}
use Rattle.cmm_effects.specs.Pieces.{Always, BeginsQuietly}
use Rattle.cmm_effects.specs.Ways.{Goes, Turns}
use Rattle.cmm_select.specs.declared.destination.Destination.{Destination as CodeDestination}
use Rattle.cmm_select.specs.Switches.{label_of, ranges_in}
use Rattle.cmm_calls.specs.Calls.{HasExits}
use Rattle.rv_asm.specs.Appending.{IsBehind}
use Rattle.cmm_calls.specs.Frames.{CanBeMade}
use Rattle.cmm_image_machine.specs.Machine.{Launch}
use Rattle.cmm_emit_laws.specs.Represented.{AreLandings}
use Rattle.cmm_located.specs.Compiled.{Compiled, landing_in, number_in}
use Rattle.cmm_effects.specs.Requests.{AsksFor}
use Rattle.cmm_emit_laws.specs.Finished.{Finished, code_of}
use Rattle.cmm_emit_laws.specs.NodeCode.{CallCode, GoesOn, IsCodeOf, IsPutInto, SiteCode, IsRegister}
use Rattle.cmm_yield_laws.specs.Yielding.{YieldCode}
use Rattle.cmm_emit.specs.declared.context.Context.{Context}
use Rattle.cmm_emit.specs.declared.context.Targets.{Targets}
use Rattle.cmm_emit.specs.Costs.{callee_cost, cost_of, jump_cost, rvalue_cost}
use Rattle.cmm_emit.specs.Naming.{has_local, has_named, label_at, landing_labels, local_number, named_at, site_label}

-- ---- while code is assembled

-- labels are made for what nodes name, places can be read and written, and the frame can be made. A procedure's label may stand for a place in
-- the code, or for a symbol that is reached from where the code stands, as that of a procedure elsewhere.
pub record IsReady (labels : List Meaning) (p : Context) (y : Targets) : Type 0 where
  pub frame : CanBeMade p.frame
  pub places : All IsPlace p.places
  pub stack : All (λ offset. offset < 2 ^ 21) p.frame.stack
  pub pairs : All (λ offset. offset < 2 ^ 21) p.frame.pairs
  pub landings : All (IsInner labels) p.landings
  pub landed : length p.landings ≡ length p.frame.pairs
  pub nodes : All (IsInner labels) p.nodes
  pub procedures : (k : ℕ) → IsTrue (has_named y.procedures k) → IsTarget labels (named_at y.procedures k)
  pub data_labels : (k : ℕ) → IsTrue (has_named y.data_labels k) → IsLabel labels (named_at y.data_labels k)
  pub registers : (k : ℕ) → IsTrue (has_named y.registers k) → IsLabel labels (named_at y.registers k)
  pub few_registers : length y.registers ≤ 256
  pub limit : IsInner labels y.limit
  pub client : IsInner labels y.client

-- the site at which a node is to wait, if it is to, has no place yet
abbrev pub CanWait : Context → NodeKind → List Meaning → Type 0
CanWait p kind labels = IfSome (site_of kind) (λ site. slice_get labels (site_label p site).number ≡ Some (Inner false))

-- the labels once the code of a node is there: its site has its place
abbrev pub labels_with : Context → NodeKind → List Meaning → List Meaning
labels_with p kind labels = elim (site_of kind) [ Some site ↦ slice_set labels (site_label p site).number (Inner true) | None ↦ labels ]

-- how many labels it makes at most
abbrev pub inner_count : NodeKind → ℕ
inner_count (Switch value arms otherwise) = ranges_in arms
inner_count _ = 0

-- so many words stand behind a site with n alternate exits: one for each, and one more where the procedure is closed
abbrev pub site_words : Bool → ℕ → ℕ
site_words false n = n
site_words true n = n + 1

-- they stand behind the instruction by which a node waits
abbrev pub SiteStands : Bool → Context → NodeKind → List Part → Type 0
SiteStands closed p (Call site callee arguments exits) parts = IsBehind (site_label p site) (site_words closed (length exits.returns)) parts
SiteStands closed p (Yield site values exits) parts = IsBehind (site_label p site) (site_words closed (length exits.returns)) parts
SiteStands closed p _ parts = Unit {0}

-- ---- once it is finished

module _ (s : Setting) (c : Compiled) (l : Launch) (f : Finished) (q : ℕ) where
  -- a label stands where control comes back to a site, and the jumps of the exits fit behind it
  pub record IsSiteOf (site : ℕ) (label : Label) : Type 0 where
    pub stands : f.labels q label.number ≡ f.symbols.return_to q site
    pub aligned : f.labels q label.number % 4 ≡ 0
    pub fits : f.labels q label.number + 4 * table_limit < 2 ^ 64

  -- the context is that of a procedure of a compiled program, and labels stand for what they are made for
  pub record IsContextOf (p : Context) (y : Targets) : Type 0 where
    pub frame : c.plan.frame q ≡ p.frame
    pub places : (u : ℕ) → u < length p.places → c.plan.place q u ≡ slice_index_or p.places u (Slot 0)
    pub numbers : (v : Local) → IsTrue (has_local p v) → number_in c.graphs q v ≡ local_number p v
    pub zeroed : map (c.plan.place q) (c.zeroed q) ≡ p.zeroed
    pub nodes : (n : NodeId) → n.number < length p.nodes → f.labels q (label_of p.nodes n).number ≡ f.node_at q n
    pub procedures : (k plus : ℕ) → IsTrue (has_named y.procedures k) →
        sum (f.labels q (named_at y.procedures k).number) plus ≡ constant_value s.program s.placement (constant.Code k plus)
    pub entries : (k : ℕ) → IsTrue (has_named y.procedures k) → f.labels q (named_at y.procedures k).number ≡ constant_value s.program s.placement (constant.Code k 0)
    pub data_labels : (k plus : ℕ) → IsTrue (has_named y.data_labels k) →
        sum (f.labels q (named_at y.data_labels k).number) plus ≡ constant_value s.program s.placement (constant.Address k plus)
    pub registers : (k : ℕ) → IsTrue (has_named y.registers k) → IsRegister s c l f q k (named_at y.registers k)
    pub landings : AreLandings f.symbols (f.labels q) q 0 p.landings
    pub landed : (k : ℕ) (n : NodeId) → k < length p.landings → landing_in c.graphs q k ≡ Some n → f.labels q (label_at p.landings k).number ≡ f.node_at q n
    pub sites : (k : ℕ) → k < length p.sites → IsSiteOf k (label_at p.sites k)
    pub limit : AsksFor 1 (λ t. request.StackLimit) (code_of l f q) (f.labels q y.limit.number)
    pub client : AsksFor 1 (λ t. request.Yield) (code_of l f q) (f.labels q y.client.number)
    pub end_asked : AsksFor 1 (λ t. request.End (t.registers REQUEST_VALUE)) (code_of l f q) f.symbols.last_return

  -- control goes on at a node from an address, if there is one
  abbrev pub GoesOnTo : Option NodeId → ℕ → Type 0
  GoesOnTo next from = IfSome next (λ n. GoesOn s c l f q n from)

  -- the code of a node within n instructions
  abbrev pub IsNodeCode : NodeId → NodeKind → ℕ → Type 0
  IsNodeCode n (Yield site values exits) most = YieldCode s c l f q n site.number values most
  IsNodeCode n kind most = IsCodeOf s c l f q n kind most

  -- the code behind the site at which a node waits, if it does
  abbrev pub IsSiteCodeOf : NodeKind → Type 0
  IsSiteCodeOf (Call site callee arguments exits) = SiteCode s c l f q site.number exits
  IsSiteCodeOf (Yield site values exits) = SiteCode s c l f q site.number exits
  IsSiteCodeOf _ = Unit {0}

  -- the code of a node within n instructions, with that behind its site
  pub record HasCode (n : NodeId) (kind : NodeKind) (most : ℕ) : Type 0 where
    pub node : IsNodeCode n kind most
    pub site : IsSiteCodeOf kind

-- the node to which a node falls: the one that may follow it in code
abbrev pub falls_to : NodeKind → Option NodeId
falls_to (Entry formals next) = Some next
falls_to (CopyIn to next) = Some next
falls_to (Assign to value next) = Some next
falls_to (Store width aligned address value next) = Some next
falls_to (Branch test then_ otherwise) = Some otherwise
falls_to (Switch value arms otherwise) = Some otherwise
falls_to (Call site callee arguments exits) = exits.normal
falls_to (Yield site values exits) = exits.normal
falls_to (Host call next) = Some next
falls_to (Goto next) = Some next
falls_to _ = None

-- a node that only goes on: it has no code of its own, and an instruction leads on from it
abbrev pub is_bare : NodeKind → Bool
is_bare (CopyIn to next) = length to == 0
is_bare (Goto next) = true
is_bare _ = false

-- control goes to an address, from a bare node by an instruction at least
abbrev pub LeadsFrom : Bool → ℕ → Code → ℕ → Type 0
LeadsFrom bare there x from = elim bare [ true ↦ Turns jump_cost Always (λ t. there) Keeps x from | false ↦ Goes 0 jump_cost Always (λ t. there) Keeps x from ]

-- the value of a right side is put where a destination is, and control goes on
abbrev pub PutsValue : Context → Targets → Rvalue → CodeDestination → Code → ℕ → ℕ → Type 0
PutsValue p y value into x from to =
    BeginsQuietly x from × ((s : Setting) (c : Compiled) (l : Launch) (f : Finished) (q : ℕ) → x ≡ code_of l f q → IsContextOf s c l f q p y →
    IsPutInto s c l f q value into (rvalue_cost p y value) from to)

-- the code of a node up to where control goes on at the node to which it falls, wherever finished code has it
abbrev pub CodesNode : Context → Targets → NodeKind → Code → ℕ → ℕ → Type 0
CodesNode p y kind x from to =
    (s : Setting) (c : Compiled) (l : Launch) (f : Finished) (q : ℕ) (n : NodeId) → x ≡ code_of l f q → IsContextOf s c l f q p y →
    f.node_at q n ≡ from → GoesOnTo s c l f q (falls_to kind) to → IsNodeCode s c l f q n kind (cost_of p y kind)

-- the code of a call up to its site, to which control comes back
abbrev pub CodesCall : Context → Targets → SiteId → Operand → List Argument → Code → ℕ → ℕ → Type 0
CodesCall p y site callee arguments x from to =
    (x.at (site_label p site).number ≡ to)
    × ((s : Setting) (c : Compiled) (l : Launch) (f : Finished) (q : ℕ) (n : NodeId) (most : ℕ) → x ≡ code_of l f q → IsContextOf s c l f q p y →
    f.node_at q n ≡ from → 12 * length arguments + callee_cost ≤ most → CallCode s c l f q n site.number callee arguments most)

-- the code of a yield up to its site, to which control comes back
abbrev pub CodesYield : Context → Targets → SiteId → List Operand → Code → ℕ → ℕ → Type 0
CodesYield p y site values x from to =
    (x.at (site_label p site).number ≡ to)
    × ((s : Setting) (c : Compiled) (l : Launch) (f : Finished) (q : ℕ) (n : NodeId) (most : ℕ) → x ≡ code_of l f q → IsContextOf s c l f q p y →
    f.node_at q n ≡ from → 12 * length values + 3 ≤ most → YieldCode s c l f q n site.number values most)

-- behind it each alternate exit leads to its landing, and the normal one, if there is one, goes on
abbrev pub LeadsBack : Context → Exits → Code → ℕ → ℕ → Type 0
LeadsBack p exits x from to =
    (on : ℕ) × HasExits (landing_labels p exits.returns) x from on × ((n : NodeId) → exits.normal ≡ Some n → on ≡ to)

-- the code behind a node's site, up to where control goes on by the normal exit
abbrev pub CodesSite : Context → Targets → NodeKind → Code → ℕ → ℕ → Type 0
CodesSite p y kind x from to =
    (s : Setting) (c : Compiled) (l : Launch) (f : Finished) (q : ℕ) → x ≡ code_of l f q → IsContextOf s c l f q p y →
    GoesOnTo s c l f q (falls_to kind) to → IsSiteCodeOf s c l f q kind

-- both
abbrev pub CodesWhole : Context → Targets → NodeKind → Code → ℕ → ℕ → Type 0
CodesWhole p y kind x from to = CodesNode p y kind x from to × CodesSite p y kind x from to

-- a node's own code, which a bare one has not
abbrev pub CodesOwn : Context → Targets → NodeKind → Code → ℕ → ℕ → Type 0
CodesOwn p y kind x from to = elim (is_bare kind) [ true ↦ from ≡ to | false ↦ CodesWhole p y kind x from to ]
