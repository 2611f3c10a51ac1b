-- Sample programs: constructors from which each worked row begins, of this crate and of those above it. Variables have 64
-- bits where nothing else is said.
use Rattle.std.proofs.Common.{ℕ, Bool, true, false, List, [], ◌∷◌, ◌+◌, map, Some, None}
use Rattle.std.specs.Fmt as Fmt
use denote.Hole.Carrier as Carrier
use Rattle.std.specs.Prelude.{flat_map, replicate}
use Rattle.cmm_words.specs.declared.width.Width.{Width}
use Rattle.cmm_words.specs.declared.width.Width.TheVariants.{W64}
use Rattle.cmm_words.specs.declared.operators.Op2.{Op2}
use Rattle.cmm_words.specs.declared.operators.Op2.TheVariants.{Add}
use Rattle.cmm_words.specs.declared.operators.Cmp.{Cmp}
use Rattle.cmm_words.specs.declared.constant.Constant.{Constant}
use Rattle.cmm_words.specs.declared.constant.Constant.TheVariants.{Number, Code, Address}
use Rattle.cmm_script.specs.declared.script.Script.{Script}
use Rattle.cmm_script.specs.declared.script.Block.{Block}
use Rattle.cmm_script.specs.declared.script.Command.{Command}
use Rattle.cmm_script.specs.Walk.{line}
use Rattle.cmm_program.specs.declared.expression.Expression.{Expression}
use Rattle.cmm_program.specs.declared.expression.Expression.TheBlock as Expression
use Rattle.cmm_program.specs.declared.expression.Expression.TheVariants as e
use Rattle.cmm_program.specs.declared.expression.Condition.{Condition}
use Rattle.cmm_program.specs.declared.expression.Condition.TheBlock as Condition
use Rattle.cmm_program.specs.declared.expression.Condition.TheVariants as c
use Rattle.cmm_program.specs.declared.statement.Form.{Form}
use Rattle.cmm_program.specs.declared.statement.Form.TheBlock as Form
use Rattle.cmm_program.specs.declared.statement.Form.TheVariants as f
use Rattle.cmm_program.specs.declared.statement.Lvalue.TheVariants as lvalue
use Rattle.cmm_program.specs.declared.statement.Statement.{Statement}
use Rattle.cmm_program.specs.declared.statement.Arm.{Arm, roll-Arm}
use Rattle.cmm_program.specs.declared.statement.Case.{Case}
use Rattle.cmm_program.specs.declared.statement.Range.{Range}
use Rattle.cmm_program.specs.declared.procedure.VarInfo.{VarInfo}
use Rattle.cmm_program.specs.declared.procedure.StackItem.{StackItem}
use Rattle.cmm_program.specs.declared.procedure.Cont.{Cont}
use Rattle.cmm_program.specs.declared.procedure.Target.{Target}
use Rattle.cmm_program.specs.declared.procedure.Target.TheVariants as target
use Rattle.cmm_program.specs.declared.procedure.Site.{Site}
use Rattle.cmm_program.specs.declared.procedure.Proc.{Proc}
use Rattle.cmm_program.specs.declared.program.Datum.{Datum}
use Rattle.cmm_program.specs.declared.program.Label.{Label}
use Rattle.cmm_program.specs.declared.program.Global.{Global}
use Rattle.cmm_program.specs.declared.program.Program.{Program}
use Rattle.cmm_program.specs.declared.placement.PlaceRow.{PlaceRow}
use Rattle.cmm_program.specs.declared.placement.Placement.{Placement}
use Rattle.rv_table.specs.Memory.{stack_base}
use Rattle.cmm_program.specs.State.{Setting, Status}
use Rattle.cmm_program.specs.Control.{State}
use Rattle.cmm_program.specs.Todo.{Todo}

-- what a row unfolds beside definitions that always unfold
unfoldable pub opened : Unit {0}
unfolding Expression.hidden-the_row-Expression-0 Condition.hidden-the_row-Condition-0 Form.hidden-the_row-Statement-0 Form.hidden-the_row-Arm-1 roll-Arm Carrier.roll Carrier.hidden Fmt.digits
opened = tt

-- ---- expressions and conditions

abbrev pub num : ℕ → Expression
num word = e.Known (Number word W64)

-- the value of a variable
abbrev pub local : ℕ → Expression
local number = e.Variable number W64

-- the code of a procedure, and the place of a data label
abbrev pub code : ℕ → Expression
code number = e.Known (Code number 0)

abbrev pub address : ℕ → Expression
address number = e.Known (Address number 0)

abbrev pub op : Op2 → Expression → Expression → Expression
op operator left right = e.Binary operator W64 left right

-- the sum of an expression and others, from the left
abbrev pub added : Expression → List Expression → Expression
added x [] = x
added x (y ∷ ys) = added (op Add x y) ys

abbrev pub test : Cmp → Expression → Expression → Condition
test operator left right = c.Compare operator W64 left right

-- ---- statements

-- a statement of n tokens
abbrev pub is : ℕ → Form → Statement
is tokens form = record { tokens = tokens; form = form }

-- variables as targets
abbrev pub variables_of : List ℕ → List Target
variables_of numbers = map (λ number. target.Variable number W64) numbers

abbrev pub assign_all : List ℕ → List Expression → Form
assign_all numbers values = f.Assign (map lvalue.Target (variables_of numbers)) values

abbrev pub assign : ℕ → Expression → Form
assign number value = assign_all (number ∷ []) (value ∷ [])

abbrev pub from_to : ℕ → ℕ → Range
from_to from to = record { from = from; to = to }

abbrev pub arm : Case → List Statement → Arm
arm case body = roll-Arm record { case = case; body = body }

-- ---- parts of procedures

abbrev pub variable : Width → List ℕ → Bool → VarInfo
variable width kind invariant = record { width = width; kind = kind; invariant = invariant }

abbrev pub plain : Width → VarInfo
plain width = variable width [] false

-- a label of stackdata at an alignment, and n bytes at one
abbrev pub stack_label : ℕ → StackItem
stack_label align = record { align = align; length = 0; label = true }

abbrev pub stack_bytes : ℕ → ℕ → StackItem
stack_bytes align length = record { align = align; length = length; label = false }

-- a continuation with these variables as its parameters
abbrev pub continuation : List ℕ → Cont
continuation params = record { params = params }

-- a call site without annotations, whose results go to these variables
abbrev pub call_site : List ℕ → Site
call_site results = record {
  results = variables_of results;
  returns = [];
  unwinds = [];
  cuts = [];
  aborts = false;
  never = false;
  yield_values = None;
  spans = [];
}

-- the site of a yield of n values
abbrev pub yield_site : List ℕ → ℕ → Site
yield_site results count = record (call_site results) { yield_values = Some count }

-- the name, the tokens, how many formals and variables there are, the sites and the body
abbrev pub procedure : List ℕ → ℕ → ℕ → ℕ → List Site → List Statement → Proc
procedure name tokens formals variables sites body = record {
  name = name;
  unit = 0;
  tokens = tokens;
  formals = formals;
  vars = replicate variables (plain W64);
  stack = [];
  conts = [];
  sites = sites;
  body = body;
}

-- ---- programs

abbrev pub datum : ℕ → ℕ → Width → List Constant → Datum
datum align length width values = record { align = align; length = length; width = width; values = values }

-- a label that stands on a datum and is not exported
abbrev pub data_label : List ℕ → ℕ → Label
data_label name datum = record { name = name; links = []; datum = datum; at_end = false }

abbrev pub global : List ℕ → Width → Global
global name width = record { name = name; width = width }

-- procedures alone, of which the first is `main`
abbrev pub program : List Proc → Program
program procs = record { procs = procs; datums = []; globals = []; labels = []; main = 0 }

-- ---- placements: procedures stand 4096 bytes apart

-- a frame of n bytes, and one with pairs and labels of stackdata
abbrev pub frame : ℕ → PlaceRow
frame size = record { code = 0; frame = size; pairs = []; stack = [] }

abbrev pub frame_with : ℕ → List ℕ → List ℕ → PlaceRow
frame_with size pairs stack = record { code = 0; frame = size; pairs = pairs; stack = stack }

abbrev pub placed_from : ℕ → List PlaceRow → List PlaceRow
placed_from code [] = []
placed_from code (row ∷ rows) = record row { code = code } ∷ placed_from (code + 0x1000) rows

abbrev pub placed : List PlaceRow → Placement
placed frames = record { rows = placed_from 0x10000 frames }

-- a program with its placement
pub record Sample : Type 0 where
  pub program : Program
  pub placement : Placement

abbrev pub sample : Program → List PlaceRow → Sample
sample program frames = record { program = program; placement = placed frames }

-- a procedure alone
abbrev pub alone : Proc → PlaceRow → Sample
alone procedure frame = sample (program (procedure ∷ [])) (frame ∷ [])

-- ---- settings and clients

-- a stack of n bytes, and a client
abbrev pub setting : Sample → ℕ → Script → Setting
setting s stack script =
    record { program = s.program; placement = s.placement; stack_base = stack_base; stack_size = stack; script = script }

-- a client that answers no yield, and one that answers every yield alike
abbrev pub no_client : Script
no_client = record { blocks = [] }

abbrev pub other : List Command → Block
other commands = record { code = None; commands = commands; lines = [] }

abbrev pub at : ℕ → List Command → Block
at code commands = record { code = Some code; commands = commands; lines = [] }

abbrev pub client : List Block → Script
client blocks = record { blocks = blocks }

-- ---- what a row looks at

pub record Seen : Type 0 where
  pub status : Status
  pub output : List ℕ
  pub log : List ℕ

abbrev pub seen : State Todo → Seen
seen st = record { status = st.store.status; output = st.store.output; log = st.store.log }

-- a run without a client, whose log stays empty
abbrev pub silent : Status → List ℕ → Seen
silent status output = record { status = status; output = output; log = [] }

abbrev pub logs : Status → List (List ℕ) → Seen
logs status lines = record { status = status; output = []; log = flat_map line lines }
