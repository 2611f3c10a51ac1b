-- The client's answer to a yield: each command, with its refusals in their order and its line of the log (C-- Language Specification
-- 2.0, the run-time interface). A command that comes to where the chain of frames breaks ends the run there.
use Rattle.std.specs.Prelude.{ℕ, ◌^◌, ◌==◌, ◌&&◌, not, nat_lt, Bool, true, false, List, [], ◌∷◌, ◌++◌, map, length, slice_get, Result, Ok, Err, Option, Some, None}
use Rattle.cmm_words.specs.declared.width.Width.{Width}
use Rattle.cmm_words.specs.Widths.{bits}
use Rattle.cmm_rules.specs.declared.rule.Rule.{Rule}
use Rattle.cmm_rules.specs.declared.rule.Rule.TheVariants.{NoActivation, NoVariable, DeadVariable, DoesNotFit, NoExit, OtherCount, InvariantVariable, NoCut, NoPlace, NoYieldedValue}
use Rattle.cmm_script.specs.declared.script.Script.{Script}
use Rattle.cmm_script.specs.declared.script.Block.{Block}
use Rattle.cmm_script.specs.declared.script.Command.{Command}
use Rattle.cmm_script.specs.declared.script.Command.TheVariants.{List as ListAll, Youngest, Next, Desc, Seek, Var, Set, Poke, Return, Unwind, Cut, Stop}
use Rattle.cmm_script.specs.declared.script.Value.{Value}
use Rattle.cmm_script.specs.declared.script.Value.TheVariants.{Number, Yielded}
use Rattle.cmm_script.specs.Walk.{Spanned, walk_text, activation_texts}
use Rattle.cmm_script.specs.Lines.{at_line, descriptor_line, var_line, ok_line, resume_line, refused_line}
use Rattle.cmm_program.specs.Errors.{and_then, provided, given, all_of}
use Rattle.cmm_program.specs.Layout.{bytes_of}
use Rattle.cmm_program.specs.Asking.{Break, Chain, Cursor, Exit, Askable, at_youngest}

-- where the client stands after a command
pub data After (A S R : Type 0) : Type 0 where
  -- the next command runs
  Goes : Cursor A → S → After A S R
  -- the run goes on
  Resumes : R → After A S R
  -- the run is stopped
  Stops : After A S R
  -- the chain of frames breaks here, and the run ends
  Tears : Break → After A S R

-- what a command writes to the log, and what it comes to
pub record Reply (A S R : Type 0) : Type 0 where
  pub text : List ℕ
  pub after : After A S R

-- a command that is refused answers which rule it breaks
abbrev pub Asked : Type 0 → Type 0 → Type 0 → Type 0
Asked A S R = Result (Reply A S R) Rule

-- a line is written, and the next command runs
abbrev pub says : {A S R : Type 0} → List ℕ → Cursor A → S → Asked A S R
says text cursor s = Ok record { text = text; after = Goes cursor s }

-- ---- values

abbrev pub number_given : List ℕ → Value → Result ℕ Rule
number_given yielded (Number n) = Ok n
number_given yielded (Yielded k) = given (slice_get yielded k) NoYieldedValue Ok

abbrev pub numbers_given : List ℕ → List Value → Result (List ℕ) Rule
numbers_given yielded values = all_of (map (number_given yielded) values)

abbrev pub all_fit : List Width → List ℕ → Bool
all_fit [] values = true
all_fit (w ∷ ws) [] = true
all_fit (w ∷ ws) (v ∷ vs) = nat_lt v (2 ^ bits w) && all_fit ws vs

-- ---- along the chain

-- behind the last activation of a chain there is none, or the chain breaks there
abbrev pub past : {A S R : Type 0} → Option Break → Rule → Asked A S R
past None refusal = Err refusal
past (Some b) refusal = Ok record { text = []; after = Tears b }

-- goes on with the first activation of a chain
abbrev pub at_first : {A S R : Type 0} → Chain A → (A → Asked A S R) → Asked A S R
at_first chain next = elim chain.activations [ [] ↦ past chain.broken NoActivation | a ∷ older ↦ next a ]

-- the cursor stands here now
abbrev pub stands : {A S R : Type 0} → Askable A S R → S → A → Asked A S R
stands k s a = says (at_line (k.shown s a).procedure (k.shown s a).site) record { activation = Some a } s

abbrev pub span_value : ℕ → List Spanned → ℕ
span_value token [] = 0
span_value token (s ∷ ss) = elim (token == s.token) [ true ↦ s.value | false ↦ span_value token ss ]

-- the descriptor of a token; 0 where no span has the token
abbrev pub descriptor : {A S R : Type 0} → Askable A S R → S → ℕ → A → ℕ
descriptor k s token a = span_value token (k.shown s a).spans

-- the first of these activations with a descriptor
abbrev pub sought : {A S R : Type 0} → Askable A S R → S → ℕ → ℕ → Option Break → List A → Asked A S R
sought k s token value broken [] = past broken NoActivation
sought k s token value broken (a ∷ older) =
    elim (descriptor k s token a == value) [ true ↦ stands k s a | false ↦ sought k s token value broken older ]

-- the activation at the cursor is sought too
abbrev pub seeking : {A S R : Type 0} → Askable A S R → S → A → ℕ → ℕ → Asked A S R
seeking k s a token value = let older = k.older s a in sought k s token value older.broken (a ∷ older.activations)

-- the walk, as far as the chain goes
abbrev pub listed : {A S R : Type 0} → Askable A S R → Cursor A → S → Chain A → Asked A S R
listed k cursor s chain = let walk = map (k.shown s) chain.activations in elim chain.broken [
  | None ↦ says (walk_text walk) cursor s
  | Some b ↦ Ok record { text = activation_texts 0 walk; after = Tears b }
]

-- ---- changes

-- a variable of an activation gets a value
abbrev pub setting : {A S R : Type 0} → Askable A S R → Cursor A → S → A → ℕ → ℕ → Asked A S R
setting k cursor s a n value =
    given (slice_get (k.shown s a).variables n) NoVariable (λ variable.
    provided (not variable.invariant) InvariantVariable
    (given variable.value DeadVariable (λ old.
    provided (nat_lt value (2 ^ variable.width)) DoesNotFit (says ok_line cursor (k.with_variable s a n value)))))

-- the 8 bytes of a value are written behind a data label
abbrev pub poking : {A S R : Type 0} → Askable A S R → Cursor A → S → List ℕ → ℕ → ℕ → Asked A S R
poking k cursor s name offset value = given (k.with_data s name offset (bytes_of 8 value)) NoPlace (says ok_line cursor)

-- ---- exits

-- the run goes on at an exit
abbrev pub resumed : {A S R : Type 0} → Option (Exit R) → List ℕ → Asked A S R
resumed exit values =
    given exit NoExit (λ e.
    provided (length e.widths == length values) OtherCount
    (provided (all_fit e.widths values) DoesNotFit
    (Ok record { text = resume_line; after = Resumes (e.resumed values) })))

-- the youngest activation goes on at an exit of its call
abbrev pub returning : {A S R : Type 0} → Askable A S R → S → ℕ → List ℕ → Asked A S R
returning k s exit values = at_first (k.running s) (λ a. resumed (k.return_exit s a exit) values)

-- an activation goes on at an unwind exit
abbrev pub unwinding : {A S R : Type 0} → Askable A S R → S → A → ℕ → List ℕ → Asked A S R
unwinding k s a exit values = resumed (k.unwind_exit s a exit) values

-- by the first of these activations whose site also cuts to the continuation of a value
abbrev pub cut : {A S R : Type 0} → Askable A S R → S → ℕ → List ℕ → Option Break → List A → Asked A S R
cut k s to values broken [] = past broken NoCut
cut k s to values broken (a ∷ older) =
    elim (k.cut_exit s a to) [ Some e ↦ resumed (Some e) values | None ↦ cut k s to values broken older ]

abbrev pub cutting : {A S R : Type 0} → Askable A S R → S → ℕ → List ℕ → Asked A S R
cutting k s to values = cut k s to values (k.running s).broken (k.running s).activations

-- ---- the commands

abbrev pub at_cursor : {A S R : Type 0} → Cursor A → (A → Asked A S R) → Asked A S R
at_cursor cursor next = given cursor.activation NoActivation next

abbrev pub asked : {A S R : Type 0} → Askable A S R → List ℕ → Cursor A → S → Command → Asked A S R
asked k yielded cursor s ListAll = listed k cursor s (k.chain s)
asked k yielded cursor s Youngest = at_first (k.chain s) (stands k s)
asked k yielded cursor s Next = at_cursor cursor (λ a. at_first (k.older s a) (stands k s))
asked k yielded cursor s (Desc token) = at_cursor cursor (λ a. says (descriptor_line (descriptor k s token a)) cursor s)
asked k yielded cursor s (Seek token value) = and_then (number_given yielded value) (λ v. at_cursor cursor (λ a. seeking k s a token v))
asked k yielded cursor s (Var n) =
    at_cursor cursor (λ a. given (slice_get (k.shown s a).variables n) NoVariable (λ variable. says (var_line n variable.value) cursor s))
asked k yielded cursor s (Set n value) = and_then (number_given yielded value) (λ v. at_cursor cursor (λ a. setting k cursor s a n v))
asked k yielded cursor s (Poke name offset value) = and_then (number_given yielded value) (λ v. poking k cursor s name offset v)
asked k yielded cursor s (Return exit values) = and_then (numbers_given yielded values) (λ vs. returning k s exit vs)
asked k yielded cursor s (Unwind exit values) = and_then (numbers_given yielded values) (λ vs. at_cursor cursor (λ a. unwinding k s a exit vs))
asked k yielded cursor s (Cut to values) =
    and_then (number_given yielded to) (λ value. and_then (numbers_given yielded values) (λ vs. cutting k s value vs))
asked k yielded cursor s Stop = Ok record { text = []; after = Stops }

-- a refused command changes nothing, and says so in the log
abbrev pub reply : {A S R : Type 0} → Askable A S R → List ℕ → Cursor A → S → Command → Reply A S R
reply k yielded cursor s command = elim (asked k yielded cursor s command) [
  | Ok r ↦ r
  | Err refusal ↦ record { text = refused_line refusal; after = Goes cursor s }
]

-- ---- all commands of an answer

-- what the client leaves: a program that goes on, one that is stopped, or one at whose chain a command broke
pub data Left (S R : Type 0) : Type 0 where
  Running : R → Left S R
  Stopped : S → Left S R
  Torn : Break → S → Left S R

-- the lines of the client's answer, and what it leaves
pub record Answer (S R : Type 0) : Type 0 where
  pub text : List ℕ
  pub left : Left S R

-- one command after the other, until one resumes or stops, or comes to a break; at their end the run is stopped
abbrev pub answer_of : {A S R : Type 0} → Askable A S R → List ℕ → List ℕ → Cursor A → S → List Command → Answer S R
answer_of k yielded text cursor s [] = record { text = text; left = Stopped s }
answer_of k yielded text cursor s (c ∷ cs) = let r = reply k yielded cursor s c in elim r.after [
  | Goes cursor' s' ↦ answer_of k yielded (text ++ r.text) cursor' s' cs
  | Resumes after ↦ record { text = text ++ r.text; left = Running after }
  | Stops ↦ record { text = text ++ r.text; left = Stopped s }
  | Tears b ↦ record { text = text ++ r.text; left = Torn b s }
]

-- ---- the block that answers

abbrev pub is_for_code : List ℕ → Option ℕ → Bool
is_for_code (value ∷ values) (Some code) = value == code
is_for_code _ _ = false

abbrev pub is_other : Option ℕ → Bool
is_other None = true
is_other (Some code) = false

-- the commands of the first block whose code passes a test
abbrev pub block_with : (Option ℕ → Bool) → List Block → Option (List Command)
block_with test [] = None
block_with test (b ∷ bs) = elim (test b.code) [ true ↦ Some b.commands | false ↦ block_with test bs ]

-- the block of the first value of the yield, or else the one for all others; without either there are no commands
abbrev pub commands_for : List ℕ → Script → List Command
commands_for yielded script = elim (block_with (is_for_code yielded) script.blocks) [
  | Some commands ↦ commands
  | None ↦ elim (block_with is_other script.blocks) [ Some commands ↦ commands | None ↦ [] ]
]

-- the answer to a yield of these values, which begins at the youngest activation
abbrev pub answer_to : {A S R : Type 0} → Askable A S R → Script → List ℕ → S → Answer S R
answer_to k script yielded s = answer_of k yielded [] (at_youngest (k.running s)) s (commands_for yielded script)
