-- What a yield comes to: its text, and how the client leaves the program.
use Rattle.std.specs.Prelude.{◌≡◌, ℕ, List, [], ◌∷◌, ◌++◌, Some, None}
use Rattle.rv_table.specs.Machine.{State}
use Rattle.cmm_abi.specs.Regions.{Region}
use Rattle.cmm_script.specs.declared.script.Script.{Script}
use Rattle.cmm_script.specs.Lines.{yield_line}
use Rattle.cmm_program.specs.Asking.{Chain, Cursor, at_youngest}
use Rattle.cmm_program.specs.Commands as client
use Rattle.cmm_program.specs.Commands.{Answer, Left, answer_of, commands_for}
use Rattle.cmm_image.specs.declared.parts.ImageParts.{ImageParts}
use Rattle.cmm_image_machine.specs.Frames.{Element, chain_of}
use Rattle.cmm_image_machine.specs.Machine as image
use Rattle.cmm_image_machine.specs.Machine.{Launch, Run, askable, region_of, yielded, yielded_at}
use Rattle.cmm_walk.specs.Walking.{break_of}
use Rattle.cmm_client.specs.declared.yielding.Left.{Left as LeftOf}
use Rattle.cmm_client.specs.declared.yielding.Left.TheVariants.{Running, Stopped, Torn}

-- the line of a yield of these values, and the client's answer, which begins with the cursor here
abbrev pub with_values : ImageParts → Region → Script → List ℕ → Cursor Element → State → Answer State State
with_values i r script values cursor s = let answer = answer_of (askable i r) values [] cursor s (commands_for values script) in
    record { text = yield_line values ++ answer.text; left = answer.left }

-- where the chain breaks at its first point, there is none; else the cursor begins at the youngest activation
abbrev pub at_chain : ImageParts → Region → Script → Chain Element → State → Answer State State
at_chain i r script chain s = let yields = with_values i r script (yielded_at r s chain.activations) (at_youngest (chain_of i r s)) s in elim chain.activations [
  | [] ↦ elim chain.broken [ Some b ↦ record { text = []; left = client.Torn b s } | None ↦ yields ]
  | e ∷ older ↦ yields
]

abbrev pub at_yield : ImageParts → Region → Script → State → Answer State State
at_yield i r script s = at_chain i r script (chain_of i r s) s

-- the program is left as the answer says
abbrev pub IsLeft : Left State State → LeftOf → State → Type 0
IsLeft (client.Running s) Running after = after ≡ s
IsLeft (client.Stopped s) Stopped after = after ≡ s
IsLeft (client.Torn b s) (Torn t) after = (b ≡ break_of t) × (after ≡ s)
IsLeft _ _ after = ⊥

-- what a run is behind such an answer
abbrev pub run_behind : Answer State State → Run → Run
run_behind answer run = image.left answer.left record run { log = run.log ++ answer.text }

-- this is what an image does at a yield
abbrev pub YieldsAreAnswers : Type 0
YieldsAreAnswers = (l : Launch) (run : Run) →
    yielded l (chain_of l.image (region_of l) run.machine) run ≡ run_behind (at_yield l.image (region_of l) l.script run.machine) run
