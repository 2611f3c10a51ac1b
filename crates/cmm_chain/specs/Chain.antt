-- The chain of frames: every suspended activation with what belongs to it, found by the words of the stack and the registers alone.
--
-- An activation waits at a site of its procedure. Its frame ends where that of the next older one begins. From its frame come the
-- return address that leads to the next older activation, and the callee-saves registers that this one had.
use Rattle.std.specs.Prelude.{◌≡◌, ℕ, ◌+◌, true, false, List, [], ◌∷◌, slice_get, Some, None}
use Rattle.cmm_chain.specs.declared.frame.Frame.{Frame}
use Rattle.cmm_chain.specs.declared.frame.Location.{Location}
use Rattle.cmm_chain.specs.declared.frame.Location.TheVariants.{Slot, Saved, Temp}
use Rattle.cmm_abi.specs.Registers.{is_callee_saves}
use Rattle.cmm_chain.specs.Contents.{Content, Unknown, Number, ReturnTo, LandingOf, LastReturn, Contents}
use Rattle.cmm_chain.specs.Plans.{Plan, saved_at}

-- ---- from frame to frame

-- where a walk stands: the address of an activation's frame, the return address that leads to it, and its callee-saves registers
pub record Point : Type 0 where
  pub at : ℕ
  pub back : Content
  pub kept : Contents

-- what its procedure saved, and else what the registers hold
abbrev pub restored : Plan → Contents → ℕ → ℕ → Contents → Contents
restored plan contents q at kept r = elim (saved_at plan q r) [ Some offset ↦ contents (at + offset) | None ↦ kept r ]

-- the point of the next older activation, behind the frame of a procedure
abbrev pub behind : Plan → Contents → ℕ → Point → Point
behind plan contents q p = record {
  at = p.at + (plan.frame q).size;
  back = contents (p.at + (plan.frame q).return_at);
  kept = restored plan contents q p.at p.kept;
}

-- what is found at a place of the activation at a point; registers that are no callee-saves registers last over no call
abbrev pub found : Contents → Point → Location → Content
found contents p (Slot offset) = contents (p.at + offset)
found contents p (Saved r) = elim (is_callee_saves r) [ true ↦ p.kept r | false ↦ Unknown ]
found contents p (Temp r) = Unknown

-- ---- the fact

-- a suspended activation: its procedure, the site at which it waits, and the values of its locals by their numbers
pub record Suspension : Type 0 where
  pub procedure : ℕ
  pub site : ℕ
  pub values : ℕ → ℕ

-- the pairs of a frame stand in it: the address of a continuation's code, and then that of the frame
pub record HasPairs (f : Frame) (contents : Contents) (q at : ℕ) : Type 0 where
  pub code : (k offset : ℕ) → slice_get f.pairs k ≡ Some offset → contents (at + offset) ≡ LandingOf q k
  pub frame : (k offset : ℕ) → slice_get f.pairs k ≡ Some offset → contents (at + (offset + 8)) ≡ Number at

-- an activation is suspended at a point: the return address is its site's, the locals that are live there are found with their
-- values, and its pairs stand in its frame
pub record IsSuspended (plan : Plan) (contents : Contents) (s : Suspension) (p : Point) : Type 0 where
  pub exists : plan.is_procedure s.procedure ≡ true
  pub back : p.back ≡ ReturnTo s.procedure s.site
  pub values : (v : ℕ) → plan.live s.procedure s.site v ≡ true → found contents p (plan.place s.procedure v) ≡ Number (s.values v)
  pub pairs : HasPairs (plan.frame s.procedure) contents s.procedure p.at

-- These activations, the youngest first, are suspended one behind the other, from a point on, and the frame of the oldest ends at the
-- top of the stack. That a saved register holds what the next older activation expects needs no word of its own: that one's locals
-- are found behind the frame that saved it.
abbrev pub IsChain : Plan → ℕ → Contents → List Suspension → Point → Type 0
IsChain plan top contents [] p = (p.at ≡ top) × (p.back ≡ LastReturn)
IsChain plan top contents (s ∷ older) p = IsSuspended plan contents s p × IsChain plan top contents older (behind plan contents s.procedure p)

-- the bytes of their frames
abbrev pub chain_size : Plan → List Suspension → ℕ
chain_size plan [] = 0
chain_size plan (s ∷ older) = (plan.frame s.procedure).size + chain_size plan older
