-- The walk from the youngest suspended activation to the oldest, by words of the stack alone, and what the client does to what it finds.
use Rattle.std.specs.Prelude.{◌≡◌, ℕ, zero, suc, ◌+◌, true, false, List, [], ◌∷◌, Option, Some, None}
use Rattle.cmm_chain.specs.declared.frame.Location.{Location}
use Rattle.cmm_chain.specs.declared.frame.Location.TheVariants.{Slot, Saved, Temp}
use Rattle.cmm_abi.specs.Registers.{is_callee_saves}
use Rattle.cmm_chain.specs.Contents.{Content, Unknown, Number, ReturnTo, Contents, with_content}
use Rattle.cmm_chain.specs.Plans.{Plan, saved_at}
use Rattle.cmm_chain.specs.Chain.{Point, Suspension}
use Rattle.cmm_chain.specs.Running.{Holdings, with_number}

-- where something stands that an activation had in a register or in its frame
pub data Spot : Type 0 where
  InRegister : ℕ → Spot
  InStack : ℕ → Spot

-- Where the walk stands: the address of a frame, the return address that leads to it, and where each callee-saves register of the
-- activation is now.
pub record Mark : Type 0 where
  pub at : ℕ
  pub back : Content
  pub registers : ℕ → Spot

-- at the youngest, all registers are still what they are
abbrev pub first_mark : Point → Mark
first_mark p = record { at = p.at; back = p.back; registers = λ r. InRegister r }

-- a register that a procedure saved stands in its frame, as older activations had it
abbrev pub moved : Plan → ℕ → ℕ → (ℕ → Spot) → ℕ → Spot
moved plan q at registers r = elim (saved_at plan q r) [ Some offset ↦ InStack (at + offset) | None ↦ registers r ]

abbrev pub mark_behind : Plan → Contents → ℕ → Mark → Mark
mark_behind plan contents q m = record {
  at = m.at + (plan.frame q).size;
  back = contents (m.at + (plan.frame q).return_at);
  registers = moved plan q m.at m.registers;
}

-- what the walk lists: an activation's procedure and site, as the return address tells them, and where it stands
pub record Element : Type 0 where
  pub procedure : ℕ
  pub site : ℕ
  pub mark : Mark

-- at most n activations, the youngest first
abbrev pub walk : Plan → Contents → ℕ → Mark → List Element
walk plan contents zero m = []
walk plan contents (suc n) m = elim m.back [
  | ReturnTo q site ↦ record { procedure = q; site = site; mark = m } ∷ walk plan contents n (mark_behind plan contents q m)
  | _ ↦ []
]

-- those that run when the registers and the stack hold this
abbrev pub walk_from : Plan → Holdings → ℕ → List Element
walk_from plan h n = walk plan h.contents n (first_mark h.point)

-- ---- what stands where

-- where a place of an activation is now; a register that is no callee-saves register lasts over no call
abbrev pub spot_of : Mark → Location → Option Spot
spot_of m (Slot offset) = Some (InStack (m.at + offset))
spot_of m (Saved r) = elim (is_callee_saves r) [ true ↦ Some (m.registers r) | false ↦ None ]
spot_of m (Temp r) = None

abbrev pub content_at : Holdings → Spot → Content
content_at h (InRegister r) = h.point.kept r
content_at h (InStack a) = h.contents a

abbrev pub shown_at : Holdings → Option Spot → Content
shown_at h (Some spot) = content_at h spot
shown_at h None = Unknown

-- an element shows a suspended activation
pub record Shows (plan : Plan) (h : Holdings) (s : Suspension) (e : Element) : Type 0 where
  pub procedure : e.procedure ≡ s.procedure
  pub site : e.site ≡ s.site
  pub values : (v : ℕ) → plan.live s.procedure s.site v ≡ true → shown_at h (spot_of e.mark (plan.place s.procedure v)) ≡ Number (s.values v)

-- ---- what the client does

-- something else stands there
abbrev pub put_at : Spot → Content → Holdings → Holdings
put_at (InRegister r) c h = record h { point = record h.point { kept = with_content r c h.point.kept } }
put_at (InStack a) c h = record h { contents = with_content a c h.contents }

-- younger activations go by an unwinding: the registers are given back as they stand
abbrev pub unwound : Mark → Holdings → Holdings
unwound m h = record { point = record { at = m.at; back = m.back; kept = λ r. content_at h (m.registers r) }; temps = λ r. Unknown; contents = h.contents }

-- the n-th activation has another value of a local
abbrev pub with_value : ℕ → ℕ → ℕ → List Suspension → List Suspension
with_value n v x [] = []
with_value zero v x (s ∷ older) = record s { values = with_number v x s.values } ∷ older
with_value (suc n) v x (s ∷ older) = s ∷ with_value n v x older
