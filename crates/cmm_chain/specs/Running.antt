-- The youngest activation, which runs: what its places hold, and how its frame comes and goes.
use Rattle.std.specs.Prelude.{◌≡◌, ℕ, suc, ◌+◌, ◌-◌, ◌==◌, ◌&&◌, nat_le, nat_lt, Bool, true, false, List, [], ◌∷◌, ◌++◌}
use Rattle.cmm_chain.specs.declared.frame.Frame.{Frame}
use Rattle.cmm_chain.specs.declared.frame.Location.{Location}
use Rattle.cmm_chain.specs.declared.frame.Location.TheVariants.{Slot, Saved, Temp}
use Rattle.cmm_chain.specs.Contents.{Content, Unknown, Number, ReturnTo, LandingOf, Contents, with_content}
use Rattle.cmm_chain.specs.Plans.{Plan, is_register}
use Rattle.cmm_chain.specs.Chain.{Point, Suspension, HasPairs, IsChain, behind}

-- what registers and stack hold while an activation runs: its point, the registers that are no callee-saves registers, and the stack.
-- While its body runs, nothing is known of the return address in its register.
pub record Holdings : Type 0 where
  pub point : Point
  pub temps : Contents
  pub contents : Contents

-- ---- places

abbrev pub held : Holdings → Location → Content
held h (Slot offset) = h.contents (h.point.at + offset)
held h (Saved r) = h.point.kept r
held h (Temp r) = h.temps r

abbrev pub put_in : Location → Content → Holdings → Holdings
put_in (Slot offset) c h = record h { contents = with_content (h.point.at + offset) c h.contents }
put_in (Saved r) c h = record h { point = record h.point { kept = with_content r c h.point.kept } }
put_in (Temp r) c h = record h { temps = with_content r c h.temps }

-- ---- a frame comes

-- the addresses from one up to another hold nothing that may be relied on
abbrev pub blank : ℕ → ℕ → Contents → Contents
blank from to contents a = elim (nat_le from a && nat_lt a to) [ true ↦ Unknown | false ↦ contents a ]

-- words at offsets from an address are written, one after the other
abbrev pub with_words : ℕ → List (ℕ × Content) → Contents → Contents
with_words at [] contents = contents
with_words at ((offset, c) ∷ rest) contents = with_words at rest (with_content (at + offset) c contents)

abbrev pub saved_words : Contents → List (ℕ × ℕ) → List (ℕ × Content)
saved_words kept [] = []
saved_words kept ((register, offset) ∷ rest) = (offset, kept register) ∷ saved_words kept rest

-- the pairs of continuations, counted from k on
abbrev pub pair_words : ℕ → ℕ → ℕ → List ℕ → List (ℕ × Content)
pair_words q at k [] = []
pair_words q at k (offset ∷ rest) = (offset, LandingOf q k) ∷ (offset + 8, Number at) ∷ pair_words q at (suc k) rest

-- what is written into a new frame: the return address, the registers that are saved, and the pairs
abbrev pub fixed_words : Frame → ℕ → ℕ → Content → Contents → List (ℕ × Content)
fixed_words f q at back kept = (f.return_at, back) ∷ saved_words kept f.saved ++ pair_words q at 0 f.pairs

-- a procedure is entered: its frame is made below the point from which it is called
abbrev pub entered : Plan → ℕ → Point → Contents → Holdings
entered plan q p contents =
    let f = plan.frame q in
    let at = p.at - f.size in
    record {
      point = record { at = at; back = Unknown; kept = p.kept };
      temps = λ r. Unknown;
      contents = with_words at (fixed_words f q at p.back p.kept) (blank at p.at contents);
    }

-- ---- control leaves

abbrev pub none_known : Contents
none_known r = Unknown

-- at a site, to a procedure that is called
abbrev pub called : ℕ → ℕ → Holdings → Holdings
called q site h = record { point = record h.point { back = ReturnTo q site }; temps = none_known; contents = h.contents }

-- its frame goes: the return address and the saved registers are loaded from it
abbrev pub left : Plan → ℕ → Holdings → Holdings
left plan q h = record { point = behind plan h.contents q h.point; temps = none_known; contents = h.contents }

-- a cut moves to the frame of the activation that goes on, and restores no register
abbrev pub cut_at : ℕ → Holdings → Holdings
cut_at at h = record { point = record { at = at; back = Unknown; kept = h.point.kept }; temps = none_known; contents = h.contents }

-- ---- the facts

-- the frame of a procedure lies below these older activations
pub record IsFramed (plan : Plan) (top q : ℕ) (older : List Suspension) (h : Holdings) : Type 0 where
  pub pairs : HasPairs (plan.frame q) h.contents q h.point.at
  pub chain : IsChain plan top h.contents older (behind plan h.contents q h.point)

-- the places of its live locals hold their values
abbrev pub HasValues : Plan → ℕ → Holdings → (ℕ → Bool) → (ℕ → ℕ) → Type 0
HasValues plan q h live values = (v : ℕ) → live v ≡ true → held h (plan.place q v) ≡ Number (values v)

abbrev pub with_number : ℕ → ℕ → (ℕ → ℕ) → ℕ → ℕ
with_number v x values u = elim (u == v) [ true ↦ x | false ↦ values u ]

-- a place whose content lasts while the activation is suspended
abbrev pub lasts : Location → Bool
lasts (Slot offset) = true
lasts (Saved r) = is_register (Saved r)
lasts (Temp r) = false
