-- A chain of three frames. main keeps a local in register 9 and calls c; c, which is cut to and so saves every callee-saves register,
-- calls d; d saves register 9, uses it, and calls a procedure that cuts past d to c.
use Rattle.std.proofs.Common.{◌≡◌, ℕ, zero, suc, ◌+◌, ◌==◌, Bool, true, List, [], ◌∷◌, map, Some, arith, refl, subst, inr}
use Rattle.std.specs.Prelude.{slice_get, slice_index_or, nat_lt, is_some}
use Rattle.std.proofs.lemmas.Bool.Decides.{nat_tests}
use Rattle.cmm_chain.specs.declared.frame.Frame.{Frame}
use Rattle.cmm_chain.specs.declared.frame.Location.{Location}
use Rattle.cmm_chain.specs.declared.frame.Location.TheVariants.{Slot, Saved, Temp}
use Rattle.cmm_abi.specs.Registers.{is_callee_saves}
use Rattle.cmm_chain.specs.Contents.{Content, Unknown, Number, ReturnTo, LastReturn, Contents}
use Rattle.cmm_chain.specs.Plans.{Plan, IsPlanned, is_laid, is_place, saved_at}
use Rattle.cmm_chain.specs.Chain.{Point, Suspension, IsChain, IsSuspended, behind}
use Rattle.cmm_chain.specs.Running.{Holdings, IsFramed, held, put_in, entered, called, left, cut_at, none_known}
use Rattle.cmm_chain.specs.Walks.{InRegister, InStack, Element, walk_from, spot_of, shown_at, put_at, unwound}
use Rattle.cmm_chain.specs.Laws.{MayBeSet}
use Rattle.cmm_chain.proofs.Leaving.{goes_on_framed}

-- ---- how the procedures are compiled

abbrev all_saved : List (ℕ × ℕ)
all_saved = (9, 24) ∷ (18, 32) ∷ (19, 40) ∷ (20, 48) ∷ (21, 56) ∷ (22, 64) ∷ (23, 72) ∷ (24, 80) ∷ (25, 88) ∷ (26, 96) ∷ (27, 104) ∷ []

abbrev laid : ℕ → ℕ → List (ℕ × ℕ) → List ℕ → Frame
laid size return_at saved pairs = record { size = size; return_at = return_at; saved = saved; pairs = pairs; stack = [] }

abbrev frames : List Frame
frames = laid 32 8 ((9, 16) ∷ []) [] ∷ laid 128 16 all_saved (112 ∷ []) ∷ laid 32 8 ((9, 16) ∷ []) [] ∷ []

abbrev places : List (List Location)
places = (Saved 9 ∷ Slot 0 ∷ []) ∷ (Slot 0 ∷ Slot 8 ∷ []) ∷ (Slot 0 ∷ Saved 9 ∷ Temp 12 ∷ []) ∷ []

-- at each site one local is live
abbrev plan : Plan
plan = record {
  is_procedure = λ q. nat_lt q 3;
  frame = λ q. slice_index_or frames q (laid 16 0 [] []);
  place = λ q v. slice_index_or (slice_index_or places q []) v (Temp 28);
  live = λ q site v. v == slice_index_or (0 ∷ 0 ∷ 1 ∷ []) q 0;
}

three : (P : ℕ → Type 0) → P 0 → P 1 → P 2 → (q : ℕ) → nat_lt q 3 ≡ true → P q
three P zero_ one two zero is = zero_
three P zero_ one two (suc zero) is = one
three P zero_ one two (suc (suc zero)) is = two
three P zero_ one two (suc (suc (suc q))) is = absurd (grind (arith, nat_tests, is))

two_locals : (f : Frame) (first second rest : Location) → is_place f first ≡ true → is_place f second ≡ true → is_place f rest ≡ true →
    (v : ℕ) → is_place f (slice_index_or (first ∷ second ∷ []) v rest) ≡ true
two_locals f first second rest is_first is_second is_rest zero = is_first
two_locals f first second rest is_first is_second is_rest (suc zero) = is_second
two_locals f first second rest is_first is_second is_rest (suc (suc v)) = is_rest

three_locals : (f : Frame) (first second third rest : Location) → is_place f first ≡ true → is_place f second ≡ true → is_place f third ≡ true →
    is_place f rest ≡ true → (v : ℕ) → is_place f (slice_index_or (first ∷ second ∷ third ∷ []) v rest) ≡ true
three_locals f first second third rest is_first is_second is_third is_rest zero = is_first
three_locals f first second third rest is_first is_second is_third is_rest (suc v) = two_locals f second third rest is_second is_third is_rest v

planned : IsPlanned plan
planned = record {
  laid = λ q is. three (λ q. is_laid (plan.frame q) ≡ true) refl refl refl q is;
  places = λ q v is. three (λ q. (v : ℕ) → is_place (plan.frame q) (plan.place q v) ≡ true)
      (two_locals (plan.frame 0) (Saved 9) (Slot 0) (Temp 28) refl refl refl)
      (two_locals (plan.frame 1) (Slot 0) (Slot 8) (Temp 28) refl refl refl)
      (three_locals (plan.frame 2) (Slot 0) (Saved 9) (Temp 12) (Temp 28) refl refl refl refl) q is v;
}

-- ---- the run: each is entered, puts its locals, and calls

abbrev start : Point
start = record { at = 8192; back = LastReturn; kept = none_known }

abbrev in_main : Holdings
in_main = put_in (Saved 9) (Number 41) (entered plan 0 start (λ a. Unknown))

abbrev in_c : Holdings
in_c = let caller = called 0 0 in_main in put_in (Slot 0) (Number 5) (entered plan 1 caller.point caller.contents)

-- d has the value of c's continuation, and puts another number into register 9
abbrev in_d : Holdings
in_d = let caller = called 1 0 in_c in put_in (Saved 9) (Number 7) (put_in (Slot 0) (Number 8144) (entered plan 2 caller.point caller.contents))

abbrev at_call : Holdings
at_call = called 2 0 in_d

abbrev main_waits : Suspension
main_waits = record { procedure = 0; site = 0; values = λ v. 41 }

abbrev c_waits : Suspension
c_waits = record { procedure = 1; site = 0; values = λ v. 5 }

abbrev d_waits : Suspension
d_waits = record { procedure = 2; site = 0; values = λ v. slice_index_or (8144 ∷ 7 ∷ []) v 0 }

abbrev suspended : List Suspension
suspended = d_waits ∷ c_waits ∷ main_waits ∷ []

only : (P : ℕ → Type 0) (n v : ℕ) → (v == n) ≡ true → P n → P v
only P n v is at = let same : n ≡ v = grind (arith, nat_tests, is) in subst P same at

abbrev at_c : Point
at_c = behind plan at_call.contents 2 at_call.point

abbrev at_main : Point
at_main = behind plan at_call.contents 1 at_c

d_is : IsSuspended plan at_call.contents d_waits at_call.point
d_is = record {
  exists = refl;
  back = refl;
  values = λ v live. only (λ v. Rattle.cmm_chain.specs.Chain.found at_call.contents at_call.point (plan.place 2 v) ≡ Number (d_waits.values v)) 1 v live refl;
  pairs = record { code = λ k o gives. absurd (cc); frame = λ k o gives. absurd (cc) };
}

c_is : IsSuspended plan at_call.contents c_waits at_c
c_is = record {
  exists = refl;
  back = refl;
  values = λ v live. only (λ v. Rattle.cmm_chain.specs.Chain.found at_call.contents at_c (plan.place 1 v) ≡ Number 5) 0 v live refl;
  pairs = record { code = code; frame = frame };
}
  where
    code : (k o : ℕ) → slice_get (112 ∷ []) k ≡ Some o → at_call.contents (8032 + o) ≡ Rattle.cmm_chain.specs.Contents.LandingOf 1 k
    code zero o gives = let is : 112 ≡ o = cc in subst (λ o. at_call.contents (8032 + o) ≡ Rattle.cmm_chain.specs.Contents.LandingOf 1 0) is refl
    code (suc k) o gives = absurd (cc)

    frame : (k o : ℕ) → slice_get (112 ∷ []) k ≡ Some o → at_call.contents (8032 + (o + 8)) ≡ Number 8032
    frame zero o gives = let is : 112 ≡ o = cc in subst (λ o. at_call.contents (8032 + (o + 8)) ≡ Number 8032) is refl
    frame (suc k) o gives = absurd (cc)

main_is : IsSuspended plan at_call.contents main_waits at_main
main_is = record {
  exists = refl;
  back = refl;
  values = λ v live. only (λ v. Rattle.cmm_chain.specs.Chain.found at_call.contents at_main (plan.place 0 v) ≡ Number 41) 0 v live refl;
  pairs = record { code = λ k o gives. absurd (cc); frame = λ k o gives. absurd (cc) };
}

chain : IsChain plan 8192 at_call.contents suspended at_call.point
chain = (d_is, (c_is, (main_is, (refl, refl))))

-- ---- the walk, which finds main's local in the frame of c

abbrev listed : List Element
listed = walk_from plan at_call 9

row_walk : map (λ e. e.procedure ∷ e.site ∷ e.mark.at ∷ []) listed ≡ (2 ∷ 0 ∷ 8000 ∷ []) ∷ (1 ∷ 0 ∷ 8032 ∷ []) ∷ (0 ∷ 0 ∷ 8160 ∷ []) ∷ []
row_walk = refl

row_spots : map (λ e. spot_of e.mark (Saved 9)) listed ≡ Some (InRegister 9) ∷ Some (InStack 8016) ∷ Some (InStack 8056) ∷ []
row_spots = refl

row_values : map (λ e. shown_at at_call (spot_of e.mark (plan.place e.procedure (slice_index_or (0 ∷ 0 ∷ 1 ∷ []) e.procedure 0)))) listed
    ≡ Number 7 ∷ Number 5 ∷ Number 41 ∷ []
row_values = refl

-- ---- a cut past d to c, which restores nothing; when c returns, main has its value again

abbrev cut : Holdings
cut = cut_at 8032 at_call

abbrev is_among : ℕ → Bool
is_among r = is_some (saved_at plan 1 r)

all_are_saved : (r : ℕ) → is_callee_saves r ≡ true → is_among r ≡ true
all_are_saved r is = grind (arith, nat_tests, is)

cut_is_framed : IsFramed plan 8192 1 (main_waits ∷ []) cut
cut_is_framed = goes_on_framed plan 8192 at_call.contents c_waits (main_waits ∷ []) at_c cut chain.1
    (record { stack = refl; at = refl; kept = λ r is. inr (all_are_saved r is) })

row_cut : held cut (Saved 9) ≡ Number 7
row_cut = refl

row_returned : held (left plan 1 cut) (Saved 9) ≡ Number 41
row_returned = refl

-- ---- the client sets main's local, or unwinds to main

may_be_set : MayBeSet plan main_waits 0
may_be_set = record { live = refl; apart = λ u live other. absurd (grind (arith, nat_tests, live, other)) }

row_set : held (left plan 1 (cut_at 8032 (put_at (InStack 8056) (Number 43) at_call))) (Saved 9) ≡ Number 43
row_set = refl

row_unwound : map (λ e. held (unwound e.mark at_call) (Saved 9)) listed ≡ Number 7 ∷ Number 41 ∷ Number 41 ∷ []
row_unwound = refl
