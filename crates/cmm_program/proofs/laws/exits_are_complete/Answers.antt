use Rattle.std.proofs.Common.{◌≡◌, ℕ, zero, suc, Bool, true, false, All, Contains, List, [], ◌∷◌, ◌++◌, map, ap, refl, arith}
use Rattle.std.proofs.lemmas.List.Elements.{All-nil, All-cons, All-append, All-map, All-weaker, All-contains, All-contains_itself, Contains-append_left, Contains-append_right}
use Rattle.cmm_program.specs.declared.statement.Statement.{Statement}
use Rattle.cmm_program.specs.declared.procedure.Proc.{Proc}
use Rattle.cmm_program.specs.declared.procedure.Site.{Site}
use Rattle.cmm_program.specs.Liveness.{Way, to_next, to_continuation, exits}
use Rattle.cmm_program.specs.LivePaths.{IsExit, Normal, Alternate, Unwind, Cut}
use Rattle.cmm_program.proofs.laws.exits_are_complete.Goals as goal

Contains-map : {A B : Type 0} (f : A → B) (list : List A) (a : A) → Contains list a → Contains (map f list) (f a)
Contains-map f [] a c = absurd (omega (arith, c.1))
Contains-map f (b ∷ others) a (zero, less, is) = (zero, omega arith, ap f is)
Contains-map f (b ∷ others) a (suc k, less, is) =
    let c = Contains-map f others a (k, omega arith, is) in (suc c.0, omega (arith, c.1), c.2)

all_of : {A : Type 0} (P : A → Type 0) (list : List A) → ((a : A) → Contains list a → P a) → All P list
all_of P list h = All-weaker (λ a. Contains list a) P h list (All-contains_itself list)

module _ (q : Proc) (site : Site) (rest : List Statement) where
  abbrev Exit : Way → Type 0
  Exit way = IsExit q site rest way

  abbrev normal : Bool → List Way
  normal never = elim never [ true ↦ [] | false ↦ to_next site rest ∷ [] ]

  abbrev continuations : List ℕ
  continuations = site.returns ++ site.unwinds ++ site.cuts

  -- each way is an exit
  normal_is_exit : (never : Bool) → site.never ≡ never → All Exit (normal never)
  normal_is_exit true e = All-nil Exit
  normal_is_exit false e = All-cons Exit (to_next site rest) [] (Normal e) (All-nil Exit)

  ways_are_exits : All Exit (exits q site rest)
  ways_are_exits =
      let to_one = λ (k : ℕ). Exit (to_continuation q k) in
      let two = All-append to_one site.returns site.unwinds (all_of to_one site.returns Alternate) (all_of to_one site.unwinds Unwind) in
      let all = All-append to_one (site.returns ++ site.unwinds) site.cuts two (all_of to_one site.cuts Cut) in
      All-append Exit (normal site.never) (map (to_continuation q) continuations) (normal_is_exit site.never refl) (All-map Exit (to_continuation q) continuations all)

  -- each exit is a way
  normal_is_way : (never : Bool) → never ≡ false → Contains (normal never) (to_next site rest)
  normal_is_way true e = absurd (cc)
  normal_is_way false e = (zero, omega arith, refl)

  continuation_is_way : (k : ℕ) → Contains continuations k → Contains (exits q site rest) (to_continuation q k)
  continuation_is_way k c =
      Contains-append_right (normal site.never) (map (to_continuation q) continuations) (to_continuation q k) (Contains-map (to_continuation q) continuations k c)

  exits_are_ways : (way : Way) → Exit way → Contains (exits q site rest) way
  exits_are_ways way (Normal e) = Contains-append_left (normal site.never) (map (to_continuation q) continuations) (to_next site rest) (normal_is_way site.never e)
  exits_are_ways way (Alternate k c) = continuation_is_way k (Contains-append_left (site.returns ++ site.unwinds) site.cuts k (Contains-append_left site.returns site.unwinds k c))
  exits_are_ways way (Unwind k c) = continuation_is_way k (Contains-append_left (site.returns ++ site.unwinds) site.cuts k (Contains-append_right site.returns site.unwinds k c))
  exits_are_ways way (Cut k c) = continuation_is_way k (Contains-append_right (site.returns ++ site.unwinds) site.cuts k c)

pub returns : goal.returns
returns c = λ q site rest way. (All-contains (Exit q site rest) (exits q site rest) way (ways_are_exits q site rest), exits_are_ways q site rest way)
