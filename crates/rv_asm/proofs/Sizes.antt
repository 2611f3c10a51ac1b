-- The bytes of parts, added up, and the instructions of the parts before an index.
use Rattle.std.proofs.Common.{◌≡◌, ℕ, zero, suc, ◌+◌, ◌*◌, ◌%◌, ◌≤◌, ◌^◌, refl, arith, List, [], ◌∷◌, ◌++◌, length, length-append, take, append_assoc, append-nil, Some}
use Rattle.std.specs.Prelude.{slice_get, Bool, true, false}
use Rattle.std.proofs.Math.Seq.{take-suc}
use Rattle.std.proofs.lemmas.Option.{slice_get_within, get_or_from_slice_get}
use Rattle.rv_asm.specs.Assembly.{Fits}
use Rattle.rv_asm.specs.Reach.{begins_at, end_at, is_short, size_as, size_at}
use Rattle.rv_asm.specs.Sizes.{all_longest, all_shortest, longest, shortest}
use Rattle.rv_asm.specs.inside.Forms.{all_instructions, entries, far_jumps, fix_of, fixes_of, form_as, instructions}
use Rattle.rv_asm.specs.declared.part.Label.{Label}
use Rattle.rv_asm.specs.declared.part.Meaning.{Meaning}
use Rattle.rv_asm.specs.declared.part.Part.{Part}
use Rattle.rv_asm.specs.declared.part.Part.TheVariants.{Single, Place, Branch, Jump, Call, Address, Table}

pub longest-append : (ps qs : List Part) → all_longest (ps ++ qs) ≡ all_longest ps + all_longest qs
longest-append [] qs = omega arith
longest-append (p ∷ ps) qs = omega (arith, longest-append ps qs)

pub shortest-append : (ps qs : List Part) → all_shortest (ps ++ qs) ≡ all_shortest ps + all_shortest qs
shortest-append [] qs = omega arith
shortest-append (p ∷ ps) qs = omega (arith, shortest-append ps qs)

pub longest-take : (ps : List Part) (i : ℕ) → all_longest (take i ps) ≤ all_longest ps
longest-take [] zero = omega arith
longest-take [] (suc i) = omega arith
longest-take (p ∷ ps) zero = omega arith
longest-take (p ∷ ps) (suc i) = omega (arith, longest-take ps i)

-- the parts before the next index
next_part : (ps : List Part) (i : ℕ) (p : Part) → slice_get ps i ≡ Some p → take (i + 1) ps ≡ take i ps ++ p ∷ []
next_part ps i p is =
    let e : i + 1 ≡ suc i = omega arith in
    rw (e, take-suc ps i p (slice_get_within ps i p is), get_or_from_slice_get ps i p p is) refl

pub longest_more : (ps : List Part) (i : ℕ) (p : Part) → slice_get ps i ≡ Some p →
    all_longest (take (i + 1) ps) ≡ all_longest (take i ps) + longest p
longest_more ps i p is = rw (next_part ps i p is, longest-append (take i ps) (p ∷ [])) (omega arith)

pub longest_within : (ps : List Part) (i : ℕ) (p : Part) → slice_get ps i ≡ Some p → all_longest (take i ps) + longest p ≤ all_longest ps
longest_within ps i p is = omega (arith, longest_more ps i p is, longest-take ps (i + 1))

-- a part that fits is short
pub longest_short : (labels : List Meaning) (p : Part) → Fits labels p → longest p ≤ 2 ^ 10
longest_short labels (Single i) fits = omega arith
longest_short labels (Place l) fits = omega arith
longest_short labels (Branch c a b l) fits = omega arith
longest_short labels (Jump l) fits = omega arith
longest_short labels (Call l) fits = omega arith
longest_short labels (Address rd l) fits = omega arith
longest_short labels (Table ls) fits = omega (arith, fits.1)

pub longest_aligned : (p : Part) → longest p % 4 ≡ 0
longest_aligned (Single i) = refl
longest_aligned (Place l) = refl
longest_aligned (Branch c a b l) = refl
longest_aligned (Jump l) = refl
longest_aligned (Call l) = refl
longest_aligned (Address rd l) = refl
longest_aligned (Table ls) = omega arith

pub all_aligned : (ps : List Part) → all_longest ps % 4 ≡ 0
all_aligned [] = refl
all_aligned (p ∷ ps) = omega (arith, longest_aligned p, all_aligned ps)

pub length-entries : (ahead : ℕ) (ls : List Label) → length (entries ahead ls) ≡ length ls
length-entries ahead [] = refl
length-entries ahead (l ∷ ls) = omega (arith, length-entries (ahead + 4) ls)

-- ---- the sizes that parts have
pub shortest_least : (p : Part) → shortest p ≤ longest p
shortest_least (Single i) = omega arith
shortest_least (Place l) = omega arith
shortest_least (Branch c a b l) = omega arith
shortest_least (Jump l) = omega arith
shortest_least (Call l) = omega arith
shortest_least (Address rd l) = omega arith
shortest_least (Table ls) = omega arith

shortest_aligned : (p : Part) → shortest p % 4 ≡ 0
shortest_aligned (Single i) = refl
shortest_aligned (Place l) = refl
shortest_aligned (Branch c a b l) = refl
shortest_aligned (Jump l) = refl
shortest_aligned (Call l) = refl
shortest_aligned (Address rd l) = refl
shortest_aligned (Table ls) = omega arith

pub size_most : (b : Bool) (p : Part) → size_as b p ≤ longest p
size_most true p = shortest_least p
size_most false p = omega arith

pub size_least : (b : Bool) (p : Part) → shortest p ≤ size_as b p
size_least true p = omega arith
size_least false p = shortest_least p

pub size_aligned : (b : Bool) (p : Part) → size_as b p % 4 ≡ 0
size_aligned true p = shortest_aligned p
size_aligned false p = longest_aligned p

module _ (labels : List Meaning) (places : List ℕ) where
  pub end-append : (from : ℕ) (ps qs : List Part) → end_at labels places from (ps ++ qs) ≡ end_at labels places (end_at labels places from ps) qs
  end-append from [] qs = refl
  end-append from (p ∷ ps) qs = end-append (from + size_at labels places from p) ps qs

  pub end_more : (from : ℕ) (ps : List Part) (i : ℕ) (p : Part) → slice_get ps i ≡ Some p →
      end_at labels places from (take (i + 1) ps) ≡ end_at labels places from (take i ps) + size_at labels places (end_at labels places from (take i ps)) p
  end_more from ps i p is = rw (next_part ps i p is, end-append from (take i ps) (p ∷ [])) refl

  pub end_most : (from : ℕ) (ps : List Part) → end_at labels places from ps ≤ from + all_longest ps
  end_most from [] = omega arith
  end_most from (p ∷ ps) =
      omega (arith, end_most (from + size_at labels places from p) ps, size_most (is_short labels places from p) p)

  pub end_least : (from : ℕ) (ps : List Part) → from ≤ end_at labels places from ps
  end_least from [] = omega arith
  end_least from (p ∷ ps) = omega (arith, end_least (from + size_at labels places from p) ps)

  pub end_aligned : (from : ℕ) (ps : List Part) → from % 4 ≡ 0 → end_at labels places from ps % 4 ≡ 0
  end_aligned from [] even = even
  end_aligned from (p ∷ ps) even =
      end_aligned (from + size_at labels places from p) ps (omega (arith, even, size_aligned (is_short labels places from p) p))

  pub begins_end : (from : ℕ) (ps : List Part) (k : ℕ) → begins_at labels places from ps k ≡ end_at labels places from (take k ps)
  begins_end from [] zero = refl
  begins_end from [] (suc k) = refl
  begins_end from (p ∷ ps) zero = refl
  begins_end from (p ∷ ps) (suc k) = begins_end (from + size_at labels places from p) ps k

module _ (number : Bool → Label → ℕ → ℕ) (places : List ℕ) (labels : List Meaning) where
  length-far_jumps : (from : ℕ) (ls : List Label) → length (far_jumps number from ls) ≡ 2 * length ls
  length-far_jumps from [] = refl
  length-far_jumps from (l ∷ ls) = omega (arith, length-far_jumps (from + 8) ls)

  jump_size : (b : Bool) (from : ℕ) (l : Label) → 4 * length (form_as number b labels from (Jump l)) ≡ size_as b (Jump l)
  jump_size true from l = refl
  jump_size false from l = refl

  call_size : (b : Bool) (from : ℕ) (l : Label) → 4 * length (form_as number b labels from (Call l)) ≡ size_as b (Call l)
  call_size true from l = refl
  call_size false from l = refl

  branch_size : (b : Bool) (from : ℕ) (c : _) (x y : ℕ) (l : Label) → 4 * length (form_as number b labels from (Branch c x y l)) ≡ size_as b (Branch c x y l)
  branch_size true from c x y l = refl
  branch_size false from c x y l = refl

  -- a part has as many bytes as its instructions
  pub instructions_size : (from : ℕ) (p : Part) → 4 * length (instructions number places labels from p) ≡ size_at labels places from p
  instructions_size from (Single i) = refl
  instructions_size from (Place l) = refl
  instructions_size from (Branch c a b l) = branch_size (is_short labels places from (Branch c a b l)) from c a b l
  instructions_size from (Jump l) = jump_size (is_short labels places from (Jump l)) from l
  instructions_size from (Call l) = call_size (is_short labels places from (Call l)) from l
  instructions_size from (Address rd l) = refl
  instructions_size from (Table ls) =
      rw (length-append) (omega (arith, length-entries (4 * length ls + 4) ls, length-far_jumps (from + 4 * length ls + 4) ls))

  pub instructions-append : (from : ℕ) (ps qs : List Part) →
      all_instructions number places labels from (ps ++ qs)
      ≡ all_instructions number places labels from ps ++ all_instructions number places labels (end_at labels places from ps) qs
  instructions-append from [] qs = refl
  instructions-append from (p ∷ ps) qs = rw (instructions-append (from + size_at labels places from p) ps qs, append_assoc) refl

  pub instructions_more : (from : ℕ) (ps : List Part) (i : ℕ) (p : Part) → slice_get ps i ≡ Some p →
      all_instructions number places labels from (take (i + 1) ps)
      ≡ all_instructions number places labels from (take i ps) ++ instructions number places labels (end_at labels places from (take i ps)) p
  instructions_more from ps i p is =
      rw (next_part ps i p is, instructions-append from (take i ps) (p ∷ []), append-nil (instructions number places labels (end_at labels places from (take i ps)) p)) refl

  -- parts have as many as their instructions
  pub all_size : (from : ℕ) (ps : List Part) → from + 4 * length (all_instructions number places labels from ps) ≡ end_at labels places from ps
  all_size from [] = omega arith
  all_size from (p ∷ ps) =
      rw (length-append) (omega (arith, instructions_size from p, all_size (from + size_at labels places from p) ps))

module _ (labels : List Meaning) (places : List ℕ) (base : ℕ) where
  pub fixes-append : (place mid : ℕ) (ps qs : List Part) → base + mid ≡ end_at labels places (base + place) ps →
      fixes_of labels places base place (ps ++ qs) ≡ fixes_of labels places base place ps ++ fixes_of labels places base mid qs
  fixes-append place mid [] qs is = let e : mid ≡ place = omega (arith, is) in rw e refl
  fixes-append place mid (p ∷ ps) qs is =
      let size = size_at labels places (base + place) p in
      let e : base + (place + size) ≡ base + place + size = omega arith in
      let later : base + mid ≡ end_at labels places (base + (place + size)) ps = rw e is in
      rw (fixes-append (place + size) mid ps qs later, append_assoc) refl

  pub fixes_more : (mid : ℕ) (ps : List Part) (i : ℕ) (p : Part) → slice_get ps i ≡ Some p → base + mid ≡ end_at labels places base (take i ps) →
      fixes_of labels places base 0 (take (i + 1) ps) ≡ fixes_of labels places base 0 (take i ps) ++ fix_of labels mid p
  fixes_more mid ps i p is at =
      let e : base + 0 ≡ base = omega arith in
      rw (next_part ps i p is, fixes-append 0 mid (take i ps) (p ∷ []) (rw e at), append-nil (fix_of labels mid p)) refl
