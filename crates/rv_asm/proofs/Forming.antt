-- Parts grow one at a time, and what lay out of reach stays so: distances never shrink.
use Rattle.std.proofs.Common.{◌≡◌, ◌≢◌, ℕ, zero, suc, ◌+◌, ◌<◌, ◌≤◌, ◌^◌, inl, inr, refl, ◌∙◌, subst, arith, List, [], ◌∷◌, length, length-set, set}
use Rattle.std.specs.Prelude.{slice_get, slice_index, Option, Some, None, true, false, nat_le}
use Rattle.std.proofs.lemmas.List.{get_or-set_same, get_or-set_other}
use Rattle.std.proofs.lemmas.Bool.{and_parts, cases_eq, cases_lt, le-leb, leb-true}
use Rattle.std.proofs.lemmas.Option.{slice_get_within}
use Rattle.rv_asm.proofs.Sizes.{shortest_least}
use Rattle.rv_asm.proofs.Starts.{start-set_after, start-set_before, start-up, start-zero}
use Rattle.rv_asm.specs.Assembly.{meaning}
use Rattle.rv_asm.specs.Reach.{begins_at, is_near, near_by, near_label, short_by, size_as, size_at}
use Rattle.rv_asm.specs.Sizes.{longest}
use Rattle.rv_asm.specs.inside.Growing.{AreGrown, HasSize, IsIn, IsOut, IsSettled, LabelIsOut, spot_address, start}
use Rattle.rv_asm.specs.declared.part.Label.{Label}
use Rattle.rv_asm.specs.declared.part.Meaning.{Meaning}
use Rattle.rv_asm.specs.declared.part.Meaning.TheVariants.{Inner, Outer}
use Rattle.rv_asm.specs.declared.part.Part.{Part}
use Rattle.rv_asm.specs.declared.part.Part.TheVariants.{Single, Place, Branch, Jump, Call, Address, Table}

-- ---- a short form reaches two bytes at least
near_by_reach : (meant : Meaning) (l : Label) (near : Label × ℕ) → near_by meant l ≡ Some near → 2 ≤ near.1
near_by_reach (Inner placed) l near is = let e : near ≡ (l, 2 ^ 20) = cc in rw e (omega arith)
near_by_reach (Outer symbol target) l near is = absurd (cc)

pub near_reach : (labels : List Meaning) (p : Part) (near : Label × ℕ) → near_label labels p ≡ Some near → 2 ≤ near.1
near_reach labels (Single i) near is = absurd (cc)
near_reach labels (Place l) near is = absurd (cc)
near_reach labels (Branch c a b l) near is = let e : near ≡ (l, 2 ^ 12) = cc in rw e (omega arith)
near_reach labels (Jump l) near is = near_by_reach (meaning labels l) l near is
near_reach labels (Call l) near is = near_by_reach (meaning labels l) l near is
near_reach labels (Address rd l) near is = absurd (cc)
near_reach labels (Table ls) near is = absurd (cc)

-- ---- distances never shrink
module _ (base : ℕ) (sizes : List ℕ) (i v : ℕ) (within : i < length sizes) (more : slice_index sizes i ≤ v) where
  module _ (j k reach : ℕ) (wide : 2 ≤ reach) where
    placed_out : IsOut reach (base + start sizes j) (base + start sizes k) → IsOut reach (base + start (set sizes i v) j) (base + start (set sizes i v) k)
    placed_out out =
        elim (cases_lt i j) [
          | inr a ↦
              elim (cases_lt i k) [
                | inr b ↦ rw (start-set_before sizes i v j a, start-set_before sizes i v k b) out
                | inl b ↦
                    let e = start-set_before sizes i v j a in
                    let f = start-set_after sizes i v k b within in
                    let up = start-up sizes j k (omega arith) in
                    elim out [
                      | inl h ↦ inl (omega (arith, e, f, h, more))
                      | inr h ↦ absurd (omega (arith, up, h, wide))
                    ]
              ]
          | inl a ↦
              elim (cases_lt i k) [
                | inr b ↦
                    let e = start-set_after sizes i v j a within in
                    let f = start-set_before sizes i v k b in
                    let up = start-up sizes k j (omega arith) in
                    elim out [
                      | inl h ↦ absurd (omega (arith, up, h))
                      | inr h ↦ inr (omega (arith, e, f, h, more))
                    ]
                | inl b ↦
                    let e = start-set_after sizes i v j a within in
                    let f = start-set_after sizes i v k b within in
                    elim out [
                      | inl h ↦ inl (omega (arith, e, f, h))
                      | inr h ↦ inr (omega (arith, e, f, h))
                    ]
              ]
        ]

  pub start_grows : (k : ℕ) → start sizes k ≤ start (set sizes i v) k
  start_grows k =
      elim (cases_lt i k) [
        | inr b ↦ omega (arith, start-set_before sizes i v k b)
        | inl b ↦ omega (arith, start-set_after sizes i v k b within, more)
      ]

  pub spot_out : (spot k reach : ℕ) → 2 ≤ reach → IsOut reach (spot_address base sizes spot) (base + start sizes k) →
      IsOut reach (spot_address base (set sizes i v) spot) (base + start (set sizes i v) k)
  spot_out zero k reach wide (inl h) = inl (omega (arith, h, start_grows k))
  spot_out zero k reach wide (inr h) = absurd (omega (arith, h, wide))
  spot_out (suc j) k reach wide out = placed_out j k reach wide out

-- ---- one part grows, or none
module _ (labels : List Meaning) (parts : List Part) (spots : List ℕ) (base : ℕ) where
  size_kept : (sizes : List ℕ) (i v k : ℕ) (p : Part) (near : Option (Label × ℕ)) → near_label labels p ≡ near → i < length sizes → slice_index sizes i ≤ v →
      k ≢ i → HasSize labels parts spots base sizes k p near → HasSize labels parts spots base (set sizes i v) k p near
  size_kept sizes i v k p None is within more other has = get_or-set_other sizes i k v 0 other ∙ has
  size_kept sizes i v k p (Some near) is within more other (inl h) = inl (get_or-set_other sizes i k v 0 other ∙ h)
  size_kept sizes i v k p (Some near) is within more other (inr h) =
      inr (get_or-set_other sizes i k v 0 other ∙ h.0, spot_out base sizes i v within more (slice_index spots near.0.number) k near.1 (near_reach labels p near is) h.1)

  size_most : (sizes : List ℕ) (k : ℕ) (p : Part) (near : Option (Label × ℕ)) → HasSize labels parts spots base sizes k p near → slice_index sizes k ≤ longest p
  size_most sizes k p None has = omega (arith, has)
  size_most sizes k p (Some near) (inl h) = omega (arith, h, shortest_least p)
  size_most sizes k p (Some near) (inr h) = omega (arith, h.0)

  pub most_size : (sizes : List ℕ) → AreGrown labels parts spots base sizes → (k : ℕ) (p : Part) → slice_get parts k ≡ Some p → slice_index sizes k ≤ longest p
  most_size sizes grown k p is = size_most sizes k p (near_label labels p) (grown.each k p is)

  module _ (sizes : List ℕ) (grown : AreGrown labels parts spots base sizes) (i : ℕ) (p : Part) (is : slice_get parts i ≡ Some p) where
    within : i < length sizes
    within = omega (arith, grown.count, slice_get_within parts i p is)

    -- it grows
    has_longest : (near : Option (Label × ℕ)) → near_label labels p ≡ near → (v : ℕ) → v ≡ longest p → slice_index sizes i ≤ v →
        ((n : Label × ℕ) → near ≡ Some n → LabelIsOut labels parts spots base sizes i n) → HasSize labels parts spots base (set sizes i v) i p near
    has_longest None same v long more out = get_or-set_same sizes i v 0 within ∙ long
    has_longest (Some near) same v long more out =
        inr (get_or-set_same sizes i v 0 within ∙ long, spot_out base sizes i v within more (slice_index spots near.0.number) i near.1 (near_reach labels p near same) (out near refl))

    pub part_grows : (v : ℕ) → v ≡ longest p → ((n : Label × ℕ) → near_label labels p ≡ Some n → LabelIsOut labels parts spots base sizes i n) →
        AreGrown labels parts spots base (set sizes i v)
    part_grows v long out = record {
      count = length-set sizes i v ∙ grown.count;
      each = λ k q at.
          let more : slice_index sizes i ≤ v = omega (arith, most_size sizes grown i p is, long) in
          elim (cases_eq k i) [
            | inl e ↦
                let here : slice_get parts i ≡ Some q = subst (λ j. slice_get parts j ≡ Some q) e at in
                let same : q ≡ p = cc in
                rw (e, same) (has_longest (near_label labels p) refl v long more out)
            | inr other ↦ size_kept sizes i v k q (near_label labels q) refl within more other (grown.each k q at)
          ];
    }

near_not_out : (reach to from : ℕ) → is_near reach to from ≡ true → IsOut reach to from → ⊥
near_not_out reach to from is out =
    let h = and_parts (nat_le from (to + reach)) (nat_le (to + 2) (from + reach)) is in
    let a = leb-true from (to + reach) h.0 in
    let b = leb-true (to + 2) (from + reach) h.1 in
    elim out [ inl c ↦ absurd (omega (arith, a, c)) | inr c ↦ absurd (omega (arith, b, c)) ]

in_is_near : (reach to from : ℕ) → is_near reach to from ≡ false → IsIn reach to from → ⊥
in_is_near reach to from is near =
    let a = le-leb from (to + reach) near.0 in
    let b = le-leb (to + 2) (from + reach) near.1 in
    let yes : is_near reach to from ≡ true = rw (a, b) refl in
    absurd (cc)

-- ---- sizes that are settled are those of the forms
module _ (labels : List Meaning) (parts : List Part) (spots : List ℕ) (base : ℕ) (sizes places : List ℕ) where
  pub size_by_is : (k : ℕ) (p : Part) (near : Option (Label × ℕ)) → HasSize labels parts spots base sizes k p near →
      ((n : Label × ℕ) → near ≡ Some n → IsSettled labels parts spots base sizes k p n × (slice_index places n.0.number ≡ spot_address base sizes (slice_index spots n.0.number))) →
      slice_index sizes k ≡ size_as (short_by places (base + start sizes k) near) p
  size_by_is k p None has settled = has
  size_by_is k p (Some near) has settled =
      let s = settled near refl in
      by (is_near near.1 (slice_index places near.0.number) (base + start sizes k)) refl has s.0 s.1
    where
      by : (b : _) → is_near near.1 (slice_index places near.0.number) (base + start sizes k) ≡ b → HasSize labels parts spots base sizes k p (Some near) →
          IsSettled labels parts spots base sizes k p near → slice_index places near.0.number ≡ spot_address base sizes (slice_index spots near.0.number) →
          slice_index sizes k ≡ size_as b p
      by true e (inl short) fine place = short
      by true e (inr long) fine place = absurd (near_not_out near.1 (slice_index places near.0.number) (base + start sizes k) e (rw place long.1))
      by false e has (inl long) place = long
      by false e has (inr near_in) place = absurd (in_is_near near.1 (slice_index places near.0.number) (base + start sizes k) e (rw place near_in))

pub begins_are : (labels : List Meaning) (places : List ℕ) (base : ℕ) (parts : List Part) (sizes : List ℕ) → length sizes ≡ length parts →
    ((k : ℕ) (p : Part) → slice_get parts k ≡ Some p → slice_index sizes k ≡ size_at labels places (base + start sizes k) p) →
    (k : ℕ) → k ≤ length parts → begins_at labels places base parts k ≡ base + start sizes k
begins_are labels places base [] sizes same each zero le = omega (arith, start-zero sizes)
begins_are labels places base [] sizes same each (suc k) le = absurd (omega arith)
begins_are labels places base (p ∷ parts) [] same each k le = absurd (omega arith)
begins_are labels places base (p ∷ parts) (s ∷ sizes) same each zero le = omega arith
begins_are labels places base (p ∷ parts) (s ∷ sizes) same each (suc k) le =
    let zero_there : base + 0 ≡ base = omega arith in
    let first : s ≡ size_at labels places base p = rw zero_there at (each 0 p refl) in
    let rest = begins_are labels places (base + s) parts sizes (omega arith)
    (λ i q is. let e : base + s + start sizes i ≡ base + (s + start sizes i) = omega arith in rw e (each (suc i) q is)) k (omega arith) in
    subst (λ n. begins_at labels places (base + n) parts k ≡ base + (s + start sizes k)) first (rest ∙ omega arith)
