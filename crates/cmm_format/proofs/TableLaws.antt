-- Tables of fields, and rows: what is read is spelled so, and what is spelled so is read.
use Rattle.std.proofs.Common.{◌≡◌, ℕ, zero, suc, List, [], ◌∷◌, ◌++◌, length, Option, Some, None, Bool, true, false, Ok, refl, sym, ap, subst, ◌∙◌, append_assoc, arith}
use Rattle.std.specs.List.{flat_map}
use Rattle.cmm_format.specs.Formats.{◌>>=◌, Format, AreBytes, as_, seen_as, given, choose, ◌▸◌, rows_at, AreRows, rows, rows_behind_at, AreRowsBehind, rows_behind, counted}
use Rattle.cmm_format.proofs.FieldLaws.{IsExact, bind_ok, ok_is}

pub then-exact : {A B : Type 0} {F : Format A} {G : A → Format B} → IsExact F → ((a : A) → IsExact (G a)) → IsExact (F ▸ G)
then-exact {A = A} {B = B} {F = F} {G = G} f g = record {
  taken = λ bytes x rest fits e.
      let h = bind_ok (F.at bytes) (λ a. (G a.0).at a.1 >>= λ b. Ok ((a.0, b.0), b.1)) (x, rest) e in
      let k = bind_ok ((G h.0.0).at h.0.1) (λ b. Ok ((h.0.0, b.0), b.1)) (x, rest) h.2 in
      let first = f.taken bytes h.0.0 h.0.1 fits h.1 in
      let second = (g h.0.0).taken h.0.1 k.0.0 k.0.1 first.2 k.1 in
      let made : (A × B) × List ℕ = ((h.0.0, k.0.0), k.0.1) in
      let parts : bytes ≡ (F.spelled h.0.0 ++ (G h.0.0).spelled k.0.0) ++ k.0.1 = first.0 ∙ ap (λ (t : List ℕ). F.spelled h.0.0 ++ t) second.0 ∙ sym (append_assoc (F.spelled h.0.0) ((G h.0.0).spelled k.0.0) k.0.1) in
      subst (λ (y : (A × B) × List ℕ). (bytes ≡ (F.spelled y.0.0 ++ (G y.0.0).spelled y.0.1) ++ y.1) × (F.Holds y.0.0 × (G y.0.0).Holds y.0.1) × AreBytes y.1) (ok_is made (x, rest) k.2)
      (parts, (first.1, second.1), second.2);
  again = λ x rest holds.
      let first = f.again x.0 ((G x.0).spelled x.1 ++ rest) holds.0 in
      let second = (g x.0).again x.1 rest holds.1 in
      rw (append_assoc (F.spelled x.0) ((G x.0).spelled x.1) rest, first, second) refl;
}

pub as-exact : {A B : Type 0} (to : A → B) (from : B → A) {F : Format A} → IsExact F → ((b : B) → F.Holds (from b) → to (from b) ≡ b) → ((a : A) → F.Holds a → from (to a) ≡ a) → IsExact (as_ to from F)
as-exact {A = A} {B = B} to from {F = F} f there back = record {
  taken = λ bytes b rest fits e.
      let h = bind_ok (F.at bytes) (λ a. Ok (to a.0, a.1)) (b, rest) e in
      let t = f.taken bytes h.0.0 h.0.1 fits h.1 in
      let same = back h.0.0 t.1 in
      let made : B × List ℕ = (to h.0.0, h.0.1) in
      subst (λ (y : B × List ℕ). (bytes ≡ F.spelled (from y.0) ++ y.1) × F.Holds (from y.0) × AreBytes y.1) (ok_is made (b, rest) h.2)
      (t.0 ∙ ap (λ (a : A). F.spelled a ++ h.0.1) (sym same), subst F.Holds (sym same) t.1, t.2);
  again = λ b rest holds.
      let e = f.again (from b) rest holds in
      rw (e, there b holds) refl;
}

pub seen-exact : {A B : Type 0} (to : A → B) (from : B → A) {F : Format A} → IsExact F → ((a : A) → F.Holds a → from (to a) ≡ a) → IsExact (seen_as to from F)
seen-exact {A = A} {B = B} to from {F = F} f back = record {
  taken = λ bytes b rest fits e.
      let h = bind_ok (F.at bytes) (λ a. Ok (to a.0, a.1)) (b, rest) e in
      let t = f.taken bytes h.0.0 h.0.1 fits h.1 in
      let same = back h.0.0 t.1 in
      let made : B × List ℕ = (to h.0.0, h.0.1) in
      subst (λ (y : B × List ℕ). (bytes ≡ F.spelled (from y.0) ++ y.1) × (F.Holds (from y.0) × (to (from y.0) ≡ y.0)) × AreBytes y.1) (ok_is made (b, rest) h.2)
      (t.0 ∙ ap (λ (a : A). F.spelled a ++ h.0.1) (sym same), (subst F.Holds (sym same) t.1, ap to same), t.2);
  again = λ b rest holds.
      let e = f.again (from b) rest holds.0 in
      rw (e, holds.1) refl;
}

pub given-exact : {A : Type 0} (value : A) → IsExact (given value)
given-exact {A = A} value = record {
  taken = λ bytes a rest fits e.
      let made : A × List ℕ = (value, bytes) in
      subst (λ (y : A × List ℕ). (bytes ≡ y.1) × (y.0 ≡ value) × AreBytes y.1) (ok_is made (a, rest) e) (refl, refl, fits);
  again = λ a rest holds. rw holds refl;
}

pub choose-exact : {A : Type 0} (b : Bool) {F G : Format A} → IsExact F → IsExact G → IsExact (choose b F G)
choose-exact true {F = F} {G = G} f g = record { taken = f.taken; again = f.again }
choose-exact false {F = F} {G = G} f g = record { taken = g.taken; again = g.again }

-- ---- rows

module _ {A : Type 0} (each : Option A → Format A) (exact : (previous : Option A) → IsExact (each previous)) (one : (previous : Option A) (a : A) → (each previous).spelled a ≡ (each None).spelled a) where
  rows-taken : (count : ℕ) (previous : Option A) (bytes : List ℕ) (as_ : List A) (rest : List ℕ) → AreBytes bytes → rows_at (λ previous. (each previous).at) count previous bytes ≡ Ok (as_, rest)
      → (bytes ≡ flat_map (each None).spelled as_ ++ rest) × ((length as_ ≡ count) × AreRows (λ previous. (each previous).Holds) previous as_) × AreBytes rest
  rows-taken zero previous bytes as_ rest fits e =
      let made : List A × List ℕ = ([], bytes) in
      subst (λ (y : List A × List ℕ). (bytes ≡ flat_map (each None).spelled y.0 ++ y.1) × ((length y.0 ≡ 0) × AreRows (λ previous. (each previous).Holds) previous y.0) × AreBytes y.1) (ok_is made (as_, rest) e) (refl, (refl, tt), fits)
  rows-taken (suc count) previous bytes as_ rest fits e =
      let h = bind_ok ((each previous).at bytes) (λ a. rows_at (λ previous. (each previous).at) count (Some a.0) a.1 >>= λ b. Ok (a.0 ∷ b.0, b.1)) (as_, rest) e in
      let k = bind_ok (rows_at (λ previous. (each previous).at) count (Some h.0.0) h.0.1) (λ b. Ok (h.0.0 ∷ b.0, b.1)) (as_, rest) h.2 in
      let first = (exact previous).taken bytes h.0.0 h.0.1 fits h.1 in
      let others = rows-taken count (Some h.0.0) h.0.1 k.0.0 k.0.1 first.2 k.1 in
      let made : List A × List ℕ = (h.0.0 ∷ k.0.0, k.0.1) in
      let parts : bytes ≡ ((each None).spelled h.0.0 ++ flat_map (each None).spelled k.0.0) ++ k.0.1 = first.0 ∙ ap (λ (t : List ℕ). t ++ h.0.1) (one previous h.0.0) ∙ ap (λ (t : List ℕ). (each None).spelled h.0.0 ++ t) others.0 ∙ sym (append_assoc ((each None).spelled h.0.0) (flat_map (each None).spelled k.0.0) k.0.1) in
      let count_is : suc (length k.0.0) ≡ suc count = ap suc others.1.0 in
      subst (λ (y : List A × List ℕ). (bytes ≡ flat_map (each None).spelled y.0 ++ y.1) × ((length y.0 ≡ suc count) × AreRows (λ previous. (each previous).Holds) previous y.0) × AreBytes y.1) (ok_is made (as_, rest) k.2)
      (parts, (count_is, (first.1, others.1.1)), others.2)

  rows-again : (as_ : List A) (count : ℕ) (previous : Option A) (rest : List ℕ) → length as_ ≡ count → AreRows (λ previous. (each previous).Holds) previous as_
      → rows_at (λ previous. (each previous).at) count previous (flat_map (each None).spelled as_ ++ rest) ≡ Ok (as_, rest)
  rows-again [] zero previous rest len holds = refl
  rows-again [] (suc count) previous rest len holds = absurd (omega arith)
  rows-again (a ∷ as_) zero previous rest len holds = absurd (omega arith)
  rows-again (a ∷ as_) (suc count) previous rest len holds =
      let others = rows-again as_ count (Some a) rest (omega arith) holds.1 in
      let first : (each previous).at ((each None).spelled a ++ (flat_map (each None).spelled as_ ++ rest)) ≡ Ok (a, flat_map (each None).spelled as_ ++ rest) =
      rw (← one previous a) ((exact previous).again a (flat_map (each None).spelled as_ ++ rest) holds.0) in
      rw (append_assoc ((each None).spelled a) (flat_map (each None).spelled as_) rest, first, others) refl

pub rows-exact : {A : Type 0} {each : Option A → Format A} → ((previous : Option A) → IsExact (each previous)) → ((previous : Option A) (a : A) → (each previous).spelled a ≡ (each None).spelled a) → (count : ℕ) → IsExact (rows each count)
rows-exact {each = each} exact one count = record {
  taken = λ bytes as_ rest fits e. rows-taken each exact one count None bytes as_ rest fits e;
  again = λ as_ rest holds. rows-again each exact one as_ count None rest holds.0 holds.1;
}

pub counted-exact : {A : Type 0} {count : Format ℕ} {each : Option A → Format A} → IsExact count → ((previous : Option A) → IsExact (each previous)) → ((previous : Option A) (a : A) → (each previous).spelled a ≡ (each None).spelled a) → IsExact (counted count each)
counted-exact {A = A} {count = count} {each = each} number exact one = record {
  taken = λ bytes as_ rest fits e.
      let h = bind_ok (count.at bytes) (λ n. rows_at (λ previous. (each previous).at) n.0 None n.1) (as_, rest) e in
      let first = number.taken bytes h.0.0 h.0.1 fits h.1 in
      let others = (rows-exact {each = each} exact one h.0.0).taken h.0.1 as_ rest first.2 h.2 in
      let parts : bytes ≡ (count.spelled h.0.0 ++ flat_map (each None).spelled as_) ++ rest = first.0 ∙ ap (λ (t : List ℕ). count.spelled h.0.0 ++ t) others.0 ∙ sym (append_assoc (count.spelled h.0.0) (flat_map (each None).spelled as_) rest) in
      let both : (bytes ≡ (count.spelled (length as_) ++ flat_map (each None).spelled as_) ++ rest) × count.Holds (length as_) =
      subst (λ (n : ℕ). (bytes ≡ (count.spelled n ++ flat_map (each None).spelled as_) ++ rest) × count.Holds n) (sym others.1.0) (parts, first.1) in
      (both.0, (both.1, others.1.1), others.2);
  again = λ as_ rest holds.
      let first = number.again (length as_) (flat_map (each None).spelled as_ ++ rest) holds.0 in
      let others = (rows-exact {each = each} exact one (length as_)).again as_ rest (refl, holds.1) in
      rw (append_assoc (count.spelled (length as_)) (flat_map (each None).spelled as_) rest, first) others;
}

-- ---- rows behind all rows before

module _ {A : Type 0} (each : List A → Format A) (exact : (before : List A) → IsExact (each before)) (one : (before : List A) (a : A) → (each before).spelled a ≡ (each []).spelled a) where
  behind-taken : (count : ℕ) (before : List A) (bytes : List ℕ) (as_ : List A) (rest : List ℕ) → AreBytes bytes → rows_behind_at (λ before. (each before).at) count before bytes ≡ Ok (as_, rest)
      → (bytes ≡ flat_map (each []).spelled as_ ++ rest) × ((length as_ ≡ count) × AreRowsBehind (λ before. (each before).Holds) before as_) × AreBytes rest
  behind-taken zero before bytes as_ rest fits e =
      let made : List A × List ℕ = ([], bytes) in
      subst (λ (y : List A × List ℕ). (bytes ≡ flat_map (each []).spelled y.0 ++ y.1) × ((length y.0 ≡ 0) × AreRowsBehind (λ before. (each before).Holds) before y.0) × AreBytes y.1) (ok_is made (as_, rest) e) (refl, (refl, tt), fits)
  behind-taken (suc count) before bytes as_ rest fits e =
      let h = bind_ok ((each before).at bytes) (λ a. rows_behind_at (λ before. (each before).at) count (before ++ (a.0 ∷ [])) a.1 >>= λ b. Ok (a.0 ∷ b.0, b.1)) (as_, rest) e in
      let k = bind_ok (rows_behind_at (λ before. (each before).at) count (before ++ (h.0.0 ∷ [])) h.0.1) (λ b. Ok (h.0.0 ∷ b.0, b.1)) (as_, rest) h.2 in
      let first = (exact before).taken bytes h.0.0 h.0.1 fits h.1 in
      let others = behind-taken count (before ++ (h.0.0 ∷ [])) h.0.1 k.0.0 k.0.1 first.2 k.1 in
      let made : List A × List ℕ = (h.0.0 ∷ k.0.0, k.0.1) in
      let parts : bytes ≡ ((each []).spelled h.0.0 ++ flat_map (each []).spelled k.0.0) ++ k.0.1 = first.0 ∙ ap (λ (t : List ℕ). t ++ h.0.1) (one before h.0.0) ∙ ap (λ (t : List ℕ). (each []).spelled h.0.0 ++ t) others.0 ∙ sym (append_assoc ((each []).spelled h.0.0) (flat_map (each []).spelled k.0.0) k.0.1) in
      let count_is : suc (length k.0.0) ≡ suc count = ap suc others.1.0 in
      subst (λ (y : List A × List ℕ). (bytes ≡ flat_map (each []).spelled y.0 ++ y.1) × ((length y.0 ≡ suc count) × AreRowsBehind (λ before. (each before).Holds) before y.0) × AreBytes y.1) (ok_is made (as_, rest) k.2)
      (parts, (count_is, (first.1, others.1.1)), others.2)

  behind-again : (as_ : List A) (count : ℕ) (before : List A) (rest : List ℕ) → length as_ ≡ count → AreRowsBehind (λ before. (each before).Holds) before as_
      → rows_behind_at (λ before. (each before).at) count before (flat_map (each []).spelled as_ ++ rest) ≡ Ok (as_, rest)
  behind-again [] zero before rest len holds = refl
  behind-again [] (suc count) before rest len holds = absurd (omega arith)
  behind-again (a ∷ as_) zero before rest len holds = absurd (omega arith)
  behind-again (a ∷ as_) (suc count) before rest len holds =
      let others = behind-again as_ count (before ++ (a ∷ [])) rest (omega arith) holds.1 in
      let first : (each before).at ((each []).spelled a ++ (flat_map (each []).spelled as_ ++ rest)) ≡ Ok (a, flat_map (each []).spelled as_ ++ rest) =
      rw (← one before a) ((exact before).again a (flat_map (each []).spelled as_ ++ rest) holds.0) in
      rw (append_assoc ((each []).spelled a) (flat_map (each []).spelled as_) rest, first, others) refl

pub behind-exact : {A : Type 0} {each : List A → Format A} → ((before : List A) → IsExact (each before)) → ((before : List A) (a : A) → (each before).spelled a ≡ (each []).spelled a) → (count : ℕ) → IsExact (rows_behind each count)
behind-exact {each = each} exact one count = record {
  taken = λ bytes as_ rest fits e. behind-taken each exact one count [] bytes as_ rest fits e;
  again = λ as_ rest holds. behind-again each exact one as_ count [] rest holds.0 holds.1;
}
