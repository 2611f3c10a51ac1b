-- Call sites, counted one part after another.
use Rattle.std.proofs.Common.{◌≡◌, ℕ, ◌+◌, ◌<◌, length, map, take, get_or, ap, ◌∙◌, List, [], ◌∷◌, ◌++◌, arith}
use Rattle.cmm_ast.specs.declared.statement.Part.{Part}
use Rattle.cmm_static_semantics.specs.Limits.{site_count, sites_of}
use Rattle.cmm_static_semantics.proofs.Shared.{mapped_next}

pub count_push : (ps : List Part) (p : Part) → site_count (ps ++ p ∷ []) ≡ site_count ps + sites_of p
count_push [] p = omega arith
count_push (q ∷ qs) p = omega (arith, count_push qs p)

pub counted_next : {A : Type 0} (h : A → Part) (xs : List A) (i : ℕ) (x : A) → i < length xs → x ≡ get_or xs i x →
    site_count (map h (take (i + 1) xs)) ≡ site_count (map h (take i xs)) + sites_of (h x)
counted_next h xs i x within is = ap site_count (mapped_next h xs i x within is) ∙ count_push (map h (take i xs)) (h x)
