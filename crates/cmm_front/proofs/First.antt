-- The first of units that is not whole.
use Rattle.std.proofs.Common.{◌≡◌, ℕ, zero, suc, ◌+◌, ◌<◌, ◌≤◌, List, [], ◌∷◌, ◌++◌, take, length, inl, inr, Some, Result, Ok, Err, ap, subst, sym, refl, arith}
use Rattle.std.specs.Prelude.{IfErr, IsErrAnd, slice_index_or}
use Rattle.std.specs.List.{All, AllZip}
use Rattle.std.proofs.lemmas.List.{take_all}
use Rattle.std.proofs.lemmas.List.Elements.{All-cons, All-head, All-nil, All-tail}
use Rattle.cmm_static_semantics.specs.declared.fault.Fault.{Fault}
use Rattle.cmm_static_semantics.specs.Faults.{first_fault}
use Rattle.cmm_check_units.specs.Faults.{IsFaultOf as IsStaticFault}
use Rattle.cmm_check_units.specs.declared.fault.StaticFault.{StaticFault}
use Rattle.cmm_check_units.specs.declared.fault.StaticFault.TheVariants as static_fault
use Rattle.cmm_ast.specs.declared.unit.Unit.{Unit as UnitTree}
use Rattle.cmm_lexer.specs.declared.tokens.Tokens.{Tokens}
use Rattle.cmm_lexer.specs.Lexing.{Lexes}
use Rattle.cmm_front.specs.declared.fault.FrontFault.{FrontFault}
use Rattle.cmm_front.specs.declared.fault.FrontFault.TheVariants.{At, Memory}
use Rattle.cmm_front.specs.Refusing.{IsOfFirst, IsRefused, of_static}
use Rattle.cmm_front.specs.Sources.{HasTokens, HasTree, IsTreeOf}

-- a fault that is handed on
pub handed : {A : Type 0} (P : FrontFault → Type 0) (e : FrontFault) (result : Result A FrontFault) → IsErrAnd result (λ f. f ≡ e) → P e → IfErr result P
handed P e (Ok a) is holds = tt
handed P e (Err f) is holds = subst P (sym is) holds

-- what is said of a fault may be weaker
pub refused_for : (P Q : Fault → Type 0) → ((f : Fault) → P f → Q f) → (e : FrontFault) → IsRefused P e → IsRefused Q e
refused_for P Q so (At f) holds = so f holds
refused_for P Q so Memory holds = tt

-- a static fault, as it is handed on
pub refused_static : (trees : List UnitTree) (e : StaticFault) → IsStaticFault trees e → IsRefused (λ f. first_fault trees ≡ Some f) (of_static e)
refused_static trees (static_fault.At f) is = is
refused_static trees static_fault.Memory is = tt

-- one more of each
pub zip_more : {X Y : Type 0} (R : X → Y → Type 0) (xs : List X) (ys : List Y) (i : ℕ) (x : X) (y : Y) → i < length xs → x ≡ slice_index_or xs i x → AllZip R (take i xs) ys → R x y →
    AllZip R (take (i + 1) xs) (ys ++ y ∷ [])
zip_more R xs ys i x y inside is zip holds = let next : suc i ≡ i + 1 = omega arith in subst (λ n. AllZip R (take n xs) (ys ++ y ∷ [])) next (by xs ys i inside is zip)
  where
    by : (vs : List _) (zs : List _) (k : ℕ) → k < length vs → x ≡ slice_index_or vs k x → AllZip R (take k vs) zs → AllZip R (take (suc k) vs) (zs ++ y ∷ [])
    by [] zs k inside is zip = absurd (omega arith)
    by (w ∷ ws) [] zero inside is zip = (subst (λ v. R v y) is holds, tt)
    by (w ∷ ws) (z ∷ zs) zero inside is zip = absurd zip
    by (w ∷ ws) [] (suc k) inside is zip = absurd zip
    by (w ∷ ws) (z ∷ zs) (suc k) inside is zip = (zip.0, by ws zs k (omega arith) is zip.1)

-- what stands in for an item that is there does not matter
pub at_any : {X : Type 0} (xs : List X) (k : ℕ) (d e : X) → k < length xs → slice_index_or xs k d ≡ slice_index_or xs k e
at_any [] k d e inside = absurd (omega arith)
at_any (x ∷ xs) zero d e inside = refl
at_any (x ∷ xs) (suc k) d e inside = at_any xs k d e (omega arith)

-- all of them
pub zip_whole : {X Y : Type 0} (R : X → Y → Type 0) (xs : List X) (ys : List Y) (i : ℕ) → length xs ≤ i → AllZip R (take i xs) ys → AllZip R xs ys
zip_whole R xs ys i all zip = subst (λ vs. AllZip R vs ys) (take_all i xs all) zip

module _ (W : List ℕ → Type 0) (B : List ℕ → ℕ → Fault → Type 0) where
  -- the unit at an index is broken, and those before it are whole
  pub first_at : (n k : ℕ) (units : List (List ℕ)) (unit : List ℕ) (f : Fault) → k < length units → unit ≡ slice_index_or units k unit → All W (take k units) → B unit (n + k) f →
      IsOfFirst W B n units f
  first_at n k [] unit f inside is whole broken = absurd (omega arith)
  first_at n zero (u ∷ us) unit f inside is whole broken =
      let here : n + 0 ≡ n = omega arith in inl (subst (λ m. B u m f) here (subst (λ x. B x (n + 0) f) is broken))
  first_at n (suc k) (u ∷ us) unit f inside is whole broken =
      let next : n + suc k ≡ suc n + k = omega arith in let more : k < length us = omega arith in
      inr (All-head W u (take k us) whole, first_at (suc n) k us unit f more is (All-tail W u (take k us) whole) (subst (λ m. B unit m f) next broken))

module _ (W : List ℕ → Type 0) (B : List ℕ → ℕ → Fault → Type 0) where
  -- a unit behind whole ones is broken
  pub first_behind : (n : ℕ) (whole : List (List ℕ)) (unit : List ℕ) (rest : List (List ℕ)) (f : Fault) → All W whole → B unit (n + length whole) f → IsOfFirst W B n (whole ++ unit ∷ rest) f
  first_behind n [] unit rest f all broken = let here : n + 0 ≡ n = omega arith in inl (subst (λ m. B unit m f) here broken)
  first_behind n (u ∷ us) unit rest f all broken =
      let next : n + suc (length us) ≡ suc n + length us = omega arith in
      inr (All-head W u us all, first_behind (suc n) us unit rest f (All-tail W u us all) (subst (λ m. B unit m f) next broken))

  -- the units behind may be any
  pub first_still : (n : ℕ) (units more : List (List ℕ)) (f : Fault) → IsOfFirst W B n units f → IsOfFirst W B n (units ++ more) f
  first_still n [] more f first = absurd first
  first_still n (u ∷ us) more f (inl broken) = inl broken
  first_still n (u ∷ us) more f (inr later) = inr (later.0, first_still (suc n) us more f later.1)

-- as many of the one as of the other
pub zip_count : {X Y : Type 0} (R : X → Y → Type 0) (xs : List X) (ys : List Y) → AllZip R xs ys → length xs ≡ length ys
zip_count R [] [] zip = refl
zip_count R [] (y ∷ ys) zip = absurd zip
zip_count R (x ∷ xs) [] zip = absurd zip
zip_count R (x ∷ xs) (y ∷ ys) zip = ap suc (zip_count R xs ys zip.1)

-- units that have tokens break no rule of the lexical form
pub have_tokens : (units : List (List ℕ)) (all : List Tokens) → AllZip Lexes units all → All HasTokens units
have_tokens [] [] lex = All-nil HasTokens
have_tokens [] (t ∷ ts) lex = absurd lex
have_tokens (u ∷ us) [] lex = absurd lex
have_tokens (u ∷ us) (t ∷ ts) lex = All-cons HasTokens u us lex.0.unbroken (have_tokens us ts lex.1)

-- units that have these trees have some
pub have_trees : (units : List (List ℕ)) (trees : List UnitTree) → AllZip IsTreeOf units trees → All HasTree units
have_trees [] [] zip = All-nil HasTree
have_trees [] (t ∷ ts) zip = absurd zip
have_trees (u ∷ us) [] zip = absurd zip
have_trees (u ∷ us) (t ∷ ts) zip = All-cons HasTree u us (t, zip.0) (have_trees us ts zip.1)
