-- What the tables of an image keep, row by row and by number.
use Rattle.std.proofs.Common.{◌≡◌, ℕ, zero, suc, ◌<◌, ◌≤◌, ◌==◌, Bool, true, false, cond, IsTrue, List, [], ◌∷◌, find, length, slice_get, slice_index_or, Option, Some, refl, subst, arith}
use Rattle.std.proofs.lemmas.Bool.Decides.{nat_tests}
use Rattle.cmm_abi.specs.Registers.{is_callee_saves}
use Rattle.cmm_image.specs.declared.parts.ImageParts.{ImageParts}
use Rattle.cmm_image.specs.declared.rows.ProcRow.{ProcRow}
use Rattle.cmm_image.specs.declared.rows.SavedRegister.{SavedRegister}
use Rattle.cmm_image.specs.declared.rows.SiteRow.{SiteRow}
use Rattle.cmm_image.specs.Bounds.{BoundsProcedure, BoundsSite}
use Rattle.cmm_image.specs.ImageFormat.{procedure_at}
use Rattle.cmm_image.specs.Images.{IsImage}
use Rattle.cmm_image.specs.InFrames.{KeepsFrame}
use Rattle.cmm_image.specs.Sites.{no_site, site_numbered}
use Rattle.cmm_image.proofs.Shared.{rows_are_bounded, sites_keep_frames}
use Rattle.cmm_walk.specs.declared.activation.Activation.{Activation}
use Rattle.cmm_walk.specs.Activations.{IsIn}

-- ---- rows

-- what all rows keep, the one of a number keeps
pub row_keeps : {A : Type 0} (P : A → Type 0) (xs : List A) → ((k : ℕ) (d : A) → k < length xs → P (slice_index_or xs k d)) → (n : ℕ) (x : A) → slice_get xs n ≡ Some x → P x
row_keeps P [] all n x is = absurd cc
row_keeps P (y ∷ ys) all zero x is = let same : y ≡ x = cc in subst P same (all 0 y (omega arith))
row_keeps P (y ∷ ys) all (suc n) x is = row_keeps P ys (λ k d short. all (suc k) d (omega arith)) n x is

same_number : (m n : ℕ) → (m == n) ≡ true → m ≡ n
same_number m n is = grind (arith, nat_tests)

-- a register that is found among those that a procedure saves is a callee-saves register
pub saved_is : (xs : List SavedRegister) → ((k : ℕ) (d : SavedRegister) → k < length xs → IsTrue (is_callee_saves (slice_index_or xs k d).register)) → (n : ℕ) (x : SavedRegister) →
    find (λ s. s.register == n) xs ≡ Some x → IsTrue (is_callee_saves n)
saved_is [] all n x is = absurd cc
saved_is (y ∷ ys) all n x is = by (y.register == n) refl (all 0 y (omega arith)) (λ there. saved_is ys (λ k d short. all (suc k) d (omega arith)) n x there) is
  where
    by : (b : Bool) → (y.register == n) ≡ b → IsTrue (is_callee_saves y.register) → (find (λ s. s.register == n) ys ≡ Some x → IsTrue (is_callee_saves n)) →
        ◌≡◌ {A = Option SavedRegister} (cond b (Some y) (find (λ s. s.register == n) ys)) (Some x) → IsTrue (is_callee_saves n)
    by true e here later there = subst (λ (k : ℕ). IsTrue (is_callee_saves k)) (same_number y.register n e) here
    by false e here later there = later there

-- ---- procedures

numbered_bounds : (ps : List ProcRow) → ((k : ℕ) (d : ProcRow) → k < length ps → BoundsProcedure (slice_index_or ps k d)) → (n : ℕ) → BoundsProcedure (procedure_at ps n)
numbered_bounds [] all n = record {
  registers = λ k d short. absurd (omega arith);
  variables = omega arith;
  labels = λ k d short. absurd (omega arith);
  parameters = λ k d short. absurd (omega arith);
}
numbered_bounds (p ∷ ps) all zero = all 0 p (omega arith)
numbered_bounds (p ∷ ps) all (suc n) = numbered_bounds ps (λ k d short. all (suc k) d (omega arith)) n

pub procedure_bounds : (i : ImageParts) → IsImage i → (n : ℕ) → BoundsProcedure (procedure_at i.procs n)
procedure_bounds i h n = numbered_bounds i.procs (rows_are_bounded i h).procedures n

-- ---- sites

sites_get : (sites : List SiteRow) (n : ℕ) → n < length sites → slice_get sites n ≡ Some (site_numbered sites n)
sites_get [] n short = absurd (omega arith)
sites_get (s ∷ ss) zero short = refl
sites_get (s ∷ ss) (suc n) short = sites_get ss n (omega arith)

-- a site that is there is the one of its number
pub site_is : (i : ImageParts) (n : ℕ) → n < length i.sites → slice_get i.sites n ≡ Some (site_numbered i.sites n)
site_is i n short = sites_get i.sites n short

numbered : (sites : List SiteRow) (n : ℕ) → n < length sites → slice_index_or sites n no_site ≡ site_numbered sites n
numbered [] n short = absurd (omega arith)
numbered (s ∷ ss) zero short = refl
numbered (s ∷ ss) (suc n) short = numbered ss n (omega arith)

pub site_keeps : (i : ImageParts) → IsImage i → (n : ℕ) → n < length i.sites → KeepsFrame (procedure_at i.procs (site_numbered i.sites n).procedure) (site_numbered i.sites n)
site_keeps i h n short =
    subst (λ (s : SiteRow). KeepsFrame (procedure_at i.procs s.procedure) s) (numbered i.sites n short) (sites_keep_frames i h n no_site short)

pub site_bounds : (i : ImageParts) → IsImage i → (n : ℕ) → n < length i.sites → BoundsSite (length i.code) (site_numbered i.sites n)
site_bounds i h n short = subst (BoundsSite (length i.code)) (numbered i.sites n short) ((rows_are_bounded i h).sites n no_site short)

-- ---- activations

pub activation_keeps : (i : ImageParts) → IsImage i → (a : Activation) → IsIn i a → KeepsFrame (procedure_at i.procs a.proc) (site_numbered i.sites a.site)
activation_keeps i h a there = subst (λ (n : ℕ). KeepsFrame (procedure_at i.procs n) (site_numbered i.sites a.site)) there.procedure (site_keeps i h a.site there.site)

-- a procedure with a frame is there
has_frame : (procs : List ProcRow) (n : ℕ) → 16 ≤ (procedure_at procs n).frame → n < length procs
has_frame [] n big = absurd (omega arith)
has_frame (p ∷ ps) zero big = omega arith
has_frame (p ∷ ps) (suc n) big = let rest = has_frame ps n big in omega arith

pub procedure_there : (i : ImageParts) (s : SiteRow) (n : ℕ) → KeepsFrame (procedure_at i.procs n) s → n < length i.procs
procedure_there i s n keeps = has_frame i.procs n keeps.size

-- the procedure of an activation is there
pub its_procedure : (i : ImageParts) → IsImage i → (a : Activation) → IsIn i a → a.proc < length i.procs
its_procedure i h a there = procedure_there i (site_numbered i.sites a.site) a.proc (activation_keeps i h a there)

-- what is read at a number that is there
pub read_procedure : (procs : List ProcRow) (n : ℕ) (p : ProcRow) → n < length procs → p ≡ slice_index_or procs n p → p ≡ procedure_at procs n
read_procedure [] n p short is = absurd (omega arith)
read_procedure (q ∷ qs) zero p short is = is
read_procedure (q ∷ qs) (suc n) p short is = read_procedure qs n p (omega arith) is
