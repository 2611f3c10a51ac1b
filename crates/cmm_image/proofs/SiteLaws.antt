-- What the sites of an image keep inside the frames of their procedures.
use Rattle.std.proofs.Common.{ℕ, zero, suc, ◌+◌, ◌<◌, ◌≤◌, ◌&&◌, nat_le, IsTrue, IsSome, IfSome, is_some, List, [], ◌∷◌, length, slice_index_or, Option, Some, None, All, arith}
use Rattle.std.proofs.lemmas.Bool.Decides.{nat_tests}
use Rattle.cmm_image.specs.declared.rows.ProcRow.{ProcRow}
use Rattle.cmm_image.specs.declared.rows.SavedRegister.{SavedRegister}
use Rattle.cmm_image.specs.declared.rows.SiteRow.{SiteRow}
use Rattle.cmm_image.specs.declared.rows.VariablePlace.{VariablePlace}
use Rattle.cmm_format.specs.Formats.{AreRows, HoldsOptional}
use Rattle.cmm_image.specs.ImageFormat.{within, is_return_offset, no_return, saved_register, procedure, procedure_at, has_sites, site}
use Rattle.cmm_image.specs.Places.{IsPlace, leaves, variable_place}
use Rattle.cmm_image.specs.InFrames.{KeepsFrame}
use Rattle.cmm_image.specs.Laws.{SitesKeepFrames}
use Rattle.cmm_image.proofs.WholeLaws.{first_holds}

-- ---- procedures

leaves_fit : (count frame offset : ℕ) → IsTrue (leaves count frame offset) → offset + count ≤ frame
leaves_fit count frame offset h = grind (arith, nat_tests)

return_fits : (frame : ℕ) (o : Option ℕ) → HoldsOptional 4 no_return (within (is_return_offset frame) ∷ []) o → IfSome o (λ offset. offset + 8 ≤ frame)
return_fits frame None h = grind arith
return_fits frame (Some n) h = let inside = h.2.0 in grind (arith, nat_tests)

saved_fit : (frame : ℕ) (previous : Option SavedRegister) (saved : List SavedRegister) → AreRows (λ previous. (saved_register frame previous).Holds) previous saved →
    (k : ℕ) (d : SavedRegister) → k < length saved → (slice_index_or saved k d).offset + 8 ≤ frame
saved_fit frame previous [] rows k d short = absurd (omega arith)
saved_fit frame previous (s ∷ ss) rows zero d short = leaves_fit 8 frame s.offset rows.0.1.1.0
saved_fit frame previous (s ∷ ss) rows (suc k) d short = saved_fit frame (Some s) ss rows.1 k d (omega arith)

-- what a procedure keeps in its frame
record Keeps (p : ProcRow) : Type 0 where
  returns : IfSome p.return_at (λ offset. offset + 8 ≤ p.frame)
  saved : All (λ r. r.offset + 8 ≤ p.frame) p.saved

keeps : (code_length : ℕ) (previous : Option ProcRow) (p : ProcRow) → (procedure code_length previous).Holds p → Keeps p
keeps code_length previous p h = record {
  returns = return_fits p.frame p.return_at h.1.1.1.0;
  saved = saved_fit p.frame None p.saved h.1.1.1.1.0.1;
}

-- and so the procedure of each number that is there
all_keep : (code_length : ℕ) (previous : Option ProcRow) (procedures : List ProcRow) → AreRows (λ previous. (procedure code_length previous).Holds) previous procedures →
    (n : ℕ) → IsTrue (has_sites procedures n) → Keeps (procedure_at procedures n)
all_keep code_length previous [] rows n has = absurd (grind arith)
all_keep code_length previous (p ∷ ps) rows zero has = keeps code_length previous p rows.0
all_keep code_length previous (p ∷ ps) rows (suc n) has = all_keep code_length (Some p) ps rows.1 n has

-- ---- sites

places_fit : (frame : ℕ) (previous : Option VariablePlace) (places : List VariablePlace) → AreRows (λ previous. (variable_place frame previous).Holds) previous places →
    (k : ℕ) (d : VariablePlace) → k < length places → IsPlace frame (slice_index_or places k d)
places_fit frame previous [] rows k d short = absurd (omega arith)
places_fit frame previous (p ∷ ps) rows zero d short = rows.0
places_fit frame previous (p ∷ ps) rows (suc k) d short = places_fit frame (Some p) ps rows.1 k d (omega arith)

has_size : (p : ProcRow) → IsTrue (nat_le 16 p.frame && is_some p.return_at) → 16 ≤ p.frame
has_size p h = grind (arith, nat_tests)

has_return : (frame : ℕ) (o : Option ℕ) → IsTrue (nat_le 16 frame && is_some o) → IsSome o
has_return frame o h = grind arith

site_keeps : (code_length : ℕ) (procedures : List ProcRow) (previous : Option SiteRow) (s : SiteRow) →
    AreRows (λ previous. (procedure code_length previous).Holds) None procedures → (site code_length procedures previous).Holds s →
    KeepsFrame (procedure_at procedures s.procedure) s
site_keeps code_length procedures previous s procs h =
    let p = procedure_at procedures s.procedure in
    let has : IsTrue (has_sites procedures s.procedure) = h.1.0.1.0 in
    let kept = all_keep code_length None procedures procs s.procedure has in
    record {
      size = has_size p has;
      saves = has_return p.frame p.return_at has;
      returns = kept.returns;
      saved = kept.saved;
      places = places_fit p.frame None s.variables h.1.1.1.1.1.1.1.1.1.0.1;
      count = h.1.1.1.1.1.1.1.1.1.0.0;
    }

keep_frames : (code_length : ℕ) (procedures : List ProcRow) (previous : Option SiteRow) (sites : List SiteRow) →
    AreRows (λ previous. (procedure code_length previous).Holds) None procedures →
    AreRows (λ previous. (site code_length procedures previous).Holds) previous sites → (k : ℕ) (d : SiteRow) → k < length sites →
    KeepsFrame (procedure_at procedures (slice_index_or sites k d).procedure) (slice_index_or sites k d)
keep_frames code_length procedures previous [] procs rows k d short = absurd (omega arith)
keep_frames code_length procedures previous (s ∷ ss) procs rows zero d short = site_keeps code_length procedures previous s procs rows.0
keep_frames code_length procedures previous (s ∷ ss) procs rows (suc k) d short =
    keep_frames code_length procedures (Some s) ss procs rows.1 k d (omega arith)

pub sites_keep_frames : SitesKeepFrames
sites_keep_frames i h = keep_frames (length i.code) i.procs None i.sites (first_holds i h).0.1 (first_holds i h).1.1
