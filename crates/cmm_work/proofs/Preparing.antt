-- What there is to say where there is nothing to run.
use Rattle.std.proofs.Common.{◌≡◌, ℕ, List, ◌++◌, Option, Some, None, Result, Ok, Err, IfErr, inl, inr, refl, sym, ◌∙◌, subst, IfSome}
use Rattle.std.specs.Prelude.{◌⊎◌}
use Rattle.std.specs.Result.{IsErrAnd}
use Rattle.std.proofs.lemmas.List.Elements.{Contains-append_left, Contains-append_right}
use Rattle.cmm_elf.specs.declared.reading.TheConstants.{ELF_LIMIT}
use Rattle.cmm_image.specs.Images.{IsFirstFault as IsFirstImageFault, SpellsImage}
use Rattle.cmm_image.specs.declared.parts.ImageParts.{ImageParts}
use Rattle.cmm_image.specs.declared.reading.TheConstants.{IMAGE_LIMIT}
use Rattle.cmm_outside.specs.Faults.{Rose}
use Rattle.cmm_outside.specs.Storage.{FailedCall}
use Rattle.cmm_rules.specs.declared.rule.Rule.{Rule}
use Rattle.cmm_script.specs.Faults.{IsFirstFault}
use Rattle.cmm_script.specs.declared.reader.TheConstants.{SCRIPT_LIMIT}
use Rattle.cmm_snapshot.specs.declared.reading.TheConstants.{SNAPSHOT_LIMIT}
use Rattle.cmm_work.specs.declared.ending.Ending.{Ending}
use Rattle.cmm_work.specs.declared.ending.Ending.TheVariants as ending
use Rattle.cmm_work.specs.declared.reading.FileBytes.{FileBytes}
use Rattle.cmm_work.specs.declared.reading.FileBytes.TheVariants.{Whole, TooLong}
use Rattle.cmm_work.specs.declared.reading.ReadFault.{ReadFault}
use Rattle.cmm_work.specs.declared.reading.ReadFault.TheVariants.{Failed, Memory}
use Rattle.cmm_work.specs.Standing.{Outside}
use Rattle.cmm_work.specs.Files.{FailsToRead, HasBytes}
use Rattle.cmm_work.specs.Inspecting.{IsNoElfFile}
use Rattle.cmm_work.specs.Running.{IsRefused, IsRefusedFor}
use Rattle.cmm_work.specs.Script.{HoldsNoScript}
use Rattle.cmm_work.specs.Walking.{HasBadSnapshot}
use Rattle.cmm_work.specs.Work.{RanOutOfMemory}
use Rattle.cmm_work.specs.inside.Faults.{IsFaultIn, IsNotElf, IsNotImage, IsNotSnapshot}
use Rattle.cmm_work.specs.Ending.{IsRefusedScript, IsUnread, work_of}
use Rattle.cmm_work.specs.Reading.{IsClientRead, IsFileOf, ReadsOrFails}
use Rattle.cmm_work.proofs.RanOut.{ran_out}

-- ---- reading

-- of more files
pub fails_before : (T : Type 0) (names more : List (List ℕ)) (before after : ℕ) (last last_then : Option FailedCall) (fault : ReadFault) →
    ReadsOrFails {T = T} names before after last last_then (Err fault) → ReadsOrFails {T = T} (names ++ more) before after last last_then (Err fault)
fails_before T names more before after last last_then (Failed name) (named, rose, failed) = (Contains-append_left names more name.now named, rose, failed)
fails_before T names more before after last last_then Memory same = same

-- behind files that were read
pub fails_behind : (T : Type 0) (names more : List (List ℕ)) (before mid after : ℕ) (last last_mid last_then : Option FailedCall) (fault : ReadFault) → mid ≡ before → last_mid ≡ last →
    ReadsOrFails {T = T} more mid after last_mid last_then (Err fault) → ReadsOrFails {T = T} (names ++ more) before after last last_then (Err fault)
fails_behind T names more before mid after last last_mid last_then (Failed name) faults failed_call (named, rose, failed) =
    (Contains-append_right names more name.now named, subst (λ (n : ℕ). Rose n after) faults rose, failed)
fails_behind T names more before mid after last last_mid last_then Memory faults failed_call (same, last_same) = (same ∙ faults, last_same ∙ failed_call)

-- a file was not read
pub unread : (T : Type 0) (names : List (List ℕ)) (before after : Outside) (fault : ReadFault) (end : Ending) → after.files ≡ before.files → after.streams ≡ before.streams →
    ReadsOrFails {T = T} names before.file_faults after.file_faults before.last_failed after.last_failed (Err fault) → IsUnread fault end →
    FailsToRead names (work_of end None before after) ⊎ RanOutOfMemory (work_of end None before after)
unread T names before after (Failed name) end files streams (named, rose, failed) is =
    inl (subst (λ (e : Ending). FailsToRead names (work_of e None before after)) (sym is) record {
      name = name.now;
      named = named;
      files = files;
      rose = rose;
      failed = failed;
      streams = streams;
      no_image = refl;
      ends = record { line = refl; status = refl };
    })
unread T names before after Memory end files streams (same, last) is =
    inr (subst (λ (e : Ending). RanOutOfMemory (work_of e None before after)) (sym is)
    (ran_out before after (λ i. record { files = files i; file_faults = same i; last_failed = last i; streams = streams i })))

-- ---- an image

not_made : (Fault : List ℕ → Rule → ℕ → Type 0) (name bytes : List ℕ) (before after : Outside) (end : Ending) → after ≡ before → IfSome before.files (λ files. files name ≡ Some bytes) → IsFaultIn Fault bytes end →
    IsRefusedFor Fault name (work_of end None before after) ⊎ RanOutOfMemory (work_of end None before after)
not_made Fault name bytes before after (ending.BadImage rule offset) same there first = inl record {
  rule = rule;
  offset = offset;
  first = (bytes, there, first);
  nothing = record { same = same; no_image = refl };
  ends = record { line = refl; status = refl };
}
not_made Fault name bytes before after ending.OutOfMemory same there first = inr (ran_out before after same)
not_made Fault name bytes before after ending.Usage same there first = absurd first
not_made Fault name bytes before after (ending.Refused n f) same there first = absurd first
not_made Fault name bytes before after (ending.BadScript rule line) same there first = absurd first
not_made Fault name bytes before after (ending.FileFault n) same there first = absurd first
not_made Fault name bytes before after (ending.BadSnapshot rule offset) same there first = absurd first
not_made Fault name bytes before after ending.OutputFault same there first = absurd first
not_made Fault name bytes before after ending.Written same there first = absurd first
not_made Fault name bytes before after ending.Walked same there first = absurd first
not_made Fault name bytes before after (ending.Ran outcome) same there first = absurd first
not_made Fault name bytes before after (ending.BadElf rule offset) same there first = absurd first
not_made Fault name bytes before after (ending.Inspected code initial start) same there first = absurd first

-- the file that was read has a fault
pub holds_fault : (Fault : List ℕ → Rule → ℕ → Type 0) (name : List ℕ) (before after : Outside) (read : FileBytes) (end : Ending) → after ≡ before →
    HasBytes before.files name (λ bytes. IsFileOf IMAGE_LIMIT bytes read) → ((bytes : List ℕ) → IsFileOf IMAGE_LIMIT bytes read → IsFaultIn Fault bytes end) →
    IsRefusedFor Fault name (work_of end None before after) ⊎ RanOutOfMemory (work_of end None before after)
holds_fault Fault name before after read end same (bytes, there, is) lacks = not_made Fault name bytes before after end same there (lacks bytes is)

-- and so it holds no image
pub holds_no_image : (name : List ℕ) (before after : Outside) (read : FileBytes) (end : Ending) → after ≡ before → HasBytes before.files name (λ bytes. IsFileOf IMAGE_LIMIT bytes read) →
    ((bytes : List ℕ) → IsFileOf IMAGE_LIMIT bytes read → IsNotImage bytes end) →
    IsRefused name (work_of end None before after) ⊎ RanOutOfMemory (work_of end None before after)
holds_no_image name before after read end same has lacks = holds_fault IsFirstImageFault name before after read end same has lacks

-- ---- a snapshot

not_snapshot : (name snapshot bytes : List ℕ) (image : ImageParts) (before after : Outside) (end : Ending) → after ≡ before → HasBytes before.files name (λ b. SpellsImage b image) →
    IfSome before.files (λ files. files snapshot ≡ Some bytes) → IsNotSnapshot image bytes end →
    HasBadSnapshot name snapshot (work_of end None before after) ⊎ RanOutOfMemory (work_of end None before after)
not_snapshot name snapshot bytes image before after (ending.BadSnapshot rule offset) same spelled there first = inl record {
  image = image;
  spelled = spelled;
  rule = rule;
  offset = offset;
  first = (bytes, there, first);
  nothing = record { same = same; no_image = refl };
  ends = record { line = refl; status = refl };
}
not_snapshot name snapshot bytes image before after ending.OutOfMemory same spelled there first = inr (ran_out before after same)
not_snapshot name snapshot bytes image before after ending.Usage same spelled there first = absurd first
not_snapshot name snapshot bytes image before after (ending.Refused n f) same spelled there first = absurd first
not_snapshot name snapshot bytes image before after (ending.BadImage rule offset) same spelled there first = absurd first
not_snapshot name snapshot bytes image before after (ending.BadScript rule line) same spelled there first = absurd first
not_snapshot name snapshot bytes image before after (ending.FileFault n) same spelled there first = absurd first
not_snapshot name snapshot bytes image before after ending.OutputFault same spelled there first = absurd first
not_snapshot name snapshot bytes image before after ending.Written same spelled there first = absurd first
not_snapshot name snapshot bytes image before after ending.Walked same spelled there first = absurd first
not_snapshot name snapshot bytes image before after (ending.Ran outcome) same spelled there first = absurd first
not_snapshot name snapshot bytes image before after (ending.BadElf rule offset) same spelled there first = absurd first
not_snapshot name snapshot bytes image before after (ending.Inspected code initial start) same spelled there first = absurd first

-- the file that was read holds no snapshot
pub holds_no_snapshot : (name snapshot : List ℕ) (image : ImageParts) (before after : Outside) (read : FileBytes) (end : Ending) → after ≡ before →
    HasBytes before.files name (λ b. SpellsImage b image) → HasBytes before.files snapshot (λ bytes. IsFileOf SNAPSHOT_LIMIT bytes read) →
    ((bytes : List ℕ) → IsFileOf SNAPSHOT_LIMIT bytes read → IsNotSnapshot image bytes end) →
    HasBadSnapshot name snapshot (work_of end None before after) ⊎ RanOutOfMemory (work_of end None before after)
holds_no_snapshot name snapshot image before after read end same spelled (bytes, there, is) lacks = not_snapshot name snapshot bytes image before after end same spelled there (lacks bytes is)

-- ---- an ELF file

not_elf : (name bytes : List ℕ) (before after : Outside) (end : Ending) → after ≡ before → IfSome before.files (λ files. files name ≡ Some bytes) → IsNotElf bytes end →
    IsNoElfFile name (work_of end None before after) ⊎ RanOutOfMemory (work_of end None before after)
not_elf name bytes before after (ending.BadElf rule offset) same there first = inl record {
  rule = rule;
  offset = offset;
  first = (bytes, there, first);
  nothing = record { same = same; no_image = refl };
  ends = record { line = refl; status = refl };
}
not_elf name bytes before after ending.OutOfMemory same there first = inr (ran_out before after same)
not_elf name bytes before after ending.Usage same there first = absurd first
not_elf name bytes before after (ending.Refused n f) same there first = absurd first
not_elf name bytes before after (ending.BadImage rule offset) same there first = absurd first
not_elf name bytes before after (ending.BadScript rule line) same there first = absurd first
not_elf name bytes before after (ending.BadSnapshot rule offset) same there first = absurd first
not_elf name bytes before after (ending.FileFault n) same there first = absurd first
not_elf name bytes before after ending.OutputFault same there first = absurd first
not_elf name bytes before after ending.Written same there first = absurd first
not_elf name bytes before after ending.Walked same there first = absurd first
not_elf name bytes before after (ending.Inspected code initial start) same there first = absurd first
not_elf name bytes before after (ending.Ran outcome) same there first = absurd first

-- the file that was read is no ELF file of an image
pub holds_no_elf : (name : List ℕ) (before after : Outside) (read : FileBytes) (end : Ending) → after ≡ before → HasBytes before.files name (λ bytes. IsFileOf ELF_LIMIT bytes read) →
    ((bytes : List ℕ) → IsFileOf ELF_LIMIT bytes read → IsNotElf bytes end) →
    IsNoElfFile name (work_of end None before after) ⊎ RanOutOfMemory (work_of end None before after)
holds_no_elf name before after read end same (bytes, there, is) lacks = not_elf name bytes before after end same there (lacks bytes is)

-- ---- a script

refused_script : (name : List ℕ) (before after : Outside) (read : FileBytes) (end : Ending) → after ≡ before → HasBytes before.files name (λ bytes. IsFileOf SCRIPT_LIMIT bytes read) →
    IsRefusedScript (Some read) end → HoldsNoScript (Some name) (work_of end None before after) ⊎ RanOutOfMemory (work_of end None before after)
refused_script name before after (Whole bytes) (ending.BadScript rule line) same (file, there, is) first = inl record {
  name = name;
  named = refl;
  rule = rule;
  line = line;
  first = (file, there, subst (λ (bs : List ℕ). IsFirstFault bs rule line) is first);
  nothing = record { same = same; no_image = refl };
  ends = record { line = refl; status = refl };
}
refused_script name before after TooLong (ending.BadScript rule line) same (file, there, long) first = inl record {
  name = name;
  named = refl;
  rule = rule;
  line = line;
  first = (file, there, inl (long, first.0, first.1));
  nothing = record { same = same; no_image = refl };
  ends = record { line = refl; status = refl };
}
refused_script name before after read ending.OutOfMemory same has first = inr (ran_out before after same)
refused_script name before after (Whole bytes) ending.Usage same has first = absurd first
refused_script name before after (Whole bytes) (ending.Refused n f) same has first = absurd first
refused_script name before after (Whole bytes) (ending.BadImage rule offset) same has first = absurd first
refused_script name before after (Whole bytes) (ending.FileFault n) same has first = absurd first
refused_script name before after (Whole bytes) (ending.BadSnapshot rule offset) same has first = absurd first
refused_script name before after (Whole bytes) ending.OutputFault same has first = absurd first
refused_script name before after (Whole bytes) ending.Written same has first = absurd first
refused_script name before after (Whole bytes) ending.Walked same has first = absurd first
refused_script name before after (Whole bytes) (ending.Ran outcome) same has first = absurd first
refused_script name before after (Whole bytes) (ending.BadElf rule offset) same has first = absurd first
refused_script name before after (Whole bytes) (ending.Inspected code initial start) same has first = absurd first
refused_script name before after TooLong ending.Usage same has first = absurd first
refused_script name before after TooLong (ending.Refused n f) same has first = absurd first
refused_script name before after TooLong (ending.BadImage rule offset) same has first = absurd first
refused_script name before after TooLong (ending.FileFault n) same has first = absurd first
refused_script name before after TooLong (ending.BadSnapshot rule offset) same has first = absurd first
refused_script name before after TooLong ending.OutputFault same has first = absurd first
refused_script name before after TooLong ending.Written same has first = absurd first
refused_script name before after TooLong ending.Walked same has first = absurd first
refused_script name before after TooLong (ending.Ran outcome) same has first = absurd first
refused_script name before after TooLong (ending.BadElf rule offset) same has first = absurd first
refused_script name before after TooLong (ending.Inspected code initial start) same has first = absurd first

-- without a file there is always a script, but memory may run out
none_refused : (before after : Outside) (end : Ending) → after ≡ before → IsRefusedScript None end → RanOutOfMemory (work_of end None before after)
none_refused before after ending.OutOfMemory same first = ran_out before after same
none_refused before after ending.Usage same first = absurd first
none_refused before after (ending.Refused n f) same first = absurd first
none_refused before after (ending.BadImage rule offset) same first = absurd first
none_refused before after (ending.BadScript rule line) same first = absurd first
none_refused before after (ending.FileFault n) same first = absurd first
none_refused before after (ending.BadSnapshot rule offset) same first = absurd first
none_refused before after ending.OutputFault same first = absurd first
none_refused before after ending.Written same first = absurd first
none_refused before after ending.Walked same first = absurd first
none_refused before after (ending.Ran outcome) same first = absurd first
none_refused before after (ending.BadElf rule offset) same first = absurd first
none_refused before after (ending.Inspected code initial start) same first = absurd first

-- what was read holds no script
pub no_script_in : (client : Option (List ℕ)) (before after : Outside) (read : Option FileBytes) (end : Ending) → after ≡ before → IsClientRead before.files client read →
    IsRefusedScript read end → HoldsNoScript client (work_of end None before after) ⊎ RanOutOfMemory (work_of end None before after)
no_script_in None before after None end same was first = inr (none_refused before after end same first)
no_script_in (Some name) before after (Some read) end same was first = refused_script name before after read end same was first
no_script_in None before after (Some read) end same was first = absurd was
no_script_in (Some name) before after None end same was first = absurd was

-- ---- what `?` hands on

-- the error that is handed on is the converted one
pub handed : {T E : Type 0} (r : Result T E) (Q P : E → Type 0) → ((e : E) → Q e → P e) → IsErrAnd r Q → IfErr r P
handed (Ok x) Q P so is = tt
handed (Err e) Q P so is = so e is
