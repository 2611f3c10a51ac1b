-- What a reading of an ELF file says of its bytes.
use Rattle.std.proofs.Common.{◌≡◌, ℕ, List, length, Ok, Err, refl, sym, subst, inl, inr}
use Rattle.std.specs.Prelude.{◌⊎◌, ◌-◌, Result}
use Rattle.cmm_rules.specs.declared.rule.Rule.{Rule}
use Rattle.cmm_format.specs.declared.fault.Broken.{Broken}
use Rattle.cmm_format.specs.declared.fault.Unread.{Unread}
use Rattle.cmm_format.specs.declared.fault.Unread.TheVariants.{Breaks, Memory}
use Rattle.cmm_format.specs.Formats.{AreBytes}
use Rattle.cmm_format.specs.Reading.{Gives}
use Rattle.cmm_format.specs.Wholes.{whole_in}
use Rattle.cmm_format.proofs.Shared.{whole-taken, whole-again, unbroken, first-is}
use Rattle.cmm_elf.specs.declared.segments.Segments.{Segments}
use Rattle.cmm_elf.specs.ElfFormat.{code_length_in, elf}
use Rattle.cmm_elf.specs.ElfFiles.{SpellsElf, elf_ends, elf_in, IsFirstFault, ElfFaultAt, IsElfRead, IsRefusal}
use Rattle.cmm_elf.specs.Laws.{EachMeansOneThing, FilesAreOne, NoFileHasAFault}
use Rattle.cmm_elf.specs.inside.Faults.{fault_of}
use Rattle.cmm_elf.proofs.ElfLaws.{elf-exact}
use Rattle.cmm_elf.proofs.LengthLaws.{judged_by_code}

-- what is read is spelled so
pub spelled-so : (bytes : List ℕ) (s : Segments) → AreBytes bytes → elf_in bytes ≡ Ok s → SpellsElf bytes s
spelled-so bytes s fits e =
    let t = whole-taken elf_ends bytes s (elf-exact (code_length_in bytes)) fits e in
    let judged = judged_by_code (code_length_in bytes) s bytes t.1 t.0 in
    record { fields = subst (λ (n : ℕ). (elf n).Holds s) judged t.1; spelled = t.0; short = t.2 }

-- what is spelled so is read
pub read-so : (bytes : List ℕ) (s : Segments) → SpellsElf bytes s → elf_in bytes ≡ Ok s
read-so bytes s p =
    let judged = judged_by_code (length s.code) s bytes p.fields p.spelled in
    subst (λ (n : ℕ). whole_in (elf n) elf_ends bytes ≡ Ok s) (sym judged) (whole-again elf_ends bytes s (elf-exact (length s.code)) p.fields p.spelled p.short)

-- the segments that are read are those that are spelled
pub segments-are : (bytes : List ℕ) (s t : Segments) → elf_in bytes ≡ Ok s → SpellsElf bytes t → s ≡ t
segments-are bytes s t e p = let r = read-so bytes t p in cc

-- the first fault is what a reading answers
pub fault-first : (bytes : List ℕ) (why : Unread) → Gives {A = Segments} (Err why) (elf_in bytes) → ElfFaultAt bytes (fault_of (length bytes) why)
fault-first bytes (Breaks b) e = record { broken = b; first = e; rule_is = refl; offset_is = refl }
fault-first bytes Memory e = tt

pub no_file : (bytes : List ℕ) (s : Segments) (why : Unread) → Gives {A = Segments} (Err why) (elf_in bytes) → SpellsElf bytes s → IsElfRead s (Err (fault_of (length bytes) why))
no_file bytes s (Breaks b) e p = let r = read-so bytes s p in absurd cc
no_file bytes s Memory e p = tt

pub no_fault : (bytes : List ℕ) (s : Segments) (rule : Rule) (offset : ℕ) → elf_in bytes ≡ Ok s → IsFirstFault bytes rule offset → ⊥
no_fault bytes s rule offset e f = unbroken elf_ends bytes s rule offset e f

pub fault-is : (bytes : List ℕ) (rule : Rule) (offset : ℕ) (why : Unread) → Gives {A = Segments} (Err why) (elf_in bytes) → IsFirstFault bytes rule offset → IsRefusal rule offset (Err (fault_of (length bytes) why))
fault-is bytes rule offset (Breaks b) e f = first-is elf_ends bytes rule offset b e f
fault-is bytes rule offset Memory e f = tt

-- ---- the laws

meaning : (bytes : List ℕ) (r : Result Segments Broken) → AreBytes bytes → elf_in bytes ≡ r → ((s : Segments) × SpellsElf bytes s) ⊎ ((rule : Rule) × (offset : ℕ) × IsFirstFault bytes rule offset)
meaning bytes (Ok s) fits e = inl (s, spelled-so bytes s fits e)
meaning bytes (Err b) fits e = inr (b.rule, (length bytes - b.left), record { broken = b; first = e; rule_is = refl; offset_is = refl })

pub each_means_one_thing : EachMeansOneThing
each_means_one_thing bytes fits = meaning bytes (elf_in bytes) fits refl

pub files_are_one : FilesAreOne
files_are_one bytes s t p q = segments-are bytes s t (read-so bytes s p) q

pub no_file_has_a_fault : NoFileHasAFault
no_file_has_a_fault bytes s rule offset p f = no_fault bytes s rule offset (read-so bytes s p) f
