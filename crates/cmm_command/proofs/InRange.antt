-- What words ask for keeps its limits.
use Rattle.std.proofs.Common.{◌≡◌, ℕ, ◌%◌, ◌≤◌, Bool, true, false, cond, List, length, [], ◌∷◌, Option, Some, None, refl, ap, subst, arith}
use Rattle.std.specs.Prelude.{◌==◌, ◌&&◌, nat_le, IfSome, codes}
use Rattle.std.specs.List.{All, list_all}
use Rattle.std.proofs.lemmas.List.Elements.{All-cons, All-nil}
use Rattle.std.proofs.lemmas.Bool.Decides.{nat_tests}
use Rattle.std.proofs.lemmas.Bool.{eqb-true, and_parts}
use Rattle.cmm_words.specs.Digits.{written}
use Rattle.clap.specs.Words.{App, Row, Text, first_of, all_of}
use Rattle.cmm_command.specs.declared.command.RunLimits.{RunLimits}
use Rattle.cmm_command.specs.declared.first_word.FirstWord.{FirstWord}
use Rattle.cmm_command.specs.declared.first_word.FirstWord.TheVariants as first
use Rattle.cmm_command.specs.FirstWords.{first_word_in}
use Rattle.cmm_command.specs.Laws.{CommandsAreInRange, IsInRange, IsLimited, IsName}
use Rattle.cmm_command.specs.Meaning.{Meaning, build, build_of, elf, exec, exec_of, generate, generate_of, meaning_by, meaning_of, migrate, run, run_of, segments, segments_of, two_files, walk}
use Rattle.cmm_command.specs.Numbers.{number_up_to, number_of, stack_of, steps_of}
use Rattle.cmm_command.specs.Options.{build_app, elf_app, exec_app, generate_app, migrate_app, run_app, segments_app, walk_app}
use Rattle.cmm_command.specs.Reading.{◌>>=◌, file_if_given, file_names, file_of, files_of, file_as_given, file_name, limits_of, number_in, read_or, sorted}

-- what goes on was there
record Went {A B : Type 0} (o : Option A) (f : A → Option B) (b : B) : Type 0 where
  with_ : A
  is : o ≡ Some with_
  next : f with_ ≡ Some b

went : {A B : Type 0} (o : Option A) (f : A → Option B) (b : B) → (o >>= f) ≡ Some b → Went o f b
went (Some a) f b is = record { with_ = a; is = refl; next = is }
went None f b is = absurd cc

chosen : {A : Type 0} (test : Bool) (a b : A) → ◌≡◌ {A = Option A} (cond test (Some a) None) (Some b) → (test ≡ true) × (a ≡ b)
chosen true a b is = (refl, cc)
chosen false a b is = absurd cc

-- a number that is read within a limit
number_within : (most : ℕ) (text : List ℕ) (n : ℕ) → number_up_to most text ≡ Some n → n ≤ most
number_within most text n is =
    let w = went (written 10 text) (λ m. cond (nat_le (length text) 20 && nat_le m most) (Some m) None) n is in
    let c = chosen (nat_le (length text) 20 && nat_le w.with_ most) w.with_ n w.next in
    let b = and_parts (nat_le (length text) 20) (nat_le w.with_ most) c.0 in
    let at : nat_le n most ≡ true = subst (λ m. nat_le m most ≡ true) c.1 b.1 in grind (arith, nat_tests)

abbrev IsStack : ℕ → Type 0
IsStack n = (n % 16 ≡ 0) × (n ≤ 268435456)

stack_within : (text : List ℕ) (n : ℕ) → stack_of text ≡ Some n → IsStack n
unfolding stack_of
stack_within text n is =
    let w = went (number_up_to 268435456 text) (λ m. cond (m % 16 == 0) (Some m) None) n is in
    let c = chosen (w.with_ % 16 == 0) w.with_ n w.next in
    let whole : (n % 16 == 0) ≡ true = subst (λ m. (m % 16 == 0) ≡ true) c.1 c.0 in
    let low : w.with_ ≤ 268435456 = number_within 268435456 text w.with_ w.is in
    (eqb-true (n % 16) 0 whole, subst (λ m. m ≤ 268435456) c.1 low)

stack_read : (given : Option Text) (n : ℕ) → read_or 1048576 stack_of given ≡ Some n → IsStack n
stack_read None n is = let same : 1048576 ≡ n = cc in subst IsStack same (refl, omega arith)
stack_read (Some text) n is = stack_within text n is

limits_within : (rows : List Row) (limits : RunLimits) → limits_of rows ≡ Some limits → IsLimited limits
limits_within rows limits is =
    let a = went (read_or 1000000000 steps_of (first_of (codes "steps") rows)) (λ steps. read_or 1048576 stack_of (first_of (codes "stack") rows) >>= λ stack.
    Some (record { steps = steps; stack = stack })) limits is in
    let b = went (read_or 1048576 stack_of (first_of (codes "stack") rows)) (λ stack. Some (record { steps = a.with_; stack = stack })) limits a.next in
    let same : b.with_ ≡ limits.stack = ap (λ o. elim o as (λ _. ℕ) [ Some l ↦ l.stack | None ↦ 0 ]) b.next in
    let s = subst IsStack same (stack_read (first_of (codes "stack") rows) b.with_ b.is) in record { whole = s.0; stack = s.1 }

-- ---- names

name_short : (text name : Text) → file_name text ≡ Some name → IsName name
name_short text name is =
    let c = chosen (nat_le (length text) 4095) text name is in
    let low : nat_le (length name) 4095 ≡ true = subst (λ n. nat_le (length n) 4095 ≡ true) c.1 c.0 in grind (arith, nat_tests)

all_short : (names : List Text) → list_all (λ name. nat_le (length name) 4095) names ≡ true → All IsName names
all_short [] are = All-nil IsName
all_short (name ∷ names) are =
    let b = and_parts (nat_le (length name) 4095) (list_all (λ n. nat_le (length n) 4095) names) are in
    let low : nat_le (length name) 4095 ≡ true = b.0 in
    let here : IsName name = grind (arith, nat_tests) in
    All-cons IsName name names here (all_short names b.1)

names_short : (texts names : List Text) → file_names texts ≡ Some names → All IsName names
names_short texts names is =
    let c = chosen (list_all (λ text. nat_le (length text) 4095) texts) texts names is in
    all_short names (subst (λ ns. list_all (λ name. nat_le (length name) 4095) ns ≡ true) c.1 c.0)

file_short : (id : Text) (rows : List Row) (name : Text) → file_of id rows ≡ Some name → IsName name
file_short id rows name is = let w = went (first_of id rows) file_name name is in name_short w.with_ name w.next

files_short : (id : Text) (rows : List Row) (names : List Text) → files_of id rows ≡ Some names → All IsName names
files_short id rows names is = let w = went (all_of id rows) file_names names is in names_short w.with_ names w.next

given_short : (text : Option Text) (name : Option Text) → read_or None file_as_given text ≡ Some name → IfSome name IsName
given_short None name is = let same : ◌≡◌ {A = Option Text} None name = cc in subst (λ n. IfSome n IsName) same tt
given_short (Some text) name is =
    let w = went (file_name text) (λ n. Some (Some n)) name is in
    let same : Some w.with_ ≡ name = cc in subst (λ n. IfSome n IsName) same (name_short text w.with_ w.is)

-- ---- commands

build_within : (rows : List Row) (m : Meaning) → build_of rows ≡ Some m → IsInRange m
build_within rows m is =
    let a = went (files_of (codes "unit") rows) (λ units. file_of (codes "image") rows >>= λ image. Some (build units image)) m is in
    let b = went (file_of (codes "image") rows) (λ image. Some (build a.with_ image)) m a.next in
    let same : build a.with_ b.with_ ≡ m = cc in
    subst IsInRange same (files_short (codes "unit") rows a.with_ a.is, file_short (codes "image") rows b.with_ b.is)

run_within : (rows : List Row) (m : Meaning) → run_of rows ≡ Some m → IsInRange m
run_within rows m is =
    let a = went (file_of (codes "image") rows) (λ image. file_if_given (codes "client") rows >>= λ given. limits_of rows >>= λ l. file_if_given (codes "save") rows >>= λ save.
    Some (run image given l save)) m is in
    let b = went (file_if_given (codes "client") rows) (λ given. limits_of rows >>= λ l. file_if_given (codes "save") rows >>= λ save. Some (run a.with_ given l save)) m a.next in
    let c = went (limits_of rows) (λ l. file_if_given (codes "save") rows >>= λ save. Some (run a.with_ b.with_ l save)) m b.next in
    let d = went (file_if_given (codes "save") rows) (λ save. Some (run a.with_ b.with_ c.with_ save)) m c.next in
    let same : run a.with_ b.with_ c.with_ d.with_ ≡ m = cc in
    subst IsInRange same (
      file_short (codes "image") rows a.with_ a.is,
      given_short (first_of (codes "client") rows) b.with_ b.is,
      limits_within rows c.with_ c.is,
      given_short (first_of (codes "save") rows) d.with_ d.is,
    )

exec_within : (rows : List Row) (m : Meaning) → exec_of rows ≡ Some m → IsInRange m
exec_within rows m is =
    let a = went (files_of (codes "unit") rows) (λ units. file_if_given (codes "client") rows >>= λ client. limits_of rows >>= λ limits. Some (exec units client limits)) m is in
    let b = went (file_if_given (codes "client") rows) (λ given. limits_of rows >>= λ l. Some (exec a.with_ given l)) m a.next in
    let c = went (limits_of rows) (λ l. Some (exec a.with_ b.with_ l)) m b.next in
    let same : exec a.with_ b.with_ c.with_ ≡ m = cc in
    subst IsInRange same (
      files_short (codes "unit") rows a.with_ a.is,
      given_short (first_of (codes "client") rows) b.with_ b.is,
      limits_within rows c.with_ c.is,
    )

-- what is made of the names of two files
two_within : (app : App) (other : Text) (words : List Text) (make : Text × Text → Meaning) (m : Meaning)
    → ((files : Text × Text) → IsName files.0 × IsName files.1 → IsInRange (make files)) → (two_files app other words >>= λ files. Some (make files)) ≡ Some m → IsInRange m
two_within app other words make m ranges is =
    let a = went (two_files app other words) (λ files. Some (make files)) m is in
    let b = went (sorted app words) (λ rows. file_of (codes "image") rows >>= λ image. file_of other rows >>= λ file. Some (image, file)) a.with_ a.is in
    let c = went (file_of (codes "image") b.with_) (λ image. file_of other b.with_ >>= λ file. Some (image, file)) a.with_ b.next in
    let d = went (file_of other b.with_) (λ file. Some (c.with_, file)) a.with_ c.next in
    let files : (c.with_, d.with_) ≡ a.with_ = cc in
    let same : make a.with_ ≡ m = cc in
    subst IsInRange same (ranges a.with_ (subst (λ (f : Text × Text). IsName f.0 × IsName f.1) files
    (file_short (codes "image") b.with_ c.with_ c.is, file_short other b.with_ d.with_ d.is)))

number_within_limit : (text : Text) (n : ℕ) → number_of text ≡ Some n → n ≤ 999999999
unfolding number_of
number_within_limit text n is = number_within 999999999 text n is

generate_within : (rows : List Row) (m : Meaning) → generate_of rows ≡ Some m → IsInRange m
generate_within rows m is =
    let a = went (number_in rows) (λ number. Some (generate number)) m is in
    let b = went (first_of (codes "number") rows) number_of a.with_ a.is in
    let same : generate a.with_ ≡ m = cc in
    subst IsInRange same (number_within_limit b.with_ a.with_ b.next)

segments_within : (rows : List Row) (m : Meaning) → segments_of rows ≡ Some m → IsInRange m
segments_within rows m is =
    let a = went (file_of (codes "file") rows) (λ file. Some (segments file)) m is in
    let same : segments a.with_ ≡ m = cc in
    subst IsInRange same (file_short (codes "file") rows a.with_ a.is)

pub commands_are_in_range : CommandsAreInRange
unfolding meaning_of meaning_by
commands_are_in_range words m is = let w = went (first_word_in words) (λ word. meaning_by word words) m is in by w.with_ w.next
  where
    by : (word : FirstWord) → meaning_by word words ≡ Some m → IsInRange m
    by first.Build h = let s = went (sorted build_app words) build_of m h in build_within s.with_ m s.next
    by first.Run h = let s = went (sorted run_app words) run_of m h in run_within s.with_ m s.next
    by first.Exec h = let s = went (sorted exec_app words) exec_of m h in exec_within s.with_ m s.next
    by first.Walk h = two_within walk_app (codes "snapshot") words (λ files. walk files.0 files.1) m (λ files are. are) h
    by first.Generate h = let s = went (sorted generate_app words) generate_of m h in generate_within s.with_ m s.next
    by first.Elf h = two_within elf_app (codes "file") words (λ files. elf files.0 files.1) m (λ files are. are) h
    by first.Migrate h = two_within migrate_app (codes "file") words (λ files. migrate files.0 files.1) m (λ files are. are) h
    by first.Segments h = let s = went (sorted segments_app words) segments_of m h in segments_within s.with_ m s.next
