-- What words ask for.
use Rattle.std.proofs.Common.{◌≡◌, ℕ, ◌<◌, ◌≤◌, Bor, List, [], ◌∷◌, map, length, Option, Some, None, IfSome, refl, ap, subst, ◌∙◌, arith}
use Rattle.std.specs.List.{All}
use Rattle.std.specs.Option.{option_map}
use Rattle.std.proofs.lemmas.List.{length-map}
use Rattle.std.proofs.lemmas.List.Elements.{All-cons, All-head, All-nil, All-tail}
use Rattle.cmm_command.specs.Laws.{CommandsAreInRange, IsName}
use Rattle.cmm_command.specs.Meaning.{Meaning, meaning_of}
use Rattle.cmm_command.specs.Meaning as meaning
use Rattle.cmm_outside.specs.declared.storage.TheConstants.{NAME_LIMIT}
use Rattle.cmm_top.specs.Words.{Task, execute, run, build, walk, generate, convert, inspect, migrate, task_in, task_of}
use Rattle.cmm_top.specs.declared.task.Task.{Task as TaskAsked}
use Rattle.cmm_top.specs.inside.Tasks.{CanBeDone, IsAsked, plain_task}

pub asked_is : (o : Option Task) (x : TaskAsked) → IsAsked o (Some x) → o ≡ Some (plain_task x)
asked_is (Some t) x is = ap Some is
asked_is None x is = absurd is

pub none_is : (o : Option Task) → IsAsked o None → o ≡ None
none_is None is = refl
none_is (Some t) is = absurd is

-- what words ask for is in range
pub can_be_done : CommandsAreInRange → (words : List (List ℕ)) (m : Meaning) (t : Task) → meaning_of words ≡ Some m → task_in m ≡ Some t → CanBeDone t
can_be_done law words (meaning.exec [] client limits) t is asks = absurd cc
can_be_done law words (meaning.exec (name ∷ names) client limits) t is asks =
    let range = law words (meaning.exec (name ∷ names) client limits) is in
    let same : execute (name ∷ names) client limits ≡ t = cc in
    let some : 0 < length (name ∷ names) = omega arith in subst CanBeDone same (range.0, some, range.1, (range.2.whole, range.2.stack))
can_be_done law words (meaning.run image client limits save) t is asks =
    let range = law words (meaning.run image client limits save) is in
    let same : run image client limits save ≡ t = cc in subst CanBeDone same (range.0, range.1, (range.2.whole, range.2.stack), range.3)
can_be_done law words (meaning.build [] image) t is asks = absurd cc
can_be_done law words (meaning.build (name ∷ names) image) t is asks =
    let range = law words (meaning.build (name ∷ names) image) is in
    let same : build (name ∷ names) image ≡ t = cc in
    let some : 0 < length (name ∷ names) = omega arith in subst CanBeDone same (range.0, some, range.1)
can_be_done law words (meaning.walk image snapshot) t is asks =
    let range = law words (meaning.walk image snapshot) is in
    let same : walk image snapshot ≡ t = cc in subst CanBeDone same range
can_be_done law words (meaning.generate number) t is asks = let same : generate number ≡ t = cc in subst CanBeDone same tt
can_be_done law words (meaning.elf image file) t is asks =
    let range = law words (meaning.elf image file) is in
    let same : convert image file ≡ t = cc in subst CanBeDone same range
can_be_done law words (meaning.migrate image file) t is asks =
    let range = law words (meaning.migrate image file) is in
    let same : migrate image file ≡ t = cc in subst CanBeDone same range
can_be_done law words (meaning.segments file) t is asks =
    let range = law words (meaning.segments file) is in
    let same : inspect file ≡ t = cc in subst CanBeDone same range

pub task_is : (words : List (List ℕ)) (m : Meaning) (o : Option Task) → meaning_of words ≡ Some m → task_in m ≡ o → task_of words ≡ o
task_is words m o is asks = ap (λ x. elim x as (λ _. Option Task) [ Some n ↦ task_in n | None ↦ None ]) is ∙ asks

pub usage_is : (words : List (List ℕ)) → meaning_of words ≡ None → task_of words ≡ None
usage_is words is = ap (λ x. elim x as (λ _. Option Task) [ Some n ↦ task_in n | None ↦ None ]) is

-- names that are short
pub short_names : (names : List (Bor (List ℕ))) → All IsName (map (λ name. name.now) names) → All (λ name. length name.now ≤ NAME_LIMIT) names
short_names [] are = All-nil (λ name. length name.now ≤ NAME_LIMIT)
short_names (n ∷ ns) are =
    All-cons (λ name. length name.now ≤ NAME_LIMIT) n ns (All-head IsName n.now (map (λ name. name.now) ns) are) (short_names ns (All-tail IsName n.now (map (λ name. name.now) ns) are))

pub some_names : (names : List (Bor (List ℕ))) → 0 < length (map (λ name. name.now) names) → 0 < length names
some_names names some = subst (λ n. 0 < n) (length-map names (λ name. name.now)) some

-- and the name of a file that may not be named
pub short_name : (name : Option (Bor (List ℕ))) → IfSome (option_map (λ n. n.now) name) IsName → IfSome name (λ n. length n.now ≤ NAME_LIMIT)
short_name None is = tt
short_name (Some n) is = is
