-- Reading a file piece by piece.
use Rattle.std.proofs.Common.{◌≡◌, ℕ, ◌+◌, ◌<◌, ◌≤◌, List, [], ◌++◌, length, take, drop, Option, Some, None, IfSome, ap, subst, ◌∙◌, refl, arith}
use Rattle.std.proofs.lemmas.List.{length-append, length-drop, length-take-le, take_all}
use Rattle.std.proofs.Math.Seq.{take-add}
use Rattle.cmm_outside.specs.Storage.{Contents, HasFile, ReadsAt, TakesFrom}

-- where the files tell what they hold, these bytes are a front of the file
abbrev pub IsFront : Option Contents → List ℕ → List ℕ → Type 0
IsFront contents name bytes = IfSome contents (λ files.
    (file : List ℕ) → files name ≡ Some file → bytes ≡ take (length bytes) file)

-- nothing is a front of every file
pub IsFront-nothing : (contents : Option Contents) (name : List ℕ) → IsFront contents name []
IsFront-nothing None name = tt
IsFront-nothing (Some files) name = λ file named. refl

-- a front, and the next bytes of the same list
front-append : (file bytes piece : List ℕ) (n : ℕ) → bytes ≡ take (length bytes) file → n ≤ length (drop (length bytes) file) →
    take n piece ≡ take n (drop (length bytes) file) → bytes ++ take n piece ≡ take (length (bytes ++ take n piece)) file
front-append file bytes piece n front within same =
    let long : length (bytes ++ take n piece) ≡ length bytes + n =
    length-append bytes (take n piece) ∙ ap (λ k. length bytes + k) (ap length same ∙ length-take-le n (drop (length bytes) file) within) in
    rw (long, take-add (length bytes) n file, ← same, ← front) refl

-- a piece that was read from the end of the front makes a longer front
pub IsFront-append : (contents : Option Contents) (name bytes : List ℕ) (room : ℕ) (piece : List ℕ) (n : ℕ) →
    0 < room → IsFront contents name bytes → ReadsAt contents name (length bytes) room piece n →
    IsFront contents name (bytes ++ take n piece)
IsFront-append None name bytes room piece n asked front read = tt
IsFront-append (Some files) name bytes room piece n asked front read = λ file named.
    let taken = read asked in
    let one : taken.0 ≡ file = cc (taken.1, named) in
    let P : List ℕ → Type 0 = λ other. TakesFrom other (length bytes) room piece n in
    let here : TakesFrom file (length bytes) room piece n = subst P one taken.2 in
    front-append file bytes piece n (front file named) here.within here.bytes

-- where nothing comes from the end of the front, the front is the file
pub HasFile-end : (contents : Option Contents) (name bytes : List ℕ) (room : ℕ) (piece : List ℕ) (n : ℕ) →
    0 < room → IsFront contents name bytes → ReadsAt contents name (length bytes) room piece n → n ≡ 0 →
    HasFile contents name (λ file. bytes ≡ file)
HasFile-end None name bytes room piece n asked front read none = tt
HasFile-end (Some files) name bytes room piece n asked front read none =
    let taken = read asked in
    let gone = ap length (taken.2.progress asked none) in
    let short : length taken.0 ≤ length bytes = omega (arith, length-drop (length bytes) taken.0) in
    (taken.0, taken.1, front taken.0 taken.1 ∙ take_all (length bytes) taken.0 short)
