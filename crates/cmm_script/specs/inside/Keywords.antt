-- The words with which a line of a script begins.
use Rattle.std.specs.Prelude.{ℕ, List, [], ◌∷◌, Option, bytes_eq, codes}
use Rattle.std.specs.List.{find}
use Rattle.cmm_script.specs.declared.keyword.Keyword.{Keyword}
use Rattle.cmm_script.specs.declared.keyword.Keyword.TheVariants as keyword

abbrev pub spelling_of : Keyword → List ℕ
spelling_of keyword.At = codes "at"
spelling_of keyword.Other = codes "other"
spelling_of keyword.List = codes "list"
spelling_of keyword.Youngest = codes "youngest"
spelling_of keyword.Next = codes "next"
spelling_of keyword.Desc = codes "desc"
spelling_of keyword.Seek = codes "seek"
spelling_of keyword.Var = codes "var"
spelling_of keyword.Set = codes "set"
spelling_of keyword.Poke = codes "poke"
spelling_of keyword.Return = codes "return"
spelling_of keyword.Unwind = codes "unwind"
spelling_of keyword.Cut = codes "cut"
spelling_of keyword.Stop = codes "stop"

unfoldable pub keywords : List Keyword
keywords =
    keyword.At ∷ keyword.Other ∷ keyword.List ∷ keyword.Youngest ∷ keyword.Next ∷ keyword.Desc ∷ keyword.Seek ∷ keyword.Var ∷ keyword.Set
    ∷ keyword.Poke ∷ keyword.Return ∷ keyword.Unwind ∷ keyword.Cut ∷ keyword.Stop ∷ []

-- the keyword that a word is
abbrev pub keyword_of : List ℕ → Option Keyword
keyword_of word = find (λ k. bytes_eq (spelling_of k) word) keywords
