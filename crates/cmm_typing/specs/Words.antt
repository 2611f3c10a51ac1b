-- Which scopes have only constants that are words of their widths.
use Rattle.std.specs.Prelude.{ℕ, ◌^◌, Bool, true, nat_lt, List}
use Rattle.std.specs.List.{list_all}
use Rattle.cmm_words.specs.declared.constant.Constant.TheVariants.{Number}
use Rattle.cmm_words.specs.Widths.{bits}
use Rattle.cmm_typing.specs.declared.meaning.Meaning.{Meaning}
use Rattle.cmm_typing.specs.declared.meaning.Meaning.TheVariants.{Value}

abbrev pub is_word : Meaning → Bool
is_word (Value (Number word width)) = nat_lt word (2 ^ bits width)
is_word _ = true

abbrev pub are_words : List (List ℕ × Meaning) → Bool
are_words entries = list_all (λ e. is_word e.1) entries
