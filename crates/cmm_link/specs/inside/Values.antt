-- The numbers that constants come to where code and data labels have these addresses.
use Rattle.std.specs.Prelude.{ℕ, ◌+◌, ◌%◌, ◌^◌, List, slice_index}
use Rattle.cmm_words.specs.declared.constant.Constant.{Constant}
use Rattle.cmm_words.specs.declared.constant.Constant.TheVariants.{Number, Code, Address}

abbrev pub value_at : List ℕ → List ℕ → Constant → ℕ
value_at codes labels (Number n width) = n
value_at codes labels (Code proc plus) = (slice_index codes proc + plus) % 2 ^ 64
value_at codes labels (Address label plus) = (slice_index labels label + plus) % 2 ^ 64
