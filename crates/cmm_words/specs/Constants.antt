-- Which constants are words.
use Rattle.cmm_words.specs.declared.constant.Constant.{Constant}
use Rattle.cmm_words.specs.declared.constant.Constant.TheVariants.{Number, Code, Address}
use Rattle.cmm_words.specs.Widths.{IsWord}

-- a number is a word of its width
abbrev pub Fits : Constant → Type 0
Fits (Number word width) = IsWord width word
Fits (Code proc plus) = Unit {0}
Fits (Address label plus) = Unit {0}
