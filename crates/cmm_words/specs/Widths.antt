-- How many bits a word has, and which numbers are words.
use Rattle.std.specs.Prelude.{ℕ, ◌^◌, ◌<◌}
use Rattle.cmm_words.specs.declared.width.Width.{Width}
use Rattle.cmm_words.specs.declared.width.Width.TheVariants.{W8, W16, W32, W64}

abbrev pub bits : Width → ℕ
bits W8 = 8
bits W16 = 16
bits W32 = 32
bits W64 = 64

abbrev pub bytes : Width → ℕ
bytes W8 = 1
bytes W16 = 2
bytes W32 = 4
bytes W64 = 8

-- a number is a word of this width
abbrev pub IsWord : Width → ℕ → Type 0
IsWord w a = a < 2 ^ bits w
