-- The numbers of an effect and of a state stay in their ranges.
use Rattle.std.specs.Prelude.{◌≡◌, ℕ, ◌<◌, ◌^◌, ◌==◌, ◌||◌, Bool, IsTrue}
use Rattle.rv_table.specs.declared.effects.Effect.{Effect}
use Rattle.rv_table.specs.declared.effects.Effect.TheVariants.{Set, Jump, Branch, Load, Store, Ask, Break}
use Rattle.rv_table.specs.Machine.{State}

-- the numbers of bytes that a load or a store may have
abbrev pub is_size : ℕ → Bool
is_size size = (size == 1) || (size == 2) || (size == 4) || (size == 8)

-- every value and address has 64 bits
abbrev pub ValuesFit : Effect → Type 0
ValuesFit (Set rd value) = value < 2 ^ 64
ValuesFit (Jump rd link target) = (link < 2 ^ 64) × (target < 2 ^ 64)
ValuesFit (Branch taken target) = target < 2 ^ 64
ValuesFit (Load rd address size signed) = address < 2 ^ 64
ValuesFit (Store address size value) = (address < 2 ^ 64) × (value < 2 ^ 64)
ValuesFit Ask = Unit {0}
ValuesFit Break = Unit {0}

-- an access has one, two, four or eight bytes
abbrev pub HasASize : Effect → Type 0
HasASize (Set rd value) = Unit {0}
HasASize (Jump rd link target) = Unit {0}
HasASize (Branch taken target) = Unit {0}
HasASize (Load rd address size signed) = IsTrue (is_size size)
HasASize (Store address size value) = IsTrue (is_size size)
HasASize Ask = Unit {0}
HasASize Break = Unit {0}

-- what is written is a register
abbrev pub WritesARegister : Effect → Type 0
WritesARegister (Set rd value) = rd < 32
WritesARegister (Jump rd link target) = rd < 32
WritesARegister (Branch taken target) = Unit {0}
WritesARegister (Load rd address size signed) = rd < 32
WritesARegister (Store address size value) = Unit {0}
WritesARegister Ask = Unit {0}
WritesARegister Break = Unit {0}

-- registers have 64 bits, register 0 is 0, and memory holds bytes
pub record IsSound (s : State) : Type 0 where
  pub registers : (k : ℕ) → s.registers k < 2 ^ 64
  pub zero : s.registers 0 ≡ 0
  pub memory : (address : ℕ) → s.memory address < 2 ^ 8
