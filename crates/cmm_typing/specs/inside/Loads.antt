-- A word that is loaded from memory: nothing is known of its value.
use Rattle.std.specs.Prelude.{ℕ, None}
use Rattle.cmm_words.specs.declared.width.Width.{Width}
use Rattle.cmm_static_semantics.specs.declared.judged.Typed.{Typed}
use Rattle.cmm_static_semantics.specs.declared.known.Known.{Known}
use Rattle.cmm_static_semantics.specs.Algebras.{knowns}
use Rattle.cmm_static_semantics.specs.Judging.{Judged, with_both}
use Rattle.cmm_static_semantics.specs.Typing.{operand_at, load}

-- what it is said to be aligned to makes no difference
abbrev pub load_of : Width → ℕ → Typed Known (Unit {0}) → Judged (Typed Known (Unit {0}))
load_of width token address = load knowns None width record { token = token; typed = address }

abbrev pub loaded_of : Judged Width → ℕ → Judged (Typed Known (Unit {0})) → Judged (Typed Known (Unit {0}))
loaded_of width token address = with_both width (operand_at knowns token address) (load knowns None)
