-- A table of names as a function.
use Rattle.std.specs.Prelude.{ℕ, Bool, true, false, List, bytes_eq, Option, Some, None}
use Rattle.indexmap.specs.IndexMap.{get_by}
use Rattle.cmm_symbols.specs.declared.index.Index.{Index}

abbrev pub indexed : {E : Type 0} → Index E → List ℕ → Option E
indexed i name = get_by (λ k. bytes_eq name k.now) i.table

-- what was found before, and else something where a test holds
abbrev pub or_else : {E : Type 0} → Option E → Bool → E → Option E
or_else (Some e) test next = Some e
or_else None test next = elim test [ true ↦ Some next | false ↦ None ]
