-- The numbers of the names of a procedure, each among those of its sort.
use Rattle.std.specs.Prelude.{◌≡◌, ℕ, suc, Bool, true, false, List, [], ◌∷◌, map, option_map}
use Rattle.cmm_static_semantics.specs.declared.sense.Sense.{Sense}
use Rattle.cmm_static_semantics.specs.declared.sense.Sense.TheVariants as senses
use Rattle.cmm_static_semantics.specs.Senses.{Senses}
use Rattle.cmm_static_semantics.specs.Judging.{if_ok}
use Rattle.cmm_static_semantics.specs.Typing.{type_width}
use Rattle.cmm_static_semantics.specs.Declarations.{Declared, Local, Variable, Room, Label, Continuation, found, number_in, is_variable, is_room, is_label, is_continuation}
use Rattle.cmm_symbols.specs.Shown.{named}
use Rattle.cmm_symbols.specs.declared.table.Named.{Named}
use Rattle.cmm_proc_scope.specs.Owned.{own_declared}
use Rattle.cmm_proc_scope.specs.declared.own.Numbered.{Numbered}

-- of the sort of something
abbrev pub of_sort : Local → Local → Bool
of_sort (Variable t) l = is_variable l
of_sort Room l = is_room l
of_sort Label l = is_label l
of_sort Continuation l = is_continuation l

-- the number of a name that is declared as something
abbrev pub number_of : List ℕ → List (Declared Local) → Local → ℕ
number_of name ds l = number_in (of_sort l) name ds

-- how many declarations pass a test
abbrev pub count_of : (Local → Bool) → List (Declared Local) → ℕ
count_of test [] = 0
count_of test (d ∷ ds) = elim (test d.as_what) [ true ↦ suc (count_of test ds) | false ↦ count_of test ds ]

-- each name has its number
abbrev pub AreNumbered : List (Named Numbered) → Type 0
AreNumbered ns = (name : List ℕ) →
    option_map (λ own. own.number) (found name (map named ns)) ≡ option_map (number_of name (map own_declared ns)) (found name (map own_declared ns))

-- what a name means that is declared as something, by its number and what names mean as types
abbrev pub sense_by : Senses → ℕ → Local → Sense
sense_by types number (Variable t) = senses.Variable number (if_ok (type_width types t))
sense_by types number Room = senses.Stackdata number
sense_by types number Label = senses.CodeLabel
sense_by types number Continuation = senses.Continuation number
