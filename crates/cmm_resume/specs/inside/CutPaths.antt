-- Where a cut goes, from one activation to the next.
use Rattle.std.specs.Prelude.{◌≡◌, ℕ, ◌+◌, ◌==◌, Bool, false, List, [], find, Result, Ok, Err, Option, Some, None}
use Rattle.cmm_rules.specs.declared.rule.Rule.TheVariants.{NoCut}
use Rattle.rv_table.specs.Machine.{State}
use Rattle.cmm_abi.specs.Regions.{Region}
use Rattle.cmm_program.specs.Commands.{Tears, cut, cutting, resumed}
use Rattle.cmm_image.specs.declared.parts.ImageParts.{ImageParts}
use Rattle.cmm_image.specs.declared.rows.ContinuationNumber.{ContinuationNumber}
use Rattle.cmm_image.specs.declared.rows.ProcRow.{ProcRow}
use Rattle.cmm_image_machine.specs.Changes.{continuation_row, cut_exit, has_value}
use Rattle.cmm_image_machine.specs.Frames.{Element, Found, along, chain_from}
use Rattle.cmm_image_machine.specs.Machine.{askable}
use Rattle.cmm_walk.specs.declared.chain.Torn.{Torn}
use Rattle.cmm_walk.specs.Activations.{IsIn, element_of}
use Rattle.cmm_walk.specs.Walking.{break_of}
use Rattle.cmm_resume.specs.declared.cutting.Continuation.{Continuation}
use Rattle.cmm_resume.specs.Answering.{Change}

-- the pair of a continuation has an address, in this frame
abbrev pub has_pair : ℕ → ProcRow → ℕ → ContinuationNumber → Bool
has_pair frame p value k = elim (continuation_row p k) [ Some c ↦ frame + c.pair == value | None ↦ false ]

-- the first continuation of a value to which the site of an activation also cuts
abbrev pub number_in : Element → ℕ → Option ContinuationNumber
number_in e value = find (has_value e value) e.site.cuts

abbrev pub code_in : ProcRow → ContinuationNumber → ℕ
code_in p k = elim (continuation_row p k) [ Some c ↦ c.code | None ↦ 0 ]

-- the cut along what stands at a point, and what is behind
abbrev pub cut_along : ImageParts → Region → State → ℕ → List ℕ → Found → Change
cut_along i r s to values f = let chain = along (chain_from i r s.memory) s.memory f in cut (askable i r) s to values chain.broken chain.activations

-- where it goes, for all values: to an exit of an activation, or to the end of the chain, or to its break
abbrev pub CutsTo : ImageParts → Region → State → ℕ → Result (Option Continuation) Torn → Type 0
CutsTo i r s to (Ok (Some k)) =
    IsIn i k.activation
    × (number_in (element_of i k.activation) to ≡ Some k.number)
    × ((values : List ℕ) → cutting (askable i r) s to values ≡ resumed (cut_exit r s (element_of i k.activation) to) values)
CutsTo i r s to (Ok None) = (values : List ℕ) → cutting (askable i r) s to values ≡ Err NoCut
CutsTo i r s to (Err t) = (values : List ℕ) → cutting (askable i r) s to values ≡ Ok record { text = []; after = Tears (break_of t) }
