-- What is found among the names of a unit, as the rules see it.
use Rattle.std.proofs.Common.{◌≡◌, ℕ, Bool, true, false, map, ap, sym, ◌∙◌, List, [], Option, None, option_map}
use Rattle.std.proofs.lemmas.Simd.{map-map}
use Rattle.cmm_static_semantics.specs.Senses.{is_host}
use Rattle.cmm_static_semantics.specs.Declarations.{Entry as UnitEntry, found, again, entry_of}
use Rattle.cmm_symbols.specs.Shown.{named, with_what, entry_shown, shown}
use Rattle.cmm_symbols.specs.declared.table.Named.{Named}
use Rattle.cmm_symbols.proofs.Found.{found_with, again_with}
use Rattle.cmm_symbols.specs.declared.entry.Entry.{Entry}

abbrev own_entry : Bool → Option UnitEntry → Option UnitEntry
own_entry b o = elim b [ true ↦ None | false ↦ o ]

-- what is found, as the rules see it
pub entry_found : (name : List ℕ) (ds : List (Named Entry)) (f : Option Entry) → is_host name ≡ false → f ≡ found name (map named ds) →
    option_map entry_shown f ≡ entry_of name (map shown ds)
entry_found name ds f own is =
    ap (option_map entry_shown) is ∙ sym (found_with entry_shown name (map named ds)) ∙ ap (found name) (map-map (with_what entry_shown) named ds)
    ∙ sym (ap (λ b. own_entry b (found name (map shown ds))) own)

pub again_shown : (ds : List (Named Entry)) → again [] (map named ds) ≡ again [] (map shown ds)
again_shown ds = sym (ap (again []) (sym (map-map (with_what entry_shown) named ds)) ∙ again_with entry_shown [] (map named ds))
