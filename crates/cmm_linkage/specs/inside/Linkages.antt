-- What is kept of units' exports and registers, as the definition has it, and what stands under link names.
use Rattle.std.specs.Prelude.{◌≡◌, ℕ, true, false, ◌||◌, List, [], ◌∷◌, map, bytes_eq, option_map, Option, Some, None}
use Rattle.std.specs.declared.hash.FoldHasher.{FoldHasher}
use Rattle.std.specs.declared.hash.BuildHasherDefault.{BuildHasherDefault}
use Rattle.indexmap.specs.IndexSet.{IndexSet}
use denote.Ref.{Bor}
use Rattle.cmm_ast.specs.declared.declaration.Export.{Export}
use Rattle.cmm_static_semantics.specs.Declarations.{Declared, Entry, entry_of}
use Rattle.cmm_static_semantics.specs.Linking.{Published, address_of, export_link, is_among}
use Rattle.cmm_symbols.specs.Indexed.{indexed}
use Rattle.cmm_symbols.specs.Shown.{entry_shown}
use Rattle.cmm_symbols.specs.declared.index.Index.{Index}
use Rattle.cmm_symbols.specs.declared.entry.Entry.{Entry as EntryTree}
use Rattle.cmm_linkage.specs.declared.linkage.Exported.{Exported}

-- something exported, by what the names of its unit are declared as
abbrev pub publication : List (Declared Entry) → Export → Published
publication ds e = record { link = export_link e; address = address_of (entry_of e.name.name ds) }

abbrev pub exported_shown : Exported → Published
exported_shown e = record { link = e.link.now; address = address_of (option_map entry_shown e.entry) }

-- what is first exported under a link name
abbrev pub first_under : List ℕ → List Exported → Option (Option EntryTree)
first_under x [] = None
first_under x (e ∷ es) = elim (bytes_eq x e.link.now) [ true ↦ Some e.entry | false ↦ first_under x es ]

abbrev pub AreLinks : Index (Option EntryTree) → List Exported → Type 0
AreLinks links es = (x : List ℕ) → indexed links x ≡ first_under x es

abbrev pub names_shown : IndexSet (Bor (List ℕ)) (BuildHasherDefault FoldHasher) → List (List ℕ)
names_shown names = map (λ k. k.now) names.keys

-- the names that there are are those that there were, and some more
abbrev pub AreAdded : List (List ℕ) → List (List ℕ) → List (List ℕ) → Type 0
AreAdded more old new = (x : List ℕ) → is_among x new ≡ (is_among x old || is_among x more)
