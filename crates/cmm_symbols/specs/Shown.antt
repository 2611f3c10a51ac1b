-- What stands in units, and names where they are declared, as the rules see them.
use Rattle.std.specs.Prelude.{List, [], map}
use Rattle.cmm_ast.specs.declared.unit.Item.{Item}
use Rattle.cmm_ast.specs.declared.unit.Item.TheVariants as items
use Rattle.cmm_ast.specs.declared.statement.Part.{Part}
use Rattle.cmm_ast.specs.declared.statement.Part.TheVariants as parts
use Rattle.cmm_static_semantics.specs.Items.{Within, within}
use Rattle.cmm_static_semantics.specs.Declarations.{Declared, Entry as UnitEntry, Typedef, Const, Register, Import, DataLabel, Procedure, link_name}
use Rattle.cmm_symbols.specs.declared.thing.Thing.{Thing}
use Rattle.cmm_symbols.specs.declared.thing.Thing.TheVariants as things
use Rattle.cmm_symbols.specs.declared.piece.Piece.{Piece}
use Rattle.cmm_symbols.specs.declared.piece.Piece.TheVariants as pieces
use Rattle.cmm_symbols.specs.declared.table.Named.{Named}
use Rattle.cmm_symbols.specs.declared.entry.Entry.{Entry}
use Rattle.cmm_symbols.specs.declared.entry.Entry.TheVariants as entries

-- what stands in something, the spans around it left out
abbrev pub whats : {A : Type 0} → List (Within A) → List A
whats ws = map (λ w. w.what) ws

abbrev pub thing_item : Thing → Item
thing_item (things.Item i) = i.now
thing_item (things.Decl d) = items.Decl d.now
thing_item (things.Proc p) = items.Proc p.now

-- the same with no spans around it, which declare no name
abbrev pub alone : Thing → Within Item
alone t = within [] (thing_item t)

abbrev pub piece_part : Piece → Part
piece_part (pieces.Local l) = parts.Local l.now
piece_part (pieces.Stmt s) = parts.Stmt s.now

-- a name where it is declared
abbrev pub named : {E : Type 0} → Named E → Declared E
named n = record { name = n.name.now; as_what = n.what }

-- the same, declared as something else
abbrev pub with_what : {A B : Type 0} → (A → B) → Declared A → Declared B
with_what f d = record { name = d.name; as_what = f d.as_what }

-- what a name is declared as
abbrev pub entry_shown : Entry → UnitEntry
entry_shown (entries.Typedef t) = Typedef t.now
entry_shown (entries.Const width value) = Const width.now value.now
entry_shown (entries.Register t) = Register t.now
entry_shown (entries.Import i) = Import (link_name i.now.link i.now.name)
entry_shown (entries.DataLabel number) = DataLabel number
entry_shown (entries.Procedure number p) = Procedure number p.now

abbrev pub shown : Named Entry → Declared UnitEntry
shown n = with_what entry_shown (named n)
