-- The names and kinds of accepted units have at most 255 bytes, so those of their procedures have.
use Rattle.std.proofs.Common.{◌≡◌, ℕ, suc, refl, sym, ◌∙◌, true, All, List, [], ◌∷◌, ◌++◌, length}
use Rattle.std.proofs.lemmas.Bool.{and_from}
use Rattle.std.specs.Prelude.{map, flat_map, nat_le}
use Rattle.std.specs.List.{list_all}
use Rattle.std.proofs.lemmas.Grind.{flat_map-append}
use Rattle.std.proofs.lemmas.List.Elements.{All-nil, All-cons, All-append}
use Rattle.std.proofs.lemmas.List.Folds.{list_all-append}
use Rattle.cmm_ast.specs.declared.token.Ident.{Ident}
use Rattle.cmm_ast.specs.declared.expression.TypeName.{TypeName}
use Rattle.cmm_ast.specs.declared.procedure.Formal.{Formal}
use Rattle.cmm_ast.specs.declared.procedure.Proc.{Proc as ProcTree}
use Rattle.cmm_ast.specs.declared.procedure.Modifiers.{Modifiers}
use Rattle.cmm_ast.specs.declared.procedure.Modifiers.TheVariants as modifiers
use Rattle.cmm_ast.specs.declared.procedure.LocalForm.{LocalForm}
use Rattle.cmm_ast.specs.declared.procedure.LocalForm.TheVariants as locals
use Rattle.cmm_ast.specs.declared.statement.Part.{Part}
use Rattle.cmm_ast.specs.declared.statement.Part.TheVariants as parts
use Rattle.cmm_ast.specs.declared.unit.Item.{Item}
use Rattle.cmm_ast.specs.declared.unit.Item.TheVariants as items
use Rattle.cmm_program.specs.InRange.{is_name}
use Rattle.cmm_rules.specs.declared.rule.Rule.TheVariants.{Limit}
use Rattle.cmm_static_semantics.specs.Senses.{Senses}
use Rattle.cmm_static_semantics.specs.Items.{SpanTree, Within, parts_of}
use Rattle.cmm_static_semantics.specs.Mentions.{type_names}
use Rattle.cmm_static_semantics.specs.LongNames.{long_spots, of_text, of_modifiers, of_formal, of_local, of_part, of_item, names_in}
use Rattle.cmm_static_semantics.specs.Declarations.{NamedUnit, named_units}
use Rattle.cmm_static_semantics.specs.Linking.{Program as Linked, program_of}
use Rattle.cmm_static_semantics.specs.Scopes.{Scope, unit_senses}
use Rattle.cmm_static_semantics.specs.Statements.{scope_of}
use Rattle.cmm_static_semantics.specs.Faults.{each_unit, name_spots}
use Rattle.cmm_elaboration.specs.Procedures.{kind_in, variable_info, formal_info, local_infos, part_infos, procedure_of}
use Rattle.cmm_elaboration.specs.Meaning.{item_procedures, unit_procedures, procedures_from}
use Rattle.cmm_elaboration.specs.Laws.{NamesShort, NamesAreShort}
use Rattle.cmm_elaboration.proofs.Nothing.{no_left, no_right, no_unless, first_unit, other_units, unbroken, names_kept}
use Rattle.cmm_elaboration.proofs.Entries.{EachUnit}

-- none of some names is too long
abbrev pub Short : List Ident → Type 0
Short is = flat_map long_spots is ≡ []

pub short_left : (xs ys : List Ident) → Short (xs ++ ys) → Short xs
short_left xs ys h = no_left (flat_map long_spots xs) (flat_map long_spots ys) (sym (flat_map-append long_spots xs ys) ∙ h)

pub short_right : (xs ys : List Ident) → Short (xs ++ ys) → Short ys
short_right xs ys h = no_right (flat_map long_spots xs) (flat_map long_spots ys) (sym (flat_map-append long_spots xs ys) ∙ h)

pub short_first : (i : Ident) (is : List Ident) → Short (i ∷ is) → is_name i.name ≡ true
short_first i is h = no_unless (nat_le (length i.name) 255) Limit i.token (no_left (long_spots i) (flat_map long_spots is) h)

pub short_rest : (i : Ident) (is : List Ident) → Short (i ∷ is) → Short is
short_rest i is h = no_right (long_spots i) (flat_map long_spots is) h

-- ---- kinds of variables

kind_short : (m : Modifiers) → Short (of_modifiers m) → is_name (kind_in m) ≡ true
kind_short modifiers.Nothing h = refl
kind_short (modifiers.Kind kind) h = short_first (of_text kind) [] h
kind_short (modifiers.KindInvariant kind) h = short_first (of_text kind) [] h
kind_short (modifiers.Invariant token) h = refl
kind_short (modifiers.InvariantKind token kind) h = short_first (of_text kind) [] h

module _ (s : Scope) where
  formals_short : (fs : List Formal) → Short (flat_map of_formal fs) → list_all (λ v. is_name v.kind) (map (formal_info s) fs) ≡ true
  formals_short [] h = refl
  formals_short (f ∷ fs) h =
      let here : Short (of_formal f) = short_left (of_formal f) (flat_map of_formal fs) h in
      and_from (is_name (kind_in f.modifiers)) _
      (kind_short f.modifiers (short_left (of_modifiers f.modifiers) (type_names f.width) (short_left (of_modifiers f.modifiers ++ type_names f.width) (f.name ∷ []) here)))
      (formals_short fs (short_right (of_formal f) (flat_map of_formal fs) h))

  one_kind : (before : Modifiers) (width : TypeName) (names : List Ident) → is_name (kind_in before) ≡ true →
      list_all (λ v. is_name v.kind) (map (λ i. variable_info s before width) names) ≡ true
  one_kind before width [] h = refl
  one_kind before width (i ∷ is) h = and_from (is_name (kind_in before)) _ h (one_kind before width is h)

  local_short : (form : LocalForm) → Short (of_local form) → list_all (λ v. is_name v.kind) (local_infos s form) ≡ true
  local_short (locals.Variables before width names) h =
      one_kind before width names (kind_short before (short_left (of_modifiers before) (type_names width) (short_left (of_modifiers before ++ type_names width) names h)))
  local_short (locals.Stackdata rooms) h = refl

  part_short : (p : Part) → Short (of_part p) → list_all (λ v. is_name v.kind) (part_infos s p) ≡ true
  part_short (parts.Local l) h = local_short l.form h
  part_short (parts.Stmt' first past form) h = refl

  parts_short : (ps : List Part) → Short (flat_map of_part ps) → list_all (λ v. is_name v.kind) (flat_map (part_infos s) ps) ≡ true
  parts_short [] h = refl
  parts_short (p ∷ ps) h =
      list_all-append (λ v. is_name v.kind) (part_infos s p) (flat_map (part_infos s) ps)
      ∙ and_from (list_all (λ v. is_name v.kind) (part_infos s p)) _ (part_short p (short_left (of_part p) (flat_map of_part ps) h))
      (parts_short ps (short_right (of_part p) (flat_map of_part ps) h))

-- ---- procedures

proc_short : (names : Senses) (unit : ℕ) (around : List SpanTree) (p : ProcTree) → Short (of_item (items.Proc p)) → NamesShort (procedure_of names unit around p)
proc_short names unit around p h =
    let s = scope_of names p in
    let rest : Short (flat_map of_formal p.formals ++ flat_map of_part (parts_of p.body)) = short_rest p.name (flat_map of_formal p.formals ++ flat_map of_part (parts_of p.body)) h in
    record {
      name = short_first p.name (flat_map of_formal p.formals ++ flat_map of_part (parts_of p.body)) h;
      kinds = list_all-append (λ v. is_name v.kind) (map (formal_info s) p.formals) (flat_map (part_infos s) (parts_of p.body))
          ∙ and_from (list_all (λ v. is_name v.kind) (map (formal_info s) p.formals)) _
          (formals_short s p.formals (short_left (flat_map of_formal p.formals) (flat_map of_part (parts_of p.body)) rest))
          (parts_short s (parts_of p.body) (short_right (flat_map of_formal p.formals) (flat_map of_part (parts_of p.body)) rest));
    }

item_short : (names : Senses) (unit : ℕ) (around : List SpanTree) (i : Item) → Short (of_item i) → All NamesShort (item_procedures names unit (record { spans = around; what = i }))
item_short names unit around (items.Proc p) h =
    All-cons NamesShort (procedure_of names unit around p) [] (proc_short names unit around p h) (All-nil NamesShort)
item_short names unit around (items.Decl d) h = All-nil NamesShort
item_short names unit around (items.Datum d) h = All-nil NamesShort
item_short names unit around (items.Span' first key value size inside) h = All-nil NamesShort

unit_short : (names : Senses) (unit : ℕ) (is : List (Within Item)) → Short (names_in is) → All NamesShort (flat_map (item_procedures names unit) is)
unit_short names unit [] h = All-nil NamesShort
unit_short names unit (i ∷ is) h =
    All-append NamesShort (item_procedures names unit i) (flat_map (item_procedures names unit) is)
    (item_short names unit i.spans i.what (short_left (of_item i.what) (names_in is) h)) (unit_short names unit is (short_right (of_item i.what) (names_in is) h))

units_short : (program : Linked) (unit : ℕ) (us : List NamedUnit) → EachUnit (λ u. Short (names_in u.items)) us → All NamesShort (procedures_from program unit us)
units_short program unit [] h = All-nil NamesShort
units_short program unit (u ∷ us) h =
    All-append NamesShort (unit_procedures program unit u) (procedures_from program (suc unit) us)
    (unit_short (unit_senses program u.entries) unit u.items h.0) (units_short program (suc unit) us h.1)

-- ---- accepted units

pub each_short : (all earlier : List NamedUnit) (number : ℕ) (us : List NamedUnit) → each_unit (name_spots all) earlier number us ≡ [] → EachUnit (λ u. Short (names_in u.items)) us
each_short all earlier number [] none = tt
each_short all earlier number (u ∷ us) none = (
  no_right _ (flat_map long_spots (names_in u.items)) (first_unit (name_spots all) earlier number u us none),
  each_short all (earlier ++ u ∷ []) (suc number) us (other_units (name_spots all) earlier number u us none),
)

pub names_are_short : NamesAreShort
names_are_short us accepted = let ns = named_units us in
    units_short (program_of ns) 0 ns (each_short ns [] 0 ns (names_kept ns (unbroken us accepted).nowhere))
