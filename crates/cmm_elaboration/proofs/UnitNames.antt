-- What the names of accepted units mean is there in their program.
use Rattle.std.proofs.Common.{◌≡◌, ℕ, suc, ◌<◌, refl, sym, ap, ◌∙◌, subst, Bool, true, false, List, [], ◌∷◌, ◌++◌, append_assoc, append-nil, Option, Some, None, arith}
use Rattle.std.proofs.Math.Bool.{or-true}
use Rattle.std.specs.Prelude.{map, flat_map, option_map, unwrap_or, bytes_eq, slice_get, ◌||◌, ◌==◌}
use Rattle.std.proofs.lemmas.Option.{slice_get-map}
use Rattle.std.proofs.lemmas.Grind.{flat_map-append}
use Rattle.cmm_words.specs.declared.width.Width.{Width}
use Rattle.cmm_words.specs.declared.width.Width.TheVariants.{W64}
use Rattle.cmm_words.specs.Widths.{bits}
use Rattle.cmm_ast.specs.declared.token.Ident.{Ident}
use Rattle.cmm_ast.specs.declared.expression.TypeName.{TypeName}
use Rattle.cmm_ast.specs.declared.unit.Unit.{Unit as UnitTree}
use Rattle.cmm_program.specs.declared.procedure.Proc.{Proc}
use Rattle.cmm_program.specs.declared.program.Program.{Program}
use Rattle.cmm_program.specs.Typing.{same_width, has_register}
use Rattle.cmm_rules.specs.declared.rule.Rule.TheVariants.{WidthsDiffer}
use Rattle.cmm_static_semantics.specs.declared.spot.Spot.{Spot}
use Rattle.cmm_static_semantics.specs.Spots.{unless}
use Rattle.cmm_static_semantics.specs.Senses.{Senses, host_named, is_host, is_there}
use Rattle.cmm_static_semantics.specs.Declarations.{Declared, Entry, Typedef, Const, Register, Import, DataLabel, Procedure, NamedUnit, named_units, found, firsts, procs_in, labels_in}
use Rattle.cmm_static_semantics.specs.Linking.{Program as Linked, program_of, is_among, register_entry, registers_of, register_number}
use Rattle.cmm_static_semantics.specs.Scopes.{width_in, unit_senses}
use Rattle.cmm_static_semantics.specs.Expressions.{type_spots}
use Rattle.cmm_static_semantics.specs.Units.{width_spots, register_spots, entry_spots}
use Rattle.cmm_static_semantics.specs.Faults.{AreAccepted, each_unit, declaration_spots, register_widths}
use Rattle.cmm_static_semantics.proofs.Shared.{among_append, among_in_order}
use Rattle.cmm_elaboration.specs.Meaning.{meaning_of, register_width, global_of}
use Rattle.cmm_elaboration.specs.Fitting.{NamesFit}
use Rattle.cmm_elaboration.specs.Laws.{NamesAreThere}
use Rattle.cmm_elaboration.proofs.Everywhere.{all_at}
use Rattle.cmm_elaboration.proofs.Nothing.{no_left, no_right, no_unless, first_unit, other_units, unbroken, declarations_kept}
use Rattle.cmm_elaboration.proofs.Judged.{same_bits}
use Rattle.cmm_elaboration.proofs.Widths.{own_width}
use Rattle.cmm_elaboration.proofs.Cycles.{found_at}
use Rattle.cmm_elaboration.proofs.Entries.{EachUnit, unit_each, UnitFits, units_fit, procedures_length, labels_length, counted_in, all_published, some_procedure}
use Rattle.cmm_elaboration.proofs.Declaring.{type_wide, unit_fits}
use Rattle.cmm_elaboration.proofs.Registers.{name_at, found_left, found_right, found_among, register_found, found_width}

-- ---- the registers of a unit have widths

module _ (names : Senses) (all : List (Declared Entry)) where
  abbrev EachType : List (Declared TypeName) → Type 0
  EachType [] = Unit {0}
  EachType (r ∷ rs) = (type_spots names r.as_what ≡ []) × EachType rs

  entry_type : (i : Ident) (e : Entry) (rest : List (Declared TypeName)) → entry_spots names all (record { name = i; as_what = e }) ≡ [] → EachType rest →
      EachType (register_entry (record { name = i; as_what = e }) ++ rest)
  entry_type i (Register t) rest none later = (none, later)
  entry_type i (Typedef t) rest none later = later
  entry_type i (Const t x) rest none later = later
  entry_type i (Import l) rest none later = later
  entry_type i (DataLabel n) rest none later = later
  entry_type i (Procedure n p) rest none later = later

  types_none : (ds : List (Declared Entry)) → flat_map (entry_spots names all) ds ≡ [] → EachType (flat_map register_entry ds)
  types_none [] none = tt
  types_none (d ∷ ds) none =
      entry_type d.name d.as_what (flat_map register_entry ds) (no_left (entry_spots names all d) (flat_map (entry_spots names all) ds) none)
      (types_none ds (no_right (entry_spots names all d) (flat_map (entry_spots names all) ds) none))

  kept_none : (known : Bool) (d : Declared Entry) (skip next : List (Declared Entry)) → entry_spots names all d ≡ [] →
      flat_map (entry_spots names all) skip ≡ [] → flat_map (entry_spots names all) next ≡ [] →
      flat_map (entry_spots names all) (elim known as (λ b. List (Declared Entry)) [ true ↦ skip | false ↦ d ∷ next ]) ≡ []
  kept_none true d skip next here a b = a
  kept_none false d skip next here a b = ap (λ t. t ++ flat_map (entry_spots names all) next) here ∙ b

  firsts_none : (earlier ds : List (Declared Entry)) → flat_map (entry_spots names all) ds ≡ [] → flat_map (entry_spots names all) (firsts earlier ds) ≡ []
  firsts_none earlier [] none = refl
  firsts_none earlier (d ∷ ds) none = let rest = no_right (entry_spots names all d) (flat_map (entry_spots names all) ds) none in
      kept_none (is_host d.name.name || is_there (found d.name.name earlier)) d (firsts earlier ds) (firsts (earlier ++ d ∷ []) ds)
      (no_left (entry_spots names all d) (flat_map (entry_spots names all) ds) none) (firsts_none earlier ds rest) (firsts_none (earlier ++ d ∷ []) ds rest)

module _ (program : Linked) where
  abbrev pub AreDeclared : NamedUnit → Type 0
  AreDeclared u = flat_map (entry_spots (unit_senses program u.entries) u.entries) u.entries ≡ []

  wide_by : (same : Bool) (w : Option Width) (o : Option (Option Width)) → ◌≡◌ {A = Option (Option Width)} (elim same [ true ↦ Some w | false ↦ o ]) (Some None) →
      (w ≡ None → ⊥) → (o ≡ Some None → ⊥) → ⊥
  wide_by true w o is here later = here (let e : Some w ≡ Some None = is in cc)
  wide_by false w o is here later = later is

  widths_there : (u : NamedUnit) → AreDeclared u → (name : List ℕ) (rs : List (Declared TypeName)) → EachType (unit_senses program u.entries) u.entries rs →
      found name (map (λ d. record { name = d.name; as_what = width_in u.entries d.as_what }) rs) ≡ Some None → ⊥
  widths_there u none name [] each is = let bad : None ≡ Some None = is in cc
  widths_there u none name (r ∷ rs) each is =
      wide_by (bytes_eq name r.name.name) (width_in u.entries r.as_what) (found name (map (λ d. record { name = d.name; as_what = width_in u.entries d.as_what }) rs)) is
      (type_wide program u.entries none r.as_what each.0) (widths_there u none name rs each.1)

  registers_wide : (u : NamedUnit) → AreDeclared u → (name : List ℕ) → found name (register_widths u) ≡ Some None → ⊥
  registers_wide u none name =
      widths_there u none name (registers_of u) (types_none (unit_senses program u.entries) u.entries (firsts [] u.entries) (firsts_none (unit_senses program u.entries) u.entries [] u.entries none))

  all_by : (u : NamedUnit) (us : List NamedUnit) (name : List ℕ) (o : Option (Option Width)) → found name (register_widths u) ≡ o → found name (register_widths u ++ flat_map register_widths us) ≡ Some None →
      (found name (register_widths u) ≡ Some None → ⊥) → (found name (flat_map register_widths us) ≡ Some None → ⊥) → ⊥
  all_by u us name (Some w) is whole here later =
      let e : Some w ≡ Some None = sym (found_left name w (register_widths u) (flat_map register_widths us) is) ∙ whole in here (is ∙ e)
  all_by u us name None is whole here later = later (sym (found_right name (register_widths u) (flat_map register_widths us) is) ∙ whole)

  all_wide : (us : List NamedUnit) → EachUnit AreDeclared us → (name : List ℕ) → found name (flat_map register_widths us) ≡ Some None → ⊥
  all_wide [] each name is = let bad : None ≡ Some None = is in cc
  all_wide (u ∷ us) each name is = all_by u us name (found name (register_widths u)) refl is (registers_wide u each.0 name) (all_wide us each.1 name)

-- ---- what each unit's declarations break

module _ (program : Linked) where
  entries_of : (earlier : List NamedUnit) (u : NamedUnit) → declaration_spots program earlier u ≡ [] → AreDeclared program u
  entries_of earlier u none = no_left _ _ (no_left _ _ none)

  registers_none : (earlier : List NamedUnit) (u : NamedUnit) → declaration_spots program earlier u ≡ [] →
      flat_map (register_spots (flat_map register_widths earlier) u.entries) (registers_of u) ≡ []
  registers_none earlier u none = no_right (flat_map (entry_spots (unit_senses program u.entries) u.entries) u.entries) _ (no_left _ _ none)

  all_declared : (earlier : List NamedUnit) (number : ℕ) (us : List NamedUnit) → each_unit (declaration_spots program) earlier number us ≡ [] → EachUnit (AreDeclared program) us
  all_declared earlier number [] none = tt
  all_declared earlier number (u ∷ us) none = (
    entries_of earlier u (first_unit (declaration_spots program) earlier number u us none),
    all_declared (earlier ++ u ∷ []) (suc number) us (other_units (declaration_spots program) earlier number u us none),
  )

  declared_at : (before earlier later : List NamedUnit) (number : ℕ) (u : NamedUnit) → each_unit (declaration_spots program) before number (earlier ++ u ∷ later) ≡ [] →
      declaration_spots program (before ++ earlier) u ≡ []
  declared_at before [] later number u none =
      subst (λ us. declaration_spots program us u ≡ []) (sym (append-nil before)) (first_unit (declaration_spots program) before number u later none)
  declared_at before (e ∷ es) later number u none =
      subst (λ us. declaration_spots program us u ≡ []) (append_assoc before (e ∷ []) es)
      (declared_at (before ++ e ∷ []) es later (suc number) u (other_units (declaration_spots program) before number e (es ++ u ∷ later) none))

each_left : (P : NamedUnit → Type 0) (xs ys : List NamedUnit) → EachUnit P (xs ++ ys) → EachUnit P xs
each_left P [] ys each = tt
each_left P (x ∷ xs) ys each = (each.0, each_left P xs ys each.1)

-- ---- a register has one width in all units

same_way : (v w : Width) → (bits w == bits v) ≡ true → same_width v w ≡ true
same_way v w is = subst (λ x. same_width x w ≡ true) (same_bits w v is) (own_width w)

width_by : (name : List ℕ) (i : Ident) (t : TypeName) (ds : List (Declared Entry)) (known : List (Declared (Option Width))) (v w : Width) → i.name ≡ name → found name known ≡ Some (Some v) →
    width_in ds t ≡ Some w → register_spots known ds (record { name = i; as_what = t }) ≡ [] → (bits w == bits v) ≡ true
width_by name i t ds known v w named is wide none =
    let at_ : found i.name known ≡ Some (Some v) = subst (λ n. found n known ≡ Some (Some v)) (sym named) is in
    let spots : unless (bits w == bits v) WidthsDiffer t.token ≡ [] =
    sym (ap (λ o. elim o as (λ x. List Spot) [ Some width ↦ elim width as (λ x. List Spot) [ Some x ↦ width_spots (bits x) t.token (width_in ds t) | None ↦ [] ] | None ↦ [] ]) at_
    ∙ ap (λ o. width_spots (bits v) t.token o) wide) ∙ none in
    no_unless (bits w == bits v) WidthsDiffer t.token spots

module _ (earlier later : List NamedUnit) (u : NamedUnit) (name : List ℕ) (t : TypeName) (w : Width)
    (own : found name (registers_of u) ≡ Some t) (wide : width_in u.entries t ≡ Some w)
    (none : flat_map (register_spots (flat_map register_widths earlier) u.entries) (registers_of u) ≡ [])
    (there : found name (flat_map register_widths earlier) ≡ Some None → ⊥) where
  abbrev known : List (Declared (Option Width))
  known = flat_map register_widths (earlier ++ u ∷ later)

  splits : known ≡ flat_map register_widths earlier ++ (register_widths u ++ flat_map register_widths later)
  splits = flat_map-append register_widths earlier (u ∷ later)

  here : found name (register_widths u) ≡ Some (Some w)
  here = found_width name u.entries (registers_of u) ∙ ap (option_map (width_in u.entries)) own ∙ ap Some wide

  one_width : (o : Option (Option Width)) → found name (flat_map register_widths earlier) ≡ o → same_width (register_width known name) w ≡ true
  one_width (Some (Some v)) is =
      let at_ = found_at (register_spots (flat_map register_widths earlier) u.entries) name t (registers_of u) none own in
      let first : found name known ≡ Some (Some v) =
      ap (found name) splits ∙ found_left name (Some v) (flat_map register_widths earlier) (register_widths u ++ flat_map register_widths later) is in
      ap (λ o. same_width (unwrap_or (unwrap_or o None) W64) w) first
      ∙ same_way v w (width_by name at_.ident t u.entries (flat_map register_widths earlier) v w at_.named is wide at_.nothing)
  one_width (Some None) is = absurd (there is)
  one_width None is =
      let first : found name known ≡ Some (Some w) =
      ap (found name) splits ∙ found_right name (flat_map register_widths earlier) (register_widths u ++ flat_map register_widths later) is
      ∙ found_left name (Some w) (register_widths u) (flat_map register_widths later) here in
      ap (λ o. same_width (unwrap_or (unwrap_or o None) W64) w) first ∙ own_width w

  among : is_among name (flat_map (λ v. map (λ d. d.name.name) (registers_of v)) (earlier ++ u ∷ later)) ≡ true
  among =
      ap (is_among name) (flat_map-append (λ v. map (λ d. d.name.name) (registers_of v)) earlier (u ∷ later))
      ∙ among_append name (flat_map (λ v. map (λ d. d.name.name) (registers_of v)) earlier) (flat_map (λ v. map (λ d. d.name.name) (registers_of v)) (u ∷ later))
      ∙ ap (λ b. is_among name (flat_map (λ v. map (λ d. d.name.name) (registers_of v)) earlier) || b)
      (among_append name (map (λ d. d.name.name) (registers_of u)) (flat_map (λ v. map (λ d. d.name.name) (registers_of v)) later)
      ∙ ap (λ b. b || is_among name (flat_map (λ v. map (λ d. d.name.name) (registers_of v)) later)) (found_among name t (registers_of u) own))
      ∙ or-true (is_among name (flat_map (λ v. map (λ d. d.name.name) (registers_of v)) earlier))

-- ---- the units

module _ (us : List UnitTree) (accepted : AreAccepted us) where
  abbrev units : List NamedUnit
  units = named_units us

  abbrev program : Linked
  program = program_of units

  abbrev p : Program
  p = meaning_of us

  abbrev procedures : ℕ
  procedures = counted_in procs_in units

  abbrev labels : ℕ
  labels = counted_in labels_in units

  pub fit : EachUnit (UnitFits procedures labels) units
  fit = units_fit procedures labels 0 0 us (omega arith) (omega arith)

  pub some : 0 < procedures
  some = some_procedure procedures labels units fit (unbroken us accepted).main

  declared : each_unit (declaration_spots program) [] 0 units ≡ []
  declared = declarations_kept units (unbroken us accepted).nowhere

  -- no rule on declarations and data is broken in a unit, by those before it
  pub declarations_at : (earlier later : List NamedUnit) (u : NamedUnit) → units ≡ earlier ++ u ∷ later → declaration_spots program earlier u ≡ []
  declarations_at earlier later u is = declared_at program [] earlier later 0 u (subst (λ vs. each_unit (declaration_spots program) [] 0 vs ≡ []) is declared)

  -- a register of a unit
  register_there : (earlier later : List NamedUnit) (u : NamedUnit) → units ≡ earlier ++ u ∷ later → (name : List ℕ) (t : TypeName) → host_named name ≡ None →
      found name u.entries ≡ Some (Register t) → (w : Width) → width_in u.entries t ≡ Some w → has_register p (register_number program name) w ≡ true
  register_there earlier later u is name t host declared_ w wide =
      let own = register_found name t u host declared_ in
      let at_ : declaration_spots program earlier u ≡ [] = declarations_at earlier later u is in
      let each : EachUnit (AreDeclared program) earlier = each_left (AreDeclared program) earlier (u ∷ later) (subst (EachUnit (AreDeclared program)) is (all_declared program [] 0 units declared)) in
      let none = registers_none program earlier u at_ in
      let apart = all_wide program earlier each name in
      let names = flat_map (λ v. map (λ d. d.name.name) (registers_of v)) units in
      let in_ : is_among name names ≡ true =
      ap (λ vs. is_among name (flat_map (λ v. map (λ d. d.name.name) (registers_of v)) vs)) is ∙ among earlier later u name t w own wide none apart in
      let there : slice_get program.registers (register_number program name) ≡ Some name = name_at name program.registers (among_in_order name names ∙ in_) in
      ap (λ o. elim o as (λ x. Bool) [ Some g ↦ same_width g.width w | None ↦ false ])
      (slice_get-map (global_of units) program.registers (register_number program name) ∙ ap (option_map (global_of units)) there)
      ∙ ap (λ vs. same_width (register_width (flat_map register_widths vs) name) w) is
      ∙ one_width earlier later u name t w own wide none apart (found name (flat_map register_widths earlier)) refl

  pub names_of : (earlier later : List NamedUnit) (u : NamedUnit) → units ≡ earlier ++ u ∷ later → (q : Proc) → NamesFit p q (unit_senses program u.entries)
  names_of earlier later u is q =
      unit_fits program u.entries procedures labels some (all_published procedures labels units fit)
      (unit_each (UnitFits procedures labels) earlier later u (subst (EachUnit (UnitFits procedures labels)) is fit)) p q (procedures_length program 0 units) (labels_length 0 0 0 us)
      (register_there earlier later u is)

  -- and its declarations break no rule
  pub declared_there : (earlier later : List NamedUnit) (u : NamedUnit) → units ≡ earlier ++ u ∷ later → AreDeclared program u
  declared_there earlier later u is =
      entries_of program earlier u (declarations_at earlier later u is)

pub names_are_there : NamesAreThere
names_are_there us accepted = all_at (λ u. (q : Proc) → NamesFit (meaning_of us) q (unit_senses (program_of (named_units us)) u.entries)) (named_units us) [] (named_units us) refl (names_of us accepted)
