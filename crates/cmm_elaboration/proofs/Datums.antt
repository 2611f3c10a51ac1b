-- The data of accepted units is in range: alignments are those of the language, and the values of a datum fill it, each with its width.
use Rattle.std.proofs.Common.{◌≡◌, ℕ, ◌*◌, refl, sym, ap, ◌∙◌, subst, Bool, true, false, List, [], ◌∷◌, ◌++◌, append_assoc, Option, Some, None, Ok, Err, length}
use Rattle.std.specs.Prelude.{map, flat_map, unwrap_or, ◌==◌}
use Rattle.std.specs.List.{list_all}
use Rattle.std.proofs.lemmas.Bool.{and_parts, eqb-true, eq-eqb, and_from}
use Rattle.std.proofs.lemmas.List.{length-map}
use Rattle.std.proofs.lemmas.List.Folds.{list_all-append}
use Rattle.cmm_words.specs.declared.width.Width.{Width}
use Rattle.cmm_words.specs.declared.width.Width.TheVariants.{W8, W64}
use Rattle.cmm_words.specs.declared.constant.Constant.{Constant}
use Rattle.cmm_words.specs.declared.constant.Constant.TheVariants.{Number}
use Rattle.cmm_words.specs.Widths.{bits, bytes}
use Rattle.cmm_ast.specs.declared.token.Ident.{Ident}
use Rattle.cmm_ast.specs.declared.expression.Expr.{Expr}
use Rattle.cmm_ast.specs.declared.expression.TypeName.{TypeName}
use Rattle.cmm_ast.specs.declared.unit.Count.{Count}
use Rattle.cmm_ast.specs.declared.unit.Count.TheVariants as counts
use Rattle.cmm_ast.specs.declared.unit.DatumForm.{DatumForm}
use Rattle.cmm_ast.specs.declared.unit.DatumForm.TheVariants as data_forms
use Rattle.cmm_ast.specs.declared.unit.Initial.{Initial}
use Rattle.cmm_ast.specs.declared.unit.Initial.TheVariants as initials
use Rattle.cmm_ast.specs.declared.unit.Item.{Item}
use Rattle.cmm_ast.specs.declared.unit.Item.TheVariants as items
use Rattle.cmm_ast.specs.declared.unit.Unit.{Unit as UnitTree}
use Rattle.cmm_program.specs.declared.procedure.Proc.{Proc}
use Rattle.cmm_program.specs.declared.program.Program.{Program}
use Rattle.cmm_program.specs.InRange.{below, is_datum, is_initial}
use Rattle.cmm_program.specs.Typing.{same_width, if_holds, is_alignment, constant_width}
use Rattle.cmm_rules.specs.declared.rule.Rule.TheVariants.{WidthsDiffer, CountsDiffer}
use Rattle.cmm_static_semantics.specs.declared.known.Known.{Known}
use Rattle.cmm_static_semantics.specs.declared.known.Known.TheVariants as known
use Rattle.cmm_static_semantics.specs.Senses.{Senses}
use Rattle.cmm_static_semantics.specs.Algebras.{knowns}
use Rattle.cmm_static_semantics.specs.Items.{Within}
use Rattle.cmm_static_semantics.specs.Judging.{Judged, spots, if_ok}
use Rattle.cmm_static_semantics.specs.Mentions.{values_alone, expr_names}
use Rattle.cmm_static_semantics.specs.Typing.{type_width, wanted}
use Rattle.cmm_static_semantics.specs.Constants.{wanted_alone, as_number, constant_known, as_constant, number_of, constant_alone}
use Rattle.cmm_static_semantics.specs.Expressions.{inner_spots, type_spots, number_spots, constant_alone_spots}
use Rattle.cmm_static_semantics.specs.Units.{width_spots, count_spots, initial_spots, initial_count, is_count, counts_agree, datum_spots, item_spots}
use Rattle.cmm_static_semantics.specs.Limits.{piece_of, data_count}
use Rattle.cmm_static_semantics.specs.Declarations.{NamedUnit, named_units}
use Rattle.cmm_static_semantics.specs.Linking.{program_of}
use Rattle.cmm_static_semantics.specs.Scopes.{unit_senses}
use Rattle.cmm_static_semantics.specs.Faults.{AreAccepted}
use Rattle.cmm_elaboration.specs.Fitting.{NamesFit}
use Rattle.cmm_elaboration.specs.Resolving.{or_zero}
use Rattle.cmm_elaboration.specs.Data.{initial_values, datum_of, form_datums, item_datums}
use Rattle.cmm_elaboration.specs.Meaning.{unit_datums, meaning_of}
use Rattle.cmm_elaboration.specs.Laws.{has_bytes, of_bytes, DatumsAreInRange}
use Rattle.cmm_elaboration.proofs.Nothing.{no_left, no_right, no_unless}
use Rattle.cmm_elaboration.proofs.Judged.{Holds, same_bits}
use Rattle.cmm_elaboration.proofs.Widths.{own_width}
use Rattle.cmm_elaboration.proofs.Knowing.{known_from, constant_alone_is}
use Rattle.cmm_elaboration.proofs.Keeping.{width_alignment, own_alignment}
use Rattle.cmm_elaboration.proofs.UnitNames.{names_of, declarations_at, declared_there}
use Rattle.cmm_elaboration.proofs.Wide.{IsWide, unit_wide}
use Rattle.cmm_elaboration.proofs.Mentioned.{EachName}
use Rattle.cmm_elaboration.proofs.Whole.{Whole, Present, IsUnbroken, whole_with, type_whole, BitsWhole, bits_wanted_whole, wanted_alone_whole}
use Rattle.cmm_elaboration.proofs.Settled.{as_number_whole, whole_ok, unit_unbroken}

constant_whole : (token : ℕ) (w : Width) (a : Known) → Whole (λ c. Unit {0}) (constant_known token w a)
constant_whole token w (known.Number a) = tt
constant_whole token w (known.Symbol c) = tt
constant_whole token w (known.Sum c) = tt
constant_whole token w known.Nothing = tt

as_constant_whole : (token : ℕ) (w : Width) (o : Option Known) → Present o → Whole (λ c. Unit {0}) (as_constant token record { width = w; value = o })
as_constant_whole token w (Some a) h = constant_whole token w a
as_constant_whole token w None h = h

-- ---- over names that are not broken

module _ (names : Senses) (wide : (name : List ℕ) → IsWide (names name)) (unbroken : (name : List ℕ) → IsUnbroken (names name)) where
  pub all_unbroken : (is : List Ident) → EachName (λ i. IsUnbroken (names i.name)) is
  all_unbroken [] = tt
  all_unbroken (i ∷ is) = (unbroken i.name, all_unbroken is)

  -- a number that breaks no rule is there
  pub number_there : (e : Expr) → number_spots names e ≡ [] → (a : ℕ) × (number_of names e ≡ Ok a)
  number_there e free =
      whole_ok (λ n. Unit {0}) (number_of names e)
      (whole_with (BitsWhole knowns) (λ n. Unit {0}) (wanted knowns names (Some W64) e) (as_number e.token)
      (bits_wanted_whole knowns names wide (Some W64) e (all_unbroken (expr_names values_alone e))) (λ b present. as_number_whole e.token b.width b.value present))
      (no_left (spots (number_of names e)) (inner_spots names e) free)

  constant_there : (w : Width) (e : Expr) → constant_alone_spots names (Some w) e ≡ [] → (c : Constant) × (constant_alone names (Some w) e ≡ Ok c)
  constant_there w e free =
      whole_ok (λ c. Unit {0}) (constant_alone names (Some w) e)
      (whole_with (BitsWhole knowns) (λ c. Unit {0}) (wanted_alone knowns names (Some w) e) (as_constant e.token)
      (wanted_alone_whole knowns names wide (Some w) e (all_unbroken (expr_names values_alone e))) (λ b present. as_constant_whole e.token b.width b.value present))
      (no_left (spots (constant_alone names (Some w) e)) (inner_spots names e) free)

  pub type_there : (t : TypeName) → type_spots names t ≡ [] → (w : Width) × (type_width names t ≡ Ok w)
  type_there t free = whole_ok (λ w. Unit {0}) (type_width names t) (type_whole names wide t) free

  -- as many as a datum begins with
  count_is : (count : Count) (i : Initial) (m : ℕ) → initial_count i ≡ Some m → count_spots names count ≡ [] → counts_agree names count i ≡ true → data_count names count i ≡ m
  count_is counts.One i m is free agree = ap (λ o. unwrap_or o 1) is
  count_is counts.OfInitial i m is free agree = ap (λ o. unwrap_or o 0) is
  count_is (counts.Of e) i m is free agree = let a = number_there e free in
      ap (λ j. unwrap_or (if_ok j) 0) a.1
      ∙ eqb-true a.0 m (sym (ap (λ j. is_count (if_ok j) (initial_count i)) a.1 ∙ ap (is_count (Some a.0)) is) ∙ agree)

  module _ (p : Program) (q : Proc) (fit : NamesFit p q names) where
    initial_by : (w : Width) (j : Judged Constant) (c : Constant) → j ≡ Ok c → Holds (λ k. constant_width p k ≡ Some w) j → is_initial p w (or_zero w j) ≡ true
    initial_by w (Ok d) c is h = ap (λ o. elim o as (λ x. Bool) [ Some found ↦ same_width found w | None ↦ false ]) h ∙ own_width w
    initial_by w (Err x) c is h = let bad : Err x ≡ Ok c = is in cc

    initial_is : (w : Width) (e : Expr) → constant_alone_spots names (Some w) e ≡ [] → is_initial p w (or_zero w (constant_alone names (Some w) e)) ≡ true
    initial_is w e free = let c = constant_there w e free in
        initial_by w (constant_alone names (Some w) e) c.0 c.1 (constant_alone_is p names (λ name. known_from p q (names name) (fit name)) w e)

    values_are : (w : Width) (es : List Expr) → flat_map (constant_alone_spots names (Some w)) es ≡ [] →
        list_all (is_initial p w) (map (λ e. or_zero w (constant_alone names (Some w) e)) es) ≡ true
    values_are w [] free = refl
    values_are w (e ∷ es) free =
        and_from (is_initial p w (or_zero w (constant_alone names (Some w) e))) _
        (initial_is w e (no_left (constant_alone_spots names (Some w) e) (flat_map (constant_alone_spots names (Some w)) es) free))
        (values_are w es (no_right (constant_alone_spots names (Some w) e) (flat_map (constant_alone_spots names (Some w)) es) free))

    bytes_are : (bs : List ℕ) → list_all (below 256) bs ≡ true → list_all (is_initial p W8) (map (λ byte. Number byte W8) bs) ≡ true
    bytes_are [] h = refl
    bytes_are (b ∷ bs) h = let both = and_parts (below 256 b) (list_all (below 256) bs) h in
        and_from (is_initial p W8 (Number b W8)) _
        (ap (λ t. elim (if_holds t W8) as (λ x. Bool) [ Some found ↦ same_width found W8 | None ↦ false ]) both.0) (bytes_are bs both.1)

    -- values that fill a datum
    filled : (w : Width) (n : ℕ) (vs : List Constant) → n ≡ length vs → list_all (is_initial p w) vs ≡ true → is_datum p (datum_of (piece_of (bytes w) n) w vs) ≡ true
    filled w n [] many h = and_from (is_alignment (bytes w)) true (width_alignment w) refl
    filled w n (v ∷ vs) many h =
        and_from (is_alignment (bytes w)) _ (width_alignment w)
        (and_from (n * bytes w == length (v ∷ vs) * bytes w) _ (eq-eqb (n * bytes w) (length (v ∷ vs) * bytes w) (ap (λ m. m * bytes w) many)) h)

    filled_by : (w : Width) (t : TypeName) (count : Count) (i : Initial) → type_width names t ≡ Ok w → count_spots names count ≡ [] → initial_spots names t i ≡ [] →
        counts_agree names count i ≡ true → has_bytes i ≡ true → is_datum p (datum_of (piece_of (bytes w) (data_count names count i)) w (initial_values names w i)) ≡ true
    filled_by w t count initials.Zeros is counted free agree text = and_from (is_alignment (bytes w)) true (width_alignment w) refl
    filled_by w t count (initials.Values es) is counted free agree text =
        let here : flat_map (constant_alone_spots names (Some w)) es ≡ [] = subst (λ j. flat_map (constant_alone_spots names (if_ok j)) es ≡ []) is free in
        filled w (data_count names count (initials.Values es)) (map (λ e. or_zero w (constant_alone names (Some w) e)) es)
        (count_is count (initials.Values es) (length es) refl counted agree ∙ sym (length-map es (λ e. or_zero w (constant_alone names (Some w) e)))) (values_are w es here)
    filled_by w t count (initials.Text x) is counted free agree text =
        let eight : (bits w == bits W8) ≡ true =
        no_unless (bits w == 8) WidthsDiffer t.token (subst (λ j. width_spots 8 t.token (if_ok j) ≡ []) is free) in
        let n = data_count names count (initials.Text x) in let vs = map (λ byte. Number byte W8) x.bytes in
        subst (λ v. is_datum p (datum_of (piece_of (bytes v) n) v vs) ≡ true) (sym (same_bits w W8 eight))
        (filled W8 n vs (count_is count (initials.Text x) (length x.bytes) refl counted agree ∙ sym (length-map x.bytes (λ byte. Number byte W8))) (bytes_are x.bytes text))

    data_by : (t : TypeName) (count : Count) (i : Initial) (token : ℕ) → datum_spots names token (data_forms.Data t count i) ≡ [] → has_bytes i ≡ true →
        list_all (is_datum p) (form_datums names (data_forms.Data t count i)) ≡ true
    data_by t count i token free text =
        let before = no_left _ _ free in let first = no_left _ (initial_spots names t i) before in
        let w = type_there t (no_left (type_spots names t) (count_spots names count) first) in
        let n = data_count names count i in
        let filled_at : Judged Width → Type 0 =
        λ j. is_datum p (datum_of (piece_of (elim (if_ok j) as (λ o. ℕ) [ Some width ↦ bytes width | None ↦ 1 ]) n) (unwrap_or (if_ok j) W64) (initial_values names (unwrap_or (if_ok j) W64) i)) ≡ true in
        and_from _ true
        (subst filled_at (sym w.1)
        (filled_by w.0 t count i w.1 (no_right (type_spots names t) (count_spots names count) first) (no_right _ (initial_spots names t i) before)
        (no_unless (counts_agree names count i) CountsDiffer token (no_right _ _ free)) text)) refl

    datum_in : (form : DatumForm) (token : ℕ) → datum_spots names token form ≡ [] → of_bytes (items.Datum record { token = token; form = form }) ≡ true → list_all (is_datum p) (form_datums names form) ≡ true
    datum_in (data_forms.Label name) token free text = refl
    datum_in (data_forms.Align k) token free text = and_from _ true (and_from _ true (own_alignment (is_alignment k.value) k.value refl) refl) refl
    datum_in (data_forms.Data t count i) token free text = data_by t count i token free text

    item_in : (i : Item) → item_spots names i ≡ [] → of_bytes i ≡ true → list_all (is_datum p) (item_datums names i) ≡ true
    item_in (items.Decl d) free text = refl
    item_in (items.Proc x) free text = refl
    item_in (items.Datum d) free text = datum_in d.form d.token free text
    item_in (items.Span' first key value size inside) free text = refl

    items_in : (is : List (Within Item)) → flat_map (λ i. item_spots names i.what) is ≡ [] → list_all (λ i. of_bytes i.what) is ≡ true →
        list_all (is_datum p) (flat_map (λ i. item_datums names i.what) is) ≡ true
    items_in [] free text = refl
    items_in (i ∷ is) free text = let both = and_parts (of_bytes i.what) (list_all (λ j. of_bytes j.what) is) text in
        list_all-append (is_datum p) (item_datums names i.what) (flat_map (λ j. item_datums names j.what) is)
        ∙ and_from (list_all (is_datum p) (item_datums names i.what)) _
        (item_in i.what (no_left (item_spots names i.what) (flat_map (λ j. item_spots names j.what) is) free) both.0)
        (items_in is (no_right (item_spots names i.what) (flat_map (λ j. item_spots names j.what) is) free) both.1)

-- ---- accepted units

-- what units declare is required of no procedure
nobody : Proc
nobody = record { name = []; unit = 0; tokens = 0; formals = 0; vars = []; stack = []; conts = []; sites = []; body = [] }

module _ (us : List UnitTree) (accepted : AreAccepted us) where
  abbrev units : List NamedUnit
  units = named_units us

  units_in : (earlier rest : List NamedUnit) → units ≡ earlier ++ rest → list_all (λ u. list_all (λ i. of_bytes i.what) u.items) rest ≡ true →
      list_all (is_datum (meaning_of us)) (flat_map (unit_datums (program_of units)) rest) ≡ true
  units_in earlier [] is text = refl
  units_in earlier (u ∷ rest) is text =
      let both = and_parts (list_all (λ i. of_bytes i.what) u.items) (list_all (λ v. list_all (λ i. of_bytes i.what) v.items) rest) text in
      let names = unit_senses (program_of units) u.entries in let none = declared_there us accepted earlier rest u is in
      list_all-append (is_datum (meaning_of us)) (unit_datums (program_of units) u) (flat_map (unit_datums (program_of units)) rest)
      ∙ and_from (list_all (is_datum (meaning_of us)) (unit_datums (program_of units) u)) _
      (items_in names (unit_wide (program_of units) u.entries none) (unit_unbroken (program_of units) u.entries none) (meaning_of us) nobody (names_of us accepted earlier rest u is nobody) u.items
      (no_right _ (flat_map (λ i. item_spots names i.what) u.items) (declarations_at us accepted earlier rest u is)) both.0)
      (units_in (earlier ++ u ∷ []) rest (is ∙ sym (append_assoc earlier (u ∷ []) rest)) both.1)

pub datums_are_in_range : DatumsAreInRange
datums_are_in_range us accepted text = units_in us accepted [] (named_units us) refl text
