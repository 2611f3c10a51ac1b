-- How many tokens what stands in a unit has at least: a datum one, a procedure as many as it counts, and an export two. So counts of procedures, data,
-- labels and exports come to at most the tokens of units that derive as many as they have places for.
use Rattle.std.proofs.Common.{◌≡◌, ℕ, suc, ◌+◌, ◌*◌, ◌-◌, ◌<◌, ◌≤◌, refl, sym, ap, ◌∙◌, subst, List, [], ◌∷◌, ◌++◌, Option, Some, None, arith, length}
use Rattle.std.specs.Prelude.{flat_map, sum_by}
use Rattle.std.proofs.lemmas.Bool.{and_parts, leb-true}
use Rattle.std.proofs.lemmas.List.Elements.{All-head, All-tail}
use Rattle.cmm_lexer.specs.declared.piece.Lexeme.{Lexeme}
use Rattle.cmm_lexer.specs.declared.keyword.Keyword.{Keyword}
use Rattle.cmm_lexer.specs.declared.keyword.Keyword.TheVariants.{Align, As, Export as ExportWord, Section as SectionWord, Span as SpanWord}
use Rattle.cmm_lexer.specs.declared.symbol.Symbol.{Symbol}
use Rattle.cmm_lexer.specs.declared.symbol.Symbol.TheVariants as sign
use Rattle.cmm_ast.specs.declared.declaration.Decl.{Decl}
use Rattle.cmm_ast.specs.declared.declaration.DeclForm.{DeclForm}
use Rattle.cmm_ast.specs.declared.declaration.DeclForm.TheVariants as decls
use Rattle.cmm_ast.specs.declared.declaration.Export.{Export}
use Rattle.cmm_ast.specs.declared.procedure.Proc.{Proc as ProcTree}
use Rattle.cmm_ast.specs.declared.unit.DatumForm.{DatumForm}
use Rattle.cmm_ast.specs.declared.unit.DatumForm.TheVariants as data_forms
use Rattle.cmm_ast.specs.declared.unit.Item.{Item, Row_of-Item, end_of-Item, more_of-Item}
use Rattle.cmm_ast.specs.declared.unit.Item.TheVariants as items
use Rattle.cmm_ast.specs.declared.unit.TopLevel.{TopLevel}
use Rattle.cmm_ast.specs.declared.unit.TopLevel.TheVariants as tops
use Rattle.cmm_ast.specs.declared.unit.Unit.{Unit as UnitTree}
use Rattle.cmm_grammar.specs.Derivation.{Derives, at_start}
use Rattle.cmm_grammar.specs.Taking.{Reading, Takes, ◌⨾◌, token, is_name, keyword, symbol, here, opening, round, braces, optional, many, commas, listed, may_comma, may_list}
use Rattle.cmm_grammar.specs.ExpressionGrammar.{ident, text, int, type_name, whole, whole_prim}
use Rattle.cmm_grammar.specs.StatementGrammar.{formal, block, proc}
use Rattle.cmm_grammar.specs.UnitGrammar.{count, decl, decl_form, export_name, initial, datum_form, item, item_row, top_level}
use Rattle.cmm_static_semantics.specs.Faults.{AreAccepted}
use Rattle.cmm_static_semantics.specs.Items.{SpanTree, Within, item_within, items_within, top_items, items_of}
use Rattle.cmm_static_semantics.specs.Declarations.{NamedUnit, named_units, units_from, procs_in, labels_in, sum_of}
use Rattle.cmm_static_semantics.specs.Linking.{Program as Linked, decl_exports, program_of}
use Rattle.cmm_static_semantics.specs.Limits.{over_units, over_procs, token_count}
use Rattle.cmm_elaboration.specs.Data.{datums_in, datums_among}
use Rattle.cmm_elaboration.specs.Meaning.{meaning_of}
use Rattle.cmm_elaboration.specs.Laws.{AreRead, CountsAreKept}
use Rattle.cmm_elaboration.specs.Room.{RoomIsKept}
use Rattle.cmm_elaboration.proofs.Nothing.{unbroken}
use Rattle.cmm_elaboration.proofs.Entries.{counted_in, sum_append, labels_length}
use Rattle.cmm_elaboration.proofs.Exporting.{export_count, links, links_few}
use Rattle.cmm_elaboration.proofs.Labels.{all_datums, datums_length}
use Rattle.cmm_elaboration.proofs.Sums.{units_sum}
use Rattle.cmm_elaboration.proofs.Derived.{middle}
use Rattle.cmm_elaboration.proofs.Steady.{IsSteady, here_is, next_token, steady_keyword, steady_symbol, steady_opening, steady_type, steady_ident, steady_int, steady_whole, steady_primary, steady_text, steady_then, steady_optional, steady_comma}
use Rattle.cmm_elaboration.proofs.SteadyUnits.{steady_proc, steady_decl, steady_count, steady_initial, steady_unit}

abbrev weight : Item → ℕ
weight (items.Proc p) = p.past - p.name.token
weight (items.Datum d) = 1
weight (items.Decl d) = 2 * length (decl_exports d.form)
weight _ = 0

abbrev weights : List (Within Item) → ℕ
weights is = sum_of weight is

abbrev pub taken_of : Option Reading → ℕ
taken_of (Some r) = r.taken
taken_of None = 0

within_few : (a b c : ℕ) → a ≡ b → b ≤ c → c ≤ 1000000 → a ≤ 1000000
within_few a b c e h k = omega arith

under_limit : (a b c : ℕ) → a ≡ b → b ≤ c → c ≤ 1000000 → a < 4294967296
under_limit a b c e h k = omega arith

-- ---- what is taken at least

proc_weighs : (p : ProcTree) (r s : Reading) → proc p r ≡ Some s → r.taken + (p.past - p.name.token) ≤ s.taken
proc_weighs p r s is =
    let rest = round (may_list formal p.formals) ⨾ block p.body ⨾ here p.past in
    let m = middle (ident p.name r) rest s is in
    let h = middle (here p.name.token r) (token (is_name p.name.name)) m.at_ m.first in
    let first : p.name.token ≡ r.taken = (here_is p.name.token r h.at_ h.first).0 in
    let b = middle (round (may_list formal p.formals) m.at_) (block p.body ⨾ here p.past) s m.next in
    let e = middle (block p.body b.at_) (here p.past) s b.next in
    let last = here_is p.past e.at_ s e.next in
    let past : p.past ≡ s.taken = last.0 ∙ ap (λ x. x.taken) last.1 in
    let grows : r.taken ≤ s.taken = (steady_proc p r s is).grows in omega arith

ends_strict : (p : Takes) (x : Symbol) → IsSteady p → (r s : Reading) → (p ⨾ symbol x) r ≡ Some s → suc r.taken ≤ s.taken
ends_strict p x h r s is = let m = middle (p r) (symbol x) s is in
    let a : r.taken ≤ m.at_.taken = (h r m.at_ m.first).grows in let b : s.taken ≡ suc m.at_.taken = next_token _ m.at_ s m.next in omega arith

begins_strict : (k : Keyword) (p : Takes) → IsSteady p → (r s : Reading) → (keyword k ⨾ p) r ≡ Some s → suc r.taken ≤ s.taken
begins_strict k p h r s is = let m = middle (keyword k r) p s is in
    let a : m.at_.taken ≡ suc r.taken = next_token _ r m.at_ m.first in let b : m.at_.taken ≤ s.taken = (h m.at_ s m.next).grows in omega arith

datum_strict : (form : DatumForm) (r s : Reading) → datum_form form r ≡ Some s → suc r.taken ≤ s.taken
datum_strict (data_forms.Label name) r s is = ends_strict (ident name) sign.Colon (steady_ident name) r s is
datum_strict (data_forms.Align k) r s is =
    begins_strict Align (int k ⨾ symbol sign.Semicolon) (steady_then (int k) (symbol sign.Semicolon) (steady_int k) (steady_symbol sign.Semicolon)) r s is
datum_strict (data_forms.Data width many_ first) r s is =
    let m = middle (type_name width r) (count many_ ⨾ initial first ⨾ symbol sign.Semicolon) s is in
    let n = middle (count many_ m.at_) (initial first ⨾ symbol sign.Semicolon) s m.next in
    let a : r.taken ≤ m.at_.taken = (steady_type width r m.at_ m.first).grows in
    let b : m.at_.taken ≤ n.at_.taken = (steady_count many_ m.at_ n.at_ n.first).grows in
    let c : suc n.at_.taken ≤ s.taken = ends_strict (initial first) sign.Semicolon (steady_initial first) n.at_ s n.next in omega arith

-- an export has a name, and a comma or a semicolon behind it
export_strict : (e : Export) (r s : Reading) → export_name e r ≡ Some s → suc r.taken ≤ s.taken
export_strict e r s is =
    let link = optional (λ t. keyword As ⨾ text t) e.link in
    let m = middle (ident e.name r) link s is in
    let h = middle (here e.name.token r) (token (is_name e.name.name)) m.at_ m.first in
    let same : r.taken ≡ h.at_.taken = ap (λ x. x.taken) (here_is e.name.token r h.at_ h.first).1 in
    let name : m.at_.taken ≡ suc h.at_.taken = next_token _ h.at_ m.at_ h.next in
    let grows : m.at_.taken ≤ s.taken =
    (steady_optional (λ t. keyword As ⨾ text t) (λ t. steady_then (keyword As) (text t) (steady_keyword As) (steady_text t)) e.link m.at_ s m.next).grows in
    omega arith

exports_weigh : (es : List Export) (r s : Reading) → commas export_name es r ≡ Some s → r.taken + 2 * length es ≤ suc s.taken
exports_weigh [] r s is = let bad : None ≡ Some s = is in cc
exports_weigh (e ∷ []) r s is = omega (arith, export_strict e r s is)
exports_weigh (e ∷ f ∷ rest) r s is =
    let m = middle (export_name e r) (symbol sign.Comma ⨾ commas export_name (f ∷ rest)) s is in
    let n = middle (symbol sign.Comma m.at_) (commas export_name (f ∷ rest)) s m.next in
    let a : suc r.taken ≤ m.at_.taken = export_strict e r m.at_ m.first in
    let b : n.at_.taken ≡ suc m.at_.taken = next_token _ m.at_ n.at_ n.first in
    let c : n.at_.taken + 2 * length (f ∷ rest) ≤ suc s.taken = exports_weigh (f ∷ rest) n.at_ s n.next in omega arith

form_weighs : (form : DeclForm) (r s : Reading) → decl_form form r ≡ Some s → r.taken ≤ s.taken → r.taken + 2 * length (decl_exports form) ≤ s.taken
form_weighs (decls.Export width exports) r s is grows =
    let a = middle (keyword ExportWord r) (optional type_name width ⨾ listed export_name exports ⨾ symbol sign.Semicolon) s is in
    let b = middle (optional type_name width a.at_) (listed export_name exports ⨾ symbol sign.Semicolon) s a.next in
    let c = middle (listed export_name exports b.at_) (symbol sign.Semicolon) s b.next in
    let d = middle (commas export_name exports b.at_) may_comma c.at_ c.first in
    let one : a.at_.taken ≡ suc r.taken = next_token _ r a.at_ a.first in
    let two : a.at_.taken ≤ b.at_.taken = (steady_optional type_name steady_type width a.at_ b.at_ b.first).grows in
    let three : b.at_.taken + 2 * length exports ≤ suc d.at_.taken = exports_weigh exports b.at_ d.at_ d.first in
    let four : d.at_.taken ≤ c.at_.taken = (steady_comma d.at_ c.at_ d.next).grows in
    let five : s.taken ≡ suc c.at_.taken = next_token _ c.at_ s c.next in omega arith
form_weighs form r s is grows = omega (arith, grows)

decl_weighs : (d : Decl) (r s : Reading) → decl d r ≡ Some s → r.taken + 2 * length (decl_exports d.form) ≤ s.taken
decl_weighs d r s is =
    let m = middle (here d.token r) (decl_form d.form) s is in
    let same : r.taken ≡ m.at_.taken = ap (λ x. x.taken) (here_is d.token r m.at_ m.first).1 in
    let grows : r.taken ≤ s.taken = (steady_decl d r s is).grows in
    omega (arith, form_weighs d.form m.at_ s m.next (omega arith))

-- what stands between braces
pub record Inside (p : Takes) (r s : Reading) : Type 0 where
  pub from : Reading
  pub to : Reading
  pub is : p from ≡ Some to
  pub low : r.taken ≤ from.taken
  pub high : to.taken ≤ s.taken

pub inside_of : (p : Takes) (r s : Reading) → braces p r ≡ Some s → Inside p r s
inside_of p r s is =
    let opens = opening (symbol sign.OpenBrace) in let closes = symbol sign.CloseBrace in
    let m = middle ((opens ⨾ p ⨾ closes) r) (λ x. Some record x { open_brackets = r.open_brackets }) s is in
    let a = middle (opens r) (p ⨾ closes) m.at_ m.first in
    let b = middle (p a.at_) closes m.at_ a.next in
    let last : m.at_.taken ≡ s.taken = let e : Some record m.at_ { open_brackets = r.open_brackets } ≡ Some s = m.next in ap taken_of e in
    let high : b.at_.taken ≤ m.at_.taken = (steady_symbol sign.CloseBrace b.at_ m.at_ b.next).grows in
    record { from = a.at_; to = b.at_; is = b.first; low = (steady_opening (symbol sign.OpenBrace) (steady_symbol sign.OpenBrace) r a.at_ a.first).grows; high = omega arith }

-- ---- what stands in a unit

mutual
  item_weighs : (spans : List SpanTree) (i : Item) (r s : Reading) → item i r ≡ Some s → r.taken + weights (item_within spans i) ≤ s.taken
  item_weighs spans (items.Decl d) r s is = omega (arith, decl_weighs d r s is)
  item_weighs spans (items.Proc p) r s is = let h : r.taken + (p.past - p.name.token) ≤ s.taken = proc_weighs p r s is in omega arith
  item_weighs spans (items.Datum d) r s is =
      let m = middle (here d.token r) (datum_form d.form) s is in let same = (here_is d.token r m.at_ m.first).1 in
      let h : suc r.taken ≤ s.taken = subst (λ x. suc x.taken ≤ s.taken) (sym same) (datum_strict d.form m.at_ s m.next) in omega arith
  item_weighs spans (items.Span' first key value _ inner) r s is =
      let a = middle (here first r) (keyword SpanWord ⨾ whole_prim key ⨾ whole value ⨾ braces (item_row inner)) s is in
      let b = middle (keyword SpanWord a.at_) (whole_prim key ⨾ whole value ⨾ braces (item_row inner)) s a.next in
      let c = middle (whole_prim key b.at_) (whole value ⨾ braces (item_row inner)) s b.next in
      let d = middle (whole value c.at_) (braces (item_row inner)) s c.next in
      let x = inside_of (item_row inner) d.at_ s d.next in
      let one : r.taken ≤ b.at_.taken = subst (λ y. y.taken ≤ b.at_.taken) (sym (here_is first r a.at_ a.first).1) (steady_keyword SpanWord a.at_ b.at_ b.first).grows in
      let two : b.at_.taken ≤ c.at_.taken = (steady_primary key b.at_ c.at_ c.first).grows in
      let three : c.at_.taken ≤ d.at_.taken = (steady_whole value c.at_ d.at_ d.first).grows in
      let low : d.at_.taken ≤ x.from.taken = x.low in let high : x.to.taken ≤ s.taken = x.high in
      let inside_ : x.from.taken + weights (items_within (record { key = key; value = value } ∷ spans) inner) ≤ x.to.taken =
      row_weighs (record { key = key; value = value } ∷ spans) _ inner x.from x.to x.is in omega arith

  row_weighs : (spans : List SpanTree) (n : _) (row : Row_of-Item n) (r s : Reading) → item_row row r ≡ Some s → r.taken + weights (items_within spans row) ≤ s.taken
  row_weighs spans n end_of-Item r s is = let h : r.taken ≡ s.taken = ap taken_of is in omega arith
  row_weighs spans n (more_of-Item {n = k} i rest) r s is =
      let m = middle (item i r) (item_row rest) s is in
      let a : r.taken + weights (item_within spans i) ≤ m.at_.taken = item_weighs spans i r m.at_ m.first in
      let b : m.at_.taken + weights (items_within spans rest) ≤ s.taken = row_weighs spans k rest m.at_ s m.next in
      let e : weights (item_within spans i ++ items_within spans rest) ≡ weights (item_within spans i) + weights (items_within spans rest) = sum_append weight (item_within spans i) (items_within spans rest) in
      omega arith

section_weighs : (is : List Item) (r s : Reading) → many item is r ≡ Some s → r.taken + weights (flat_map (item_within []) is) ≤ s.taken
section_weighs [] r s is = let h : r.taken ≡ s.taken = ap taken_of is in omega arith
section_weighs (i ∷ rest) r s is =
    let m = middle (item i r) (many item rest) s is in
    let a : r.taken + weights (item_within [] i) ≤ m.at_.taken = item_weighs [] i r m.at_ m.first in
    let b : m.at_.taken + weights (flat_map (item_within []) rest) ≤ s.taken = section_weighs rest m.at_ s m.next in
    let e : weights (item_within [] i ++ flat_map (item_within []) rest) ≡ weights (item_within [] i) + weights (flat_map (item_within []) rest) =
    sum_append weight (item_within [] i) (flat_map (item_within []) rest) in omega arith

top_weighs : (t : TopLevel) (r s : Reading) → top_level t r ≡ Some s → r.taken + weights (top_items t) ≤ s.taken
top_weighs (tops.Section x) r s is =
    let a = middle (here x.token r) (keyword SectionWord ⨾ text x.name ⨾ braces (many item x.items)) s is in
    let b = middle (keyword SectionWord a.at_) (text x.name ⨾ braces (many item x.items)) s a.next in
    let c = middle (text x.name b.at_) (braces (many item x.items)) s b.next in
    let i = inside_of (many item x.items) c.at_ s c.next in
    let one : r.taken ≤ b.at_.taken = subst (λ y. y.taken ≤ b.at_.taken) (sym (here_is x.token r a.at_ a.first).1) (steady_keyword SectionWord a.at_ b.at_ b.first).grows in
    let two : b.at_.taken ≤ c.at_.taken = (steady_text x.name b.at_ c.at_ c.first).grows in
    let low : c.at_.taken ≤ i.from.taken = i.low in let high : i.to.taken ≤ s.taken = i.high in
    let inside_ : i.from.taken + weights (flat_map (item_within []) x.items) ≤ i.to.taken = section_weighs x.items i.from i.to i.is in omega arith
top_weighs (tops.Decl d) r s is = omega (arith, decl_weighs d r s is)
top_weighs (tops.Proc p) r s is = let h : r.taken + (p.past - p.name.token) ≤ s.taken = proc_weighs p r s is in omega arith

tops_weigh : (ts : List TopLevel) (r s : Reading) → many top_level ts r ≡ Some s → r.taken + weights (flat_map top_items ts) ≤ s.taken
tops_weigh [] r s is = let h : r.taken ≡ s.taken = ap taken_of is in omega arith
tops_weigh (t ∷ ts) r s is =
    let m = middle (top_level t r) (many top_level ts) s is in
    let a : r.taken + weights (top_items t) ≤ m.at_.taken = top_weighs t r m.at_ m.first in
    let b : m.at_.taken + weights (flat_map top_items ts) ≤ s.taken = tops_weigh ts m.at_ s m.next in
    let e : weights (top_items t ++ flat_map top_items ts) ≡ weights (top_items t) + weights (flat_map top_items ts) = sum_append weight (top_items t) (flat_map top_items ts) in omega arith

unit_weighs : (u : UnitTree) (tokens : List Lexeme) → Derives tokens u → weights (items_of u) ≤ length tokens
unit_weighs u tokens d =
    let w : 0 + weights (items_of u) ≤ d.after.taken = tops_weigh u.parts (at_start tokens) d.after d.takes in
    let kept : d.after.taken + length d.after.left ≡ 0 + length tokens = (steady_unit u (at_start tokens) d.after d.takes).kept in
    let none : length d.after.left ≡ 0 = ap length d.all in omega arith

-- ---- all units

abbrev all_weights : List NamedUnit → ℕ
all_weights [] = 0
all_weights (u ∷ us) = weights u.items + all_weights us

read_weigh : (program : Linked) (procs labels : ℕ) (us : List UnitTree) → AreRead us → all_weights (units_from procs labels us) ≤ over_units program token_count (units_from procs labels us)
read_weigh program procs labels [] read = omega arith
read_weigh program procs labels (u ∷ us) read =
    let own = All-head (λ v. (tokens : List Lexeme) × (Derives tokens v × (length v.places ≡ suc (length tokens)))) u us read in
    let a : weights (items_of u) ≤ length own.0 = unit_weighs u own.0 own.1.0 in let b : length u.places ≡ suc (length own.0) = own.1.1 in
    let more = units_from (procs + sum_of procs_in (items_of u)) (labels + sum_of labels_in (items_of u)) us in
    let c : all_weights more ≤ over_units program token_count more =
    read_weigh program (procs + sum_of procs_in (items_of u)) (labels + sum_of labels_in (items_of u)) us (All-tail (λ v. (tokens : List Lexeme) × (Derives tokens v × (length v.places ≡ suc (length tokens)))) u us read) in
    omega arith

lighter : (f g : Item → ℕ) → ((i : Item) → f i ≤ g i) → (is : List (Within Item)) → sum_of f is ≤ sum_of g is
lighter f g each [] = omega arith
lighter f g each (i ∷ is) = let a : f i.what ≤ g i.what = each i.what in let b : sum_of f is ≤ sum_of g is = lighter f g each is in omega arith

label_light : (form : DatumForm) (token : ℕ) → labels_in (items.Datum record { token = token; form = form }) ≤ 1
label_light (data_forms.Label name) token = omega arith
label_light (data_forms.Align k) token = omega arith
label_light (data_forms.Data t n i) token = omega arith

labels_light : (i : Item) → labels_in i ≤ weight i
labels_light (items.Decl d) = omega arith
labels_light (items.Proc p) = omega arith
labels_light (items.Datum d) = label_light d.form d.token
labels_light (items.Span' first key value size inner) = omega arith

datum_light : (form : DatumForm) (token : ℕ) → datums_in (items.Datum record { token = token; form = form }) ≤ 1
datum_light (data_forms.Label name) token = omega arith
datum_light (data_forms.Align k) token = omega arith
datum_light (data_forms.Data t n i) token = omega arith

datums_light : (i : Item) → datums_in i ≤ weight i
datums_light (items.Decl d) = omega arith
datums_light (items.Proc p) = omega arith
datums_light (items.Datum d) = datum_light d.form d.token
datums_light (items.Span' first key value size inner) = omega arith

labels_weigh : (us : List NamedUnit) → counted_in labels_in us ≤ all_weights us
labels_weigh [] = omega arith
labels_weigh (u ∷ us) = let a : sum_of labels_in u.items ≤ weights u.items = lighter labels_in weight labels_light u.items in
    let b : counted_in labels_in us ≤ all_weights us = labels_weigh us in omega arith

among_light : (is : List (Within Item)) → datums_among is ≤ weights is
among_light [] = omega arith
among_light (i ∷ is) = let a : datums_in i.what ≤ weight i.what = datums_light i.what in let b : datums_among is ≤ weights is = among_light is in omega arith

datums_weigh : (us : List NamedUnit) → all_datums us ≤ all_weights us
datums_weigh [] = omega arith
datums_weigh (u ∷ us) = let a : datums_among u.items ≤ weights u.items = among_light u.items in let b : all_datums us ≤ all_weights us = datums_weigh us in omega arith

one_proc : (i : Item) → ◌≤◌ (elim i as (λ x. ℕ) [ items.Proc p ↦ p.past - p.name.token | _ ↦ 0 ]) (weight i)
one_proc (items.Decl d) = omega arith
one_proc (items.Proc p) = omega arith
one_proc (items.Datum d) = omega arith
one_proc (items.Span' first key value size inner) = omega arith

abbrev of_procs : List SpanTree → ProcTree → ℕ
of_procs around p = p.past - p.name.token

procs_among : (is : List (Within Item)) → over_procs of_procs is ≤ weights is
procs_among [] = omega arith
procs_among (i ∷ is) =
    let a : ◌≤◌ (elim i.what as (λ x. ℕ) [ items.Proc p ↦ p.past - p.name.token | _ ↦ 0 ]) (weight i.what) = one_proc i.what in
    let b : over_procs of_procs is ≤ weights is = procs_among is in omega arith

procs_weigh : (program : Linked) (us : List NamedUnit) → over_units program (λ names u. over_procs of_procs u.items) us ≤ all_weights us
procs_weigh program [] = omega arith
procs_weigh program (u ∷ us) = let a : over_procs of_procs u.items ≤ weights u.items = procs_among u.items in
    let b : over_units program (λ names v. over_procs of_procs v.items) us ≤ all_weights us = procs_weigh program us in omega arith

-- procedures, labels and exports together
kinds_weigh : (i : Item) → (elim i as (λ x. ℕ) [ items.Proc p ↦ p.past - p.name.token | _ ↦ 0 ]) + 2 * export_count i + labels_in i ≤ weight i
kinds_weigh (items.Decl d) = omega arith
kinds_weigh (items.Proc p) = omega arith
kinds_weigh (items.Datum d) = omega (arith, label_light d.form d.token)
kinds_weigh (items.Span' first key value size inner) = omega arith

kinds_among : (is : List (Within Item)) → over_procs of_procs is + 2 * sum_of export_count is + sum_of labels_in is ≤ weights is
kinds_among [] = omega arith
kinds_among (i ∷ is) = omega (arith, kinds_weigh i.what, kinds_among is)

kinds_together : (program : Linked) (us : List NamedUnit) →
    over_units program (λ names u. over_procs of_procs u.items) us + 2 * counted_in export_count us + counted_in labels_in us ≤ all_weights us
kinds_together program [] = omega arith
kinds_together program (u ∷ us) = omega (arith, kinds_among u.items, kinds_together program us)

few_tokens : (us : List UnitTree) → AreAccepted us → AreRead us → all_weights (named_units us) ≤ 1000000
few_tokens us accepted read =
    let ns = named_units us in let program = program_of ns in let sums = (unbroken us accepted).sums in
    let few : over_units program token_count ns ≤ 1000000 =
    leb-true (over_units program token_count ns) 1000000 (and_parts _ _ (and_parts _ _ (and_parts _ _ (and_parts _ _ (and_parts _ _ (and_parts _ _ sums).0).0).0).0).0).1 in
    let all : all_weights ns ≤ over_units program token_count ns = read_weigh program 0 0 us read in omega arith

in_all : (tokens procs names exports labels many most : ℕ) → tokens ≡ procs → names ≤ exports → labels ≡ many → procs + 2 * exports + many ≤ most → most ≤ 1000000 →
    tokens + 2 * names + labels ≤ 1000000
in_all tokens procs names exports labels many most t n l together few = omega arith

pub room_is_kept : RoomIsKept
room_is_kept us accepted read =
    let ns = named_units us in let program = program_of ns in
    let tokens : sum_by (λ q. q.tokens) (meaning_of us).procs ≡ over_units program (λ names u. over_procs of_procs u.items) ns =
    units_sum (λ q. q.tokens) (λ names around p. of_procs around p) (λ names unit around p. refl) program 0 ns in
    let names : links (meaning_of us).labels ≤ counted_in export_count ns = links_few us accepted in
    let labels : length (meaning_of us).labels ≡ counted_in labels_in ns = labels_length 0 0 0 us in
    in_all _ _ _ _ _ _ _ tokens names labels (kinds_together program ns) (few_tokens us accepted read)

pub counts_are_kept : CountsAreKept
counts_are_kept us accepted read =
    let ns = named_units us in let program = program_of ns in
    let total : all_weights ns ≤ 1000000 = few_tokens us accepted read in
    let tokens : sum_by (λ q. q.tokens) (meaning_of us).procs ≡ over_units program (λ names u. over_procs of_procs u.items) ns =
    units_sum (λ q. q.tokens) (λ names around p. of_procs around p) (λ names unit around p. refl) program 0 ns in
    let own : over_units program (λ names u. over_procs of_procs u.items) ns ≤ all_weights ns = procs_weigh program ns in
    let datums : length (meaning_of us).datums ≡ all_datums ns = datums_length program ns in let light : all_datums ns ≤ all_weights ns = datums_weigh ns in
    let labels : length (meaning_of us).labels ≡ counted_in labels_in ns = labels_length 0 0 0 us in let marks : counted_in labels_in ns ≤ all_weights ns = labels_weigh ns in
    record {
      tokens = let h : sum_by (λ q. q.tokens) (meaning_of us).procs ≤ 1000000 = within_few _ _ _ tokens own total in h;
      datum_count = under_limit _ _ _ datums light total;
      label_count = under_limit _ _ _ labels marks total;
    }
