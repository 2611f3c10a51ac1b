-- The texts that data begins with are of bytes, as the tokens of a unit are.
use Rattle.std.proofs.Common.{◌≡◌, ℕ, suc, ◌+◌, ◌<◌, refl, sym, ap, ◌∙◌, Bool, true, false, List, [], ◌∷◌, ◌++◌, Option, Some, None, length, drop, All}
use Rattle.std.specs.Prelude.{map, flat_map}
use Rattle.std.specs.List.{list_all}
use Rattle.std.proofs.lemmas.Bool.{lt-ltb, and_from}
use Rattle.std.proofs.lemmas.List.{drop_at, length-map}
use Rattle.std.proofs.lemmas.List.Elements.{All-head, All-tail, All-same, All-drop, All-map, All-weaker}
use Rattle.std.proofs.lemmas.List.Folds.{list_all-append}
use Rattle.std.proofs.lemmas.List.Sums.{list_all-from_AllPass}
use Rattle.std.proofs.lemmas.Slice.Eq.{bytes_eq-Decides}
use Rattle.cmm_lexer.specs.declared.piece.Lexeme.{Lexeme}
use Rattle.cmm_lexer.specs.declared.piece.Lexeme.TheVariants as lexeme
use Rattle.cmm_lexer.specs.declared.keyword.Keyword.TheVariants.{Section as SectionWord, Span as SpanWord}
use Rattle.cmm_lexer.specs.declared.symbol.Symbol.TheVariants.{Semicolon, OpenBrace, CloseBrace}
use Rattle.cmm_lexer.specs.Laws.{AreBytes, IsOfBytes}
use Rattle.cmm_lexer.specs.Lexing.{Spelled, tokens_of}
use Rattle.cmm_lexer.proofs.Shared.{tokens_are_of_bytes}
use Rattle.cmm_ast.specs.declared.token.Text.{Text}
use Rattle.cmm_ast.specs.declared.unit.DatumForm.{DatumForm}
use Rattle.cmm_ast.specs.declared.unit.DatumForm.TheVariants as data_forms
use Rattle.cmm_ast.specs.declared.unit.Initial.{Initial}
use Rattle.cmm_ast.specs.declared.unit.Initial.TheVariants as initials
use Rattle.cmm_ast.specs.declared.unit.Item.{Item, Row_of-Item, end_of-Item, more_of-Item}
use Rattle.cmm_ast.specs.declared.unit.Item.TheVariants as items
use Rattle.cmm_ast.specs.declared.unit.TopLevel.{TopLevel}
use Rattle.cmm_ast.specs.declared.unit.TopLevel.TheVariants as tops
use Rattle.cmm_ast.specs.declared.unit.Unit.{Unit as UnitTree}
use Rattle.cmm_grammar.specs.Derivation.{Derives, at_start}
use Rattle.cmm_grammar.specs.Taking.{Reading, Takes, ◌⨾◌, token, is_text, keyword, symbol, here, opening, enclosed, braces, many}
use Rattle.cmm_grammar.specs.ExpressionGrammar.{text, type_name, whole, whole_prim}
use Rattle.cmm_grammar.specs.UnitGrammar.{count, initial, datum_form, item, item_row, top_level}
use Rattle.cmm_program.specs.InRange.{below}
use Rattle.cmm_static_semantics.specs.Items.{SpanTree, Within, item_within, items_within, top_items, items_of}
use Rattle.cmm_static_semantics.specs.Declarations.{units_from, procs_in, labels_in, sum_of}
use Rattle.cmm_elaboration.specs.Laws.{has_bytes, of_bytes, AreOfBytes, AreRead, IsReadFromBytes, ReadProgramsAreInRange, TextsAreBytes, TextsComeFromTokens}
use Rattle.cmm_elaboration.proofs.Derived.{middle}
use Rattle.cmm_elaboration.proofs.Steady.{Moves, IsSteady, steady_here, steady_keyword, steady_opening, steady_primary, steady_symbol, steady_text, steady_type, steady_whole}
use Rattle.cmm_elaboration.proofs.SteadyUnits.{steady_count, steady_item, steady_top}
use Rattle.cmm_elaboration.proofs.Together.{programs_are_in_range}

-- ---- what is taken from tokens of bytes

abbrev LeftOfBytes : Reading → Type 0
LeftOfBytes r = All IsOfBytes r.left

left_after : (r s : Reading) → Moves r s → LeftOfBytes r → LeftOfBytes s
left_after r s moves h =
    let n = length moves.suffix.0 in
    All-same IsOfBytes s.left (drop n r.left) (sym (ap (drop n) moves.suffix.1 ∙ drop_at moves.suffix.0 s.left n refl)) (All-drop IsOfBytes n r.left h)

-- as in 'Taken', where the tokens before were of bytes
record TakenBytes (p : Takes) : Type 0 where
  pub from : Reading
  pub to : Reading
  pub is : p from ≡ Some to
  pub left : LeftOfBytes from

front : (a b : Takes) → TakenBytes (a ⨾ b) → TakenBytes a
front a b t = let m = middle (a t.from) b t.to t.is in record { from = t.from; to = m.at_; is = m.first; left = t.left }

back : (a b : Takes) → IsSteady a → TakenBytes (a ⨾ b) → TakenBytes b
back a b steady t =
    let m = middle (a t.from) b t.to t.is in
    record { from = m.at_; to = t.to; is = m.next; left = left_after t.from m.at_ (steady t.from m.at_ m.first) t.left }

closed : (p : Takes) → TakenBytes (enclosed p) → TakenBytes p
closed p t =
    let m = middle (p t.from) (λ after. Some record after { open_brackets = t.from.open_brackets }) t.to t.is in
    record { from = t.from; to = m.at_; is = m.first; left = t.left }

inside_braces : (p : Takes) → TakenBytes (braces p) → TakenBytes p
inside_braces p t =
    front p (symbol CloseBrace)
    (back (opening (symbol OpenBrace)) (p ⨾ symbol CloseBrace) (steady_opening (symbol OpenBrace) (steady_symbol OpenBrace)) (closed (opening (symbol OpenBrace) ⨾ p ⨾ symbol CloseBrace) t))

-- ---- texts

abbrev IsByte : ℕ → Type 0
IsByte b = b < 256

below_all : (bytes : List ℕ) → AreBytes bytes → list_all (below 256) bytes ≡ true
below_all bytes h = list_all-from_AllPass (below 256) bytes (All-weaker IsByte (λ b. below 256 b ≡ true) (λ b. lt-ltb b 256) bytes h)

spelled_by : (bytes : List ℕ) (x : Lexeme) → IsOfBytes x → is_text bytes x ≡ true → AreBytes bytes
spelled_by bytes (lexeme.Text spelled) h is = All-same IsByte bytes spelled ((bytes_eq-Decides bytes spelled).0 is) h
spelled_by bytes x h is = let bad : false ≡ true = is in cc

passed : (test : Bool) (m s : Reading) → ◌≡◌ {A = Option Reading} (elim test [ true ↦ Some m | false ↦ None ]) (Some s) → test ≡ true
passed true m s is = refl
passed false m s is = let bad : None ≡ Some s = is in cc

first_left : (bytes : List ℕ) (left : List Lexeme) (r s : Reading) → All IsOfBytes left →
    ◌≡◌ {A = Option Reading} (elim left [ [] ↦ None | x ∷ xs ↦ elim (is_text bytes x) [ true ↦ Some record r { left = xs; taken = suc r.taken } | false ↦ None ] ]) (Some s) → AreBytes bytes
first_left bytes [] r s h is = let bad : None ≡ Some s = is in cc
first_left bytes (x ∷ xs) r s h is = spelled_by bytes x (All-head IsOfBytes x xs h) (passed (is_text bytes x) record r { left = xs; taken = suc r.taken } s is)

text_bytes : (t : Text) → TakenBytes (text t) → list_all (below 256) t.bytes ≡ true
text_bytes t read =
    let one = back (here t.token) (token (is_text t.bytes)) (steady_here t.token) read in
    below_all t.bytes (first_left t.bytes one.from.left one.from one.to one.left one.is)

-- ---- data

initial_bytes : (i : Initial) → TakenBytes (initial i) → has_bytes i ≡ true
initial_bytes initials.Zeros t = refl
initial_bytes (initials.Values values) t = refl
initial_bytes (initials.Text x) t = text_bytes x t

datum_bytes : (form : DatumForm) (token : ℕ) → TakenBytes (datum_form form) → of_bytes (items.Datum record { token = token; form = form }) ≡ true
datum_bytes (data_forms.Label name) token t = refl
datum_bytes (data_forms.Align bytes) token t = refl
datum_bytes (data_forms.Data width many_ first) token t =
    initial_bytes first (front (initial first) (symbol Semicolon) (back (count many_) (initial first ⨾ symbol Semicolon) (steady_count many_)
    (back (type_name width) (count many_ ⨾ initial first ⨾ symbol Semicolon) (steady_type width) t)))

-- ---- units

abbrev HaveBytes : List (Within Item) → Type 0
HaveBytes is = list_all (λ i. of_bytes i.what) is ≡ true

both_have : (xs ys : List (Within Item)) → HaveBytes xs → HaveBytes ys → HaveBytes (xs ++ ys)
both_have xs ys h k = list_all-append (λ i. of_bytes i.what) xs ys ∙ and_from (list_all (λ i. of_bytes i.what) xs) (list_all (λ i. of_bytes i.what) ys) h k

mutual
  item_bytes : (spans : List SpanTree) (i : Item) → TakenBytes (item i) → HaveBytes (item_within spans i)
  item_bytes spans (items.Decl d) t = refl
  item_bytes spans (items.Proc p) t = refl
  item_bytes spans (items.Datum d) t = and_from (of_bytes (items.Datum d)) true (datum_bytes d.form d.token (back (here d.token) (datum_form d.form) (steady_here d.token) t)) refl
  item_bytes spans (items.Span' first key value size inside) t =
      items_bytes (record { key = key; value = value } ∷ spans) _ inside (inside_braces (item_row inside) (back (whole value) (braces (item_row inside)) (steady_whole value)
      (back (whole_prim key) (whole value ⨾ braces (item_row inside)) (steady_primary key)
      (back (keyword SpanWord) (whole_prim key ⨾ whole value ⨾ braces (item_row inside)) (steady_keyword SpanWord)
      (back (here first) (keyword SpanWord ⨾ whole_prim key ⨾ whole value ⨾ braces (item_row inside)) (steady_here first) t)))))

  items_bytes : (spans : List SpanTree) (n : _) (row : Row_of-Item n) → TakenBytes (item_row row) → HaveBytes (items_within spans row)
  items_bytes spans n end_of-Item t = refl
  items_bytes spans n (more_of-Item {n = m} i rest) t =
      both_have (item_within spans i) (items_within spans rest) (item_bytes spans i (front (item i) (item_row rest) t)) (items_bytes spans m rest (back (item i) (item_row rest) (steady_item i) t))

section_bytes : (is : List Item) → TakenBytes (many item is) → HaveBytes (flat_map (item_within []) is)
section_bytes [] t = refl
section_bytes (i ∷ is) t =
    both_have (item_within [] i) (flat_map (item_within []) is) (item_bytes [] i (front (item i) (many item is) t)) (section_bytes is (back (item i) (many item is) (steady_item i) t))

top_bytes : (x : TopLevel) → TakenBytes (top_level x) → HaveBytes (top_items x)
top_bytes (tops.Section s) t =
    section_bytes s.items (inside_braces (many item s.items) (back (text s.name) (braces (many item s.items)) (steady_text s.name)
    (back (keyword SectionWord) (text s.name ⨾ braces (many item s.items)) (steady_keyword SectionWord)
    (back (here s.token) (keyword SectionWord ⨾ text s.name ⨾ braces (many item s.items)) (steady_here s.token) t))))
top_bytes (tops.Decl d) t = refl
top_bytes (tops.Proc p) t = refl

tops_bytes : (ts : List TopLevel) → TakenBytes (many top_level ts) → HaveBytes (flat_map top_items ts)
tops_bytes [] t = refl
tops_bytes (x ∷ ts) t =
    both_have (top_items x) (flat_map top_items ts) (top_bytes x (front (top_level x) (many top_level ts) t)) (tops_bytes ts (back (top_level x) (many top_level ts) (steady_top x) t))

unit_bytes : (u : UnitTree) (tokens : List Lexeme) → Derives tokens u → All IsOfBytes tokens → HaveBytes (items_of u)
unit_bytes u tokens d h = tops_bytes u.parts (record { from = at_start tokens; to = d.after; is = d.takes; left = h })

abbrev FromTokens : UnitTree → Type 0
FromTokens u = (tokens : List Lexeme) × (Derives tokens u × All IsOfBytes tokens)

units_bytes : (procs labels : ℕ) (us : List UnitTree) → AreOfBytes us → list_all (λ u. list_all (λ i. of_bytes i.what) u.items) (units_from procs labels us) ≡ true
units_bytes procs labels [] read = refl
units_bytes procs labels (u ∷ us) read =
    let d : FromTokens u = All-head FromTokens u us read in
    and_from (list_all (λ i. of_bytes i.what) (items_of u)) _ (unit_bytes u d.0 d.1.0 d.1.1)
    (units_bytes (procs + sum_of procs_in (items_of u)) (labels + sum_of labels_in (items_of u)) us (All-tail FromTokens u us read))

pub texts_are_bytes : TextsComeFromTokens
texts_are_bytes us read = units_bytes 0 0 us read

-- ---- units that are read from bytes

abbrev WithPlaces : UnitTree → Type 0
WithPlaces u = (tokens : List Lexeme) × (Derives tokens u × (length u.places ≡ suc (length tokens)))

with_places : (u : UnitTree) → IsReadFromBytes u → WithPlaces u
with_places u read =
    let lexemes = map (λ (t : Spelled). t.lexeme) (tokens_of read.bytes) in
    (lexemes, (read.derives, read.places ∙ ap (λ n. suc n) (sym (length-map (tokens_of read.bytes) (λ (t : Spelled). t.lexeme)))))

from_tokens : (u : UnitTree) → IsReadFromBytes u → FromTokens u
from_tokens u read =
    let lexemes = map (λ (t : Spelled). t.lexeme) (tokens_of read.bytes) in
    (lexemes, (read.derives, All-map IsOfBytes (λ (t : Spelled). t.lexeme) (tokens_of read.bytes) (tokens_are_of_bytes read.bytes read.are_bytes)))

pub are_read : (us : List UnitTree) → All IsReadFromBytes us → AreRead us
are_read us read = All-weaker IsReadFromBytes WithPlaces with_places us read

pub read_texts_are_bytes : (us : List UnitTree) → All IsReadFromBytes us → TextsAreBytes us
read_texts_are_bytes us read = texts_are_bytes us (All-weaker IsReadFromBytes FromTokens from_tokens us read)

pub read_programs_are_in_range : ReadProgramsAreInRange
read_programs_are_in_range us accepted read = programs_are_in_range us accepted (are_read us read) (read_texts_are_bytes us read)
