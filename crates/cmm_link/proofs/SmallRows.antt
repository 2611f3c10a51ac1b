-- A worked row: what is required of a program, its frames, its data and its code is met by a small one, and these are the rows of its image.
--     export t as "u"; register bits32 g; section "data" { t: bits64 { main }; }
--     main() { bits64 x; x = main(); span 5 main + 4 { x = main() also returns to k also unwinds to k; } return (x); continuation k(x): return (x); }
use Rattle.std.proofs.Common.{◌≡◌, ◌<◌, ◌^◌, All, length, ℕ, zero, suc, false, IsTrue, List, [], ◌∷◌, None, Some, refl, arith, lit<, lit≤}
use Rattle.std.specs.Int.{w32, to_le_bytes}
use Rattle.std.specs.List.{flat_map}
use Rattle.std.proofs.lemmas.List.Elements.{All-cons, All-nil}
use Rattle.cmm_words.specs.declared.constant.Constant.TheVariants.{Code}
use Rattle.cmm_words.specs.declared.width.Width.TheVariants.{W32, W64}
use Rattle.cmm_program.proofs.Shared.{opened}
use Rattle.cmm_program.proofs.Shared.{call_site, code, datum, global, is, local, procedure, program, program_in_range}
use Rattle.cmm_program.specs.declared.procedure.Proc.{Proc}
use Rattle.cmm_program.specs.declared.procedure.Site.{Site}
use Rattle.cmm_program.specs.declared.program.Label.{Label}
use Rattle.cmm_program.specs.declared.program.Program.{Program}
use Rattle.cmm_program.specs.declared.statement.Form.TheVariants as form
use Rattle.cmm_program.specs.declared.statement.Statement.{Statement}
use Rattle.cmm_program.specs.InRange.{IsInRange}
use Rattle.cmm_chain.specs.declared.frame.Frame.{Frame}
use Rattle.cmm_chain.specs.declared.frame.Location.TheVariants.{Slot}
use Rattle.cmm_located.specs.Layouts.{IsFrameOf}
use Rattle.cmm_data.specs.declared.layout.DataImage.{DataImage}
use Rattle.cmm_image.specs.declared.rows.LabelRow.{LabelRow}
use Rattle.cmm_image.specs.declared.rows.ProcRow.{ProcRow}
use Rattle.cmm_image.specs.declared.rows.SiteRow.{SiteRow}
use Rattle.cmm_image.specs.declared.rows.VariablePlace.TheVariants.{Dead}
use Rattle.std.proofs.lemmas.List.Sorted.{IsPermutation-refl}
use Rattle.std.specs.Prelude.{slice_index_or}
use Rattle.cmm_allocate.specs.declared.procedure.ProcedurePlaces.{ProcedurePlaces}
use Rattle.cmm_allocate.specs.Placing.{placement_rows}
use Rattle.cmm_unit_code.specs.declared.text.Text.{Text}
use Rattle.cmm_link.specs.Labels.{exports, names_ascend, row_named}
use Rattle.cmm_link.specs.Linked.{AreSitesOf, HaveFewSpans, IsDataOf}
use Rattle.cmm_image_machine.specs.Tables.{place_row_of}
use Rattle.cmm_link.specs.Rooms.{HasRoom}
use Rattle.cmm_link.specs.Rows.{procedure_rows, site_rows}
use Rattle.cmm_link.specs.inside.Values.{value_at}
use Rattle.cmm_tables.specs.Premises.{AreExactSets}
use Rattle.cmm_unit_code.specs.Texts.{AreDistinct, IsText, address_in}
use Rattle.cmm_link.specs.inside.Kept.{kept_after}
use Rattle.cmm_link.proofs.Images.{AreGiven}

-- ---- the program

abbrev body : List Statement
body =
    is 6 (form.Call 0 (code 0) [])
    ∷ is 14 (form.Call 1 (code 0) [])
    ∷ is 5 (form.Return 0 0 (local 0 ∷ []))
    ∷ is 6 (form.Continuation 0)
    ∷ is 5 (form.Return 0 0 (local 0 ∷ []))
    ∷ []

abbrev sites : List Site
sites = call_site (0 ∷ []) ∷ record (call_site (0 ∷ [])) { returns = 0 ∷ []; unwinds = 0 ∷ []; spans = (5, Code 0 4) ∷ [] } ∷ []

abbrev main : Proc
main = record (procedure (109 ∷ []) 50 0 1 sites body) { conts = record { params = 0 ∷ [] } ∷ [] }

abbrev table : Label
table = record { name = 116 ∷ []; links = (117 ∷ []) ∷ []; datum = 0; at_end = false }

abbrev p : Program
p = record (program (main ∷ [])) { datums = datum 8 8 W64 (Code 0 0 ∷ []) ∷ []; globals = global (103 ∷ []) W32 ∷ []; labels = table ∷ [] }

range : IsInRange p
unfolding opened
range = program_in_range p refl

-- ---- its frame, its data and its code

abbrev frame : Frame
frame = record { size = 32; return_at = 8; saved = []; pairs = 16 ∷ []; stack = [] }

abbrev places : List ProcedurePlaces
places = record { locals = Slot 0 ∷ []; frame = frame; live = record { before = []; sites = (false ∷ []) ∷ (false ∷ []) ∷ []; cuts = [] }; zeroed = [] } ∷ []

is_frame : IsFrameOf main (Slot 0 ∷ []) frame
unfolding opened
is_frame = record {
  placed = λ code is. rw is refl;
  laid = refl;
  locals = refl;
  registers = refl;
  clear = refl;
}

-- what is written by each exit is live at no site
are_exact : AreExactSets main ((false ∷ []) ∷ (false ∷ []) ∷ [])
unfolding opened
are_exact zero zero less low = refl
are_exact (suc zero) zero less low = refl
are_exact (suc (suc n)) v less low = absurd (omega (arith, less))
are_exact zero (suc v) less low = absurd (omega (arith, low))
are_exact (suc zero) (suc v) less low = absurd (omega (arith, low))

few_spans : HaveFewSpans p.procs
unfolding opened
few_spans =
    let few : Site → Type 0 = λ site. length site.spans < 2 ^ 16 in
    All-cons (λ (q : Proc). All few q.sites) main []
    (All-cons few (slice_index_or sites 0 (call_site [])) (slice_index_or sites 1 (call_site []) ∷ []) (lit< tt)
    (All-cons few (slice_index_or sites 1 (call_site [])) [] (lit< tt) (All-nil few)))
    (All-nil (λ (q : Proc). All few q.sites))

abbrev laid : DataImage
laid = record { bytes = 0 ∷ 0 ∷ 0 ∷ 0 ∷ 0 ∷ 0 ∷ 0 ∷ 0 ∷ []; addresses = 0x40000000 ∷ []; fixes = record { place = 0; procedure = 0; plus = 0 } ∷ [] }

is_data : IsDataOf p laid
unfolding opened
is_data = record { addresses = refl; bytes = λ placement. refl; size = refl; apart = (lit≤ tt, lit≤ tt) }

-- The run begins with the call of main, and has its end behind that. In main stand the first call, a word behind it, the second call, a word for its
-- exit and one behind, and what stands for all the rest. A cut to the continuation lands there.
abbrev words : List ℕ
words = 0x008000ef ∷ 0x00000073 ∷ 0x000000ef ∷ 0x0040006f ∷ 0xff9ff0ef ∷ 0x0080006f ∷ 0x0040006f ∷ 0x00000013 ∷ []

abbrev text : Text
text = record {
  code = flat_map (to_le_bytes w32) words;
  start = 0x10000;
  last = 0x10004;
  procedures = 0x10008 ∷ [];
  landings = (0x1001c ∷ []) ∷ [];
  sites = (0x1000c ∷ 0x10014 ∷ []) ∷ [];
}

second_site : (address_in text.sites 0 1 ≡ Some 0x10014) × (address_in text.sites 0 2 ≡ None) × (address_in text.landings 0 0 ≡ Some 0x1001c)
second_site = (refl, refl, refl)

distinct_sites : AreDistinct text.sites
distinct_sites zero zero zero zero address there also = (refl, refl)
distinct_sites zero zero zero (suc zero) address there also = absurd (let same : ◌≡◌ {A = ℕ} 0x1000c 0x10014 = cc in omega (arith, same))
distinct_sites zero zero zero (suc (suc n)) address there also = absurd (cc)
distinct_sites zero zero (suc zero) zero address there also = absurd (let same : ◌≡◌ {A = ℕ} 0x1000c 0x10014 = cc in omega (arith, same))
distinct_sites zero zero (suc zero) (suc zero) address there also = (refl, refl)
distinct_sites zero zero (suc zero) (suc (suc n)) address there also = absurd (cc)
distinct_sites zero zero (suc (suc m)) n address there also = absurd (cc)
distinct_sites zero (suc r) m n address there also = absurd (cc)
distinct_sites (suc q) r m n address there also = absurd (cc)

is_text : IsText p text
unfolding opened
is_text = record {
  size = refl;
  start = refl;
  last = refl;
  count = refl;
  procedures = refl;
  ascending = refl;
  counts = (refl, tt);
  landings = refl;
  sites = (((refl, refl), ((refl, refl), tt)), tt);
  distinct = distinct_sites;
}

room : HasRoom p text
unfolding opened
room = record { code = lit≤ tt; tokens = lit≤ tt }

given : AreGiven p places laid text
unfolding opened
given = record { range = range; frames = (is_frame, tt); laid = is_data; text = is_text; spans = few_spans; room = room; globals = refl }

-- ---- the rows of its image

abbrev row : ProcRow
row = record {
  code = 0x10008;
  name = 109 ∷ [];
  frame = 32;
  return_at = Some 8;
  saved = [];
  variables = record { width = W64; invariant = false; kind = [] } ∷ [];
  stack_labels = [];
  continuations = record { pair = 16; code = 0x1001c; parameters = record { 0 = 0 } ∷ [] } ∷ [];
}

the_rows : procedure_rows p.procs places text.procedures text.landings ≡ row ∷ []
unfolding opened
the_rows = refl

abbrev site_row : ℕ → ℕ → SiteRow
site_row address number = record {
  return_address = address;
  procedure = 0;
  number = number;
  never_returns = false;
  aborts = false;
  yield_values = None;
  results = W64 ∷ [];
  returns = [];
  unwinds = [];
  cuts = [];
  variables = Dead ∷ [];
  spans = [];
}

-- the second site is unwound to where the continuation is landed, and its span has the address of main and 4
abbrev second_row : SiteRow
second_row = record (site_row 0x10014 1) {
  returns = record { 0 = 0 } ∷ [];
  unwinds = record { continuation = record { 0 = 0 }; landing = 0x1001c } ∷ [];
  spans = record { token = 5; value = 0x1000c } ∷ [];
}

the_sites : site_rows (value_at text.procedures laid.addresses) p.procs places text.landings text.sites ≡ site_row 0x1000c 0 ∷ second_row ∷ []
unfolding opened
the_sites = refl

sites_ascend : AreSitesOf (site_row 0x1000c 0 ∷ second_row ∷ []) (site_row 0x1000c 0 ∷ second_row ∷ [])
sites_ascend = record { same = IsPermutation-refl (site_row 0x1000c 0 ∷ second_row ∷ []); ascending = refl }

the_exports : exports p ≡ record { name = 117 ∷ []; address = 0x40000000 } ∷ []
unfolding opened
the_exports = refl

the_placement : placement_rows places text.procedures ≡ place_row_of row ∷ []
unfolding opened
the_placement = refl

-- ---- names in order

abbrev named : ℕ → ℕ → LabelRow
named letter address = record { name = letter ∷ []; address = address }

-- of two rows with one name the first is kept
once : kept_after None (named 97 1 ∷ named 97 2 ∷ named 98 3 ∷ []) ≡ named 97 1 ∷ named 98 3 ∷ []
once = refl

-- a client finds the first as well
the_first : row_named (named 98 3 ∷ named 97 1 ∷ named 97 2 ∷ []) (97 ∷ []) ≡ Some (named 97 1)
the_first = refl

ascend : IsTrue (names_ascend ((97 ∷ []) ∷ (97 ∷ 0 ∷ []) ∷ (98 ∷ []) ∷ []))
ascend = refl

twice : names_ascend ((97 ∷ []) ∷ (97 ∷ []) ∷ []) ≡ false
twice = refl
