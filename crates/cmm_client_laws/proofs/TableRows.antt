-- Worked rows: the tables of two images tell of their programs. The first has a cut, an alternate return and an unwinding; in the second a local stands
-- in a callee-saves register that two younger frames have saved.
use Rattle.std.proofs.Common.{◌≡◌, ℕ, zero, suc, ◌+◌, ◌-◌, ◌*◌, ◌<◌, ◌≤◌, ◌==◌, true, false, List, [], ◌∷◌, map, length, Option, Some, None, refl, sym, ap, subst, arith}
use Rattle.std.specs.Prelude.{codes, nat_le, nat_lt, replicate, slice_get, slice_index_or}
use Rattle.std.specs.List.{All, list_all}
use Rattle.std.proofs.lemmas.Bool.{and_parts}
use Rattle.std.proofs.lemmas.Bool.Decides.{nat_tests}
use Rattle.std.proofs.lemmas.List.{length-map}
use Rattle.std.proofs.lemmas.Option.{same_Some}
use Rattle.cmm_words.specs.declared.operators.Op2.TheVariants.{Add}
use Rattle.cmm_words.specs.declared.width.Width.TheVariants.{W64}
use Rattle.cmm_script.specs.Walk.{Activation}
use Rattle.rv_table.specs.Machine.{State, stored}
use Rattle.cmm_program.specs.declared.expression.Expression.TheVariants as expression
use Rattle.cmm_program.specs.declared.statement.Form.{Form}
use Rattle.cmm_program.specs.declared.statement.Form.TheVariants as form
use Rattle.cmm_program.specs.declared.procedure.Cont.{Cont}
use Rattle.cmm_program.specs.declared.procedure.Proc.{Proc}
use Rattle.cmm_program.specs.declared.procedure.Site.{Site}
use Rattle.cmm_program.specs.declared.procedure.VarInfo.{VarInfo}
use Rattle.cmm_program.specs.Frames.{procedure_at}
use Rattle.cmm_program.specs.State.{Setting, stack_top}
use Rattle.cmm_program.proofs.Shared as sample
use Rattle.cmm_program.proofs.Shared.{opened, continuation, call_site, yield_site, procedure, program, frame, frame_with, setting, no_client}
use Rattle.cmm_chain.specs.declared.frame.Frame.{Frame}
use Rattle.cmm_chain.specs.declared.frame.Location.{Location}
use Rattle.cmm_chain.specs.declared.frame.Location.TheVariants.{Slot, Saved, Temp}
use Rattle.cmm_image.specs.declared.parts.ImageParts.{ImageParts}
use Rattle.cmm_image.specs.declared.rows.ContinuationRow.{ContinuationRow}
use Rattle.cmm_image.specs.declared.rows.ProcRow.{ProcRow}
use Rattle.cmm_image.specs.declared.rows.SiteRow.{SiteRow}
use Rattle.cmm_image.specs.declared.rows.VariablePlace.{VariablePlace}
use Rattle.cmm_image.specs.declared.rows.VariablePlace.TheVariants as place
use Rattle.cmm_image.specs.declared.rows.VariableRow.{VariableRow}
use Rattle.cmm_image.specs.ImageFormat.{procedure_at as row_at}
use Rattle.cmm_image.specs.InFrames.{KeepsFrame}
use Rattle.cmm_image.specs.Places.{IsPlace}
use Rattle.cmm_image_machine.specs.Laws.{KeepFrames}
use Rattle.cmm_image_machine.specs.Walks.{chain_walk}
use Rattle.cmm_emit_laws.specs.Represented.{stack_region}
use Rattle.cmm_emit_laws.specs.Words.{Symbols}
use Rattle.cmm_located.specs.Compiled.{Compiled}
use Rattle.cmm_client_laws.specs.Rows.{HaveLabelRows, HaveRows, site_row}
use Rattle.cmm_tables.specs.ProcedureRows.{saved_row}
use Rattle.cmm_image_machine.specs.Tables.{variable_row}
use Rattle.cmm_client_laws.specs.Tables.{HaveTables, IsProcedureRow}
use Rattle.cmm_client_laws.proofs.Rows.{finds_that, procedure_is_told, tables_are_told}

-- ---- images

abbrev variable : VariableRow
variable = record { width = W64; invariant = false; kind = [] }

abbrev continuation_at : ℕ → ℕ → ℕ → ContinuationRow
continuation_at pair code parameter = record { pair = pair; code = code; parameters = record { 0 = parameter } ∷ [] }

abbrev row : ℕ → List ℕ → ℕ → List (ℕ × ℕ) → List VariableRow → List ContinuationRow → ProcRow
row code name size saved variables continuations = record {
  code = code;
  name = name;
  frame = size;
  return_at = Some 8;
  saved = map (λ word. record { register = word.0; offset = word.1 }) saved;
  variables = variables;
  stack_labels = [];
  continuations = continuations;
}

-- a call whose one result is a word, without exits
abbrev call_row : ℕ → ℕ → List VariablePlace → SiteRow
call_row return_address procedure variables = record {
  return_address = return_address;
  procedure = procedure;
  number = 0;
  never_returns = false;
  aborts = false;
  yield_values = None;
  results = W64 ∷ [];
  returns = [];
  unwinds = [];
  cuts = [];
  variables = variables;
  spans = [];
}

abbrev yield_row : ℕ → ℕ → List VariablePlace → SiteRow
yield_row return_address procedure variables = record (call_row return_address procedure variables) { yield_values = Some 1 }

abbrev image : List ProcRow → List SiteRow → ImageParts
image procs sites = record { version = 1; code = []; initial = []; start = 0x10000; last = 0x10010; main = 0; procs = procs; sites = sites; labels = []; globals = [] }

-- ---- compiled programs, as far as tables tell of them

abbrev laid : ℕ → List (ℕ × ℕ) → List ℕ → Frame
laid size saved pairs = record { size = size; return_at = 8; saved = saved; pairs = pairs; stack = [] }

abbrev placed : List Frame → List (List Location) → Compiled
placed frames places = record {
  graphs = [];
  plan = record {
    is_procedure = λ q. false;
    frame = λ q. slice_index_or frames q (laid 16 [] []);
    place = λ q v. slice_index_or (slice_index_or places q []) v (Temp 28);
    live = λ q site v. false;
  };
  zeroed = λ q. [];
}

abbrev symbols : Symbols
symbols = record { return_to = λ q site. 0x10020 + 0x100 * q; landing_of = λ q k. 0x10030 + 0x100 * q + 16 * k; last_return = 0x10010 }

-- ---- sites keep inside frames, where all do

abbrev AllKeep : ImageParts → List SiteRow → Type 0
AllKeep i [] = Unit {0}
AllKeep i (site ∷ sites) = KeepsFrame (row_at i.procs site.procedure) site × AllKeep i sites

keeps_at : (i : ImageParts) (sites : List SiteRow) (k : ℕ) (site : SiteRow) → AllKeep i sites → slice_get sites k ≡ Some site → KeepsFrame (row_at i.procs site.procedure) site
keeps_at i [] k site all is = absurd (cc)
keeps_at i (first ∷ sites) zero site all is = subst (λ (s : SiteRow). KeepsFrame (row_at i.procs s.procedure) s) (same_Some first site is) all.0
keeps_at i (first ∷ sites) (suc k) site all is = keeps_at i sites k site all.1 is

keep : (i : ImageParts) → AllKeep i i.sites → KeepFrames i
keep i all address site is =
    let found = finds_that (λ s. s.return_address == address) i.sites site is in keeps_at i i.sites found.place site all found.there

-- ---- cut and alternate return
--     main() { bits64 v, w; w = 1; v = c(k, 2) also cuts to k also returns to a; l: return (v + w); continuation k(v): goto l; continuation a(v): goto l; }
--     c(bits64 j, i) { bits64 y; y = yield(3) also unwinds to u; cut to j(y) also cuts to u; continuation u(y): return <0/1> (i + y); }
-- main may be cut to: it saves every callee-saves register, and w is in a slot. j is in register 9, and i in register 18.

abbrev main-proc : Proc
main-proc = record (procedure (codes "main") 30 0 2 (record (call_site (0 ∷ [])) { returns = 1 ∷ []; cuts = 0 ∷ [] } ∷ [])
    (sample.is 5 (sample.assign 1 (sample.num 1))
    ∷ sample.is 5 (form.Call 0 (sample.code 1) (expression.Continuation 0 ∷ sample.num 2 ∷ []))
    ∷ sample.is 5 (form.Label 0)
    ∷ sample.is 5 (form.Return 0 0 (sample.op Add (sample.local 0) (sample.local 1) ∷ []))
    ∷ sample.is 5 (form.Continuation 0)
    ∷ sample.is 5 (form.Goto 0)
    ∷ sample.is 5 (form.Continuation 1)
    ∷ sample.is 5 (form.Goto 0)
    ∷ [])) { conts = continuation (0 ∷ []) ∷ continuation (0 ∷ []) ∷ [] }

abbrev c-proc : Proc
c-proc = record (procedure (codes "c") 20 2 3 (record (yield_site (2 ∷ []) 1) { unwinds = 0 ∷ [] } ∷ [])
    (sample.is 5 (form.Yield 0 (sample.num 3 ∷ []))
    ∷ sample.is 5 (form.Cut (sample.local 0) (sample.local 2 ∷ []) (0 ∷ []))
    ∷ sample.is 5 (form.Continuation 0)
    ∷ sample.is 5 (form.Return 0 1 (sample.op Add (sample.local 1) (sample.local 2) ∷ []))
    ∷ [])) { conts = continuation (2 ∷ []) ∷ [] }

abbrev exits : Setting
exits = setting (sample.sample (program (main-proc ∷ c-proc ∷ [])) (frame_with 144 (104 ∷ 120 ∷ []) [] ∷ frame_with 48 (32 ∷ []) [] ∷ [])) 4096 no_client

abbrev all_saved : List (ℕ × ℕ)
all_saved = (9, 16) ∷ (18, 24) ∷ (19, 32) ∷ (20, 40) ∷ (21, 48) ∷ (22, 56) ∷ (23, 64) ∷ (24, 72) ∷ (25, 80) ∷ (26, 88) ∷ (27, 96) ∷ []

abbrev exits_placed : Compiled
exits_placed = placed (laid 144 all_saved (104 ∷ 120 ∷ []) ∷ laid 48 ((9, 16) ∷ (18, 24) ∷ []) (32 ∷ []) ∷ [])
    ((Slot 0 ∷ Slot 136 ∷ []) ∷ (Saved 9 ∷ Saved 18 ∷ Slot 0 ∷ []) ∷ [])

abbrev main_site : SiteRow
main_site = record (call_row 0x10020 0 (place.Dead ∷ place.Slot 136 ∷ [])) { returns = record { 0 = 1 } ∷ []; cuts = record { 0 = 0 } ∷ [] }

abbrev c_site : SiteRow
c_site = record (yield_row 0x10120 1 (place.Register 9 ∷ place.Register 18 ∷ place.Dead ∷ [])) {
  unwinds = record { continuation = record { 0 = 0 }; landing = 0x10130 } ∷ [];
}

abbrev exits_image : ImageParts
exits_image = image (row 0x10010 (codes "main") 144 all_saved (variable ∷ variable ∷ []) (continuation_at 104 0x10030 0 ∷ continuation_at 120 0x10040 0 ∷ [])
    ∷ row 0x10100 (codes "c") 48 ((9, 16) ∷ (18, 24) ∷ []) (variable ∷ variable ∷ variable ∷ []) (continuation_at 32 0x10130 2 ∷ []) ∷ []) (main_site ∷ c_site ∷ [])

-- what is live at the sites, by the paths of the bodies
main_row_is : site_row exits exits_placed symbols 0 0 main-proc (slice_index_or main-proc.sites 0 (call_site [])) ≡ main_site
unfolding opened
main_row_is = refl

c_row_is : site_row exits exits_placed symbols 1 0 c-proc (slice_index_or c-proc.sites 0 (call_site [])) ≡ c_site
unfolding opened
c_row_is = refl

-- ---- the tables of the first

some_is : {A : Type 0} {x y : A} → Some x ≡ Some y → x ≡ y
some_is is = cc

main_lands : (k : ℕ) → k < 2 → symbols.landing_of 0 k ≡ slice_index_or (0x10030 ∷ 0x10040 ∷ []) k 0
main_lands zero less = refl
main_lands (suc zero) less = refl
main_lands (suc (suc k)) less = absurd (omega (arith, less))

main_few : (k : ℕ) (cont : Cont) → slice_get main-proc.conts k ≡ Some cont → length cont.params ≤ 64
main_few zero cont is = subst (λ (c : Cont). length c.params ≤ 64) (some_is is) (omega arith)
main_few (suc zero) cont is = subst (λ (c : Cont). length c.params ≤ 64) (some_is is) (omega arith)
main_few (suc (suc k)) cont is = absurd (cc (is))

c_lands : (k : ℕ) → k < 1 → symbols.landing_of 1 k ≡ slice_index_or (0x10130 ∷ []) k 0
c_lands zero less = refl
c_lands (suc k) less = absurd (omega (arith, less))

c_few : (k : ℕ) (cont : Cont) → slice_get c-proc.conts k ≡ Some cont → length cont.params ≤ 64
c_few zero cont is = subst (λ (c : Cont). length c.params ≤ 64) (some_is is) (omega arith)
c_few (suc k) cont is = absurd (cc (is))

abbrev HasRow : Setting → Compiled → ImageParts → ℕ → ℕ → Proc → Site → Type 0
HasRow s c i q n p site = (k : ℕ) × (slice_get i.sites k ≡ Some (site_row s c symbols q n p site))

-- a procedure with one site has its row
one_site : (s : Setting) (c : Compiled) (i : ImageParts) (q : ℕ) (p : Proc) (only : Site) → p.sites ≡ only ∷ [] → HasRow s c i q 0 p only → (n : ℕ) (r : Proc) (site : Site) →
    Some p ≡ Some r → slice_get r.sites n ≡ Some site → HasRow s c i q n r site
one_site s c i q p only sites has n r site is there = subst (λ (z : Proc). HasRow s c i q n z site) (some_is is) (by n (subst (λ (z : Proc). slice_get z.sites n ≡ Some site) (sym (some_is is)) there))
  where
    by : (n : ℕ) → slice_get p.sites n ≡ Some site → HasRow s c i q n p site
    by zero there = subst (λ (z : Site). HasRow s c i q 0 p z) (some_is (subst (λ (l : List Site). slice_get l 0 ≡ Some site) sites there)) has
    by (suc n) there = let never : None ≡ Some site = subst (λ (l : List Site). slice_get l (suc n) ≡ Some site) sites there in absurd (cc)

one_few : (p : Proc) (only : Site) → p.sites ≡ only ∷ [] → length only.results ≤ 64 → (n : ℕ) (r : Proc) (site : Site) → Some p ≡ Some r → slice_get r.sites n ≡ Some site → length site.results ≤ 64
one_few p only sites few n r site is there = by n (subst (λ (z : Proc). slice_get z.sites n ≡ Some site) (sym (some_is is)) there)
  where
    by : (n : ℕ) → slice_get p.sites n ≡ Some site → length site.results ≤ 64
    by zero there = subst (λ (z : Site). length z.results ≤ 64) (some_is (subst (λ (l : List Site). slice_get l 0 ≡ Some site) sites there)) few
    by (suc n) there = let never : None ≡ Some site = subst (λ (l : List Site). slice_get l (suc n) ≡ Some site) sites there in absurd (cc)

abbrev CutsThere : Proc → Site → Type 0
CutsThere p site = list_all (λ k. nat_lt k (length p.conts)) site.cuts ≡ true

one_cuts : (p : Proc) (only : Site) → p.sites ≡ only ∷ [] → CutsThere p only → (n : ℕ) (r : Proc) (site : Site) → Some p ≡ Some r → slice_get r.sites n ≡ Some site → CutsThere r site
one_cuts p only sites cuts n r site is there =
    subst (λ (z : Proc). CutsThere z site) (some_is is) (by n (subst (λ (z : Proc). slice_get z.sites n ≡ Some site) (sym (some_is is)) there))
  where
    by : (n : ℕ) → slice_get p.sites n ≡ Some site → CutsThere p site
    by zero there = subst (λ (z : Site). CutsThere p z) (some_is (subst (λ (l : List Site). slice_get l 0 ≡ Some site) sites there)) cuts
    by (suc n) there = let never : None ≡ Some site = subst (λ (l : List Site). slice_get l (suc n) ≡ Some site) sites there in absurd (cc)

no_labels : HaveLabelRows (program []) []
no_labels = record { each = λ k row is. absurd (cc (is)); every = λ name l is. absurd (cc (is)) }

abbrev main_only : Site
main_only = record (call_site (0 ∷ [])) { returns = 1 ∷ []; cuts = 0 ∷ [] }

abbrev c_only : Site
c_only = record (yield_site (2 ∷ []) 1) { unwinds = 0 ∷ [] }

main_has : HasRow exits exits_placed exits_image 0 0 main-proc main_only
unfolding opened
main_has = (0, refl)

c_has : HasRow exits exits_placed exits_image 1 0 c-proc c_only
unfolding opened
c_has = (1, refl)

exits_rows : HaveRows exits exits_placed symbols exits_image
exits_rows = record {
  procedures = procedures;
  sites = record { ascending = refl; each = each; few = few; cuts = cuts };
  labels = record { each = no_labels.each; every = no_labels.every };
  data_length = refl;
  last = refl;
}
  where
    procedures : (q : ℕ) (p : Proc) → procedure_at exits q ≡ Some p → IsProcedureRow p (exits_placed.plan.frame q) symbols q (row_at exits_image.procs q)
    procedures zero p is = subst (λ (z : Proc). IsProcedureRow z (exits_placed.plan.frame 0) symbols 0 (row_at exits_image.procs 0)) (some_is is)
        (procedure_is_told main-proc (exits_placed.plan.frame 0) symbols 0 0x10010 (0x10030 ∷ 0x10040 ∷ []) refl refl main_lands main_few)
    procedures (suc zero) p is = subst (λ (z : Proc). IsProcedureRow z (exits_placed.plan.frame 1) symbols 1 (row_at exits_image.procs 1)) (some_is is)
        (procedure_is_told c-proc (exits_placed.plan.frame 1) symbols 1 0x10100 (0x10130 ∷ []) refl refl c_lands c_few)
    procedures (suc (suc q)) p is = absurd (cc (is))

    each : (q n : ℕ) (p : Proc) (site : Site) → procedure_at exits q ≡ Some p → slice_get p.sites n ≡ Some site → HasRow exits exits_placed exits_image q n p site
    each zero n p site is there = one_site exits exits_placed exits_image 0 main-proc main_only refl main_has n p site is there
    each (suc zero) n p site is there = one_site exits exits_placed exits_image 1 c-proc c_only refl c_has n p site is there
    each (suc (suc q)) n p site is there = absurd (cc (is))

    few : (q n : ℕ) (p : Proc) (site : Site) → procedure_at exits q ≡ Some p → slice_get p.sites n ≡ Some site → length site.results ≤ 64
    few zero n p site is there = one_few main-proc main_only refl (omega arith) n p site is there
    few (suc zero) n p site is there = one_few c-proc c_only refl (omega arith) n p site is there
    few (suc (suc q)) n p site is there = absurd (cc (is))

    cuts : (q n : ℕ) (p : Proc) (site : Site) → procedure_at exits q ≡ Some p → slice_get p.sites n ≡ Some site → CutsThere p site
    cuts zero n p site is there = one_cuts main-proc main_only refl refl n p site is there
    cuts (suc zero) n p site is there = one_cuts c-proc c_only refl refl n p site is there
    cuts (suc (suc q)) n p site is there = absurd (cc (is))

-- words of a frame that lie inside
saved_inside : (size : ℕ) (saved : List (ℕ × ℕ)) → list_all (λ word. nat_le (word.1 + 8) size) saved ≡ true → All (λ r. r.offset + 8 ≤ size) (map saved_row saved)
saved_inside size saved inside k d less = by saved k inside (omega (arith, less, length-map saved saved_row))
  where
    by : (saved : List (ℕ × ℕ)) (k : ℕ) → list_all (λ word. nat_le (word.1 + 8) size) saved ≡ true → k < length saved → (slice_index_or (map saved_row saved) k d).offset + 8 ≤ size
    by [] k inside less = absurd (omega (arith, less))
    by (word ∷ rest) zero inside less = let both = and_parts (nat_le (word.1 + 8) size) _ inside in grind (arith, nat_tests, both.0)
    by (word ∷ rest) (suc k) inside less = let both = and_parts (nat_le (word.1 + 8) size) _ inside in by rest k both.1 (omega (arith, less))

exits_tables : HaveTables exits exits_placed symbols exits_image
exits_tables = tables_are_told exits exits_placed symbols exits_image (keep exits_image (
  record {
    size = omega arith;
    saves = refl;
    returns = omega arith;
    saved = saved_inside 144 all_saved refl;
    places = λ k d less. main_places k d less;
    count = refl;
  },
  (
    record {
      size = omega arith;
      saves = refl;
      returns = omega arith;
      saved = saved_inside 48 ((9, 16) ∷ (18, 24) ∷ []) refl;
      places = λ k d less. c_places k d less;
      count = refl;
    },
    tt,
  ),
)) exits_rows
  where
    main_places : (k : ℕ) (d : VariablePlace) → k < 2 → IsPlace 144 (slice_index_or main_site.variables k d)
    main_places zero d less = tt
    main_places (suc zero) d less = (omega arith, refl)
    main_places (suc (suc k)) d less = absurd (omega (arith, less))

    c_places : (k : ℕ) (d : VariablePlace) → k < 3 → IsPlace 48 (slice_index_or c_site.variables k d)
    c_places zero d less = refl
    c_places (suc zero) d less = refl
    c_places (suc (suc zero)) d less = tt
    c_places (suc (suc (suc k))) d less = absurd (omega (arith, less))

-- ---- a register that two younger frames have saved
--     main() { bits64 v, r; v = 41; r = f(); return (v + r); }
--     f() { bits64 w, x; w = 5; x = g(); return (w + x); }
--     g() { bits64 y, z; y = 7; z = yield(1); return (y + z); }
-- v, w and y are in register 9, which each procedure saves.

abbrev adding : List ℕ → ℕ → Site → Form → Proc
adding name number site waits = procedure name 20 0 2 (site ∷ [])
    (sample.is 5 (sample.assign 0 (sample.num number))
    ∷ sample.is 5 waits
    ∷ sample.is 5 (form.Return 0 0 (sample.op Add (sample.local 0) (sample.local 1) ∷ []))
    ∷ [])

abbrev main-adds : Proc
main-adds = adding (codes "main") 41 (call_site (1 ∷ [])) (form.Call 0 (sample.code 1) [])

abbrev f-adds : Proc
f-adds = adding (codes "f") 5 (call_site (1 ∷ [])) (form.Call 0 (sample.code 2) [])

abbrev g-yields : Proc
g-yields = adding (codes "g") 7 (yield_site (1 ∷ []) 1) (form.Yield 0 (sample.num 1 ∷ []))

abbrev saves : Setting
saves = setting (sample.sample (program (main-adds ∷ f-adds ∷ g-yields ∷ [])) (frame 32 ∷ frame 32 ∷ frame 32 ∷ [])) 4096 no_client

abbrev small : Frame
small = laid 32 ((9, 16) ∷ []) []

abbrev saves_placed : Compiled
saves_placed = placed (small ∷ small ∷ small ∷ []) ((Saved 9 ∷ Slot 0 ∷ []) ∷ (Saved 9 ∷ Slot 0 ∷ []) ∷ (Saved 9 ∷ Slot 0 ∷ []) ∷ [])

abbrev small_row : ℕ → List ℕ → ProcRow
small_row code name = row code name 32 ((9, 16) ∷ []) (variable ∷ variable ∷ []) []

abbrev in_nine : List VariablePlace
in_nine = place.Register 9 ∷ place.Dead ∷ []

abbrev saves_image : ImageParts
saves_image = image (small_row 0x10010 (codes "main") ∷ small_row 0x10100 (codes "f") ∷ small_row 0x10200 (codes "g") ∷ [])
    (call_row 0x10020 0 in_nine ∷ call_row 0x10120 1 in_nine ∷ yield_row 0x10220 2 in_nine ∷ [])

no_continuations : (p : Proc) (name : List ℕ) (q code : ℕ) → p.name ≡ name → p.conts ≡ [] → p.vars ≡ replicate 2 (sample.plain W64) → IsProcedureRow p small symbols q (small_row code name)
no_continuations p name q code named none vars = record {
  name = sym named;
  frame = refl;
  return_at = refl;
  saved = refl;
  variables = sym (ap (λ (l : List VarInfo). map variable_row l) vars);
  continuations = λ k cont is. let never : slice_get {X = Cont} [] k ≡ Some cont = subst (λ (l : List Cont). slice_get l k ≡ Some cont) none is in absurd (cc);
  no_more = λ k is. refl;
}

main_nine : HasRow saves saves_placed saves_image 0 0 main-adds (call_site (1 ∷ []))
unfolding opened
main_nine = (0, refl)

f_nine : HasRow saves saves_placed saves_image 1 0 f-adds (call_site (1 ∷ []))
unfolding opened
f_nine = (1, refl)

g_nine : HasRow saves saves_placed saves_image 2 0 g-yields (yield_site (1 ∷ []) 1)
unfolding opened
g_nine = (2, refl)

saves_rows : HaveRows saves saves_placed symbols saves_image
saves_rows = record {
  procedures = procedures;
  sites = record { ascending = refl; each = each; few = few; cuts = cuts };
  labels = record { each = no_labels.each; every = no_labels.every };
  data_length = refl;
  last = refl;
}
  where
    procedures : (q : ℕ) (p : Proc) → procedure_at saves q ≡ Some p → IsProcedureRow p (saves_placed.plan.frame q) symbols q (row_at saves_image.procs q)
    procedures zero p is = subst (λ (z : Proc). IsProcedureRow z small symbols 0 (row_at saves_image.procs 0)) (some_is is) (no_continuations main-adds (codes "main") 0 0x10010 refl refl refl)
    procedures (suc zero) p is = subst (λ (z : Proc). IsProcedureRow z small symbols 1 (row_at saves_image.procs 1)) (some_is is) (no_continuations f-adds (codes "f") 1 0x10100 refl refl refl)
    procedures (suc (suc zero)) p is =
        subst (λ (z : Proc). IsProcedureRow z small symbols 2 (row_at saves_image.procs 2)) (some_is is) (no_continuations g-yields (codes "g") 2 0x10200 refl refl refl)
    procedures (suc (suc (suc q))) p is = absurd (cc (is))

    each : (q n : ℕ) (p : Proc) (site : Site) → procedure_at saves q ≡ Some p → slice_get p.sites n ≡ Some site → HasRow saves saves_placed saves_image q n p site
    each zero n p site is there = one_site saves saves_placed saves_image 0 main-adds (call_site (1 ∷ [])) refl main_nine n p site is there
    each (suc zero) n p site is there = one_site saves saves_placed saves_image 1 f-adds (call_site (1 ∷ [])) refl f_nine n p site is there
    each (suc (suc zero)) n p site is there = one_site saves saves_placed saves_image 2 g-yields (yield_site (1 ∷ []) 1) refl g_nine n p site is there
    each (suc (suc (suc q))) n p site is there = absurd (cc (is))

    few : (q n : ℕ) (p : Proc) (site : Site) → procedure_at saves q ≡ Some p → slice_get p.sites n ≡ Some site → length site.results ≤ 64
    few zero n p site is there = one_few main-adds (call_site (1 ∷ [])) refl (omega arith) n p site is there
    few (suc zero) n p site is there = one_few f-adds (call_site (1 ∷ [])) refl (omega arith) n p site is there
    few (suc (suc zero)) n p site is there = one_few g-yields (yield_site (1 ∷ []) 1) refl (omega arith) n p site is there
    few (suc (suc (suc q))) n p site is there = absurd (cc (is))

    cuts : (q n : ℕ) (p : Proc) (site : Site) → procedure_at saves q ≡ Some p → slice_get p.sites n ≡ Some site → CutsThere p site
    cuts zero n p site is there = one_cuts main-adds (call_site (1 ∷ [])) refl refl n p site is there
    cuts (suc zero) n p site is there = one_cuts f-adds (call_site (1 ∷ [])) refl refl n p site is there
    cuts (suc (suc zero)) n p site is there = one_cuts g-yields (yield_site (1 ∷ []) 1) refl refl n p site is there
    cuts (suc (suc (suc q))) n p site is there = absurd (cc (is))

small_keeps : (site : SiteRow) (code : ℕ) (name : List ℕ) → site.variables ≡ in_nine → KeepsFrame (small_row code name) site
small_keeps site code name is = record {
  size = omega arith;
  saves = refl;
  returns = omega arith;
  saved = saved_inside 32 ((9, 16) ∷ []) refl;
  places = subst (λ (l : List VariablePlace). All (IsPlace 32) l) (sym is) (λ k d less. places k d less);
  count = ap (λ (l : List VariablePlace). length l) is;
}
  where
    places : (k : ℕ) (d : VariablePlace) → k < 2 → IsPlace 32 (slice_index_or in_nine k d)
    places zero d less = refl
    places (suc zero) d less = tt
    places (suc (suc k)) d less = absurd (omega (arith, less))

saves_tables : HaveTables saves saves_placed symbols saves_image
saves_tables = tables_are_told saves saves_placed symbols saves_image
    (keep saves_image (
      small_keeps (call_row 0x10020 0 in_nine) 0x10010 (codes "main") refl,
      (small_keeps (call_row 0x10120 1 in_nine) 0x10100 (codes "f") refl, (small_keeps (yield_row 0x10220 2 in_nine) 0x10200 (codes "g") refl, tt)),
    )) saves_rows

-- ---- its walk where g yields: y is still in register 9, w is in g's frame, and v in f's

abbrev word : ℕ → ℕ → (ℕ → ℕ) → ℕ → ℕ
word below value memory = stored memory (stack_top saves - below) 8 value

abbrev yielding : State
yielding = record {
  registers = λ r. slice_index_or (0 ∷ 0x10220 ∷ (stack_top saves - 96) ∷ 0 ∷ 0 ∷ 0 ∷ 0 ∷ 0 ∷ 0 ∷ 7 ∷ []) r 0;
  pc = 0;
  memory = word 88 0x10120 (word 80 5 (word 56 0x10020 (word 48 41 (word 24 0x10010 (λ a. 0)))));
}

abbrev values_of : Option (List Activation) → List (List (Option ℕ))
values_of (Some activations) = map (λ a. map (λ v. v.value) a.variables) activations
values_of None = []

its_walk : values_of (chain_walk saves_image (stack_region saves) yielding) ≡ (Some 7 ∷ None ∷ []) ∷ (Some 5 ∷ None ∷ []) ∷ (Some 41 ∷ None ∷ []) ∷ []
its_walk = refl
