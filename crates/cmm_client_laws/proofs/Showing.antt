-- What the tables show of an activation is what the walk over locations shows of it.
use Rattle.std.proofs.Common.{◌≡◌, ℕ, zero, suc, ◌+◌, ◌<◌, ◌^◌, ◌&&◌, Bool, true, false, List, [], ◌∷◌, map, length, Option, Some, None, refl, sym, ap, ◌∙◌, subst, arith}
use Rattle.std.specs.Prelude.{nat_lt, slice_get, slice_index_or}
use Rattle.std.specs.List.{AllZip, range_with_len}
use Rattle.std.proofs.lemmas.Bool.{and_from}
use Rattle.std.proofs.lemmas.Bool.Decides.{nat_tests}
use Rattle.std.proofs.lemmas.List.FromFn.{get_or-map-range_with_len}
use Rattle.std.proofs.lemmas.Option.{same_Some}
use Rattle.cmm_words.specs.declared.width.Width.{Width}
use Rattle.cmm_words.specs.declared.width.Width.TheVariants.{W8, W16, W32, W64}
use Rattle.cmm_words.specs.Widths.{bits}
use Rattle.cmm_words.specs.Words.{low_bits}
use Rattle.cmm_script.specs.Walk.{Shown, Spanned}
use Rattle.cmm_script.specs.Walk as walk
use Rattle.rv_table.specs.Machine.{Region, State, loaded}
use Rattle.cmm_program.specs.declared.procedure.Proc.{Proc}
use Rattle.cmm_program.specs.declared.procedure.Site.{Site}
use Rattle.cmm_program.specs.declared.procedure.VarInfo.{VarInfo}
use Rattle.cmm_words.specs.declared.constant.Constant.{Constant}
use Rattle.cmm_program.specs.Errors.{with_some}
use Rattle.cmm_program.specs.Frames.{Suspended, procedure_at, suspended_at}
use Rattle.cmm_program.specs.Layout.{constant_value}
use Rattle.cmm_program.specs.Liveness.{is_live_at}
use Rattle.cmm_program.specs.Memory.{Memory}
use Rattle.cmm_program.specs.State.{Setting, Activation}
use Rattle.cmm_program.specs.Walks as program
use Rattle.cmm_program.specs.Walks.{activation_shown, activations_shown, live_value, spans_shown}
use Rattle.cmm_chain.specs.declared.frame.Location.{Location}
use Rattle.cmm_chain.specs.declared.frame.Location.TheVariants.{Slot, Saved, Temp}
use Rattle.cmm_abi.specs.Registers.{is_callee_saves}
use Rattle.cmm_chain.specs.Contents.{Content, Number, Unknown}
use Rattle.cmm_chain.specs.Plans.{Plan, saved_at}
use Rattle.cmm_chain.specs.Chain.{Suspension}
use Rattle.cmm_chain.specs.Running.{Holdings}
use Rattle.cmm_chain.specs.Walks as chain
use Rattle.cmm_chain.specs.Walks.{Mark, Shows as ShowsSuspension, Spot, content_at, moved, shown_at, spot_of}
use Rattle.cmm_image.specs.declared.parts.ImageParts.{ImageParts}
use Rattle.cmm_image.specs.declared.rows.ProcRow.{ProcRow}
use Rattle.cmm_image.specs.declared.rows.SiteRow.{SiteRow}
use Rattle.cmm_image.specs.declared.rows.SpanRow.{SpanRow}
use Rattle.cmm_image.specs.declared.rows.VariablePlace.{VariablePlace}
use Rattle.cmm_image.specs.declared.rows.VariableRow.{VariableRow}
use Rattle.cmm_image.specs.ImageFormat.{procedure_at as row_at}
use Rattle.cmm_image_machine.specs.Frames.{Element, site_at}
use Rattle.cmm_abi.specs.Regions.{Place, word_at}
use Rattle.cmm_image_machine.specs.Walks.{element_shown, place_in, value_at, variables_shown}
use Rattle.cmm_emit_laws.specs.Words.{Symbols, Represents, RepresentsWords}
use Rattle.cmm_emit_laws.specs.Represented.{RepresentsHoldings, stack_region}
use Rattle.cmm_located.specs.Answering.{activation_of, number_shown}
use Rattle.cmm_located.specs.Compiled.{Compiled, Located}
use Rattle.cmm_image_machine.specs.Tables.{variable_row}
use Rattle.cmm_tables.specs.SiteRows.{place_while, span_row}
use Rattle.cmm_client_laws.specs.Tables.{HaveTables, IsProcedureRow, IsSiteRow}
use Rattle.cmm_client_laws.specs.Walked.{IsFoundAs, IsGhostOf, back_of, live_at, mark_to, marked, place_of, shown_plan}

abbrev walk_record : List ℕ → ℕ → List Spanned → List Shown → walk.Activation
walk_record name number spans variables = record { procedure = name; site = number; spans = spans; variables = variables }

-- ---- marks are of callee-saves registers

abbrev pub IsSpot : Spot → Type 0
IsSpot (chain.InRegister r) = is_callee_saves r ≡ true
IsSpot (chain.InStack a) = Unit {0}

abbrev pub AreSpots : Mark → Type 0
AreSpots m = (r : ℕ) → is_callee_saves r ≡ true → IsSpot (m.registers r)

abbrev pub AllSpots : List chain.Element → Type 0
AllSpots [] = Unit {0}
AllSpots (e ∷ es) = AreSpots e.mark × AllSpots es

spots_behind : (plan : Plan) (q : ℕ) (back : Content) (m : Mark) → AreSpots m → AreSpots (mark_to plan q back m)
spots_behind plan q back m spots r is = by (saved_at plan q r)
  where
    by : (o : Option ℕ) → IsSpot (elim o [ Some offset ↦ chain.InStack (m.at + offset) | None ↦ m.registers r ])
    by (Some offset) = tt
    by None = spots r is

pub all_spots : (plan : Plan) (suspended : List Suspension) (m : Mark) → AreSpots m → AllSpots (marked plan suspended m)
all_spots plan [] m spots = tt
all_spots plan (t ∷ older) m spots = (spots, all_spots plan older (mark_to plan t.procedure (back_of older) m) (spots_behind plan t.procedure (back_of older) m spots))

-- ---- words where something stands

pub word_is : (y : Symbols) (region : Region) (memory : Memory) (h : Holdings) (t : State) → RepresentsHoldings y region h t.registers → RepresentsWords y region memory h.contents t.memory →
    (spot : Spot) → IsSpot spot → Represents y (content_at h spot) (word_at t (place_of spot))
word_is y region memory h t holdings words (chain.InRegister r) is = holdings.kept r is
word_is y region memory h t holdings words (chain.InStack a) is = words.shown a

low_is : (w : Width) (n : ℕ) → n < 2 ^ bits w → low_bits w n ≡ n
low_is W8 n less = omega (arith, less)
low_is W16 n less = omega (arith, less)
low_is W32 n less = omega (arith, less)
low_is W64 n less = omega (arith, less)

pub live_is : (s : Setting) (q n v : ℕ) (p : Proc) → procedure_at s q ≡ Some p → is_live_at p n v ≡ true → v < length p.vars → live_at s q n v ≡ true
live_is s q n v p is alive less =
    let inside : nat_lt v (length p.vars) ≡ true = grind (arith, nat_tests, less) in
    ap (λ (o : Option Proc). elim o as (λ _. Bool) [ Some p ↦ is_live_at p n v && nat_lt v (length p.vars) | None ↦ false ]) is
    ∙ and_from (is_live_at p n v) (nat_lt v (length p.vars)) alive inside

pub get_less : {A : Type 0} (xs : List A) (n : ℕ) (x : A) → slice_get xs n ≡ Some x → n < length xs
get_less [] n x is = absurd (cc)
get_less (y ∷ ys) zero x is = omega arith
get_less (y ∷ ys) (suc n) x is = let less = get_less ys n x is in omega (arith, less)

-- ---- a list of variables

module _ (t : State) (x : Element) (p : Proc) (n : ℕ) (values : List ℕ) (places : ℕ → Location) where
  abbrev place : ℕ → VariablePlace
  place v = place_while (is_live_at p n v) (places v)

  variables_same : (k : ℕ) (infos : List VarInfo) →
      ((j : ℕ) (info : VarInfo) → slice_get infos j ≡ Some info → value_at t info.width (place_in x (place_while (is_live_at p n (k + j)) (places (k + j)))) ≡ live_value p n values (k + j)) →
      variables_shown t x (map variable_row infos) (map (λ v. place_while (is_live_at p n v) (places v)) (range_with_len k (length infos))) ≡ program.variables_shown p n values k infos
  variables_same k [] same = refl
  variables_same k (info ∷ infos) same =
      let none : k + 0 ≡ k = omega arith in
      let one : k + 1 ≡ suc k = omega arith in
      let first : value_at t info.width (place_in x (place_while (is_live_at p n k) (places k))) ≡ live_value p n values k =
      subst (λ (v : ℕ). value_at t info.width (place_in x (place_while (is_live_at p n v) (places v))) ≡ live_value p n values v) none (same 0 info refl) in
      let rest = variables_same (suc k) infos (λ j other is.
      let more : k + suc j ≡ suc k + j = omega arith in
      subst (λ (v : ℕ). value_at t other.width (place_in x (place_while (is_live_at p n v) (places v))) ≡ live_value p n values v) more (same (suc j) other is)) in
      ap (λ (o : Option ℕ). record { width = bits info.width; kind = info.kind; invariant = info.invariant; value = o }
      ∷ variables_shown t x (map variable_row infos) (map (λ v. place_while (is_live_at p n v) (places v)) (range_with_len (k + 1) (length infos)))) first
      ∙ ap (λ (j : ℕ). record { width = bits info.width; kind = info.kind; invariant = info.invariant; value = live_value p n values k }
      ∷ variables_shown t x (map variable_row infos) (map (λ v. place_while (is_live_at p n v) (places v)) (range_with_len j (length infos)))) one
      ∙ ap (λ (l : List Shown). record { width = bits info.width; kind = info.kind; invariant = info.invariant; value = live_value p n values k } ∷ l) rest

abbrev span_shown : SpanRow → Spanned
span_shown span = record { token = span.token; value = span.value }

abbrev span_of : Setting → ℕ × Constant → Spanned
span_of s span = record { token = span.0; value = constant_value s.program s.placement span.1 }

spans_same : (s : Setting) (spans : List (ℕ × Constant)) → map span_shown (map (span_row (constant_value s.program s.placement)) spans) ≡ map (span_of s) spans
spans_same s [] = refl
spans_same s (span ∷ spans) = ap (λ (l : List Spanned). span_of s span ∷ l) (spans_same s spans)

-- ---- an activation

module _ (s : Setting) (c : Compiled) (y : Symbols) (i : ImageParts) (tables : HaveTables s c y i) (memory : Memory) (at : Located) (t : State)
    (holdings : RepresentsHoldings y (stack_region s) at.holdings t.registers) (words : RepresentsWords y (stack_region s) memory at.holdings.contents t.memory) where
  -- a live variable
  value_same : (mark : Mark) (x : Element) (l : Location) (w : Width) (n : ℕ) → AreSpots mark → x.frame ≡ mark.at → ((r : ℕ) → x.places r ≡ place_of (mark.registers r)) →
      n < 2 ^ bits w → shown_at at.holdings (spot_of mark l) ≡ Number n → value_at t w (place_in x (place_while true l)) ≡ Some n
  value_same mark x (Slot offset) w n spots frame places fits is =
      let shows : Represents y (at.holdings.contents (mark.at + offset)) (loaded t.memory (mark.at + offset) 8) = words.shown (mark.at + offset) in
      let there : loaded t.memory (mark.at + offset) 8 ≡ n = subst (λ (k : Content). Represents y k (loaded t.memory (mark.at + offset) 8)) is shows in
      ap (λ (k : ℕ). Some (low_bits w (loaded t.memory (k + offset) 8))) frame ∙ ap (λ (k : ℕ). Some (low_bits w k)) there ∙ ap (λ (k : ℕ). Some k) (low_is w n fits)
  value_same mark x (Saved r) w n spots frame places fits is = by (is_callee_saves r) refl
    where
      by : (b : Bool) → is_callee_saves r ≡ b → value_at t w (place_in x (place_while true (Saved r))) ≡ Some n
      by true saved =
          let found : content_at at.holdings (mark.registers r) ≡ Number n =
          sym (ap (λ (b : Bool). shown_at at.holdings (elim b as (λ _. Option Spot) [ true ↦ Some (mark.registers r) | false ↦ None ])) saved) ∙ is in
          let there : word_at t (place_of (mark.registers r)) ≡ n =
          subst (λ (k : Content). Represents y k (word_at t (place_of (mark.registers r)))) found (word_is y (stack_region s) memory at.holdings t holdings words (mark.registers r) (spots r saved)) in
          ap (λ (k : Place). Some (low_bits w (word_at t k))) (places r) ∙ ap (λ (k : ℕ). Some (low_bits w k)) there ∙ ap (λ (k : ℕ). Some k) (low_is w n fits)
      by false saved =
          let found : Unknown ≡ Number n =
          sym (ap (λ (b : Bool). shown_at at.holdings (elim b as (λ _. Option Spot) [ true ↦ Some (mark.registers r) | false ↦ None ])) saved) ∙ is in
          absurd (cc)
  value_same mark x (Temp r) w n spots frame places fits is = absurd (cc)

  module _ (a : Activation) (p : Suspension) (e : chain.Element) (x : Element) (ghost : IsGhostOf s a p) (shows : ShowsSuspension (shown_plan s c) at.holdings p e)
      (found : IsFoundAs i y e x) (spots : AreSpots e.mark) where
    is_there : procedure_at s e.procedure ≡ Some ghost.proc
    is_there = ap (procedure_at s) shows.procedure ∙ ghost.is_procedure

    row : (row : SiteRow) × (site_at i (y.return_to p.procedure p.site) ≡ Some row) × IsSiteRow s c y p.procedure p.site ghost.proc ghost.site row
    row = tables.sites p.procedure p.site ghost.proc ghost.site ghost.is_procedure ghost.is_site

    row_is : row.0 ≡ x.site
    row_is =
        let there : site_at i (y.return_to e.procedure e.site) ≡ Some row.0 =
        ap (λ (q : ℕ). site_at i (y.return_to q e.site)) shows.procedure ∙ ap (λ (n : ℕ). site_at i (y.return_to p.procedure n)) shows.site ∙ row.1 in
        same_Some row.0 x.site (sym there ∙ found.site)

    pub site_row : IsSiteRow s c y p.procedure p.site ghost.proc ghost.site x.site
    site_row = subst (λ (r : SiteRow). IsSiteRow s c y p.procedure p.site ghost.proc ghost.site r) row_is row.2

    pub procedure_row : IsProcedureRow ghost.proc (c.plan.frame p.procedure) y p.procedure x.procedure
    procedure_row =
        let same : row_at i.procs p.procedure ≡ x.procedure = ap (row_at i.procs) (sym shows.procedure) ∙ sym found.procedure in
        subst (λ (r : ProcRow). IsProcedureRow ghost.proc (c.plan.frame p.procedure) y p.procedure r) same (tables.procedures p.procedure ghost.proc ghost.is_procedure)

    abbrev values : List ℕ
    values = (activation_of s c at e).variables

    value_of : (v : ℕ) → v < length ghost.proc.vars → slice_index_or values v 0 ≡ number_shown (shown_at at.holdings (spot_of e.mark (c.plan.place p.procedure v)))
    value_of v less =
        ap (λ (o : Option Proc). slice_index_or (elim o as (λ _. List ℕ) [
          | Some p ↦ map (λ n. number_shown (shown_at at.holdings (spot_of e.mark (c.plan.place e.procedure n)))) (range_with_len 0 (length p.vars))
          | None ↦ []
        ]) v 0) is_there
        ∙ (get_or-map-range_with_len (λ n. number_shown (shown_at at.holdings (spot_of e.mark (c.plan.place e.procedure n)))) 0 (length ghost.proc.vars) v v 0 less (omega arith)
        ∙ ap (λ q. number_shown (shown_at at.holdings (spot_of e.mark (c.plan.place q v)))) shows.procedure)

    live_same : (v : ℕ) (info : VarInfo) → slice_get ghost.proc.vars v ≡ Some info → (b : Bool) → is_live_at ghost.proc p.site v ≡ b →
        value_at t info.width (place_in x (place_while b (c.plan.place p.procedure v))) ≡ elim b as (λ _. Option ℕ) [ true ↦ Some (slice_index_or values v 0) | false ↦ None ]
    live_same v info is true alive =
        let less = get_less ghost.proc.vars v info is in
        let there = shows.values v (live_is s p.procedure p.site v ghost.proc ghost.is_procedure alive less) in
        value_same e.mark x (c.plan.place p.procedure v) info.width (p.values v) spots found.frame found.places (ghost.fits v info is alive) there
        ∙ sym (ap (λ (k : ℕ). Some k) (value_of v less ∙ ap number_shown there))
    live_same v info is false alive = refl

    variable_same : (j : ℕ) (info : VarInfo) → slice_get ghost.proc.vars j ≡ Some info →
        value_at t info.width (place_in x (place_while (is_live_at ghost.proc p.site (0 + j)) (c.plan.place p.procedure (0 + j)))) ≡ live_value ghost.proc p.site values (0 + j)
    variable_same j info is =
        let none : j ≡ 0 + j = omega arith in
        subst (λ (k : ℕ). value_at t info.width (place_in x (place_while (is_live_at ghost.proc p.site k) (c.plan.place p.procedure k))) ≡ live_value ghost.proc p.site values k) none
        (live_same j info is (is_live_at ghost.proc p.site j) refl)

    abbrev pub here : Suspended
    here = record { activation = activation_of s c at e; procedure = ghost.proc; number = e.site; site = ghost.site }

    -- what is shown of it is the same
    pub element_same : element_shown t x ≡ activation_shown s here
    element_same =
        let name : x.procedure.name ≡ ghost.proc.name = procedure_row.name in
        let number : x.site.number ≡ e.site = site_row.number ∙ sym shows.site in
        let spans : map span_shown x.site.spans ≡ map (span_of s) ghost.site.spans = ap (map span_shown) site_row.spans ∙ spans_same s ghost.site.spans in
        let variables : variables_shown t x x.procedure.variables x.site.variables ≡ program.variables_shown ghost.proc e.site values 0 ghost.proc.vars =
        ap (λ (rows : List VariableRow). variables_shown t x rows x.site.variables) procedure_row.variables
        ∙ ap (λ (places : List VariablePlace). variables_shown t x (map variable_row ghost.proc.vars) places) site_row.variables
        ∙ variables_same t x ghost.proc p.site values (c.plan.place p.procedure) 0 ghost.proc.vars variable_same
        ∙ ap (λ (n : ℕ). program.variables_shown ghost.proc n values 0 ghost.proc.vars) (sym shows.site) in
        ap (λ (n : List ℕ). walk_record n x.site.number (map span_shown x.site.spans) (variables_shown t x x.procedure.variables x.site.variables)) name
        ∙ ap (λ (n : ℕ). walk_record ghost.proc.name n (map span_shown x.site.spans) (variables_shown t x x.procedure.variables x.site.variables)) number
        ∙ ap (λ (l : List Spanned). walk_record ghost.proc.name e.site l (variables_shown t x x.procedure.variables x.site.variables)) spans
        ∙ ap (λ (l : List Shown). walk_record ghost.proc.name e.site (map (span_of s) ghost.site.spans) l) variables

    -- and in the walk of what the client sees it is found at its site
    pub suspended_here : (rest : List Activation) → suspended_at s (activation_of s c at e ∷ rest) ≡ Some here
    suspended_here rest =
        ap (λ (o : Option Proc). with_some o (λ q. with_some (slice_get q.sites e.site) (λ site.
        let there : Suspended = record { activation = activation_of s c at e; procedure = q; number = e.site; site = site } in Some there))) is_there
        ∙ ap (λ (n : ℕ). with_some (slice_get ghost.proc.sites n) (λ site.
        let there : Suspended = record { activation = activation_of s c at e; procedure = ghost.proc; number = e.site; site = site } in Some there)) shows.site
        ∙ ap (λ (o : Option Site). with_some o (λ site.
        let there : Suspended = record { activation = activation_of s c at e; procedure = ghost.proc; number = e.site; site = site } in Some there)) ghost.is_site

    step_same : (rest : List Activation) → activations_shown s (activation_of s c at e ∷ rest) ≡ element_shown t x ∷ activations_shown s rest
    step_same rest =
        ap (λ (o : Option Suspended). elim o as (λ _. List walk.Activation) [ Some there ↦ activation_shown s there ∷ activations_shown s rest | None ↦ [] ]) (suspended_here rest)
        ∙ ap (λ (z : walk.Activation). z ∷ activations_shown s rest) (sym element_same)

  -- ---- the whole walk

  pub walk_same : (activations : List Activation) (suspended : List Suspension) (elements : List chain.Element) (xs : List Element) → AllZip (IsGhostOf s) activations suspended →
      AllZip (ShowsSuspension (shown_plan s c) at.holdings) suspended elements → AllZip (IsFoundAs i y) elements xs → AllSpots elements →
      activations_shown s (map (activation_of s c at) elements) ≡ map (element_shown t) xs
  walk_same [] [] [] [] ghosts shows found spots = refl
  walk_same (a ∷ activations) (p ∷ suspended) (e ∷ elements) (x ∷ xs) ghosts shows found spots =
      step_same a p e x ghosts.0 shows.0 found.0 spots.0 (map (activation_of s c at) elements)
      ∙ ap (λ (l : List walk.Activation). element_shown t x ∷ l) (walk_same activations suspended elements xs ghosts.1 shows.1 found.1 spots.1)
  walk_same [] (p ∷ suspended) elements xs ghosts shows found spots = absurd ghosts
  walk_same (a ∷ activations) [] elements xs ghosts shows found spots = absurd ghosts
  walk_same [] [] (e ∷ elements) xs ghosts shows found spots = absurd shows
  walk_same (a ∷ activations) (p ∷ suspended) [] xs ghosts shows found spots = absurd shows
  walk_same [] [] [] (x ∷ xs) ghosts shows found spots = absurd found
  walk_same (a ∷ activations) (p ∷ suspended) (e ∷ elements) [] ghosts shows found spots = absurd found
