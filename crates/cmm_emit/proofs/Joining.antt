-- From the codes of units to what the joined text guarantees.
use Rattle.std.proofs.Common.{◌≡◌, ℕ, ◌+◌, ◌-◌, ◌%◌, ◌<◌, ◌≤◌, ◌^◌, refl, sym, ◌∙◌, ap, subst, arith, Bool, true, false, List, [], ◌∷◌, ◌++◌, append_assoc, length, length-append, map, get_or, Some, slice_get}
use Rattle.std.specs.Prelude.{nat_lt, slice_index, sum_by}
use Rattle.std.specs.List.{All, AllZip}
use Rattle.std.proofs.lemmas.Bool.Decides.{nat_tests}
use Rattle.std.proofs.lemmas.List.{get_or-append-add, get_or-map, get_or_append_left, length-map}
use Rattle.rv_table.specs.Memory.{code_base}
use Rattle.rv_asm.specs.Filling.{filled}
use Rattle.rv_asm.specs.declared.part.Label.{Label}
use Rattle.cmm_program.specs.declared.procedure.Proc.{Proc}
use Rattle.cmm_program.specs.declared.procedure.Site.{Site}
use Rattle.cmm_program.specs.declared.program.Program.{Program}
use Rattle.cmm_program.specs.InRange.{IsInRange}
use Rattle.cmm_program.specs.Layout.{label_addresses}
use Rattle.cmm_program.specs.Bounds.{code_bound}
use Rattle.cmm_graph.specs.declared.graph.Graph.{Graph}
use Rattle.cmm_emit_laws.specs.Laying.{FramesCanBeMade, ProceduresAreLaid}
use Rattle.cmm_emit_laws.specs.Placing.{FinishedCodeStands}
use Rattle.cmm_emit_laws.specs.Naming.{GraphsAreNamed}
use Rattle.cmm_data.specs.Laws.{InRangeCanBeLaidOut, LabelsLieInData, LiesInData}
use Rattle.cmm_hoisted.specs.Flow.{IsHoistedFlow}
use Rattle.cmm_hoisted.specs.Laws.{HoistedFlowsAreGraphs, HoistedFlowsHaveSites, HoistedFlowsPassFew, HoistedFlowsWaitAtEach, HoistedFlowsWaitOnce, HoistedFlowsYieldThere}
use Rattle.cmm_unit_code.specs.Joined.{CanBeJoined, IsJoined, IsTextOf, IsWhole, joined_code, landing_addresses, procedure_addresses, reference_value, site_addresses}
use Rattle.cmm_unit_code.specs.Texts.{IsText, address_in}
use Rattle.cmm_unit_code.specs.declared.text.Text.{Text}
use Rattle.cmm_unit_code.specs.declared.unit_code.ProgramCode.{ProgramCode}
use Rattle.cmm_unit_code.specs.declared.unit_code.UnitCode.{UnitCode}
use Rattle.cmm_allocate.specs.declared.procedure.ProcedurePlaces.{ProcedurePlaces}
use Rattle.cmm_allocate.specs.Laws.{RowsHaveFrames}
use Rattle.cmm_allocate.specs.Places.{HavePlaces}
use Rattle.cmm_emit.specs.Naming.{label_at}
use Rattle.cmm_emit.specs.declared.context.Context.{Context}
use Rattle.cmm_emit.proofs.Belonging.{there_at}
use Rattle.cmm_emit.proofs.Coding.{finished, here, lands_there, returns_there}
use Rattle.cmm_emit.proofs.JoinedSites.{front_sites, map_there, moved, site_there, skip_sites}
use Rattle.cmm_emit.specs.Finishing.{places_at as label_places}
use Rattle.std.proofs.lemmas.Option.{slice_get_within}
use Rattle.cmm_emit.proofs.Layable.{can_all_be_laid, continuations_counted, flow_of, found_counted, graph_of, graphs_counted, places_at, procedure_beside, range_of}
use Rattle.cmm_emit.proofs.SiteNodes.{IsWaited, waited}
use Rattle.cmm_emit.proofs.Ranged.{all_whole, code_bounded, code_fits, filled_counted, is_text, last_low, procedure_count, procedures_aligned, procedures_low, size_fits}
use Rattle.cmm_emit.proofs.Standing.{HasProcedure, IsJoint, IsLaid, Laid, StandAt, unit_of, value_in}
use Rattle.cmm_emit.proofs.Whole.{AreGraphs, is_code, starts}
use Rattle.cmm_emit.specs.LaidProcedures.{CanAllBeLaidIn}
use Rattle.cmm_emit.specs.Starts.{IsStart}
use Rattle.cmm_emit.specs.Outlines.{own}
use Rattle.cmm_emit.specs.Premises.{AreCovered, AreShort}
use Rattle.cmm_emit.specs.Texts.{IsCodeOfProgram}
use Rattle.cmm_emit.proofs.Referring.{have_references, procedures_counted}
use Rattle.cmm_emit.specs.Units.{AreUnits, IsUnit, NamesWhatItUses}
use Rattle.cmm_emit.specs.declared.start.Start.{Start}

module _ (p : Program) (graphs : List Graph) (found : List ProcedurePlaces)
    (can_of : (first count : ℕ) (u : UnitCode) (is : IsUnit p graphs found first count u) → CanAllBeLaidIn p graphs found is.outline)
    (addresses : List ℕ) (t : Text) where
  abbrev value : UnitCode → ℕ → ℕ
  value = value_in addresses t

  -- the bytes of units from an address on
  abbrev bytes_from : ℕ → List UnitCode → List ℕ
  bytes_from at us = joined_code (reference_value addresses t.procedures) at us

  -- a unit where it stands
  abbrev made : (first count at : ℕ) (u : UnitCode) → IsUnit p graphs found first count u → Laid
  made first count at u is = record { at = at; outline = is.outline; labels = is.labels; parts = is.parts; places = is.finished.places; code = u }

  -- the units that stand one behind another from an address on
  abbrev pub laid_from : (first end at : ℕ) (us : List UnitCode) → AreUnits p graphs found first end us → List Laid
  laid_from first end at [] are = []
  laid_from first end at (u ∷ us) are = made first are.0 at u are.1 ∷ laid_from (first + are.0) end (at + length u.code) us are.2

  -- what is so far of the text, before the units from an address on
  pub record StandBehind (first at : ℕ) (us : List UnitCode) : Type 0 where
    pub front : List ℕ
    pub code : t.code ≡ front ++ bytes_from at us
    pub place : at ≡ code_base + length front
    pub aligned : at % 4 ≡ 0
    pub earlier : List ℕ
    pub procedures : t.procedures ≡ earlier ++ procedure_addresses at us
    pub count : length earlier ≡ first
    pub earlier_sites : List (List ℕ)
    pub sites : t.sites ≡ earlier_sites ++ site_addresses at us
    pub sites_count : length earlier_sites ≡ first
    pub earlier_landings : List (List ℕ)
    pub landings : t.landings ≡ earlier_landings ++ landing_addresses at us
    pub landings_count : length earlier_landings ≡ first

  module _ (first count at : ℕ) (u : UnitCode) (us : List UnitCode) (is : IsUnit p graphs found first count u) (behind : StandBehind first at (u ∷ us)) where
    abbrev x : Laid
    x = made first count at u is

    filled_same : length (filled (value u) at u.fixes u.code) ≡ length u.code
    filled_same = (filled_counted (value u) at 0 u.fixes u.code is.finished.done.apart).0

    within : at + length u.code ≤ code_base + length t.code
    within =
        let place = behind.place in
        omega (
          arith,
          place,
          filled_same,
          ap (λ (bs : List ℕ). length bs) behind.code,
          length-append behind.front (filled (value u) at u.fixes u.code ++ bytes_from (at + length u.code) us),
          length-append (filled (value u) at u.fixes u.code) (bytes_from (at + length u.code) us),
        )

    entries_counted : length u.procedures ≡ length is.outline.contexts
    entries_counted = procedures_counted p graphs found can_of first count u is

    entry : (k : ℕ) → k < length is.outline.contexts → get_or t.procedures (is.outline.first + k) 0 ≡ slice_index is.finished.places (label_at is.outline.entries k).number + at
    entry k less =
        let inside : k < length u.procedures = omega (arith, less, entries_counted) in
        let moved = λ (offset : ℕ). at + offset in
        let number : is.outline.first + k ≡ length behind.earlier + k = let count_ = behind.count in let first_ = is.first_is in omega (arith, count_, first_) in
        let here = length-map u.procedures moved in
        let entries : length is.outline.entries ≡ length u.procedures =
        sym (ap (λ (ns : List ℕ). length ns) is.finished.procedures ∙ length-map is.outline.entries (λ (l : Label). slice_index is.finished.places l.number)) in
        let place : get_or u.procedures k 0 ≡ slice_index is.finished.places (label_at is.outline.entries k).number =
        ap (λ (ns : List ℕ). get_or ns k 0) is.finished.procedures
        ∙ get_or-map (λ (l : Label). slice_index is.finished.places l.number) is.outline.entries k (record { number = 0 }) 0 (omega (arith, inside, entries)) in
        let at_place : at + get_or u.procedures k 0 ≡ slice_index is.finished.places (label_at is.outline.entries k).number + at = omega (arith, place) in
        ap (λ (ns : List ℕ). get_or ns (is.outline.first + k) 0) behind.procedures
        ∙ (ap (λ (m : ℕ). get_or (behind.earlier ++ (map moved u.procedures ++ procedure_addresses (at + length u.code) us)) m 0) number
        ∙ (get_or-append-add behind.earlier (map moved u.procedures ++ procedure_addresses (at + length u.code) us) k 0
        ∙ (get_or_append_left (map moved u.procedures) (procedure_addresses (at + length u.code) us) 0 k (omega (arith, inside, here))
        ∙ (get_or-map moved u.procedures k 0 0 inside ∙ at_place))))

    site : (k n : ℕ) (c : Context) (l : Label) → slice_get is.outline.contexts k ≡ Some c → slice_get c.sites n ≡ Some l →
        address_in t.sites (is.outline.first + k) n ≡ Some (at + slice_index is.finished.places l.number)
    site k n c l is_context is_label =
        let places = is.finished.places in
        let place = λ (z : Label). slice_index places z.number in
        let own = map place c.sites in
        let up = λ (offset : ℕ). at + offset in
        let later = site_addresses (at + length u.code) us in
        let number : is.outline.first + k ≡ length behind.earlier_sites + k = let count_ = behind.sites_count in let first_ = is.first_is in omega (arith, count_, first_) in
        let there : slice_get u.sites k ≡ Some own =
        subst (λ (ns : List (List ℕ)). slice_get ns k ≡ Some own) (sym is.finished.sites) (map_there (λ c. label_places places c.sites) is.outline.contexts k c is_context) in
        let moved_there : slice_get (moved at u.sites) k ≡ Some (map up own) = map_there (λ offsets. map (λ offset. at + offset) offsets) u.sites k own there in
        let address : slice_get (map up own) n ≡ Some (at + place l) = map_there up own n (place l) (map_there place c.sites n l is_label) in
        ap (λ (ns : List (List ℕ)). address_in ns (is.outline.first + k) n) behind.sites
        ∙ (ap (λ (m : ℕ). address_in (behind.earlier_sites ++ (moved at u.sites ++ later)) m n) number
        ∙ (skip_sites behind.earlier_sites (moved at u.sites ++ later) k n
        ∙ front_sites (moved at u.sites) later k n (at + place l) (site_there (moved at u.sites) k n (map up own) (at + place l) moved_there address)))

    sites_counted : length u.sites ≡ length is.outline.contexts
    sites_counted = ap (λ (ns : List (List ℕ)). length ns) is.finished.sites ∙ length-map is.outline.contexts (λ (c : Context). label_places is.finished.places c.sites)

    land : (k n : ℕ) (c : Context) (l : Label) → slice_get is.outline.contexts k ≡ Some c → slice_get c.landings n ≡ Some l →
        address_in t.landings (is.outline.first + k) n ≡ Some (at + slice_index is.finished.places l.number)
    land k n c l is_context is_label =
        let places = is.finished.places in
        let place = λ (z : Label). slice_index places z.number in
        let own = map place c.landings in
        let up = λ (offset : ℕ). at + offset in
        let later = landing_addresses (at + length u.code) us in
        let number : is.outline.first + k ≡ length behind.earlier_landings + k = let count_ = behind.landings_count in let first_ = is.first_is in omega (arith, count_, first_) in
        let there : slice_get u.landings k ≡ Some own =
        subst (λ (ns : List (List ℕ)). slice_get ns k ≡ Some own) (sym is.finished.landings) (map_there (λ c. label_places places c.landings) is.outline.contexts k c is_context) in
        let moved_there : slice_get (moved at u.landings) k ≡ Some (map up own) = map_there (λ offsets. map (λ offset. at + offset) offsets) u.landings k own there in
        let address : slice_get (map up own) n ≡ Some (at + place l) = map_there up own n (place l) (map_there place c.landings n l is_label) in
        ap (λ (ns : List (List ℕ)). address_in ns (is.outline.first + k) n) behind.landings
        ∙ (ap (λ (m : ℕ). address_in (behind.earlier_landings ++ (moved at u.landings ++ later)) m n) number
        ∙ (skip_sites behind.earlier_landings (moved at u.landings ++ later) k n
        ∙ front_sites (moved at u.landings) later k n (at + place l) (site_there (moved at u.landings) k n (map up own) (at + place l) moved_there address)))

    lands_counted : length u.landings ≡ length is.outline.contexts
    lands_counted = ap (λ (ns : List (List ℕ)). length ns) is.finished.landings ∙ length-map is.outline.contexts (λ (c : Context). label_places is.finished.places c.landings)

    unit_laid : IsLaid p graphs found addresses t x
    unit_laid = record {
      outline = is.is_outline;
      can = can_of first count u is;
      whole = is.whole;
      done = is.finished.done;
      references = is.finished.references;
      stands = record { front = behind.front; back = bytes_from (at + length u.code) us; is = behind.code; place = behind.place; aligned = behind.aligned; within = within };
      entries = entry;
      sites = site;
      lands = land;
    }

    next_behind : StandBehind (first + count) (at + length u.code) us
    next_behind = record {
      front = behind.front ++ filled (value u) at u.fixes u.code;
      code = behind.code ∙ sym (append_assoc behind.front (filled (value u) at u.fixes u.code) (bytes_from (at + length u.code) us));
      place = let place = behind.place in omega (arith, place, filled_same, length-append behind.front (filled (value u) at u.fixes u.code));
      aligned = let four = behind.aligned in let whole = is.finished.done.whole in omega (arith, four, whole);
      earlier = behind.earlier ++ map (λ offset. at + offset) u.procedures;
      procedures = behind.procedures ∙ sym (append_assoc behind.earlier (map (λ offset. at + offset) u.procedures) (procedure_addresses (at + length u.code) us));
      count =
          let before = behind.count in
          let contexts = is.count_is in
          omega (arith, before, contexts, entries_counted, length-append behind.earlier (map (λ offset. at + offset) u.procedures), length-map u.procedures (λ offset. at + offset));
      earlier_sites = behind.earlier_sites ++ moved at u.sites;
      sites = behind.sites ∙ sym (append_assoc behind.earlier_sites (moved at u.sites) (site_addresses (at + length u.code) us));
      sites_count =
          let before = behind.sites_count in
          let contexts = is.count_is in
          omega (arith, before, contexts, sites_counted, length-append behind.earlier_sites (moved at u.sites), length-map u.sites (λ offsets. map (λ offset. at + offset) offsets));
      earlier_landings = behind.earlier_landings ++ moved at u.landings;
      landings = behind.landings ∙ sym (append_assoc behind.earlier_landings (moved at u.landings) (landing_addresses (at + length u.code) us));
      landings_count =
          let before = behind.landings_count in
          let contexts = is.count_is in
          omega (arith, before, contexts, lands_counted, length-append behind.earlier_landings (moved at u.landings), length-map u.landings (λ offsets. map (λ offset. at + offset) offsets));
    }

  -- the unit of each procedure
  pub unit_there : (first end at : ℕ) (us : List UnitCode) (are : AreUnits p graphs found first end us) → StandBehind first at us → (q : ℕ) → first ≤ q → q < end →
      IsLaid p graphs found addresses t (unit_of (laid_from first end at us are) q) × HasProcedure (unit_of (laid_from first end at us are) q) q
  unit_there first end at [] are behind q least less = absurd (omega (arith, least, less, are))
  unit_there first end at (u ∷ us) are behind q least less =
      by (nat_lt q (are.1.outline.first + length are.1.outline.contexts)) refl
      (λ out. unit_there (first + are.0) end (at + length u.code) us are.2 (next_behind first are.0 at u us are.1 behind) q out less)
    where
      Found : Laid → Type 0
      Found z = IsLaid p graphs found addresses t z × HasProcedure z q

      by : (b : Bool) → nat_lt q (are.1.outline.first + length are.1.outline.contexts) ≡ b →
          (first + are.0 ≤ q → Found (unit_of (laid_from (first + are.0) end (at + length u.code) us are.2) q)) →
          Found (elim b as (λ _. Laid) [ true ↦ made first are.0 at u are.1 | false ↦ unit_of (laid_from (first + are.0) end (at + length u.code) us are.2) q ])
      by true test later =
          let inside : q < are.1.outline.first + length are.1.outline.contexts = grind (arith, nat_tests, test) in
          let first_ = are.1.first_is in (
            unit_laid first are.0 at u us are.1 behind,
            record { number = q - first; is = omega (arith, least, first_); inside = omega (arith, least, first_, inside) },
          )
      by false test later =
          let out : are.1.outline.first + length are.1.outline.contexts ≤ q = grind (arith, nat_tests, test) in
          let first_ = are.1.first_is in
          let count_ = are.1.count_is in
          later (omega (arith, out, first_, count_))

  -- ---- behind the code with which a run begins

  module _ (start : Start) (is_start : IsStart p start) (us : List UnitCode) (joined : IsJoined addresses (start.code ∷ us) start.last t) where
    abbrev rest : List ℕ
    rest = bytes_from (code_base + length start.code.code) us

    start_filled : length (filled (value start.code) code_base start.code.fixes start.code.code) ≡ length start.code.code
    start_filled = (filled_counted (value start.code) code_base 0 start.code.fixes start.code.code is_start.done.apart).0

    pub start_behind : StandBehind 0 (code_base + length start.code.code) us
    start_behind = record {
      front = filled (value start.code) code_base start.code.fixes start.code.code;
      code = joined.code;
      place = omega (arith, start_filled);
      aligned = let whole = is_start.done.whole in omega (arith, whole);
      earlier = [];
      procedures =
          joined.procedures
          ∙ ap (λ (ns : List ℕ). map (λ offset. code_base + offset) ns ++ procedure_addresses (code_base + length start.code.code) us) is_start.procedures;
      count = refl;
      earlier_sites = [];
      sites =
          joined.sites
          ∙ ap (λ (ns : List (List ℕ)). map (λ offsets. map (λ offset. code_base + offset) offsets) ns ++ site_addresses (code_base + length start.code.code) us) is_start.sites;
      sites_count = refl;
      earlier_landings = [];
      landings =
          joined.landings
          ∙ ap (λ (ns : List (List ℕ)). map (λ offsets. map (λ offset. code_base + offset) offsets) ns ++ landing_addresses (code_base + length start.code.code) us) is_start.landings;
      landings_count = refl;
    }

    pub start_stands : StandAt (value start.code) t code_base start.code
    start_stands = record {
      front = [];
      back = rest;
      is = joined.code;
      place = refl;
      aligned = refl;
      within =
          omega (
            arith,
            start_filled,
            ap (λ (bs : List ℕ). length bs) joined.code,
            length-append (filled (value start.code) code_base start.code.fixes start.code.code) rest,
          );
    }

    module _ (are : AreUnits p graphs found 0 (length p.procs) us) (range : IsInRange p)
        (graph_count : length graphs ≡ length p.procs) (found_count : length found ≡ length p.procs) (is_addresses : addresses ≡ label_addresses p) (lie : All (LiesInData p) addresses)
        (continuations : (q : ℕ) (procedure : Proc) (g : Graph) → slice_get p.procs q ≡ Some procedure → slice_get graphs q ≡ Some g → length g.continuations ≡ length procedure.conts)
        (procedure_count : length t.procedures ≡ length p.procs) (procedures_aligned : (q : ℕ) → get_or t.procedures q 0 % 4 ≡ 0)
        (procedures_low : (q : ℕ) → get_or t.procedures q 0 ≤ 2 ^ 30) (room : code_base + length t.code ≤ 2 ^ 30) where
      pub joint : IsJoint p graphs found addresses t
      joint = record {
        range = range;
        graph_count = graph_count;
        found_count = found_count;
        is_addresses = is_addresses;
        lie = lie;
        continuations = continuations;
        laid = laid_from 0 (length p.procs) (code_base + length start.code.code) us are;
        units = λ q less. unit_there 0 (length p.procs) (code_base + length start.code.code) us are start_behind q (omega arith) less;
        start = start;
        is_start = is_start;
        begins = start_stands;
        from = joined.start;
        last = let last = joined.last in omega (arith, last);
        procedure_count = procedure_count;
        procedures_aligned = procedures_aligned;
        procedures_low = procedures_low;
        room = room;
      }

      -- so it is the code of the program
      pub code_is : AreGraphs p graphs found → FinishedCodeStands → ProceduresAreLaid → RowsHaveFrames → IsCodeOfProgram p graphs found t
      code_is graphs_are stands laid_by frames s l has =
          let known : IsJoint s.program graphs found addresses t = subst (λ (z : Program). IsJoint z graphs found addresses t) (sym has.program) joint in
          let graphs_ : AreGraphs s.program graphs found = subst (λ (z : Program). AreGraphs z graphs found) (sym has.program) graphs_are in
          let begins = starts s graphs found addresses t known graphs_ l has.rows has.code stands laid_by frames has.region has.start has.is_data has.bytes in
          record {
            finished = finished s.program graphs found addresses t known;
            code = is_code s graphs found addresses t known graphs_ l has.rows has.code stands laid_by frames has.is_for;
            begins = begins.0;
            few = begins.1;
            returns = λ q n procedure is less.
                let is_procedure : slice_get s.program.procs q ≡ Some procedure = is in
                let inside = slice_get_within s.program.procs q procedure is in
                let g = there_at graphs q (let count_ = known.graph_count in omega (arith, inside, count_)) in
                let this = here s.program graphs found addresses t known q g.0 g.1 in
                let own = this.is_procedure in
                let same : this.one.procedure ≡ procedure = cc in
                returns_there s.program graphs found addresses t known q g.0 this n (subst (λ (z : Proc). n < length z.sites) (sym same) less);
            lands = λ q k procedure is less.
                let inside = slice_get_within s.program.procs q procedure is in
                let g = there_at graphs q (let count_ = known.graph_count in omega (arith, inside, count_)) in
                let this = here s.program graphs found addresses t known q g.0 g.1 in
                let many = known.continuations q procedure g.0 is g.1 in
                let node = there_at (g.0).continuations k (omega (arith, less, many)) in
                lands_there s.program graphs found addresses t known q g.0 this k node.0 node.1;
            last = refl;
          }

-- ---- a located program, with the codes of its units

module _ (p : Program) (graphs : List Graph) (found : List ProcedurePlaces) (range : IsInRange p) (flows : AllZip IsHoistedFlow p.procs graphs)
    (places : HavePlaces p.procs graphs found) (passes : HoistedFlowsPassFew) (yields : HoistedFlowsYieldThere) (answers : HoistedFlowsAreGraphs) (named : GraphsAreNamed) (made : FramesCanBeMade) (waits : HoistedFlowsWaitOnce) (each : HoistedFlowsWaitAtEach) (have : HoistedFlowsHaveSites)
    (short : AreShort p.procs graphs found) (start : Start) (is_start : IsStart p start)
    (codes : List UnitCode) (units : (us : List UnitCode) × (codes ≡ start.code ∷ us) × (length us ≤ 256) × AreUnits p graphs found 0 (length p.procs) us) where
  abbrev pub code : ProgramCode
  code = record { units = codes; last = start.last }

  graph_count : length graphs ≡ length p.procs
  graph_count = graphs_counted p graphs found range flows places passes answers named

  can : (first count : ℕ) (u : UnitCode) (is : IsUnit p graphs found first count u) → CanAllBeLaidIn p graphs found is.outline
  can first count u is = can_all_be_laid p graphs found range flows places passes answers named is.outline is.is_outline made waits short

  continuations : (q : ℕ) (procedure : Proc) (g : Graph) → slice_get p.procs q ≡ Some procedure → slice_get graphs q ≡ Some g → length g.continuations ≡ length procedure.conts
  continuations = continuations_counted p graphs found range flows places passes answers named

  waiting : (q : ℕ) (procedure : Proc) (g : Graph) → slice_get p.procs q ≡ Some procedure → slice_get graphs q ≡ Some g → (n : ℕ) (site : Site) →
      slice_get procedure.sites n ≡ Some site → IsWaited g n site
  waiting q procedure g is also n site there =
      waited p procedure g each have (range_of p graphs found range flows places passes answers named q procedure is)
      (flow_of p graphs found range flows places passes answers named q procedure g is also) n site there

  abbrev us : List UnitCode
  us = units.0

  few : length us ≤ 256
  few = units.2

  abbrev are : AreUnits p graphs found 0 (length p.procs) us
  are = units.3

  pub can_be_joined : CanBeJoined code
  can_be_joined = record {
    whole = subst (All IsWhole) (sym units.1) (all_whole p graphs found range graph_count continuations waiting can us few are start is_start);
    room =
        let fits = size_fits p graphs found range graph_count continuations waiting can us few are start is_start in
        subst (λ (cs : List UnitCode). code_base + sum_by (λ u. length u.code) cs ≤ 2 ^ 30) (sym units.1) (omega (arith, fits));
    last = last_low p start is_start;
  }

  pub names : NamesWhatItUses p graphs code
  names = record { start = start.code; units = us; is = units.1; main = is_start.references; each = have_references p graphs found can 0 us are }

  module _ (t : Text) (is : IsTextOf p code t) where
    joined : IsJoined (label_addresses p) (start.code ∷ us) start.last t
    joined = subst (λ (cs : List UnitCode). IsJoined (label_addresses p) cs start.last t) units.1 is

    pub text_is : IsText p t
    text_is = is_text p graphs found range graph_count continuations waiting can us few are start is_start (label_addresses p) t joined

    pub text_bounded : length t.code ≤ code_bound (sum_by (λ q. q.tokens) p.procs)
    text_bounded = code_bounded p graphs found range graph_count continuations waiting can us few are start is_start (label_addresses p) t joined

    graphs_known : AreCovered graphs found → AreGraphs p graphs found
    graphs_known covered = record {
      valid = λ n g is.
          let q = procedure_beside p graphs found range flows places passes answers named n g is in
          (graph_of p graphs found range flows places passes answers named n q.0 g q.1 is).valid;
      named = λ n g is.
          let q = procedure_beside p graphs found range flows places passes answers named n g is in
          (named p q.0 g (graph_of p graphs found range flows places passes answers named n q.0 g q.1 is)).named;
      yields = λ n q g is also.
          yields p q g (range_of p graphs found range flows places passes answers named n q is) (flow_of p graphs found range flows places passes answers named n q g is also);
      sites = λ n q g is also.
          have p q g (range_of p graphs found range flows places passes answers named n q is) (flow_of p graphs found range flows places passes answers named n q g is also);
      waited = λ n q g site is also less.
          each p q g site (range_of p graphs found range flows places passes answers named n q is) (flow_of p graphs found range flows places passes answers named n q g is also) less;
      covered = covered;
      places = λ n q g k is also there. places_at p.procs graphs found n q g k places is also there;
    }

    pub code_of_program : AreCovered graphs found → LabelsLieInData → InRangeCanBeLaidOut → FinishedCodeStands → ProceduresAreLaid → RowsHaveFrames → IsCodeOfProgram p graphs found t
    code_of_program covered lie layable stands laid_by frames =
        code_is p graphs found can (label_addresses p) t start is_start us joined are range graph_count
        (found_counted p graphs found range flows places passes answers named) refl (lie p (layable p range)) continuations
        (procedure_count p graphs found range graph_count continuations waiting can us few are start is_start (label_addresses p) t joined)
        (procedures_aligned p graphs found range graph_count continuations waiting can us few are start is_start (label_addresses p) t joined)
        (procedures_low p graphs found range graph_count continuations waiting can us few are start is_start (label_addresses p) t joined)
        (code_fits p graphs found range graph_count continuations waiting can us few are start is_start (label_addresses p) t joined)
        (graphs_known covered) stands laid_by frames
