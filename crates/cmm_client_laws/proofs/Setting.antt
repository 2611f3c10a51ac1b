-- The client sets a variable: its place takes the value, and the program is shown as before.
use Rattle.std.proofs.Common.{◌≡◌, ℕ, zero, suc, ◌+◌, ◌<◌, ◌≤◌, ◌^◌, ◌==◌, Bool, true, false, List, [], ◌∷◌, length, Option, Some, None, refl, sym, ap, ◌∙◌, subst, arith}
use Rattle.std.specs.Prelude.{drop, slice_get, slice_index_or}
use Rattle.std.specs.List.{AllZip, range_with_len}
use Rattle.std.proofs.lemmas.Bool.Decides.{nat_tests}
use Rattle.std.proofs.lemmas.Option.{same_Some}
use Rattle.cmm_words.specs.declared.width.Width.{Width}
use Rattle.cmm_words.specs.declared.width.Width.TheVariants.{W8, W16, W32, W64}
use Rattle.cmm_words.specs.Widths.{bits}
use Rattle.cmm_script.specs.Walk.{Shown}
use Rattle.rv_table.specs.Machine.{MemoryMap, State}
use Rattle.cmm_program.specs.declared.procedure.Proc.{Proc}
use Rattle.cmm_program.specs.declared.procedure.VarInfo.{VarInfo}
use Rattle.cmm_program.specs.Errors.{with_some}
use Rattle.cmm_program.specs.Frames.{procedure_at}
use Rattle.cmm_program.specs.Liveness.{is_live_at}
use Rattle.cmm_program.specs.State.{Setting, Activation, stack_top}
use Rattle.cmm_program.specs.Walks as program
use Rattle.cmm_program.specs.Walks.{live_value}
use Rattle.cmm_chain.specs.declared.frame.Location.{Location}
use Rattle.cmm_chain.specs.declared.frame.Location.TheVariants.{Slot, Saved, Temp}
use Rattle.cmm_abi.specs.Registers.{is_callee_saves}
use Rattle.cmm_chain.specs.Contents.{Content, Number}
use Rattle.cmm_chain.specs.Laws.{MayBeSet}
use Rattle.cmm_chain.specs.Plans.{Plan, IsPlanned}
use Rattle.cmm_chain.specs.Chain.{Point, Suspension, IsChain}
use Rattle.cmm_chain.specs.Running.{Holdings}
use Rattle.cmm_chain.specs.Walks as chain
use Rattle.cmm_chain.specs.Walks.{Mark, Spot, content_at, first_mark, put_at, shown_at, spot_of, walk_from, with_value}
use Rattle.cmm_chain.proofs.Shared.{set_is_chain}
use Rattle.cmm_image.specs.declared.parts.ImageParts.{ImageParts}
use Rattle.cmm_image.specs.declared.rows.VariablePlace.{VariablePlace}
use Rattle.cmm_image_machine.specs.Changes as image
use Rattle.cmm_program.specs.Client as client
use Rattle.cmm_program.specs.Client.{located_shown, values_at}
use Rattle.cmm_image_machine.specs.Frames.{Element}
use Rattle.cmm_abi.specs.Regions.{Place, with_word}
use Rattle.cmm_image_machine.specs.Walks.{place_in}
use Rattle.cmm_emit_laws.specs.Words.{Symbols, is_known}
use Rattle.cmm_emit_laws.specs.Represented.{IsFor, IsRepresented}
use Rattle.cmm_located.specs.Answering.{listed, set_number, shown}
use Rattle.cmm_located.specs.Clients.{AreApart}
use Rattle.cmm_located.specs.Compiled.{Compiled, Located}
use Rattle.cmm_located.specs.ShownWalks.{KnowsLive}
use Rattle.cmm_machine_laws.specs.Alike.{StayAlike}
use Rattle.cmm_client_laws.specs.Asked.{AreAs, GoesOnAs, IsActivationAs, IsStoppedAs}
use Rattle.cmm_tables.specs.SiteRows.{place_while}
use Rattle.cmm_client_laws.specs.Tables.{HaveTables}
use Rattle.cmm_client_laws.specs.Walked.{IsGhostOf, IsWalked, live_at, marked, place_of, shown_plan}
use Rattle.cmm_client_laws.proofs.Asking.{Known, known, lists, row_of_site}
use Rattle.cmm_client_laws.proofs.Lists.{get_map}
use Rattle.cmm_client_laws.proofs.Listing.{marked_live, marked_with_value, walk_is_marked}
use Rattle.cmm_client_laws.proofs.Putting.{spot_shows}
use Rattle.cmm_client_laws.proofs.Sound.{sound_word}
use Rattle.cmm_client_laws.proofs.Showing.{AreSpots, IsSpot, get_less, live_is}
use Rattle.cmm_client_laws.proofs.Walkable.{live_parts}
use Rattle.cmm_client_laws.proofs.Whole.{as_many}

-- ---- a variable, as it is shown

-- what is shown of a number is a variable of the procedure
get_shown : (p : Proc) (site : ℕ) (values : List ℕ) (first k : ℕ) (vars : List VarInfo) (v : Shown) → slice_get (program.variables_shown p site values first vars) k ≡ Some v →
    (info : VarInfo) × (slice_get vars k ≡ Some info) × (v.width ≡ bits info.width) × (v.value ≡ live_value p site values (first + k))
get_shown p site values first k [] v is = absurd (cc)
get_shown p site values first zero (info ∷ vars) v is =
    let w : Shown = record { width = bits info.width; kind = info.kind; invariant = info.invariant; value = live_value p site values first } in
    let same : w ≡ v = same_Some w v is in
    let none : first ≡ first + 0 = omega arith in
    (info, refl, sym (ap (λ (z : Shown). z.width) same), sym (ap (λ (z : Shown). z.value) same) ∙ ap (live_value p site values) none)
get_shown p site values first (suc k) (info ∷ vars) v is =
    let rest = get_shown p site values (suc first) k vars v is in
    let more : suc first + k ≡ first + suc k = omega arith in
    (rest.0, rest.1, rest.2, rest.3 ∙ ap (live_value p site values) more)

live_if_valued : (b : Bool) (value old : ℕ) → elim b as (λ _. Option ℕ) [ true ↦ Some value | false ↦ None ] ≡ Some old → b ≡ true
live_if_valued true value old is = refl
live_if_valued false value old is = absurd (cc)

get_range : (first count n : ℕ) → n < count → slice_get (range_with_len first count) n ≡ Some (first + n)
get_range first zero n less = absurd (omega (arith, less))
get_range first (suc count) zero less = let none : first ≡ first + 0 = omega arith in ap (λ (k : ℕ). Some k) none
get_range first (suc count) (suc n) less =
    let more : first + 1 + n ≡ first + suc n = omega arith in get_range (first + 1) count n (omega (arith, less)) ∙ ap (λ (k : ℕ). Some k) more

pub word_fits : (w : Width) (x : ℕ) → x < 2 ^ bits w → x < 2 ^ 64
word_fits W8 x less = omega (arith, less)
word_fits W16 x less = omega (arith, less)
word_fits W32 x less = omega (arith, less)
word_fits W64 x less = less

-- ---- the spot of a place

spot_there : (h : Holdings) (o : Option Spot) (x : ℕ) → shown_at h o ≡ Number x → (spot : Spot) × (o ≡ Some spot) × (content_at h spot ≡ Number x)
spot_there h (Some spot) x is = (spot, refl, is)
spot_there h None x is = absurd (cc)

-- and it is the place that the tables have
pub spot_is_place : (mark : Mark) (x : Element) (l : Location) (spot : Spot) → AreSpots mark → x.frame ≡ mark.at → ((r : ℕ) → x.places r ≡ place_of (mark.registers r)) →
    spot_of mark l ≡ Some spot → IsSpot spot × (place_in x (place_while true l) ≡ Some (place_of spot))
spot_is_place mark x (Slot offset) spot spots frame places is =
    let same : chain.InStack (mark.at + offset) ≡ spot = same_Some _ spot is in
    (subst IsSpot same tt, ap (λ (k : ℕ). Some (place_of (chain.InStack (k + offset)))) frame ∙ ap (λ (z : Spot). Some (place_of z)) same)
spot_is_place mark x (Saved r) spot spots frame places is = by (is_callee_saves r) refl
  where
    by : (b : Bool) → is_callee_saves r ≡ b → IsSpot spot × (place_in x (place_while true (Saved r)) ≡ Some (place_of spot))
    by true saved =
        let found : Some (mark.registers r) ≡ Some spot = sym (ap (λ (b : Bool). elim b as (λ _. Option Spot) [ true ↦ Some (mark.registers r) | false ↦ None ]) saved) ∙ is in
        let same : mark.registers r ≡ spot = same_Some (mark.registers r) spot found in
        (subst IsSpot same (spots r saved), ap (λ (k : Place). Some k) (places r) ∙ ap (λ (z : Spot). Some (place_of z)) same)
    by false saved =
        let found : None ≡ Some spot = sym (ap (λ (b : Bool). elim b as (λ _. Option Spot) [ true ↦ Some (mark.registers r) | false ↦ None ]) saved) ∙ is in
        absurd (cc)
spot_is_place mark x (Temp r) spot spots frame places is = absurd (cc)

same_first : (spot : Spot) (k : Content) (h : Holdings) → first_mark (put_at spot k h).point ≡ first_mark h.point
same_first (chain.InRegister r) k h = refl
same_first (chain.InStack a) k h = refl

same_temps : (spot : Spot) (k : Content) (h : Holdings) → (put_at spot k h).temps ≡ h.temps
same_temps (chain.InRegister r) k h = refl
same_temps (chain.InStack a) k h = refl

-- ---- the activations wait as before

ghosts_with : (s : Setting) (k v x : ℕ) (activations : List Activation) (suspended : List Suspension) (t : Suspension) → AllZip (IsGhostOf s) activations suspended →
    slice_get suspended k ≡ Some t →
    ((p : Proc) (info : VarInfo) → procedure_at s t.procedure ≡ Some p → slice_get p.vars v ≡ Some info → x < 2 ^ bits info.width) → AllZip (IsGhostOf s) activations (with_value k v x suspended)
ghosts_with s zero v x (a ∷ activations) (u ∷ suspended) t ghosts is fits =
    let g = ghosts.0 in
    let same : u ≡ t = same_Some u t is in (
      record {
        procedure = g.procedure;
        waits = g.waits;
        proc = g.proc;
        is_procedure = g.is_procedure;
        site = g.site;
        is_site = g.is_site;
        fits = λ w info there live. at w info there live (w == v) refl;
      },
      ghosts.1,
    )
  where
    at : (w : ℕ) (info : VarInfo) → slice_get ghosts.0.proc.vars w ≡ Some info → is_live_at ghosts.0.proc u.site w ≡ true → (test : Bool) → (w == v) ≡ test →
        elim test as (λ _. ℕ) [ true ↦ x | false ↦ u.values w ] < 2 ^ bits info.width
    at w info there live true equal =
        let one : w ≡ v = grind (arith, nat_tests, equal) in
        let same : u ≡ t = same_Some u t is in
        fits ghosts.0.proc info (ap (λ (z : Suspension). procedure_at s z.procedure) (sym same) ∙ ghosts.0.is_procedure) (ap (slice_get ghosts.0.proc.vars) (sym one) ∙ there)
    at w info there live false differs = ghosts.0.fits w info there live
ghosts_with s (suc k) v x (a ∷ activations) (u ∷ suspended) t ghosts is fits = (ghosts.0, ghosts_with s k v x activations suspended t ghosts.1 is fits)
ghosts_with s k v x [] [] t ghosts is fits = tt
ghosts_with s k v x (a ∷ activations) [] t ghosts is fits = absurd ghosts
ghosts_with s k v x [] (u ∷ suspended) t ghosts is fits = absurd ghosts

-- each suspension of a chain is of a procedure
pub chain_exists : (plan : Plan) (top : ℕ) (contents : ℕ → Content) (suspended : List Suspension) (p : Point) (k : ℕ) (t : Suspension) → IsChain plan top contents suspended p →
    slice_get suspended k ≡ Some t → plan.is_procedure t.procedure ≡ true
chain_exists plan top contents [] p k t is there = absurd (cc)
chain_exists plan top contents (u ∷ older) p zero t is there = let same : u ≡ t = same_Some u t there in ap (λ (z : Suspension). plan.is_procedure z.procedure) (sym same) ∙ is.0.exists
chain_exists plan top contents (u ∷ older) p (suc k) t is there = chain_exists plan top contents older _ k t is.1 there

module _ (s : Setting) (c : Compiled) (y : Symbols) (rest : ℕ → ℕ) (i : ImageParts) (tables : HaveTables s c y i) (planned : IsPlanned c.plan) (m : MemoryMap) (is_for : IsFor s m)
    (apart : AreApart c) (knows : KnowsLive s c) (at : Located) (t : State) (same : IsStoppedAs s c y rest i at t) where
  module _ (a : client.Located) (x : Element) (is : IsActivationAs s c y i at a x) (n value : ℕ) (info : VarInfo) (is_info : slice_get a.procedure.vars n ≡ Some info)
      (live : is_live_at a.procedure a.number n ≡ true) (fits : value < 2 ^ bits info.width) where
    abbrev there : Known s c y rest i tables planned m is_for at t same a x is.element
    there = known s c y rest i tables planned m is_for at t same a x is

    abbrev q : ℕ
    q = there.suspension.procedure

    live_there : is_live_at a.procedure there.suspension.site n ≡ true
    live_there = ap (λ (k : ℕ). is_live_at a.procedure k n) (sym (is.number ∙ there.shows.site)) ∙ live

    is_procedure : procedure_at s there.suspension.procedure ≡ Some a.procedure
    is_procedure = there.of.is_procedure ∙ ap (λ (p : Proc). Some p) there.proc

    live_in_plan : live_at s there.suspension.procedure there.suspension.site n ≡ true
    live_in_plan = live_is s there.suspension.procedure there.suspension.site n a.procedure is_procedure live_there (get_less a.procedure.vars n info is_info)

    found_spot : (spot : Spot) × (spot_of is.element.mark (c.plan.place there.suspension.procedure n) ≡ Some spot) × (content_at at.holdings spot ≡ Number (there.suspension.values n))
    found_spot = spot_there at.holdings (spot_of is.element.mark (c.plan.place there.suspension.procedure n)) (there.suspension.values n) (there.shows.values n live_in_plan)

    abbrev after : Holdings
    after = put_at found_spot.0 (Number value) at.holdings

    in_place : IsSpot found_spot.0 × (place_in x (place_while true (c.plan.place there.suspension.procedure n)) ≡ Some (place_of found_spot.0))
    in_place = spot_is_place is.element.mark x (c.plan.place there.suspension.procedure n) found_spot.0 there.spots is.found.frame is.found.places found_spot.1

    -- in the located machine
    places_set : set_number s c a.younger n value at ≡ record at { holdings = put_at found_spot.0 (Number value) at.holdings }
    places_set =
        let spot : with_some (slice_get (listed s c at) a.younger) (λ e. spot_of e.mark (c.plan.place e.procedure n)) ≡ Some found_spot.0 =
        ap (λ (o : Option chain.Element). with_some o (λ e. spot_of e.mark (c.plan.place e.procedure n))) is.is_listed
        ∙ ap (λ (k : ℕ). spot_of is.element.mark (c.plan.place k n)) there.shows.procedure ∙ found_spot.1 in
        ap (λ (o : Option Spot). elim o as (λ _. Located) [ Some spot ↦ record at { holdings = put_at spot (Number value) at.holdings } | None ↦ at ]) spot

    -- and in the image
    image_set : image.with_variable t x n value ≡ with_word (place_of found_spot.0) value t
    image_set =
        let row = row_of_site s c y rest i tables planned m is_for at t same a x is in
        let none : 0 + n ≡ n = omega arith in
        let variable : slice_get x.site.variables n ≡ Some (place_while true (c.plan.place there.suspension.procedure n)) =
        ap (λ (places : List VariablePlace). slice_get places n) row.variables
        ∙ get_map (λ v. place_while (is_live_at a.procedure there.suspension.site v) (c.plan.place there.suspension.procedure v)) n (range_with_len 0 (length a.procedure.vars))
        ∙ ap (λ (o : Option ℕ). with_some o (λ v. Some (place_while (is_live_at a.procedure there.suspension.site v) (c.plan.place there.suspension.procedure v))))
        (get_range 0 (length a.procedure.vars) n (get_less a.procedure.vars n info is_info) ∙ ap (λ (k : ℕ). Some k) none)
        ∙ ap (λ (b : Bool). Some (place_while b (c.plan.place there.suspension.procedure n))) live_there in
        let place : with_some (slice_get x.site.variables n) (place_in x) ≡ Some (place_of found_spot.0) =
        ap (λ (o : Option VariablePlace). with_some o (place_in x)) variable ∙ in_place.1 in
        ap (λ (o : Option Place). elim o as (λ _. State) [ Some place ↦ with_word place value t | None ↦ t ]) place

    may_be_set : MayBeSet (shown_plan s c) there.suspension n
    may_be_set = record {
      live = live_in_plan;
      apart = λ u other differ.
          let exists = chain_exists (shown_plan s c) (stack_top s) at.holdings.contents same.suspended at.holdings.point a.younger there.suspension same.walked.chain there.is_there in
          let parts = live_parts s there.suspension.procedure there.suspension.site u a.procedure is_procedure other in
          apart there.suspension.procedure there.suspension.site n u exists
          (knows there.suspension.procedure there.suspension.site n a.procedure is_procedure (get_less a.procedure.vars n info is_info) live_there)
          (knows there.suspension.procedure there.suspension.site u a.procedure is_procedure parts.1 parts.0) differ;
    }

    listed_there : slice_get (walk_from (shown_plan s c) at.holdings (length at.store.activations)) a.younger ≡ Some is.element
    listed_there =
        let many : length same.suspended ≤ length at.store.activations = let equal = as_many s at.store.activations same.suspended same.walked.ghosts in omega (arith, equal) in
        ap (λ (es : List chain.Element). slice_get es a.younger)
        (walk_is_marked (shown_plan s c) (live_at s) (stack_top s) at.holdings.contents same.suspended at.holdings.point (first_mark at.holdings.point) (length at.store.activations)
        same.walked.chain refl refl many ∙ marked_live c.plan (live_at s) same.suspended (first_mark at.holdings.point)) ∙ there.marked_there

    walked_after : IsWalked s c (put_at found_spot.0 (Number value) at.holdings) at.store.activations (with_value a.younger n value same.suspended)
    walked_after = record {
      ghosts = ghosts_with s a.younger n value at.store.activations same.suspended there.suspension same.walked.ghosts there.is_there
          (λ p info' known_there is'. let one : p ≡ a.procedure = same_Some p a.procedure (sym known_there ∙ is_procedure) in
          let two : info' ≡ info = same_Some info' info (sym is' ∙ ap (λ (k : Proc). slice_get k.vars n) one ∙ is_info) in
          subst (λ (k : VarInfo). value < 2 ^ bits k.width) (sym two) fits);
      chain = set_is_chain (shown_plan s c) (stack_top s) same.suspended at.holdings (length at.store.activations) a.younger n value there.suspension is.element found_spot.0
          (record { laid = planned.laid; places = planned.places }) same.walked.chain there.is_there may_be_set listed_there found_spot.1;
      temps = same_temps found_spot.0 (Number value) at.holdings ∙ same.walked.temps;
    }

    known_spot : is_known (content_at at.holdings found_spot.0) ≡ true
    known_spot = ap is_known found_spot.2

    shown_after : IsRepresented y rest s (put_at found_spot.0 (Number value) at.holdings) at.store [] (with_word (place_of found_spot.0) value t)
    shown_after = spot_shows y rest s at.holdings at.store [] t same.shown value found_spot.0 in_place.0 (word_fits info.width value fits) known_spot

    stopped_after : IsStoppedAs s c y rest i (record at { holdings = put_at found_spot.0 (Number value) at.holdings }) (with_word (place_of found_spot.0) value t)
    stopped_after = record {
      suspended = with_value a.younger n value same.suspended;
      walked = walked_after;
      shown = shown_after;
      sound = sound_word (place_of found_spot.0) t value (word_fits info.width value fits) same.sound;
    }

    listed_after : listed s c (record at { holdings = put_at found_spot.0 (Number value) at.holdings }) ≡ listed s c at
    unfolding stopped_after
    listed_after =
        lists s c y rest i tables planned m is_for (record at { holdings = put_at found_spot.0 (Number value) at.holdings }) (with_word (place_of found_spot.0) value t) stopped_after
        ∙ marked_with_value c.plan a.younger n value same.suspended (first_mark (put_at found_spot.0 (Number value) at.holdings).point)
        ∙ ap (marked c.plan same.suspended) (same_first found_spot.0 (Number value) at.holdings)
        ∙ sym (lists s c y rest i tables planned m is_for at t same)

    -- both are stopped as before
    pub set_stays : StayAlike (IsStoppedAs s c y rest i) (AreAs s c y i) (GoesOnAs s c y rest i) at t (set_number s c a.younger n value at) (image.with_variable t x n value)
    set_stays =
        subst (λ (z : Located). StayAlike (IsStoppedAs s c y rest i) (AreAs s c y i) (GoesOnAs s c y rest i) at t z (image.with_variable t x n value)) (sym places_set)
        (subst (λ (z : State). StayAlike (IsStoppedAs s c y rest i) (AreAs s c y i) (GoesOnAs s c y rest i) at t (record at { holdings = put_at found_spot.0 (Number value) at.holdings }) z) (sym image_set)
        (record {
          same = stopped_after;
          each = λ b z as_. record {
            element = as_.element;
            is_listed = ap (λ (es : List chain.Element). slice_get es b.younger) listed_after ∙ as_.is_listed;
            found = as_.found;
            procedure = as_.procedure;
            number = as_.number;
            site = as_.site;
          };
        }))

  pub set_alike : (a : client.Located) (x : Element) (n value : ℕ) (v : Shown) (old : ℕ) → IsActivationAs s c y i at a x →
      slice_get (located_shown s (shown s c at) a).variables n ≡ Some v → v.value ≡ Some old → value < 2 ^ v.width →
      StayAlike (IsStoppedAs s c y rest i) (AreAs s c y i) (GoesOnAs s c y rest i) at t (set_number s c a.younger n value at) (image.with_variable t x n value)
  set_alike a x n value v old is shows valued fits =
      let values : List ℕ = values_at (drop a.younger (shown s c at).activations) in
      let got = get_shown a.procedure a.number values 0 n a.procedure.vars v shows in
      let none : 0 + n ≡ n = omega arith in
      let live : is_live_at a.procedure a.number n ≡ true =
      live_if_valued (is_live_at a.procedure a.number n) (slice_index_or values n 0) old (sym (got.3 ∙ ap (live_value a.procedure a.number values) none) ∙ valued) in
      set_stays a x is n value got.0 got.1 live (subst (λ (w : ℕ). value < 2 ^ w) got.2 fits)
