-- The exits of a stopped program: returns, unwindings and cuts, over locations and in the image.
use Rattle.std.proofs.Common.{◌≡◌, ℕ, zero, suc, ◌+◌, ◌-◌, ◌*◌, ◌<◌, ◌≤◌, ◌^◌, ◌==◌, ◌&&◌, not, Bool, true, false, List, [], ◌∷◌, drop, find, map, length, Option, Some, None, refl, sym, ap, ◌∙◌, subst, arith}
use Rattle.std.specs.Prelude.{nat_lt, slice_get, slice_index_or, sum_by}
use Rattle.std.specs.List.{AllZip, list_all}
use Rattle.std.proofs.lemmas.Bool.{and_parts}
use Rattle.std.proofs.lemmas.Bool.Decides.{nat_tests}
use Rattle.std.proofs.lemmas.List.{length-map}
use Rattle.std.proofs.lemmas.List.Sums.{sum_by-cons}
use Rattle.std.proofs.lemmas.Option.{same_Some}
use Rattle.cmm_words.specs.declared.width.Width.{Width}
use Rattle.rv_table.specs.Machine.{MemoryMap, State}
use Rattle.rv_table.specs.Registers.{with_register}
use Rattle.cmm_program.specs.Errors.{with_some}
use Rattle.cmm_program.specs.Exits as exits
use Rattle.cmm_program.specs.Exits.{Back, Resumed}
use Rattle.cmm_program.specs.Frames.{continuation_value, frame_address, frame_size, place_row}
use Rattle.cmm_program.specs.Orders.{target_width}
use Rattle.cmm_program.specs.State.{Setting, Activation, stack_top}
use Rattle.cmm_graph.specs.declared.node.Exits.{Exits}
use Rattle.cmm_abi.specs.Registers.{is_callee_saves}
use Rattle.cmm_chain.specs.Contents.{Content, ReturnTo}
use Rattle.cmm_chain.specs.Plans.{IsPlanned}
use Rattle.cmm_chain.specs.Chain.{Suspension}
use Rattle.cmm_chain.specs.Walks as chain
use Rattle.cmm_chain.specs.Walks.{Shows as ShowsSuspension, content_at, first_mark}
use Rattle.cmm_image.specs.declared.parts.ImageParts.{ImageParts}
use Rattle.cmm_image.specs.declared.rows.ContinuationNumber.{ContinuationNumber}
use Rattle.cmm_image.specs.declared.rows.ContinuationRow.{ContinuationRow}
use Rattle.cmm_program.specs.Asking.{Exit}
use Rattle.cmm_image_machine.specs.Changes as image
use Rattle.cmm_image_machine.specs.Changes.{at_pc, continuation_row, has_value, parameter_widths}
use Rattle.cmm_program.specs.Client as client
use Rattle.cmm_image_machine.specs.Frames.{Element}
use Rattle.cmm_abi.specs.Regions.{with_values, word_at}
use Rattle.cmm_emit_laws.specs.Words.{Symbols, Represents}
use Rattle.cmm_emit_laws.specs.Represented.{IsFor, stack_region}
use Rattle.cmm_located.specs.Answering.{activation_of, cut_to, exit_over, listed, places_askable, returned_to, shown, unwound_to}
use Rattle.cmm_located.specs.Compiled.{Compiled, Located, site_exits}
use Rattle.cmm_located.specs.SameOrders.{HasFrames}
use Rattle.cmm_machine_laws.specs.Alike.{ExitsAlike}
use Rattle.cmm_client_laws.specs.Asked.{AreAs, GoesOnAs, IsActivationAs, Alternate, Normal, Landing as AtLanding, IsStoppedAs}
use Rattle.cmm_tables.specs.SiteRows.{continuation_number}
use Rattle.cmm_client_laws.specs.Tables.{HaveTables, IsSiteRow, IsUnwindRow}
use Rattle.cmm_client_laws.specs.Walked.{IsGhostOf, back_of, marked, place_of, shown_plan}
use Rattle.cmm_client_laws.proofs.Asking.{Known, known, lists, row_of_site}
use Rattle.cmm_client_laws.proofs.Bringing.{fit_words}
use Rattle.cmm_client_laws.proofs.Lists.{drop_at, drop_map, get_map, zip_drop}
use Rattle.cmm_client_laws.proofs.Putting.{other_is}
use Rattle.cmm_client_laws.proofs.Resuming.{Comes, ContinuationAlike, NoContinuation, HasContinuation, continuation_alike, continuation_exits, lies, resumes, some_by}
use Rattle.cmm_client_laws.proofs.Listing.{back_is}
use Rattle.cmm_client_laws.proofs.Setting.{chain_exists}
use Rattle.cmm_client_laws.proofs.Showing.{word_is}
use Rattle.cmm_client_laws.proofs.Sound.{sound_register, sound_unwound}
use Rattle.cmm_client_laws.proofs.Whole.{shows_each}

-- elements of one number are both there, or none is
data ZipAt {A B : Type 0} (P : A → B → Type 0) (xs : List A) (ys : List B) (n : ℕ) : Type 0 where
  Neither : slice_get xs n ≡ None → slice_get ys n ≡ None → ZipAt P xs ys n
  Each : (u : A) (v : B) → slice_get xs n ≡ Some u → slice_get ys n ≡ Some v → P u v → ZipAt P xs ys n

zip_at : {A B : Type 0} (P : A → B → Type 0) (xs : List A) (ys : List B) (n : ℕ) → AllZip P xs ys → ZipAt P xs ys n
zip_at P [] [] n all = Neither refl refl
zip_at P (x ∷ xs) (z ∷ ys) zero all = Each x z refl refl all.0
zip_at P (x ∷ xs) (z ∷ ys) (suc n) all = by (zip_at P xs ys n all.1)
  where
    by : ZipAt P xs ys n → ZipAt P (x ∷ xs) (z ∷ ys) (suc n)
    by (Neither is also) = Neither is also
    by (Each u v is also holds) = Each u v is also holds
zip_at P [] (z ∷ ys) n all = absurd all
zip_at P (x ∷ xs) [] n all = absurd all

find_map : {A B : Type 0} (f : A → B) (p : A → Bool) (q : B → Bool) (keep : A → Bool) (xs : List A) → ((x : A) → keep x ≡ true → q (f x) ≡ p x) → list_all keep xs ≡ true →
    find q (map f xs) ≡ with_some (find p xs) (λ x. Some (f x))
find_map f p q keep [] same all = refl
find_map f p q keep (x ∷ xs) same all =
    let both = and_parts (keep x) (list_all keep xs) all in
    by (p x) refl (same x both.0) (find_map f p q keep xs same both.1)
  where
    by : (b : Bool) → p x ≡ b → q (f x) ≡ p x → find q (map f xs) ≡ with_some (find p xs) (λ x. Some (f x)) → find q (map f (x ∷ xs)) ≡ with_some (find p (x ∷ xs)) (λ x. Some (f x))
    by true is one rest = let two : q (f x) ≡ true = one ∙ is in rw (is, two) refl
    by false is one rest = let two : q (f x) ≡ false = one ∙ is in rw (is, two) rest

found_keeps : {A : Type 0} (p keep : A → Bool) (xs : List A) (v : A) → list_all keep xs ≡ true → find p xs ≡ Some v → keep v ≡ true
found_keeps p keep [] v all is = absurd (cc)
found_keeps p keep (x ∷ xs) v all is =
    let both = and_parts (keep x) (list_all keep xs) all in
    by (p x) refl is both.0 (λ there. found_keeps p keep xs v both.1 there)
  where
    by : (b : Bool) → p x ≡ b → find p (x ∷ xs) ≡ Some v → keep x ≡ true → (find p xs ≡ Some v → keep v ≡ true) → keep v ≡ true
    by true is there here rest = let e : Some x ≡ Some v = rw is at there in let one : x ≡ v = same_Some x v e in subst (λ z. keep z ≡ true) one here
    by false is there here rest = rest (rw is at there)

module _ (s : Setting) (c : Compiled) (y : Symbols) (rest : ℕ → ℕ) (i : ImageParts) (tables : HaveTables s c y i) (planned : IsPlanned c.plan) (m : MemoryMap) (is_for : IsFor s m)
    (frames : HasFrames s c) (at : Located) (t : State) (same : IsStoppedAs s c y rest i at t) (a : client.Located) (x : Element) (is : IsActivationAs s c y i at a x) where
  abbrev here : Known s c y rest i tables planned m is_for at t same a x is.element
  here = known s c y rest i tables planned m is_for at t same a x is

  row : IsSiteRow s c y here.suspension.procedure here.suspension.site a.procedure a.site x.site
  row = row_of_site s c y rest i tables planned m is_for at t same a x is

  abbrev Alike : Option (Exit Located) → Option (Exit State) → Type 0
  Alike e f = ExitsAlike (IsStoppedAs s c y rest i) (AreAs s c y i) (GoesOnAs s c y rest i) e f

  frame_small : x.frame < 2 ^ 64
  frame_small = omega (arith, is.found.frame, lies s c y rest i tables planned m is_for frames at t same a x is, is_for.small)

  -- ---- unwindings

  unwound_register : (r : ℕ) → is_callee_saves r ≡ true → image.unwound x t r ≡ word_at t (x.places r)
  unwound_register r saved = grind (arith, nat_tests, saved)

  unwound_value : (k : ℕ) → k < 8 → image.unwound x t (10 + k) ≡ t.registers (10 + k)
  unwound_value k less = grind (arith, nat_tests, less)

  unwinding_comes : Comes s c y rest i tables planned m is_for frames at t same a x is unwound_to (record t { registers = image.unwound x t })
  unwinding_comes = record {
    contents = refl;
    temps = refl;
    point = lies s c y rest i tables planned m is_for frames at t same a x is;
    sound = sound_unwound x t frame_small same.sound;
    memory = refl;
    holdings = record {
      zero = same.shown.holdings.zero;
      frame = is.found.frame;
      region = same.shown.holdings.region;
      back = tt;
      kept = λ r saved.
          let word : image.unwound x t r ≡ word_at t (place_of (is.element.mark.registers r)) = unwound_register r saved ∙ ap (word_at t) (is.found.places r) in
          subst (λ (n : ℕ). Represents y (content_at at.holdings (is.element.mark.registers r)) n) (sym word)
          (word_is y (stack_region s) at.store.memory at.holdings t same.shown.holdings same.shown.words (is.element.mark.registers r) (here.spots r saved));
      temps = λ r temporary. tt;
    };
    values = unwound_value;
  }

  pub unwinds_alike : (n : ℕ) → Alike ((places_askable s c).unwind_exit at a n) (image.unwind_exit (stack_region s) t x n)
  unwinds_alike n = by (zip_at (λ k u. IsUnwindRow y here.suspension.procedure k u) a.site.unwinds x.site.unwinds n row.unwinds)
    where
      by : ZipAt (λ k u. IsUnwindRow y here.suspension.procedure k u) a.site.unwinds x.site.unwinds n → Alike ((places_askable s c).unwind_exit at a n) (image.unwind_exit (stack_region s) t x n)
      by (Neither none also) = rw (none, also) tt
      by (Each k u there also is_row) =
          let exits = continuation_exits s c y rest i tables planned m is_for frames at t same a x is unwound_to u.continuation.0 (record t { registers = image.unwound x t }) (λ row. u.landing)
          unwinding_comes (λ row values node there code leads.
          AtLanding u.continuation.0 leads (is_row.landing ∙ ap (λ (q : ℕ). y.landing_of q k) (sym here.shows.procedure) ∙ ap (λ (j : ℕ). y.landing_of is.element.procedure j) (sym is_row.continuation))) in
          rw (there, also, ← is_row.continuation) exits

  -- ---- cuts

  cutting_comes : Comes s c y rest i tables planned m is_for frames at t same a x is cut_to (record t { registers = with_register t.registers 2 x.frame })
  cutting_comes = record {
    contents = refl;
    temps = refl;
    point = lies s c y rest i tables planned m is_for frames at t same a x is;
    sound = sound_register t 2 x.frame frame_small same.sound;
    memory = refl;
    holdings = record {
      zero = same.shown.holdings.zero;
      frame = is.found.frame;
      region = same.shown.holdings.region;
      back = tt;
      kept = λ r saved. subst (λ (n : ℕ). Represents y (at.holdings.point.kept r) n) (sym (other_is t.registers 2 x.frame r (apart r saved))) (same.shown.holdings.kept r saved);
      temps = λ r temporary. tt;
    };
    values = λ k less. other_is t.registers 2 x.frame (10 + k) (grind (arith, nat_tests));
  }
    where
      apart : (r : ℕ) → is_callee_saves r ≡ true → (r == 2) ≡ false
      apart r saved = grind (arith, nat_tests, saved)

  same_sizes : (activations : List Activation) (suspended : List Suspension) (es : List chain.Element) → AllZip (IsGhostOf s) activations suspended →
      AllZip (ShowsSuspension (shown_plan s c) at.holdings) suspended es → sum_by (frame_size s) (map (activation_of s c at) es) ≡ sum_by (frame_size s) activations
  same_sizes [] [] [] ghosts shows = refl
  same_sizes (b ∷ activations) (p ∷ suspended) (e ∷ es) ghosts shows =
      let rest = same_sizes activations suspended es ghosts.1 shows.1 in
      let first : frame_size s (activation_of s c at e) ≡ frame_size s b = ap (λ (q : ℕ). (place_row s q).frame) (shows.0.procedure ∙ sym ghosts.0.procedure) in
      sum_by-cons (frame_size s) (activation_of s c at e) (map (activation_of s c at) es)
      ∙ ap (λ (n : ℕ). n + sum_by (frame_size s) (map (activation_of s c at) es)) first
      ∙ ap (λ (n : ℕ). frame_size s b + n) rest ∙ sym (sum_by-cons (frame_size s) b activations)
  same_sizes [] [] (e ∷ es) ghosts shows = absurd shows
  same_sizes [] (p ∷ suspended) es ghosts shows = absurd ghosts
  same_sizes (b ∷ activations) [] es ghosts shows = absurd ghosts
  same_sizes (b ∷ activations) (p ∷ suspended) [] ghosts shows = absurd shows

  -- a continuation's value is the address of its pair in both
  dropped : drop a.younger (shown s c at).activations ≡ activation_of s c at is.element ∷ map (activation_of s c at) (drop (suc a.younger) (listed s c at))
  dropped = drop_map (activation_of s c at) a.younger (listed s c at) ∙ ap (map (activation_of s c at)) (drop_at a.younger (listed s c at) is.element is.is_listed)

  address_there : frame_address s (drop a.younger (shown s c at).activations) ≡ is.element.mark.at
  address_there =
      let k = a.younger in
      let marks = marked c.plan same.suspended (first_mark at.holdings.point) in
      let all : drop k (shown s c at).activations ≡ map (activation_of s c at) (drop k (marked c.plan same.suspended (first_mark at.holdings.point))) =
      drop_map (activation_of s c at) k (listed s c at) ∙ ap (λ (es : List chain.Element). map (activation_of s c at) (drop k es)) (lists s c y rest i tables planned m is_for at t same) in
      let sizes = same_sizes (drop k at.store.activations) (drop k same.suspended) (drop k (marked c.plan same.suspended (first_mark at.holdings.point)))
      (zip_drop (IsGhostOf s) k at.store.activations same.suspended same.walked.ghosts)
      (zip_drop (ShowsSuspension (shown_plan s c) at.holdings) k same.suspended (marked c.plan same.suspended (first_mark at.holdings.point))
      (shows_each s c y rest i tables planned m is_for at [] t same.suspended same.walked same.shown)) in
      ap (frame_address s) all ∙ ap (λ (n : ℕ). stack_top s - n) sizes ∙ sym (lies s c y rest i tables planned m is_for frames at t same a x is)

  exists : c.plan.is_procedure here.suspension.procedure ≡ true
  exists = chain_exists (shown_plan s c) (stack_top s) at.holdings.contents same.suspended at.holdings.point a.younger here.suspension same.walked.chain here.is_there

  none_there : {A : Type 0} (xs : List A) (k : ℕ) → slice_get xs k ≡ None → nat_lt k (length xs) ≡ true → ⊥
  none_there [] k is less = grind (arith, nat_tests, less)
  none_there (z ∷ xs) zero is less = absurd (cc)
  none_there (z ∷ xs) (suc k) is less = none_there xs k is (grind (arith, nat_tests, less))

  pair_same : (to k : ℕ) → nat_lt k (length a.procedure.conts) ≡ true →
      has_value x to (continuation_number k) ≡ (continuation_value s (drop a.younger (shown s c at).activations) k == to)
  pair_same to k inside = by (continuation_alike s c y rest i tables planned m is_for frames at t same a x is k)
    where
      by : ContinuationAlike s c y rest i tables planned m is_for frames at t same a x is k → has_value x to (continuation_number k) ≡ (continuation_value s (drop a.younger (shown s c at).activations) k == to)
      by (NoContinuation none also) = absurd (none_there a.procedure.conts k none inside)
      by (HasContinuation cont row there also is_row) =
          let first : has_value x to (continuation_number k) ≡ (x.frame + row.pair == to) =
          ap (λ (o : Option ContinuationRow). elim o as (λ _. Bool) [ Some r ↦ x.frame + r.pair == to | None ↦ false ]) also in
          let pairs : (c.plan.frame here.suspension.procedure).pairs ≡ (place_row s is.element.procedure).pairs =
          frames.pairs here.suspension.procedure exists ∙ ap (λ (q : ℕ). (place_row s q).pairs) (sym here.shows.procedure) in
          let value : continuation_value s (drop a.younger (shown s c at).activations) k ≡ x.frame + row.pair =
          ap (λ (as_ : List Activation). continuation_value s as_ k) dropped
          ∙ ap (λ (n : ℕ). n + slice_index_or (place_row s is.element.procedure).pairs k 0) (sym (ap (frame_address s) dropped) ∙ address_there ∙ sym is.found.frame)
          ∙ ap (λ (os : List ℕ). x.frame + slice_index_or os k 0) (sym pairs) ∙ ap (λ (n : ℕ). x.frame + n) (sym is_row.pair) in
          first ∙ ap (λ (n : ℕ). n == to) (sym value)

  pub cuts_alike : (to : ℕ) → Alike ((places_askable s c).cut_exit at a to) (image.cut_exit (stack_region s) t x to)
  cuts_alike to =
      let found : find (has_value x to) x.site.cuts ≡ with_some (find (λ k. continuation_value s (drop a.younger (shown s c at).activations) k == to) a.site.cuts) (λ k. Some (continuation_number k)) =
      ap (find (has_value x to)) row.cuts
      ∙ find_map continuation_number (λ k. continuation_value s (drop a.younger (shown s c at).activations) k == to) (has_value x to) (λ k. nat_lt k (length a.procedure.conts)) a.site.cuts
      (pair_same to) row.cuts_there in
      by (find (λ k. continuation_value s (drop a.younger (shown s c at).activations) k == to) a.site.cuts) refl found
    where
      by : (o : Option ℕ) → find (λ k. continuation_value s (drop a.younger (shown s c at).activations) k == to) a.site.cuts ≡ o →
          find (has_value x to) x.site.cuts ≡ with_some (find (λ k. continuation_value s (drop a.younger (shown s c at).activations) k == to) a.site.cuts) (λ k. Some (continuation_number k)) →
          Alike ((places_askable s c).cut_exit at a to) (image.cut_exit (stack_region s) t x to)
      by None none found =
          let also : find (has_value x to) x.site.cuts ≡ None = found ∙ ap (λ (o : Option ℕ). with_some o (λ k. Some (continuation_number k))) none in
          rw (none, also) tt
      by (Some k) there found =
          let also : find (has_value x to) x.site.cuts ≡ Some (continuation_number k) = found ∙ ap (λ (o : Option ℕ). with_some o (λ k. Some (continuation_number k))) there in
          let exits = continuation_exits s c y rest i tables planned m is_for frames at t same a x is cut_to k (record t { registers = with_register t.registers 2 x.frame }) (λ row. row.code)
          cutting_comes (λ row values node there code leads. AtLanding k leads code) in
          rw (there, also) exits

  -- ---- returns, of the youngest activation alone

  module _ (youngest : a.younger ≡ 0) where
    back_there : at.holdings.point.back ≡ ReturnTo here.suspension.procedure here.suspension.site
    back_there =
        back_is (shown_plan s c) (stack_top s) at.holdings.contents same.suspended at.holdings.point same.walked.chain
        ∙ by same.suspended (ap (slice_get same.suspended) (sym youngest) ∙ here.is_there)
      where
        by : (suspended : List Suspension) → slice_get suspended 0 ≡ Some here.suspension → back_of suspended ≡ ReturnTo here.suspension.procedure here.suspension.site
        by [] is = absurd (cc)
        by (p ∷ suspended) is = let one : p ≡ here.suspension = same_Some p here.suspension is in ap (λ (z : Suspension). ReturnTo z.procedure z.site) one

    return_address : t.registers 1 ≡ y.return_to is.element.procedure is.element.site
    return_address =
        let shows : Represents y (ReturnTo here.suspension.procedure here.suspension.site) (t.registers 1) =
        subst (λ (k : Content). Represents y k (t.registers 1)) back_there same.shown.holdings.back in
        let first : t.registers 1 ≡ y.return_to here.suspension.procedure here.suspension.site = shows in
        first ∙ ap (λ (q : ℕ). y.return_to q here.suspension.site) (sym here.shows.procedure) ∙ ap (λ (n : ℕ). y.return_to is.element.procedure n) (sym here.shows.site)

    returning_comes : Comes s c y rest i tables planned m is_for frames at t same a x is returned_to t
    returning_comes = record {
      contents = refl;
      temps = same.walked.temps;
      point = same.shown.at ∙ ap (λ (k : ℕ). frame_address s (drop k at.store.activations)) (sym youngest);
      sound = same.sound;
      memory = refl;
      holdings = same.shown.holdings;
      values = λ k less. refl;
    }

    site_there : slice_get a.procedure.sites is.element.site ≡ Some a.site
    site_there = is.site

    then_again : (o : Option ContinuationRow) (f : ContinuationRow → List Width) (g : List Width → Exit State) →
        with_some (with_some o (λ c. Some (f c))) (λ w. Some (g w)) ≡ with_some o (λ c. Some (g (f c)))
    then_again (Some row) f g = refl
    then_again None f g = refl

    abbrev back_with : ℕ → List Width → Exit State
    back_with n widths = record { widths = widths; resumed = λ values. at_pc (t.registers 1 + 4 * n) (with_values (stack_region s) values t) }

    alternate : (n k : ℕ) → slice_get a.site.returns n ≡ Some k →
        Alike (exit_over s c returned_to at a (exits.continuation_exit a.procedure k))
        (with_some (with_some (slice_get x.procedure.continuations k) (λ c. Some (parameter_widths x.procedure c))) (λ widths. Some (back_with n widths)))
    alternate n k there =
        let out = continuation_exits s c y rest i tables planned m is_for frames at t same a x is returned_to k t (λ row. t.registers 1 + 4 * n) returning_comes
        (λ row values node found code leads. Alternate a.procedure a.site is.element.site n k is.procedure is.site there leads (ap (λ (r : ℕ). r + 4 * n) return_address)) in
        subst (λ (o : Option (Exit State)). Alike (exit_over s c returned_to at a (exits.continuation_exit a.procedure k)) o)
        (sym (then_again (slice_get x.procedure.continuations k) (parameter_widths x.procedure) (back_with n))) out

    normal : (n : ℕ) → n ≡ length a.site.returns → Alike (exit_over s c returned_to at a (Some (exits.normal_exit a.site))) (Some (back_with n x.site.results))
    normal n last = (
      sym row.results,
      λ values count fit.
          let few : length values ≤ 64 = let many = length-map a.site.results target_width in omega (arith, count, many, row.few) in
          resumes s c y rest i tables planned m is_for frames at t same a x is returned_to (Back values) t (t.registers 1 + 4 * n) returning_comes
          (fit_words (map target_width a.site.results) values count fit) few
          (λ node leads.
          let out = some_by (site_exits c.graphs is.element.procedure is.element.site) (λ (e : Exits). e.normal) node leads in
          Normal a.procedure a.site is.element.site out.0 is.procedure is.site out.1 out.2
          (ap (λ (r : ℕ). r + 4 * n) return_address ∙ ap (λ (k : ℕ). y.return_to is.element.procedure is.element.site + 4 * k) last)),
    )

    abbrev places_at : ℕ → Bool → Option exits.Exit
    places_at n b = elim b [
      | true ↦ with_some (slice_get a.site.returns n) (exits.continuation_exit a.procedure)
      | false ↦ elim ((n == length a.site.returns) && not a.site.never) [ true ↦ Some (exits.normal_exit a.site) | false ↦ None ]
    ]

    abbrev widths_at : ℕ → Bool → Option (List Width)
    widths_at n b = elim b [
      | true ↦ with_some (slice_get x.site.returns n) (λ k. with_some (continuation_row x.procedure k) (λ c. Some (parameter_widths x.procedure c)))
      | false ↦ elim ((n == length x.site.returns) && not x.site.never_returns) [ true ↦ Some x.site.results | false ↦ None ]
    ]

    abbrev Both : ℕ → Option exits.Exit → Option (List Width) → Type 0
    Both n e w = Alike (exit_over s c returned_to at a e) (with_some w (λ widths. Some (back_with n widths)))

    pub returns_alike : (n : ℕ) → Alike ((places_askable s c).return_exit at a n) (image.return_exit (stack_region s) t x n)
    returns_alike n = by (nat_lt n (length a.site.returns)) refl (nat_lt n (length x.site.returns)) refl
      where
        count : length x.site.returns ≡ length a.site.returns
        count = ap (λ (ks : List ContinuationNumber). length ks) row.returns ∙ length-map a.site.returns continuation_number

        same_test : (b : Bool) → nat_lt n (length a.site.returns) ≡ b → nat_lt n (length x.site.returns) ≡ b
        same_test b is = ap (λ (k : ℕ). nat_lt n k) count ∙ is

        number : slice_get x.site.returns n ≡ with_some (slice_get a.site.returns n) (λ k. Some (continuation_number k))
        number = ap (λ (ks : List ContinuationNumber). slice_get ks n) row.returns ∙ get_map continuation_number n a.site.returns

        by_number : (o : Option ℕ) → slice_get a.site.returns n ≡ o →
            Both n (with_some o (exits.continuation_exit a.procedure)) (with_some (with_some o (λ k. Some (continuation_number k))) (λ k. with_some (continuation_row x.procedure k) (λ c. Some (parameter_widths x.procedure c))))
        by_number (Some k) there = alternate n k there
        by_number None there = tt

        by_normal : (b : Bool) → ((n == length a.site.returns) && not a.site.never) ≡ b → Both n (elim b as (λ _. Option exits.Exit) [ true ↦ Some (exits.normal_exit a.site) | false ↦ None ])
            (elim b as (λ _. Option (List Width)) [ true ↦ Some x.site.results | false ↦ None ])
        by_normal true is = let both = and_parts (n == length a.site.returns) (not a.site.never) is in normal n (grind (arith, nat_tests, both.0))
        by_normal false is = tt

        by : (b : Bool) → nat_lt n (length a.site.returns) ≡ b → (d : Bool) → nat_lt n (length x.site.returns) ≡ d → Both n (places_at n (nat_lt n (length a.site.returns))) (widths_at n (nat_lt n (length x.site.returns)))
        by true is d also =
            let first : widths_at n (nat_lt n (length x.site.returns)) ≡ with_some (with_some (slice_get a.site.returns n) (λ k. Some (continuation_number k))) (λ k. with_some (continuation_row x.procedure k) (λ c. Some (parameter_widths x.procedure c))) =
            ap (widths_at n) (same_test true is) ∙ ap (λ (o : Option ContinuationNumber). with_some o (λ k. with_some (continuation_row x.procedure k) (λ c. Some (parameter_widths x.procedure c)))) number in
            subst (λ (w : Option (List Width)). Both n (places_at n (nat_lt n (length a.site.returns))) w) (sym first)
            (subst (λ (e : Option exits.Exit). Both n e (with_some (with_some (slice_get a.site.returns n) (λ k. Some (continuation_number k))) (λ k. with_some (continuation_row x.procedure k) (λ c. Some (parameter_widths x.procedure c)))))
            (sym (ap (places_at n) is)) (by_number (slice_get a.site.returns n) refl))
        by false is d also =
            let test : ((n == length x.site.returns) && not x.site.never_returns) ≡ ((n == length a.site.returns) && not a.site.never) =
            ap (λ (k : ℕ). (n == k) && not x.site.never_returns) count ∙ ap (λ (b : Bool). (n == length a.site.returns) && not b) row.never_returns in
            let first : widths_at n (nat_lt n (length x.site.returns)) ≡ elim ((n == length a.site.returns) && not a.site.never) as (λ _. Option (List Width)) [ true ↦ Some x.site.results | false ↦ None ] =
            ap (widths_at n) (same_test false is) ∙ ap (λ (b : Bool). elim b as (λ _. Option (List Width)) [ true ↦ Some x.site.results | false ↦ None ]) test in
            subst (λ (w : Option (List Width)). Both n (places_at n (nat_lt n (length a.site.returns))) w) (sym first)
            (subst (λ (e : Option exits.Exit). Both n e (elim ((n == length a.site.returns) && not a.site.never) as (λ _. Option (List Width)) [ true ↦ Some x.site.results | false ↦ None ]))
            (sym (ap (places_at n) is)) (by_normal ((n == length a.site.returns) && not a.site.never) refl))
