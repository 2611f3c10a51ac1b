-- In an image with the text of a program the code of each procedure is what is required of it.
use Rattle.std.proofs.Common.{◌≡◌, ◌⊎◌, inl, inr, ℕ, zero, suc, ◌+◌, ◌*◌, ◌-◌, ◌%◌, ◌<◌, ◌≤◌, ◌^◌, refl, sym, ◌∙◌, ap, subst, arith, Bool, true, false, List, [], ◌∷◌, ◌++◌, add-zero, length, append_assoc, map, get_or, Option, Some, None, slice_get}
use Rattle.std.specs.Prelude.{◌==◌, nat_lt, slice_index}
use Rattle.std.specs.List.{All}
use Rattle.std.proofs.lemmas.Bool.{eqb-true}
use Rattle.std.proofs.lemmas.Bool.Decides.{nat_tests}
use Rattle.std.proofs.lemmas.List.{get_or-map, get_or_default, get_or_past, length-map}
use Rattle.std.proofs.lemmas.Option.{slice_get-get_or, get_or_from_slice_get, slice_get_within}
use Rattle.rv_table.specs.Words.{sum}
use Rattle.rv_table.specs.declared.request.Request.TheVariants.{End}
use Rattle.rv_asm.proofs.Shared.{codes_do}
use Rattle.rv_asm.specs.Appending.{Codes}
use Rattle.rv_asm.specs.Filling.{IsReached, filled}
use Rattle.rv_asm.specs.Finishing.{Contains, GoesToCode, address_of}
use Rattle.rv_asm.specs.Parts.{Code, Stand}
use Rattle.rv_asm.specs.declared.part.Label.{Label}
use Rattle.rv_asm.specs.declared.part.Meaning.{Meaning}
use Rattle.rv_asm.specs.declared.part.Part.{Part}
use Rattle.rv_asm.specs.declared.part.Part.TheVariants.{Place}
use Rattle.cmm_chain.specs.declared.frame.Frame.{Frame}
use Rattle.cmm_chain.specs.declared.frame.Location.{Location}
use Rattle.cmm_chain.specs.declared.frame.Location.TheVariants.{Slot}
use Rattle.cmm_program.specs.declared.placement.PlaceRow.{PlaceRow}
use Rattle.cmm_program.specs.declared.program.Program.{Program}
use Rattle.cmm_program.specs.Errors.{with_some}
use Rattle.cmm_program.specs.Layout.{label_address, label_addresses, row_of}
use Rattle.cmm_program.specs.Performing.{procedure_from}
use Rattle.cmm_program.specs.State.{Setting}
use Rattle.cmm_graph.specs.declared.graph.Graph.{Graph}
use Rattle.cmm_graph.specs.declared.number.NodeId.{NodeId}
use Rattle.cmm_graph.specs.declared.operand.Local.{Local}
use Rattle.cmm_graph.specs.declared.operand.Local.TheVariants as local
use Rattle.cmm_graph.specs.GraphControl.{in_graph}
use Rattle.cmm_graph.specs.Paths.{landing_of}
use Rattle.cmm_live.specs.Locals.{local_number as number_of_local}
use Rattle.cmm_emit_laws.specs.Represented.{AreLandings}
use Rattle.cmm_emit_laws.specs.Words.{Symbols}
use Rattle.cmm_image_machine.specs.Machine.{Launch, map_of}
use Rattle.cmm_effects.specs.Requests.{AsksFor}
use Rattle.cmm_emit_laws.specs.Finished.{Finished, code_of}
use Rattle.cmm_emit_laws.specs.Placing.{FinishedCodeStands}
use Rattle.cmm_unit_code.specs.Joined.{reference_value}
use Rattle.cmm_unit_code.specs.Texts.{address_in}
use Rattle.cmm_unit_code.specs.declared.text.Text.{Text}
use Rattle.cmm_unit_code.specs.declared.unit_code.Reference.{Reference}
use Rattle.cmm_unit_code.specs.declared.unit_code.Reference.TheVariants.{Register, Label as Named, Procedure}
use Rattle.cmm_unit_code.specs.declared.unit_code.UnitCode.{UnitCode}
use Rattle.cmm_allocate.specs.declared.procedure.ProcedurePlaces.{ProcedurePlaces}
use Rattle.cmm_allocate.specs.Compiling.{compiled, no_frame, no_place}
use Rattle.cmm_allocate.specs.Placing.{placement_rows}
use Rattle.cmm_emit.specs.declared.context.Context.{Context}
use Rattle.cmm_emit.specs.declared.context.Targets.{Targets}
use Rattle.cmm_emit.specs.Naming.{has_named, label_at, local_number, named_at}
use Rattle.cmm_emit.specs.Standing.{IsContextOf}
use Rattle.cmm_emit.proofs.Addresses.{place_fine}
use Rattle.cmm_emit.proofs.Belonging.{IsOne, entry_label, first_label_grows, length-entry_labels, one_of, share_at, there_at}
use Rattle.cmm_emit.proofs.Numbering.{label_from, length-labels_from}
use Rattle.cmm_emit.proofs.Outlined.{IsIn, IsOwn, data_label, procedure_label, register_label}
use Rattle.cmm_emit.proofs.Symbolled.{references_in}
use Rattle.cmm_emit.proofs.Standing.{HasProcedure, IsJoint, IsLaid, Laid, StandAt, unit_of, value_in}
use Rattle.cmm_emit.proofs.Meanings.{AreMeant, fixes_reached, inner_stands, symbol_stands, targets_aligned}
use Rattle.cmm_emit.specs.Contexts.{first_label}
use Rattle.cmm_emit.specs.Finishing.{AreFinished}
use Rattle.cmm_emit.specs.Labels.{is_reached}
use Rattle.cmm_emit.specs.Outlines.{first_own, own}
use Rattle.cmm_emit.specs.declared.outline.Outline.{Outline}
use Rattle.rv_table.specs.Machine.{Region}
use Rattle.cmm_abi.specs.Regions.{global_address}

-- ---- rows of the placement

abbrev pub no_row : PlaceRow
no_row = record { code = 0; frame = 0; pairs = []; stack = [] }

row_code : (found : List ProcedurePlaces) (codes : List ℕ) (q : ℕ) → length codes ≡ length found → (get_or (placement_rows found codes) q no_row).code ≡ get_or codes q 0
row_code [] [] q same = refl
row_code [] (code ∷ codes) q same = absurd (omega (arith, same))
row_code (k ∷ found) [] q same = absurd (omega (arith, same))
row_code (k ∷ found) (code ∷ codes) zero same = refl
row_code (k ∷ found) (code ∷ codes) (suc q) same = row_code found codes q (omega (arith, same))

-- a procedure is found by its row
pub row_found : (rows : List PlaceRow) (n address q : ℕ) → procedure_from n address rows ≡ Some q → (n ≤ q) × ((get_or rows (q - n) no_row).code ≡ address)
row_found [] n address q is = absurd (cc)
row_found (row ∷ rows) n address q is = by (row.code == address) refl (λ e. row_found rows (suc n) address q e) is
  where
    by : (b : Bool) → (row.code == address) ≡ b →
        (procedure_from (suc n) address rows ≡ Some q → (suc n ≤ q) × ((get_or rows (q - suc n) no_row).code ≡ address)) →
        elim b as (λ _. Option ℕ) [ true ↦ Some n | false ↦ procedure_from (suc n) address rows ] ≡ Some q →
        (n ≤ q) × ((get_or (row ∷ rows) (q - n) no_row).code ≡ address)
    by true same later e =
        let one : n ≡ q = cc in
        let none : q - n ≡ 0 = omega (arith, one) in
        ((omega (arith, one)), subst (λ (z : ℕ). (get_or (row ∷ rows) z no_row).code ≡ address) (sym none) (eqb-true row.code address same))
    by false other later e =
        let rest = later e in
        let far = rest.0 in
        let next : q - n ≡ suc (q - suc n) = omega (arith, far) in
        ((omega (arith, far)), subst (λ (z : ℕ). (get_or (row ∷ rows) z no_row).code ≡ address) (sym next) rest.1)

-- ---- landings

-- labels that have the addresses of landings, from one on
are_landings : (y : Symbols) (at : ℕ → ℕ) (q k : ℕ) (ls : List Label) →
    ((j : ℕ) → j < length ls → (at (label_at ls j).number ≡ y.landing_of q (k + j)) × (at (label_at ls j).number < 2 ^ 64)) → AreLandings y at q k ls
are_landings y at q k [] each = tt
are_landings y at q k (l ∷ ls) each =
    let first = each 0 (omega arith) in
    let here : k + 0 ≡ k = omega arith in (
      subst (λ (z : ℕ). at l.number ≡ y.landing_of q z) here first.0,
      (
        first.1,
        are_landings y at q (suc k) ls
            (λ j less.
            let next : k + suc j ≡ suc k + j = omega arith in
            subst (λ (z : ℕ). (at (label_at ls j).number ≡ y.landing_of q z) × (at (label_at ls j).number < 2 ^ 64)) next (each (suc j) (omega (arith, less)))),
      ),
    )

mod_small : (a : ℕ) → a < 2 ^ 64 → a % 2 ^ 64 ≡ a
mod_small a less = omega (arith, less)

-- ---- a text

module _ (p : Program) (graphs : List Graph) (found : List ProcedurePlaces) (addresses : List ℕ) (t : Text) (known : IsJoint p graphs found addresses t) where
  -- what the symbols of some code stand for
  abbrev pub value : UnitCode → ℕ → ℕ
  value = value_in addresses t

  abbrev pub unit : ℕ → Laid
  unit q = unit_of known.laid q

  -- what the labels of a procedure's unit stand for
  abbrev pub at : ℕ → ℕ → ℕ
  at q = address_of (unit q).labels (unit q).places (unit q).at (value (unit q).code)

  abbrev context_in : ℕ → Option Context
  context_in q = slice_get (unit q).outline.contexts (q - (unit q).outline.first)

  abbrev pub nodes_in : ℕ → List Label
  nodes_in q = elim (context_in q) [ Some c ↦ c.nodes | None ↦ [] ]

  abbrev pub sites_in : ℕ → List Label
  sites_in q = elim (context_in q) [ Some c ↦ c.sites | None ↦ [] ]

  abbrev pub landings_in : ℕ → List Label
  landings_in q = elim (context_in q) [ Some c ↦ c.landings | None ↦ [] ]

  abbrev pub finished : Finished
  finished = record {
    labels = at;
    node_at = λ q n. at q (label_at (nodes_in q) n.number).number;
    symbols = record {
      return_to = λ q site. at q (label_at (sites_in q) site).number;
      landing_of = λ q k. at q (label_at (landings_in q) k).number;
      last_return = t.last;
    };
  }

  -- ---- what symbols stand for

  address_low : (m : ℕ) → get_or addresses m 0 + 2048 < 2 ^ 31
  address_low m = by (nat_lt m (length addresses)) refl
    where
      by : (b : Bool) → nat_lt m (length addresses) ≡ b → get_or addresses m 0 + 2048 < 2 ^ 31
      by true less =
          let inside : m < length addresses = grind (arith, nat_tests, less) in
          let there = known.lie m 0 inside in
          let most = there.to in
          let size = known.range.data_size in
          omega (arith, most, size)
      by false past =
          let out : length addresses ≤ m = grind (arith, nat_tests, past) in
          let none = get_or_past addresses m 0 out in
          omega (arith, none)

  reference_low : (r : Reference) → IsIn p r → reference_value addresses t.procedures r + 2048 < 2 ^ 31
  reference_low (Register n) less = let few = known.range.registers in omega (arith, few, less)
  reference_low (Named n) less = address_low n
  reference_low (Procedure n) less = let low = known.procedures_low n in omega (arith, low)

  pub small : (u : UnitCode) → ((k : ℕ) (r : Reference) → slice_get u.references k ≡ Some r → IsIn p r) → (n : ℕ) → value u n + 2048 < 2 ^ 31
  small u inside n = by (slice_get u.references n) refl
    where
      by : (o : Option Reference) → slice_get u.references n ≡ o → elim o as (λ _. ℕ) [ Some r ↦ reference_value addresses t.procedures r | None ↦ 0 ] + 2048 < 2 ^ 31
      by (Some r) there = reference_low r (inside n r there)
      by None past = omega arith

  -- a symbol stands for what it names
  pub stands_for_reference : (u : UnitCode) (k : ℕ) (r : Reference) → slice_get u.references k ≡ Some r → value u k ≡ reference_value addresses t.procedures r
  stands_for_reference u k r there = ap (λ (o : Option Reference). elim o as (λ _. ℕ) [ Some z ↦ reference_value addresses t.procedures z | None ↦ 0 ]) there

  reached_aligned : (r : Reference) → is_reached r ≡ true → reference_value addresses t.procedures r % 4 ≡ 0
  reached_aligned (Register n) is = absurd (cc)
  reached_aligned (Named n) is = absurd (cc)
  reached_aligned (Procedure n) is = known.procedures_aligned n

  pub aligned : (u : UnitCode) (k : ℕ) (r : Reference) → slice_get u.references k ≡ Some r → is_reached r ≡ true → value u k % 4 ≡ 0
  aligned u k r there is = subst (λ (a : ℕ). a % 4 ≡ 0) (sym (stands_for_reference u k r there)) (reached_aligned r is)

  -- ---- a unit

  module _ (x : Laid) (is : IsLaid p graphs found addresses t x) where
    abbrev o : Outline
    o = x.outline

    abbrev x_at : ℕ → ℕ
    x_at = address_of x.labels x.places x.at (value x.code)

    pub meant : AreMeant x.code.references x.labels
    meant =
        subst (λ (rs : List Reference). AreMeant rs x.labels) (sym is.references)
        (record { symbols = is.whole.symbols; inner = is.whole.inner })

    -- it names what the program has
    pub named_in : (k : ℕ) (r : Reference) → slice_get x.code.references k ≡ Some r → IsIn p r
    named_in k r there =
        references_in p (own o graphs) o.first (length (own o p.procs)) k r
        (ap (λ (rs : List Reference). slice_get rs k) (sym (is.references ∙ (is.outline.references ∙ is.outline.are_symbols.references))) ∙ there)

    low : x.at + length x.code.code ≤ 2 ^ 30
    low = let within = is.stands.within in let room = known.room in omega (arith, within, room)

    -- a label behind the symbols
    pub inner_fine : (l : Label) → length o.references ≤ l.number → (x_at l.number ≡ slice_index x.places l.number + x.at) × ((x_at l.number % 4 ≡ 0) × (x_at l.number ≤ 2 ^ 30))
    inner_fine l far =
        let same = inner_stands x.code.references x.labels meant x.places x.at (value x.code) l.number (subst (λ (rs : List Reference). length rs ≤ l.number) (sym is.references) far) in
        let fine = place_fine x.labels x.parts (length x.code.code) x.places is.done.have l.number in
        let four = is.stands.aligned in
        let here = fine.0 in
        let most = fine.1 in
        (same, (subst (λ (a : ℕ). a % 4 ≡ 0) (sym same) (omega (arith, here, four)), omega (arith, same, most, low)))

    -- the labels of its own procedures
    pub entries_counted : length o.entries ≡ length o.contexts
    entries_counted =
        let contexts = is.outline.contexts.count in
        let procs = is.can.graph_count in
        ap (λ (ls : List Label). length ls) is.outline.entries ∙ length-entry_labels o.contexts (own o graphs) (omega (arith, contexts, procs))

    abbrev all_entries : length o.entries ≡ length (own o p.procs)
    all_entries = entries_counted ∙ is.outline.contexts.count

    module _ (k : ℕ) (g : Graph) (one : IsOne p (own o p.procs) (own o graphs) (own o found) o k g) where
      abbrev c : Context
      c = one.context

      abbrev first : ℕ
      first = first_label (first_own o) (own o p.procs) (own o graphs) k

      first_far : length o.references ≤ first
      first_far = let grows = first_label_grows (first_own o) (own o p.procs) (own o graphs) k in omega (arith, grows)

      pub nodes_counted : length c.nodes ≡ length g.nodes
      nodes_counted = ap (λ (ls : List Label). length ls) one.made.nodes ∙ length-labels_from first (length g.nodes)

      pub sites_counted : length c.sites ≡ length one.procedure.sites
      sites_counted = ap (λ (ls : List Label). length ls) one.made.sites ∙ length-labels_from (first + length g.nodes) (length one.procedure.sites)

      pub landings_counted : length c.landings ≡ length g.continuations
      landings_counted = ap (λ (ls : List Label). length ls) one.made.landings ∙ length-map g.continuations (λ (n : NodeId). label_at c.nodes n.number)

      node_far : (m : ℕ) → m < length g.nodes → length o.references ≤ (label_at c.nodes m).number
      node_far m less =
          let label : label_at c.nodes m ≡ record { number = first + m } =
          ap (λ (ls : List Label). label_at ls m) one.made.nodes ∙ label_from first (length g.nodes) m (record { number = 0 }) less in
          let number = ap (λ (z : Label). z.number) label in
          omega (arith, number, first_far)

      site_far : (m : ℕ) → m < length one.procedure.sites → length o.references ≤ (label_at c.sites m).number
      site_far m less =
          let label : label_at c.sites m ≡ record { number = first + length g.nodes + m } =
          ap (λ (ls : List Label). label_at ls m) one.made.sites ∙ label_from (first + length g.nodes) (length one.procedure.sites) m (record { number = 0 }) less in
          let number = ap (λ (z : Label). z.number) label in
          omega (arith, number, first_far)

      -- the label of a landing is that of its node
      pub landing_label : (m : ℕ) (n : NodeId) → slice_get g.continuations m ≡ Some n → label_at c.landings m ≡ label_at c.nodes n.number
      landing_label m n there =
          let less = slice_get_within g.continuations m n there in
          ap (λ (ls : List Label). label_at ls m) one.made.landings
          ∙ (get_or-map (λ (i : NodeId). label_at c.nodes i.number) g.continuations m n (record { number = 0 }) less
          ∙ ap (λ (i : NodeId). label_at c.nodes i.number) (get_or_from_slice_get g.continuations m n n there))

      pub landing_inside : (m : ℕ) (n : NodeId) → slice_get g.continuations m ≡ Some n → n.number < length g.nodes
      landing_inside m n there =
          let less = slice_get_within g.continuations m n there in
          subst (λ (i : NodeId). i.number < length g.nodes) (get_or_from_slice_get g.continuations m n n there) (one.can.landings m n less)

      pub node_fine : (m : ℕ) → m < length g.nodes → (x_at (label_at c.nodes m).number % 4 ≡ 0) × (x_at (label_at c.nodes m).number ≤ 2 ^ 30)
      node_fine m less = (inner_fine (label_at c.nodes m) (node_far m less)).1

      pub site_fine : (m : ℕ) → m < length one.procedure.sites → (x_at (label_at c.sites m).number % 4 ≡ 0) × (x_at (label_at c.sites m).number ≤ 2 ^ 30)
      site_fine m less = (inner_fine (label_at c.sites m) (site_far m less)).1

      pub node_place : (m : ℕ) → m < length g.nodes → x_at (label_at c.nodes m).number ≡ slice_index x.places (label_at c.nodes m).number + x.at
      node_place m less = (inner_fine (label_at c.nodes m) (node_far m less)).0

      pub site_is : (m : ℕ) → m < length one.procedure.sites → x_at (label_at c.sites m).number ≡ slice_index x.places (label_at c.sites m).number + x.at
      site_is m less = (inner_fine (label_at c.sites m) (site_far m less)).0

      -- the label of a procedure is that of its first node
      pub entry_same : label_at o.entries k ≡ label_at c.nodes g.first.number
      entry_same = ap (λ (ls : List Label). label_at ls k) is.outline.entries ∙ entry_label o.contexts (own o graphs) k c g one.is_context one.is_graph

      -- the address of a procedure is that of its first node
      pub entry_is : get_or t.procedures (o.first + k) 0 ≡ x_at (label_at c.nodes g.first.number).number
      entry_is =
          let inside = slice_get_within o.contexts k c one.is_context in
          is.entries k inside
          ∙ (ap (λ (l : Label). slice_index x.places l.number + x.at) entry_same ∙ sym (inner_fine (label_at c.nodes g.first.number) (node_far g.first.number one.can.first)).0)

    -- ---- the labels of all procedures

    -- one of its own, by its index
    pub one_at : (k : ℕ) → k < length o.contexts → (g : Graph) × IsOne p (own o p.procs) (own o graphs) (own o found) o k g
    one_at k less =
        let contexts = is.outline.contexts.count in
        let count = is.can.graph_count in
        let g = there_at (own o graphs) k (omega (arith, less, contexts, count)) in
        (g.0, one_of p (own o p.procs) (own o graphs) (own o found) o is.outline is.can k g.0 g.1)

    symbol_number : (l : Label) (r : Reference) → slice_get o.references l.number ≡ Some r → x_at l.number ≡ reference_value addresses t.procedures r
    symbol_number l r there =
        let here : slice_get x.code.references l.number ≡ Some r = ap (λ (rs : List Reference). slice_get rs l.number) is.references ∙ there in
        symbol_stands x.code.references x.labels meant x.places x.at (value x.code) l.number r here ∙ stands_for_reference x.code l.number r here

    -- each stands for the address of its procedure
    pub target_is : (k : ℕ) → has_named o.targets.procedures k ≡ true → x_at (named_at o.targets.procedures k).number ≡ get_or t.procedures k 0
    target_is k has = by (procedure_label p (own o p.procs) (own o graphs) (own o found) o is.outline all_entries k has)
      where
        l : Label
        l = named_at o.targets.procedures k

        by : IsOwn p (own o p.procs) (own o graphs) (own o found) o is.outline all_entries k l ⊎ (slice_get o.references l.number ≡ Some (Procedure k)) → x_at l.number ≡ get_or t.procedures k 0
        by (inl mine) =
            let j = mine.number in
            let one = one_at j (let inside = mine.inside in omega (arith, inside, entries_counted)) in
            ap (λ (z : Label). x_at z.number) mine.label
            ∙ (ap (λ (z : Label). x_at z.number) (entry_same j one.0 one.1) ∙ (sym (entry_is j one.0 one.1) ∙ ap (λ (m : ℕ). get_or t.procedures m 0) mine.is))
        by (inr other) = symbol_number l (Procedure k) other

    pub data_value : (k : ℕ) → has_named o.targets.data_labels k ≡ true → x_at (named_at o.targets.data_labels k).number ≡ get_or (label_addresses p) k 0
    data_value k has =
        symbol_number (named_at o.targets.data_labels k) (Named k) (data_label p (own o p.procs) (own o graphs) (own o found) o is.outline all_entries k has)
        ∙ ap (λ (ns : List ℕ). get_or ns k 0) known.is_addresses

    pub register_value : (r : ℕ) → has_named o.targets.registers r ≡ true → (w : Region) → w.address + x_at (named_at o.targets.registers r).number ≡ global_address w r
    register_value r has w =
        let number = symbol_number (named_at o.targets.registers r) (Register r) (register_label p (own o p.procs) (own o graphs) (own o found) o is.outline all_entries r has) in
        omega (arith, number)

  -- ---- a procedure

  -- what belongs to a procedure, in its unit
  pub record IsHere (q : ℕ) (g : Graph) : Type 0 where
    pub less : q < length p.procs
    pub is : IsLaid p graphs found addresses t (unit q)
    pub number : ℕ
    pub place : (unit q).outline.first + number ≡ q
    pub inside : number < length (unit q).outline.contexts
    pub one : IsOne p (own (unit q).outline p.procs) (own (unit q).outline graphs) (own (unit q).outline found) (unit q).outline number g
    pub is_graph : slice_get graphs q ≡ Some g
    pub is_procedure : slice_get p.procs q ≡ Some one.procedure
    pub is_found : slice_get found q ≡ Some one.places

  -- what a list has for a procedure, its unit's share has too
  program_has : {A : Type 0} (q : ℕ) (has : HasProcedure (unit q) q) (xs : List A) → slice_get (own (unit q).outline xs) has.number ≡ slice_get xs q
  program_has q has xs = share_at (unit q).outline.first (length (unit q).outline.contexts) xs has.number has.inside ∙ ap (λ (m : ℕ). slice_get xs m) has.is

  pub here : (q : ℕ) (g : Graph) → slice_get graphs q ≡ Some g → IsHere q g
  here q g there =
      let less : q < length p.procs = let count = known.graph_count in omega (arith, slice_get_within graphs q g there, count) in
      let unit_ = known.units q less in
      let has = unit_.1 in
      let o = (unit q).outline in
      let one = one_of p (own o p.procs) (own o graphs) (own o found) o unit_.0.outline unit_.0.can has.number g (program_has q has graphs ∙ there) in
      record {
        less = less;
        is = unit_.0;
        number = has.number;
        place = has.is;
        inside = has.inside;
        one = one;
        is_graph = there;
        is_procedure = sym (program_has q has p.procs) ∙ one.is_procedure;
        is_found = sym (program_has q has found) ∙ one.is_found;
      }

  module _ (q : ℕ) (g : Graph) (this : IsHere q g) where
    abbrev this_context : Context
    this_context = this.one.context

    context_is_there : context_in q ≡ Some this_context
    context_is_there =
        let e : q - (unit q).outline.first ≡ this.number = let place = this.place in omega (arith, place) in
        ap (λ (m : ℕ). slice_get (unit q).outline.contexts m) e ∙ this.one.is_context

    nodes_are : nodes_in q ≡ this_context.nodes
    nodes_are = ap (λ (z : Option Context). elim z as (λ _. List Label) [ Some y ↦ y.nodes | None ↦ [] ]) context_is_there

    sites_are : sites_in q ≡ this_context.sites
    sites_are = ap (λ (z : Option Context). elim z as (λ _. List Label) [ Some y ↦ y.sites | None ↦ [] ]) context_is_there

    landings_are : landings_in q ≡ this_context.landings
    landings_are = ap (λ (z : Option Context). elim z as (λ _. List Label) [ Some y ↦ y.landings | None ↦ [] ]) context_is_there

    pub node_is : (n : ℕ) → finished.node_at q (record { number = n }) ≡ at q (label_at this_context.nodes n).number
    node_is n = ap (λ (ls : List Label). at q (label_at ls n).number) nodes_are

    pub node_fits : (n : ℕ) → n < length g.nodes → (at q (label_at this_context.nodes n).number % 4 ≡ 0) × (at q (label_at this_context.nodes n).number ≤ 2 ^ 30)
    node_fits n less = node_fine (unit q) this.is this.number g this.one n less

    -- the code of a landing is where the symbols say
    pub lands : (k : ℕ) (n : NodeId) → slice_get g.continuations k ≡ Some n → finished.node_at q n ≡ finished.symbols.landing_of q k
    lands k n is =
        node_is n.number
        ∙ (ap (λ (l : Label). at q l.number) (sym (landing_label (unit q) this.is this.number g this.one k n is)) ∙ ap (λ (ls : List Label). at q (label_at ls k).number) (sym landings_are))

    pub lands_inside : (k : ℕ) (n : NodeId) → slice_get g.continuations k ≡ Some n → n.number < length g.nodes
    lands_inside k n is = landing_inside (unit q) this.is this.number g this.one k n is

    -- it begins where the text says
    pub begins_at : get_or t.procedures q 0 ≡ at q (label_at this_context.nodes g.first.number).number
    begins_at = ap (λ (m : ℕ). get_or t.procedures m 0) (sym this.place) ∙ entry_is (unit q) this.is this.number g this.one

    -- control comes back to a site where the text says
    pub returns_there : (n : ℕ) → n < length this.one.procedure.sites → address_in t.sites q n ≡ Some (finished.symbols.return_to q n)
    returns_there n less =
        let l = label_at this_context.sites n in
        let inside : n < length this_context.sites = omega (arith, less, sites_counted (unit q) this.is this.number g this.one) in
        let there = this.is.sites this.number n this_context l this.one.is_context (slice_get-get_or this_context.sites n (record { number = 0 }) inside) in
        let place : (unit q).at + slice_index (unit q).places l.number ≡ at q l.number = let is = site_is (unit q) this.is this.number g this.one n less in omega (arith, is) in
        ap (λ (m : ℕ). address_in t.sites m n) (sym this.place) ∙ (there ∙ (ap Some place ∙ ap (λ (ls : List Label). Some (at q (label_at ls n).number)) (sym sites_are)))

    -- and lands where it says
    pub lands_there : (k : ℕ) (n : NodeId) → slice_get g.continuations k ≡ Some n → address_in t.landings q k ≡ Some (finished.symbols.landing_of q k)
    lands_there k n is =
        let l = label_at this_context.landings k in
        let within_ = slice_get_within g.continuations k n is in
        let inside : k < length this_context.landings = omega (arith, within_, landings_counted (unit q) this.is this.number g this.one) in
        let there = this.is.lands this.number k this_context l this.one.is_context (slice_get-get_or this_context.landings k (record { number = 0 }) inside) in
        let label : l ≡ label_at this_context.nodes n.number = landing_label (unit q) this.is this.number g this.one k n is in
        let node : at q (label_at this_context.nodes n.number).number ≡ slice_index (unit q).places (label_at this_context.nodes n.number).number + (unit q).at =
        node_place (unit q) this.is this.number g this.one n.number (lands_inside k n is) in
        let same : at q l.number ≡ slice_index (unit q).places l.number + (unit q).at =
        subst (λ (z : Label). at q z.number ≡ slice_index (unit q).places z.number + (unit q).at) (sym label) node in
        let place : (unit q).at + slice_index (unit q).places l.number ≡ at q l.number = omega (arith, same) in
        ap (λ (m : ℕ). address_in t.landings m k) (sym this.place) ∙ (there ∙ (ap Some place ∙ ap (λ (ls : List Label). Some (at q (label_at ls k).number)) (sym landings_are)))

-- ---- in an image

module _ (s : Setting) (graphs : List Graph) (found : List ProcedurePlaces) (addresses : List ℕ) (t : Text) (known : IsJoint s.program graphs found addresses t)
    (l : Launch) (rows : s.placement.rows ≡ placement_rows found t.procedures) (code_is : l.image.code ≡ t.code) (stands : FinishedCodeStands) where
  abbrev f : Finished
  f = finished s.program graphs found addresses t known

  abbrev unit_at : ℕ → Laid
  unit_at q = unit_of known.laid q

  -- finished bytes of the text stand in the image
  pub stand_at : (q : ℕ) (labels : List Meaning) (parts : List Part) (places : List ℕ) (up : ℕ) (u : UnitCode) → AreFinished labels parts places u →
      StandAt (value_in addresses t u) t up u → All (GoesToCode labels (value_in addresses t u)) parts →
      ((k : ℕ) (r : Reference) → slice_get u.references k ≡ Some r → IsIn s.program r) → (g : Finished) →
      g.labels q ≡ address_of labels places up (value_in addresses t u) → Stand (code_of l g q) parts up (up + length u.code)
  stand_at q labels parts places up u done at targets inside g is_labels =
      let base : 0 + up ≡ up = omega arith in
      let value = value_in addresses t u in
      let room : up + length u.code ≤ 2 ^ 30 = let within = at.within in let few = known.room in omega (arith, within, few) in
      let near : up < 2 ^ 63 = omega (arith, room) in
      let reached = fixes_reached value up (length u.code) 0 u.fixes (small s.program graphs found addresses t known u inside) room done.apart in
      subst (λ (a : ℕ). Stand (code_of l g q) parts a (a + length u.code)) base
      (stands l g q labels parts 0 up u.code places u.fixes value done.runs (record {
        aligned = at.aligned;
        near = near;
        reached = subst (λ (a : ℕ). All (IsReached value a) u.fixes) (sym base) reached;
        targets = targets;
        contains = subst (λ (a : ℕ). Contains (map_of l) a (filled value a u.fixes u.code)) (sym base) (record { front = at.front; back = at.back; whole = code_is ∙ at.is; place = at.place });
        is_labels = is_labels;
      }))

  module _ (q : ℕ) (g : Graph) (this : IsHere s.program graphs found addresses t known q g) where
    abbrev x : Code
    x = code_of l f q

    abbrev this_unit : Laid
    this_unit = unit_at q

    pub parts_stand : Stand x this_unit.parts this_unit.at (this_unit.at + length this_unit.code.code)
    parts_stand =
        stand_at q this_unit.labels this_unit.parts this_unit.places this_unit.at this_unit.code this.is.done this.is.stands
        (targets_aligned this_unit.code.references this_unit.labels (meant s.program graphs found addresses t known this_unit this.is) (value_in addresses t this_unit.code)
        (aligned s.program graphs found addresses t known this_unit.code) this_unit.parts this.is.done.fit)
        (named_in s.program graphs found addresses t known this_unit this.is) f refl

    -- what stands in the front of the parts
    pub does : {So : Code → ℕ → ℕ → Type 0} (label : Label) → Codes this.is.whole.front label So → (end : ℕ) × So x (f.labels q label.number) end
    does {So = So} label codes = codes_do label all_codes x this_unit.at (this_unit.at + length this_unit.code.code) parts_stand
      where
        all_codes : Codes this_unit.parts label So
        all_codes = record {
          front = codes.front;
          parts = codes.parts;
          back = codes.back ++ Place this_unit.outline.targets.limit ∷ this.is.whole.back;
          is = this.is.whole.is ∙ (ap (λ (ps : List Part). ps ++ Place this_unit.outline.targets.limit ∷ this.is.whole.back) codes.is ∙ simp append_assoc);
          so = codes.so;
        }

    pub row_of_procedure : (k : ℕ) → (row_of s.placement k).code ≡ get_or t.procedures k 0
    row_of_procedure k =
        ap (λ (rs : List PlaceRow). (get_or rs k no_row).code) rows
        ∙ row_code found t.procedures k (known.procedure_count ∙ sym known.found_count)

    -- ---- the context of a procedure

    abbrev p : Context
    p = this.one.context

    abbrev y : Targets
    y = this_unit.outline.targets

    procedure_at_label : (k : ℕ) → has_named y.procedures k ≡ true → f.labels q (named_at y.procedures k).number ≡ (row_of s.placement k).code
    procedure_at_label k has = target_is s.program graphs found addresses t known this_unit this.is k has ∙ sym (row_of_procedure k)

    at_fits : (k : ℕ) → (row_of s.placement k).code % 2 ^ 64 ≡ (row_of s.placement k).code
    at_fits k =
        let address = row_of_procedure k in
        let few = known.procedures_low k in
        mod_small (row_of s.placement k).code (omega (arith, address, few))

    landings_there : AreLandings f.symbols (f.labels q) q 0 p.landings
    landings_there = are_landings f.symbols (f.labels q) q 0 p.landings (λ j less.
        let there = there_at g.continuations j (omega (arith, less, landings_counted s.program graphs found addresses t known this_unit this.is this.number g this.one)) in
        let label = landing_label s.program graphs found addresses t known this_unit this.is this.number g this.one j there.0 there.1 in
        let inside = lands_inside s.program graphs found addresses t known q g this j there.0 there.1 in
        let few = (node_fits s.program graphs found addresses t known q g this (there.0).number inside).1 in
        let number = ap (λ (z : Label). f.labels q z.number) label in
        let zero_more : 0 + j ≡ j = omega arith in (
          ap (λ (ls : List Label). f.labels q (label_at ls j).number) (sym (landings_are s.program graphs found addresses t known q g this)) ∙ ap (λ (z : ℕ). f.symbols.landing_of q z) (sym zero_more),
          omega (arith, number, few),
        ))

    pub context_is : AsksFor 1 (λ u. End (u.registers 10)) x f.symbols.last_return → IsContextOf s (compiled graphs found) l f q p y
    context_is ends = record {
      frame = ap (λ (z : Option ProcedurePlaces). elim z as (λ _. Frame) [ Some k ↦ k.frame | None ↦ no_frame ]) this.is_found ∙ sym this.one.made.frame;
      places = λ u less.
          let inside : u < length this.one.places.locals = subst (λ (ls : List Location). u < length ls) this.one.made.places less in
          ap (λ (z : Option ProcedurePlaces). elim z as (λ _. Location) [ Some k ↦ get_or k.locals u no_place | None ↦ no_place ]) this.is_found
          ∙ (get_or_default this.one.places.locals u no_place (Slot 0) inside ∙ ap (λ (ls : List Location). get_or ls u (Slot 0)) (sym this.one.made.places));
      numbers = λ v there.
          ap (λ (z : Option Graph). elim z as (λ _. ℕ) [ Some h ↦ number_of_local h v | None ↦ 0 ]) graph_there ∙ sym (local_same v);
      zeroed =
          ap (λ (z : Option ProcedurePlaces). map (λ v. elim z as (λ _. Location) [ Some k ↦ get_or k.locals v no_place | None ↦ no_place ]) (elim z as (λ _. List ℕ) [ Some k ↦ k.zeroed | None ↦ [] ])) this.is_found
          ∙ sym this.one.made.zeroed;
      nodes = λ n less. sym (node_is s.program graphs found addresses t known q g this n.number);
      procedures = λ k plus less. ap (λ (a : ℕ). sum a plus) (procedure_at_label k less);
      entries = λ k less. procedure_at_label k less ∙ (sym (at_fits k) ∙ ap (λ (a : ℕ). a % 2 ^ 64) (sym (add-zero (row_of s.placement k).code)));
      data_labels = λ k plus less. ap (λ (a : ℕ). sum a plus) (data_value s.program graphs found addresses t known this_unit this.is k less);
      registers = register_value s.program graphs found addresses t known this_unit this.is;
      landings = landings_there;
      landed = λ k n less is.
          ap (λ (ls : List Label). f.labels q (label_at ls k).number) (sym (landings_are s.program graphs found addresses t known q g this))
          ∙ sym (lands s.program graphs found addresses t known q g this k n (in_it (λ h. landing_of h (record { number = k })) n is));
      sites = λ k less.
          let inside : k < length this.one.procedure.sites = omega (arith, less, sites_counted s.program graphs found addresses t known this_unit this.is this.number g this.one) in
          let fine = site_fine s.program graphs found addresses t known this_unit this.is this.number g this.one k inside in
          record {
            stands = ap (λ (ls : List Label). f.labels q (label_at ls k).number) (sym (sites_are s.program graphs found addresses t known q g this));
            aligned = fine.0;
            fits = let few = fine.1 in omega (arith, few);
          };
      limit = (codes_do y.limit this.is.whole.limits x this_unit.at (this_unit.at + length this_unit.code.code) parts_stand).1;
      client = (codes_do y.client this.is.whole.client x this_unit.at (this_unit.at + length this_unit.code.code) parts_stand).1;
      end_asked = ends;
    }
      where
        graph_there : slice_get graphs q ≡ Some g
        graph_there = this.is_graph

        local_same : (v : Local) → local_number p v ≡ number_of_local g v
        local_same (local.Variable v) = refl
        local_same (local.Temporary m) = ap (λ (n : ℕ). n + m.number) this.one.made.variables

        in_it : {A : Type 0} (look : Graph → Option A) (z : A) → in_graph graphs q look ≡ Some z → look g ≡ Some z
        in_it look z is = sym (ap (λ (h : Option Graph). with_some h look) graph_there) ∙ is
