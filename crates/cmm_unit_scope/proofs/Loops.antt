-- Lists that loops fill, item by item.
use Rattle.std.proofs.Common.{◌≡◌, ◌≢◌, ℕ, zero, suc, ◌+◌, ◌<◌, ◌≤◌, ◌==◌, Bool, true, false, ◌||◌, List, [], ◌∷◌, ◌++◌, length, map, get_or, take, set, replicate, Option, Some, None, refl, sym, ◌∙◌, ap, arith}
use Rattle.std.proofs.Math.Bool.{or-true, or-false}
use Rattle.std.specs.Prelude.{nat_lt}
use Rattle.std.proofs.lemmas.Bool.{eqb-true, ltb-true}
use Rattle.std.proofs.lemmas.Bool.Decides.{nat_tests}
use Rattle.std.proofs.lemmas.List.{get_or_default, get_or-set_same, get_or-set_other, get_or-replicate, get_or_past, length-replicate, length-map}
use Rattle.std.proofs.Math.ListN.{get_or-append}
use Rattle.std.proofs.Math.Seq.{take-suc, get_or-append_seam}
use Rattle.cmm_static_semantics.specs.Declarations.{Declared, Entry}
use Rattle.cmm_symbols.specs.Shown.{shown, entry_shown}
use Rattle.cmm_symbols.specs.declared.table.Named.{Named}
use Rattle.cmm_symbols.specs.declared.entry.Entry.{Entry as EntryTree}
use Rattle.cmm_digraph.specs.Graphs.{is_among, are_below, mentions}
use Rattle.cmm_digraph.proofs.Shared.{among-last, below_index}
use Rattle.cmm_unit_scope.specs.Depending.{graph_of}
use Rattle.cmm_unit_scope.proofs.Depended.{graph_size}
use Rattle.cmm_unit_scope.specs.inside.Evaluating.{declared_at, flag_at, waits_for, waits_at, AreWaiting}

-- ---- marks

pub no_marks : (n v : ℕ) → flag_at (replicate n false) v ≡ false
no_marks n v = by (nat_lt v n) refl
  where
    by : (b : Bool) → nat_lt v n ≡ b → flag_at (replicate n false) v ≡ false
    by true e = get_or-replicate n v false false (ltb-true v n e)
    by false e = let past : n ≤ v = grind (arith, nat_tests) in let long : length (replicate n false) ≡ n = length-replicate n false in get_or_past (replicate n false) v false (omega arith)

marked : (flags : List Bool) (x v : ℕ) (before : Bool) → x < length flags → flag_at flags v ≡ before → (b : Bool) → (x == v) ≡ b → flag_at (set flags x true) v ≡ (before || b)
marked flags x v before within same true e =
    ap (λ n. flag_at (set flags x true) n) (sym (eqb-true x v e)) ∙ get_or-set_same flags x true false within ∙ sym (or-true before)
marked flags x v before within same false e =
    let ne : v ≢ x = grind (arith, nat_tests) in get_or-set_other flags x v true false ne ∙ same ∙ sym (or-false before)

pub mark_next : (flags : List Bool) (nodes : List ℕ) (k : ℕ) → k < length nodes → get_or nodes k 0 < length flags → ((v : ℕ) → flag_at flags v ≡ is_among v (take k nodes)) →
    (v : ℕ) → flag_at (set flags (get_or nodes k 0) true) v ≡ is_among v (take (k + 1) nodes)
mark_next flags nodes k lt within before v =
    marked flags (get_or nodes k 0) v (is_among v (take k nodes)) within (before v) (get_or nodes k 0 == v) refl
    ∙ sym (let e : k + 1 ≡ suc k = omega arith in ap (λ n. is_among v (take n nodes)) e ∙ ap (is_among v) (take-suc nodes k 0 lt) ∙ among-last v (take k nodes) (get_or nodes k 0))

pub node_within : (nodes : List ℕ) (k count : ℕ) (flags : List Bool) → are_below count nodes ≡ true → k < length nodes → length flags ≡ count → get_or nodes k 0 < length flags
node_within nodes k count flags all lt size = let below : get_or nodes k 0 < count = below_index count nodes k all lt in omega arith

-- ---- declarations

pub declared_listed : (ds : List (Named EntryTree)) (k : ℕ) (d : Named EntryTree) → k < length ds → d ≡ get_or ds k d → declared_at (map shown ds) k ≡ Some (shown d)
declared_listed [] k d lt is = absurd (omega arith)
declared_listed (e ∷ ds) zero d lt is = ap (λ (n : Named EntryTree). Some (shown n)) (sym is)
declared_listed (e ∷ ds) (suc k) d lt is = declared_listed ds k d (omega arith) is

declared_past : (ds : List (Declared Entry)) (v : ℕ) → length ds ≤ v → declared_at ds v ≡ None
declared_past [] v le = refl
declared_past (d ∷ ds) zero le = absurd (omega arith)
declared_past (d ∷ ds) (suc v) le = declared_past ds v (omega arith)

-- ---- what declarations wait for

module _ (ds : List (Named EntryTree)) (cyclic : ℕ → Bool) where
  pub waits_next : (rows : List (List ℕ)) (row named : List ℕ) (flag : Bool) (k : ℕ) (d : Named EntryTree) → length rows ≡ k → ((v : ℕ) → v < k → mentions rows v ≡ waits_at (map shown ds) cyclic v) →
      k < length ds → d ≡ get_or ds k d → flag ≡ cyclic k → named ≡ mentions (graph_of (map shown ds)) k → row ≡ waits_for flag (entry_shown d.what) named →
      (v : ℕ) → v < k + 1 → mentions (rows ++ row ∷ []) v ≡ waits_at (map shown ds) cyclic v
  waits_next rows row named flag k d size before lt is flagged names made v below = by (nat_lt v k) refl
    where
      here : row ≡ waits_at (map shown ds) cyclic k
      here =
          made ∙ ap (λ (b : Bool). waits_for b (entry_shown d.what) named) flagged ∙ ap (waits_for (cyclic k) (entry_shown d.what)) names
          ∙ ap (λ (o : Option (Declared Entry)). elim o as (λ _. List ℕ) [ Some d ↦ waits_for (cyclic k) d.as_what (mentions (graph_of (map shown ds)) k) | None ↦ [] ]) (sym (declared_listed ds k d lt is))

      by : (b : Bool) → nat_lt v k ≡ b → mentions (rows ++ row ∷ []) v ≡ waits_at (map shown ds) cyclic v
      by true e = let less : v < k = ltb-true v k e in get_or-append rows (row ∷ []) [] v (omega arith) ∙ before v less
      by false e =
          let past : k ≤ v = grind (arith, nat_tests) in let same : v ≡ k = omega arith in
          ap (λ (n : ℕ). get_or (rows ++ row ∷ []) n []) (let e : v ≡ length rows = omega arith in e) ∙ get_or-append_seam rows row [] [] ∙ here ∙ ap (waits_at (map shown ds) cyclic) (sym same)

  pub waits_done : (rows : List (List ℕ)) (k : ℕ) → length rows ≡ k → ((v : ℕ) → v < k → mentions rows v ≡ waits_at (map shown ds) cyclic v) → length ds ≤ k → k ≤ length ds → AreWaiting (map shown ds) cyclic rows
  waits_done rows k size each past most = record { size = let count : length (map shown ds) ≡ length ds = length-map ds shown in omega arith; each = λ v. by v (nat_lt v k) refl }
    where
      by : (v : ℕ) (b : Bool) → nat_lt v k ≡ b → mentions rows v ≡ waits_at (map shown ds) cyclic v
      by v true e = each v (ltb-true v k e)
      by v false e =
          let beyond : k ≤ v = grind (arith, nat_tests) in let count : length (map shown ds) ≡ length ds = length-map ds shown in
          get_or_past rows v [] (omega arith)
          ∙ sym (ap (λ (o : Option (Declared Entry)). elim o as (λ _. List ℕ) [ Some d ↦ waits_for (cyclic v) d.as_what (mentions (graph_of (map shown ds)) v) | None ↦ [] ])
          (declared_past (map shown ds) v (omega arith)))

-- a row of the graph, as it is read
pub row_of : (graph : List (List ℕ)) (ds : List (Named EntryTree)) (k : ℕ) (row : List ℕ) → graph ≡ graph_of (map shown ds) → row ≡ get_or graph k row → k < length ds → row ≡ mentions (graph_of (map shown ds)) k
row_of graph ds k row is got lt =
    let size : length graph ≡ length ds = ap length is ∙ graph_size (map shown ds) ∙ length-map ds shown in
    got ∙ get_or_default graph k row [] (omega arith) ∙ ap (λ (g : List (List ℕ)). mentions g k) is
