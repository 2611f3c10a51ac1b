-- An image that is made of a program agrees with it.
use Rattle.rv_table.specs.Memory.{code_base}
use Rattle.std.proofs.Common.{◌≡◌, ℕ, suc, ◌+◌, ◌*◌, ◌^◌, ◌≤◌, ◌&&◌, ◌++◌, max, nat_lt, Bool, false, IsTrue, List, [], ◌∷◌, length, map, refl, ap, sym, ◌∙◌, subst, Some, arith}
use Rattle.std.proofs.lemmas.Bool.{and_from, and_parts}
use Rattle.std.proofs.lemmas.Bool.Decides.{nat_tests}
use Rattle.std.proofs.lemmas.List.{length-map}
use Rattle.std.proofs.lemmas.List.Elements.{All-cons, All-head, All-nil}
use Rattle.std.proofs.lemmas.Slice.Zip.{AllZip-long, length-zip}
use Rattle.std.specs.Prelude.{All, sum_by}
use Rattle.std.specs.List.{list_all, zip}
use Rattle.rv_table.specs.declared.memory_map.TheConstants.{CODE_LENGTH_LIMIT}
use Rattle.cmm_simulation.specs.Agreement.{Agrees}
use Rattle.cmm_simulation.specs.Machine.{after}
use Rattle.cmm_simulation.specs.Seen.{Client, IsPrefix}
use Rattle.cmm_script.specs.declared.script.Script.{Script}
use Rattle.cmm_script.specs.Lines.{yield_line}
use Rattle.cmm_script.specs.Walk.{Activation}
use Rattle.cmm_program.specs.declared.placement.PlaceRow.{PlaceRow}
use Rattle.cmm_program.specs.declared.procedure.Proc.{Proc}
use Rattle.cmm_program.specs.declared.program.Program.{Program}
use Rattle.cmm_program.specs.Bounds.{code_bound, longest, step_factor}
use Rattle.cmm_program.specs.InRange.{IsProcInRange}
use Rattle.cmm_program.specs.Layout.{data_bytes}
use Rattle.cmm_program.specs.Machine.{start}
use Rattle.cmm_program.specs.Placed.{IsPlaced, ascend_from, is_code_address}
use Rattle.cmm_program.specs.State.{Setting}
use Rattle.cmm_program.specs.Todo.{todo_control}
use Rattle.cmm_machine_laws.specs.Fitting.{IsSetUp}
use Rattle.cmm_program.specs.Memory.{IsByte}
use Rattle.cmm_machine_laws.specs.Observed.{Call, machine_of}
use Rattle.cmm_data.specs.Laws.{DataReachesItsEnd, InRangeCanBeLaidOut}
use Rattle.cmm_image_machine.specs.Laws.{ImagesKeepFrames}
use Rattle.cmm_image_machine.specs.Machine.{Launch, first_run, map_of, IsStackSize, launch_of}
use Rattle.cmm_image_machine.specs.Observed.{image_machine}
use Rattle.cmm_graph.specs.declared.graph.Graph.{Graph}
use Rattle.cmm_hoisted.specs.Flow.{IsHoistedFlow}
use Rattle.cmm_flow.specs.Relation as flow
use Rattle.cmm_image.specs.ImageFormat.{is_in_code}
use Rattle.cmm_format.specs.Formats.{AreBytes}
use Rattle.cmm_image.specs.declared.parts.ImageParts.{ImageParts}
use Rattle.cmm_located.specs.Compiled.{Compiled}
use Rattle.cmm_located.specs.Layouts.{row_with}
use Rattle.cmm_located.specs.LocatedMachine.{located_start, tokens_at}
use Rattle.cmm_located.specs.SameOrders.{HasFrames}
use Rattle.cmm_emit_laws.specs.Represented.{IsFor}
use Rattle.cmm_client_laws.specs.Laws.{IsTold, RowsAreTables}
use Rattle.cmm_client_laws.specs.Tables.{HaveTables}
use Rattle.cmm_yield_laws.specs.Laws.{ImagesAgreeWithClients, LinesAreThere}
use Rattle.cmm_yield_laws.specs.WholeCode.{IsWholeCode}
use Rattle.cmm_allocate.specs.declared.procedure.ProcedurePlaces.{ProcedurePlaces}
use Rattle.cmm_allocate.specs.Compiling.{compiled}
use Rattle.cmm_allocate.specs.Laws.{LocatedRunsFollowPrograms, PlacesAreCompiled, PlacesAreShowable, RowsArePlaced, RowsHaveFrames, RunsBeginCheaply, RunsOverPlaces}
use Rattle.cmm_allocate.specs.Places.{HasPlaces}
use Rattle.cmm_allocate.specs.Placing.{placement_rows}
use Rattle.cmm_unit_code.specs.declared.text.Text.{Text}
use Rattle.cmm_unit_code.specs.Texts.{ascend_above}
use Rattle.cmm_link.specs.Laws.{ImagesHaveRows}
use Rattle.cmm_image_machine.specs.Tables.{place_row_of, placement_of}
use Rattle.cmm_emit.specs.Texts.{RunsProgram}
use Rattle.cmm_compile.specs.Agreement.{TellsOf, setting_of}
use Rattle.cmm_compile.specs.inside.Laws.{ImagesAgreeWithUnits, IsMade}

-- ---- addresses of procedures

in_code : (size address : ℕ) → size ≤ CODE_LENGTH_LIMIT → IsTrue (is_in_code size address) → IsTrue (is_code_address address)
in_code size address most is = grind (arith, nat_tests, most, is)

all_in_code : (size : ℕ) (codes : List ℕ) → size ≤ CODE_LENGTH_LIMIT → IsTrue (list_all (is_in_code size) codes) → IsTrue (list_all is_code_address codes)
all_in_code size [] most are = refl
all_in_code size (code ∷ codes) most are =
    let both = and_parts (is_in_code size code) (list_all (is_in_code size) codes) are in
    and_from (is_code_address code) (list_all is_code_address codes) (in_code size code most both.0) (all_in_code size codes most both.1)

rows_ascend : (previous : ℕ) (found : List ProcedurePlaces) (codes : List ℕ) → length codes ≡ length found →
    ascend_from previous (placement_rows found codes) ≡ ascend_above previous codes
rows_ascend previous [] [] same = refl
rows_ascend previous [] (code ∷ codes) same = absurd (omega (arith, same))
rows_ascend previous (k ∷ found) [] same = absurd (omega (arith, same))
rows_ascend previous (k ∷ found) (code ∷ codes) same = ap (λ (b : Bool). nat_lt previous code && b) (rows_ascend code found codes (omega (arith, same)))

-- ---- the factor

longest_or_one : (procs : List Proc) → flow.longest_of procs ≡ max 1 (longest procs)
longest_or_one [] = refl
longest_or_one (q ∷ procs) = omega (arith, longest_or_one procs)

-- a procedure has tokens, so the longest has
longest_is_some : (p : Program) (procs : List Proc) → All (IsProcInRange p) procs → 1 ≤ length procs → 1 ≤ longest procs
longest_is_some p [] range some = absurd (omega (arith, some))
longest_is_some p (q ∷ procs) range some =
    let shortest = (All-head (IsProcInRange p) q procs range).shortest in
    omega (arith, shortest)

-- ---- bytes

bytes_fit : (bytes : List ℕ) → AreBytes bytes → All IsByte bytes
bytes_fit [] are = All-nil IsByte
bytes_fit (b ∷ bytes) are = All-cons IsByte b bytes (are 0) (bytes_fit bytes (λ n. are (suc n)))

-- ---- the whole

-- what the crates below promise
record Promises : Type 0 where
  frames : RowsHaveFrames
  placed : RowsArePlaced
  can_be_laid_out : InRangeCanBeLaidOut
  reaches : DataReachesItsEnd
  follows : LocatedRunsFollowPrograms
  begins : RunsBeginCheaply
  compiled_so : PlacesAreCompiled
  showable : PlacesAreShowable
  rows : ImagesHaveRows
  tables : RowsAreTables
  keep : ImagesKeepFrames
  clients : ImagesAgreeWithClients
  lines : LinesAreThere

module _ (promises : Promises) (p : Program) (graphs : List Graph) (found : List ProcedurePlaces) (t : Text) (i : ImageParts) (made : IsMade p graphs found t i) where
  graph_count : length graphs ≡ length p.procs
  graph_count = AllZip-long IsHoistedFlow p.procs graphs made.flows

  found_count : length found ≡ length p.procs
  found_count =
      let count : length found ≡ length (zip p.procs graphs) = AllZip-long (λ of k. HasPlaces of.0 of.1 k) (zip p.procs graphs) found made.places in
      omega (arith, count, length-zip p.procs graphs, graph_count)

  code_count : length t.procedures ≡ length found
  code_count = made.text.count ∙ sym found_count

  code_size : length t.code ≤ CODE_LENGTH_LIMIT
  code_size = let size = made.text.size in grind (arith, nat_tests, size)

  is_placed : IsPlaced p (placement_of i)
  is_placed =
      promises.placed p graphs found t.procedures (placement_of i) graph_count made.places code_count
      (all_in_code (length t.code) t.procedures code_size made.text.procedures) made.rows
      (ap (ascend_from 0) made.rows ∙ rows_ascend 0 found t.procedures code_count ∙ made.text.ascending)

  bytes : All IsByte i.initial
  bytes = bytes_fit i.initial made.is_image.fields.1.1.0.1

  initial : i.initial ≡ data_bytes p (placement_of i)
  initial = made.image.initial (placement_of i) made.rows

  -- ---- in a setting

  module _ (script : Script) (stack : ℕ) (is_size : IsStackSize stack) where
    abbrev s : Setting
    s = setting_of p i script stack

    abbrev l : Launch
    l = launch_of i script stack

    abbrev c : Compiled
    c = compiled graphs found

    frames : HasFrames s c
    frames = promises.frames s graphs found t.procedures code_count made.rows

    over : RunsOverPlaces s graphs found
    over = made.runs s refl frames

    set_up : IsSetUp s
    set_up = record { program = made.range; placement = is_placed; top = let most = is_size.1 in omega (arith, most) }

    is_for : IsFor s (map_of l)
    is_for = record {
      set = record { placed = is_placed; aligned = let whole = is_size.0 in omega (arith, whole) };
      lies = record { low = omega arith; high = omega arith; narrow = let most = is_size.1 in omega (arith, most); aligned = refl };
      small = let most = is_size.1 in omega (arith, most);
      data_length = ap (λ (l : List ℕ). length l) initial;
      region =
          let end = promises.reaches p (placement_of i) (promises.can_be_laid_out p made.range) in
          let most = made.range.data_size in
          let same : length i.initial ≡ length (data_bytes p (placement_of i)) = ap (λ (l : List ℕ). length l) initial in
          omega (arith, end, most, same);
      code = let size = code_size in subst (λ (code : List ℕ). code_base + length code ≤ 2 ^ 32) (sym made.image.code) (omega (arith, size));
    }

    runs : RunsProgram s graphs found t l
    runs = made.code s l record {
      program = refl;
      rows = made.rows;
      code = made.image.code;
      start = made.image.start;
      is_data = initial;
      bytes = bytes;
      is_for = is_for;
      region = refl;
    }

    tables : HaveTables s c runs.finished.symbols i
    tables =
        promises.tables s c runs.finished.symbols i (promises.keep i made.is_image)
        (promises.rows s graphs found t i runs.finished.symbols made.range made.frames made.text made.image made.rows
        record { returns = runs.returns; lands = runs.lands; last = runs.last })

    told : IsTold s c runs.finished.symbols l
    told =
        let compiled_so = promises.compiled_so s graphs found over in
        let showable = promises.showable s graphs found over in
        record {
          tables = tables;
          planned = compiled_so.planned;
          is_for = is_for;
          region = refl;
          frames = frames;
          apart = showable.apart;
          knows = showable.live;
          scripts = refl;
        }

    whole : IsWholeCode s c l runs.finished
    whole = record { code = runs.code; told = told }

    -- a step of the machine is paid for by so many tokens over locations, and the factor is 32 instructions a token
    abbrev cost : ℕ
    cost = flow.longest p + flow.longest p

    one : 1 ≤ longest p.procs
    one = longest_is_some p p.procs made.range.procedures (let main = made.range.main in omega (arith, main))

    same_longest : flow.longest p ≡ max 1 (longest p.procs)
    same_longest = longest_or_one p.procs

    factor : 32 * cost ≡ step_factor p
    factor = omega (arith, one, same_longest)

    soon : (input : List ℕ) → runs.begins.most + 32 * tokens_at s c (located_start s c input) + 1 ≤ 32 * cost
    soon input =
        let first = promises.begins s graphs found input over in
        let few = runs.few in
        omega (arith, few, first, one, same_longest)

    agree : (input : List ℕ) → All IsByte input →
        Agrees (machine_of (todo_control p) s) (image_machine l) (step_factor p) (step_factor p) 1 (start s input) (first_run l input)
    agree input are =
        subst (λ (n : ℕ). Agrees (machine_of (todo_control p) s) (image_machine l) n n 1 (start s input) (first_run l input)) factor
        (promises.clients s set_up c l runs.finished whole runs.begins input are cost (promises.follows s graphs found input set_up are over)
        (let enough = soon input in omega (arith, enough)))

    line_comes : (input : List ℕ) → All IsByte input → let machine = machine_of (todo_control p) s in
        (m : ℕ) → machine.wrong (after machine m (start s input)) ≡ false → (call : Call) (walk : List Activation) →
        machine.asks (after machine m (start s input)) ≡ Some (Client call) → call.walk ≡ Some walk →
        IsPrefix ((machine.seen (after machine m (start s input))).log ++ yield_line call.values) (after (image_machine l) (step_factor p * (m + 1)) (first_run l input)).log
    line_comes input are m right call walk asks has =
        subst
        (λ (n : ℕ). IsPrefix (((machine_of (todo_control p) s).seen (after (machine_of (todo_control p) s) m (start s input))).log ++ yield_line call.values)
        (after (image_machine l) (n * (m + 1)) (first_run l input)).log) factor
        (promises.lines s set_up c l runs.finished whole runs.begins input are cost (promises.follows s graphs found input set_up are over) (soon input) m right call walk asks
        has)

  -- ---- what the tables tell, whatever the setting

  abbrev no_script : Script
  no_script = record { blocks = [] }

  some_tables : HaveTables (setting_of p i no_script 0) (compiled graphs found) (runs no_script 0 (refl, omega arith)).finished.symbols i
  some_tables = tables no_script 0 (refl, omega arith)

  tells : TellsOf p i
  tells = record {
    main = made.image.main;
    count =
        let shown : length (map place_row_of i.procs) ≡ length (placement_rows found t.procedures) = ap (λ (rows : List PlaceRow). length rows) made.rows in
        omega (
          arith,
          shown,
          length-map i.procs place_row_of,
          length-map (zip found t.procedures) (λ (of : ProcedurePlaces × ℕ). row_with of.1 of.0.frame),
          length-zip found t.procedures,
          code_count,
          found_count,
        );
    names = λ q procedure is. (some_tables.procedures q procedure is).name;
    variables = λ q procedure is. (some_tables.procedures q procedure is).variables;
    labels = some_tables.labels;
    globals = made.image.globals;
  }

pub images_agree_with_units : RowsHaveFrames → RowsArePlaced → InRangeCanBeLaidOut → DataReachesItsEnd → LocatedRunsFollowPrograms → RunsBeginCheaply →
    PlacesAreCompiled → PlacesAreShowable → ImagesHaveRows → RowsAreTables → ImagesKeepFrames → ImagesAgreeWithClients → LinesAreThere → ImagesAgreeWithUnits
images_agree_with_units frames placed can reaches follows begins compiled_so showable rows tables keep clients lines p graphs found t i made =
    let promises : Promises = record {
      frames = frames;
      placed = placed;
      can_be_laid_out = can;
      reaches = reaches;
      follows = follows;
      begins = begins;
      compiled_so = compiled_so;
      showable = showable;
      rows = rows;
      tables = tables;
      keep = keep;
      clients = clients;
      lines = lines;
    } in
    record {
      placed = is_placed promises p graphs found t i made;
      initial = initial promises p graphs found t i made;
      runs = λ script stack input is_size are. agree promises p graphs found t i made script stack is_size input are;
      lines = λ script stack input is_size are m right call walk asks has. line_comes promises p graphs found t i made script stack is_size input are m right call walk asks has;
      tells = tells promises p graphs found t i made;
      code = subst (λ (code : List ℕ). length code ≤ code_bound (sum_by (λ q. q.tokens) p.procs)) (sym made.image.code) made.size;
      version = made.image.version;
    }
