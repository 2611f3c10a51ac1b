-- The image of a program shows the placement of its code and its frames.
use Rattle.std.proofs.Common.{◌≡◌, ℕ, List, [], ◌∷◌, length, map, refl, ap, ◌∙◌, arith}
use Rattle.std.specs.List.{AllZip}
use Rattle.cmm_program.specs.declared.placement.PlaceRow.{PlaceRow}
use Rattle.cmm_program.specs.declared.procedure.Cont.{Cont}
use Rattle.cmm_program.specs.declared.procedure.Proc.{Proc}
use Rattle.rv_table.specs.Memory.{code_base}
use Rattle.cmm_chain.specs.declared.frame.Frame.{Frame}
use Rattle.cmm_located.specs.Layouts.{row_with}
use Rattle.cmm_allocate.specs.declared.procedure.ProcedurePlaces.{ProcedurePlaces}
use Rattle.cmm_allocate.specs.Placing.{placement_rows}
use Rattle.cmm_link.specs.Laws.{ImagesShowPlacements, PlacesHaveFrames}
use Rattle.cmm_link.specs.Linked.{HaveFrames}
use Rattle.cmm_image_machine.specs.Tables.{place_row_of}
use Rattle.cmm_link.specs.Rows.{procedure_rows}
use Rattle.cmm_tables.specs.ProcedureRows.{continuation_rows, procedure_row, stack_label_row}
use Rattle.cmm_unit_code.specs.Texts.{HasLandings}
use Rattle.cmm_link.proofs.Frames.{pairs_counted}

pairs_shown : (conts : List Cont) (pairs landings : List ℕ) → length pairs ≡ length conts → length landings ≡ length conts →
    map (λ c. c.pair) (continuation_rows conts pairs landings) ≡ pairs
pairs_shown [] [] landings same landed = refl
pairs_shown [] (pair ∷ pairs) landings same landed = absurd (omega (arith, same))
pairs_shown (c ∷ cs) [] landings same landed = absurd (omega (arith, same))
pairs_shown (c ∷ cs) (pair ∷ pairs) [] same landed = absurd (omega (arith, landed))
pairs_shown (c ∷ cs) (pair ∷ pairs) (landing ∷ landings) same landed =
    ap (λ (l : List ℕ). pair ∷ l) (pairs_shown cs pairs landings (omega (arith, same)) (omega (arith, landed)))

offsets_shown : (offsets : List ℕ) → map (λ l. l.offset) (map stack_label_row offsets) ≡ offsets
offsets_shown [] = refl
offsets_shown (offset ∷ offsets) = ap (λ (l : List ℕ). offset ∷ l) (offsets_shown offsets)

row_shown : (q : Proc) (f : Frame) (code : ℕ) (landings : List ℕ) → length f.pairs ≡ length q.conts → length landings ≡ length q.conts →
    place_row_of (procedure_row q f code landings) ≡ row_with code f
row_shown q f code landings same landed =
    let with_pairs : List ℕ → PlaceRow = λ pairs. record { code = code; frame = f.size; pairs = pairs; stack = map (λ l. l.offset) (map stack_label_row f.stack) } in
    let with_stack : List ℕ → PlaceRow = λ stack. record { code = code; frame = f.size; pairs = f.pairs; stack = stack } in
    ap with_pairs (pairs_shown q.conts f.pairs landings same landed) ∙ ap with_stack (offsets_shown f.stack)

pub rows_shown : (procs : List Proc) (places : List ProcedurePlaces) (codes : List ℕ) (landings : List (List ℕ)) → HaveFrames procs places → length codes ≡ length procs →
    AllZip HasLandings procs landings → map place_row_of (procedure_rows procs places codes landings) ≡ placement_rows places codes
rows_shown [] [] codes landings frames same landed = refl
rows_shown [] (k ∷ places) codes landings frames same landed = elim frames [ ]
rows_shown (q ∷ procs) [] codes landings frames same landed = elim frames [ ]
rows_shown (q ∷ procs) (k ∷ places) [] landings frames same landed = absurd (omega (arith, same))
rows_shown (q ∷ procs) (k ∷ places) (code ∷ codes) [] frames same landed = elim landed [ ]
rows_shown (q ∷ procs) (k ∷ places) (code ∷ codes) (ls ∷ landings) frames same landed =
    let rest = rows_shown procs places codes landings frames.1 (omega (arith, same)) landed.1 in
    ap (λ (row : PlaceRow). row ∷ map place_row_of (procedure_rows procs places codes landings))
    (row_shown q k.frame code ls (pairs_counted q k.frame (frames.0.placed code_base refl)) landed.0)
    ∙ ap (λ (rows : List PlaceRow). row_with code k.frame ∷ rows) rest

pub images_show : ImagesShowPlacements
images_show p places t i frames text image =
    ap (map place_row_of) image.procedures ∙ rows_shown p.procs places t.procedures t.landings frames text.count text.counts

-- ---- frames of places

pub places_have : PlacesHaveFrames
places_have [] [] [] some have = tt
places_have [] [] (k ∷ found) some have = have
places_have [] (g ∷ graphs) found some have = absurd (omega (arith, some))
places_have (q ∷ procs) [] found some have = absurd (omega (arith, some))
places_have (q ∷ procs) (g ∷ graphs) [] some have = have
places_have (q ∷ procs) (g ∷ graphs) (k ∷ found) some have = (have.0.frame, places_have procs graphs found (omega (arith, some)) have.1)
