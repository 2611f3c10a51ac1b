-- At its offset in the bytes of version 1 stands the place of a variable at a site, and so many bytes stand before it.
use Rattle.std.proofs.Common.{◌≡◌, ℕ, zero, suc, ◌+◌, ◌*◌, ◌≤◌, List, [], ◌∷◌, ◌++◌, length, take, drop, flat_map, slice_get, Option, Some, None, refl, sym, ap, ◌∙◌, append_assoc, arith}
use Rattle.std.proofs.lemmas.List.{drop-append-le, drop-drop, drop_at, length-append, length-drop}
use Rattle.cmm_format.specs.Formats.{number_bytes, optional_number}
use Rattle.cmm_format.proofs.Shared.{length-number_bytes}
use Rattle.cmm_words.specs.declared.width.Width.{Width}
use Rattle.cmm_words.specs.Widths.{bits}
use Rattle.cmm_image.specs.declared.parts.ImageParts.{ImageParts}
use Rattle.cmm_image.specs.declared.rows.ContinuationNumber.{ContinuationNumber}
use Rattle.cmm_image.specs.declared.rows.ProcRow.{ProcRow}
use Rattle.cmm_image.specs.declared.rows.SiteRow.{SiteRow}
use Rattle.cmm_image.specs.declared.rows.UnwindRow.{UnwindRow}
use Rattle.cmm_image.specs.declared.rows.VariablePlace.{VariablePlace}
use Rattle.cmm_image.specs.declared.rows.VariablePlace.TheVariants.{Dead, Slot, Register}
use Rattle.cmm_image.specs.ImageFormat.{continuation_number, flags_number, procedure, site, span, unwind, width}
use Rattle.cmm_image.specs.Migration.{bytes_before_places, bytes_to_place, first_front, place_offset}
use Rattle.cmm_image.specs.Places.{place_bytes}
use Rattle.cmm_image.specs.WholeImage.{header_bytes}
use Rattle.cmm_image.specs.inside.Fronts.{before_place, in_site, site_front}
use Rattle.cmm_image.specs.inside.Spellings.{exits}

-- ---- bytes behind others

dropped : (a b : List ℕ) (m n : ℕ) → length a ≡ m → drop (m + n) (a ++ b) ≡ drop n b
dropped a b m n long = sym (drop-drop n m (a ++ b)) ∙ ap (drop n) (drop_at a b m long)

-- what follows is behind what is left
dropped_in : (xs more y : List ℕ) (n : ℕ) → 1 ≤ length y → drop n xs ≡ y → drop n (xs ++ more) ≡ y ++ more
dropped_in xs more y n some e =
    let left = ap length e in
    drop-append-le n xs more (omega (arith, left, some, length-drop n xs)) ∙ ap (λ (t : List ℕ). t ++ more) e

rows_dropped : {X : Type 0} (f : X → List ℕ) (xs : List X) (k : ℕ) (x : X) (n : ℕ) → slice_get xs k ≡ Some x →
    (ys : List X) × (drop (length (flat_map f (take k xs)) + n) (flat_map f xs) ≡ drop n (f x ++ flat_map f ys))
rows_dropped f [] k x n e = absurd cc
rows_dropped f (y ∷ ys) zero x n e =
    let same : y ≡ x = cc in
    let none : 0 + n ≡ n = omega arith in
    (ys, rw (none, same) refl)
rows_dropped f (y ∷ ys) (suc k) x n e =
    let rest = rows_dropped f ys k x n e in
    let sum : length (f y ++ flat_map f (take k ys)) + n ≡ length (f y) + (length (flat_map f (take k ys)) + n) = omega (arith, length-append (f y) (flat_map f (take k ys))) in
    (rest.0, ap (λ (m : ℕ). drop m (f y ++ flat_map f ys)) sum ∙ dropped (f y) (flat_map f ys) (length (f y)) (length (flat_map f (take k ys)) + n) refl ∙ rest.1)

-- ---- lengths of rows

ones_long : (xs : List Width) → length (flat_map width.spelled xs) ≡ length xs
ones_long [] = refl
ones_long (x ∷ xs) =
    let one = length-number_bytes 1 (bits x) in
    let rest = ones_long xs in
    omega (arith, one, rest, length-append (width.spelled x) (flat_map width.spelled xs))

twos_long : (count : ℕ) (xs : List ContinuationNumber) → length (flat_map (continuation_number count None).spelled xs) ≡ 2 * length xs
twos_long count [] = refl
twos_long count (x ∷ xs) =
    let two = length-number_bytes 2 x.0 in
    let rest = twos_long count xs in
    omega (arith, two, rest, length-append ((continuation_number count None).spelled x) (flat_map (continuation_number count None).spelled xs))

tens_long : (code_length count : ℕ) (xs : List UnwindRow) → length (flat_map (unwind code_length count None).spelled xs) ≡ 10 * length xs
tens_long code_length count [] = refl
tens_long code_length count (x ∷ xs) =
    let two = length-number_bytes 2 x.continuation.0 in
    let eight = length-number_bytes 8 x.landing in
    let both = length-append (number_bytes 2 x.continuation.0) (number_bytes 8 x.landing) in
    let rest = tens_long code_length count xs in
    omega (arith, two, eight, both, rest, length-append ((unwind code_length count None).spelled x) (flat_map (unwind code_length count None).spelled xs))

counted_long : (width n : ℕ) (rows : List ℕ) → length (number_bytes width n ++ rows) ≡ width + length rows
counted_long width n rows = omega (arith, length-append (number_bytes width n) rows, length-number_bytes width n)

place_some : (p : VariablePlace) (more : List ℕ) → 1 ≤ length (place_bytes p ++ more)
place_some Dead more = omega arith
place_some (Slot offset) more = omega arith
place_some (Register register) more = omega arith

-- ---- one site

places_there : (code_length : ℕ) (procs : List ProcRow) (s : SiteRow) (n : ℕ) →
    drop (bytes_before_places s + n) ((site code_length procs None).spelled s) ≡ drop n (flat_map place_bytes s.variables ++ (number_bytes 2 (length s.spans) ++ flat_map (span None).spelled s.spans))
places_there code_length procs s n =
    let a1 = number_bytes 8 s.return_address in
    let a2 = number_bytes 4 s.procedure in
    let a3 = number_bytes 4 s.number in
    let a4 = number_bytes 1 (flags_number (s.never_returns, s.aborts)) in
    let a5 = number_bytes 1 (optional_number 255 s.yield_values) in
    let a6 = number_bytes 1 (length s.results) ++ flat_map width.spelled s.results in
    let a7 = number_bytes 1 (length s.returns) ++ flat_map (continuation_number 0 None).spelled s.returns in
    let a8 = number_bytes 2 (length s.unwinds) ++ flat_map (unwind code_length 0 None).spelled s.unwinds in
    let a9 = number_bytes 2 (length s.cuts) ++ flat_map (continuation_number 0 None).spelled s.cuts in
    let b9 = flat_map place_bytes s.variables ++ (number_bytes 2 (length s.spans) ++ flat_map (span None).spelled s.spans) in
    let results = counted_long 1 (length s.results) (flat_map width.spelled s.results) in
    let returns = counted_long 1 (length s.returns) (flat_map (continuation_number 0 None).spelled s.returns) in
    let unwinds = counted_long 2 (length s.unwinds) (flat_map (unwind code_length 0 None).spelled s.unwinds) in
    let cuts = counted_long 2 (length s.cuts) (flat_map (continuation_number 0 None).spelled s.cuts) in
    let n9 = length a9 + n in
    let n8 = length a8 + n9 in
    let n7 = length a7 + n8 in
    let n6 = length a6 + n7 in
    let sum : bytes_before_places s + n ≡ 8 + (4 + (4 + (1 + (1 + n6)))) =
    omega (arith, results, returns, unwinds, cuts, ones_long s.results, twos_long 0 s.returns, tens_long code_length 0 s.unwinds, twos_long 0 s.cuts) in
    ap (λ (m : ℕ). drop m ((site code_length procs None).spelled s)) sum
    ∙ dropped a1 (a2 ++ (a3 ++ (a4 ++ (a5 ++ (a6 ++ (a7 ++ (a8 ++ (a9 ++ b9)))))))) 8 (4 + (4 + (1 + (1 + n6)))) (length-number_bytes 8 s.return_address)
    ∙ dropped a2 (a3 ++ (a4 ++ (a5 ++ (a6 ++ (a7 ++ (a8 ++ (a9 ++ b9))))))) 4 (4 + (1 + (1 + n6))) (length-number_bytes 4 s.procedure)
    ∙ dropped a3 (a4 ++ (a5 ++ (a6 ++ (a7 ++ (a8 ++ (a9 ++ b9)))))) 4 (1 + (1 + n6)) (length-number_bytes 4 s.number)
    ∙ dropped a4 (a5 ++ (a6 ++ (a7 ++ (a8 ++ (a9 ++ b9))))) 1 (1 + n6) (length-number_bytes 1 (flags_number (s.never_returns, s.aborts)))
    ∙ dropped a5 (a6 ++ (a7 ++ (a8 ++ (a9 ++ b9)))) 1 n6 (length-number_bytes 1 (optional_number 255 s.yield_values))
    ∙ dropped a6 (a7 ++ (a8 ++ (a9 ++ b9))) (length a6) n7 refl
    ∙ dropped a7 (a8 ++ (a9 ++ b9)) (length a7) n8 refl
    ∙ dropped a8 (a9 ++ b9) (length a8) n9 refl
    ∙ dropped a9 b9 (length a9) n refl

-- ---- bytes that are counted

site_front_long : (s : SiteRow) → length (site_front s) ≡ bytes_before_places s
site_front_long s =
    let a5 = number_bytes 1 (optional_number 255 s.yield_values) in
    let a4 = number_bytes 1 (flags_number (s.never_returns, s.aborts)) in
    let a3 = number_bytes 4 s.number in
    let a2 = number_bytes 4 s.procedure in
    let b9 = number_bytes 2 (length s.cuts) ++ flat_map (continuation_number 0 None).spelled s.cuts in
    let b8 = number_bytes 2 (length s.unwinds) ++ flat_map (unwind 0 0 None).spelled s.unwinds in
    let b7 = number_bytes 1 (length s.returns) ++ flat_map (continuation_number 0 None).spelled s.returns in
    let b6 = number_bytes 1 (length s.results) ++ flat_map width.spelled s.results in
    let results = counted_long 1 (length s.results) (flat_map width.spelled s.results) in
    let returns = counted_long 1 (length s.returns) (flat_map (continuation_number 0 None).spelled s.returns) in
    let unwinds = counted_long 2 (length s.unwinds) (flat_map (unwind 0 0 None).spelled s.unwinds) in
    let cuts = counted_long 2 (length s.cuts) (flat_map (continuation_number 0 None).spelled s.cuts) in
    let own = exits s in
    omega (
      arith,
      counted_long 8 s.return_address (a2 ++ ((a3 ++ (a4 ++ a5)) ++ own)),
      counted_long 4 s.procedure ((a3 ++ (a4 ++ a5)) ++ own),
      length-append (a3 ++ (a4 ++ a5)) own,
      counted_long 4 s.number (a4 ++ a5),
      counted_long 1 (flags_number (s.never_returns, s.aborts)) a5,
      length-number_bytes 1 (optional_number 255 s.yield_values),
      length-append b6 (b7 ++ (b8 ++ b9)),
      length-append b7 (b8 ++ b9),
      length-append b8 b9,
      results,
      returns,
      unwinds,
      cuts,
      ones_long s.results,
      twos_long 0 s.returns,
      tens_long 0 0 s.unwinds,
      twos_long 0 s.cuts,
    )

in_site_long : (v : ℕ) (o : Option SiteRow) → length (in_site v o) ≡ bytes_to_place v o
in_site_long v None = refl
in_site_long v (Some s) = length-append (site_front s) (flat_map place_bytes (take v s.variables)) ∙ ap (λ (n : ℕ). n + length (flat_map place_bytes (take v s.variables))) (site_front_long s)

pub before_long : (i : ImageParts) (k v : ℕ) → length (before_place i k v) ≡ place_offset i k v
before_long i k v =
    let header = header_bytes i in
    let rows = flat_map (procedure 0 None).spelled i.procs in
    let sites = flat_map (site 0 [] None).spelled (take k i.sites) in
    let own = in_site v (slice_get i.sites k) in
    omega (
      arith,
      length-append (header ++ (i.code ++ (i.initial ++ rows))) (sites ++ own),
      length-append header (i.code ++ (i.initial ++ rows)),
      length-append i.code (i.initial ++ rows),
      length-append i.initial rows,
      length-append sites own,
      in_site_long v (slice_get i.sites k),
    )

-- ---- the whole

pub places_stand_there : (i : ImageParts) (k v : ℕ) (s : SiteRow) (p : VariablePlace) (rest : List ℕ) → slice_get i.sites k ≡ Some s → slice_get s.variables v ≡ Some p →
    (more : List ℕ) × (drop (place_offset i k v) (first_front i ++ rest) ≡ place_bytes p ++ more)
places_stand_there i k v s p rest at there =
    let header = header_bytes i in
    let rows = flat_map (procedure (length i.code) None).spelled i.procs in
    let each = (site (length i.code) i.procs None).spelled in
    let all = flat_map each i.sites in
    let spans = number_bytes 2 (length s.spans) ++ flat_map (span None).spelled s.spans in
    let before = length (flat_map place_bytes (take v s.variables)) in
    let far = bytes_before_places s + before in
    let place = rows_dropped place_bytes s.variables v p 0 there in
    let y0 = place_bytes p ++ flat_map place_bytes place.0 in
    let here : drop before (flat_map place_bytes s.variables) ≡ y0 = ap (λ (m : ℕ). drop m (flat_map place_bytes s.variables)) (omega arith) ∙ place.1 in
    let y1 = y0 ++ spans in
    let in_site : drop far (each s) ≡ y1 =
    places_there (length i.code) i.procs s before ∙ dropped_in (flat_map place_bytes s.variables) spans y0 before (place_some p (flat_map place_bytes place.0)) here in
    let sites = rows_dropped each i.sites k s far at in
    let later = flat_map each sites.0 in
    let some0 : 1 ≤ length y0 = place_some p (flat_map place_bytes place.0) in
    let some1 : 1 ≤ length y1 = omega (arith, some0, length-append y0 spans) in
    let y2 = y1 ++ later in
    let some2 : 1 ≤ length y2 = omega (arith, some1, length-append y1 later) in
    let behind = length (flat_map each (take k i.sites)) + far in
    let in_sites : drop behind all ≡ y2 = sites.1 ∙ dropped_in (each s) later y1 far some1 in_site in
    let to : bytes_to_place v (slice_get i.sites k) ≡ far = ap (bytes_to_place v) at in
    let sum : place_offset i k v ≡ length header + (length i.code + (length i.initial + (length rows + behind))) = omega (arith, to) in
    let in_front : drop (place_offset i k v) (first_front i) ≡ y2 =
    ap (λ (m : ℕ). drop m (first_front i)) sum
    ∙ dropped header (i.code ++ (i.initial ++ (rows ++ all))) (length header) (length i.code + (length i.initial + (length rows + behind))) refl
    ∙ dropped i.code (i.initial ++ (rows ++ all)) (length i.code) (length i.initial + (length rows + behind)) refl
    ∙ dropped i.initial (rows ++ all) (length i.initial) (length rows + behind) refl
    ∙ dropped rows all (length rows) behind refl
    ∙ in_sites in
    let pm = flat_map place_bytes place.0 in
    let joined : y2 ++ rest ≡ place_bytes p ++ (((pm ++ spans) ++ later) ++ rest) =
    ap (λ (t : List ℕ). (t ++ later) ++ rest) (append_assoc (place_bytes p) pm spans)
    ∙ ap (λ (t : List ℕ). t ++ rest) (append_assoc (place_bytes p) (pm ++ spans) later)
    ∙ append_assoc (place_bytes p) ((pm ++ spans) ++ later) rest in
    (((pm ++ spans) ++ later) ++ rest, dropped_in (first_front i) rest y2 (place_offset i k v) some2 in_front ∙ joined)
