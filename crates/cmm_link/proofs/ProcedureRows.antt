-- The row of a procedure in range keeps the conditions of an image.
use Rattle.std.proofs.Common.{◌≡◌, ℕ, ◌+◌, ◌<◌, ◌≤◌, ◌^◌, ◌%◌, ◌==◌, ◌&&◌, ◌||◌, nat_le, nat_lt, nat_eq, Bool, true, false, Option, Some, None, All, List, [], ◌∷◌, length, map, refl, sym, subst, arith}
use Rattle.std.proofs.lemmas.Bool.{and_parts, leb-true, le-leb, ltb-true}
use Rattle.std.proofs.lemmas.Bool.Decides.{nat_tests}
use Rattle.std.proofs.lemmas.List.{length-map}
use Rattle.std.proofs.lemmas.List.Elements.{All-head, All-tail}
use Rattle.std.specs.List.{list_all}
use Rattle.rv_table.specs.declared.memory_map.TheConstants.{CODE_BASE, CODE_LENGTH_LIMIT}
use Rattle.cmm_words.specs.declared.width.Width.{Width}
use Rattle.cmm_words.specs.declared.width.Width.TheVariants.{W8, W16, W32, W64}
use Rattle.cmm_program.specs.declared.procedure.Cont.{Cont}
use Rattle.cmm_program.specs.declared.procedure.Proc.{Proc}
use Rattle.cmm_program.specs.declared.procedure.VarInfo.{VarInfo}
use Rattle.cmm_program.specs.declared.program.Program.{Program}
use Rattle.cmm_program.specs.InRange.{IsProcInRange, at_most_64, below, is_name}
use Rattle.cmm_program.specs.Placed.{is_pair_in}
use Rattle.cmm_chain.specs.declared.frame.Frame.{Frame}
use Rattle.cmm_chain.specs.declared.frame.Location.{Location}
use Rattle.cmm_located.specs.Layouts.{IsFrameOf, has_cut_exit, keeps_local}
use Rattle.cmm_image.specs.declared.rows.ContinuationRow.{ContinuationRow}
use Rattle.cmm_image.specs.declared.rows.StackLabelRow.{StackLabelRow}
use Rattle.cmm_image.specs.declared.rows.VariableNumber.{VariableNumber}
use Rattle.cmm_image.specs.declared.rows.VariableRow.{VariableRow}
use Rattle.cmm_format.specs.Formats.{AreRows}
use Rattle.cmm_image.specs.ImageFormat.{continuation, is_in_code, one_if, procedure, stack_label, variable, variable_number, width}
use Rattle.cmm_tables.specs.ProcedureRows.{continuation_row, continuation_rows, parameter_row, procedure_row, saved_row, stack_label_row}
use Rattle.cmm_image_machine.specs.Tables.{variable_row}
use Rattle.cmm_link.specs.inside.Named.{HasByteKind, IsNamed}
use Rattle.cmm_link.proofs.Frames.{Fits, frame_fits}
use Rattle.cmm_link.proofs.SavedRows.{saved_few, saved_rows_hold}
use Rattle.cmm_link.proofs.Tokens.{tokens_of_parts}

-- ---- variables

pub width_holds : (w : Width) → width.Holds w
width_holds W8 = (omega arith, (refl, tt))
width_holds W16 = (omega arith, (refl, tt))
width_holds W32 = (omega arith, (refl, tt))
width_holds W64 = (omega arith, (refl, tt))

flag_small : (b : Bool) → one_if b < 256 ^ 1
flag_small true = omega arith
flag_small false = omega arith

flag_holds : (b : Bool) → nat_le (one_if b) 1 ≡ true
flag_holds true = refl
flag_holds false = refl

pub name_short : (name : List ℕ) → is_name name ≡ true → length name < 256
name_short name is = omega (arith, leb-true (length name) 255 is)

variables_hold : (previous : Option VariableRow) (vars : List VarInfo) → list_all (λ v. is_name v.kind) vars ≡ true → All HasByteKind (map variable_row vars) →
    AreRows (λ previous. (variable previous).Holds) previous (map variable_row vars)
variables_hold previous [] kinds bytes = tt
variables_hold previous (v ∷ vs) kinds bytes =
    let both = and_parts (is_name v.kind) (list_all (λ v. is_name v.kind) vs) kinds in (
      (width_holds v.width, ((flag_small v.invariant, (flag_holds v.invariant, tt)), (name_short v.kind both.0, All-head HasByteKind (variable_row v) (map variable_row vs) bytes))),
      variables_hold (Some (variable_row v)) vs both.1 (All-tail HasByteKind (variable_row v) (map variable_row vs) bytes),
    )

-- ---- stackdata labels

stack_labels_hold : (size : ℕ) (previous : Option StackLabelRow) (offsets : List ℕ) → size < 2 ^ 31 → list_all (λ offset. nat_le offset size) offsets ≡ true →
    AreRows (λ previous. (stack_label size previous).Holds) previous (map stack_label_row offsets)
stack_labels_hold size previous [] small inside = tt
stack_labels_hold size previous (offset ∷ offsets) small inside =
    let both = and_parts (nat_le offset size) (list_all (λ offset. nat_le offset size) offsets) inside in
    ((omega (arith, small, leb-true offset size both.0), (both.0, tt)), stack_labels_hold size (Some (stack_label_row offset)) offsets small both.1)

-- ---- continuations

pub address_small : (length address : ℕ) → length ≤ CODE_LENGTH_LIMIT → is_in_code length address ≡ true → address < 2 ^ 31
address_small length address room is =
    let both = and_parts (nat_le CODE_BASE address && nat_lt address (CODE_BASE + length)) (address % 4 == 0) is in
    let inside = and_parts (nat_le CODE_BASE address) (nat_lt address (CODE_BASE + length)) both.0 in
    omega (arith, room, ltb-true address (CODE_BASE + length) inside.1)

parameters_hold : (count : ℕ) (previous : Option VariableNumber) (params : List ℕ) → count ≤ 1024 → list_all (below count) params ≡ true →
    AreRows (λ previous. (variable_number count previous).Holds) previous (map parameter_row params)
parameters_hold count previous [] few are = tt
parameters_hold count previous (v ∷ vs) few are =
    let both = and_parts (nat_lt v count) (list_all (below count) vs) are in
    ((omega (arith, few, ltb-true v count both.0), (both.0, tt)), parameters_hold count (Some (parameter_row v)) vs few both.1)

module _ (code_length size count : ℕ) (room : code_length ≤ CODE_LENGTH_LIMIT) (small : size < 2 ^ 31) (few : count ≤ 1024) where
  abbrev is_valid : Cont → Bool
  is_valid c = at_most_64 c.params && list_all (below count) c.params

  pair_small : (pair : ℕ) → is_pair_in size pair ≡ true → pair < 2 ^ 31
  pair_small pair is = let both = and_parts (pair % 8 == 0) (nat_le (pair + 16) size) is in omega (arith, small, leb-true (pair + 16) size both.1)

  continuation_holds : (previous : Option ContinuationRow) (c : Cont) (pair landing : ℕ) → is_valid c ≡ true → is_pair_in size pair ≡ true → is_in_code code_length landing ≡ true →
      (continuation code_length size count previous).Holds (continuation_row (c, (pair, landing)))
  continuation_holds previous c pair landing valid inside address =
      let both = and_parts (at_most_64 c.params) (list_all (below count) c.params) valid in
      let most : length c.params ≤ 64 = leb-true (length c.params) 64 both.0 in
      let as_many : length (map parameter_row c.params) ≡ length c.params = length-map c.params parameter_row in (
        (omega (arith, pair_small pair inside), (inside, tt)),
        (
          (omega (arith, address_small code_length landing room address), (address, tt)),
          ((omega (arith, most, as_many), (le-leb _ _ (omega (arith, most, as_many)), tt)), parameters_hold count None c.params few both.1),
        ),
      )

  continuations_hold : (previous : Option ContinuationRow) (conts : List Cont) (pairs landings : List ℕ) → list_all is_valid conts ≡ true → list_all (is_pair_in size) pairs ≡ true →
      list_all (is_in_code code_length) landings ≡ true →
      AreRows (λ previous. (continuation code_length size count previous).Holds) previous (continuation_rows conts pairs landings)
  continuations_hold previous [] pairs landings valid inside addresses = tt
  continuations_hold previous (c ∷ cs) [] landings valid inside addresses = tt
  continuations_hold previous (c ∷ cs) (pair ∷ pairs) [] valid inside addresses = tt
  continuations_hold previous (c ∷ cs) (pair ∷ pairs) (landing ∷ landings) valid inside addresses =
      let valids = and_parts (is_valid c) (list_all is_valid cs) valid in
      let insides = and_parts (is_pair_in size pair) (list_all (is_pair_in size) pairs) inside in
      let in_code = and_parts (is_in_code code_length landing) (list_all (is_in_code code_length) landings) addresses in (
        continuation_holds previous c pair landing valids.0 insides.0 in_code.0,
        continuations_hold (Some (continuation_row (c, (pair, landing)))) cs pairs landings valids.1 insides.1 in_code.1,
      )

pub continuations_few : (conts : List Cont) (pairs landings : List ℕ) → length (continuation_rows conts pairs landings) ≤ length conts
continuations_few [] pairs landings = omega arith
continuations_few (c ∷ cs) [] landings = omega arith
continuations_few (c ∷ cs) (pair ∷ pairs) [] = omega arith
continuations_few (c ∷ cs) (pair ∷ pairs) (landing ∷ landings) = omega (arith, continuations_few cs pairs landings)

-- ---- the whole row

no_mark : (offset : ℕ) → offset < 2 ^ 31 → nat_eq offset 0xFFFFFFFF ≡ false
no_mark offset small = grind (arith, nat_tests)

module _ (p : Program) (q : Proc) (places : List Location) (f : Frame) (range : IsProcInRange p q) (laid : IsFrameOf q places f) where
  fits : Fits q f
  fits = frame_fits p q places f range laid

  size_small : f.size < 2 ^ 31
  size_small = let small = fits.small in omega (arith, small)

  return_small : f.return_at < 2 ^ 31
  return_small =
      let both = and_parts (f.return_at % 8 == 0) (nat_le (f.return_at + 8) f.size) fits.return_at in
      omega (arith, size_small, leb-true (f.return_at + 8) f.size both.1)

  pub saved_short : length (map saved_row f.saved) ≤ 11
  saved_short = saved_few f.saved (λ r. has_cut_exit q || keeps_local r places) laid.registers

  pub row_holds : (code_length code : ℕ) (landings : List ℕ) → code_length ≤ CODE_LENGTH_LIMIT → is_in_code code_length code ≡ true →
      list_all (is_in_code code_length) landings ≡ true → IsNamed (procedure_row q f code landings) → (procedure code_length None).Holds (procedure_row q f code landings)
  row_holds code_length code landings room address addresses named =
      let small = size_small in
      let tokens = tokens_of_parts p q range in
      let most = range.frames.tokens in
      let variables : length (map variable_row q.vars) ≡ length q.vars = length-map q.vars variable_row in
      let few = range.variables in
      let labels : length (map stack_label_row f.stack) ≡ length f.stack = length-map f.stack stack_label_row in
      let label_count = fits.stack.count in
      let rows = continuation_rows q.conts f.pairs landings in
      let landed : AreRows (λ previous. (continuation code_length f.size (length (map variable_row q.vars)) previous).Holds) None rows =
      subst (λ (n : ℕ). AreRows (λ previous. (continuation code_length f.size n previous).Holds) None rows) (sym variables)
      (continuations_hold code_length f.size (length q.vars) room small few None q.conts f.pairs landings range.continuations fits.pairs addresses)
      in (
        (omega (arith, address_small code_length code room address), (refl, (address, tt))),
        (
          (name_short q.name range.name, named.name),
          (
            (omega (arith, small), (fits.aligned, (le-leb _ _ (omega (arith, fits.small)), tt))),
            (
              (omega (arith, return_small), no_mark f.return_at return_small, (fits.return_at, tt)),
              (
                (omega (arith, saved_short), saved_rows_hold f.size f.saved (λ r. has_cut_exit q || keeps_local r places) small laid.registers fits.saved),
                (
                  ((omega (arith, variables, few), (le-leb _ _ (omega (arith, variables, few)), tt)), variables_hold None q.vars range.kinds named.kinds),
                  (
                    (omega (arith, labels, label_count, tokens, most), stack_labels_hold f.size None f.stack small fits.stack.inside),
                    (omega (arith, continuations_few q.conts f.pairs landings, tokens, most), landed),
                  ),
                ),
              ),
            ),
          ),
        ),
      )
