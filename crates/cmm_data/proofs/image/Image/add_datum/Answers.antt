use Rattle.std.proofs.Common.{◌≡◌, ◌≢◌, ℕ, ◌*◌, ◌++◌, sym, ◌∙◌, ap, subst, arith, List, [], length, true, false}
use Rattle.std.specs.Prelude.{replicate}
use Rattle.std.specs.List.{All}
use Rattle.std.proofs.lemmas.Result.{on_ok_weaker}
use Rattle.cmm_words.specs.Widths.{bytes}
use Rattle.cmm_words.specs.declared.constant.Constant.{Constant}
use Rattle.cmm_data.specs.Conditions.{IsThere}
use Rattle.cmm_data.specs.inside.Walking.{datum_by, unfilled, value_bytes, value_fixes}
use Rattle.cmm_data.proofs.Images.{always_ok}
use Rattle.cmm_data.proofs.Placing.{no_fixes}
use Rattle.cmm_data.proofs.Sizes.{empty_datum, full_datum, values_within}
use Rattle.cmm_data.proofs.image.Image.add_datum.Goals as goal

pub add_values-requires : goal.add_values-requires
add_values-requires c =
    let d = c.args.datum.now in
    record {
      there = subst (λ (cs : List Constant). All (IsThere (length c.args.addresses.now)) cs) (sym c.as_slice.ensures) c.requires.datum.there;
      room = omega (arith, ap (λ (cs : List Constant). length cs * bytes d.width) c.as_slice.ensures, values_within d c.requires.datum.length, c.requires.room);
    }

-- no values
pub returns-then-is_empty-clause-bytes : goal.returns-then-is_empty-clause-bytes
returns-then-is_empty-clause-bytes c =
    let d = c.args.datum.now in
    let old = c.args.self.now.bytes.items in
    let new = c.add_zeros.new.self.bytes.items in
    let same : (new ≡ old ++ replicate c.from.result 0) → (new ≡ old ++ datum_by (unfilled c.args.addresses.now) d) =
    λ e. e ∙ ap (λ (n : ℕ). old ++ replicate n 0) c.from.ensures ∙ ap (λ (xs : List ℕ). old ++ xs) (empty_datum (unfilled c.args.addresses.now) d (c.is_empty.ensures.0 c.if-is_empty.true))
    in
    on_ok_weaker c.add_zeros.result same c.add_zeros.ensures.bytes

pub returns-then-is_empty-clause-fixes : goal.returns-then-is_empty-clause-fixes
returns-then-is_empty-clause-fixes c =
    let d = c.args.datum.now in
    let old = c.args.self.now.fixes.items in
    let place = length c.args.self.now.bytes.items in
    always_ok c.add_zeros.result (c.add_zeros.ensures.fixes ∙ no_fixes old place d.width d.values (c.is_empty.ensures.0 c.if-is_empty.true))

-- some values
pub returns-else-is_empty-clause-bytes : goal.returns-else-is_empty-clause-bytes
returns-else-is_empty-clause-bytes c =
    let d = c.args.datum.now in
    let word = unfilled c.args.addresses.now in
    let old = c.args.self.now.bytes.items in
    let new = c.add_values.new.self.bytes.items in
    let some : d.values ≢ [] = λ e.
    let yes' : c.is_empty.result ≡ true = c.is_empty.ensures.1 e in
    let no' : c.is_empty.result ≡ false = c.if-is_empty.false in
    absurd (cc)
    in
    let same : (new ≡ old ++ value_bytes word d.width c.as_slice.result.now) → (new ≡ old ++ datum_by word d) =
    λ e. e ∙ ap (λ (cs : List Constant). old ++ value_bytes word d.width cs) c.as_slice.ensures ∙ ap (λ (xs : List ℕ). old ++ xs) (full_datum word d some)
    in
    on_ok_weaker c.add_values.result same c.add_values.ensures.bytes

pub returns-else-is_empty-clause-fixes : goal.returns-else-is_empty-clause-fixes
returns-else-is_empty-clause-fixes c =
    let d = c.args.datum.now in
    let old = c.args.self.now.fixes.items in
    let place = length c.args.self.now.bytes.items in
    let new = c.add_values.new.self.fixes.items in
    let same : (new ≡ old ++ value_fixes place d.width c.as_slice.result.now) → (new ≡ old ++ value_fixes place d.width d.values) =
    λ e. e ∙ ap (λ (cs : List Constant). old ++ value_fixes place d.width cs) c.as_slice.ensures
    in
    on_ok_weaker c.add_values.result same c.add_values.ensures.fixes
