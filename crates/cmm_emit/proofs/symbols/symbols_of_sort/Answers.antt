use Rattle.std.proofs.Common.{◌≡◌, ℕ, ◌+◌, ◌++◌, ◌∷◌, [], ◌∙◌, ◌≤◌, ap, arith, append-nil, append_assoc, Bool, List, Option, length, length-append, map, refl, sym}
use Rattle.std.specs.Prelude.{cond, filter}
use Rattle.std.specs.List.{range_with_len}
use Rattle.std.proofs.lemmas.List.{length-map}
use Rattle.rv_asm.specs.declared.part.Label.{Label}
use Rattle.cmm_bitset.specs.Sets.{has}
use Rattle.cmm_unit_code.specs.declared.unit_code.Reference.{Reference}
use Rattle.cmm_emit.specs.Labels.{reference_of}
use Rattle.cmm_emit.proofs.Symbolled.{filter_few, members_more, one_more, range_counted}
use Rattle.cmm_emit.proofs.symbols.symbols_of_sort.Goals as goal

pub symbol-requires-clause-few : goal.symbol-requires-clause-few
symbol-requires-clause-few c =
    let few = c.requires.few in
    let set = c.args.named.now in
    let old = c.args.references.now in
    let n = c.loop-number.number in
    let so_far = map (reference_of c.args.sort) (filter (has set) (range_with_len 0 n)) in
    omega (
      arith,
      few,
      ap (λ (rs : List Reference). length rs) c.loop-number.invariant.references,
      length-append old so_far,
      length-map (filter (has set) (range_with_len 0 n)) (reference_of c.args.sort),
      filter_few (has set) (range_with_len 0 n),
      range_counted 0 n,
      c.loop-number-test.true,
      c.size-number-end.ensures,
    )

pub loop-number-preserved : goal.loop-number-preserved
loop-number-preserved c =
    let inv = c.loop-number.invariant in
    let set = c.args.named.now in
    let make = reference_of c.args.sort in
    let old = c.args.references.now in
    let n = c.loop-number.number in
    let e = c.in_ok-symbol.ensures in
    let so_far = map make (filter (has set) (range_with_len 0 n)) in
    record {
      made = one_more make (has set) n c.loop-number.references c.loop-number.made inv.made (has set n) refl c.in_ok-symbol.field-0 e.made c.symbol.new.references e.references
          c.push.new.self c.in_ok-push.ensures.ok;
      references = e.references
          ∙ (ap (λ (rs : List Reference). rs ++ cond (has set n) (make n ∷ []) []) inv.references
          ∙ (append_assoc old so_far (cond (has set n) (make n ∷ []) []) ∙ ap (λ (rs : List Reference). old ++ rs) (sym (members_more make set n))));
      labels = e.labels;
      parts = e.parts ∙ inv.parts;
    }
