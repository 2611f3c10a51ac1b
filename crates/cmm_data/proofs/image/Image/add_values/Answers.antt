use Rattle.std.proofs.Common.{◌≡◌, ℕ, ◌+◌, ◌++◌, ◌∙◌, ap, arith, List, drop, get_or, length}
use Rattle.std.proofs.lemmas.List.{get_or_default}
use Rattle.std.proofs.lemmas.Option.{slice_get-get_or}
use Rattle.cmm_words.specs.Widths.{bytes}
use Rattle.cmm_words.specs.declared.constant.Constant.{Constant}
use Rattle.cmm_words.specs.declared.constant.Constant.TheVariants.{Number}
use Rattle.cmm_words.specs.declared.width.Width.TheVariants.{W8}
use Rattle.cmm_program.specs.Layout.{bytes_of}
use Rattle.cmm_data.specs.declared.fix.Fix.{Fix}
use Rattle.cmm_data.specs.inside.Walking.{fix_by, unfilled, value_bytes, value_fixes}
use Rattle.cmm_data.proofs.Placing.{length-word, room_more, room_now, value_fixes_more, values_more}
use Rattle.cmm_data.proofs.image.Image.add_values.Goals as goal

-- what is read past the end, which nothing is
abbrev past : Constant
past = Number 0 W8

pub add_fix-requires : goal.add_fix-requires
add_fix-requires c =
    let cs = c.args.values.now in
    let i = c.loop-value.value-index in
    room_now c.args.width (length c.loop-value.self.bytes.items) cs i (get_or cs i past) (slice_get-get_or cs i past c.loop-value-test.true) c.loop-value.invariant.room

pub loop-value-preserved : goal.loop-value-preserved
loop-value-preserved c =
    let cs = c.args.values.now in
    let i = c.loop-value.value-index in
    let v = get_or cs i past in
    let width = c.args.width in
    let word = unfilled c.args.addresses.now in
    let old = c.loop-value.self.bytes.items in
    let fixes = c.loop-value.self.fixes.items in
    let left = drop (i + 1) cs in
    let is = slice_get-get_or cs i past c.loop-value-test.true in
    let word_is : c.word_of.result ≡ word v = c.word_of.ensures ∙ ap (λ (x : Constant). word x) (get_or_default cs i _ past c.loop-value-test.true) in
    let bytes_are : c.add_word.new.self.bytes.items ≡ old ++ bytes_of (bytes width) (word v) =
    c.in_ok-add_word.ensures.bytes
    ∙ ap (λ (xs : List ℕ). xs ++ bytes_of (bytes width) c.word_of.result) c.in_ok-add_fix.ensures.bytes
    ∙ ap (λ (w : ℕ). old ++ bytes_of (bytes width) w) word_is
    in
    let count : length c.add_word.new.self.bytes.items ≡ length old + bytes width = ap length bytes_are ∙ length-word old width (word v) in
    let fixes_are : c.add_word.new.self.fixes.items ≡ fixes ++ fix_by (length old) v =
    c.in_ok-add_word.ensures.fixes ∙ c.in_ok-add_fix.ensures.fixes
    ∙ ap (λ (x : Constant). fixes ++ fix_by (length old) x) (get_or_default cs i _ past c.loop-value-test.true)
    in
    record {
      so_far = ap (λ (xs : List ℕ). xs ++ value_bytes word width left) bytes_are ∙ values_more word width old cs i v is ∙ c.loop-value.invariant.so_far;
      waiting = ap (λ (fs : List Fix). fs ++ value_fixes (length c.add_word.new.self.bytes.items) width left) fixes_are
          ∙ ap (λ (n : ℕ). (fixes ++ fix_by (length old) v) ++ value_fixes n width left) count
          ∙ value_fixes_more width (length old) fixes cs i v is ∙ c.loop-value.invariant.waiting;
      room = omega (arith, count, room_more width (length old) cs i v is c.loop-value.invariant.room);
    }
