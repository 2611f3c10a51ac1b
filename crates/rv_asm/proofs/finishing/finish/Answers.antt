use Rattle.std.proofs.Common.{◌≡◌, ◌+◌, ◌∙◌, arith, length}
use Rattle.rv_table.specs.Stands.{code_of}
use Rattle.rv_asm.proofs.Finished.{code_size, run_as_parts}
use Rattle.rv_asm.proofs.Fixes.{fixes_apart, symbols_are}
use Rattle.rv_asm.proofs.Places.{have_forms, have_places}
use Rattle.rv_asm.proofs.Sizes.{end_aligned, end_most}
use Rattle.rv_asm.specs.inside.Forms.{code_by, fixes_of, unfilled}
use Rattle.rv_asm.proofs.finishing.finish.Goals as goal

pub returns-clause-runs : goal.returns-clause-runs
returns-clause-runs c =
    let labels = c.args.labels.now in
    let parts = c.args.parts.now in
    let places = c.in_ok-places.places.items in
    let made = c.from_vec.ensures in
    let code = c.in_ok-bytes.ensures in
    let same = c.deref.ensures.value in
    let also = c.deref-2.ensures.value in
    let bytes : c.from_vec.result ≡ code_of (code_by labels places unfilled c.args.base parts) = cc in
    let fixes : c.from_vec-3.result ≡ fixes_of labels places c.args.base 0 parts = rw also at (c.from_vec-3.ensures ∙ c.in_ok-fixes.ensures) in
    rw (bytes, fixes, c.from_vec-2.ensures)
    (run_as_parts labels parts c.args.base places c.requires.aligned c.requires.room c.requires.sound.fit c.in_ok-places.ensures)

pub returns-clause-size : goal.returns-clause-size
returns-clause-size c =
    let labels = c.args.labels.now in
    let parts = c.args.parts.now in
    let made = c.from_vec.ensures in
    let code = c.in_ok-bytes.ensures in
    rw (made, code)
    (omega (arith, code_size labels c.deref.result.now unfilled c.args.base parts, end_most labels c.deref.result.now c.args.base parts))

pub returns-clause-symbols : goal.returns-clause-symbols
returns-clause-symbols c =
    let fixes : c.from_vec-3.result ≡ fixes_of c.args.labels.now c.deref-2.result.now c.args.base 0 c.args.parts.now = c.from_vec-3.ensures ∙ c.in_ok-fixes.ensures in
    rw fixes (symbols_are c.args.labels.now c.deref-2.result.now c.args.base 0 c.args.parts.now)

pub returns-clause-apart : goal.returns-clause-apart
returns-clause-apart c =
    let labels = c.args.labels.now in
    let parts = c.args.parts.now in
    let places = c.in_ok-places.places.items in
    let fixes : c.from_vec-3.result ≡ fixes_of labels places c.args.base 0 parts = rw c.deref-2.ensures.value at (c.from_vec-3.ensures ∙ c.in_ok-fixes.ensures) in
    let code = rw c.deref.ensures.value at c.in_ok-bytes.ensures in
    let bytes = code_of (code_by labels places unfilled c.args.base parts) in
    let e : c.args.base + 0 ≡ c.args.base = omega arith in
    rw (fixes, c.from_vec.ensures, code)
    (fixes_apart labels places c.args.base 0 (length bytes) parts (rw e (omega (arith, code_size labels places unfilled c.args.base parts))))

pub returns-clause-places : goal.returns-clause-places
returns-clause-places c =
    let labels = c.args.labels.now in
    let parts = c.args.parts.now in
    let places = c.in_ok-places.places.items in
    let code = rw c.deref.ensures.value at c.in_ok-bytes.ensures in
    let bytes = code_of (code_by labels places unfilled c.args.base parts) in
    rw (c.from_vec-2.ensures, c.from_vec.ensures, code)
    (have_places labels parts c.args.base places (length bytes) c.requires.aligned (code_size labels places unfilled c.args.base parts) c.in_ok-places.ensures)

pub returns-clause-forms : goal.returns-clause-forms
returns-clause-forms c =
    let labels = c.args.labels.now in
    let parts = c.args.parts.now in
    let places = c.in_ok-places.places.items in
    let code = rw c.deref.ensures.value at c.in_ok-bytes.ensures in
    let bytes = code_of (code_by labels places unfilled c.args.base parts) in
    rw (c.from_vec-2.ensures, c.from_vec.ensures, code)
    (have_forms labels parts c.args.base places (length bytes) (code_size labels places unfilled c.args.base parts) c.in_ok-places.ensures)

pub returns-clause-whole : goal.returns-clause-whole
returns-clause-whole c =
    let labels = c.args.labels.now in
    let parts = c.args.parts.now in
    let places = c.deref.result.now in
    let size = code_size labels places unfilled c.args.base parts in
    rw (c.from_vec.ensures, c.in_ok-bytes.ensures) (omega (arith, size, end_aligned labels places c.args.base parts c.requires.aligned, c.requires.aligned))
