use Rattle.std.proofs.Common.{◌≡◌, ◌++◌, sym, ◌∙◌, ap, subst}
use Rattle.std.specs.Prelude.{OnOk}
use Rattle.rv_table.specs.Stands.{code_of}
use Rattle.rv_asm.proofs.Validity.{branch_form, branch_word_valid}
use Rattle.rv_asm.specs.inside.Forms.{number_of, short_form, unfilled}
use Rattle.rv_asm.proofs.form.add_short_form.Goals as goal

pub add-requires : goal.add-requires
add-requires c =
    let b = c.in-Branch in
    let fits = rw b.is at c.requires.fits in
    rw c.near_branch.ensures
    (branch_word_valid unfilled c.args.places.now c.args.labels.now c.args.from b.compare b.left b.right b.to fits c.requires.addresses c.requires.count (rw b.is at c.requires.short) c.requires.low c.requires.aligned)

pub returns-in-Branch : goal.returns-in-Branch
returns-in-Branch c =
    let b = c.in-Branch in
    let fits = rw b.is at c.requires.fits in
    let form = branch_form unfilled c.args.places.now c.args.labels.now c.args.from b.compare b.left b.right b.to fits in
    subst (λ is. OnOk c.add.result (c.add.new.bytes.items ≡ c.args.bytes.now.items ++ code_of is)) (sym (ap (short_form (number_of c.args.labels.now c.args.places.now unfilled) c.args.labels.now c.args.from) b.is ∙ form))
    (rw c.near_branch.ensures at c.add.ensures)
