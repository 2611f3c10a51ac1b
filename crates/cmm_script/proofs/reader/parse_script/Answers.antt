use Rattle.std.proofs.Common.{arith, refl, inl}
use Rattle.std.proofs.lemmas.Result.{err_from_is_err_and}
use Rattle.cmm_script.proofs.Limits.{scripts_give_few}
use Rattle.cmm_script.proofs.Scripts.{made-script, made-fault, made-is, script-fault, made-no-fault, fault-is}
use Rattle.cmm_script.proofs.reader.parse_script.Goals as goal

pub returns-then-bytes-gt-SCRIPT_LIMIT-clause-err : goal.returns-then-bytes-gt-SCRIPT_LIMIT-clause-err
returns-then-bytes-gt-SCRIPT_LIMIT-clause-err c = rw c.fault.ensures (inl (omega arith, refl, refl))

pub returns-in_err-blocks-clause-only : goal.returns-in_err-blocks-clause-only
returns-in_err-blocks-clause-only c =
    let p = err_from_is_err_and c.from_residual.result c.from_residual.ensures.1 in
    rw (p.1, p.2) (λ s h. script-fault c.args.bytes.now s c.in_err-blocks.field-0.0 c.in_err-blocks.ensures h)

pub returns-in_err-blocks-clause-err : goal.returns-in_err-blocks-clause-err
returns-in_err-blocks-clause-err c =
    let p = err_from_is_err_and c.from_residual.result c.from_residual.ensures.1 in
    rw (p.1, p.2) (made-fault c.args.bytes.now c.in_err-blocks.field-0.0 (omega arith) c.in_err-blocks.ensures)

pub returns-in_err-blocks-clause-refused : goal.returns-in_err-blocks-clause-refused
returns-in_err-blocks-clause-refused c =
    let p = err_from_is_err_and c.from_residual.result c.from_residual.ensures.1 in
    rw (p.1, p.2) (λ rule line h. fault-is c.args.bytes.now rule line c.in_err-blocks.field-0.0 (omega arith) c.in_err-blocks.ensures h)

pub returns-clause-ok : goal.returns-clause-ok
returns-clause-ok c = made-script c.args.bytes.now c.in_ok-blocks.blocks (omega arith) c.in_ok-blocks.ensures

pub returns-clause-only : goal.returns-clause-only
returns-clause-only c = λ s h. made-is c.args.bytes.now c.in_ok-blocks.blocks s c.in_ok-blocks.ensures h

pub returns-clause-refused : goal.returns-clause-refused
returns-clause-refused c = λ rule line h. made-no-fault c.args.bytes.now c.in_ok-blocks.blocks rule line (omega arith) c.in_ok-blocks.ensures h

pub returns-clause-few : goal.returns-clause-few
returns-clause-few c = scripts_give_few c.args.bytes.now _ (made-script c.args.bytes.now c.in_ok-blocks.blocks (omega arith) c.in_ok-blocks.ensures)
