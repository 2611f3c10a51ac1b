use Rattle.std.proofs.Common.{ℕ, List, Option, Some, Ok, Err, Result, codes, refl}
use Rattle.clap.specs.Words.{Row, first_of, found_of, rows_of}
use Rattle.cmm_command.specs.declared.command.RunLimits.{RunLimits}
use Rattle.cmm_command.specs.declared.fault.CommandFault.{CommandFault}
use Rattle.cmm_command.specs.Numbers.{stack_of, steps_of}
use Rattle.cmm_command.specs.Reading.{◌>>=◌, read_or}
use Rattle.cmm_command.proofs.Giving.{goes, limits, number, reads_along, stops, text_if_given}
use Rattle.cmm_command.proofs.Sorting.{first-is}
use Rattle.cmm_command.proofs.sorted.limits.Goals as goal

abbrev with_stack : ℕ → ℕ → Option RunLimits
with_stack steps stack = Some (record { steps = steps; stack = stack })

abbrev after_steps : List Row → ℕ → Option RunLimits
after_steps rs steps = read_or 1048576 stack_of (first_of (codes "stack") rs) >>= with_stack steps

abbrev steps_in : List Row → Option ℕ
steps_in rs = read_or 1000000000 steps_of (first_of (codes "steps") rs)

abbrev stack_in : List Row → Option ℕ
stack_in rs = read_or 1048576 stack_of (first_of (codes "stack") rs)

pub returns-in_err-steps : goal.returns-in_err-steps
returns-in_err-steps c =
    let found = found_of c.args.matches.now in
    let given = text_if_given c.get_str.result in
    stops number limits (steps_in (rows_of found)) (after_steps (rows_of found)) c.in_err-steps.field-0.0 c.from_residual.result
    (reads_along number 1000000000 steps_of (first_of (codes "steps") (rows_of found)) given (Err c.in_err-steps.field-0.0)
    (first-is found (codes "steps") given c.get_str.ensures) c.in_err-steps.ensures) c.from_residual.ensures.1

pub returns-in_err-stack : goal.returns-in_err-stack
returns-in_err-stack c =
    let found = found_of c.args.matches.now in
    let given = text_if_given c.get_str.result in
    let more = text_if_given c.get_str-2.result in
    let steps = c.in_ok-steps.steps in
    let result = c.from_residual-in_err-stack.result in
    goes number limits (steps_in (rows_of found)) (after_steps (rows_of found)) steps result
    (reads_along number 1000000000 steps_of (first_of (codes "steps") (rows_of found)) given (Ok steps)
    (first-is found (codes "steps") given c.get_str.ensures) c.in_ok-steps.ensures)
    (stops number limits (stack_in (rows_of found)) (with_stack steps) c.in_err-stack.field-0.0 result
    (reads_along number 1048576 stack_of (first_of (codes "stack") (rows_of found)) more (Err c.in_err-stack.field-0.0)
    (first-is found (codes "stack") more c.get_str-2.ensures) c.in_err-stack.ensures) c.from_residual-in_err-stack.ensures.1)

pub returns : goal.returns
returns c =
    let found = found_of c.args.matches.now in
    let given = text_if_given c.get_str.result in
    let more = text_if_given c.get_str-2.result in
    let steps = c.in_ok-steps.steps in
    let stack = c.in_ok-stack.stack in
    let result : Result RunLimits CommandFault = Ok (record { steps = steps; stack = stack }) in
    goes number limits (steps_in (rows_of found)) (after_steps (rows_of found)) steps result
    (reads_along number 1000000000 steps_of (first_of (codes "steps") (rows_of found)) given (Ok steps)
    (first-is found (codes "steps") given c.get_str.ensures) c.in_ok-steps.ensures)
    (goes number limits (stack_in (rows_of found)) (with_stack steps) stack result
    (reads_along number 1048576 stack_of (first_of (codes "stack") (rows_of found)) more (Ok stack)
    (first-is found (codes "stack") more c.get_str-2.ensures) c.in_ok-stack.ensures) refl)
