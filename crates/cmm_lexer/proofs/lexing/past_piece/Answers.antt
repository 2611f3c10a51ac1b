use Rattle.std.proofs.Common.{◌≡◌, ◌==◌, drop, arith}
use Rattle.cmm_lexer.specs.Places.{column_at}
use Rattle.cmm_lexer.specs.Pieces.{piece_at}
use Rattle.cmm_lexer.specs.Lexing.{token_of, fault_of, IsFirstFault}
use Rattle.cmm_lexer.proofs.Placing.{line_at-add, column_at-add, column_at-le}
use Rattle.cmm_lexer.proofs.Splitting.{pieces_at-step, given-step, nothing-step}
use Rattle.cmm_lexer.proofs.Numbered.{counted-taken}
use Rattle.cmm_lexer.proofs.Finishing.{blamed, err-passed}
use Rattle.cmm_lexer.proofs.lexing.past_piece.Goals as goal

pub pass-requires-clause-column : goal.pass-requires-clause-column
pass-requires-clause-column c = omega (arith, column_at-le c.args.unit.now c.args.place, c.requires.reached.column, c.in_ok-take.ensures.place.1, c.in_ok-piece.ensures.within)

pub returns-in_err-take-clause-err : goal.returns-in_err-take-clause-err
returns-in_err-take-clause-err c =
    let piece : c.in_ok-piece.piece ≡ piece_at (column_at c.args.unit.now c.args.place == 1) (drop c.args.place c.args.unit.now) = rw (← c.split_at.ensures.back, ← c.requires.reached.column) c.in_ok-piece.ensures.piece in
    let step = pieces_at-step c.args.unit.now c.args.place c.in_ok-piece.piece c.requires.inside piece c.in_ok-piece.ensures.within.0 in
    err-passed c.from_residual-in_err-take.result c.in_err-take.field-0.0 (IsFirstFault c.args.unit.now) c.from_residual-in_err-take.ensures.1
    (blamed c.args.unit.now c.args.place c.in_ok-piece.piece c.args.tokens.now.line c.args.tokens.now.column c.in_err-take.field-0.0 _ c.requires.short step c.requires.reached.faults c.requires.reached.line c.requires.reached.column c.in_err-take.ensures.err)

pub returns-clause-reached : goal.returns-clause-reached
returns-clause-reached c =
    let piece : c.in_ok-piece.piece ≡ piece_at (column_at c.args.unit.now c.args.place == 1) (drop c.args.place c.args.unit.now) = rw (← c.split_at.ensures.back, ← c.requires.reached.column) c.in_ok-piece.ensures.piece in
    let step = pieces_at-step c.args.unit.now c.args.place c.in_ok-piece.piece c.requires.inside piece c.in_ok-piece.ensures.within.0 in
    record {
      within = omega (arith, c.in_ok-piece.ensures.within, c.split_at.ensures.back_len);
      tokens = given-step (token_of c.args.unit.now) _ _ _ _ _ _ step c.requires.reached.tokens (rw (c.pass.ensures.list, c.pass.ensures.spellings, ← c.requires.reached.line, ← c.requires.reached.column) c.in_ok-take.ensures.list);
      faults = nothing-step fault_of _ _ _ _ step c.requires.reached.faults c.in_ok-take.ensures.unbroken;
      numbered = rw (c.pass.ensures.list, c.pass.ensures.spellings) c.in_ok-take.ensures.numbered;
      distinct = rw c.pass.ensures.spellings c.in_ok-take.ensures.distinct;
      few = rw c.pass.ensures.spellings (omega (arith, c.in_ok-take.ensures.few, c.requires.reached.few, c.in_ok-piece.ensures.within));
      counted =
          rw c.pass.ensures.list
          (omega (arith, counted-taken _ _ _ _ _ _ _ _ _ c.in_ok-take.ensures.list, c.requires.reached.counted, c.in_ok-piece.ensures.within));
      line = rw (line_at-add, ← c.split_at.ensures.back, ← c.split_at-2.ensures.front, ← c.requires.reached.line, ← c.in_ok-take.ensures.place.0) c.pass.ensures.line;
      column = rw (column_at-add, ← c.split_at.ensures.back, ← c.split_at-2.ensures.front, ← c.requires.reached.column, ← c.in_ok-take.ensures.place.1) c.pass.ensures.column;
    }
