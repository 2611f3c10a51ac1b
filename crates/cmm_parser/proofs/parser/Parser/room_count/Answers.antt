use Rattle.std.proofs.Common.{◌∙◌}
use Rattle.cmm_parser.proofs.Steps.{handed, loosely, steps, stops, holds, gives}
use Rattle.cmm_parser.proofs.parser.Parser.room_count.Goals as goal

pub returns-in_err-room_size : goal.returns-in_err-room_size
returns-in_err-room_size c =
    loosely (holds (c.is_symbol.ensures ∙ c.if-is_symbol.true) (stops _ c.in_err-room_size.ensures (handed c.from_residual.ensures.1)))

pub returns-in_ok-room_size : goal.returns-in_ok-room_size
returns-in_ok-room_size c =
    loosely (holds (c.is_symbol.ensures ∙ c.if-is_symbol.true) (steps _ c.in_ok-room_size.ensures gives))
