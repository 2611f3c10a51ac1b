use Rattle.cmm_words.proofs.WordLaws.{shl_by_any, shrl_by_any, shra_by_any, shl_past, shrl_past, shra_past}
use Rattle.cmm_words.proofs.laws.shifts_by_any_count.Goals as goal

pub returns-clause-left : goal.returns-clause-left
returns-clause-left c = shl_by_any

pub returns-clause-right : goal.returns-clause-right
returns-clause-right c = shrl_by_any

pub returns-clause-right_signed : goal.returns-clause-right_signed
returns-clause-right_signed c = shra_by_any

pub returns-clause-left_past_width : goal.returns-clause-left_past_width
returns-clause-left_past_width c = shl_past

pub returns-clause-right_past_width : goal.returns-clause-right_past_width
returns-clause-right_past_width c = shrl_past

pub returns-clause-right_signed_past_width : goal.returns-clause-right_signed_past_width
returns-clause-right_signed_past_width c = shra_past
