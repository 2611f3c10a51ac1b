use Rattle.cmm_words.proofs.WordLaws.{or_cut, xor_cut, shl_cut, shrl_cut, shra_cut, rotl_shifts, rotr_shifts, div_cut, mod_cut, rem_cut}
use Rattle.cmm_words.proofs.laws.wide_operators.Goals as goal

pub returns-clause-or : goal.returns-clause-or
returns-clause-or c = or_cut

pub returns-clause-xor : goal.returns-clause-xor
returns-clause-xor c = xor_cut

pub returns-clause-shl : goal.returns-clause-shl
returns-clause-shl c = shl_cut

pub returns-clause-shrl : goal.returns-clause-shrl
returns-clause-shrl c = shrl_cut

pub returns-clause-shra : goal.returns-clause-shra
returns-clause-shra c = shra_cut

pub returns-clause-rotl : goal.returns-clause-rotl
returns-clause-rotl c = rotl_shifts

pub returns-clause-rotr : goal.returns-clause-rotr
returns-clause-rotr c = rotr_shifts

pub returns-clause-div : goal.returns-clause-div
returns-clause-div c = div_cut

pub returns-clause-modulo : goal.returns-clause-modulo
returns-clause-modulo c = mod_cut

pub returns-clause-rem : goal.returns-clause-rem
returns-clause-rem c = rem_cut
