-- Worked rows: the rows of a site at which one variable is live and one is not, with an unwind exit and a span round it.
--     main() { bits64 x, y, z; x = 1; y = 2; span 5 main { z = main() also unwinds to k; } return (x + z); continuation k(y): return (y); }
-- x and z are read behind the call, but z is its result; the parameter y of k is written where the call is unwound.
use Rattle.std.proofs.Common.{◌≡◌, ℕ, ◌+◌, List, [], ◌∷◌, None, false, refl}
use Rattle.std.specs.Prelude.{codes, slice_index_or}
use Rattle.cmm_words.specs.declared.constant.Constant.{Constant}
use Rattle.cmm_words.specs.declared.constant.Constant.TheVariants.{Code}
use Rattle.cmm_words.specs.declared.operators.Op2.TheVariants.{Add}
use Rattle.cmm_words.specs.declared.width.Width.TheVariants.{W64}
use Rattle.cmm_program.specs.declared.procedure.Proc.{Proc}
use Rattle.cmm_program.specs.declared.statement.Form.TheVariants as form
use Rattle.cmm_program.proofs.Shared as sample
use Rattle.cmm_program.proofs.Shared.{call_site, continuation, opened, procedure}
use Rattle.cmm_chain.specs.declared.frame.Location.{Location}
use Rattle.cmm_chain.specs.declared.frame.Location.TheVariants.{Saved, Slot}
use Rattle.cmm_image.specs.declared.rows.SiteRow.{SiteRow}
use Rattle.cmm_image.specs.declared.rows.VariablePlace.TheVariants as place
use Rattle.cmm_tables.specs.declared.unplaced.UnplacedSite.{UnplacedSite}
use Rattle.cmm_tables.specs.SiteRows.{local_place, placed_site, unplaced_sites}

abbrev main-proc : Proc
main-proc = record (procedure (codes "main") 40 0 3 (record (call_site (2 ∷ [])) { unwinds = 0 ∷ []; spans = (5, Code 0 4) ∷ [] } ∷ [])
    (sample.is 4 (sample.assign 0 (sample.num 1))
    ∷ sample.is 4 (sample.assign 1 (sample.num 2))
    ∷ sample.is 10 (form.Call 0 (sample.code 0) [])
    ∷ sample.is 6 (form.Return 0 0 (sample.op Add (sample.local 0) (sample.local 2) ∷ []))
    ∷ sample.is 6 (form.Continuation 0)
    ∷ sample.is 5 (form.Return 0 0 (sample.local 1 ∷ []))
    ∷ [])) { conts = continuation (1 ∷ []) ∷ [] }

-- x in a callee-saves register, y and z in slots
abbrev places : List Location
places = Saved 9 ∷ Slot 16 ∷ Slot 24 ∷ []

abbrev unplaced : UnplacedSite
unplaced = record {
  procedure = 3;
  number = 0;
  never_returns = false;
  aborts = false;
  yield_values = None;
  results = W64 ∷ [];
  returns = [];
  unwinds = record { 0 = 0 } ∷ [];
  cuts = [];
  variables = place.Register 9 ∷ place.Dead ∷ place.Dead ∷ [];
  spans = (5, Code 0 4) ∷ [];
}

one_is_live : unplaced_sites main-proc (local_place places) 3 ≡ unplaced ∷ []
unfolding opened
one_is_live = refl

-- z is live where another exit leads to where it is read
abbrev later-proc : Proc
later-proc = record main-proc { conts = continuation [] ∷ [] }

abbrev later_unplaced : UnplacedSite
later_unplaced = record unplaced { variables = place.Register 9 ∷ place.Slot 16 ∷ place.Dead ∷ [] }

two_are_live : unplaced_sites later-proc (local_place places) 3 ≡ later_unplaced ∷ []
unfolding opened
two_are_live = refl

-- a variable that has no place lasts over no call
abbrev placeless : UnplacedSite
placeless = record unplaced { variables = place.Dead ∷ place.Dead ∷ place.Dead ∷ [] }

none_has_a_place : unplaced_sites main-proc (local_place []) 3 ≡ placeless ∷ []
unfolding opened
none_has_a_place = refl

-- with addresses: control comes back at 0x10020, k is landed at 0x10100, and the procedure stands at 0x10010
abbrev value : Constant → ℕ
value (Code proc plus) = 0x10010 + plus
value c = 0

abbrev placed : SiteRow
placed = record {
  return_address = 0x10020;
  procedure = 3;
  number = 0;
  never_returns = false;
  aborts = false;
  yield_values = None;
  results = W64 ∷ [];
  returns = [];
  unwinds = record { continuation = record { 0 = 0 }; landing = 0x10100 } ∷ [];
  cuts = [];
  variables = place.Register 9 ∷ place.Dead ∷ place.Dead ∷ [];
  spans = record { token = 5; value = 0x10014 } ∷ [];
}

it_is_placed : placed_site (λ k. slice_index_or (0x10100 ∷ []) k 0) value 0x10020 unplaced ≡ placed
it_is_placed = refl
