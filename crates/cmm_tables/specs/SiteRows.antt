-- The rows that the tables of an image have for call sites of a program (Ramsey and Peyton Jones, PLDI 2000, run-time tables): before code has
-- addresses, and once it has them.
use Rattle.std.specs.Prelude.{ℕ, Bool, true, List, length, map, slice_index_or}
use Rattle.std.specs.List.{enumerate_from, range_with_len}
use Rattle.cmm_words.specs.declared.constant.Constant.{Constant}
use Rattle.cmm_program.specs.declared.procedure.Proc.{Proc}
use Rattle.cmm_program.specs.declared.procedure.Site.{Site}
use Rattle.cmm_program.specs.Liveness.{is_live_at}
use Rattle.cmm_program.specs.Orders.{target_width}
use Rattle.cmm_chain.specs.declared.frame.Location.{Location}
use Rattle.cmm_chain.specs.declared.frame.Location.TheVariants as location
use Rattle.cmm_image.specs.declared.rows.ContinuationNumber.{ContinuationNumber}
use Rattle.cmm_image.specs.declared.rows.SiteRow.{SiteRow}
use Rattle.cmm_image.specs.declared.rows.SpanRow.{SpanRow}
use Rattle.cmm_image.specs.declared.rows.UnwindRow.{UnwindRow}
use Rattle.cmm_image.specs.declared.rows.VariablePlace.{VariablePlace}
use Rattle.cmm_image.specs.declared.rows.VariablePlace.TheVariants as place
use Rattle.cmm_tables.specs.declared.unplaced.UnplacedSite.{UnplacedSite}

-- ---- places of variables

-- the place of a local by its number; for one that has none, a register stands that lasts over no call
abbrev pub local_place : List Location → ℕ → Location
local_place places v = slice_index_or places v (location.Temp 12)

-- where a variable is while its activation waits, if it is live; one that is lies in a slot or in a callee-saves register
abbrev pub place_while : Bool → Location → VariablePlace
place_while true (location.Slot offset) = place.Slot offset
place_while true (location.Saved r) = place.Register r
place_while _ _ = place.Dead

-- ---- sites without addresses

abbrev pub continuation_number : ℕ → ContinuationNumber
continuation_number k = record { 0 = k }

-- A site by the number of its procedure, whose locals have these places, and its own. It has just the variables that are live there.
abbrev pub unplaced_site : Proc → (ℕ → Location) → ℕ → ℕ → Site → UnplacedSite
unplaced_site p place_of q n site = record {
  procedure = q;
  number = n;
  never_returns = site.never;
  aborts = site.aborts;
  yield_values = site.yield_values;
  results = map target_width site.results;
  returns = map continuation_number site.returns;
  unwinds = map continuation_number site.unwinds;
  cuts = map continuation_number site.cuts;
  variables = map (λ v. place_while (is_live_at p n v) (place_of v)) (range_with_len 0 (length p.vars));
  spans = site.spans;
}

-- all sites of a procedure
abbrev pub unplaced_sites : Proc → (ℕ → Location) → ℕ → List UnplacedSite
unplaced_sites p place_of q = map (λ of. unplaced_site p place_of q of.0 of.1) (enumerate_from 0 p.sites)

-- ---- sites with addresses

abbrev pub unwind_row : (ℕ → ℕ) → ContinuationNumber → UnwindRow
unwind_row landing k = record { continuation = k; landing = landing k.0 }

abbrev pub span_row : (Constant → ℕ) → ℕ × Constant → SpanRow
span_row value span = record { token = span.0; value = value span.1 }

-- the row of a site to which control comes back at an address, where continuations have these landings and constants come to these numbers
abbrev pub placed_site : (ℕ → ℕ) → (Constant → ℕ) → ℕ → UnplacedSite → SiteRow
placed_site landing value address site = record {
  return_address = address;
  procedure = site.procedure;
  number = site.number;
  never_returns = site.never_returns;
  aborts = site.aborts;
  yield_values = site.yield_values;
  results = site.results;
  returns = site.returns;
  unwinds = map (unwind_row landing) site.unwinds;
  cuts = site.cuts;
  variables = site.variables;
  spans = map (span_row value) site.spans;
}
