use Rattle.cmm_compile.proofs.Agreeing.{images_agree_with_units}
use Rattle.cmm_compile.proofs.laws.images_agree_with_units.Goals as goal

pub returns : goal.returns
returns c =
    let rows = c.rows_are_placed.ensures in
    let runs = c.located_runs_follow_programs.ensures in
    let places = c.places_are_compiled.ensures in
    let clients = c.images_agree_with_clients.ensures in
    images_agree_with_units rows.frames rows.placed c.programs_in_range.ensures c.data_reaches_its_end.ensures runs.follows runs.begins places.compiled places.showable
    c.images_have_rows.ensures c.rows_are_tables.ensures c.images_keep_frames.ensures clients.agrees clients.lines
