use Rattle.std.proofs.Common.{◌≤◌, ◌++◌, Bor, List, ℕ, None, ap, length, map, refl, subst, sym}
use Rattle.std.specs.List.{All}
use Rattle.std.specs.Option.{option_map}
use Rattle.cmm_outside.specs.declared.storage.TheConstants.{NAME_LIMIT}
use Rattle.cmm_run.specs.Outside.{outside_of}
use Rattle.cmm_top.specs.Answers.{Does}
use Rattle.cmm_work.specs.Standing.{standing}
use Rattle.cmm_top.specs.declared.task.Task.{Task}
use Rattle.cmm_work.specs.Ending.{work_of}
use Rattle.cmm_top.specs.inside.Tasks.{CanBeDone, plain_task}
use Rattle.cmm_top.proofs.Asked.{short_name, short_names}
use Rattle.cmm_outside.specs.Reads.{AreReadInOrder, Made}
use Rattle.cmm_work.proofs.Shared.{read_none}
use Rattle.cmm_top.specs.Reads.{read_for, units_in}
use Rattle.cmm_work.specs.Reads.{script_in}
use Rattle.cmm_top.proofs.top.done.Goals as goal

pub exec-requires-clause-short : goal.exec-requires-clause-short
exec-requires-clause-short g c =
    let can = subst CanBeDone (ap plain_task c.in-Execute.is) c.requires in
    subst (λ (names : List (Bor (List ℕ))). All (λ name. length name.now ≤ NAME_LIMIT) names) (sym c.as_slice-names.ensures) (short_names c.in-Execute.units can.0)

pub build-ending-requires-clause-short : goal.build-ending-requires-clause-short
build-ending-requires-clause-short g c =
    let can = subst CanBeDone (ap plain_task c.in-Build.is) c.requires in
    subst (λ (names : List (Bor (List ℕ))). All (λ name. length name.now ≤ NAME_LIMIT) names) (sym c.as_slice.ensures) (short_names c.in-Build.units can.0)

pub exec-requires-clause-client : goal.exec-requires-clause-client
exec-requires-clause-client g c = let can = subst CanBeDone (ap plain_task c.in-Execute.is) c.requires in short_name c.in-Execute.client can.2

pub run-ending-requires-clause-client : goal.run-ending-requires-clause-client
run-ending-requires-clause-client g c = let can = subst CanBeDone (ap plain_task c.in-Run.is) c.requires in short_name c.in-Run.client can.1

pub returns-in-Generate-clause-does : goal.returns-in-Generate-clause-does
returns-in-Generate-clause-does g c =
    let streams = outside_of g.I.Source.left g.I.Source.faults g.O.Sink.taken g.O.Sink.faults g.E.Sink.taken g.E.Sink.faults in
    let stands = standing g.F.Files.contents g.F.Files.faults g.F.Files.last_failed c.args.files.now in
    subst (λ (t : Task). Does (plain_task t) (work_of c.generate.result.0 c.generate.result.1 (stands (streams c.args.input.now c.args.out.now c.args.log.now))
    (stands (streams c.generate.new.input c.generate.new.out c.generate.new.log)))) (sym c.in-Generate.is)
    (c.generate.ensures (g.F.Files.contents c.args.files.now) (g.F.Files.faults c.args.files.now) (g.F.Files.last_failed c.args.files.now))

pub run-ending-requires-clause-save : goal.run-ending-requires-clause-save
run-ending-requires-clause-save g c = let can = subst CanBeDone (ap plain_task c.in-Run.is) c.requires in short_name c.in-Run.save can.3

pub returns-in-Walk-clause-does : goal.returns-in-Walk-clause-does
returns-in-Walk-clause-does g c =
    let streams = outside_of g.I.Source.left g.I.Source.faults g.O.Sink.taken g.O.Sink.faults g.E.Sink.taken g.E.Sink.faults in
    let first = streams c.args.input.now c.args.out.now c.args.log.now in
    let last = streams c.args.input.now c.walk-ending.new.out c.args.log.now in
    let stands = standing g.F.Files.contents g.F.Files.faults g.F.Files.last_failed in
    subst (λ (t : Task). Does (plain_task t) (work_of c.walk-ending.result None (stands c.args.files.now first) (stands c.walk-ending.new.files last))) (sym c.in-Walk.is)
    (c.walk-ending.ensures.walks first)

pub returns-in-Generate-clause-reads : goal.returns-in-Generate-clause-reads
returns-in-Generate-clause-reads g c = read_none (read_for (plain_task c.args.task.now)) _ _ refl

pub returns-in-Execute-clause-reads : goal.returns-in-Execute-clause-reads
returns-in-Execute-clause-reads g c =
    subst (λ (t : Task). Made (g.F.Files.reads c.args.files.now) (g.F.Files.reads c.exec.new.files) (AreReadInOrder (read_for (plain_task t)))) (sym c.in-Execute.is)
    (subst (λ (names : List (Bor (List ℕ))). Made (g.F.Files.reads c.args.files.now) (g.F.Files.reads c.exec.new.files)
    (AreReadInOrder (units_in (map (λ (name : Bor (List ℕ)). name.now) names) ++ script_in (option_map (λ (name : Bor (List ℕ)). name.now) c.in-Execute.client))))
    c.as_slice-names.ensures c.exec.ensures.reads)
