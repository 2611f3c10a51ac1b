use Rattle.std.proofs.Common.{◌≡◌, [], List, Option, Some, None, inl, inr, refl, subst, sym}
use Rattle.cmm_command.specs.Meaning.{plain}
use Rattle.cmm_top.specs.Words.{Task, task_in, task_of, texts}
use Rattle.cmm_top.specs.inside.Tasks.{plain_task}
use Rattle.cmm_top.proofs.Asked.{asked_is, can_be_done, task_is}
use Rattle.cmm_outside.specs.Reads.{AreReadInOrder, Made, WantedFile}
use Rattle.cmm_work.proofs.Shared.{read_none}
use Rattle.cmm_top.specs.Reads.{read_by, read_for}
use Rattle.cmm_top.proofs.top.ended.Goals as goal

pub done-requires : goal.done-requires
done-requires g c =
    let meant = plain c.in-Ok.command in
    let task = c.in-Some.task in
    can_be_done c.commands_are_in_range.ensures (texts c.args.words.now) meant (plain_task task) c.in-Ok.ensures (asked_is (task_in meant) task c.in-Some.ensures)

pub returns-in-Some-clause-comes : goal.returns-in-Some-clause-comes
returns-in-Some-clause-comes g c =
    let meant = plain c.in-Ok.command in
    let task = plain_task c.in-Some.task in record {
      is = inr (inl record {
        task = task;
        asked = task_is (texts c.args.words.now) meant (Some task) c.in-Ok.ensures (asked_is (task_in meant) c.in-Some.task c.in-Some.ensures);
        done = c.done.ensures.does;
      });
    }

pub returns-in-Memory-clause-reads : goal.returns-in-Memory-clause-reads
returns-in-Memory-clause-reads g c = read_none (read_by (texts c.args.words.now)) _ _ refl

pub returns-in-Some-clause-reads : goal.returns-in-Some-clause-reads
returns-in-Some-clause-reads g c =
    let meant = plain c.in-Ok.command in
    let task = plain_task c.in-Some.task in
    let is : task_of (texts c.args.words.now) ≡ Some task = task_is (texts c.args.words.now) meant (Some task) c.in-Ok.ensures (asked_is (task_in meant) c.in-Some.task c.in-Some.ensures) in
    subst (λ (asked : Option Task). Made (g.F.Files.reads c.args.files.now) (g.F.Files.reads c.done.new.files) (AreReadInOrder (files_of asked))) (sym is) c.done.ensures.reads
  where
    files_of : Option Task → List WantedFile
    files_of asked = elim asked [ Some t ↦ read_for t | None ↦ [] ]
