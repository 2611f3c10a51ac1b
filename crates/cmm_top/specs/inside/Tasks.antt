-- Tasks as the code has them.
use Rattle.std.specs.Prelude.{◌≡◌, ◌<◌, length, map, IfSome, Option, Some, None}
use Rattle.std.specs.List.{All}
use Rattle.std.specs.Option.{option_map}
use Rattle.cmm_command.specs.Laws.{IsName}
use Rattle.cmm_image_machine.specs.Machine.{IsStackSize}
use Rattle.cmm_top.specs.declared.task.Task.{Task as TaskAsked}
use Rattle.cmm_top.specs.declared.task.Task.TheVariants as asked
use Rattle.cmm_top.specs.Words.{Task, execute, run, build, walk, generate, convert, migrate, inspect}

abbrev pub plain_task : TaskAsked → Task
plain_task (asked.Execute units client limits) = execute (map (λ name. name.now) units) (option_map (λ name. name.now) client) limits
plain_task (asked.Run image client limits save) = run image.now (option_map (λ name. name.now) client) limits (option_map (λ name. name.now) save)
plain_task (asked.Walk image snapshot) = walk image.now snapshot.now
plain_task (asked.Build units image) = build (map (λ name. name.now) units) image.now
plain_task (asked.Generate number) = generate number
plain_task (asked.Convert image file) = convert image.now file.now
plain_task (asked.Migrate image file) = migrate image.now file.now
plain_task (asked.Inspect file) = inspect file.now

-- what is asked for is so
abbrev pub IsAsked : Option Task → Option TaskAsked → Type 0
IsAsked None None = Unit {0}
IsAsked (Some task) (Some is) = task ≡ plain_task is
IsAsked _ _ = ⊥

-- names are short enough, and the stack has a size that one may have
abbrev pub CanBeDone : Task → Type 0
CanBeDone (execute names client limits) = All IsName names × (0 < length names) × IfSome client IsName × IsStackSize limits.stack
CanBeDone (run name client limits save) = IsName name × IfSome client IsName × IsStackSize limits.stack × IfSome save IsName
CanBeDone (walk name snapshot) = IsName name × IsName snapshot
CanBeDone (build names name) = All IsName names × (0 < length names) × IsName name
CanBeDone (generate number) = Unit {0}
CanBeDone (convert name file) = IsName name × IsName file
CanBeDone (migrate name file) = IsName name × IsName file
CanBeDone (inspect name) = IsName name
