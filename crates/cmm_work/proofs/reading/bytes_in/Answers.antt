use Rattle.std.proofs.Common.{Err, ap}
use Rattle.cmm_work.proofs.FilesRead.{has_more, has_whole}
use Rattle.cmm_work.proofs.ReadsMade.{file_in_order, file_too_long, file_whole}
use Rattle.cmm_work.proofs.reading.bytes_in.Goals as goal

pub returns-in-Err-TooLong-clause-ok : goal.returns-in-Err-TooLong-clause-ok
returns-in-Err-TooLong-clause-ok g c =
    has_more (g.F.Files.contents c.args.files.now) c.args.name.now c.args.limit (c.in-Err-TooLong.ensures.too_long (ap Err c.in-Err-TooLong.field-0-is))

pub returns-in-Ok-clause-ok : goal.returns-in-Ok-clause-ok
returns-in-Ok-clause-ok g c = has_whole (g.F.Files.contents c.args.files.now) c.args.name.now c.in-Ok.bytes.items c.in-Ok.ensures.ok

pub returns-in-Ok-clause-reads : goal.returns-in-Ok-clause-reads
returns-in-Ok-clause-reads g c = file_whole c.args.name.now c.args.limit c.in-Ok.bytes _ _ c.in-Ok.ensures.reads

pub returns-in-Err-TooLong-clause-reads : goal.returns-in-Err-TooLong-clause-reads
returns-in-Err-TooLong-clause-reads g c = file_too_long c.args.name.now c.args.limit c.in-Err-TooLong.field-0 _ _ c.in-Err-TooLong.field-0-is c.in-Err-TooLong.ensures.reads

pub returns-in-Err-Failed-clause-reads : goal.returns-in-Err-Failed-clause-reads
returns-in-Err-Failed-clause-reads g c = file_in_order c.args.name.now c.args.limit (Err c.in-Err-Failed.field-0) _ _ c.in-Err-Failed.ensures.reads

pub returns-in-Err-Memory-clause-reads : goal.returns-in-Err-Memory-clause-reads
returns-in-Err-Memory-clause-reads g c = file_in_order c.args.name.now c.args.limit (Err c.in-Err-Memory.field-0) _ _ c.in-Err-Memory.ensures.reads
