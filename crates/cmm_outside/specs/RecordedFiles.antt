-- Files that tell the reads that are made of them.
use Rattle.std.specs.Prelude.{Some}
use Rattle.cmm_outside.specs.declared.recorded_files.RecordedRead.{RecordedRead}
use Rattle.cmm_outside.specs.Reads.{ReadCall}

-- a read as files tell it
abbrev pub call_of : RecordedRead → ReadCall
call_of read = record { name = read.name.items; from = read.from; room = read.room; came = Some read.came }
