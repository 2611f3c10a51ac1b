-- What the adapters over the system's streams stand on.
use Rattle.cmm_outside.specs.declared.standard.StdSource.{StdSource}
use Rattle.cmm_outside.specs.declared.standard.StdSink.{StdSink}

-- the reader that a source reads from
abbrev pub reader_of : {R : Type 0} → StdSource R → R
reader_of source = source.reader

-- the writer that a sink writes to
abbrev pub writer_of : {W : Type 0} → StdSink W → W
writer_of sink = sink.writer
