-- What the sources and sinks over readers and writers keep (this project's own).
use Rattle.std.specs.Prelude.{ℕ, List, Option}
use Rattle.std.specs.Io.Buffered.{writer_buffer, writer_contents, writer_inner}
use Rattle.sd_text.specs.declared.adapters.StdSource.{StdSource}
use Rattle.sd_text.specs.declared.adapters.StdSink.{StdSink}

-- the reader that a source reads from, and how many of its reads failed
abbrev pub source_reader : {R : Type 0} → StdSource R → R
source_reader s = s.inner

abbrev pub source_faults : {R : Type 0} → StdSource R → ℕ
source_faults s = s.faults

-- the writer that a sink writes to, what it has collected and not yet handed on, and how many of its writes and flushes failed
abbrev pub sink_writer : {W : Type 0} → StdSink W → W
sink_writer s = writer_inner s.inner

abbrev pub sink_buffer : {W : Type 0} → StdSink W → List ℕ
sink_buffer s = writer_buffer s.inner

abbrev pub sink_faults : {W : Type 0} → StdSink W → ℕ
sink_faults s = s.faults

-- what the writer holds, where it tells that, and then what was collected
abbrev pub sink_bytes : {W : Type 0} → (W → Option (List ℕ)) → StdSink W → Option (List ℕ)
sink_bytes contents s = writer_contents contents s.inner
