-- What the adapters over std's streams hold.
-- A definition without a citation is this project's profile.
use Rattle.fax_tool.specs.declared.streams.FaultCounts.{FaultCounts}
use Rattle.fax_tool.specs.declared.streams.FromRead.{FromRead}
use Rattle.fax_tool.specs.declared.streams.ToWrite.{ToWrite}
use Rattle.std.specs.Prelude.{◌≡◌, ◌≢◌}
use Rattle.fax_tool.specs.Run.{Counts}
use Rattle.std.specs.declared.io.ErrorKind.{ErrorKind}
use Rattle.std.specs.declared.io.ErrorKind.TheVariants.{Interrupted as WasInterrupted}
use Rattle.fax_tool.specs.declared.streams.StreamFault.{StreamFault}
use Rattle.fax_tool.specs.declared.streams.StreamFault.TheVariants.{Interrupted, Failed}

-- the reader after a source
abbrev pub reader_of : {R : Type 0} → FromRead R → R
reader_of source = source.reader

-- the writer after a sink
abbrev pub writer_of : {W : Type 0} → ToWrite W → W
writer_of sink = sink.writer

-- the counts that an adapter keeps
abbrev pub counts_of : FaultCounts → Counts
counts_of faults =
    record { interrupted = faults.interrupted; failed = faults.failed; unopened = faults.unopened }

-- the fault of a call that std answers with an error of this kind: interrupted calls alone may be
-- made again
abbrev pub IsFaultOf : ErrorKind → StreamFault → Type 0
IsFaultOf kind Interrupted = kind ≡ WasInterrupted
IsFaultOf kind Failed = kind ≢ WasInterrupted
