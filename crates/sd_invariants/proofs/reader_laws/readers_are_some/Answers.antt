use Rattle.sd_invariants.proofs.ReaderLemmas.{readers_law}
use Rattle.sd_invariants.proofs.reader_laws.readers_are_some.Goals as goal

pub returns : goal.returns
returns c = readers_law
