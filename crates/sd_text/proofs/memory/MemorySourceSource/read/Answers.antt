use Rattle.std.proofs.Common.{ap}
use Rattle.sd_text.proofs.MemoryLemmas.{chunk-read}
use Rattle.sd_text.specs.Memory.{SourceState}
use Rattle.sd_text.proofs.memory.MemorySourceSource.read.Goals as goal

pub returns-clause-bytes : goal.returns-clause-bytes
returns-clause-bytes c =
    chunk-read _ _ _ _ _ _ _ _ c.deref-2.ensures.value (ap (λ (s : SourceState). s.left) c.self.view_is) c.self.invariant.1
    c.copy_front-count.ensures.count c.copy_front-count.ensures.copied
