use Rattle.sd_store.specs.Walks.{next_to_rouse}
use Rattle.sd_encoding.proofs.SeekLemmas.{rouse_same}
use Rattle.sd_encoding.proofs.ToldLemmas.{names}
use Rattle.sd_encoding.proofs.look.OrderedLook.next_to_rouse.Goals as goal

pub returns-clause-value : goal.returns-clause-value
returns-clause-value c = let x = c.args.self.now.state in names c.args.self.now c.next_to_rouse.result (λ s. next_to_rouse s c.args.c c.args.k) c.next_to_rouse.ensures.value (λ n s h. rouse_same n n x s h c.args.c c.args.k)
