use Rattle.sd_machine.specs.Threads.{with_count}
use Rattle.sd_machine.specs.Needs.{IsChan}
use Rattle.sd_encoding.proofs.CanLemmas.{chan_back}
use Rattle.sd_encoding.proofs.ChangeLemmas.{tokens_alike}
use Rattle.sd_encoding.specs.declared.ordered.Ordered.{Ordered}
use Rattle.sd_encoding.proofs.ToldLemmas.{does}
use Rattle.sd_encoding.proofs.sets.OrderedSets.set_tokens.Goals as goal

pub returns-clause-value : goal.returns-clause-value
returns-clause-value c =
    let x = c.args.self.now.state in
    let y : Ordered = record { state = c.set_tokens.new.self } in
    does c.args.self.now y c.set_tokens.result (λ s. IsChan s c.args.k) (λ s. with_count s c.args.k.0 c.args.n) c.set_tokens.ensures.value
    (λ n s h k. chan_back x s h.same c.args.k k) (λ n s h k. tokens_alike n n x s h c.args.k.0 c.args.n)
