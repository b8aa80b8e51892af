use Rattle.sd_state.specs.States.{thread_of}
use Rattle.sd_store.specs.Keyless.{spot_of}
use Rattle.sd_encoding.proofs.TellLemmas.{spot_same}
use Rattle.sd_encoding.proofs.ToldLemmas.{tells}
use Rattle.sd_encoding.proofs.look.OrderedLook.spot.Goals as goal

pub returns-clause-value : goal.returns-clause-value
returns-clause-value c = let x = c.args.self.now.state in tells c.args.self.now c.spot.result (λ s. spot_of (thread_of s c.args.t.0).place) c.spot.ensures.value (λ n s h. spot_same x s h.same c.args.t.0)
