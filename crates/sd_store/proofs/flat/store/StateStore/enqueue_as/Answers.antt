use Rattle.std.proofs.Common.{ℕ}
use Rattle.sd_state.specs.declared.states.State.{State}
use Rattle.sd_machine.specs.Changes.{place_put, set_class, with_place}
use Rattle.sd_store.specs.Flat.{IsState}
use Rattle.sd_store.proofs.DoesLemmas.{does_after}
use Rattle.sd_store.proofs.flat.store.StateStore.enqueue_as.Goals as goal

pub returns-clause-value : goal.returns-clause-value
unfolding set_class
returns-clause-value c =
    let n = c.args.number in
    let t = c.args.t.0 in
    let place = place_put c.args.work.now n t c.args.at in
    does_after n (λ (m : ℕ) (s : State). IsState c.args.self.now s) (λ (m : ℕ) (s : State). IsState c.change_body.new.self s) (λ (m : ℕ) (s : State). IsState c.enqueue.new.self s)
    c.enqueue.result (λ s. set_class s t c.args.class) (λ s. with_place s t place) (λ s h. c.in_ok-change_body.ensures.value n s h tt) c.enqueue.ensures.value
