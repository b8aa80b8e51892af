use Rattle.std.proofs.Common.{◌<◌, refl, sym, subst}
use Rattle.sd_types.specs.declared.events.Duty.TheVariants.{Walk}
use Rattle.sd_state.specs.declared.states.Place.TheVariants.{Waiting}
use Rattle.sd_machine.specs.Changes.{back_key, leave, set_duty}
use Rattle.sd_machine.specs.Needs.{IsLock, IsThread, RunsOn}
use Rattle.sd_encoding.proofs.AlikeLemmas.{threads_many}
use Rattle.sd_encoding.proofs.CanLemmas.{lock_back, runs_back}
use Rattle.sd_encoding.proofs.RunLemmas.{block_alike}
use Rattle.sd_encoding.specs.declared.ordered.Ordered.{Ordered}
use Rattle.sd_encoding.proofs.ToldLemmas.{does_by}
use Rattle.sd_encoding.proofs.store.OrderedStore.block.Goals as goal

pub returns-clause-value : goal.returns-clause-value
returns-clause-value c =
    let x = c.args.self.now.state in
    let y : Ordered = record { state = c.block.new.self } in
    let n = c.args.number in
    let t = c.args.t in
    does_by n c.args.self.now y c.block.result (λ s. IsThread s t × RunsOn s t c.args.c × IsLock s c.args.l)
    (λ s. set_duty (leave s c.args.c.0 t.0 (Waiting c.args.l c.args.side (back_key n))) c.args.c.0 (Walk c.args.l t (back_key n))) c.block.ensures.value
    (λ s h k. (subst (λ m. t.0 < m) (sym (threads_many x s h.same.bare)) k.0, runs_back x s h.same t c.args.c k.1, lock_back x s h.same c.args.l k.2))
    (λ s h k. block_alike n n x s h c.args.c t c.args.l c.args.side c.args.side refl k.0)
