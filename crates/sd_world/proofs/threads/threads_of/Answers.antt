use Rattle.std.proofs.Common.{◌<◌, length, map, option_copied, sym, subst}
use Rattle.sd_state.specs.States.{no_thread}
use Rattle.sd_world.specs.Told.{AreTold}
use Rattle.sd_world.proofs.EndedLemmas.{told_then}
use Rattle.sd_world.proofs.ListLemmas.{one_more}
use Rattle.sd_world.proofs.threads.threads_of.Goals as goal

pub loop-t-preserved : goal.loop-t-preserved
loop-t-preserved c s told many =
    let inside : c.loop-t.t < length s.threads = subst (λ n. c.loop-t.t < n) (sym many) c.loop-t-test.true in
    let so_far = c.loop-t.invariant s told many in
    let same = subst (λ xs. AreTold s (map option_copied xs)) (sym c.as_slice.ensures.value) so_far.1 in
    let known = told_then (option_copied c.told_of-told.result) s (map option_copied c.as_slice.result.now) c.loop-t.t c.told_of-told.ensures same in (
      one_more s.threads c.loop-t.threads.items c.push.new.self.items c.loop-t.t c.thread_told.result no_thread inside so_far.0
          (c.thread_told.ensures s told inside known) c.in_ok-push.ensures.items,
      so_far.1,
    )
