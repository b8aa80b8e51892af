use Rattle.std.proofs.Common.{◌≡◌, ℕ, ◌+◌, ◌-◌, ◌<◌, List, ◌++◌, length, get_or, drop, reverse, refl, subst, Some, arith}
use Rattle.std.specs.Prelude.{filter, if◌then◌else◌}
use Rattle.std.proofs.lemmas.List.{take_rest}
use Rattle.sd_stretches.specs.declared.changes.Happening.{Happening}
use Rattle.sd_stretches.specs.Changes.{is_that_thread}
use Rattle.sd_stretches.specs.Rows.{next_of}
use Rattle.sd_statistics.specs.Locks.{contended_of, trying, wait_by, wants}
use Rattle.sd_statistics.specs.Nexts.{AreNexts}
use Rattle.sd_statistics.proofs.NextLemmas.{found_before, no_happening, one_wait, wants_at}
use Rattle.sd_statistics.proofs.locks.contended_of.Goals as goal

pub loop-i-preserved : goal.loop-i-preserved
unfolding contended_of
loop-i-preserved c =
    let own = c.args.own.now in
    let i = c.loop-i.i - 1 in
    let x = get_or own i no_happening in
    let inside : i < length own = omega (arith, c.loop-i.invariant.0, c.loop-i-test.true) in
    let next : c.loop-i.i ≡ i + 1 = omega (arith, c.loop-i-test.true) in (
      omega (arith, c.loop-i.invariant.0),
      found_before contended_of own i no_happening (wait_by x (drop (i + 1) own) (trying x.event)) c.loop-i.found.items c.push_wait.new.out.items inside refl
          (one_wait x (drop (i + 1) own) (trying x.event))
          (subst (λ (k : ℕ). reverse c.loop-i.found.items ≡ contended_of (drop k own)) next c.loop-i.invariant.1)
          (subst (λ (rest : List Happening). c.push_wait.new.out.items ≡ c.loop-i.found.items ++ wait_by x rest (trying x.event)) (take_rest own (i + 1)) c.in_ok-push_wait.ensures),
      wants_at own i no_happening c.taking.result c.trying.result c.note-in-loop-i.new.nexts.items inside c.taking.ensures c.trying.ensures
          (c.note-in-loop-i.ensures (λ t. if is_that_thread t c.taking.result then Some x else next_of (filter (wants t) (drop (i + 1) own))) (c.note.ensures (λ t. next_of (filter (wants t) (drop (i + 1) own)))
          (subst (λ (k : ℕ). AreNexts (λ t. next_of (filter (wants t) (drop k own))) c.loop-i.nexts.items) next c.loop-i.invariant.2))),
    )
