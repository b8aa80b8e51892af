use Rattle.std.proofs.Common.{◌≡◌, ℕ, ◌+◌, ◌-◌, ◌<◌, List, ◌++◌, length, get_or, drop, reverse, refl, subst, arith}
use Rattle.std.specs.Prelude.{filter}
use Rattle.std.proofs.lemmas.List.{take_rest}
use Rattle.sd_stretches.specs.declared.changes.Happening.{Happening}
use Rattle.sd_stretches.specs.Rows.{next_of}
use Rattle.sd_statistics.specs.Locks.{gives, hold_by, holds_of, taking}
use Rattle.sd_statistics.specs.Nexts.{AreNexts}
use Rattle.sd_statistics.proofs.NextLemmas.{found_before, gives_at, no_happening, one_hold}
use Rattle.sd_statistics.proofs.locks.holds_of.Goals as goal

pub loop-i-preserved : goal.loop-i-preserved
unfolding holds_of
loop-i-preserved c =
    let own = c.args.own.now in
    let i = c.loop-i.i - 1 in
    let x = get_or own i no_happening in
    let found = holds_of c.args.entries c.args.end in
    let inside : i < length own = omega (arith, c.loop-i.invariant.0, c.loop-i-test.true) in
    let next : c.loop-i.i ≡ i + 1 = omega (arith, c.loop-i-test.true) in (
      omega (arith, c.loop-i.invariant.0),
      found_before found own i no_happening (hold_by c.args.entries c.args.end x (drop (i + 1) own) (taking x.event)) c.loop-i.found.items c.push_hold.new.out.items inside refl
          (one_hold c.args.entries c.args.end x (drop (i + 1) own) (taking x.event))
          (subst (λ (k : ℕ). reverse c.loop-i.found.items ≡ found (drop k own)) next c.loop-i.invariant.1)
          (subst (λ (rest : List Happening). c.push_hold.new.out.items ≡ c.loop-i.found.items ++ hold_by c.args.entries c.args.end x rest (taking x.event)) (take_rest own (i + 1)) c.in_ok-push_hold.ensures),
      gives_at own i no_happening c.giving.result c.note.new.nexts.items inside c.giving.ensures
          (c.note.ensures (λ t. next_of (filter (gives t) (drop (i + 1) own)))
          (subst (λ (k : ℕ). AreNexts (λ t. next_of (filter (gives t) (drop k own))) c.loop-i.nexts.items) next c.loop-i.invariant.2)),
    )
