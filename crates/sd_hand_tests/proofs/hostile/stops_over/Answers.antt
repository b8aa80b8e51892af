use Rattle.std.proofs.Common.{sym, ap, ◌∙◌}
use Rattle.sd_world.specs.declared.plain.PlainWorld.{PlainWorld}
use Rattle.sd_hand_tests.proofs.ReadyLemmas.{stands_own}
use Rattle.sd_hand_tests.proofs.hostile.stops_over.Goals as goal

pub new-requires-2-clause-stands : goal.new-requires-2-clause-stands
new-requires-2-clause-stands g c = stands_own _ c.in_ok-inner.inner c.in_ok-inner.ensures.work c.in_ok-inner.ensures.stands

pub new-requires-2-clause-possible : goal.new-requires-2-clause-possible
new-requires-2-clause-possible g c = c.requires.possible

pub run-requires : goal.run-requires
run-requires g c = record {
  ready = record {
    hostile = c.in_ok-world.ensures.good;
    empty = c.in_ok-world.ensures.empty;
    work = sym c.in_ok-inner.ensures.work ∙ sym (ap (λ (p : PlainWorld). p.work.now) c.in_ok-world.ensures.same.0);
  };
}

pub is_told-requires-clause-good : goal.is_told-requires-clause-good
is_told-requires-clause-good g c = c.run.ensures.ready.hostile

pub is_told-requires-clause-empty : goal.is_told-requires-clause-empty
is_told-requires-clause-empty g c = c.run.ensures.ready.empty
