use Rattle.std.proofs.Common.{◌≡◌, ◌<◌, ◌≤◌, Option, None, arith, inl, inr, ◌⊎◌}
use Rattle.std.proofs.lemmas.Bool.{cases_lt}
use Rattle.sd_types.specs.declared.numbers.CpuId.{CpuId}
use Rattle.sd_types.specs.declared.events.Hints.{Hints}
use Rattle.sd_machine.specs.Events.{next}
use Rattle.sd_replay.proofs.Needed.{no_maker}
use Rattle.sd_extremes.proofs.whole.first_able.Goals as goal

pub returns : goal.returns
returns c = λ _. λ d hints. by d hints (cases_lt d.0 c.args.work.now.cpus)
  where
    by : (d : CpuId) (hints : Option Hints) → (d.0 < c.args.work.now.cpus) ⊎ (c.args.work.now.cpus ≤ d.0) → next c.args.work.now c.args.state.now d hints ≡ None
    by d hints (inl less) = c.loop-c.invariant d (let past = c.loop-c-test.false in omega (arith, past, less)) hints
    by d hints (inr more) = no_maker c.args.work.now c.args.state.now d hints more
