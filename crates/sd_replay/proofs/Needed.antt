-- What a state of a run gives to a step.
use Rattle.std.proofs.Common.{◌≡◌, ◌<◌, ◌≤◌, false, Option, None, refl, arith}
use Rattle.std.specs.Prelude.{nat_lt}
use Rattle.std.proofs.lemmas.Bool.Decides.{nat_tests}
use Rattle.sd_types.specs.declared.numbers.CpuId.{CpuId}
use Rattle.sd_types.specs.declared.events.Hints.{Hints}
use Rattle.sd_types.specs.declared.works.Work.{Work}
use Rattle.sd_state.specs.declared.states.State.{State}
use Rattle.sd_machine.specs.Events.{next}
use Rattle.sd_invariants.specs.Laws.{IsFit}
use Rattle.sd_store.specs.Flat.{IsState}

-- there is no event of a processor that is not there
pub no_maker : (w : Work) (s : State) (c : CpuId) (h : Option Hints) → w.cpus ≤ c.0 → next w s c h ≡ None
unfolding next
no_maker w s c h past =
    let over : nat_lt c.0 w.cpus ≡ false = grind (arith, nat_tests) in
    rw over refl

-- the state is a store of itself
pub is_state : (w : Work) (s : State) → IsFit w s → IsState s s
is_state w s fit =
    let many = fit.fits.threads in
    let most = w.most_threads in
    record { same = refl; small = omega (arith, many, most) }
