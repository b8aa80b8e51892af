use Rattle.std.proofs.Common.{◌≡◌, ℕ, ◌<◌, ◌≤◌, ◌^◌, length, Ok, Err, Result, sym, subst}
use Rattle.std.specs.Prelude.{IfOk}
use Rattle.sd_types.specs.declared.events.Stop.{Stop}
use Rattle.sd_types.specs.declared.works.Work.{Work}
use Rattle.sd_state.specs.Opening.{opening}
use Rattle.sd_machine.specs.Runs.{final, IsComplete, IsRun, IsSerial, state_at}
use Rattle.sd_hand.specs.OneHome.{StandsInHomes}
use Rattle.sd_rounds.specs.declared.orders.RoundOrder.{RoundOrder}
use Rattle.sd_rounds.specs.declared.rounds.Finished.{Finished}
use Rattle.sd_rounds.specs.Orders.{orders_of}
use Rattle.sd_program.proofs.HintLemmas.{serial_bytes}
use Rattle.sd_program.specs.declared.forms.Mode.{Mode}
use Rattle.sd_program.specs.declared.forms.Mode.TheVariants.{Rounds}
use Rattle.sd_program.specs.RunAnswers.{IsLong}
use Rattle.sd_program.specs.TheRun.{IsTheRun}
use Rattle.sd_program.proofs.TheRun.{is_the_run}
use Rattle.sd_program.proofs.running.run_in_rounds.Goals as goal

run_ok : (w : Work) (orders : RoundOrder) (r : Result Finished Stop) → IfOk r (λ x. length x.entries.items < 2 ^ 40)
    → IfOk r (λ x. IsSerial w (orders_of w orders) x.entries.items) → IfOk r (λ x. IsRun w x.entries.items) → IfOk r (λ x. IsComplete w x.state)
    → IfOk r (λ x. x.state ≡ final w (opening w) x.entries.items)
    → IfOk r (λ x. (k : ℕ) → k ≤ length x.entries.items → StandsInHomes k (state_at w x.entries.items k)) → IfOk r (λ x. IsTheRun w (Rounds orders) x.entries.items)
run_ok w orders (Ok x) short serial run complete state homes =
    let es = x.entries.items in
    is_the_run w (Rounds orders) es short serial run (subst (IsComplete w) state complete) (serial_bytes w (orders_of w orders) es serial run) homes
run_ok w orders (Err stop) short serial run complete state homes = tt

pub returns-clause-run : goal.returns-clause-run
returns-clause-run g c =
    let e = c.run_rounds.ensures in
    let w = c.args.work.now in
    let r = c.run_rounds.result in
    subst (λ (m : Mode). IfOk r (λ x. IsTheRun w m x.entries.items)) (sym c.in-Rounds.is)
    (run_ok w c.in-Rounds.orders r e.short e.serial e.run e.complete e.state e.homes)

pub returns-clause-full : goal.returns-clause-full
returns-clause-full g c full =
    subst (λ (m : Mode). IsLong c.args.work.now m) (sym c.in-Rounds.is) (c.run_rounds.ensures.full full)
