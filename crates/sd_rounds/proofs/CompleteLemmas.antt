-- The run that goes in rounds is complete: where a round makes no entry, no processor has one, whatever it reads.
use Rattle.std.proofs.Common.{◌≡◌, ◌<◌, ℕ, Bool, true, false, List, [], length, Option, None, refl, subst, arith}
use Rattle.std.specs.Prelude.{IsSome, nat_lt}
use Rattle.std.proofs.lemmas.Bool.Decides.{nat_tests}
use Rattle.sd_basics.proofs.Truths.{and_left}
use Rattle.sd_types.specs.declared.numbers.CpuId.{CpuId}
use Rattle.sd_types.specs.declared.events.Entry.{Entry}
use Rattle.sd_types.specs.declared.events.Event.{Event}
use Rattle.sd_types.specs.declared.works.Work.{Work}
use Rattle.sd_state.specs.declared.states.State.{State}
use Rattle.sd_state.specs.Opening.{opening}
use Rattle.sd_machine.specs.Events.{next}
use Rattle.sd_machine.specs.Plans.{plan}
use Rattle.sd_machine.specs.Runs.{final, round_after, serial_hints, IsComplete, IsSerial}
use Rattle.sd_machine.proofs.RoundLemmas.{empty_round}
use Rattle.sd_replay.specs.Entering.{can_enter, plan_enters}
use Rattle.sd_replay.proofs.EnteringLemmas.{enters_some, enters_none}
use Rattle.sd_rounds.specs.declared.orders.RoundOrder.{RoundOrder}
use Rattle.sd_rounds.specs.Orders.{orders_of}
use Rattle.sd_rounds.proofs.OrderLemmas.{first, order_in}

enters_inside : (w : Work) (s : State) (c : CpuId) → can_enter w s c ≡ true → c.0 < w.cpus
unfolding can_enter
enters_inside w s c e =
    let inside : nat_lt c.0 w.cpus ≡ true = and_left (nat_lt c.0 w.cpus) (plan_enters w s c.0 (plan w s c.0)) e in
    grind (arith, nat_tests)

some_none : (o : Option Event) → IsSome o → o ≡ None → ⊥
some_none o some none = cc

module _ (w : Work) (orders : RoundOrder) (k : ℕ) (es : List Entry) (none : round_after w (orders_of w orders k) es ≡ []) where
  none_here : (c : CpuId) → c.0 < w.cpus → next w (final w (opening w) es) c (serial_hints w (final w (opening w) es) c) ≡ None
  none_here c here =
      let at = order_in w orders k c here in
      subst (λ d. next w (final w (opening w) es) d (serial_hints w (final w (opening w) es) d) ≡ None) at.is
      (empty_round w first (final w (opening w) es) (length es) (orders_of w orders k) none at.place at.inside)

  pub complete_after : IsComplete w (final w (opening w) es)
  complete_after c hints = by (can_enter w (final w (opening w) es) c) refl
    where
      by : (b : Bool) → can_enter w (final w (opening w) es) c ≡ b → next w (final w (opening w) es) c hints ≡ None
      by true e = absurd (some_none _ (enters_some w (final w (opening w) es) c e) (none_here c (enters_inside w (final w (opening w) es) c e)))
      by false e = enters_none w (final w (opening w) es) c hints e

pub complete_of : (w : Work) (orders : RoundOrder) (es : List Entry) → IsSerial w (orders_of w orders) es → IsComplete w (final w (opening w) es)
complete_of w orders es r = complete_after w orders r.count es r.ends
