-- The event that comes next, by its plan and what is read for that.
use Rattle.std.proofs.Common.{◌≡◌, ◌<◌, ◌≤◌, length, Bool, true, false, ◌&&◌, [], ◌∷◌, ◌++◌, Option, None, Result, Ok, Err, refl, ap, ◌∙◌, sym, arith, if◌then◌else◌}
use Rattle.std.specs.Prelude.{IfOk, nat_lt}
use Rattle.std.specs.Bool.{OnTrue}
use Rattle.std.proofs.lemmas.Bool.{false≢true}
use Rattle.std.proofs.lemmas.Bool.Decides.{nat_tests}
use Rattle.sd_types.specs.declared.numbers.CpuId.{CpuId}
use Rattle.sd_types.specs.declared.events.Entry.{Entry}
use Rattle.sd_types.specs.declared.events.Hints.{Hints}
use Rattle.sd_types.specs.declared.works.Work.{Work}
use Rattle.sd_state.specs.declared.states.State.{State}
use Rattle.sd_state.specs.Opening.{opening}
use Rattle.sd_machine.specs.declared.plans.Plan.{Plan}
use Rattle.sd_machine.specs.Events.{after, allowed, next, plan_event, wish}
use Rattle.sd_machine.specs.Hints.{hints_fit, plan_reads, reads}
use Rattle.sd_machine.specs.Plans.{plan}
use Rattle.sd_machine.specs.Runs.{final}
use Rattle.sd_machine.proofs.RunLemmas.{final-push}
use Rattle.sd_world.specs.declared.plain.PlainWorld.{PlainWorld}
use Rattle.sd_step.specs.Needed.{needed}
use Rattle.sd_store.specs.declared.parts.Part.{Part}
use Rattle.sd_store.specs.Parts.{IsAmong}
use Rattle.sd_hand.specs.Acting.{has_part}
use Rattle.sd_footprint.specs.There.{PartsAreThere}
use Rattle.sd_footprint.proofs.TouchedThere.{parts_there}
use Rattle.sd_world.specs.Plain.{Stands, told}
use Rattle.sd_world.proofs.PlainLemmas as P

module _ (w : Work) (x : PlainWorld) (st : Stands w x) where
  -- what a turn of the processor that acts looks at
  pub turn_there : (hints : Option Hints) → PartsAreThere w (told w x) x.acting.actor.cpu hints
  turn_there hints = parts_there w (length x.entries.items) (told w x) x.acting.actor.cpu hints (P.reached w x st) (P.cpu_inside w x st)

  -- what the processor that acts needs to find its event it has
  pub turn_lacks_nothing : (hints : Option Hints) (q : Part) → IsAmong q (needed w (told w x) x.acting.actor.cpu hints) → has_part x.acting q ≡ false → ⊥
  turn_lacks_nothing hints q among lacks = false≢true (sym lacks ∙ P.has_there w x st q ((turn_there hints).wishing q among))

-- the numbers fit what the processor reads, or do not
pub next_is : (w : Work) (s : State) (c : CpuId) (hints : Option Hints) (p : Plan) → c.0 < w.cpus → p ≡ plan w s c.0 → hints_fit (plan_reads w s c.0 p) hints ≡ true
    → next w s c hints ≡ allowed w s c.0 (plan_event w s c.0 hints p)
unfolding next reads wish
next_is w s c hints p inside is fits =
    let there : nat_lt c.0 w.cpus ≡ true = grind (arith, nat_tests) in
    ap (λ b. if b && hints_fit (plan_reads w s c.0 (plan w s c.0)) hints then allowed w s c.0 (plan_event w s c.0 hints (plan w s c.0)) else None) there
    ∙ ap (λ q. if hints_fit (plan_reads w s c.0 q) hints then allowed w s c.0 (plan_event w s c.0 hints q) else None) (sym is)
    ∙ ap (λ b. if b then allowed w s c.0 (plan_event w s c.0 hints p) else None) fits

pub next_not : (w : Work) (s : State) (c : CpuId) (hints : Option Hints) (p : Plan) → p ≡ plan w s c.0 → hints_fit (plan_reads w s c.0 p) hints ≡ false → next w s c hints ≡ None
unfolding next reads wish
next_not w s c hints p is fits =
    ap (λ q. if nat_lt c.0 w.cpus && hints_fit (plan_reads w s c.0 q) hints then allowed w s c.0 (plan_event w s c.0 hints (plan w s c.0)) else None) (sym is)
    ∙ ap (λ b. if nat_lt c.0 w.cpus && b then allowed w s c.0 (plan_event w s c.0 hints (plan w s c.0)) else None) fits ∙ by (nat_lt c.0 w.cpus)
  where
    by : (b : Bool) → (if b && false then allowed w s c.0 (plan_event w s c.0 hints (plan w s c.0)) else None) ≡ None
    by true = refl
    by false = refl

-- a processor that is not there makes nothing
pub none_outside : (w : Work) (s : State) (c : CpuId) (hints : Option Hints) → w.cpus ≤ c.0 → next w s c hints ≡ None
unfolding next
none_outside w s c hints past =
    let outside : nat_lt c.0 w.cpus ≡ false = grind (arith, nat_tests) in
    ap (λ b. if b && hints_fit (reads w s c.0) hints then allowed w s c.0 (wish w s c.0 hints) else None) outside

-- the state behind one entry more
pub told_after : (w : Work) (x y : PlainWorld) (e : Entry) → y.entries.items ≡ x.entries.items ++ e ∷ [] → told w y ≡ after w (told w x) e.number e.cpu e.event
told_after w x y e is = ap (final w (opening w)) is ∙ final-push w (opening w) x.entries.items e

-- what follows where the entry was made
pub on_step : {E : Type 0} (r : Result Bool E) (P Q : Type 0) → (P → Q) → IfOk r (λ b. OnTrue b P) → IfOk r (λ b. OnTrue b Q)
on_step (Ok true) P Q f p = f p
on_step (Ok false) P Q f p = tt
on_step (Err e) P Q f p = tt
