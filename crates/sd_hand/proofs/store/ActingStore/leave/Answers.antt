use Rattle.std.proofs.Common.{◌+◌, sym, ap, ◌∙◌, subst}
use Rattle.std.proofs.Math.Nat.{le-add_right}
use Rattle.sd_state.specs.declared.states.ThreadState.{ThreadState}
use Rattle.sd_state.specs.States.{cpu_of, thread_of, with_thread}
use Rattle.sd_machine.specs.Bodies.{departed}
use Rattle.sd_machine.specs.Changes.{leave}
use Rattle.sd_store.specs.Keyless.{place_by}
use Rattle.sd_homes.specs.Standing.{look_of, record_of, without, MayCome}
use Rattle.sd_homes.specs.Families.{list_in}
use Rattle.sd_hand.specs.Hands.{IsHeld, IsRoom}
use Rattle.sd_hand.specs.Shown.{IsListThere}
use Rattle.sd_hand.specs.Steps.{stepped}
use Rattle.sd_hand.specs.declared.steps.Step.TheVariants.{Depart}
use Rattle.sd_hand.proofs.GoLemmas.{left_list, left_may, left_room, left_there, runs_at, runs_last}
use Rattle.sd_hand.proofs.TellLemmas.{view_is}
use Rattle.sd_hand.proofs.store.ActingStore.leave.Goals as goal

pub returns-then-is_there-clause-value : goal.returns-then-is_there-clause-value
unfolding leave
returns-then-is_there-clause-value c s sh can =
    let x = c.args.self.now in
    let n = c.args.number in
    let t = c.args.t.0 in
    let own = c.args.c in
    let d = c.args.to in
    let a = c.in-Ok.ensures in
    let old = thread_of s t in
    let at = runs_at s c.args.t own can.0 in
    let last = runs_last x n s t own a.0 sh at a.1 in
    let z : ThreadState = record { body = departed (cpu_of s own.0).count old.body; place = place_by n own d } in
    let count = ap (λ i. (cpu_of s i).count) c.if-c-self.false ∙ sym sh.count in
    let moved = c.relocate.ensures.value n (n + 1) s z sh (le-add_right n 1) at (a.0, a.1)
    (left_list n own d old.body.last last ∙ sym c.list_by-list.ensures)
    (λ i. stepped (Depart (count i) (sym c.place_by.ensures i)) (record_of t old))
    (subst (λ sp. MayCome n (n + 1) (without t (look_of s)) sp z) (sym c.list_by-list.ensures) (left_may n own d (without t (look_of s)) (departed (cpu_of s own.0).count old.body)))
    (c.is_there.ensures.yes c.if-is_there.true) in
    c.unmark.ensures.value (n + 1) (with_thread s t z) moved (view_is x n s own c.in-Ok.view a.0 sh a.1 a.2)

pub returns-then-is_there-clause-has : goal.returns-then-is_there-clause-has
returns-then-is_there-clause-has c =
    let a = c.in-Ok-home.ensures in
    c.unmark.ensures.has ∙ c.relocate.ensures.has (subst (λ k. IsHeld k c.args.self.now.hand.slots) c.home_at.ensures (a.0, a.1)) (c.is_there.ensures.yes c.if-is_there.true)
    (λ h e. subst (λ sp. IsRoom sp (list_in h c.list_by-list.result)) (sym c.list_by-list.ensures) (left_room c.args.c c.args.to (list_in h c.list_by-list.result)))

pub returns-else-is_there-clause-value : goal.returns-else-is_there-clause-value
returns-else-is_there-clause-value c s sh can =
    let there = subst IsListThere (sym c.list_by-list.ensures) (left_there s c.args.c c.args.to sh.locks sh.chans can.1) in
    let yes = c.is_there.ensures.no there in
    let no = c.if-is_there.false in
    absurd cc
