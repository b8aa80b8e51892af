use Rattle.std.proofs.Common.{◌≡◌, [], Some, None, option_map, refl, sym, ap, ◌∙◌, subst, le_refl}
use Rattle.sd_state.specs.declared.states.Place.TheVariants.{Running}
use Rattle.sd_state.specs.declared.states.ThreadState.{ThreadState}
use Rattle.sd_state.specs.States.{thread_of}
use Rattle.sd_machine.specs.Bodies.{arrived}
use Rattle.sd_machine.specs.Changes.{run_on}
use Rattle.sd_machine.specs.Threads.{runner}
use Rattle.sd_store.specs.Parts.{number}
use Rattle.sd_homes.specs.declared.list_id.ListId.TheVariants.{Runs}
use Rattle.sd_homes.specs.Families.{list_in}
use Rattle.sd_hand.specs.declared.acting.Acting.{Acting}
use Rattle.sd_hand.specs.Acting.{IsShown}
use Rattle.sd_hand.proofs.GoLemmas.{no_head}
use Rattle.sd_hand.proofs.HasLemmas.{room_free}
use Rattle.sd_hand.proofs.MoveLemmas.{unseen}
use Rattle.sd_hand.proofs.TellLemmas.{runner_told}
use Rattle.sd_hand.proofs.store.ActingStore.run_on.Goals as goal

pub returns-in-Ok-Some-clause-value : goal.returns-in-Ok-Some-clause-value
returns-in-Ok-Some-clause-value c n s sh free =
    let a = c.in-Ok-Some.ensures in
    let told = runner_told c.args.self.now n s a.0 sh c.args.c a.1 in
    let some : option_map number (Some c.in-Ok-Some._other) ≡ runner s c.args.c.0 = ap (option_map number) (sym c.in-Ok-Some.field-0-is) ∙ a.2 ∙ sym told in
    let none : Some c.in-Ok-Some._other.0 ≡ None = some ∙ free in
    absurd cc

pub returns-in-Ok-clause-value : goal.returns-in-Ok-clause-value
unfolding run_on
returns-in-Ok-clause-value c n s sh free =
    let t = c.args.t.0 in
    let z : ThreadState = record { body = arrived c.args.c (thread_of s t).body; place = Running c.args.c } in
    c.in-Ok.ensures.value.shown n n s z sh (le_refl n) refl refl (refl, unseen s c.args.c t free) tt

pub returns-in-Ok-clause-has : goal.returns-in-Ok-clause-has
returns-in-Ok-clause-has c =
    let a = c.in-Ok-None.ensures in
    let slots = c.args.self.now.hand.slots in
    let none : list_in a.0 (Runs c.args.c) ≡ [] = no_head (list_in a.0 (Runs c.args.c)) (ap (option_map number) (sym c.in-Ok-None.field-0-is) ∙ a.2) in
    c.in-Ok.ensures.has (a.0, a.1) tt
    (λ from. room_free c.args.t.0 from (Runs c.args.c) slots (λ h e.
    let both : Some a.0 ≡ Some h = sym a.1 ∙ e in
    let same : a.0 ≡ h = cc in
    subst (λ g. list_in g (Runs c.args.c) ≡ []) same none))

pub returns-in-Err-relocate_found-clause-kept : goal.returns-in-Err-relocate_found-clause-kept
returns-in-Err-relocate_found-clause-kept c n s sh = subst (λ (y : Acting). IsShown y n s) (sym c.in-Err-relocate_found.ensures.kept) sh
