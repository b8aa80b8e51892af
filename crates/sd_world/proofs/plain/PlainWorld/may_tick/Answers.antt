use Rattle.std.proofs.Common.{◌≡◌, true, false, ◌&&◌, sym, ap, ◌∙◌, arith}
use Rattle.std.specs.Prelude.{nat_le, nat_lt}
use Rattle.std.specs.List.{list_all}
use Rattle.std.proofs.lemmas.Bool.Decides.{nat_tests}
use Rattle.sd_state.specs.declared.states.CpuState.{CpuState}
use Rattle.sd_hand.specs.declared.acting.Actor.{Actor}
use Rattle.sd_machine.specs.Events.{may_tick}
use Rattle.sd_world.specs.Plain.{told}
use Rattle.sd_world.proofs.ActorLemmas.{all_counts}
use Rattle.sd_world.proofs.plain.PlainWorld.may_tick.Goals as goal

pub returns-then-count-work : goal.returns-then-count-work
unfolding may_tick
returns-then-count-work c =
    let w = c.args.work.now in
    let x = c.args.self.now in
    let s = told w x in
    let st = c.requires.stands in
    let below = c.if-count-work.true in
    let less : nat_lt x.acting.actor.count w.limit ≡ true = grind (arith, nat_tests) in
    c.nobody_behind.ensures ∙ (ap (list_all (λ (a : Actor). nat_le x.acting.actor.count a.count)) c.deref.ensures.value ∙ (all_counts s x.actors.items x.acting.actor.count st.actors
    ∙ (sym (ap (λ b. b && list_all (λ (y : CpuState). nat_le x.acting.actor.count y.count) s.cpus) less)
    ∙ ap (λ k. nat_lt k w.limit && list_all (λ (y : CpuState). nat_le k y.count) s.cpus) st.acts.count)))

pub returns-else-count-work : goal.returns-else-count-work
unfolding may_tick
returns-else-count-work c =
    let w = c.args.work.now in
    let x = c.args.self.now in
    let s = told w x in
    let st = c.requires.stands in
    let high = c.if-count-work.false in
    let no : nat_lt x.acting.actor.count w.limit ≡ false = grind (arith, nat_tests) in
    no ∙ (sym (ap (λ b. b && list_all (λ (y : CpuState). nat_le x.acting.actor.count y.count) s.cpus) no)
    ∙ ap (λ k. nat_lt k w.limit && list_all (λ (y : CpuState). nat_le k y.count) s.cpus) st.acts.count)
