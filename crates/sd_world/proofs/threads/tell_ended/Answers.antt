use Rattle.std.proofs.Common.{◌≡◌, Some, option_copied, refl, sym, ap, ◌∙◌, subst}
use Rattle.sd_record.specs.declared.record.Kept.{Kept}
use Rattle.sd_record.specs.Records.{ThreadRecord}
use Rattle.sd_homes.specs.declared.list_id.ListId.TheVariants.{Ends}
use Rattle.sd_state.specs.States.{thread_of}
use Rattle.sd_homes.specs.declared.home.Home.{Home}
use Rattle.sd_homes.specs.Families.{list_in}
use Rattle.sd_world.proofs.EndedLemmas.{HaveEnded, ended_there, told_more}
use Rattle.sd_world.proofs.threads.tell_ended.Goals as goal

pub loop-thread-init : goal.loop-thread-init
loop-thread-init c s told are =
    let (h, held, same) = c.in-Ok.ensures in (
      are,
      subst (HaveEnded s)
          (sym (c.into_iter-thread-iterator.ensures.into_iter_gives ∙ c.items-thread-items.ensures ∙ c.in-Some.ensures ∙ ap (λ (g : Home). list_in g (Ends c.args.c)) same))
          (ended_there c.args.hand.now.slots s told c.args.c h held),
    )

pub loop-thread-preserved-then-number-len : goal.loop-thread-preserved-then-number-len
loop-thread-preserved-then-number-len c s told are =
    let so_far = c.loop-thread.invariant s told are in
    let ended = subst (HaveEnded s) c.in-Some-thread.ensures.steps so_far.1 in
    let number = sym (ap (λ (r : ThreadRecord). r.id.0) c.thread.view_is) ∙ ap (λ (k : Kept). k.id.0) (sym c.deref.ensures) in (
      told_more option_copied s c.loop-thread.told.items c.deref.result.now.id.0 (Some c.in-Some-thread.thread) c.in-Some-thread.thread.now refl (ended.0 ∙ ap (thread_of s) number) so_far.0,
      ended.1,
    )

pub loop-thread-preserved : goal.loop-thread-preserved
loop-thread-preserved c s told are =
    let so_far = c.loop-thread.invariant s told are in
    let ended = subst (HaveEnded s) c.in-Some-thread.ensures.steps so_far.1 in
    (so_far.0, ended.1)

pub returns : goal.returns
returns c s told are = (c.loop-thread.invariant s told are).0
