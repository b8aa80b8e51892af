use Rattle.std.proofs.Common.{length, sym, ◌∙◌}
use Rattle.sd_world.specs.Plain.{told}
use Rattle.sd_world.proofs.PlainLemmas as P
use Rattle.sd_rounds.proofs.AloneLemmas.{unread}
use Rattle.sd_rounds.proofs.turns.act_by_place.Goals as goal

pub come_alone-requires-clause-hints : goal.come_alone-requires-clause-hints
come_alone-requires-clause-hints c =
    let w = c.args.work.now in
    let x = c.args.world.now in
    let made = sym (c.in-Ok-Some.ensures.value (length x.entries.items) (told w x) (P.shown w x c.requires.stands)) ∙ c.in-Ok-Some.field-0-is in
    (unread w (told w x) x.acting.actor.cpu c.args.placement c.args.p c.in-Ok-Some.event (P.cpu_inside w x c.requires.stands) c.requires.plan made).0

pub come_alone-requires-clause-event : goal.come_alone-requires-clause-event
come_alone-requires-clause-event c =
    let w = c.args.work.now in
    let x = c.args.world.now in
    let made = sym (c.in-Ok-Some.ensures.value (length x.entries.items) (told w x) (P.shown w x c.requires.stands)) ∙ c.in-Ok-Some.field-0-is in
    (unread w (told w x) x.acting.actor.cpu c.args.placement c.args.p c.in-Ok-Some.event (P.cpu_inside w x c.requires.stands) c.requires.plan made).1
