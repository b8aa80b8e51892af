use Rattle.std.proofs.Common.{◌∙◌}
use Rattle.sd_dispatcher.proofs.ReadLemmas.{unread_put}
use Rattle.sd_dispatcher.proofs.choosing.put_unread.Goals as goal

pub returns-clause-value : goal.returns-clause-value
returns-clause-value g c = λ n s shows.
    let (cpus, bound, last, warm) = c.in_ok-choices.ensures.value n s shows in
    c.unread_by.ensures ∙ unread_put c.args.work.now s c.args.c.0 c.args.t.0 c.args.p _ _ _ _ cpus bound last warm
