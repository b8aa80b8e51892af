use Rattle.std.proofs.Common.{sym, ap, ◌∙◌}
use Rattle.sd_machine.specs.Threads.{priority_of}
use Rattle.sd_homes.specs.declared.list_id.ListId.TheVariants.{Queues}
use Rattle.sd_homes.specs.Standing.{is_unbound}
use Rattle.sd_homes.specs.Families.{list_in}
use Rattle.sd_hand.proofs.RankLemmas.{rank_told}
use Rattle.sd_hand.proofs.ShownLemmas.{list_shown}
use Rattle.sd_hand.proofs.TellLemmas.{unbound_told}
use Rattle.sd_hand.proofs.acting.Acting.unbound_priority.Goals as goal

pub returns-in-Ok-clause-value : goal.returns-in-Ok-clause-value
returns-in-Ok-clause-value c n s sh =
    let x = c.args.self.now in
    let asked = c.in-Ok.ensures in
    let at = Queues c.args.c in
    asked.2 ∙ sym (ap (priority_of s) (unbound_told x n s asked.0 sh c.args.c asked.1) ∙ rank_told n s at (list_in asked.0 at) (list_shown x n s at asked.0 sh asked.1) is_unbound)
