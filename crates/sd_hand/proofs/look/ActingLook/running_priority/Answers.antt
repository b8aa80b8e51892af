use Rattle.std.proofs.Common.{sym, ap, ◌∙◌}
use Rattle.sd_machine.specs.Threads.{priority_of}
use Rattle.sd_homes.specs.declared.list_id.ListId.TheVariants.{Runs}
use Rattle.sd_homes.specs.Families.{list_in}
use Rattle.sd_hand.proofs.RankLemmas.{first_rank_told}
use Rattle.sd_hand.proofs.ShownLemmas.{list_shown}
use Rattle.sd_hand.proofs.TellLemmas.{runner_told}
use Rattle.sd_hand.proofs.look.ActingLook.running_priority.Goals as goal

pub returns-in-Ok-clause-value : goal.returns-in-Ok-clause-value
returns-in-Ok-clause-value c n s sh =
    let x = c.args.self.now in
    let asked = c.in-Ok.ensures in
    let at = Runs c.args.c in
    asked.2 ∙ sym (ap (priority_of s) (runner_told x n s asked.0 sh c.args.c asked.1) ∙ first_rank_told n s at (list_in asked.0 at) (list_shown x n s at asked.0 sh asked.1))
