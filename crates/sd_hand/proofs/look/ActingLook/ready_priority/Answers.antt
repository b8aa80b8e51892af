use Rattle.std.proofs.Common.{option_map, sym, ap, ◌∙◌}
use Rattle.sd_machine.specs.Threads.{best_ready}
use Rattle.sd_hand.proofs.RankLemmas.{ranked_priority}
use Rattle.sd_hand.proofs.look.ActingLook.ready_priority.Goals as goal

pub returns-in-Ok-None-clause-value : goal.returns-in-Ok-None-clause-value
returns-in-Ok-None-clause-value c n s sh =
    ap (option_map (λ r. r.1)) (sym c.in-Ok-None.field-0-is ∙ c.in-Ok-None.ensures.value n s sh) ∙ ranked_priority s (best_ready s c.args.c.0)

pub returns-in-Ok-Some-clause-value : goal.returns-in-Ok-Some-clause-value
returns-in-Ok-Some-clause-value c n s sh =
    ap (option_map (λ r. r.1)) (sym c.in-Ok-Some.field-0-is ∙ c.in-Ok-Some.ensures.value n s sh) ∙ ranked_priority s (best_ready s c.args.c.0)
