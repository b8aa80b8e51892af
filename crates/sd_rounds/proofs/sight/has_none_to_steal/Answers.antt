use Rattle.std.proofs.Common.{option_map, sym, ap, ◌∙◌}
use Rattle.sd_machine.specs.Hints.{hint_of, hint_shown}
use Rattle.sd_machine.specs.Threads.{priority_of}
use Rattle.sd_store.specs.Parts.{number}
use Rattle.sd_rounds.proofs.sight.has_none_to_steal.Goals as goal

pub returns-in-Ok-None : goal.returns-in-Ok-None
unfolding hint_shown
returns-in-Ok-None c = λ e n s sh. ap (λ o. hint_of (priority_of s o)) (sym (c.in-Ok-None.ensures.value n s sh)) ∙ ap (λ t. hint_of (priority_of s (option_map number t))) c.in-Ok-None.field-0-is
