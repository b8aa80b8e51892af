use Rattle.std.proofs.Common.{ap, option_map, sym, ◌∙◌}
use Rattle.sd_store.specs.Parts.{number}
use Rattle.sd_rounds.proofs.SightLemmas.{ages_next}
use Rattle.sd_rounds.proofs.sight.see_ageing.Goals as goal

pub returns-in-Ok-Some-clause-seen : goal.returns-in-Ok-Some-clause-seen
returns-in-Ok-Some-clause-seen c n s sh =
    ages_next c.args.work.now s c.args.x.now.actor.cpu.0 c.args.u c.in-Ok-Some.t (sym sh.duty ∙ c.requires)
    (sym (c.in-Ok-None.ensures.value n s sh) ∙ ap (option_map number) c.in-Ok-None.field-0-is) (sym (c.in-Ok-Some.ensures.value n s sh) ∙ ap (option_map number) c.in-Ok-Some.field-0-is)
