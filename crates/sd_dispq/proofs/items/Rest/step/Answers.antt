use Rattle.std.proofs.Common.{◌++◌, ◌+◌, drop, sym, ap, ◌∙◌}
use Rattle.sd_dispq.specs.Levels.{all_of}
use Rattle.sd_dispq.proofs.LevelLemmas.{to_end, to_next}
use Rattle.sd_dispq.proofs.items.Rest.step.Goals as goal

pub returns-in-None : goal.returns-in-None
returns-in-None g c =
    let levels = c.self.inside.levels.now in
    let from = c.self.inside.from in
    sym c.self.view_is ∙ ap (λ xs. xs ++ all_of (drop from levels)) c.in_default.ensures ∙ to_end levels from c.in-None.ensures.next

pub returns-in-Some-step : goal.returns-in-Some-step
returns-in-Some-step g c =
    let levels = c.self.inside.levels.now in
    let from = c.self.inside.from in
    let index = c.in-Some-next_busy.index in
    let level = sym c.level.ensures ∙ sym c.walk.ensures ∙ c.in-Some-step.ensures in
    sym c.self.view_is ∙ ap (λ xs. xs ++ all_of (drop from levels)) c.in_default.ensures
    ∙ to_next levels from index c.in-Some-next_busy.ensures.next ∙ ap (λ xs. xs ++ all_of (drop (index + 1) levels)) level
