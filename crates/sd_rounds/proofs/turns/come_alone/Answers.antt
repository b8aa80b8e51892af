use Rattle.std.proofs.Common.{◌++◌, length, ap, ◌∙◌}
use Rattle.sd_world.specs.Plain.{told}
use Rattle.sd_rounds.proofs.AloneLemmas.{with_serial}
use Rattle.sd_rounds.proofs.turns.come_alone.Goals as goal

pub returns-clause-entries : goal.returns-clause-entries
returns-clause-entries c =
    let w = c.args.work.now in
    let x = c.args.world.now in
    c.in_ok-come.ensures.entries ∙ ap (λ es. x.entries.items ++ es) (with_serial w (told w x) (length x.entries.items) x.acting.actor.cpu c.args.hints c.requires.hints)
