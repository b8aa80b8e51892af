use Rattle.std.proofs.Common.{sym, ◌∙◌, ap}
use Rattle.std.specs.Option.{option_copied}
use Rattle.sd_homes.specs.Standing.{due_of_first}
use Rattle.sd_rounds.proofs.SightLemmas.{runner_noted, sees_quiet, sees_runner}
use Rattle.sd_rounds.proofs.sight.see_home.Goals as goal

pub returns-in-Some-first-clause-seen : goal.returns-in-Some-first-clause-seen
returns-in-Some-first-clause-seen c n s sh is =
    sees_runner c.args.work.now c.args.x.now n s c.args.home.now sh c.requires.duty c.requires.home (ap (due_of_first c.args.x.now.actor.count) (sym c.first.ensures) ∙ c.is_due.ensures c.if-is_due.false) c.in-Some.view (sym c.in-Some.is ∙ c.view.ensures)
    c.in-Some-first.thread.now c.see_runner.result (sym c.first-in-Some.ensures ∙ ap option_copied c.in-Some-first.is) c.see_runner.ensures

pub returns-in-Some-first-clause-noted : goal.returns-in-Some-first-clause-noted
returns-in-Some-first-clause-noted c = runner_noted c.args.work.now c.in-Some.view c.in-Some-first.thread.now c.args.searched.now c.see_runner.result c.see_runner.ensures

pub returns-in-None-first-clause-seen : goal.returns-in-None-first-clause-seen
returns-in-None-first-clause-seen c n s sh is =
    sees_quiet c.args.work.now c.args.x.now n s c.args.home.now sh c.requires.duty c.requires.home (ap (due_of_first c.args.x.now.actor.count) (sym c.first.ensures) ∙ c.is_due.ensures c.if-is_due.false) c.in-Some.view (sym c.in-Some.is ∙ c.view.ensures)
    c.args.searched.now c.see_quiet.result (sym c.first-in-Some.ensures ∙ ap option_copied c.in-None-first.is) c.see_quiet.ensures.seen is
