use Rattle.std.proofs.Common.{◌-◌, Some, length, refl, subst, sym, ◌∙◌}
use Rattle.sd_types.specs.declared.events.Event.TheVariants.{Idle, Tick}
use Rattle.sd_machine.specs.declared.plans.Plan.TheVariants.{Make}
use Rattle.sd_world.specs.Plain.{told}
use Rattle.sd_world.proofs.PlainLemmas as P
use Rattle.sd_rounds.specs.Searched.{IsSearched}
use Rattle.sd_rounds.proofs.AloneLemmas.{makes_it, serial_of, will_idle, will_make}
use Rattle.sd_rounds.proofs.SearchedLemmas.{kept_searched, numbers_read, searched_after, none_to_steal, turned_searched}
use Rattle.sd_rounds.proofs.turns.act.Goals as goal

pub come_tick-requires-clause-duty : goal.come_tick-requires-clause-duty
come_tick-requires-clause-duty c =
    let w = c.args.work.now in
    let x = c.args.world.now in
    let shown = P.shown w x c.requires.stands in
    shown.duty ∙ (c.in-Runs.ensures.seen (length x.entries.items) (told w x) shown c.requires.searched).0

pub come_tick-requires-clause-hints : goal.come_tick-requires-clause-hints
come_tick-requires-clause-hints c =
    let w = c.args.work.now in
    let x = c.args.world.now in
    let s = told w x in
    serial_of w s x.acting.actor.cpu (Make (Tick c.in-Runs.t)) (c.in-Runs.ensures.seen (length x.entries.items) s (P.shown w x c.requires.stands) c.requires.searched).1

pub come_tick-requires-clause-event : goal.come_tick-requires-clause-event
come_tick-requires-clause-event c =
    let w = c.args.work.now in
    let x = c.args.world.now in
    let s = told w x in
    makes_it w s x.acting.actor.cpu (Tick c.in-Runs.t) (P.cpu_inside w x c.requires.stands) (c.in-Runs.ensures.seen (length x.entries.items) s (P.shown w x c.requires.stands) c.requires.searched).1

pub come_tick-requires-clause-expires : goal.come_tick-requires-clause-expires
come_tick-requires-clause-expires c =
    let w = c.args.work.now in
    let x = c.args.world.now in
    (c.in-Runs.ensures.seen (length x.entries.items) (told w x) (P.shown w x c.requires.stands) c.requires.searched).2

pub end_search-requires-clause-duty : goal.end_search-requires-clause-duty
end_search-requires-clause-duty c =
    let w = c.args.work.now in
    let x = c.args.world.now in
    let shown = P.shown w x c.requires.stands in
    shown.duty ∙ (c.in-Idles.ensures.seen (length x.entries.items) (told w x) shown c.requires.searched).0

pub end_search-requires-clause-plan : goal.end_search-requires-clause-plan
end_search-requires-clause-plan c =
    let w = c.args.work.now in
    let x = c.args.world.now in
    (c.in-Idles.ensures.seen (length x.entries.items) (told w x) (P.shown w x c.requires.stands) c.requires.searched).1

pub end_search-requires-clause-fits : goal.end_search-requires-clause-fits
end_search-requires-clause-fits c =
    let w = c.args.work.now in
    let x = c.args.world.now in
    (c.in-Idles.ensures.seen (length x.entries.items) (told w x) (P.shown w x c.requires.stands) c.requires.searched).4.most

pub end_search-requires-clause-numbers : goal.end_search-requires-clause-numbers
end_search-requires-clause-numbers c =
    let w = c.args.work.now in
    let x = c.args.world.now in
    let n = length x.entries.items in
    let s = told w x in
    let (duty, plan, its, opened, none) = c.in-Idles.ensures.seen n s (P.shown w x c.requires.stands) c.requires.searched in
    numbers_read w n s x.acting.actor.cpu c.in-Idles.found (P.reached w x c.requires.stands) (P.cpu_inside w x c.requires.stands) its opened none

pub returns-in_ok-come_tick-in-Runs-clause-searched : goal.returns-in_ok-come_tick-in-Runs-clause-searched
returns-in_ok-come_tick-in-Runs-clause-searched c =
    let w = c.args.work.now in
    let x = c.args.world.now in
    let s = told w x in
    let known = c.args.searched.now in
    let tick = Tick c.in-Runs.t in
    let seen = c.in-Runs.ensures.seen (length x.entries.items) s (P.shown w x c.requires.stands) c.requires.searched in
    subst (IsSearched (told w c.come_tick.new.world)) (sym c.in-Runs.ensures.noted)
    (turned_searched w x c.come_tick.new.world tick known (λ z n d. searched_after w z n d tick tt tt tt refl refl known) (will_make w s x.acting.actor.cpu tick (P.cpu_inside w x c.requires.stands) seen.1) c.requires.searched
    c.in_ok-come_tick-in-Runs.ensures.entries)

pub returns-in_err-come_tick-in-Runs-clause-searched : goal.returns-in_err-come_tick-in-Runs-clause-searched
returns-in_err-come_tick-in-Runs-clause-searched c =
    let w = c.args.work.now in
    subst (IsSearched (told w c.come_tick.new.world)) (sym c.in-Runs.ensures.noted)
    (kept_searched w c.args.world.now c.come_tick.new.world c.args.searched.now c.requires.searched c.in_err-come_tick-in-Runs.ensures.stop.1)

pub returns-in_ok-end_search-in-Idles-clause-searched : goal.returns-in_ok-end_search-in-Idles-clause-searched
returns-in_ok-end_search-in-Idles-clause-searched c =
    let w = c.args.work.now in
    let x = c.args.world.now in
    let s = told w x in
    let known = Some c.in-Idles.found in
    let n = length x.entries.items in
    let cpu = x.acting.actor.cpu in
    let inside = P.cpu_inside w x c.requires.stands in
    let (duty, plan, its, opened, none) = c.in-Idles.ensures.seen n s (P.shown w x c.requires.stands) c.requires.searched in
    let numbers = numbers_read w n s cpu c.in-Idles.found (P.reached w x c.requires.stands) inside its opened none in
    subst (IsSearched (told w c.end_search.new.world)) (sym c.in-Idles.ensures.noted)
    (turned_searched w x c.end_search.new.world Idle known (λ z m d. searched_after w z m d Idle tt tt tt refl refl known)
    (will_idle w s cpu inside plan (none_to_steal (c.in-Idles.found.cpus - 1) s cpu.0 numbers)) none c.in_ok-end_search-in-Idles.ensures.entries)

pub returns-in_err-end_search-in-Idles-clause-searched : goal.returns-in_err-end_search-in-Idles-clause-searched
returns-in_err-end_search-in-Idles-clause-searched c =
    let w = c.args.work.now in
    let x = c.args.world.now in
    let (duty, plan, its, opened, none) = c.in-Idles.ensures.seen (length x.entries.items) (told w x) (P.shown w x c.requires.stands) c.requires.searched in
    subst (IsSearched (told w c.end_search.new.world)) (sym c.in-Idles.ensures.noted)
    (kept_searched w x c.end_search.new.world (Some c.in-Idles.found) none c.in_err-end_search-in-Idles.ensures.stop.1)

pub act_by_search-requires-clause-plan : goal.act_by_search-requires-clause-plan
act_by_search-requires-clause-plan c =
    let w = c.args.work.now in
    let x = c.args.world.now in
    c.in-Searches.ensures.seen (length x.entries.items) (told w x) (P.shown w x c.requires.stands) c.requires.searched

pub act_by_dispatch-requires-clause-plan : goal.act_by_dispatch-requires-clause-plan
act_by_dispatch-requires-clause-plan c =
    let w = c.args.work.now in
    let x = c.args.world.now in
    c.in-Ready.ensures.seen (length x.entries.items) (told w x) (P.shown w x c.requires.stands) c.requires.searched

pub act_by_runner-requires-clause-plan : goal.act_by_runner-requires-clause-plan
act_by_runner-requires-clause-plan c =
    let w = c.args.work.now in
    let x = c.args.world.now in
    c.in-Acts.ensures.seen (length x.entries.items) (told w x) (P.shown w x c.requires.stands) c.requires.searched

pub act_by_mark-requires-clause-plan : goal.act_by_mark-requires-clause-plan
act_by_mark-requires-clause-plan c =
    let w = c.args.work.now in
    let x = c.args.world.now in
    c.in-Marked.ensures.seen (length x.entries.items) (told w x) (P.shown w x c.requires.stands) c.requires.searched

pub act_by_age-requires-clause-plan : goal.act_by_age-requires-clause-plan
act_by_age-requires-clause-plan c =
    let w = c.args.work.now in
    let x = c.args.world.now in
    c.in-Ages.ensures.seen (length x.entries.items) (told w x) (P.shown w x c.requires.stands) c.requires.searched
