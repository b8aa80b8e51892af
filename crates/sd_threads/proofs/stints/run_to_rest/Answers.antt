use Rattle.std.proofs.Common.{◌≡◌, List, rules, subst}
use Rattle.sd_types.specs.declared.events.Stop.TheVariants.{Full}
use Rattle.sd_shared_table.specs.Seats.{id_of}
use Rattle.sd_threads.specs.declared.jobs.Job.{Job}
use Rattle.sd_threads.specs.Jobs.{WasStopped}
use Rattle.sd_threads.proofs.JobLemmas as J
use Rattle.sd_threads.proofs.stints.run_to_rest.Goals as goal

pub loop-init : goal.loop-init
loop-init g c = record { can = search rules; ends = search rules; jobs = c.requires.jobs }

pub run_stint-requires-clause-free : goal.run_stint-requires-clause-free
run_stint-requires-clause-free g c κs lives = λ k d inside. c.loop.invariant.jobs.free k d inside

pub returns-in-Err-have_acted-clause-full : goal.returns-in-Err-have_acted-clause-full
returns-in-Err-have_acted-clause-full g c = λ is.
    let full : c.in-Err-have_acted.stop ≡ Full = cc in
    J.long_of (id_of c.args.shared.now) c.args.work.now c.loop.jobs.items c.in-Ok.done.items c.in-Ok.ensures.many c.in-Ok.ensures.phased (subst (WasStopped c.in-Ok.done.items) full (subst (λ (js : List Job). WasStopped js c.in-Err-have_acted.stop) c.deref.ensures.value c.in-Err-have_acted.ensures.stopped))

pub returns-then-not-acted-clause-jobs : goal.returns-then-not-acted-clause-jobs
returns-then-not-acted-clause-jobs g c = J.jobs_phased (id_of c.args.shared.now) c.args.work.now c.loop.jobs.items c.in-Ok.done.items c.in-Ok.ensures.many c.in-Ok.ensures.phased c.loop.invariant.jobs

pub loop-preserved : goal.loop-preserved
loop-preserved g c =
    record { can = search rules; ends = search rules; jobs = J.jobs_phased (id_of c.args.shared.now) c.args.work.now c.loop.jobs.items c.in-Ok.done.items c.in-Ok.ensures.many c.in-Ok.ensures.phased c.loop.invariant.jobs }
