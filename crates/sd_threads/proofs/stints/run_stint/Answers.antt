use Rattle.std.proofs.Common.{Result, Ok, Err, sym, subst}
use Rattle.std.specs.Prelude.{IfOk, slice_index_or}
use Rattle.sd_shared_table.specs.Seats.{id_of}
use Rattle.sd_threads.specs.Jobs.{HasPhased}
use Rattle.sd_threads.proofs.stints.run_stint.Goals as goal

if_ok : {A E : Type 0} {P Q : A → Type 0} → (r : Result A E) → ((x : A) → P x → Q x) → IfOk r P → IfOk r Q
if_ok (Ok x) f h = f x h
if_ok (Err e) f h = tt

pub returns-clause-phased : goal.returns-clause-phased
returns-clause-phased g c = if_ok c.map_vec.result
    (λ v gives i d inside. (let job = (gives i d inside).1 in subst (λ j. HasPhased (id_of c.args.shared.now) c.args.work.now j (slice_index_or v.items i d)) (sym (job.job_is d)) job.call.met))
    c.map_vec.ensures.each
