use Rattle.sd_declare.specs.Kept.{declarations}
use Rattle.sd_workload.proofs.WorkLemmas.{few, most-ticks, most-pairs, most-ops, sets-fit, cpus-differ, cpu-left, set-names, lock-names, chan-names, small-counts, thread-names, threads-fit}
use Rattle.sd_workload.proofs.works.work.Goals as goal

pub invariant_of-result-clause-known_hz : goal.invariant_of-result-clause-known_hz
invariant_of-result-clause-known_hz c = rw c.unwrap_or-hz.ensures c.requires.sound.settings.known_hz

pub invariant_of-result-clause-most_ticks : goal.invariant_of-result-clause-most_ticks
invariant_of-result-clause-most_ticks c =
    most-ticks (declarations c.args.d) _ _ (few (declarations c.args.d) c.requires.end) c.unwrap_or-cpus.ensures c.requires.limit

pub invariant_of-result-clause-most_pairs : goal.invariant_of-result-clause-most_pairs
invariant_of-result-clause-most_pairs c =
    most-pairs c.args.d _ _ (few (declarations c.args.d) c.requires.end) c.from_vec-4.ensures c.from_vec-2.ensures

pub invariant_of-result-clause-most_ops : goal.invariant_of-result-clause-most_ops
invariant_of-result-clause-most_ops c = most-ops c.args.d _ (few (declarations c.args.d) c.requires.end) c.from_vec-4.ensures

pub invariant_of-result-clause-sets_fit : goal.invariant_of-result-clause-sets_fit
invariant_of-result-clause-sets_fit c = sets-fit c.args.d _ _ c.requires.sound c.unwrap_or-cpus.ensures c.from_vec.ensures

pub invariant_of-result-clause-cpus_differ : goal.invariant_of-result-clause-cpus_differ
invariant_of-result-clause-cpus_differ c = cpus-differ c.args.d _ c.requires.sound c.from_vec.ensures

pub invariant_of-result-clause-cpu_left : goal.invariant_of-result-clause-cpu_left
invariant_of-result-clause-cpu_left c = cpu-left c.args.d _ _ c.requires.sound c.unwrap_or-cpus.ensures c.from_vec.ensures

pub invariant_of-result-clause-set_names : goal.invariant_of-result-clause-set_names
invariant_of-result-clause-set_names c = set-names c.args.d _ c.requires.sound c.from_vec.ensures

pub invariant_of-result-clause-lock_names : goal.invariant_of-result-clause-lock_names
invariant_of-result-clause-lock_names c = lock-names c.args.d _ c.requires.sound c.from_vec-2.ensures

pub invariant_of-result-clause-chan_names : goal.invariant_of-result-clause-chan_names
invariant_of-result-clause-chan_names c = chan-names c.args.d _ c.requires.sound c.from_vec-3.ensures

pub invariant_of-result-clause-small_counts : goal.invariant_of-result-clause-small_counts
invariant_of-result-clause-small_counts c = small-counts c.args.d _ c.requires.sound c.from_vec-3.ensures

pub invariant_of-result-clause-thread_names : goal.invariant_of-result-clause-thread_names
invariant_of-result-clause-thread_names c = thread-names c.args.d _ c.requires.sound c.from_vec-4.ensures

pub invariant_of-result-clause-threads_fit : goal.invariant_of-result-clause-threads_fit
invariant_of-result-clause-threads_fit c =
    threads-fit c.args.d _ _ _ _ _ c.requires.sound c.unwrap_or-cpus.ensures c.from_vec.ensures c.from_vec-2.ensures c.from_vec-3.ensures c.from_vec-4.ensures
