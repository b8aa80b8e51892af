use Rattle.std.proofs.Common.{◌∙◌, length, replicate, refl, ap}
use Rattle.sd_accounts.specs.Counters.{no_thread_counts}
use Rattle.sd_accounts.proofs.CounterLemmas.{taken_none}
use Rattle.sd_accounts.proofs.accounts.Accounts.new.Goals as goal

pub returns : goal.returns
returns c =
    taken_none c.args.work.now _
    (c.from_vec.ensures ∙ c.in_ok-no_threads.ensures ∙ ap (λ n. replicate n no_thread_counts) (ap length c.items.ensures))
    (c.from_vec-2.ensures ∙ c.in_ok-no_cpus.ensures) refl
