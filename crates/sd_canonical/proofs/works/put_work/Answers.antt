use Rattle.std.proofs.lemmas.Result.{on_ok_weaker}
use Rattle.sd_canonical.proofs.LineLemmas.{canonical_parts}
use Rattle.sd_canonical.proofs.works.put_work.Goals as goal

pub returns : goal.returns
returns c = on_ok_weaker c.put_scripts.result
    (λ appended. canonical_parts c.args.work.now c.args.out.now.items _ _ _ _ _ _ _ c.in_ok-put_settings.ensures c.in_ok-put_sets.ensures c.in_ok-put_tables.ensures c.in_ok-put_locks.ensures c.in_ok-put_chans.ensures c.in_ok-put_threads.ensures appended)
    c.put_scripts.ensures
