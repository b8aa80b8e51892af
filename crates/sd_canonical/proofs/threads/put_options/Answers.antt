use Rattle.std.proofs.lemmas.Result.{on_ok_weaker}
use Rattle.sd_canonical.proofs.LineLemmas.{options_parts, three}
use Rattle.sd_canonical.proofs.threads.put_options.Goals as goal

pub returns : goal.returns
returns c = on_ok_weaker c.put_in.result
    (λ appended. three _ _ _ _ _ _ _ _ c.in_ok-put_uid.ensures c.in_ok-put_priv.ensures appended (options_parts c.args.work.now c.args.thread.now))
    c.put_in.ensures
