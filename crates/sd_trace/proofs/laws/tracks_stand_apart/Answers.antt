use Rattle.std.proofs.Common.{arith}
use Rattle.sd_trace.proofs.laws.tracks_stand_apart.Goals as goal

pub returns : goal.returns
returns c = λ w p t u lane inside here.
    let most = w.most_cpus in
    let threads = w.most_threads in
    (omega arith, omega (arith, inside, most), omega (arith, here, threads), omega arith)
