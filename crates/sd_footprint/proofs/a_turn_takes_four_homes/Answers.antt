use Rattle.sd_state.specs.States.{cpu_of}
use Rattle.sd_invariants.proofs.Ready.{reached_ready, serves_of}
use Rattle.sd_footprint.proofs.FewHomes.{takes_four}
use Rattle.sd_footprint.proofs.a_turn_takes_four_homes.Goals as goal

pub returns : goal.returns
returns r = λ w n s c hints reached.
    let ready = reached_ready w n s reached in
    takes_four w s c hints (serves_of w s (cpu_of s c.0).duty ready.scripted (ready.serves c.0))
