use Rattle.std.proofs.Common.{ap, arith}
use Rattle.sd_types.specs.Willed.{with_willed}
use Rattle.sd_types.proofs.WilledLemmas.{room}
use Rattle.sd_flat.proofs.bodies.inherit.Goals as goal

pub returns-in-Some : goal.returns-in-Some
returns-in-Some c = λ sound held below.
    let b = c.args.b.now in
    let same = c.put_number.ensures (λ none. room b c.args.l 8 sound held (omega arith) none) in
    rw c.in-Some.is (ap (λ ws. with_willed ws b) same)
