use Rattle.std.proofs.Common.{◌≡◌, [], take}
use Rattle.std.specs.Prelude.{filter}
use Rattle.sd_holds.specs.Holds.{gives_up}
use Rattle.sd_holds.proofs.holdings.end_of.Given as goal

abbrev pub invariant-loop-x : goal.invariant-loop-x
invariant-loop-x l = filter (λ x. gives_up l.t l.l x.event) (take l.x-index l.happenings) ≡ []
