use Rattle.std.proofs.Common.{sym}
use Rattle.sd_homes.proofs.IndexLemmas.{next_ages, none_to_age}
use Rattle.sd_homes.proofs.ready_index.ReadyIndex.next_to_age.Goals as goal

pub returns-in-None : goal.returns-in-None
returns-in-None c = λ rs e h. sym (none_to_age c.args.self.now.priorities.items c.args.self.now.ageing c.args.u.0 rs c.in-None.ensures.next (h e))

pub returns-in-Some : goal.returns-in-Some
returns-in-Some c = λ rs e h. sym (next_ages c.args.self.now.priorities.items c.args.self.now.ageing c.args.u.0 c.in-Some.i rs c.in-Some.ensures.next (h e))
