use Rattle.std.proofs.Common.{List, Some, ap, ◌∙◌}
use Rattle.sd_state.specs.declared.states.ThreadState.{ThreadState}
use Rattle.sd_flat.specs.Standings.{greatest_but}
use Rattle.sd_flat.proofs.OthersLemmas.{but_that}
use Rattle.sd_flat.proofs.priorities.others_waiting.Goals as goal

pub returns : goal.returns
returns c = c.greatest_but.ensures ∙ ap (λ (xs : List ThreadState). greatest_but c.args.l.0 (Some c.args.u.0) 0 xs) c.items.ensures ∙ but_that c.args.l.0 c.args.u.0 c.args.s.now.threads
