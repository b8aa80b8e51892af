use Rattle.std.proofs.Common.{List, None, ap, ◌∙◌}
use Rattle.sd_state.specs.declared.states.ThreadState.{ThreadState}
use Rattle.sd_flat.specs.Standings.{greatest_but}
use Rattle.sd_flat.proofs.OthersLemmas.{all_of}
use Rattle.sd_flat.proofs.priorities.greatest_waiting.Goals as goal

pub returns : goal.returns
returns c = c.greatest_but.ensures ∙ ap (λ (xs : List ThreadState). greatest_but c.args.l.0 None 0 xs) c.items.ensures ∙ all_of c.args.l.0 0 c.args.s.now.threads
