use Rattle.std.proofs.Common.{ap, ◌∙◌}
use Rattle.sd_encoding.specs.Encoding.{state_in}
use Rattle.sd_encoding.proofs.EncodingLemmas.{read_again}
use Rattle.sd_encoding.proofs.encoding.decode.Goals as goal

pub returns-clause-again : goal.returns-clause-again
returns-clause-again c = λ s held e. c.in_ok-found.ensures ∙ ap state_in e ∙ read_again s held
