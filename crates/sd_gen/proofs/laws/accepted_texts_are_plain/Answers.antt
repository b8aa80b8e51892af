use Rattle.sd_gen.proofs.PlainLineLemmas.{accepted-plain}
use Rattle.sd_gen.proofs.laws.accepted_texts_are_plain.Goals as goal

pub returns : goal.returns
returns c = accepted-plain
