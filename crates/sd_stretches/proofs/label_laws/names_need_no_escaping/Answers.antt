use Rattle.sd_stretches.proofs.PlainLemmas.{plain_names}
use Rattle.sd_stretches.proofs.label_laws.names_need_no_escaping.Goals as goal

pub returns : goal.returns
returns c = plain_names
