use Rattle.sd_laws.proofs.OpenLists.{open_lists_are_exact}
use Rattle.sd_laws.proofs.belonging_laws.open_lists_are_exact.Goals as goal

pub returns : goal.returns
returns c = open_lists_are_exact
