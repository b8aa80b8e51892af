use Rattle.sd_laws.proofs.Marks.{marks_stand}
use Rattle.sd_laws.proofs.belonging_laws.marks_stand.Goals as goal

pub returns : goal.returns
returns c = marks_stand
