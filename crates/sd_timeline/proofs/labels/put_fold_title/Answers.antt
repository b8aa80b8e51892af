use Rattle.std.proofs.Common.{append_assoc}
use Rattle.std.proofs.lemmas.List.{append-nil}
use Rattle.sd_timeline.specs.Bars.{between}
use Rattle.sd_timeline.specs.Labels.{fold_title, many_text}
use Rattle.sd_timeline.proofs.labels.put_fold_title.Goals as goal

pub returns : goal.returns
unfolding fold_title many_text between
returns c = simp append_assoc (simp (append-nil, c.many.ensures) at c.put_parts.ensures)
