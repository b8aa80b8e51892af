use Rattle.sd_dispadmin.specs.TableText.{word_lines}
use Rattle.sd_workload.proofs.SoundLemmas.{text-sound}
use Rattle.sd_workload.proofs.read.read_work.Goals as goal

pub work-requires-clause-sound : goal.work-requires-clause-sound
work-requires-clause-sound c = text-sound (word_lines c.args.bytes.now) _ c.in_ok-d.ensures.ok
