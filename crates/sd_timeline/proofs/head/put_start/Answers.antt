use Rattle.std.proofs.Common.{append_assoc}
use Rattle.sd_timeline.specs.Head.{start}
use Rattle.sd_timeline.proofs.head.put_start.Goals as goal

pub returns : goal.returns
unfolding start
returns c =
    simp append_assoc
    (simp (c.in_ok-put_description.ensures, c.in_ok-put_file_title.ensures, c.in_ok-put_size.ensures, c.in_ok-put_opened.ensures, append_assoc) at c.put_looks.ensures)
