use Rattle.sd_shared_table_tests.proofs.joining.fn.act_both.one.Goals as goal

pub returns : goal.returns
returns g c = c.act_alone.ensures 0 c.requires.1
