use Rattle.sd_shared_table_tests.proofs.trying.sought.Goals as goal

pub seek_by_turns-requires-clause-first : goal.seek_by_turns-requires-clause-first
seek_by_turns-requires-clause-first c = c.act-first.ensures 0 c.requires.first
