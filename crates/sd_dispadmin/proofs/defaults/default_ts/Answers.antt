use Rattle.std.proofs.Common.{length, ap, ◌∙◌}
use Rattle.std.specs.List.{list_all}
use Rattle.sd_types.specs.Rows.{ts_row_fits}
use Rattle.sd_dispadmin.proofs.DefaultLemmas.{ts_fits, ts_count, ts_ticks}
use Rattle.sd_dispadmin.proofs.defaults.default_ts.Goals as goal

pub from_rows-requires-clause-whole : goal.from_rows-requires-clause-whole
from_rows-requires-clause-whole c = ap length (c.from_vec.ensures ∙ c.in_ok-rows.ensures) ∙ ts_count c.args.hz

pub from_rows-requires-clause-fits : goal.from_rows-requires-clause-fits
from_rows-requires-clause-fits c = ap (list_all ts_row_fits) (c.from_vec.ensures ∙ c.in_ok-rows.ensures) ∙ ts_fits c.args.hz c.requires

pub returns-clause-ticks : goal.returns-clause-ticks
returns-clause-ticks c = ts_ticks c.args.hz c.from_rows.result c.from_rows.ensures.res (c.from_rows.ensures.rows ∙ c.from_vec.ensures ∙ c.in_ok-rows.ensures)
