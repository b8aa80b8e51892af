use Rattle.std.proofs.Common.{length, ap, ◌∙◌, arith}
use Rattle.std.specs.List.{list_all}
use Rattle.sd_types.specs.Rows.{fixed_row_fits}
use Rattle.sd_dispadmin.proofs.DefaultLemmas.{rt_fits, rt_count, rt_ticks}
use Rattle.sd_dispadmin.proofs.defaults.default_rt.Goals as goal

pub from_rows-requires-clause-least : goal.from_rows-requires-clause-least
from_rows-requires-clause-least c = omega (arith, ap length (c.from_vec.ensures ∙ c.in_ok-rows.ensures), rt_count c.args.hz)

pub from_rows-requires-clause-most : goal.from_rows-requires-clause-most
from_rows-requires-clause-most c = omega (arith, ap length (c.from_vec.ensures ∙ c.in_ok-rows.ensures), rt_count c.args.hz)

pub from_rows-requires-clause-fits : goal.from_rows-requires-clause-fits
from_rows-requires-clause-fits c = ap (list_all fixed_row_fits) (c.from_vec.ensures ∙ c.in_ok-rows.ensures) ∙ rt_fits c.args.hz c.requires

pub returns-clause-ticks : goal.returns-clause-ticks
returns-clause-ticks c = rt_ticks c.args.hz c.from_rows.result c.from_rows.ensures.res (c.from_rows.ensures.rows ∙ c.from_vec.ensures ∙ c.in_ok-rows.ensures)
