use Rattle.std.proofs.Common.{arith}
use Rattle.sd_dispadmin.proofs.LawLemmas.{ts_again, fixed_again}
use Rattle.sd_dispadmin.proofs.laws.written_tables_are_spelled.Goals as goal

pub returns-clause-ts : goal.returns-clause-ts
returns-clause-ts c = ts_again

pub returns-clause-fx : goal.returns-clause-fx
returns-clause-fx c = λ hz t ticks. fixed_again 61 hz t ticks t.most (omega arith)

pub returns-clause-rt : goal.returns-clause-rt
returns-clause-rt c = λ hz t ticks short. fixed_again 60 hz t ticks short (omega arith)
