use Rattle.std.proofs.Common.{arith}
use Rattle.sd_dispadmin.proofs.TextLemmas.{ts_or_fault, fixed_or_fault}
use Rattle.sd_dispadmin.proofs.laws.texts_spell_tables.Goals as goal

pub returns-clause-ts : goal.returns-clause-ts
returns-clause-ts c = ts_or_fault

pub returns-clause-fx : goal.returns-clause-fx
returns-clause-fx c = λ text hz some. fixed_or_fault 61 text hz (omega arith) some

pub returns-clause-rt : goal.returns-clause-rt
returns-clause-rt c = λ text hz some. fixed_or_fault 60 text hz (omega arith) some
