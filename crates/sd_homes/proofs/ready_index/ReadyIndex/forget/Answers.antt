use Rattle.std.proofs.Common.{arith}
use Rattle.sd_homes.proofs.IndexLemmas.{forgotten, index_kept}
use Rattle.sd_homes.proofs.ready_index.ReadyIndex.forget.Goals as goal

pub returns-then-i-len : goal.returns-then-i-len
returns-then-i-len c = λ rs h e.
    let l = c.len.ensures in
    forgotten c.args.id c.args.self.now.priorities.items c.args.self.now.ageing c.clear.new.self rs (omega arith) c.clear.ensures.bits c.clear.ensures.size (h e)

pub returns-else-i-len : goal.returns-else-i-len
returns-else-i-len c = λ rs h e. let l = c.len.ensures in index_kept c.args.self.now.priorities.items c.args.self.now.ageing c.args.id rs (omega arith) (h e)
