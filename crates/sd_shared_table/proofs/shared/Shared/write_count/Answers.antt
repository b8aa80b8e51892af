use Rattle.std.proofs.Common.{◌+◌, ◌*◌, arith}
use Rattle.sd_shared_table.proofs.Asked as A
use Rattle.sd_shared_table.proofs.shared.Shared.write_count.Goals as goal

pub store-requires : goal.store-requires
store-requires g c =
    let s = c.args.self.now in (
      c.requires.table,
      (let w = s.words in let h = s.homes_are in let t = s.threads_are in let d = s.cpus_are in let i = c.requires.inside.0 in omega arith),
      A.write_count s.table.shared.key _ c.requires.about _ _ c.args.place.now.me c.requires.desk (s.homes + 1 + s.threads + 2 * s.cpus + c.args.c) c.args.c c.args.count (λ i. s.homes_are i + 1 + s.threads_are i + 2 * s.cpus_are i + c.args.c) c.requires.inside.0 c.requires.inside.1 c.requires.own,
    )
