use Rattle.std.proofs.Common.{arith}
use Rattle.std.proofs.lemmas.Result.{on_ok_weaker}
use Rattle.sd_longest.specs.Edges.{rows_of}
use Rattle.sd_longest.proofs.MarkLemmas.{has_kept, keeps_twice}
use Rattle.sd_longest.proofs.SettledLemmas.{open_set}
use Rattle.sd_longest.proofs.marking.Marking.open.Goals as goal

pub set-requires : goal.set-requires
set-requires c =
    let less = c.requires.inside c.args.opening.from c.args.opening.edge c.requires.edge in
    let many = c.requires.marking.many in
    omega (arith, less, many)

pub expand_all-requires-clause-marking : goal.expand_all-requires-clause-marking
expand_all-requires-clause-marking c =
    (open_set (rows_of c.args.rows.now) c.args.opening c.args.self.now c.set.new.self c.requires.marking c.requires.edge c.requires.opens c.in_ok-set.ensures).marking

pub returns-clause-kept : goal.returns-clause-kept
returns-clause-kept c =
    let a = open_set (rows_of c.args.rows.now) c.args.opening c.args.self.now c.set.new.self c.requires.marking c.requires.edge c.requires.opens c.in_ok-set.ensures in
    on_ok_weaker c.expand_all.result (λ kept. keeps_twice c.args.self.now c.set.new.self c.expand_all.new.self a.kept kept) c.expand_all.ensures.kept

pub returns-clause-has : goal.returns-clause-has
returns-clause-has c =
    let a = open_set (rows_of c.args.rows.now) c.args.opening c.args.self.now c.set.new.self c.requires.marking c.requires.edge c.requires.opens c.in_ok-set.ensures in
    on_ok_weaker c.expand_all.result (λ kept. has_kept c.set.new.self.labels.items c.expand_all.new.self.labels.items kept.labels c.args.opening.edge.to c.args.opening.edge.tick a.has) c.expand_all.ensures.kept
