use Rattle.std.proofs.Common.{◌≡◌, length, arith}
use Rattle.std.specs.Prelude.{vec_len}
use Rattle.sd_shared_table.proofs.LogLemmas.{empty_by, put_inside, puts_first, puts_last, puts_next}
use Rattle.sd_shared_table.proofs.history.put.Goals as goal

pub entries-init : goal.entries-init
entries-init c = puts_first c.args.log.items c.args.entries.now.items c.requires.inside

pub index_mut-requires : goal.index_mut-requires
index_mut-requires c =
    let inside = put_inside c.args.log.items c.args.entries.now.items c.entries.log.items c.pop.new.self.items c.entries.entries.items c.in-Some.entry c.entries.invariant c.in-Some.ensures.items in
    let many : vec_len c.entries.entries ≡ length c.entries.entries.items = grind arith in
    omega (arith, inside, many)

pub entries-preserved : goal.entries-preserved
entries-preserved c = puts_next c.args.log.items c.args.entries.now.items c.entries.log.items c.pop.new.self.items c.entries.entries.items c.in-Some.entry c.entries.invariant c.in-Some.ensures.items

pub returns-clause-many : goal.returns-clause-many
returns-clause-many c = c.entries.invariant.many

pub returns-clause-put : goal.returns-clause-put
returns-clause-put c =
    let many : vec_len c.entries.log ≡ length c.entries.log.items = grind arith in
    let none = c.in_default.ensures.cases.0 in
    puts_last c.args.log.items c.args.entries.now.items c.entries.log.items c.entries.entries.items c.entries.invariant (empty_by c.entries.log.items (omega (arith, many, none)))
