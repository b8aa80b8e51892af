use Rattle.std.proofs.Common.{◌≡◌, length, sym, ◌∙◌, arith}
use Rattle.std.specs.Prelude.{vec_len}
use Rattle.std.proofs.lemmas.Bool.Decides.{nat_tests}
use Rattle.sd_shared_table.proofs.LogLemmas.{empty_by}
use Rattle.sd_shared_table_tests.proofs.SeatLemmas as S
use Rattle.sd_shared_table_tests.proofs.tables.two_of.Goals as goal

pub returns : goal.returns
returns c =
    let none = c.pop-2.new.self in
    let many : vec_len none ≡ length none.items = grind arith in
    let nothing : vec_len none ≡ 0 = grind (arith, nat_tests) in
    S.popped c.args.seats.items c.pop.new.self.items none.items c.in-Some-pop.first c.in-Some.second c.in-Some.ensures.items c.in-Some-pop.ensures.items (empty_by none.items (sym many ∙ nothing))
