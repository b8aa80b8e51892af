use Rattle.std.proofs.Common.{sym, ◌∙◌}
use Rattle.sd_hand.proofs.GuideLemmas.{stands_guessed}
use Rattle.sd_hand.proofs.hand.Hand.relocate_found.Goals as goal

pub returns-then-relocate_within-clause-gone : goal.returns-then-relocate_within-clause-gone
returns-then-relocate_within-clause-gone c =
    let went = c.relocate_within.ensures in
    record {
      stands = stands_guessed c.args.t.0 c.in-Some.at c.args.self.now.slots (sym went.stood ∙ c.if-relocate_within.true);
      moved = went.moved;
      homes = went.homes;
      apart = went.apart;
      threads = went.threads;
    }
