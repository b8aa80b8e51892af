use Rattle.std.proofs.Common.{sym, ◌∙◌}
use Rattle.sd_hand.proofs.GuideLemmas.{stands_guessed}
use Rattle.sd_hand.proofs.hand.Hand.change_found.Goals as goal

pub returns-then-change_at-clause-changed : goal.returns-then-change_at-clause-changed
returns-then-change_at-clause-changed c =
    let made = c.change_at.ensures in
    record {
      changed = record {
        at = c.in-Some.at;
        stands = stands_guessed c.args.t.0 c.in-Some.at c.args.self.now.slots (sym made.stood ∙ c.if-change_at.true);
        moved = made.moved;
      };
      homes = made.held;
      apart = made.apart;
      threads = made.has;
    }
