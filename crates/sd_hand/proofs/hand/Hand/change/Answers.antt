use Rattle.std.proofs.Common.{◌≡◌, sym, ◌∙◌}
use Rattle.sd_record.specs.Records.{ThreadRecord}
use Rattle.sd_store.specs.Bodies.{changed}
use Rattle.sd_homes.specs.declared.list_id.ListId.TheVariants.{Runs}
use Rattle.sd_homes.specs.Bodies.{CanChangeThread}
use Rattle.sd_homes.specs.Homes.{with_body_of}
use Rattle.sd_hand.proofs.GuideLemmas.{stands_guessed}
use Rattle.sd_hand.proofs.RunLemmas.{run_apart, run_has, run_held, run_moved}
use Rattle.sd_hand.proofs.hand.Hand.change.Goals as goal

pub returns-then-change_running-clause-changed : goal.returns-then-change_running-clause-changed
returns-then-change_running-clause-changed c =
    let w = c.args.work.now in
    let t = c.args.t.0 in
    let old = c.args.self.now.slots in
    let new = c.change_running.new.self.slots in
    let made = c.change_running.ensures.changed in
    let P : ThreadRecord → ThreadRecord → Type 0 = λ r q. CanChangeThread w t c.args.change.now r.body → q ≡ with_body_of (changed w t c.args.change.now r.body) r in
    record {
      changed = record {
        at = Runs c.args.c;
        stands = stands_guessed t (Runs c.args.c) old (sym c.change_running.ensures.runs ∙ c.if-change_running.true);
        moved = run_moved t c.args.c (λ r. CanChangeThread w t c.args.change.now r.body) (λ r. with_body_of (changed w t c.args.change.now r.body) r) old new made;
      };
      homes = λ k. run_held t c.args.c P old new k made;
      apart = run_apart t c.args.c P old new made;
      threads = λ u. run_has t c.args.c P old new u made;
    }
