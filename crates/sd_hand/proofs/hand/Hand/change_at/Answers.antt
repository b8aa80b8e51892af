use Rattle.std.proofs.Common.{◌≡◌, sym, ◌∙◌}
use Rattle.sd_record.specs.Records.{ThreadRecord}
use Rattle.sd_store.specs.Bodies.{changed}
use Rattle.sd_homes.specs.Bodies.{CanChangeThread}
use Rattle.sd_homes.specs.Homes.{with_body_of}
use Rattle.sd_hand.proofs.RunLemmas.{run_apart, run_has, run_held, run_untouched}
use Rattle.sd_hand.proofs.hand.Hand.change_at.Goals as goal

pub returns-in-Runs-clause-held : goal.returns-in-Runs-clause-held
returns-in-Runs-clause-held c k =
    run_held c.args.t.0 c.in-Runs.c (λ (r : ThreadRecord) (q : ThreadRecord). CanChangeThread c.args.work.now c.args.t.0 c.args.change r.body → q ≡ with_body_of (changed c.args.work.now c.args.t.0 c.args.change r.body) r)
    c.args.self.now.slots c.change_running.new.self.slots k c.change_running.ensures.changed

pub returns-in-Runs-clause-apart : goal.returns-in-Runs-clause-apart
returns-in-Runs-clause-apart c =
    run_apart c.args.t.0 c.in-Runs.c (λ (r : ThreadRecord) (q : ThreadRecord). CanChangeThread c.args.work.now c.args.t.0 c.args.change r.body → q ≡ with_body_of (changed c.args.work.now c.args.t.0 c.args.change r.body) r)
    c.args.self.now.slots c.change_running.new.self.slots c.change_running.ensures.changed

pub returns-in-Runs-clause-has : goal.returns-in-Runs-clause-has
returns-in-Runs-clause-has c u =
    run_has c.args.t.0 c.in-Runs.c (λ (r : ThreadRecord) (q : ThreadRecord). CanChangeThread c.args.work.now c.args.t.0 c.args.change r.body → q ≡ with_body_of (changed c.args.work.now c.args.t.0 c.args.change r.body) r)
    c.args.self.now.slots c.change_running.new.self.slots u c.change_running.ensures.changed

pub returns-in-Runs-clause-untouched : goal.returns-in-Runs-clause-untouched
returns-in-Runs-clause-untouched c gone =
    run_untouched c.args.t.0 c.in-Runs.c (λ (r : ThreadRecord) (q : ThreadRecord). CanChangeThread c.args.work.now c.args.t.0 c.args.change r.body → q ≡ with_body_of (changed c.args.work.now c.args.t.0 c.args.change r.body) r)
    c.args.self.now.slots c.change_running.new.self.slots c.change_running.ensures.changed (sym c.change_running.ensures.runs ∙ gone)
