use Rattle.sd_shared_table.specs.Seats.{work_of}
use Rattle.sd_threads.proofs.AsWorld.{quiet_as}
use Rattle.sd_threads.proofs.world.TableWorldWorld.commit.Goals as goal

pub returns-clause-commits : goal.returns-clause-commits
returns-clause-commits c =
    let x = c.args.self.now in
    let told = c.commit.ensures.commits in
    let made = told.made in
    record {
      run = told.run;
      made = record {
        begins = made.begins;
        still = made.still;
        number = made.number;
        step = made.step;
        log = made.log;
        after = made.after;
        after_still = made.after_still;
      };
      quiet = quiet_as (work_of x.shared.now) x.seat c.commit.new.seat x.stops told.quiet;
      table = told.table;
      work = told.work;
      alone = told.alone;
      all = told.all;
      cpu = told.cpu;
      held = told.held;
      unhinted = told.unhinted;
    }
