use Rattle.std.proofs.Common.{length}
use Rattle.sd_state.specs.declared.states.ThreadState.{ThreadState}
use Rattle.sd_encoding.specs.Fits.{FitsThread}
use Rattle.sd_encoding.specs.Numbers.{thread as thread_numbers}
use Rattle.sd_encoding.specs.Ranks.{ranked_thread}
use Rattle.sd_encoding.proofs.ItemLemmas.{written_more, fits_more}
use Rattle.sd_encoding.proofs.RankLemmas.{written_by, fit_by}
use Rattle.sd_encoding.proofs.ranks.write_ranked_threads.Goals as goal

pub loop-thread-preserved : goal.loop-thread-preserved
loop-thread-preserved c = record {
  written = written_more (λ (x : ThreadState). thread_numbers (ranked_thread c.args.state.now x)) c.args.into.now c.loop-thread.into c.write_ranked_thread.new.into (length c.args.threads.now) c.args.threads.now c.loop-thread.thread-index c.thread-item.result c.loop-thread-test.true c.thread-item.is c.loop-thread.invariant.written c.in_ok-write_ranked_thread.ensures.written;
  fits = fits_more (λ (x : ThreadState). FitsThread (ranked_thread c.args.state.now x)) c.args.threads.now c.loop-thread.thread-index c.thread-item.result c.loop-thread-test.true c.thread-item.is c.loop-thread.invariant.fits c.in_ok-write_ranked_thread.ensures.fits;
}

pub returns-clause-written : goal.returns-clause-written
returns-clause-written c = written_by thread_numbers (ranked_thread c.args.state.now) c.args.into.now c.loop-thread.into c.args.threads.now c.loop-thread.thread-index c.loop-thread-test.false c.loop-thread.invariant.written

pub returns-clause-fits : goal.returns-clause-fits
returns-clause-fits c = fit_by FitsThread (ranked_thread c.args.state.now) c.args.threads.now c.loop-thread.thread-index c.loop-thread-test.false c.loop-thread.invariant.fits
