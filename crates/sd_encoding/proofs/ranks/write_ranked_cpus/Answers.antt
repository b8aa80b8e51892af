use Rattle.std.proofs.Common.{get_or, length}
use Rattle.sd_state.specs.States.{no_cpu}
use Rattle.sd_state.specs.declared.states.CpuState.{CpuState}
use Rattle.sd_encoding.specs.Fits.{FitsCpu}
use Rattle.sd_encoding.specs.Numbers.{cpu as cpu_numbers}
use Rattle.sd_encoding.specs.Ranks.{ranked_cpu}
use Rattle.sd_encoding.proofs.ItemLemmas.{written_more, fits_more}
use Rattle.sd_encoding.proofs.RankLemmas.{item_or, written_by, fit_by}
use Rattle.sd_encoding.proofs.ranks.write_ranked_cpus.Goals as goal

pub loop-cpu-preserved : goal.loop-cpu-preserved
loop-cpu-preserved c =
    let i = c.loop-cpu.cpu-index in
    let cpus = c.args.cpus.now in
    let here = get_or cpus i no_cpu in
    let is = item_or cpus i no_cpu c.loop-cpu-test.true in
    record {
      written = written_more (λ (x : CpuState). cpu_numbers (ranked_cpu c.args.state.now x)) c.args.into.now c.loop-cpu.into c.write_ranked_cpu.new.into (length cpus) cpus i here c.loop-cpu-test.true is c.loop-cpu.invariant.written c.in_ok-write_ranked_cpu.ensures.written;
      fits = fits_more (λ (x : CpuState). FitsCpu (ranked_cpu c.args.state.now x)) cpus i here c.loop-cpu-test.true is c.loop-cpu.invariant.fits c.in_ok-write_ranked_cpu.ensures.fits;
    }

pub returns-clause-written : goal.returns-clause-written
returns-clause-written c = written_by cpu_numbers (ranked_cpu c.args.state.now) c.args.into.now c.loop-cpu.into c.args.cpus.now c.loop-cpu.cpu-index c.loop-cpu-test.false c.loop-cpu.invariant.written

pub returns-clause-fits : goal.returns-clause-fits
returns-clause-fits c = fit_by FitsCpu (ranked_cpu c.args.state.now) c.args.cpus.now c.loop-cpu.cpu-index c.loop-cpu-test.false c.loop-cpu.invariant.fits
