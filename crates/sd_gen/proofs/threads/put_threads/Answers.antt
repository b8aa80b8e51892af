use Rattle.std.proofs.Common.{◌∙◌}
use Rattle.sd_gen.specs.Generated.{thread_line}
use Rattle.sd_gen.proofs.DrawnLemmas.{text_on, generator_on, text_over, generator_over}
use Rattle.sd_gen.proofs.threads.put_threads.Goals as goal

pub loop-i-preserved : goal.loop-i-preserved
loop-i-preserved c =
    let l = c.loop-i in
    let e = c.in_ok-put_drawn_thread.ensures in
    record {
      text = text_on thread_line l.i l.generator c.put_drawn_thread.new.generator l.out.items c.put_drawn_thread.new.out.items c.loop-i-test.true e.text e.generator ∙ l.invariant.text;
      generator = generator_on thread_line l.i l.generator c.put_drawn_thread.new.generator c.loop-i-test.true e.generator ∙ l.invariant.generator;
    }

pub returns-clause-text : goal.returns-clause-text
returns-clause-text c = text_over thread_line c.loop-i.i c.loop-i.generator c.loop-i.out.items _ c.loop-i-test.false c.loop-i.invariant.text

pub returns-clause-generator : goal.returns-clause-generator
returns-clause-generator c = generator_over thread_line c.loop-i.i c.loop-i.generator _ c.loop-i-test.false c.loop-i.invariant.generator
