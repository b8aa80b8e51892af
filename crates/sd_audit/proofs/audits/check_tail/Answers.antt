use Rattle.std.proofs.Common.{◌≡◌, ℕ, List, ◌++◌, drop, sym, ap, subst, ◌∙◌}
use Rattle.std.proofs.lemmas.List.{take_rest}
use Rattle.sd_machine.specs.Texts.{entries_text, journal}
use Rattle.sd_machine.specs.Runs.{IsComplete}
use Rattle.sd_audit.specs.Audits.{tail_text}
use Rattle.sd_audit.proofs.audits.check_tail.Goals as goal

pub returns-clause-journal : goal.returns-clause-journal
unfolding journal
returns-clause-journal c =
    let w = c.args.work.now in
    let text = c.args.text.now in
    let r = c.requires.read in
    let written = c.in-Ok.ensures.ok r.entries r.taken in
    let tail : drop c.args.at.from text ≡ tail_text w r.entries c.args.s.now =
    sym (take_rest text c.args.at.from) ∙ c.in-None.ensures.none ∙ c.deref.ensures.value ∙ written
    ∙ ap (λ (l : List ℕ). l ++ tail_text w r.entries c.args.s.now) c.new-tail.ensures.items in
    record {
      entries = r.entries;
      run = r.told.run;
      spelled = r.told.spelled;
      complete = subst (λ x. IsComplete w x) r.ends c.requires.complete;
      whole = r.parts c.requires.accounts.within
          ∙ ap (λ (l : List ℕ). entries_text w r.entries ++ l) (tail ∙ ap (tail_text w r.entries) r.ends);
      many = r.many;
      ends = r.ends;
    }
