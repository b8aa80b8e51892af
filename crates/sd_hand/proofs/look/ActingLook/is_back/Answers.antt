use Rattle.std.proofs.Common.{sym, ap, ◌∙◌}
use Rattle.sd_state.specs.States.{cpu_of, thread_of}
use Rattle.sd_hand.specs.Keys.{is_back_at, key_or_zero}
use Rattle.sd_hand.proofs.TellLemmas.{back_by, found_at, found_record}
use Rattle.sd_hand.proofs.look.ActingLook.is_back.Goals as goal

pub returns-in-Ok-clause-value : goal.returns-in-Ok-clause-value
returns-in-Ok-clause-value c n s sh =
    let x = thread_of s c.args.o.0 in
    let at = found_at c.args.self.now n s sh c.args.o.0 c.in-Ok.at c.in-Ok.ensures in
    let key = ap key_or_zero (c.find.ensures ∙ found_record c.args.self.now n s sh c.args.o.0 c.in-Ok.at c.in-Ok.ensures) in
    let duty = sh.duty ∙ ap (λ d. (cpu_of s d).duty) (sym c.if-c-self.false) in
    c.is_back_at.ensures
    ∙ (λ i. is_back_at (duty i) c.args.o (sym at.list i) (key i))
    ∙ back_by (cpu_of s c.args.c.0).duty c.args.o x.body.last x.place
