use Rattle.std.proofs.Common.{◌≡◌, None, map, ◌++◌, ap, subst, ◌∙◌}
use Rattle.std.specs.Prelude.{IsSome}
use Rattle.sd_machine.specs.Events.{next}
use Rattle.sd_machine.specs.Runs.{serial_hints}
use Rattle.sd_replay.proofs.EnteringLemmas.{enters_some, enters_none}
use Rattle.sd_audit.specs.Audits.{entry_line}
use Rattle.sd_audit.proofs.audits.check_rest.Goals as goal

pub check_end-requires-clause-complete : goal.check_end-requires-clause-complete
check_end-requires-clause-complete c = λ d hints. enters_none c.args.work.now c.args.s.now d hints (c.in-None.ensures.none d)

pub returns-in-Some-clause-fault : goal.returns-in-Some-clause-fault
returns-in-Some-clause-fault c =
    let w = c.args.work.now in
    let s = c.args.s.now in
    let r = c.requires.read in
    record {
      entries = r.entries;
      rest = c.requires.accounts.rest;
      told = record { run = r.told.run; spelled = r.told.spelled; lines = r.told.lines ∙ ap (λ ls. map (entry_line w) r.entries ++ ls) c.requires.accounts.lines };
      hints = serial_hints w s c.in-Some.cpu;
      has = subst (λ x. IsSome (next w x c.in-Some.cpu (serial_hints w s c.in-Some.cpu))) r.ends (enters_some w s c.in-Some.cpu c.in-Some.ensures.some);
      least = λ d below h. subst (λ x. next w x d h ≡ None) r.ends (enters_none w s d h (c.in-Some.ensures.least d below));
    }
