use Rattle.std.proofs.Common.{◌≡◌, ap, ◌∙◌}
use Rattle.sd_record.specs.declared.record.Kept.{Kept}
use Rattle.sd_state.specs.States.{thread_of}
use Rattle.sd_record.specs.Records.{ThreadRecord}
use Rattle.sd_homes.specs.Standing.{record_of}
use Rattle.sd_hand.proofs.TellLemmas.{found_record}
use Rattle.sd_hand.proofs.look.ActingLook.body.Goals as goal

pub returns-in-Ok-clause-value : goal.returns-in-Ok-clause-value
returns-in-Ok-clause-value c n s sh =
    let here = c.in-Ok.ensures in
    let found = here.2 ∙ found_record c.args.self.now n s sh c.args.t.0 here.0 here.1 in
    let same : c.in-Ok.thread.now ≡ record_of c.args.t.0 (thread_of s c.args.t.0) = cc in
    ap (λ (k : Kept). k.body) c.deref.ensures ∙ ap (λ (r : ThreadRecord). r.body) (c.thread.view_is ∙ same)
