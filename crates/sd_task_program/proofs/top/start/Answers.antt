use Rattle.std.proofs.Common.{ℕ, List, refl, sym, subst, inl}
use Rattle.std.specs.declared.io.ErrorKind.{ErrorKind}
use Rattle.std.specs.declared.io.ErrorKind.TheVariants as kind
use Rattle.sd_answers.specs.declared.answers.Answer.{Answer}
use Rattle.sd_answers.specs.Answers.{arguments_answer, status_of}
use Rattle.sd_answers.specs.Handing.{IsHandedOn, LeavesHeldBy}
use Rattle.sd_answers.proofs.HandingLemmas.{handed_of}
use Rattle.sd_task_program.proofs.top.start.Goals as goal

-- nothing was written where the arguments were not read
unread : (k : ErrorKind) (held : List ℕ) → LeavesHeldBy (arguments_answer k) held held
unread kind.OutOfMemory held = inl refl
unread _ held = inl refl

pub returns-in-Err-clause-handed_on : goal.returns-in-Err-clause-handed_on
returns-in-Err-clause-handed_on g c =
    let held = g.K.Sink.held_back c.args.out.now in
    subst (λ (n : ℕ). IsHandedOn n held held) (sym c.tell.ensures.status)
    (subst (λ (a : Answer). IsHandedOn (status_of a) held held) (sym c.of_unread_arguments.ensures) (handed_of (arguments_answer _) held held (unread _ held)))
