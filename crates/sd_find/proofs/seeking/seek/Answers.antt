use Rattle.std.proofs.Common.{refl, sym, ap, subst, List, ℕ, Ok, Err, ◌∙◌, inl, inr}
use Rattle.sd_text.specs.Lines.{EndsLine}
use Rattle.sd_answers.specs.declared.answers.Answer.TheVariants.{OutOfMemory}
use Rattle.sd_answers.specs.Answers.{unwritten_answer}
use Rattle.sd_answers.specs.StreamChanges.{change_of, Puts}
use Rattle.sd_set_inputs.specs.Sets.{sets}
use Rattle.sd_find.proofs.CauseLemmas.{seek_exit, unread, unsearched, unwritten_told}
use Rattle.sd_find.proofs.TextLemmas.{told-ends}
use Rattle.sd_answers.proofs.HandingLemmas.{leaves_refused, leaves_unwritten}
use Rattle.sd_find.proofs.HandingLemmas.{leaves_exit, leaves_told}
use Rattle.sd_find.proofs.seeking.seek.Goals as goal

pub returns-in_err-work-clause-caused : goal.returns-in_err-work-clause-caused
returns-in_err-work-clause-caused g c =
    let left = g.S.Source.remaining in
    let read = g.S.Source.fault_count in
    let i = c.args.input.now in
    let j = c.read_input.new.input in
    let input = change_of (left i) (left j) (read i) (read j) in
    let held = g.K.Sink.contents c.args.out.now in
    let written = g.K.Sink.fault_count c.args.out.now in
    let out = change_of held held written written in
    let answer = c.in_err-work.field-0.0 in
    seek_exit c.args.aim.now c.args.most input out c.from_residual.result answer c.from_residual.ensures.1
    (unread c.args.aim.now c.args.most input out answer c.in_err-work.ensures (record { bytes = refl; no_fault = refl }))

pub returns-in_err-told-clause-caused : goal.returns-in_err-told-clause-caused
returns-in_err-told-clause-caused g c =
    let left = g.S.Source.remaining in
    let read = g.S.Source.fault_count in
    let i = c.args.input.now in
    let j = c.read_input.new.input in
    let input = change_of (left i) (left j) (read i) (read j) in
    let held = g.K.Sink.contents c.args.out.now in
    let written = g.K.Sink.fault_count c.args.out.now in
    let out = change_of held held written written in
    seek_exit c.args.aim.now c.args.most input out c.from_residual-in_err-told.result OutOfMemory c.from_residual-in_err-told.ensures.1
    (unsearched c.args.aim.now c.args.most input out c.in_ok-work.work c.in_ok-work.ensures (record { bytes = refl; no_fault = refl }))

pub returns-in_err-print_said-clause-caused : goal.returns-in_err-print_said-clause-caused
returns-in_err-print_said-clause-caused g c =
    let left = g.S.Source.remaining in
    let read = g.S.Source.fault_count in
    let held = g.K.Sink.contents in
    let written = g.K.Sink.fault_count in
    let i = c.args.input.now in
    let j = c.read_input.new.input in
    let o = c.args.out.now in
    let p = c.print_said.new.out in
    let input = change_of (left i) (left j) (read i) (read j) in
    let out = change_of (held o) (held p) (written o) (written p) in
    let told = c.in_ok-told.told in
    let e = c.in_err-print_said.field-0.0 in
    seek_exit c.args.aim.now c.args.most input out c.from_residual-in_err-print_said.result (unwritten_answer e) c.from_residual-in_err-print_said.ensures.1
    (unwritten_told c.args.aim.now c.args.most input out told e (record { work = c.in_ok-work.work; workload = c.in_ok-work.ensures; is = c.in_ok-told.ensures.said })
    (λ empty. let both = c.in_err-print_said.ensures.silent (c.deref.ensures.value ∙ empty) in let ok = both.0 in cc)
    (subst (λ (t : List ℕ). Puts (held o) (held p) (written o) (written p) t (Err e)) c.deref.ensures.value c.in_err-print_said.ensures.puts)
    (λ is. c.in_err-print_said.ensures.no_memory (ap Err is)))

pub returns-clause-caused : goal.returns-clause-caused
returns-clause-caused g c =
    let held = g.K.Sink.contents in
    let written = g.K.Sink.fault_count in
    let o = c.args.out.now in
    let p = c.print_said.new.out in
    let puts = subst (λ (t : List ℕ). Puts (held o) (held p) (written o) (written p) t (Ok tt)) c.deref.ensures.value c.in_ok-print_said.ensures.puts in
    record {
      told = c.in_ok-told.told;
      of = record { work = c.in_ok-work.work; workload = c.in_ok-work.ensures; is = c.in_ok-told.ensures.said };
      verdict_is = refl;
      whole = puts.ok;
      silent = λ empty. (c.in_ok-print_said.ensures.silent (c.deref.ensures.value ∙ empty)).1;
      no_fault = puts.no_fault (λ is. cc);
    }

pub print_said-requires : goal.print_said-requires
print_said-requires g c =
    subst EndsLine (sym c.deref.ensures.value) (told-ends c.in_ok-work.work c.args.aim.now c.args.most c.in_ok-told.told c.in_ok-told.ensures.said)

pub returns-in_err-work-clause-leaves : goal.returns-in_err-work-clause-leaves
returns-in_err-work-clause-leaves g c =
    let left = g.S.Source.remaining in
    let read = g.S.Source.fault_count in
    let i = c.args.input.now in
    let j = c.read_input.new.input in
    let held = g.K.Sink.held_back c.args.out.now in
    let answer = c.in_err-work.field-0.0 in
    leaves_exit c.from_residual.result answer held held c.from_residual.ensures.1 (leaves_refused sets (change_of (left i) (left j) (read i) (read j)) answer held c.in_err-work.ensures)

pub returns-in_err-told-clause-leaves : goal.returns-in_err-told-clause-leaves
returns-in_err-told-clause-leaves g c =
    let held = g.K.Sink.held_back c.args.out.now in
    leaves_exit c.from_residual-in_err-told.result OutOfMemory held held c.from_residual-in_err-told.ensures.1 (inl refl)

pub returns-in_err-print_said-clause-leaves : goal.returns-in_err-print_said-clause-leaves
returns-in_err-print_said-clause-leaves g c =
    let held = g.K.Sink.held_back in
    let o = c.args.out.now in
    let p = c.print_said.new.out in
    let e = c.in_err-print_said.field-0.0 in
    leaves_exit c.from_residual-in_err-print_said.result (unwritten_answer e) (held o) (held p) c.from_residual-in_err-print_said.ensures.1
    (leaves_unwritten e (held o) (held p)
    (c.in_err-print_said.ensures.leaves (λ empty. let both = c.in_err-print_said.ensures.silent empty in let ok = both.0 in cc)))

pub returns-clause-leaves : goal.returns-clause-leaves
returns-clause-leaves g c =
    let held = g.K.Sink.held_back in
    let told = c.in_ok-told.told in
    leaves_told c.in_ok-work.work c.args.aim.now c.args.most told (held c.args.out.now) (held c.print_said.new.out) c.in_ok-told.ensures.said
    (λ some. c.in_ok-print_said.ensures.leaves (λ empty. some (sym c.deref.ensures.value ∙ empty))) (λ empty. c.in_ok-print_said.ensures.alone (c.deref.ensures.value ∙ empty))

pub returns-in_err-work-clause-watched : goal.returns-in_err-work-clause-watched
returns-in_err-work-clause-watched g c = inl refl

pub returns-in_err-told-clause-watched : goal.returns-in_err-told-clause-watched
returns-in_err-told-clause-watched g c = inr (c.in_ok-work.work, c.in_ok-work.ensures, c.tell.ensures.watched)

pub returns-in_err-print_said-clause-watched : goal.returns-in_err-print_said-clause-watched
returns-in_err-print_said-clause-watched g c = inr (c.in_ok-work.work, c.in_ok-work.ensures, c.tell.ensures.watched)

pub returns-clause-watched : goal.returns-clause-watched
returns-clause-watched g c = inr (c.in_ok-work.work, c.in_ok-work.ensures, c.tell.ensures.watched)
