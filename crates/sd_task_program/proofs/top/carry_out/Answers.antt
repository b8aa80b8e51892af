use Rattle.std.proofs.Common.{Some, refl, sym, ap, subst, ◌∙◌}
use Rattle.sd_answers.specs.StreamChanges.{change_of}
use Rattle.sd_answers.specs.declared.answers.Answer.{Answer}
use Rattle.sd_answers.specs.declared.answers.Answer.TheVariants.{Usage}
use Rattle.sd_task_program.specs.declared.forms.Request.{Request}
use Rattle.sd_task_program.specs.declared.forms.Request.TheVariants.{Expand}
use Rattle.sd_task_program.specs.Promises.{CausedByRequest}
use Rattle.sd_task_program.proofs.top.carry_out.Goals as goal

pub returns-in-None-clause-caused : goal.returns-in-None-clause-caused
returns-in-None-clause-caused g c =
    let left = g.S.Source.remaining c.args.input.now in
    let faults = g.S.Source.fault_count c.args.input.now in
    let held = g.K.Sink.contents c.args.out.now in
    let written = g.K.Sink.fault_count c.args.out.now in
    let input = change_of left left faults faults in
    let out = change_of held held written written in
    let usage : Answer = Usage in
    subst (λ k. CausedByRequest k input out usage) (sym (sym c.request_of.ensures ∙ c.in-None.is)) (refl, record { bytes = refl; no_fault = refl }, record { bytes = refl; no_fault = refl })

pub returns-in-Some-Help-clause-caused : goal.returns-in-Some-Help-clause-caused
returns-in-Some-Help-clause-caused g c =
    let left = g.S.Source.remaining c.args.input.now in
    let faults = g.S.Source.fault_count c.args.input.now in
    let held = g.K.Sink.contents in
    let written = g.K.Sink.fault_count in
    let o = c.args.out.now in
    let p = c.put_help.new.out in
    let input = change_of left left faults faults in
    let out = change_of (held o) (held p) (written o) (written p) in
    subst (λ k. CausedByRequest k input out c.put_help.result)
    (sym (sym c.request_of.ensures ∙ c.in-Some-Help.is ∙ ap (λ (r : Request). Some r) c.in-Some-Help.field-0-is))
    (record { bytes = refl; no_fault = refl }, c.put_help.ensures.caused)

pub returns-in-Some-Expand-clause-caused : goal.returns-in-Some-Expand-clause-caused
returns-in-Some-Expand-clause-caused g c =
    let left = g.S.Source.remaining in
    let faults = g.S.Source.fault_count in
    let held = g.K.Sink.contents in
    let written = g.K.Sink.fault_count in
    let i = c.args.input.now in
    let j = c.expand_input.new.input in
    let o = c.args.out.now in
    let p = c.expand_input.new.out in
    let input = change_of (left i) (left j) (faults i) (faults j) in
    let out = change_of (held o) (held p) (written o) (written p) in
    subst (λ k. CausedByRequest k input out c.of.result)
    (sym (sym c.request_of.ensures ∙ c.in-Some-Expand.is ∙ ap (λ (r : Request). Some r) c.in-Some-Expand.field-0-is))
    (subst (λ (a : Answer). CausedByRequest (Some (Expand c.in-Some-Expand.is_mapped)) input out a) (sym c.of.ensures) c.expand_input.ensures.caused)
