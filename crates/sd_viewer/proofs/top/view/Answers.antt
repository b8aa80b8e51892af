use Rattle.std.proofs.Common.{ℕ, Some, map, refl, sym, ap, subst, ◌∙◌, inl}
use Rattle.sd_answers.specs.Handing.{IsHandedOn}
use Rattle.std.specs.Prelude.{string_bytes}
use Rattle.sd_answers.specs.declared.answers.Answer.TheVariants.{Usage}
use Rattle.sd_answers.specs.StreamChanges.{change_of}
use Rattle.sd_viewer.specs.Viewing.{CausedByViewRequest, answer_line, viewed_answer, viewed_line}
use Rattle.sd_viewer.specs.declared.forms.Request.{Request}
use Rattle.sd_viewer.proofs.ViewLemmas.{helped-ends, promises_of, said-ends}
use Rattle.sd_answers.proofs.HandingLemmas.{handed_of}
use Rattle.sd_viewer.proofs.top.view.Goals as goal

pub returns-in-Some-Draw-clause-promises : goal.returns-in-Some-Draw-clause-promises
returns-in-Some-Draw-clause-promises g c =
    let left = g.S.Source.remaining in
    let read = g.S.Source.fault_count in
    let held = g.K.Sink.contents in
    let written = g.K.Sink.fault_count in
    let shown = g.E.Sink.contents in
    let failed = g.E.Sink.fault_count in
    let i = c.args.input.now in
    let j = c.view_input.new.input in
    let o = c.args.out.now in
    let p = c.view_input.new.out in
    let e = c.args.err.now in
    let f = c.tell-in-Some-Draw.new.err in
    let input = change_of (left i) (left j) (read i) (read j) in
    let out = change_of (held o) (held p) (written o) (written p) in
    let answer = viewed_answer c.view_input.result in
    let line = viewed_line c.view_input.result in
    promises_of (map string_bytes c.args.arguments.now) input out (change_of (shown e) (shown f) (failed e) (failed f)) answer line c.tell-in-Some-Draw.result c.tell-in-Some-Draw.ensures.status
    (subst (λ k. CausedByViewRequest k input out answer line) (sym (sym c.request_of.ensures ∙ c.in-Some-Draw.is ∙ ap (λ (r : Request). Some r) c.in-Some-Draw.field-0-is)) c.view_input.ensures.caused) c.tell-in-Some-Draw.ensures.told

pub returns-in-None-clause-promises : goal.returns-in-None-clause-promises
returns-in-None-clause-promises g c =
    let left = g.S.Source.remaining c.args.input.now in
    let read = g.S.Source.fault_count c.args.input.now in
    let held = g.K.Sink.contents c.args.out.now in
    let written = g.K.Sink.fault_count c.args.out.now in
    let shown = g.E.Sink.contents in
    let failed = g.E.Sink.fault_count in
    let e = c.args.err.now in
    let f = c.tell-in-None.new.err in
    let input = change_of left left read read in
    let out = change_of held held written written in
    promises_of (map string_bytes c.args.arguments.now) input out (change_of (shown e) (shown f) (failed e) (failed f)) Usage (answer_line Usage) c.tell-in-None.result c.tell-in-None.ensures.status
    (subst (λ k. CausedByViewRequest k input out Usage (answer_line Usage)) (sym (sym c.request_of.ensures ∙ c.in-None.is))
    (refl, refl, record { bytes = refl; no_fault = refl }, record { bytes = refl; no_fault = refl })) c.tell-in-None.ensures.told

pub tell-requires : goal.tell-requires
tell-requires g c = helped-ends c.put_help.result c.put_help.ensures.line

pub tell-requires-in-Some-Draw : goal.tell-requires-in-Some-Draw
tell-requires-in-Some-Draw g c =
    let left = g.S.Source.remaining in
    let read = g.S.Source.fault_count in
    let held = g.K.Sink.contents in
    let written = g.K.Sink.fault_count in
    let i = c.args.input.now in
    let j = c.view_input.new.input in
    let o = c.args.out.now in
    let p = c.view_input.new.out in
    said-ends c.in-Some-Draw.drawing (change_of (left i) (left j) (read i) (read j)) (change_of (held o) (held p) (written o) (written p)) c.view_input.result c.view_input.ensures.caused

pub returns-in-Some-Draw-clause-handed_on : goal.returns-in-Some-Draw-clause-handed_on
returns-in-Some-Draw-clause-handed_on g c =
    let held = g.K.Sink.held_back in
    let o = c.args.out.now in
    let p = c.view_input.new.out in
    subst (λ (n : ℕ). IsHandedOn n (held o) (held p)) (sym c.tell-in-Some-Draw.ensures.status) (handed_of (viewed_answer c.view_input.result) (held o) (held p) c.view_input.ensures.leaves)

pub returns-in-Some-Help-clause-handed_on : goal.returns-in-Some-Help-clause-handed_on
returns-in-Some-Help-clause-handed_on g c =
    let held = g.K.Sink.held_back in
    let o = c.args.out.now in
    let p = c.put_help.new.out in
    subst (λ (n : ℕ). IsHandedOn n (held o) (held p)) (sym c.tell.ensures.status) (handed_of (viewed_answer c.put_help.result) (held o) (held p) c.put_help.ensures.leaves)

pub returns-in-None-clause-handed_on : goal.returns-in-None-clause-handed_on
returns-in-None-clause-handed_on g c =
    let held = g.K.Sink.held_back c.args.out.now in
    subst (λ (n : ℕ). IsHandedOn n held held) (sym c.tell-in-None.ensures.status) (handed_of Usage held held (inl refl))
