use Rattle.std.proofs.Common.{ℕ, Bool, Some, Err, Result, map, refl, sym, ap, subst, ◌∙◌, inl}
use Rattle.sd_answers.specs.Handing.{IsHandedOn}
use Rattle.std.specs.Prelude.{string_bytes}
use Rattle.sd_answers.specs.declared.answers.Answer.{Answer}
use Rattle.sd_answers.specs.declared.answers.Answer.TheVariants.{Usage}
use Rattle.sd_answers.specs.StreamChanges.{change_of}
use Rattle.sd_search_answers.specs.declared.forms.Request.{Request}
use Rattle.sd_search_answers.specs.declared.verdicts.Verdict.{Verdict}
use Rattle.sd_search_answers.specs.Forms.{request_of}
use Rattle.sd_find.specs.Asked.{asked, is_quiet}
use Rattle.sd_find.specs.Progress.{IsWatchingUnless, Shows}
use Rattle.sd_find.specs.Seeking.{CausedByFindRequest}
use Rattle.sd_find.proofs.FindLemmas.{promises_of}
use Rattle.sd_find.proofs.HandingLemmas.{handed_at_end}
use Rattle.sd_find.proofs.ProgressLemmas.{still}
use Rattle.sd_find.proofs.top.find.Goals as goal

pub returns-in-Some-Search-clause-promises : goal.returns-in-Some-Search-clause-promises
returns-in-Some-Search-clause-promises g c =
    let left = g.S.Source.remaining in
    let read = g.S.Source.fault_count in
    let held = g.K.Sink.contents in
    let written = g.K.Sink.fault_count in
    let shown = g.E.Sink.contents in
    let failed = g.E.Sink.fault_count in
    let i = c.args.input.now in
    let j = c.seek_watched-ended.new.input in
    let o = c.args.out.now in
    let p = c.seek_watched-ended.new.out in
    let e = c.args.err.now in
    let f = c.report-in-Some-Search.new.err in
    let input = change_of (left i) (left j) (read i) (read j) in
    let out = change_of (held o) (held p) (written o) (written p) in
    promises_of (asked (map string_bytes c.args.arguments.now)) input out (change_of (shown e) (shown f) (failed e) (failed f)) c.seek_watched-ended.result c.report-in-Some-Search.result
    c.report-in-Some-Search.ensures.status
    (subst (λ k. CausedByFindRequest k input out c.seek_watched-ended.result) (sym (ap request_of (sym c.asked.ensures) ∙ sym c.request_of.ensures ∙ c.in-Some-Search.is ∙ ap (λ (r : Request). Some r) c.in-Some-Search.field-0-is)) c.seek_watched-ended.ensures.caused) c.report-in-Some-Search.ensures.told

pub returns-in-Some-Help-clause-promises : goal.returns-in-Some-Help-clause-promises
returns-in-Some-Help-clause-promises g c =
    let left = g.S.Source.remaining c.args.input.now in
    let read = g.S.Source.fault_count c.args.input.now in
    let held = g.K.Sink.contents in
    let written = g.K.Sink.fault_count in
    let shown = g.E.Sink.contents in
    let failed = g.E.Sink.fault_count in
    let o = c.args.out.now in
    let p = c.put_help.new.out in
    let e = c.args.err.now in
    let f = c.report.new.err in
    let input = change_of left left read read in
    let out = change_of (held o) (held p) (written o) (written p) in
    promises_of (asked (map string_bytes c.args.arguments.now)) input out (change_of (shown e) (shown f) (failed e) (failed f)) c.put_help.result c.report.result
    c.report.ensures.status
    (subst (λ k. CausedByFindRequest k input out c.put_help.result) (sym (ap request_of (sym c.asked.ensures) ∙ sym c.request_of.ensures ∙ c.in-Some-Help.is ∙ ap (λ (r : Request). Some r) c.in-Some-Help.field-0-is)) (record { bytes = refl; no_fault = refl }, c.put_help.ensures.caused)) c.report.ensures.told

pub returns-in-None-clause-promises : goal.returns-in-None-clause-promises
returns-in-None-clause-promises g c =
    let left = g.S.Source.remaining c.args.input.now in
    let read = g.S.Source.fault_count c.args.input.now in
    let held = g.K.Sink.contents c.args.out.now in
    let written = g.K.Sink.fault_count c.args.out.now in
    let shown = g.E.Sink.contents in
    let failed = g.E.Sink.fault_count in
    let e = c.args.err.now in
    let f = c.report-in-None.new.err in
    let input = change_of left left read read in
    let out = change_of held held written written in
    let usage : Result Verdict Answer = Err Usage in
    promises_of (asked (map string_bytes c.args.arguments.now)) input out (change_of (shown e) (shown f) (failed e) (failed f)) usage c.report-in-None.result c.report-in-None.ensures.status
    (subst (λ k. CausedByFindRequest k input out usage) (sym (ap request_of (sym c.asked.ensures) ∙ sym c.request_of.ensures ∙ c.in-None.is))
    (refl, record { bytes = refl; no_fault = refl }, record { bytes = refl; no_fault = refl })) c.report-in-None.ensures.told

pub returns-in-Some-Search-clause-handed_on : goal.returns-in-Some-Search-clause-handed_on
returns-in-Some-Search-clause-handed_on g c =
    let held = g.K.Sink.held_back in
    let o = c.args.out.now in
    let p = c.seek_watched-ended.new.out in
    subst (λ (n : ℕ). IsHandedOn n (held o) (held p)) (sym c.report-in-Some-Search.ensures.status) (handed_at_end c.seek_watched-ended.result (held o) (held p) c.seek_watched-ended.ensures.leaves)

pub returns-in-Some-Help-clause-handed_on : goal.returns-in-Some-Help-clause-handed_on
returns-in-Some-Help-clause-handed_on g c =
    let held = g.K.Sink.held_back in
    let o = c.args.out.now in
    let p = c.put_help.new.out in
    subst (λ (n : ℕ). IsHandedOn n (held o) (held p)) (sym c.report.ensures.status) (handed_at_end c.put_help.result (held o) (held p) c.put_help.ensures.leaves)

pub returns-in-None-clause-handed_on : goal.returns-in-None-clause-handed_on
returns-in-None-clause-handed_on g c =
    let held = g.K.Sink.held_back c.args.out.now in
    let usage : Result Verdict Answer = Err Usage in
    subst (λ (n : ℕ). IsHandedOn n held held) (sym c.report-in-None.ensures.status) (handed_at_end usage held held (inl refl))

pub returns-in-Some-Search-clause-progress : goal.returns-in-Some-Search-clause-progress
returns-in-Some-Search-clause-progress g c =
    let left = g.S.Source.remaining in
    let read = g.S.Source.fault_count in
    let i = c.args.input.now in
    let j = c.seek_watched-ended.new.input in
    let input = change_of (left i) (left j) (read i) (read j) in
    subst (λ (quiet : Bool). IsWatchingUnless quiet (Shows g.P.Sink.contents g.P.Sink.fault_count) input c.args.progress.now c.seek_watched-ended.new.watch) c.is_quiet-quiet.ensures c.seek_watched-ended.ensures.watched

pub returns-in-Some-Help-clause-progress : goal.returns-in-Some-Help-clause-progress
returns-in-Some-Help-clause-progress g c =
    let left = g.S.Source.remaining c.args.input.now in
    let read = g.S.Source.fault_count c.args.input.now in
    still (is_quiet (map string_bytes c.args.arguments.now)) (Shows g.P.Sink.contents g.P.Sink.fault_count) (change_of left left read read) c.args.progress.now

pub returns-in-None-clause-progress : goal.returns-in-None-clause-progress
returns-in-None-clause-progress g c =
    let left = g.S.Source.remaining c.args.input.now in
    let read = g.S.Source.fault_count c.args.input.now in
    still (is_quiet (map string_bytes c.args.arguments.now)) (Shows g.P.Sink.contents g.P.Sink.fault_count) (change_of left left read read) c.args.progress.now
