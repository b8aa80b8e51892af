use Rattle.std.proofs.Common.{◌≤◌, List, ℕ, length, Option, sym, ap, subst, ◌∙◌}
use Rattle.sd_text.specs.Lines.{IsOneLine}
use Rattle.sd_text.specs.Numbers.{digits_if}
use Rattle.sd_answers.specs.StreamChanges.{Puts}
use Rattle.sd_answers.proofs.RefusalLemmas.{cause-short, refusal-one_line, refusal-same, refusal-length}
use Rattle.sd_answers.proofs.refusals.put_refusal.Goals as goal

pub put_parts-requires-clause-one_line : goal.put_parts-requires-clause-one_line
put_parts-requires-clause-one_line g c =
    let same = refusal-same c.args.line c.args.cause c.as_bytes.result.now c.cause_words.result.now c.digits_if.result.now
    (c.as_bytes.ensures.value ∙ c.format.ensures.text) c.cause_words.ensures
    (c.digits_if.ensures.text ∙ ap (λ (n : Option ℕ). digits_if n) c.cause_number.ensures) in
    subst IsOneLine (sym same) (refusal-one_line c.args.line c.args.cause)

pub put_parts-requires-clause-short : goal.put_parts-requires-clause-short
put_parts-requires-clause-short g c =
    refusal-length c.as_bytes.result.now c.cause_words.result.now c.digits_if.result.now
    (subst (λ (x : List ℕ). length x ≤ 40) (sym c.as_bytes.ensures.value) c.format.ensures.short)
    (subst (λ (x : List ℕ). length x ≤ 24) (sym c.cause_words.ensures) (cause-short c.args.cause).1)
    c.digits_if.ensures.short

pub returns-clause-puts : goal.returns-clause-puts
returns-clause-puts g c =
    let held = g.K.Sink.contents in
    let faults = g.K.Sink.fault_count in
    let o = c.args.out.now in
    let p = c.put_parts.new.out in
    let same = refusal-same c.args.line c.args.cause c.as_bytes.result.now c.cause_words.result.now c.digits_if.result.now
    (c.as_bytes.ensures.value ∙ c.format.ensures.text) c.cause_words.ensures
    (c.digits_if.ensures.text ∙ ap (λ (n : Option ℕ). digits_if n) c.cause_number.ensures) in
    subst (λ (xs : List ℕ). Puts (held o) (held p) (faults o) (faults p) xs c.put_parts.result) same c.put_parts.ensures.puts
