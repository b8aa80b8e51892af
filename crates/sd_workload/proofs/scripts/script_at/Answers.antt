use Rattle.std.proofs.Common.{◌≤◌, List, [], ◌∷◌, length, sym, ap, ◌∙◌, subst, arith, rules}
use Rattle.sd_types.specs.declared.scripts.Op.{Op}
use Rattle.sd_types.specs.Scripts.{EachOpFits}
use Rattle.sd_text.specs.Words.{words_of}
use Rattle.sd_declare.specs.Kept.{declarations}
use Rattle.sd_lines.specs.Words.{Line}
use Rattle.sd_lines.specs.Operations.{operation_of}
use Rattle.sd_workload.specs.LineStarts.{IsFault, fault_of, judged_from, lines_from}
use Rattle.sd_workload.specs.Texts.{InScript, operation_cause}
use Rattle.sd_workload.proofs.JudgedLemmas.{fault-along, refusal-at}
use Rattle.sd_workload.proofs.FitsLemmas.{line-more}
use Rattle.sd_workload.proofs.ScriptLemmas.{script-blank, script-on, script-stop, script-close, script-held, script-open}
use Rattle.sd_workload.proofs.scripts.script_at.Goals as goal

pub lines-preserved-in_default-first_word : goal.lines-preserved-in_default-first_word
lines-preserved-in_default-first_word c = record {
  held = c.lines.invariant.held;
  fits = c.lines.invariant.fits;
  short = c.lines.invariant.short;
  after = omega (arith, c.in-Some.ensures.below.below, c.lines.invariant.after);
  numbered = c.in-Some.ensures.below.numbered;
  rest = c.lines.invariant.rest ∙ script-blank _ _ _ _ _ _ _ _ c.in-Some.ensures.line c.in_default-first_word.ensures.none c.in-Some.ensures.number;
}

pub lines-preserved : goal.lines-preserved
lines-preserved c =
    let words : Line = c.in-Some-first_word.word.now ∷ words_of c.in-Some-first_word.rest.now in
    let is = c.in-Some.ensures.line ∙ ap (λ (l : Line). l ∷ lines_from c.args.bytes.now c.in-Some.below) c.in-Some-first_word.ensures.some in
    let more = line-more (declarations c.args.d.now) c.lines.so_far.ops.items words c.in-Ok.ensures.ok c.lines.invariant.fits c.lines.invariant.short in
    record {
      held = c.in-Ok.ensures.held;
      fits = subst EachOpFits (sym c.in-Ok.ensures.ops) more.0;
      short = subst (λ (l : List Op). length l ≤ 256) (sym c.in-Ok.ensures.ops) more.1;
      after = omega (arith, c.in-Some.ensures.below.below, c.lines.invariant.after);
      numbered = c.in-Some.ensures.below.numbered;
      rest = c.lines.invariant.rest
          ∙ script-on _ _ _ _ _ _ _ _ words is (sym c.is_end.ensures ∙ c.if-is_end.false) c.in-Ok.ensures.ok c.in-Some.ensures.number c.in-Ok.ensures.ops;
    }

pub returns-in_err-script-clause-err : goal.returns-in_err-script-clause-err
returns-in_err-script-clause-err c =
    let words : Line = c.in-Some-first_word.word.now ∷ words_of c.in-Some-first_word.rest.now in
    let is = c.in-Some.ensures.line ∙ ap (λ (l : Line). l ∷ lines_from c.args.bytes.now c.in-Some.below) c.in-Some-first_word.ensures.some in
    let fault = fault-along _ _ _ c.lines.invariant.rest
    (script-held _ _ _ _ _ _ words _ is (sym c.is_end.ensures ∙ c.if-is_end.true) c.in_err-script.ensures.err) in
    search rules

pub returns-then-is_end-clause-ok : goal.returns-then-is_end-clause-ok
returns-then-is_end-clause-ok c =
    let words : Line = c.in-Some-first_word.word.now ∷ words_of c.in-Some-first_word.rest.now in
    let is = c.in-Some.ensures.line ∙ ap (λ (l : Line). l ∷ lines_from c.args.bytes.now c.in-Some.below) c.in-Some-first_word.ensures.some in
    c.lines.invariant.rest
    ∙ script-close _ _ _ _ _ _ _ _ words is (sym c.is_end.ensures ∙ c.if-is_end.true) c.in_ok-script.ensures.ok c.in-Some.ensures.number c.in_ok-script.ensures.ops

pub returns-in-Err-clause-err : goal.returns-in-Err-clause-err
returns-in-Err-clause-err c =
    let d = declarations c.args.d.now in
    let n = c.lines.here.number in
    let ops = c.lines.so_far.ops.items in
    let words : Line = c.in-Some-first_word.word.now ∷ words_of c.in-Some-first_word.rest.now in
    let is = c.in-Some.ensures.line ∙ ap (λ (l : Line). l ∷ lines_from c.args.bytes.now c.in-Some.below) c.in-Some-first_word.ensures.some in
    let fault = refusal-at n (operation_cause d ops (operation_of words)) c.in-Err.refusal c.in-Err.ensures.err in
    let stop = script-stop n d c.args.thread ops _ _ words (fault_of n c.in-Err.refusal) is (sym c.is_end.ensures ∙ c.if-is_end.false) fault in
    let here = fault-along _ _ (fault_of n c.in-Err.refusal) c.lines.invariant.rest stop in
    subst (IsFault (judged_from c.args.bytes.now c.args.at d (InScript c.args.thread []))) (sym c.fault_at.ensures) here

pub returns-clause-err : goal.returns-clause-err
returns-clause-err c = c.lines.invariant.rest ∙ script-open _ _ _ _ _ c.in_default.ensures.none
