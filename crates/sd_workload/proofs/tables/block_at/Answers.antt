use Rattle.std.proofs.Common.{◌++◌, ◌∷◌, [], length, not, sym, ap, ◌∙◌, subst, append_assoc, arith, length-append}
use Rattle.std.specs.List.{list_all}
use Rattle.sd_dispadmin.specs.TableText.{word_lines}
use Rattle.sd_text.specs.Words.{words_of}
use Rattle.sd_lines.specs.Words.{Line, is_end}
use Rattle.sd_workload.specs.LineStarts.{lines_from}
use Rattle.sd_workload.proofs.LineLemmas.{IsClosed, no-lines, closed-nil, is_line-first, closed-push, word_lines-push, all-push}
use Rattle.sd_workload.proofs.tables.block_at.Goals as goal

pub lines-init : goal.lines-init
lines-init c =
    let none = no-lines c.new-text.result.items c.new-text.ensures.items in
    record {
      lines = ap (λ l. l ++ lines_from c.args.bytes.now c.args.at) (sym none);
      closes = ap (list_all (λ (line : Line). not (is_end line))) none;
      closed = subst IsClosed (sym c.new-text.ensures.items) closed-nil;
      number = omega (arith, ap length none);
      short = omega (arith, ap length c.new-text.ensures.items);
      within = c.requires.within;
      numbered = c.requires.number;
    }

pub lines-preserved : goal.lines-preserved
lines-preserved c =
    let line = c.in-Some.line.now in
    let alone = is_line-first _ _ _ c.in-Some.ensures.raw in
    let push = word_lines-push _ line _ c.lines.invariant.closed alone c.in_ok-put_line.ensures in
    record {
      lines = c.lines.invariant.lines ∙ ap (λ l. word_lines c.lines.text.items ++ l) c.in-Some.ensures.line
          ∙ sym (append_assoc (word_lines c.lines.text.items) (words_of line ∷ []) (lines_from c.args.bytes.now c.in-Some.below))
          ∙ ap (λ l. l ++ lines_from c.args.bytes.now c.in-Some.below) (sym push);
      closes = ap (list_all (λ (line : Line). not (is_end line))) push
          ∙ all-push (λ (line : Line). not (is_end line)) (word_lines c.lines.text.items) (words_of line) c.lines.invariant.closes (ap not (sym c.is_end_line.ensures ∙ c.if-is_end_line.false));
      closed = closed-push _ line _ c.lines.invariant.closed alone c.in_ok-put_line.ensures;
      number = omega (arith, c.in-Some.ensures.number, c.lines.invariant.number, ap length push, length-append (word_lines c.lines.text.items) (words_of line ∷ []));
      short = omega (arith, c.in-Some.ensures.length, c.lines.invariant.short, ap length c.in_ok-put_line.ensures, length-append c.lines.text.items (line ++ 10 ∷ []), length-append line (10 ∷ []));
      within = c.in-Some.ensures.below.within;
      numbered = c.in-Some.ensures.below.numbered;
    }
