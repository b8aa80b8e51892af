use Rattle.std.proofs.Common.{◌≡◌, ℕ, ◌+◌, ◌-◌, List, [], ◌∷◌, map, take, drop, Option, Some, None, refl, sym, ap, ◌∙◌, arith}
use Rattle.sd_basics.proofs.Lists.{none_of, some_of}
use Rattle.sd_text.specs.Words.{words_of}
use Rattle.sd_dispadmin.specs.TableText.{word_lines}
use Rattle.sd_lines.specs.Words.{Line}
use Rattle.sd_declare.specs.declared.causes.WorkCause.{WorkCause}
use Rattle.sd_tasks.specs.Blocks.{Seen}
use Rattle.sd_tasks.specs.Kept.{seen_kept}
use Rattle.sd_tasks.specs.Readings.{Reading, read}
use Rattle.sd_tasks.specs.Steps.{cause_of, seen_after}
use Rattle.sd_tasks.proofs.ReadLemmas.{read-on, read-stopped, read-ended}
use Rattle.sd_tasks.proofs.read.read_set.Goals as goal

pub lines-preserved : goal.lines-preserved
lines-preserved c =
    let n = c.lines.number in
    let s = seen_kept c.lines.seen in
    let line = words_of (take (c.in-Some.end - c.in-Some.start) (drop c.in-Some.start c.args.bytes.now)) in
    let rest = word_lines (drop (c.in-Some.end + 1) c.args.bytes.now) in
    let here : word_lines (drop c.lines.from c.args.bytes.now) ≡ line ∷ rest = ap (map words_of) c.in-Some.ensures.line in
    let free : cause_of s n line ≡ None = sym c.in_ok-cause.ensures.cause ∙ none_of c.in_ok-cause.cause (sym c.is_some.ensures ∙ c.if-is_some.false) in
    record {
      reading = ap (λ (t : Seen). read (n + 1) t rest) c.in_ok-cause.ensures.new ∙ sym (read-on n s line rest free) ∙ ap (read n s) (sym here) ∙ c.lines.invariant.reading;
      inside = omega (arith, c.in-Some.ensures.within.1);
      numbered = omega (arith, c.in-Some.ensures.within.0, c.lines.invariant.numbered);
    }

pub returns-then-is_some : goal.returns-then-is_some
returns-then-is_some c =
    let n = c.lines.number in
    let s = seen_kept c.lines.seen in
    let line = words_of (take (c.in-Some.end - c.in-Some.start) (drop c.in-Some.start c.args.bytes.now)) in
    let rest = word_lines (drop (c.in-Some.end + 1) c.args.bytes.now) in
    let here : word_lines (drop c.lines.from c.args.bytes.now) ≡ line ∷ rest = ap (map words_of) c.in-Some.ensures.line in
    let found = some_of c.in_ok-cause.cause (sym c.is_some.ensures ∙ c.if-is_some.true) in
    let stops : cause_of s n line ≡ Some found.0 = sym c.in_ok-cause.ensures.cause ∙ found.1 in
    ap (λ (t : Seen). let r : Reading = record { seen = t; number = n; cause = c.in_ok-cause.cause } in r) c.in_ok-cause.ensures.new
    ∙ ap (λ (k : Option WorkCause). let r : Reading = record { seen = seen_after s n line; number = n; cause = k } in r) found.1
    ∙ sym (read-stopped n s line rest found.0 stops) ∙ ap (read n s) (sym here) ∙ c.lines.invariant.reading

pub returns : goal.returns
returns c =
    let n = c.lines.number in
    let s = seen_kept c.lines.seen in
    let here : word_lines (drop c.lines.from c.args.bytes.now) ≡ [] = ap (map words_of) c.in_default.ensures.none in
    ap (λ (k : Option WorkCause). let r : Reading = record { seen = s; number = n; cause = k } in r) c.cause_at_end-cause.ensures
    ∙ sym (read-ended n s) ∙ ap (read n s) (sym here) ∙ c.lines.invariant.reading
