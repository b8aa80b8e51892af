use Rattle.std.proofs.Common.{◌≡◌, ◌≤◌, List, ℕ, [], ◌++◌, drop, Ok, Err, refl, sym, ap, subst, ◌∙◌, arith}
use Rattle.std.specs.Prelude.{slice_range}
use Rattle.std.proofs.lemmas.List.{append_assoc, append-nil, drop_all}
use Rattle.std.proofs.lemmas.List.Folds.{drop_split}
use Rattle.sd_answers.specs.StreamChanges.{Puts}
use Rattle.sd_answers.proofs.PutLemmas.{Puts-nil, Puts-then, Puts-err, Puts-exit}
use Rattle.sd_answers.proofs.writing.put_text.Goals as goal

-- what was written, with the next line and the rest, is the whole text
next_whole : (text done : List ℕ) (from to : ℕ) → from ≤ to → done ++ drop from text ≡ text → (done ++ slice_range text from to) ++ drop to text ≡ text
next_whole text done from to h whole =
    append_assoc done (slice_range text from to) (drop to text) ∙ ap (λ (xs : List ℕ). done ++ xs) (sym (drop_split text from to h)) ∙ whole

pub loop-from-init : goal.loop-from-init
loop-from-init g c = record { done = []; puts = Puts-nil _ _; whole = refl }

pub loop-from-preserved : goal.loop-from-preserved
loop-from-preserved g c =
    let held = g.K.Sink.contents in
    let faults = g.K.Sink.fault_count in
    let l = c.loop-from in
    let p = c.put_line.new.out in
    let o = c.args.out.now in
    let piece = slice_range c.args.text.now l.from c.line_end-to.result in
    record {
      done = l.invariant.done ++ piece;
      puts = Puts-then (held o) (held l.out) (held p) (faults o) (faults l.out) (faults p) l.invariant.done piece (Ok tt) l.invariant.puts c.in_ok-put_line.ensures.puts;
      whole = next_whole c.args.text.now l.invariant.done l.from c.line_end-to.result (let after = c.line_end-to.ensures.after in omega (arith, after)) l.invariant.whole;
    }

pub returns-in_err-put_line-clause-puts : goal.returns-in_err-put_line-clause-puts
returns-in_err-put_line-clause-puts g c =
    let held = g.K.Sink.contents in
    let faults = g.K.Sink.fault_count in
    let l = c.loop-from in
    let p = c.put_line.new.out in
    let o = c.args.out.now in
    let text = c.args.text.now in
    let piece = slice_range text l.from c.line_end-to.result in
    let whole = next_whole text l.invariant.done l.from c.line_end-to.result (let after = c.line_end-to.ensures.after in omega (arith, after)) l.invariant.whole in
    Puts-exit _ _ _ _ _ _ _ c.from_residual.ensures.1
    (subst (λ (xs : List ℕ). Puts (held o) (held p) (faults o) (faults p) xs (Err c.in_err-put_line.field-0.0)) whole
    (Puts-err (held o) (held p) (held p) (faults o) (faults p) (faults p) (l.invariant.done ++ piece) (drop c.line_end-to.result text) c.in_err-put_line.field-0.0
    (Puts-then (held o) (held l.out) (held p) (faults o) (faults l.out) (faults p) l.invariant.done piece (Err c.in_err-put_line.field-0.0) l.invariant.puts c.in_err-put_line.ensures.puts)))

pub returns-clause-puts : goal.returns-clause-puts
returns-clause-puts g c =
    let held = g.K.Sink.contents in
    let faults = g.K.Sink.fault_count in
    let l = c.loop-from in
    let text = c.args.text.now in
    let none = drop_all l.from text (let past = c.loop-from-test.false in omega (arith, past)) in
    subst (λ (xs : List ℕ). Puts (held c.args.out.now) (held l.out) (faults c.args.out.now) (faults l.out) xs (Ok tt))
    (sym (append-nil l.invariant.done) ∙ ap (λ (xs : List ℕ). l.invariant.done ++ xs) (sym none) ∙ l.invariant.whole) l.invariant.puts
