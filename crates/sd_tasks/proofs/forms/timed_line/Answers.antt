use Rattle.std.proofs.Common.{◌≡◌, ℕ, List, ◌∷◌, ◌++◌, Option, None, Some, ap, sym, ◌∙◌, arith}
use Rattle.std.specs.Prelude.{codes, option_map}
use Rattle.sd_text.specs.Words.{words_of}
use Rattle.sd_lines.specs.Words.{Line}
use Rattle.sd_lines.specs.Said.{thread_said}
use Rattle.sd_lines.specs.Statements.{statement_of}
use Rattle.sd_tasks.specs.Forms.{declared_thread, head_of, head_thread, options_of, timed_line, timed_options}
use Rattle.sd_tasks.specs.Written.{spaced}
use Rattle.sd_tasks.proofs.HeadLemmas.{head-again}
use Rattle.sd_tasks.proofs.forms.timed_line.Goals as goal

pub returns-in_default : goal.returns-in_default
unfolding timed_line
returns-in_default c =
    let words = words_of c.args.rest.now in
    let text : c.take_head.new.head.items ≡ spaced (head_of words) = c.in_ok-left.ensures.head ∙ ap (λ (xs : List ℕ). xs ++ spaced (head_of words)) c.new-head.ensures.items in
    let again : words_of c.deref.result.now ≡ head_of words = ap words_of (c.deref.ensures.value ∙ text) ∙ head-again c.args.rest.now in
    let said = c.in_ok-thread.ensures ∙ ap (λ (h : Line). declared_thread (statement_of (codes "thread" ∷ h))) again in
    grind (arith, said)

pub returns : goal.returns
unfolding timed_line
returns c =
    let words = words_of c.args.rest.now in
    let text : c.take_head.new.head.items ≡ spaced (head_of words) = c.in_ok-left.ensures.head ∙ ap (λ (xs : List ℕ). xs ++ spaced (head_of words)) c.new-head.ensures.items in
    let again : words_of c.deref.result.now ≡ head_of words = ap words_of (c.deref.ensures.value ∙ text) ∙ head-again c.args.rest.now in
    let said = c.in_ok-thread.ensures ∙ ap (λ (h : Line). declared_thread (statement_of (codes "thread" ∷ h))) again in
    let given = c.timed_options.ensures ∙ ap (timed_options c.args.is_task) c.in_ok-left.ensures.options in
    grind (arith, said, given, text)
