use Rattle.std.proofs.Common.{List, ℕ, ◌∷◌, ◌++◌, ap, ◌∙◌}
use Rattle.std.proofs.lemmas.Result.{on_ok_weaker}
use Rattle.sd_canonical.proofs.LineLemmas.{thread_text_parts, five}
use Rattle.sd_canonical.proofs.threads.put_thread.Goals as goal

pub returns : goal.returns
returns c = on_ok_weaker c.put_newline.result
    (λ appended. five _ _ _ _ _ _ _ _ _ _ _ _ c.in_ok-extend_from_slice.ensures.items
    (c.in_ok-put_space_word.ensures ∙ ap (λ (l : List ℕ). c.extend_from_slice.new.self.items ++ (32 ∷ l)) c.bytes.ensures)
    c.in_ok-put_class.ensures c.in_ok-put_options.ensures appended (thread_text_parts c.args.work.now c.args.thread.now))
    c.put_newline.ensures
