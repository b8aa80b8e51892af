use Rattle.std.proofs.Common.{◌≡◌, ◌∙◌}
use Rattle.std.specs.Prelude.{option_copied, unwrap_or}
use Rattle.sd_state.specs.States.{no_body, thread_of}
use Rattle.sd_encoding.proofs.AlikeLemmas.{body_same}
use Rattle.sd_encoding.proofs.ToldLemmas.{told}
use Rattle.sd_encoding.proofs.look.OrderedLook.body.Goals as goal

pub returns-clause-value : goal.returns-clause-value
returns-clause-value c =
    let x = c.args.self.now.state in
    told c.args.self.now c.body.result (λ s r. unwrap_or (option_copied r) no_body ≡ (thread_of s c.args.t.0).body) c.body.ensures.value (λ n s sh a e. e ∙ body_same x s sh.same.bare c.args.t.0)
