use Rattle.std.proofs.Common.{◌≡◌, ◌∙◌}
use Rattle.sd_machine.specs.Threads.{open_of}
use Rattle.sd_encoding.proofs.TellLemmas.{open_same}
use Rattle.sd_encoding.proofs.ToldLemmas.{told}
use Rattle.sd_encoding.proofs.look.OrderedLook.open_cpus.Goals as goal

pub returns-clause-value : goal.returns-clause-value
returns-clause-value c =
    let x = c.args.self.now.state in
    told c.args.self.now c.open_cpus.result (λ s r. r.now ≡ open_of s c.args.p.0) c.open_cpus.ensures.value (λ n s sh a e. e ∙ open_same x s sh.same c.args.p.0)
