use Rattle.std.proofs.Common.{◌≡◌, length, sym, ap, ◌∙◌, arith}
use Rattle.std.specs.Prelude.{vec_len}
use Rattle.sd_log.specs.Logged.{Logged}
use Rattle.sd_log.proofs.LogLemmas.{entries-length}
use Rattle.sd_log.proofs.entry_log.EntryLog.len.Goals as goal

pub returns : goal.returns
returns c =
    let many : vec_len c.self.inside.short ≡ length c.self.inside.short.items = grind arith in
    c.len.ensures ∙ many ∙ sym (entries-length c.self.inside.bytes.items 0 c.self.inside.short.items) ∙ ap (λ (v : Logged). length v.items) c.self.view_is
