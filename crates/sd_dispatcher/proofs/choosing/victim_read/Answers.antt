use Rattle.std.proofs.Common.{List, option_map, sym, ap, ◌∙◌}
use Rattle.sd_types.specs.declared.numbers.CpuId.{CpuId}
use Rattle.sd_dispatcher.specs.Reading.{parts}
use Rattle.sd_dispatcher.proofs.ReadLemmas.{listed, no_victim, numbers_of, victim_read}
use Rattle.sd_dispatcher.proofs.choosing.victim_read.Goals as goal

pub returns-in-None : goal.returns-in-None
returns-in-None c = λ s cpu e fit. no_victim s cpu c.args.hints.now (sym (ap (option_map parts) c.in-None.is) ∙ e) fit

pub returns-in-Some : goal.returns-in-Some
returns-in-Some c =
    let kind = c.in-Some.reading.which in
    let read = c.as_slice.result.now in
    λ s cpu e fit.
    let is = ap (λ (cpus : List CpuId). listed kind cpus) c.as_slice.ensures.value ∙ sym (ap (option_map parts) c.in-Some.is) ∙ e in
    c.victim_among.ensures (numbers_of s cpu kind read c.args.hints.now is fit) ∙ victim_read s cpu kind read c.args.hints.now is
