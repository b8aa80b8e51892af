use Rattle.std.proofs.Common.{List, option_map, sym, ap, ◌∙◌}
use Rattle.sd_types.specs.declared.numbers.CpuId.{CpuId}
use Rattle.sd_machine.specs.Choosing.{put_chosen}
use Rattle.sd_dispatcher.specs.Reading.{parts}
use Rattle.sd_dispatcher.proofs.ReadLemmas.{chosen_read, listed, numbers_for, settled_unread, tells, unread_hints}
use Rattle.sd_dispatcher.proofs.choosing.put_read.Goals as goal

pub returns-in-None-clause-value : goal.returns-in-None-clause-value
returns-in-None-clause-value g c =
    let w = c.args.work.now in
    let cpu = c.args.c.0 in
    let t = c.args.t.0 in
    tells c.put_settled.result _ _
    (λ at. λ told. λ n s shows can.
    let is = sym (ap (option_map parts) c.in-None.is) ∙ can.0 in
    told n s cpu shows (settled_unread w s cpu t is) ∙ ap (put_chosen w s cpu t c.args.p) (unread_hints w s cpu t c.args.hints.now is can.1))
    c.put_settled.ensures.value

pub returns-in-Some-clause-value : goal.returns-in-Some-clause-value
returns-in-Some-clause-value g c =
    let w = c.args.work.now in
    let cpu = c.args.c.0 in
    let t = c.args.t.0 in
    let kind = c.in-Some.reading.which in
    let read = c.as_slice.result.now in
    tells c.put_by_numbers.result _ _
    (λ at. λ told. λ n s shows can.
    let is = ap (λ (cpus : List CpuId). listed kind cpus) c.as_slice.ensures.value ∙ sym (ap (option_map parts) c.in-Some.is) ∙ can.0 in
    told n s shows (numbers_for w s cpu t kind read c.args.hints.now is can.1) ∙ chosen_read w s cpu t c.args.p kind read c.args.hints.now is)
    c.put_by_numbers.ensures.value
