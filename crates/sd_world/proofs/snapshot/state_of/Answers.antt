use Rattle.std.proofs.Common.{◌+◌, ◌∙◌, ap, length, sym}
use Rattle.sd_world.proofs.PartLemmas.{fits, told_by}
use Rattle.sd_world.proofs.snapshot.state_of.Goals as goal

pub threads_of-requires : goal.threads_of-requires
threads_of-requires c =
    let (n, s, reached, homes, are) = c.requires in
    (s, told_by c.args.work.now n s c.args.hand.now.slots reached homes, (fits c.args.work.now n s reached).threads ∙ ap length (sym c.items.ensures))

pub locks_of-requires : goal.locks_of-requires
locks_of-requires c = let (n, s, reached, homes, are) = c.requires in (s, told_by c.args.work.now n s c.args.hand.now.slots reached homes)

pub counts_of-requires : goal.counts_of-requires
counts_of-requires c = let (n, s, reached, homes, are) = c.requires in (s, told_by c.args.work.now n s c.args.hand.now.slots reached homes)

pub open_lists-requires : goal.open_lists-requires
open_lists-requires c =
    let (n, s, reached, homes, are) = c.requires in
    (s, told_by c.args.work.now n s c.args.hand.now.slots reached homes, (fits c.args.work.now n s reached).sets ∙ ap (λ xs. length xs + 1) (sym c.items-4.ensures))

pub returns : goal.returns
returns c n s reached homes are =
    let told = told_by c.args.work.now n s c.args.hand.now.slots reached homes in
    let fit = fits c.args.work.now n s reached in
    let threads = c.from_vec.ensures ∙ c.in_ok-threads_of.ensures s told (fit.threads ∙ ap length (sym c.items.ensures)) in
    let locks = c.from_vec-2.ensures ∙ c.in_ok-locks_of.ensures s told (fit.locks ∙ ap length (sym c.items-2.ensures)) in
    let cpus = c.from_vec-3.ensures ∙ c.in_ok-cpus_of.ensures s told are in
    let counts = c.from_vec-4.ensures ∙ c.in_ok-counts_of.ensures s told (fit.chans ∙ ap length (sym c.items-3.ensures)) in
    let lists = c.from_vec-5.ensures ∙ c.in_ok-open_lists.ensures s told (fit.sets ∙ ap (λ xs. length xs + 1) (sym c.items-4.ensures)) in
    (λ i. record { threads = threads i; locks = locks i; cpus = cpus i; counts = counts i; open_cpus = lists i })
