use Rattle.std.proofs.Common.{◌≡◌, ◌<◌, ◌≤◌, ◌^◌, ℕ, List, [], ◌++◌, length, append-nil, sym, ap, ◌∙◌, subst, arith}
use Rattle.sd_types.specs.declared.numbers.CpuId.{CpuId}
use Rattle.sd_types.specs.declared.events.Entry.{Entry}
use Rattle.sd_state.specs.Opening.{opening}
use Rattle.sd_machine.specs.Runs.{final, rising, round, state_at, IsComplete}
use Rattle.sd_hand.specs.OneHome.{StandsInHomes}
use Rattle.sd_world.specs.Plain.{told}
use Rattle.sd_world.proofs.PlainLemmas.{all_stood}
use Rattle.sd_rounds.specs.declared.orders.RoundOrder.TheVariants.{Rising}
use Rattle.sd_rounds.proofs.CompleteLemmas.{complete_after}
use Rattle.sd_rounds.proofs.FinishLemmas.{finished, finished_complete}
use Rattle.sd_rounds.proofs.OrderLemmas.{order_length}
use Rattle.sd_rounds.proofs.RoundLemmas.{none_more}
use Rattle.sd_rounds.proofs.rounds.run_to_end.Goals as goal

same_order : (g : _) (c : goal.After-finish g) → c.as_slice.result.now ≡ rising c.args.work.now
same_order g c = c.as_slice.ensures.value ∙ c.rising-order.ensures

as_long : (g : _) (c : goal.After-finish g) → length c.run_round.new.world.entries.items ≡ length c.rounds.world.entries.items
as_long g c = let same = c.if-len-so_far.true in omega (arith, same)

nothing : (g : _) (c : goal.After-finish g) → round c.args.work.now (told c.args.work.now c.rounds.world) (length c.rounds.world.entries.items) (rising c.args.work.now) ≡ []
nothing g c =
    let w = c.args.work.now in
    let x = c.rounds.world in
    let made = c.in_default.ensures.entries ∙ ap (λ (o : List CpuId). x.entries.items ++ round w (told w x) (length x.entries.items) o) (same_order g c) in
    none_more (round w (told w x) (length x.entries.items) (rising w)) x.entries.items c.run_round.new.world.entries.items made (as_long g c)

same_entries : (g : _) (c : goal.After-finish g) → c.run_round.new.world.entries.items ≡ c.rounds.world.entries.items
same_entries g c =
    let w = c.args.work.now in
    let x = c.rounds.world in
    c.in_default.ensures.entries ∙ ap (λ (o : List CpuId). x.entries.items ++ round w (told w x) (length x.entries.items) o) (same_order g c)
    ∙ ap (λ (more : List Entry). x.entries.items ++ more) (nothing g c) ∙ append-nil x.entries.items

pub returns-clause-complete : goal.returns-clause-complete
returns-clause-complete g c =
    let w = c.args.work.now in
    finished_complete w c.finish.result (told w c.run_round.new.world) c.finish.ensures.state
    (subst (λ (es : List Entry). IsComplete w (final w (opening w) es)) (sym (same_entries g c)) (complete_after w Rising 0 c.rounds.world.entries.items (nothing g c)))

pub returns-clause-homes : goal.returns-clause-homes
returns-clause-homes g c =
    let w = c.args.work.now in
    finished c.finish.result c.run_round.new.world.entries.items (λ es. (k : ℕ) → k ≤ length es → StandsInHomes k (state_at w es k)) c.finish.ensures.entries
    (all_stood w c.run_round.new.world c.in_default.ensures.stands)

pub returns-clause-short : goal.returns-clause-short
returns-clause-short g c =
    let w = c.args.work.now in
    let some = w.some_cpu in
    let many : length c.as_slice.result.now ≡ w.cpus = ap length (same_order g c) ∙ order_length w Rising 0 in
    let few = c.in_default.ensures.begins (let h : 0 < length c.as_slice.result.now = omega (arith, some, many) in h) in
    let same = as_long g c in
    finished c.finish.result c.run_round.new.world.entries.items (λ es. length es < 2 ^ 40) c.finish.ensures.entries (omega (arith, few, same))
