use Rattle.std.proofs.Common.{◌≡◌, ℕ, suc, ◌^◌, ◌<◌, ◌≤◌, List, ◌++◌, Option, Err, length, refl, ap, subst, ◌∙◌, arith}
use Rattle.std.specs.Prelude.{IsErrOf}
use Rattle.rand_pcg.specs.Lcg.{Lcg}
use Rattle.sd_types.specs.declared.numbers.CpuId.{CpuId}
use Rattle.sd_types.specs.declared.events.Stop.TheVariants.{Full}
use Rattle.sd_machine.specs.Runs.{rising, round, state_at, IsRun, IsSerial}
use Rattle.sd_hand.specs.OneHome.{StandsInHomes}
use Rattle.sd_world.specs.Plain.{told}
use Rattle.sd_world.proofs.PlainLemmas.{all_stood}
use Rattle.sd_rounds.specs.Orders.{orders_of, next_order}
use Rattle.sd_rounds.proofs.CompleteLemmas.{complete_of}
use Rattle.sd_rounds.proofs.FinishLemmas.{finished, finished_complete, finished_state, not_full, whenever}
use Rattle.sd_rounds.proofs.OrderLemmas.{order_next, generator_next, order_length}
use Rattle.sd_rounds.proofs.RoundLemmas.{no_rounds, one_round_more, long_serial, is_over, no_longer}
use Rattle.sd_rounds.proofs.rounds.run_rounds.Goals as goal

pub rounds-init : goal.rounds-init
rounds-init g c =
    let w = c.args.work.now in
    let none = c.in-Ok.ensures.entries in
    record {
      count = 0;
      rounds = no_rounds w (orders_of w c.args.orders) c.in-Ok.world.entries.items none;
      generator = c.first_generator-generator.ensures w;
      steady = λ none. c.rising-order.ensures;
      stands = c.in-Ok.ensures.stands;
      work = c.in-Ok.ensures.work;
      room = omega (arith, ap length none);
      least = λ d there. omega arith;
      searched = tt;
    }

pub returns-in-Err-clause-full : goal.returns-in-Err-clause-full
returns-in-Err-clause-full g c = λ x.
    let w = c.args.work.now in
    let r = c.rounds in
    let order = orders_of w c.args.orders r.invariant.count in
    let is : c.as_slice.result.now ≡ order = c.as_slice.ensures.value ∙ c.draw_order.ensures.order
    ∙ ap (λ (g : Option Lcg). (next_order (rising w) g).0) r.invariant.generator ∙ order_next w c.args.orders r.invariant.count in
    let is_full : c.in-Err.stop ≡ Full = cc in
    let at_round : IsErrOf {T = Unit {0}} (Err c.in-Err.stop) Full = ap Err is_full in
    let many = c.in-Err.ensures.full at_round in
    long_serial w (orders_of w c.args.orders) r.invariant.count (told w r.world) r.world.entries.items r.invariant.rounds refl
    (subst (λ (o : List CpuId). 2 ^ 40 ≤ length (r.world.entries.items ++ round w (told w r.world) (length r.world.entries.items) o)) is many)

pub rounds-preserved : goal.rounds-preserved
rounds-preserved g c =
    let w = c.args.work.now in
    let r = c.rounds in
    let order = orders_of w c.args.orders r.invariant.count in
    let is : c.as_slice.result.now ≡ order = c.as_slice.ensures.value ∙ c.draw_order.ensures.order
    ∙ ap (λ (g : Option Lcg). (next_order (rising w) g).0) r.invariant.generator ∙ order_next w c.args.orders r.invariant.count in
    let e = c.in_default-run_round.ensures in
    let made = e.entries ∙ ap (λ (o : List CpuId). r.world.entries.items ++ round w (told w r.world) (length r.world.entries.items) o) is in
    record {
      count = suc r.invariant.count;
      rounds = one_round_more w (orders_of w c.args.orders) r.invariant.count (told w r.world) r.world.entries.items c.run_round.new.world.entries.items r.invariant.rounds refl made
          (λ same. c.if-len-before.false (let h : c.len.result ≡ c.len-before.result = omega (arith, same) in h));
      generator = c.draw_order.ensures.generator ∙ ap (λ (g : Option Lcg). (next_order (rising w) g).1) r.invariant.generator ∙ generator_next w c.args.orders r.invariant.count;
      steady = c.draw_order.ensures.rising;
      stands = e.stands;
      work = e.work;
      room = e.room;
      least = e.least;
      searched = e.searched;
    }

-- the run that was made goes in rounds
made_serial : (g : _) (c : goal.After-finish g) → IsSerial c.args.work.now (orders_of c.args.work.now c.args.orders) c.run_round.new.world.entries.items
made_serial g c =
    let w = c.args.work.now in
    let r = c.rounds in
    let order = orders_of w c.args.orders r.invariant.count in
    let is : c.as_slice.result.now ≡ order = c.as_slice.ensures.value ∙ c.draw_order.ensures.order
    ∙ ap (λ (g : Option Lcg). (next_order (rising w) g).0) r.invariant.generator ∙ order_next w c.args.orders r.invariant.count in
    let e = c.in_default-run_round.ensures in
    let made = e.entries ∙ ap (λ (o : List CpuId). r.world.entries.items ++ round w (told w r.world) (length r.world.entries.items) o) is in
    is_over w (orders_of w c.args.orders) r.invariant.count (told w r.world) r.world.entries.items c.run_round.new.world.entries.items r.invariant.rounds refl made
    (let same = c.if-len-before.true in omega (arith, same))

made_short : (g : _) (c : goal.After-finish g) → length c.run_round.new.world.entries.items < 2 ^ 40
made_short g c =
    let w = c.args.work.now in
    let r = c.rounds in
    let order = orders_of w c.args.orders r.invariant.count in
    let is : c.as_slice.result.now ≡ order = c.as_slice.ensures.value ∙ c.draw_order.ensures.order
    ∙ ap (λ (g : Option Lcg). (next_order (rising w) g).0) r.invariant.generator ∙ order_next w c.args.orders r.invariant.count in
    let e = c.in_default-run_round.ensures in
    let some = w.some_cpu in
    let many : length c.as_slice.result.now ≡ w.cpus = ap length is ∙ order_length w c.args.orders r.invariant.count in
    let few = e.begins (let h : 0 < length c.as_slice.result.now = omega (arith, some, many) in h) in
    let same = c.if-len-before.true in
    omega (arith, few, same)

pub returns-clause-serial : goal.returns-clause-serial
returns-clause-serial g c = finished c.finish.result c.run_round.new.world.entries.items (IsSerial c.args.work.now (orders_of c.args.work.now c.args.orders)) c.finish.ensures.entries (made_serial g c)

pub returns-clause-run : goal.returns-clause-run
returns-clause-run g c = finished c.finish.result c.run_round.new.world.entries.items (IsRun c.args.work.now) c.finish.ensures.entries c.in_default-run_round.ensures.stands.run

pub returns-clause-state : goal.returns-clause-state
returns-clause-state g c = finished_state c.args.work.now c.finish.result c.run_round.new.world.entries.items c.finish.ensures.entries c.finish.ensures.state

pub returns-clause-complete : goal.returns-clause-complete
returns-clause-complete g c =
    let w = c.args.work.now in
    finished_complete w c.finish.result (told w c.run_round.new.world) c.finish.ensures.state (complete_of w c.args.orders c.run_round.new.world.entries.items (made_serial g c))

pub returns-clause-homes : goal.returns-clause-homes
returns-clause-homes g c =
    let w = c.args.work.now in
    finished c.finish.result c.run_round.new.world.entries.items (λ es. (k : ℕ) → k ≤ length es → StandsInHomes k (state_at w es k)) c.finish.ensures.entries
    (all_stood w c.run_round.new.world c.in_default-run_round.ensures.stands)

pub returns-clause-short : goal.returns-clause-short
returns-clause-short g c = finished c.finish.result c.run_round.new.world.entries.items (λ es. length es < 2 ^ 40) c.finish.ensures.entries (made_short g c)

pub returns-clause-full : goal.returns-clause-full
returns-clause-full g c = not_full c.finish.result c.finish.ensures.memory

pub returns-clause-no_longer : goal.returns-clause-no_longer
returns-clause-no_longer g c =
    whenever c.finish.result (no_longer c.args.work.now (orders_of c.args.work.now c.args.orders) c.run_round.new.world.entries.items (made_serial g c) (made_short g c))
