use Rattle.std.proofs.Common.{◌≡◌, ◌<◌, length, refl, sym, ap, ◌∙◌, subst, arith}
use Rattle.std.specs.Prelude.{vec_len}
use Rattle.std.specs.Mem.Slots.{slots_filled, slots_items, slots_len}
use lib.ListN.{get_elem?}
use Rattle.sd_shared_rule.specs.Places.{home_count}
use Rattle.sd_shared_table.specs.Seats.{work_of}
use Rattle.sd_shared_table.proofs.ClosingLemmas.{Taken, emptied_more, emptied_rest, ends_so, same_seens, taken_next, taken_none}
use Rattle.sd_shared_table.proofs.shared.Shared.end.Goals as goal

pub word-count-requires : goal.word-count-requires
word-count-requires c =
    let counts = c.close_with-closed.ensures.counts.0 in
    let words = c.args.self.words in
    let homes = c.args.self.homes_are in
    ((omega (arith, counts, words, homes)), c.close_with-closed.ensures.values.0)

pub loop-i-init : goal.loop-i-init
loop-i-init c = (
  c.close_with-closed.ensures.values.1,
  (λ k below. absurd (omega (arith, below))),
  refl,
  refl,
  taken_none (slots_items c.close_with-closed.result.slots) c.args.slots.items c.requires.room.0,
  c.requires.room.1,
)

pub take-requires : goal.take-requires
take-requires c =
    let (full, empty, same, long, taken, room) = c.loop-i.invariant in
    let count = c.close_with-closed.ensures.counts.1 in
    let slots = c.args.self.slots in
    let homes = c.args.self.homes_are in
    let test = c.loop-i-test.true in
    let inside : c.loop-i.i < slots_len c.loop-i.closed.slots = omega (arith, long, count, slots, homes, test) in
    (inside, full c.loop-i.i (omega arith) inside)

pub push_reserved-requires : goal.push_reserved-requires
push_reserved-requires c =
    let (full, empty, same, long, taken, room) = c.loop-i.invariant in
    let many : vec_len c.loop-i.slots ≡ length c.loop-i.slots.items = grind arith in
    let out = taken.many in
    let test = c.loop-i-test.true in
    omega (arith, many, out, test, room)

pub loop-i-preserved : goal.loop-i-preserved
loop-i-preserved c =
    let (full, empty, same, long, taken, room) = c.loop-i.invariant in
    let others = c.take.ensures.others in
    let old = slots_filled c.loop-i.closed.slots in
    let new = slots_filled c.take.new.self.slots in
    let first = slots_items c.close_with-closed.result.slots in
    let cap = c.push_reserved.ensures.capacity in (
      emptied_rest old new c.loop-i.i (slots_len c.loop-i.closed.slots) (slots_len c.take.new.self.slots) others.1 full others.2,
      emptied_more old new c.loop-i.i others.1 empty,
      others.0 ∙ same,
      others.2 ∙ long,
      taken_next first c.loop-i.i c.loop-i.slots.items c.push_reserved.new.self.items c.take.result taken (ap (λ l. get_elem? l c.loop-i.i) (sym same) ∙ c.take.ensures.value) c.push_reserved.ensures.items,
      (omega (arith, cap, room)),
    )

pub free-requires : goal.free-requires
free-requires c = λ k below.
    let (full, empty, same, long, taken, room) = c.loop-i.invariant in
    let count = c.close_with-closed.ensures.counts.1 in
    let slots = c.args.self.slots in
    let homes = c.args.self.homes_are in
    let test = c.loop-i-test.false in
    empty k (omega (arith, below, long, count, slots, homes, test))

pub returns : goal.returns
returns c = λ seens is.
    let (full, empty, same, long, taken, room) = c.loop-i.invariant in
    let w = work_of c.args.self in
    let homes = c.args.self.homes_are in
    let test = c.loop-i-test.false in
    let end = c.loop-i.auto.i-end in
    let ws = slots_items c.close_with-closed.result.words in
    let xs = slots_items c.close_with-closed.result.slots in
    let (first, begun, many) = c.requires.gathered in
    let all : length seens ≡ w.cpus = ap length (sym (same_seens c.args.place.me.0 first seens begun is)) ∙ many in
    let whole : c.loop-i.i ≡ home_count w = omega (arith, homes, test, end) in
    ends_so w c.args.place.id c.args.place.me.0 ws xs c.word-count.result (record { count = c.word-count.result; slots = c.loop-i.slots }) c.close_with-closed.ensures.values.2
    (ap (get_elem? ws) (sym homes) ∙ c.word-count.ensures) refl (subst (λ n. Taken xs n c.loop-i.slots.items) whole taken) seens is all
