use Rattle.std.proofs.Common.{◌≡◌, ◌*◌, ◌<◌, None, ap, arith, length, refl, sym, ◌∙◌}
use Rattle.sd_record.specs.declared.record.Kept.{Kept}
use Rattle.sd_dispq.specs.Bitmap.{HasBit}
use Rattle.sd_record.specs.Records.{ThreadRecord}
use Rattle.sd_machine.specs.Threads.{is_ts}
use Rattle.sd_homes.specs.ReadyIndexes.{IsIndexOf, priority_at}
use Rattle.sd_homes.specs.Standing.{id_of}
use Rattle.sd_homes.proofs.IndexLemmas.{marked, noted_as, unmarked, vacant}
use Rattle.sd_homes.proofs.ready_index.ReadyIndex.note.Goals as goal

pub returns-then-is_ts : goal.returns-then-is_ts
returns-then-is_ts c = λ rs h e.
    let ps = c.args.self.now.priorities.items in
    let ws = c.args.self.now.ageing in
    let x = c.args.thread.now in
    let i = c.deref.result.now.id.0 in
    let its : c.is_ts.result ≡ is_ts x.body.class = c.is_ts.ensures ∙ ap (λ (k : Kept). is_ts k.body.class) c.deref-2.ensures ∙ ap (λ (r : ThreadRecord). is_ts r.body.class) c.thread.view_is in
    let l = c.len.ensures in
    let index : IsIndexOf ps ws rs = h e in
    let none : priority_at ps i ≡ None = vacant ps i c.index.result.now c.index.ensures (sym c.is_some.ensures ∙ c.if-is_some.false) in
    let below : i < length ps = omega arith in
    let fit = index.fit in
    let room : i < 64 * length ws = omega arith in
    let bits : HasBit ws i 1 c.set.new.self = c.set.ensures.bits room in
    noted_as x i c.effective.result ps ws c.set.new.self rs (ap (λ (k : Kept). k.id.0) c.deref.ensures ∙ ap id_of c.thread.view_is) c.effective.ensures.value below none bits.1
    (marked (is_ts x.body.class) _ bits.0 (sym its ∙ c.if-is_ts.true)) c.set.ensures.size index

pub returns-else-is_ts : goal.returns-else-is_ts
returns-else-is_ts c = λ rs h e.
    let ps = c.args.self.now.priorities.items in
    let ws = c.args.self.now.ageing in
    let x = c.args.thread.now in
    let i = c.deref.result.now.id.0 in
    let its : c.is_ts.result ≡ is_ts x.body.class = c.is_ts.ensures ∙ ap (λ (k : Kept). is_ts k.body.class) c.deref-2.ensures ∙ ap (λ (r : ThreadRecord). is_ts r.body.class) c.thread.view_is in
    let l = c.len.ensures in
    let index : IsIndexOf ps ws rs = h e in
    let none : priority_at ps i ≡ None = vacant ps i c.index.result.now c.index.ensures (sym c.is_some.ensures ∙ c.if-is_some.false) in
    noted_as x i c.effective.result ps ws ws rs (ap (λ (k : Kept). k.id.0) c.deref.ensures ∙ ap id_of c.thread.view_is) c.effective.ensures.value (omega arith) none (λ j n. refl)
    (unmarked (is_ts x.body.class) ps ws i rs index none (sym its ∙ c.if-is_ts.false)) refl index
