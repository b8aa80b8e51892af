use Rattle.std.proofs.Common.{◌+◌, ◌<◌, ◌++◌, ◌∷◌, [], get_or, length, take, sym, ap, ◌∙◌, subst, length-append}
use Rattle.std.proofs.lemmas.List.{take_more}
use Rattle.std.proofs.lemmas.List.Elements.{Contains-get_or}
use Rattle.sd_types.specs.declared.numbers.CpuId.{CpuId}
use Rattle.sd_world.specs.Worlds.{AllHinted}
use Rattle.sd_world.proofs.WorldLemmas.{quiet_then, stays_then}
use Rattle.sd_shared_table.specs.Seats.{work_of}
use Rattle.sd_threads.specs.declared.world.TableWorld.{TableWorld}
use Rattle.sd_threads.specs.Tables.{world_meaning}
use Rattle.sd_threads.proofs.AsWorld.{hinted_more, hinted_still, quiet_as, stays_as}
use Rattle.sd_threads.proofs.world.TableWorld.numbers.Goals as goal

pub hint-requires-clause-cpu : goal.hint-requires-clause-cpu
hint-requires-clause-cpu c =
    let i = c.loop-d.invariant in
    let x : CpuId = get_or c.args.cpus.now c.loop-d.d-index (record { 0 = 0 }) in
    subst (λ t. x.0 < (work_of t.now).cpus) (sym i.table) (c.requires.there x (Contains-get_or c.args.cpus.now c.loop-d.d-index (record { 0 = 0 }) c.loop-d-test.true))

pub loop-d-preserved : goal.loop-d-preserved
loop-d-preserved c =
    let i = c.loop-d.invariant in
    let y = c.loop-d.self in
    let z : TableWorld = record y { seat = c.hint.new.seat } in
    let h = c.hint.ensures.hints in
    let at = c.loop-d.d-index in
    let cpus = c.args.cpus.now in
    let x : CpuId = get_or cpus at (record { 0 = 0 }) in
    let st = stays_as (work_of y.shared.now) y.seat z.seat y.stops y.stops h.stays in
    record {
      good = c.hint.ensures.fits;
      table = i.table;
      stays = stays_then (world_meaning c.args.self.now) (world_meaning y) (world_meaning z) i.stays st;
      quiet = quiet_then (world_meaning c.args.self.now) (world_meaning y) (world_meaning z) i.quiet (quiet_as (work_of y.shared.now) y.seat z.seat y.stops h.quiet);
      acting = h.acting ∙ i.acting;
      many = ap length c.push.ensures.items ∙ (length-append _ _ ∙ ap (λ n. n + 1) i.many);
      hinted = subst (λ l. AllHinted (world_meaning z) c.args.which (take (at + 1) cpus) l) (sym c.push.ensures.items)
          (subst (λ l. AllHinted (world_meaning z) c.args.which l (c.loop-d.numbers.items ++ c.hint.result ∷ [])) (sym (take_more cpus at (record { 0 = 0 }) c.loop-d-test.true))
          (hinted_more (world_meaning z) c.args.which (take at cpus) c.loop-d.numbers.items x c.hint.result (hinted_still (world_meaning y) (world_meaning z) c.args.which (take at cpus) c.loop-d.numbers.items st.hinted i.hinted) h.hinted));
    }
