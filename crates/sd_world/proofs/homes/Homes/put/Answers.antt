use Rattle.std.proofs.Common.{◌≡◌, subst}
use Rattle.sd_homes.specs.Standing.{insert_at}
use Rattle.sd_homes.specs.Families.{home_id, list_in, putting}
use Rattle.sd_hand.specs.Hands.{edit}
use Rattle.sd_hand.proofs.HomeLemmas.{keeps-with_list}
use Rattle.std.proofs.Common.{◌∙◌, ◌<◌, ap, length, sym, Some}
use Rattle.std.specs.Prelude.{slice_set}
use Rattle.sd_world.specs.Homes.{AllHomes}
use Rattle.sd_world.proofs.GivenLemmas.{put_lost, put_moved, put_nowhere, put_placed}
use Rattle.sd_world.proofs.homes.Homes.put.Goals as goal

pub invariant_of-self : goal.invariant_of-self
invariant_of-self c =
    let at = c.in-Some.ensures in
    put_placed (record { cpus = c.self.inside.cpus; sets = c.self.inside.sets }) c.self.inside.slots.items c.in-Some.i c.in-Some-index_mut.home c.put.new.self c.index_mut.result.now c.self.invariant (subst (λ (x : AllHomes). c.in-Some.i < length x.slots) (sym c.self.view_is) at.inside) c.index_mut.ensures.value c.in-Some-index_mut.is
    (ap home_id c.put.ensures ∙ keeps-with_list c.args.at (λ h. insert_at c.args.at c.args.t (list_in h c.args.at)) c.in-Some-index_mut.home)

pub returns-in-Some-index_mut-clause-moved : goal.returns-in-Some-index_mut-clause-moved
returns-in-Some-index_mut-clause-moved c =
    let at = c.in-Some.ensures in
    subst (λ k. slice_set c.self.inside.slots.items c.in-Some.i (Some c.put.new.self) ≡ edit k (putting c.args.t c.args.at) c.args.self.now.slots) c.home_at.ensures
    (put_moved c.args.self.now (record { cpus = c.self.inside.cpus; sets = c.self.inside.sets }) c.self.inside.slots.items c.home_at.result c.in-Some.i c.in-Some-index_mut.home c.put.new.self c.index_mut.result.now (putting c.args.t c.args.at) c.self.view_is c.self.invariant at.number at.inside
    c.index_mut.ensures.value c.in-Some-index_mut.is c.put.ensures)

pub returns-in_default-index_mut-clause-moved : goal.returns-in_default-index_mut-clause-moved
returns-in_default-index_mut-clause-moved c =
    let at = c.in-Some.ensures in
    subst (λ k. slice_set c.self.inside.slots.items c.in-Some.i c.index_mut.result.now ≡ edit k (putting c.args.t c.args.at) c.args.self.now.slots) c.home_at.ensures
    (put_lost c.args.self.now (record { cpus = c.self.inside.cpus; sets = c.self.inside.sets }) c.self.inside.slots.items c.home_at.result c.in-Some.i c.index_mut.result.now (putting c.args.t c.args.at) c.self.view_is c.self.invariant at.number at.inside
    c.index_mut.ensures.value c.in_default-index_mut.is)

pub returns-in_default-clause-moved : goal.returns-in_default-clause-moved
returns-in_default-clause-moved c =
    subst (λ k. c.args.self.now.slots ≡ edit k (putting c.args.t c.args.at) c.args.self.now.slots) c.home_at.ensures
    (put_nowhere c.args.self.now (record { cpus = c.self.inside.cpus; sets = c.self.inside.sets }) c.self.inside.slots.items c.home_at.result (putting c.args.t c.args.at) c.self.view_is c.self.invariant (c.in_default.ensures).number)
