use Rattle.std.proofs.Common.{◌≡◌, ◌≤◌, length, refl, sym, ap, ◌∙◌, subst}
use Rattle.sd_hand.specs.Hands.{how_many_held}
use Rattle.sd_shared_table.specs.declared.seat.Seat.{Seat}
use Rattle.sd_shared_table.specs.Seats.{id_of, work_of}
use Rattle.sd_threads.specs.Tables.{world_meaning}
use Rattle.sd_threads.specs.Jobs.{IsEmptyHanded, MadeAsLogged}
use Rattle.sd_threads.proofs.JobLemmas as J
use Rattle.sd_threads.proofs.jobs.phase_of.Goals as goal

pub phase-outcome-requires-clause-work : goal.phase-outcome-requires-clause-work
phase-outcome-requires-clause-work g c = c.requires.work ∙ sym (ap work_of c.new-world.ensures.table)

pub phase-outcome-requires-clause-empty : goal.phase-outcome-requires-clause-empty
phase-outcome-requires-clause-empty g c = λ none. subst (λ (s : Seat). how_many_held s.acting.hand.slots ≡ 0) (sym c.new-world.ensures.seat) c.requires.free.free

pub returns : goal.returns
returns g c =
    let t = id_of c.args.shared.now in
    let w = c.args.work.now in
    let x = c.new-world.result in
    let y = c.phase-outcome.new.world in
    let table = ap id_of c.new-world.ensures.table in
    let work = ap work_of c.new-world.ensures.table ∙ sym c.requires.work in
    let e = c.phase-outcome.ensures in
    let same = c.into_seat.ensures in
    let made = J.made_as_logged (world_meaning x) (world_meaning y) c.phase-outcome.result e.answers in
    record {
      phased = record {
        free = subst (IsEmptyHanded t w) (sym same) (J.free_back t w x y table work c.new-world.ensures.good e.good e.world e.empty);
        cpu = ap (λ (s : Seat). s.acting.actor.cpu) same ∙ (e.world.cpu ∙ ap (λ (s : Seat). s.acting.actor.cpu) c.new-world.ensures.seat);
        answer = c.phase-outcome.result;
        answered = refl;
        made = subst (λ (s : Seat). MadeAsLogged (length s.log.items) (length c.into_seat.result.log.items) c.phase-outcome.result) c.new-world.ensures.seat
            (subst (λ (s : Seat). MadeAsLogged (length x.seat.log.items) (length s.log.items) c.phase-outcome.result) (sym same) made);
        grows = subst (λ (s : Seat). length s.log.items ≤ length c.into_seat.result.log.items) c.new-world.ensures.seat
            (subst (λ (s : Seat). length x.seat.log.items ≤ length s.log.items) (sym same) (J.log_grows (world_meaning x) (world_meaning y) c.phase-outcome.result e.answers));
        full = λ refused. J.full_long t w x y table work c.new-world.ensures.good e.good e.world c.phase-outcome.result (J.outcome_is c.phase-outcome.result _ refused) e.answers;
      };
    }
