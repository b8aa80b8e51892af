-- The table as a world: after a call its seat is one of the same processor at the same table.
use Rattle.std.proofs.Common.{◌≡◌, Result, Ok, Err, refl, sym, ap, ◌∙◌, subst}
use Rattle.atomic_table.specs.Seated.{TableId}
use Rattle.sd_types.specs.declared.events.Stop.{Stop}
use Rattle.sd_types.specs.declared.works.Work.{Work}
use Rattle.sd_hand.specs.Hands.{how_many_held}
use Rattle.sd_world.specs.Worlds.{Meaning}
use Rattle.sd_cpu.specs.Attempts.{Answers, IsEmpty, IsSameWorld}
use Rattle.sd_cpu.specs.declared.attempts.Attempted.{Attempted}
use Rattle.sd_cpu.specs.declared.attempts.Attempted.TheVariants.{Made, Again}
use Rattle.sd_cpu.specs.declared.attempts.Turned.TheVariants.{Acted, Ticked, Behind, Finished}
use Rattle.sd_cpu.proofs.TurnLemmas.{world_refused}
use Rattle.sd_shared_table.specs.declared.seat.Seat.{Seat}
use Rattle.sd_shared_table.specs.declared.shared.Shared.{Shared}
use Rattle.sd_shared_table.specs.Seats.{Fits, id_of, work_of}
use Rattle.sd_threads.specs.declared.world.TableWorld.{TableWorld}
use Rattle.sd_threads.specs.Tables.{IsTable, world_meaning}
use Rattle.sd_shared_table_tests.specs.Sitting.{IsFreeAfter, IsWorldAfter}
use Rattle.std.proofs.lemmas.Option.{same_Some}

pub same_world : (m m' : Meaning) (r : Result Attempted Stop) → Answers m m' r → IsSameWorld m m'
same_world m m' (Ok (Made (Acted n))) a = a.world
same_world m m' (Ok (Made (Ticked n))) a = a.world
same_world m m' (Ok (Made (Behind c n))) a = a.0.idles.world
same_world m m' (Ok (Made Finished)) a = a.0.idles.world
same_world m m' (Ok (Again passed)) a = a.idles.world
same_world m m' (Err s) a = world_refused m m' s a

-- the world of a seat that holds no home
pub world_new : (shared : Shared) (s : Seat) (x : TableWorld) → Fits (id_of shared) (work_of shared) s → how_many_held s.acting.hand.slots ≡ 0 → IsTable x → x.seat ≡ s → x.shared.now ≡ shared → IsWorldAfter (id_of shared) (work_of shared) s x
world_new shared s x fits free good seat table = record {
  good = good;
  id = ap id_of table;
  work = ap work_of table;
  seat = subst (λ (y : Seat). IsFreeAfter (id_of shared) (work_of shared) s y) (sym seat) (record { goes_on = record { fits = fits; cpu = refl }; free = free });
}

pub world_after : (t : TableId) (w : Work) (s : Seat) (x y : TableWorld) → IsWorldAfter t w s x → IsTable y → IsEmpty (world_meaning y) → IsSameWorld (world_meaning x) (world_meaning y) → IsWorldAfter t w s y
world_after t w s x y before good empty same =
    let ids : id_of y.shared.now ≡ t = sym good.table ∙ (same_Some y.seat.place.table_id x.seat.place.table_id same.table ∙ (before.good.table ∙ before.id)) in
    let work : work_of y.shared.now ≡ w = same.work ∙ before.work in
    record {
      good = good;
      id = ids;
      work = work;
      seat = record {
        goes_on = record { fits = subst (λ v. Fits t v y.seat) work (subst (λ i. Fits i (work_of y.shared.now) y.seat) ids good); cpu = same.cpu ∙ before.seat.goes_on.cpu };
        free = empty refl;
      };
    }
