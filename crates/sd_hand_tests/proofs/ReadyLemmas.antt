-- A world stays ready for attempts, and a plan of possible troubles can be made.
use Rattle.std.proofs.Common.{◌≡◌, List, [], ◌∷◌, ◌++◌, Result, Ok, Err, refl, sym, ◌∙◌, subst}
use Rattle.sd_types.specs.declared.works.Work.{Work}
use Rattle.sd_types.specs.declared.events.Stop.{Stop}
use Rattle.sd_types.specs.declared.events.Stop.TheVariants.{Full, Memory}
use Rattle.sd_world.specs.declared.plain.PlainWorld.{PlainWorld}
use Rattle.sd_world.specs.Plain.{Stands}
use Rattle.sd_world.specs.Worlds.{Meaning}
use Rattle.sd_cpu.specs.Attempts.{Answers, IsEmpty}
use Rattle.sd_cpu.specs.declared.attempts.Attempted.{Attempted}
use Rattle.sd_cpu.specs.declared.attempts.Attempted.TheVariants.{Made, Again}
use Rattle.sd_cpu.specs.declared.attempts.Turned.TheVariants.{Acted, Ticked, Behind, Finished}
use Rattle.sd_hand_tests.specs.declared.hostile_world.HostileWorld.{HostileWorld}
use Rattle.sd_hand_tests.specs.declared.plan.Trouble.{Trouble}
use Rattle.sd_hand_tests.specs.Hostile.{IsHostile, hostile_meaning}
use Rattle.sd_hand_tests.specs.Plan.{ArePossible, IsPossible}
use Rattle.sd_hand_tests.specs.Ready.{IsReady}

same_work : (m m' : Meaning) (r : Result Attempted Stop) → Answers m m' r → m'.work ≡ m.work
same_work m m' (Ok (Made (Acted n))) a = a.world.work
same_work m m' (Ok (Made (Ticked n))) a = a.world.work
same_work m m' (Ok (Made (Behind c n))) a = a.0.idles.world.work
same_work m m' (Ok (Made Finished)) a = a.0.idles.world.work
same_work m m' (Ok (Again passed)) a = a.idles.world.work
same_work m m' (Err Full) a = a.0.world.work
same_work m m' (Err Memory) a = a.0.world.work

pub ready_after : (w : Work) (x y : HostileWorld) (r : Result Attempted Stop) → IsReady w x → IsHostile y → IsEmpty (hostile_meaning y) → Answers (hostile_meaning x) (hostile_meaning y) r → IsReady w y
ready_after w x y r ready good empty answers = record {
  hostile = good;
  empty = empty refl;
  work = ready.work ∙ sym (same_work (hostile_meaning x) (hostile_meaning y) r answers);
}

pub possible_more : (xs : List Trouble) (x : Trouble) → ArePossible xs → IsPossible x.what → ArePossible (xs ++ x ∷ [])
possible_more [] x p q = (q, tt)
possible_more (y ∷ xs) x p q = (p.0, possible_more xs x p.1 q)

pub stands_own : (w : Work) (x : PlainWorld) → x.work.now ≡ w → Stands w x → Stands x.work.now x
stands_own w x same st = subst (λ v. Stands v x) (sym same) st
