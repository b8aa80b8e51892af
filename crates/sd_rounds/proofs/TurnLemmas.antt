-- An attempt on a run that nobody shares is the turn of its processor.
use Rattle.std.proofs.Common.{◌≡◌, ℕ, ◌<◌, ◌≤◌, ◌^◌, ◌⊎◌, ◌-◌, Bool, true, false, List, [], ◌∷◌, ◌++◌, length, Option, Some, refl, sym, ap, ◌∙◌, subst, inl, inr, arith}
use Rattle.std.proofs.lemmas.List.{append-nil}
use Rattle.sd_types.specs.declared.numbers.CpuId.{CpuId}
use Rattle.sd_types.specs.declared.events.Entry.{Entry}
use Rattle.sd_types.specs.declared.events.Event.{Event}
use Rattle.sd_types.specs.declared.works.Work.{Work}
use Rattle.sd_state.specs.declared.states.State.{State}
use Rattle.sd_machine.specs.Events.{next}
use Rattle.sd_types.specs.declared.events.Stop.{Stop}
use Rattle.sd_types.specs.declared.events.Stop.TheVariants.{Full, Memory}
use Rattle.sd_state.specs.Opening.{opening}
use Rattle.sd_machine.specs.Runs.{final, made, serial_hints, turn}
use Rattle.sd_replay.proofs.Needed.{no_maker}
use Rattle.sd_world.specs.declared.plain.PlainWorld.{PlainWorld}
use Rattle.sd_world.specs.Plain.{IsPlain, Stands, plain_meaning, told}
use Rattle.sd_world.specs.Worlds.{Meaning, actor_of, after_run, entry_of, now}
use Rattle.sd_world.proofs.WorldLemmas.{plain_good}
use Rattle.sd_cpu.specs.declared.attempts.Attempted.{Attempted}
use Rattle.sd_cpu.specs.declared.attempts.Attempted.TheVariants as attempted
use Rattle.sd_cpu.specs.declared.attempts.Turned.TheVariants.{Acted, Ticked, Behind, Finished}
use Rattle.sd_cpu.specs.Attempts.{Attempts, MakesOne, MayNotTick, Refuses}

-- one entry, which is the turn
one_is : (m m' : Meaning) (n : ℕ) (b : Bool) → m.alone ≡ true → MakesOne m m' n b → m'.seen ≡ m.seen ++ turn m.work (now m) (length m.seen) (actor_of m)
one_is m m' n b alone x =
    let run = x.made.still alone in
    let hints = x.given alone in
    let number : n ≡ length m.seen = sym x.made.number ∙ ap length run in
    let makes : next m.work (now m) (actor_of m) (serial_hints m.work (now m) (actor_of m)) ≡ Some x.event =
    ap (next m.work (now m) (actor_of m)) (sym hints) ∙ subst (λ h. next m.work (after_run m h) (actor_of m) x.hints ≡ Some x.event) run x.made.step in
    x.made.after_still alone ∙ ap (λ l. l ++ entry_of m n x.event x.hints ∷ []) run ∙ ap (λ k. m.seen ++ entry_of m k x.event x.hints ∷ []) number
    ∙ ap (λ h. m.seen ++ entry_of m (length m.seen) x.event h ∷ []) hints
    ∙ ap (λ (o : Option Event). m.seen ++ made (length m.seen) (actor_of m) (serial_hints m.work (now m) (actor_of m)) o) (sym makes)

none_is : (m m' : Meaning) → m.alone ≡ true → MayNotTick m m' → m'.seen ≡ m.seen ++ turn m.work (now m) (length m.seen) (actor_of m)
none_is m m' alone x =
    x.idles.still alone ∙ sym (append-nil m.seen)
    ∙ ap (λ (o : Option Event). m.seen ++ made (length m.seen) (actor_of m) (serial_hints m.work (now m) (actor_of m)) o) (sym (x.none alone))

pub attempt_is : (m m' : Meaning) (a : Attempted) → m.alone ≡ true → m.stops ≡ 0 → m'.stops ≡ 0 → Attempts m m' a → m'.seen ≡ m.seen ++ turn m.work (now m) (length m.seen) (actor_of m)
attempt_is m m' (attempted.Made (Acted n)) alone s t x = one_is m m' n false alone x
attempt_is m m' (attempted.Made (Ticked n)) alone s t x = one_is m m' n true alone x
attempt_is m m' (attempted.Made (Behind c n)) alone s t x = none_is m m' alone x.0
attempt_is m m' (attempted.Made Finished) alone s t x = none_is m m' alone x.0
attempt_is m m' (attempted.Again passed) alone s t x = absurd (rose (x.stops.1))
  where
    rose : (m.stops < m'.stops) ⊎ (m'.stops ≡ 2 ^ 64 - 1) → ⊥
    rose (inl less) = omega (arith, less, s, t)
    rose (inr most) = omega (arith, most, t)

pub plain : (w : Work) (x : PlainWorld) → x.work.now ≡ w → Stands w x → IsPlain x
plain w x e st = plain_good x (subst (λ v. Stands v x) (sym e) st)

-- the entries of a turn of processor c, behind those so far
abbrev with_turn : Work → List Entry → CpuId → List Entry
with_turn w es c = es ++ turn w (final w (opening w) es) (length es) c

module _ (w : Work) (x y z : PlainWorld) (c : CpuId) (work : x.work.now ≡ w) (same : y.work ≡ x.work) (items : y.entries.items ≡ x.entries.items) (cpu : y.acting.actor.cpu ≡ c) where
  its_work : y.work.now ≡ w
  its_work = ap (λ b. b.now) same ∙ work

  pub turn_taken : (a : Attempted) → Attempts (plain_meaning y) (plain_meaning z) a → z.entries.items ≡ x.entries.items ++ turn w (told w x) (length x.entries.items) c
  turn_taken a is =
      attempt_is (plain_meaning y) (plain_meaning z) a refl refl refl is
      ∙ ap (λ v. with_turn v y.entries.items y.acting.actor.cpu) its_work ∙ ap (λ es. with_turn w es y.acting.actor.cpu) items ∙ ap (with_turn w x.entries.items) cpu

  pub work_kept : (a : Attempted) → Attempts (plain_meaning y) (plain_meaning z) a → z.work.now ≡ w
  work_kept (attempted.Made (Acted n)) is = is.world.work ∙ its_work
  work_kept (attempted.Made (Ticked n)) is = is.world.work ∙ its_work
  work_kept (attempted.Made (Behind d n)) is = is.0.idles.world.work ∙ its_work
  work_kept (attempted.Made Finished) is = is.0.idles.world.work ∙ its_work
  work_kept (attempted.Again passed) is = is.idles.world.work ∙ its_work

  pub idle_work : (s : Stop) → Refuses (plain_meaning y) (plain_meaning z) s → z.work.now ≡ w
  idle_work Full is = is.0.world.work ∙ its_work
  idle_work Memory is = is.0.world.work ∙ its_work

  pub idle_kept : (s : Stop) → Refuses (plain_meaning y) (plain_meaning z) s → z.entries.items ≡ x.entries.items
  idle_kept Full is = is.0.log ∙ items
  idle_kept Memory is = is.0.log ∙ items

  pub not_full : (s : Stop) → Refuses (plain_meaning y) (plain_meaning z) s → length x.entries.items < 2 ^ 40 → s ≡ Full → ⊥
  not_full Full is few e = (let long = is.1 in let same = ap length items in omega (arith, long, same, few))
  not_full Memory is few e = cc

-- a refusal that is none of a full log
pub for_memory : (s : Stop) → (s ≡ Full → ⊥) → s ≡ Memory
for_memory Full not = absurd (not refl)
for_memory Memory not = refl

-- as the world knows its work
pub stands_again : (w : Work) (z : PlainWorld) → z.work.now ≡ w → IsPlain z → Stands w z
stands_again w z e is = subst (λ v. Stands v z) e is.stands

-- a processor that is not there makes nothing
pub no_turn : (w : Work) (s : State) (n : ℕ) (c : CpuId) (es : List Entry) → w.cpus ≤ c.0 → es ≡ es ++ turn w s n c
no_turn w s n c es past =
    let hints = serial_hints w s c in
    sym (append-nil es) ∙ ap (λ (o : Option Event). es ++ made n c hints o) (sym (no_maker w s c hints past))
