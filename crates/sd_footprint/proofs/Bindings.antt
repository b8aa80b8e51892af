-- What a binding touches lies in the homes of the thread and of the processors to which it is and was bound, and in the real-time queue
-- of its partition.
use Rattle.std.proofs.Common.{◌≡◌, ℕ, Bool, true, false, List, [], ◌∷◌, ◌++◌, Option, Some, None, not, ◌&&◌, refl, ap, sym, inl, inr}
use Rattle.std.specs.Prelude.{◌==◌, nat_le, if◌then◌else◌}
use Rattle.sd_types.specs.declared.numbers.CpuId.{CpuId}
use Rattle.sd_types.specs.declared.numbers.HomeId.{HomeId}
use Rattle.sd_types.specs.declared.numbers.HomeId.TheVariants as home
use Rattle.sd_types.specs.declared.numbers.ThreadId.{ThreadId}
use Rattle.sd_types.specs.declared.events.BindAnswer.{BindAnswer}
use Rattle.sd_types.specs.declared.events.BindAnswer.TheVariants as bind
use Rattle.sd_types.specs.declared.events.Put.TheVariants as put
use Rattle.sd_types.specs.declared.works.Work.{Work}
use Rattle.sd_state.specs.declared.states.Place.{Place}
use Rattle.sd_state.specs.declared.states.Place.TheVariants.{Running, Queued, RealTime}
use Rattle.sd_state.specs.declared.states.State.{State}
use Rattle.sd_state.specs.States.{thread_of, set_of, eff_of}
use Rattle.sd_machine.specs.Prioritising.{is_privileged, uid_of}
use Rattle.sd_machine.specs.SetChanges.{bind_put, bind_to, bound_put, is_closing, is_misbound, unbound_put}
use Rattle.sd_machine.specs.Threads.{has_ended}
use Rattle.sd_homes.specs.Standing.{home_of, home_of_place}
use Rattle.sd_footprint.proofs.Covers.{Cover}
use Rattle.sd_dispatcher.specs.Touched.{put_parts_if}
use Rattle.sd_priocntl.specs.SetsTouched.{bind_parts, runs_parts}
use Rattle.sd_store.specs.Parts.{bound_parts, cpu_part, thread_part}

-- the processor to which a thread is bound
abbrev pub bound_home : CpuId → Option CpuId → HomeId
bound_home c None = home.Cpu c
bound_home c (Some b) = home.Cpu b

-- a refusal touches nothing
answered : (w : Work) (s : State) (c : CpuId) (u : ThreadId) (d : Option CpuId) (hs : List HomeId) (changed : BindAnswer) → Cover s c hs (bind_parts w s u d changed) → (gone invalid denied busy : Bool)
    → Cover s c hs (bind_parts w s u d (if gone then bind.ESRCH else if invalid then bind.EINVAL else if denied then bind.EPERM else if busy then bind.EBUSY else changed))
answered w s c u d hs changed cover true invalid denied busy = tt
answered w s c u d hs changed cover false true denied busy = tt
answered w s c u d hs changed cover false false true busy = tt
answered w s c u d hs changed cover false false false true = tt
answered w s c u d hs changed cover false false false false = cover

module _ (w : Work) (s : State) (c : CpuId) (t : ℕ) (u : ThreadId) where
  abbrev bound_homes : CpuId → List HomeId
  bound_homes d = home.Cpu c ∷ (home.Cpu c ∷ (home_of (thread_of s u.0) ∷ (home.Cpu d ∷ [])))

  bound_cover : (d : CpuId) (place : Place) → (thread_of s u.0).place ≡ place
      → Cover s c (bound_homes d) (thread_part u ∷ ((cpu_part d ∷ runs_parts place) ++ put_parts_if w u (bound_put d place)))
  bound_cover d (Running x) is =
      let same : home.Cpu x ≡ home_of (thread_of s u.0) = sym (ap (λ (p : Place). home_of_place p (thread_of s u.0).body.last) is) in
      (inr (inr (inr (inl refl))), (inr (inr (inr (inr (inl refl)))), (inr (inr (inr (inl (ap Some same)))), tt)))
  bound_cover d (Queued x k) is = by (x.0 == d.0)
    where
      by : (b : Bool) → Cover s c (bound_homes d) (thread_part u ∷ (cpu_part d ∷ put_parts_if w u (if b then None else Some (put.Cpu d))))
      by true = (inr (inr (inr (inl refl))), (inr (inr (inr (inr (inl refl)))), tt))
      by false = (inr (inr (inr (inl refl))), (inr (inr (inr (inr (inl refl)))), (inr (inr (inr (inl refl))), (inr (inr (inr (inr (inl refl)))), tt))))
  bound_cover d (RealTime q k) is =
      (inr (inr (inr (inl refl))), (inr (inr (inr (inr (inl refl)))), (inr (inr (inr (inl refl))), (inr (inr (inr (inr (inl refl)))), tt))))
  bound_cover d _ is = (inr (inr (inr (inl refl))), (inr (inr (inr (inr (inl refl)))), tt))

  pub bind_cover : (d : CpuId) → Cover s c (bound_homes d) (bind_parts w s u (Some d) (bind_to w s t u.0 (Some d)))
  unfolding bind_to
  bind_cover d =
      answered w s c u (Some d) (bound_homes d) (bind.Changed (bind_put s u.0 (Some d))) (bound_cover d (thread_of s u.0).place refl)
      (has_ended (thread_of s u.0).place) (is_misbound w s u.0 (thread_of s u.0).body.bound (Some d))
      (not (is_privileged w t) && not (uid_of w t == uid_of w u.0)) (is_closing s (Some d))

  abbrev unbound_homes : Option CpuId → List HomeId
  unbound_homes bound = bound_home c bound ∷ (home.Cpu c ∷ (home_of (thread_of s u.0) ∷ (home.RealTime (set_of w u.0) ∷ [])))

  unbound_cover : (p : ℕ) (bound : Option CpuId) (place : Place) → Cover s c (unbound_homes bound) (thread_part u ∷ (bound_parts bound ++ put_parts_if w u (unbound_put p bound place)))
  unbound_cover p None place = (inr (inr (inr (inl refl))), tt)
  unbound_cover p (Some b) (Queued x k) = by (nat_le 100 p)
    where
      by : (high : Bool) → Cover s c (unbound_homes (Some b)) (thread_part u ∷ (cpu_part b ∷ put_parts_if w u (if high then Some (put.RealTime b) else None)))
      by true = (inr (inr (inr (inl refl))), (inr (inl refl), (inr (inr (inr (inl refl))), (inr (inl refl), (inr (inr (inr (inr (inl refl)))), tt)))))
      by false = (inr (inr (inr (inl refl))), (inr (inl refl), tt))
  unbound_cover p (Some b) _ = (inr (inr (inr (inl refl))), (inr (inl refl), tt))

  pub unbind_cover : Cover s c (unbound_homes (thread_of s u.0).body.bound) (bind_parts w s u None (bind_to w s t u.0 None))
  unfolding bind_to
  unbind_cover =
      answered w s c u None (unbound_homes (thread_of s u.0).body.bound) (bind.Changed (bind_put s u.0 None)) (unbound_cover (eff_of s u.0) (thread_of s u.0).body.bound (thread_of s u.0).place)
      (has_ended (thread_of s u.0).place) (is_misbound w s u.0 (thread_of s u.0).body.bound None)
      (not (is_privileged w t) && not (uid_of w t == uid_of w u.0)) (is_closing s None)
