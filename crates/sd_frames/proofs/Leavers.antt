-- A thread that leaves the acting processor runs there; and one that is at work on an operation.
use Rattle.std.proofs.Common.{◌≡◌, ℕ, List, [], ◌∷◌, ◌++◌, Option, Some, None, refl, subst}
use Rattle.std.proofs.lemmas.Option.{same_Some}
use Rattle.sd_types.specs.declared.events.Event.{Event}
use Rattle.sd_types.specs.declared.events.Event.TheVariants.{Tick, Preempt, Yield, Done, Nap, Sleep, Wake, Wakeall, Enter, Read, Write, Block, Exit, Prio, CvWait, SemaP, SemaWait, SemaVWake, SemaVCount, Assign, Bind, Away}
use Rattle.sd_types.specs.declared.numbers.ChanId.{ChanId}
use Rattle.sd_types.specs.declared.numbers.LockId.{LockId}
use Rattle.sd_types.specs.declared.scripts.Op.{Op}
use Rattle.sd_types.specs.declared.scripts.Op.TheVariants as op
use Rattle.sd_types.specs.declared.works.Work.{Work}
use Rattle.sd_types.specs.Scripts.{without_lock, held_after}
use Rattle.sd_machine.specs.Deeds.{Deed, RunsTick, EndsOp, HoldsLock, LetsGo, GrantsLock, ToSleep, deeds, first}
use Rattle.sd_machine.specs.Needs.{Need, asks}
use Rattle.sd_machine.proofs.NeedLemmas.{Each}
use Rattle.std.specs.Prelude.{⊤}
use Rattle.sd_state.specs.declared.states.State.{State}
use Rattle.sd_machine.specs.Threads.{runner}
use Rattle.sd_frames.specs.Causes.{Acts, IsCause}
use Rattle.sd_frames.specs.Moves.{Goes, leaver, stride_of}

is_he : (s : State) (c u t : ℕ) → runner s c ≡ Some u → Some u ≡ Some t → runner s c ≡ Some t
is_he s c u t runs same = subst (λ v. runner s c ≡ Some v) (same_Some u t same) runs

pub leaver_runs : (w : Work) (s : State) (c : ℕ) (e : Event) → IsCause w s c e → (t : ℕ) → leaver (stride_of e) ≡ Some t → runner s c ≡ Some t
leaver_runs w s c (Preempt u end) cause t is = is_he s c u.0 t cause.0.runs is
leaver_runs w s c (Away u d) cause t is = is_he s c u.0 t cause.0.runs is
leaver_runs w s c (Yield u) cause t is = is_he s c u.0 t cause.runs is
leaver_runs w s c (Done u) cause t is = is_he s c u.0 t cause.runs is
leaver_runs w s c (Nap u) cause t is = is_he s c u.0 t cause.1.runs is
leaver_runs w s c (Sleep u k) cause t is = is_he s c u.0 t cause.runs is
leaver_runs w s c (Block u l) cause t is = is_he s c u.0 t cause.1.acts.runs is
leaver_runs w s c (CvWait u k l) cause t is = is_he s c u.0 t cause.runs is
leaver_runs w s c (SemaWait u k) cause t is = is_he s c u.0 t cause.0.runs is
leaver_runs w s c e cause t is = cc

-- who is at work on an operation, and what that does to the locks it holds

pub data Holding : Type 0 where
  Takes : ℕ → LockId → Holding
  Gives : ℕ → LockId → Holding

abbrev pub holds : Deed → Option Holding
holds (HoldsLock t l) = Some (Takes t l)
holds (LetsGo t l) = Some (Gives t l)
holds (GrantsLock l u at) = Some (Takes u l)
holds _ = None

abbrev pub held_with : Option Holding → List LockId → List LockId
held_with None xs = xs
held_with (Some (Takes t l)) xs = xs ++ l ∷ []
held_with (Some (Gives t l)) xs = without_lock l xs

abbrev pub works : Deed → Option ℕ
works (RunsTick t) = Some t
works (EndsOp t) = Some t
works _ = None

-- the channel and the lock that an operation names
abbrev pub chan_named : Op → Option ChanId
chan_named (op.Sleep k) = Some k
chan_named (op.Wake k) = Some k
chan_named (op.WakeAll k) = Some k
chan_named (op.CvWait k l) = Some k
chan_named (op.SemaP k) = Some k
chan_named (op.SemaV k) = Some k
chan_named _ = None

abbrev pub lock_named : Op → Option LockId
lock_named (op.Enter l) = Some l
lock_named (op.Read l) = Some l
lock_named (op.Write l) = Some l
lock_named (op.Exit l) = Some l
lock_named (op.CvWait k l) = Some l
lock_named _ = None

-- a need of the thread that is at work, or of what its operation names
abbrev pub Named : ℕ → Op → Need → Type 0
Named t o (Need.Acts u) = u.0 ≡ t
Named t o (Need.Chan k) = chan_named o ≡ Some k
Named t o (Need.Lock l) = lock_named o ≡ Some l
Named t o _ = ⊤

pub record AtWork (w : Work) (s : State) (c t : ℕ) (e : Event) : Type 0 where
  pub by : Op
  pub acts : Acts w s c t (Some by)
  pub held : (xs : List LockId) → held_with (first holds (deeds e)) xs ≡ held_after xs by
  pub names : Each (Named t by) (asks e)

at_work : (w : Work) (s : State) (c u t : ℕ) (e : Event) → Some u ≡ Some t → AtWork w s c u e → AtWork w s c t e
at_work w s c u t e same is = subst (λ v. AtWork w s c v e) (same_Some u t same) is

pub acts_of : (w : Work) (s : State) (c : ℕ) (e : Event) → IsCause w s c e → (t : ℕ) → first works (deeds e) ≡ Some t → AtWork w s c t e
acts_of w s c (Tick u) cause t is = at_work w s c u.0 t _ is (record { by = op.Run cause.0.0; acts = cause.0.1; held = λ xs. refl; names = (refl, (tt, tt)) })
acts_of w s c (Yield u) cause t is = at_work w s c u.0 t _ is (record { by = op.Yield; acts = cause; held = λ xs. refl; names = (refl, tt) })
acts_of w s c (Nap u) cause t is = at_work w s c u.0 t _ is (record { by = op.Nap cause.0; acts = cause.1; held = λ xs. refl; names = (refl, (tt, tt)) })
acts_of w s c (Sleep u k) cause t is = at_work w s c u.0 t _ is (record { by = op.Sleep k; acts = cause; held = λ xs. refl; names = (refl, (refl, tt)) })
acts_of w s c (Wake u k v) cause t is = at_work w s c u.0 t _ is (record { by = op.Wake k; acts = cause.0; held = λ xs. refl; names = (refl, (refl, (tt, tt))) })
acts_of w s c (Wakeall u k) cause t is = at_work w s c u.0 t _ is (record { by = op.WakeAll k; acts = cause; held = λ xs. refl; names = (refl, (refl, tt)) })
acts_of w s c (Enter u l) cause t is = at_work w s c u.0 t _ is (record { by = op.Enter l; acts = cause.0; held = λ xs. refl; names = (refl, (refl, (tt, tt))) })
acts_of w s c (Read u l) cause t is = at_work w s c u.0 t _ is (record { by = op.Read l; acts = cause.0; held = λ xs. refl; names = (refl, (refl, (tt, (tt, tt)))) })
acts_of w s c (Write u l) cause t is = at_work w s c u.0 t _ is (record { by = op.Write l; acts = cause.0; held = λ xs. refl; names = (refl, (refl, (tt, tt))) })
acts_of w s c (Exit u l) cause t is = at_work w s c u.0 t _ is (record { by = op.Exit l; acts = cause; held = λ xs. refl; names = (refl, (refl, tt)) })
acts_of w s c (Prio u v answer) cause t is = at_work w s c u.0 t _ is (record { by = op.Prio v cause.0; acts = cause.1; held = λ xs. refl; names = (refl, (tt, tt)) })
acts_of w s c (CvWait u k l) cause t is = at_work w s c u.0 t _ is (record { by = op.CvWait k l; acts = cause; held = λ xs. refl; names = (refl, (refl, (refl, tt))) })
acts_of w s c (SemaP u k) cause t is = at_work w s c u.0 t _ is (record { by = op.SemaP k; acts = cause.0; held = λ xs. refl; names = (refl, (refl, tt)) })
acts_of w s c (SemaWait u k) cause t is = at_work w s c u.0 t _ is (record { by = op.SemaP k; acts = cause.0; held = λ xs. refl; names = (refl, (refl, tt)) })
acts_of w s c (SemaVWake u k v at) cause t is = at_work w s c u.0 t _ is (record { by = op.SemaV k; acts = cause.0; held = λ xs. refl; names = (refl, (refl, (tt, (tt, tt)))) })
acts_of w s c (SemaVCount u k m) cause t is = at_work w s c u.0 t _ is (record { by = op.SemaV k; acts = cause.0; held = λ xs. refl; names = (refl, (refl, (tt, tt))) })
acts_of w s c (Assign u d to answer) cause t is = at_work w s c u.0 t _ is (record { by = op.Assign d to; acts = cause.0; held = λ xs. refl; names = (refl, (tt, (tt, (tt, tt)))) })
acts_of w s c (Bind u v d answer) cause t is = at_work w s c u.0 t _ is (record { by = op.Pbind v d; acts = cause.0; held = λ xs. refl; names = (refl, (tt, tt)) })
acts_of w s c e cause t is = cc

-- who falls asleep is at work, and its operation names the channel

pub sleeper_works : (e : Event) (t : ℕ) (k : ChanId) → stride_of e ≡ Some (Goes t (ToSleep k)) → first works (deeds e) ≡ Some t
sleeper_works (Tick u) t k is = cc
sleeper_works e t k is = cc

pub sleeper_names : (e : Event) (t : ℕ) (k : ChanId) (o : Op) → stride_of e ≡ Some (Goes t (ToSleep k)) → Each (Named t o) (asks e) → chan_named o ≡ Some k
sleeper_names (Tick u) t k o is names = cc
sleeper_names e t k o is names = cc
