-- What the operations and the declarations of a workload name is there.
use Rattle.std.proofs.Common.{◌≡◌, ℕ, ◌<◌, ◌≤◌, Bool, true, false, length, Option, Some, None, refl, sym, ap, ◌∙◌, subst, arith}
use Rattle.std.specs.Prelude.{slice_get, option_map, unwrap_or, nat_lt, nat_le, IfSome}
use Rattle.std.specs.List.{list_all}
use Rattle.std.proofs.lemmas.Bool.{false≢true}
use Rattle.std.proofs.lemmas.Bool.Decides.{nat_tests}
use Rattle.std.proofs.lemmas.List.{length-map}
use Rattle.std.proofs.lemmas.Option.{same_Some, slice_get_within}
use Rattle.sd_basics.proofs.Lists.{all_at}
use Rattle.sd_basics.proofs.Truths.{and_left, and_right}
use Rattle.sd_types.specs.declared.names.Name.{Name}
use Rattle.sd_types.specs.declared.numbers.ChanId.{ChanId}
use Rattle.sd_types.specs.declared.numbers.CpuId.{CpuId}
use Rattle.sd_types.specs.declared.numbers.LockId.{LockId}
use Rattle.sd_types.specs.declared.numbers.SetId.{SetId}
use Rattle.sd_types.specs.declared.numbers.ThreadId.{ThreadId}
use Rattle.sd_types.specs.declared.numbers.Side.{Side}
use Rattle.sd_types.specs.declared.numbers.Side.TheVariants.{Writer, Reader}
use Rattle.sd_types.specs.declared.scripts.Op.{Op}
use Rattle.sd_types.specs.declared.scripts.Op.TheVariants as op
use Rattle.sd_types.specs.declared.works.ChanKind.{ChanKind}
use Rattle.sd_types.specs.declared.works.LockKind.{LockKind}
use Rattle.sd_types.specs.declared.works.ThreadDecl.{ThreadDecl}
use Rattle.sd_types.specs.declared.works.Work.{Work}
use Rattle.sd_types.specs.Works.{is_mutex, is_rwlock, is_chan, is_sema, bound_fits, op_names, class_fits, thread_fits}
use Rattle.sd_state.specs.declared.states.State.{State}
use Rattle.sd_state.specs.Operations.{script_of}
use Rattle.sd_state.specs.States.{thread_of, set_of}
use Rattle.sd_frames.specs.Causes.{Acts, Wants, wants}
use Rattle.sd_frames.proofs.Leavers.{chan_named, lock_named}
use Rattle.sd_invariants.proofs.Works.{op_named}
use Rattle.sd_state.proofs.Declared.{declared}

-- What passes a test that nothing fails which is not there is there.

chan_inside : (w : Work) (k : ChanId) (test : Option ChanKind → Bool) → test None ≡ false → test (slice_get (declared w).chans k.0) ≡ true → k.0 < length w.chans
chan_inside w k test none passes =
    let inside : k.0 < length (declared w).chans = by (slice_get (declared w).chans k.0) refl passes in
    let many : length (declared w).chans ≡ length w.chans = length-map w.chans (λ (x : Name × ChanKind). x.1) in
    omega (arith, inside, many)
  where
    by : (o : Option ChanKind) → slice_get (declared w).chans k.0 ≡ o → test o ≡ true → k.0 < length (declared w).chans
    by None at is = absurd (false≢true (sym none ∙ is))
    by (Some x) at is = slice_get_within (declared w).chans k.0 x at

lock_inside : (w : Work) (l : LockId) (test : Option LockKind → Bool) → test None ≡ false → test (slice_get (declared w).locks l.0) ≡ true → l.0 < length w.locks
lock_inside w l test none passes =
    let inside : l.0 < length (declared w).locks = by (slice_get (declared w).locks l.0) refl passes in
    let many : length (declared w).locks ≡ length w.locks = length-map w.locks (λ (x : Name × LockKind). x.1) in
    omega (arith, inside, many)
  where
    by : (o : Option LockKind) → slice_get (declared w).locks l.0 ≡ o → test o ≡ true → l.0 < length (declared w).locks
    by None at is = absurd (false≢true (sym none ∙ is))
    by (Some x) at is = slice_get_within (declared w).locks l.0 x at

-- Operations.

pub sleep_chan : (w : Work) (k : ChanId) → op_names (declared w) (op.Sleep k) ≡ true → k.0 < length w.chans
sleep_chan w k e = chan_inside w k is_chan refl e

pub sema_chan : (w : Work) (k : ChanId) → op_names (declared w) (op.SemaP k) ≡ true → k.0 < length w.chans
sema_chan w k e = chan_inside w k is_sema refl e

pub enter_lock : (w : Work) (l : LockId) → op_names (declared w) (op.Enter l) ≡ true → l.0 < length w.locks
enter_lock w l e = lock_inside w l is_mutex refl e

pub read_lock : (w : Work) (l : LockId) → op_names (declared w) (op.Read l) ≡ true → l.0 < length w.locks
read_lock w l e = lock_inside w l is_rwlock refl e

pub exit_lock : (w : Work) (l : LockId) → op_names (declared w) (op.Exit l) ≡ true → l.0 < length w.locks
exit_lock w l e =
    let less : nat_lt l.0 (length (declared w).locks) ≡ true = e in
    let inside : l.0 < length (declared w).locks = grind (arith, nat_tests) in
    let many : length (declared w).locks ≡ length w.locks = length-map w.locks (λ (x : Name × LockKind). x.1) in
    omega (arith, inside, many)

pub wait_chan : (w : Work) (k : ChanId) (l : LockId) → op_names (declared w) (op.CvWait k l) ≡ true → k.0 < length w.chans
wait_chan w k l e = chan_inside w k is_chan refl (and_left _ (is_mutex (slice_get (declared w).locks l.0)) e)

pub wait_lock : (w : Work) (k : ChanId) (l : LockId) → op_names (declared w) (op.CvWait k l) ≡ true → l.0 < length w.locks
wait_lock w k l e = lock_inside w l is_mutex refl (and_right (is_chan (slice_get (declared w).chans k.0)) _ e)

-- whatever operation it is

pub named_chan : (w : Work) (o : Op) (k : ChanId) → op_names (declared w) o ≡ true → chan_named o ≡ Some k → k.0 < length w.chans
named_chan w (op.Sleep j) k e is = subst (λ (x : ChanId). x.0 < length w.chans) (same_Some j k is) (sleep_chan w j e)
named_chan w (op.Wake j) k e is = subst (λ (x : ChanId). x.0 < length w.chans) (same_Some j k is) (sleep_chan w j e)
named_chan w (op.WakeAll j) k e is = subst (λ (x : ChanId). x.0 < length w.chans) (same_Some j k is) (sleep_chan w j e)
named_chan w (op.CvWait j l) k e is = subst (λ (x : ChanId). x.0 < length w.chans) (same_Some j k is) (wait_chan w j l e)
named_chan w (op.SemaP j) k e is = subst (λ (x : ChanId). x.0 < length w.chans) (same_Some j k is) (sema_chan w j e)
named_chan w (op.SemaV j) k e is = subst (λ (x : ChanId). x.0 < length w.chans) (same_Some j k is) (sema_chan w j e)
named_chan w o k e is = cc

pub named_lock : (w : Work) (o : Op) (l : LockId) → op_names (declared w) o ≡ true → lock_named o ≡ Some l → l.0 < length w.locks
named_lock w (op.Enter m) l e is = subst (λ (x : LockId). x.0 < length w.locks) (same_Some m l is) (enter_lock w m e)
named_lock w (op.Read m) l e is = subst (λ (x : LockId). x.0 < length w.locks) (same_Some m l is) (read_lock w m e)
named_lock w (op.Write m) l e is = subst (λ (x : LockId). x.0 < length w.locks) (same_Some m l is) (read_lock w m e)
named_lock w (op.Exit m) l e is = subst (λ (x : LockId). x.0 < length w.locks) (same_Some m l is) (exit_lock w m e)
named_lock w (op.CvWait k m) l e is = subst (λ (x : LockId). x.0 < length w.locks) (same_Some m l is) (wait_lock w k m e)
named_lock w o l e is = cc

pub assign_cpu : (w : Work) (d : CpuId) (to : SetId) → op_names (declared w) (op.Assign d to) ≡ true → d.0 < w.cpus
assign_cpu w d to e = let less : nat_lt d.0 w.cpus ≡ true = and_left _ (nat_le to.0 (length w.sets)) e in grind (arith, nat_tests)

pub assign_set : (w : Work) (d : CpuId) (to : SetId) → op_names (declared w) (op.Assign d to) ≡ true → to.0 ≤ length w.sets
assign_set w d to e = let less : nat_le to.0 (length w.sets) ≡ true = and_right (nat_lt d.0 w.cpus) _ e in grind (arith, nat_tests)

pub bind_cpu : (w : Work) (u : ThreadId) (d : Option CpuId) → op_names (declared w) (op.Pbind u d) ≡ true → IfSome d (λ x. x.0 < w.cpus)
bind_cpu w u d e = by d (and_right (nat_lt u.0 (length w.threads)) _ e)
  where
    by : (d : Option CpuId) → bound_fits w.cpus d ≡ true → IfSome d (λ x. x.0 < w.cpus)
    by None is = tt
    by (Some x) is = let less : nat_lt x.0 w.cpus ≡ true = is in let inside : x.0 < w.cpus = grind (arith, nat_tests) in inside

pub wanted_lock : (w : Work) (t i : ℕ) (o : Op) (l : LockId) (side : Side) → slice_get (script_of w t) i ≡ Some o → wants o ≡ Some (l, side) → l.0 < length w.locks
wanted_lock w t i (op.Enter m) l side at wanted = subst (λ (x : LockId). x.0 < length w.locks) (ap (λ x. x.0) (same_Some (m, Writer) (l, side) wanted)) (enter_lock w m (op_named w t i (op.Enter m) at))
wanted_lock w t i (op.Read m) l side at wanted = subst (λ (x : LockId). x.0 < length w.locks) (ap (λ x. x.0) (same_Some (m, Reader) (l, side) wanted)) (read_lock w m (op_named w t i (op.Read m) at))
wanted_lock w t i (op.Write m) l side at wanted = subst (λ (x : LockId). x.0 < length w.locks) (ap (λ x. x.0) (same_Some (m, Writer) (l, side) wanted)) (read_lock w m (op_named w t i (op.Write m) at))
wanted_lock w t i o l side at wanted = cc

-- the operation at which a thread acts is named by its script
pub acts_named : (w : Work) (s : State) (c t : ℕ) (o : Op) → Acts w s c t (Some o) → op_names (declared w) o ≡ true
acts_named w s c t o acts = op_named w t (thread_of s t).body.op o acts.stands

pub wants_lock : (w : Work) (s : State) (c t : ℕ) (l : LockId) (side : Side) → Wants w s c t l side → l.0 < length w.locks
wants_lock w s c t l side wanted = wanted_lock w t (thread_of s t).body.op wanted.by l side wanted.acts.stands wanted.wanted

-- Declarations.

pub set_of_there : (w : Work) (t : ℕ) → (set_of w t).0 ≤ length w.sets
set_of_there w t = by (slice_get w.threads t) refl
  where
    none : SetId
    none = record { 0 = 0 }

    by : (o : Option ThreadDecl) → slice_get w.threads t ≡ o → (unwrap_or (option_map (λ (d : ThreadDecl). d.set) o) none).0 ≤ length w.sets
    by None at = omega arith
    by (Some d) at =
        let fits : thread_fits (declared w) d ≡ true = all_at (thread_fits (declared w)) w.threads t d w.threads_fit at in
        let test : nat_le d.set.0 (length w.sets) ≡ true = and_right (class_fits d.class d.cpupri) _ (and_left _ (list_all (op_names (declared w)) d.script.ops) fits) in
        grind (arith, nat_tests)
