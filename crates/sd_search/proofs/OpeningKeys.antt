-- The keys of the initial state are the numbers of the threads.
use Rattle.std.proofs.Common.{◌≡◌, ℕ, zero, suc, ◌+◌, ◌<◌, ◌≤◌, Bool, true, false, List, [], ◌∷◌, Some, length, map, slice_get, get_or, pos, int_lt, arith}
use Rattle.std.specs.Prelude.{IfSome, if◌then◌else◌}
use Rattle.std.specs.List.{range_with_len}
use Rattle.std.proofs.lemmas.Bool.Decides.{nat_tests}
use Rattle.std.proofs.lemmas.Int.{ints}
use Rattle.sd_basics.proofs.Numbers.{int_below_zero}
use Rattle.sd_types.specs.declared.numbers.CpuId.{CpuId}
use Rattle.sd_types.specs.declared.numbers.SetId.{SetId}
use Rattle.sd_types.specs.declared.works.ThreadDecl.{ThreadDecl}
use Rattle.sd_types.specs.declared.works.Work.{Work}
use Rattle.sd_state.specs.declared.states.Place.TheVariants.{Queued, RealTime}
use Rattle.sd_state.specs.States.{no_cpu, thread_of}
use Rattle.sd_state.specs.Opening.{first_cpu, first_cpu_state, first_thread, is_urgent, opening}
use Rattle.sd_state.proofs.Declared.{decl_inside, opening_each}
use Rattle.sd_machine.specs.Changes.{back_key}
use Rattle.sd_encoding.specs.Order.{Holder, OfThread, OfCpu, IsKeyBefore, IsSleeperKey, KeysFit, key_at, key_held, key_in}

first_back : (t m : ℕ) → t < 4096 → int_lt (pos t) (back_key m) ≡ true
first_back t m h = grind (arith, nat_tests, ints)

first_key : (t : ℕ) → t < 4096 → IsKeyBefore 0 (pos t)
first_key t h = record { back = λ m l. first_back t m h; front = λ m l. int_below_zero t m }

place_fits : (test : Bool) (t : ℕ) (p : SetId) (c : CpuId) → t < 4096 → IfSome (key_at (if test then RealTime p (pos t) else Queued c (pos t))) (IsKeyBefore 0)
place_fits true t p c h = first_key t h
place_fits false t p c h = first_key t h

place_wakes : (test : Bool) (t : ℕ) (p : SetId) (c : CpuId) → IsSleeperKey (if test then RealTime p (pos t) else Queued c (pos t))
place_wakes true t p c = tt
place_wakes false t p c = tt

threads_fit : (w : Work) (t : ℕ) → IfSome (key_at (thread_of (opening w) t).place) (IsKeyBefore 0)
unfolding first_thread
threads_fit w t = opening_each w t (λ x. IfSome (key_at x.place) (IsKeyBefore 0)) tt each
  where
    each : (d : ThreadDecl) → slice_get w.threads t ≡ Some d → IfSome (key_at (first_thread w t d).place) (IsKeyBefore 0)
    each d is =
        let there = decl_inside w t d is in
        let few : length w.threads ≤ 2048 = w.most_threads in
        place_fits (is_urgent d) t d.set (first_cpu w t d) (omega arith)

threads_wake : (w : Work) (t : ℕ) → IsSleeperKey (thread_of (opening w) t).place
unfolding first_thread
threads_wake w t = opening_each w t (λ x. IsSleeperKey x.place) tt (λ d is. place_wakes (is_urgent d) t d.set (first_cpu w t d))

cpus_fit : (w : Work) (xs : List ℕ) (c : ℕ) → IfSome (key_in (get_or (map (first_cpu_state w) xs) c no_cpu).duty) (IsKeyBefore 0)
unfolding first_cpu_state
cpus_fit w [] c = tt
cpus_fit w (x ∷ xs) zero = tt
cpus_fit w (x ∷ xs) (suc c) = cpus_fit w xs c

pub opening_keys : (w : Work) → KeysFit 0 (opening w)
unfolding opening
opening_keys w = record { before = each; sleepers = threads_wake w }
  where
    each : (a : Holder) → IfSome (key_held (opening w) a) (IsKeyBefore 0)
    each (OfThread t) = threads_fit w t
    each (OfCpu c) = cpus_fit w (range_with_len 0 w.cpus) c
