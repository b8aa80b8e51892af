-- The initial state, thread by thread and processor by processor.
use Rattle.std.proofs.Common.{◌≡◌, ℕ, ◌<◌, true, false, length, cond, map, inl, inr, pos, refl, ap, ◌∙◌, arith}
use Rattle.std.proofs.lemmas.Bool.{false≢true, cases_lt}
use Rattle.std.specs.List.{range_with_len}
use Rattle.std.proofs.lemmas.List.{get_or_past}
use Rattle.std.proofs.lemmas.List.FromFn.{get_or-map-range_with_len, length-map-range_with_len}
use Rattle.sd_types.specs.declared.works.ThreadDecl.{ThreadDecl}
use Rattle.sd_types.specs.declared.works.Work.{Work}
use Rattle.sd_state.specs.declared.states.Place.TheVariants.{Queued, RealTime}
use Rattle.sd_state.specs.States.{no_cpu, cpu_of, is_running, key_of, thread_of}
use Rattle.sd_state.specs.Opening.{first_thread, first_cpu, first_cpu_state, is_urgent, opening}
use Rattle.sd_state.specs.Invariants.{has_key, is_marked}
use Rattle.sd_state.proofs.Declared.{decl_inside, opening_each}

first_not_running : (w : Work) (k : ℕ) (d : ThreadDecl) (c : ℕ) → is_running c (first_thread w k d).place ≡ false
unfolding first_thread
first_not_running w k d c = elim (is_urgent d) as (λ v. is_running c (cond v (RealTime d.set (pos k)) (Queued (first_cpu w k d) (pos k))) ≡ false) [ true ↦ refl | false ↦ refl ]

-- no thread runs in the initial state
pub opening_runs_none : (w : Work) (t c : ℕ) → is_running c (thread_of (opening w) t).place ≡ false
opening_runs_none w t c = opening_each w t (λ x. is_running c x.place ≡ false) refl (λ d is. first_not_running w t d c)

first_key : (w : Work) (k : ℕ) (d : ThreadDecl) → key_of (first_thread w k d).place ≡ pos k
unfolding first_thread
first_key w k d = elim (is_urgent d) as (λ v. key_of (cond v (RealTime d.set (pos k)) (Queued (first_cpu w k d) (pos k))) ≡ pos k) [ true ↦ refl | false ↦ refl ]

-- a thread that has a key in the initial state has its number as key
pub opening_key : (w : Work) (t : ℕ) → has_key (thread_of (opening w) t).place ≡ true → (t < length w.threads) × (key_of (thread_of (opening w) t).place ≡ pos t)
opening_key w t =
    opening_each w t (λ x. has_key x.place ≡ true → (t < length w.threads) × (key_of x.place ≡ pos t)) (λ has. absurd (false≢true has)) (λ d is has. (decl_inside w t d is, first_key w t d))

first_unmarked : (w : Work) (c : ℕ) → is_marked (first_cpu_state w c) ≡ false
unfolding first_cpu_state
first_unmarked w c = refl

-- no processor is marked in the initial state
pub opening_unmarked : (w : Work) (c : ℕ) → is_marked (cpu_of (opening w) c) ≡ false
unfolding opening
opening_unmarked w c = elim (cases_lt c w.cpus) [
  | inl here ↦ ap is_marked (get_or-map-range_with_len (first_cpu_state w) 0 w.cpus c c no_cpu here (omega arith)) ∙ first_unmarked w c
  | inr past ↦ ap is_marked (get_or_past (map (first_cpu_state w) (range_with_len 0 w.cpus)) c no_cpu (let e = length-map-range_with_len (first_cpu_state w) 0 w.cpus in omega arith))
]
