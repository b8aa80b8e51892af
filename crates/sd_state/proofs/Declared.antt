-- The declared threads of a valid workload, and where the initial state has each.
use Rattle.std.proofs.Common.{◌≡◌, ℕ, zero, suc, ◌+◌, ◌<◌, ◌≤◌, true, ◌&&◌, leb, List, [], ◌∷◌, length, get_or, Option, Some, None, refl, sym, ap, subst, ◌∙◌, zero-add, arith}
use Rattle.std.specs.Prelude.{slice_get, option_map, unwrap_or}
use Rattle.std.proofs.lemmas.Bool.{and_parts, leb-true}
use Rattle.std.proofs.lemmas.List.{get_or_past}
use Rattle.std.proofs.lemmas.List.Sums.{AllPass-from_list_all}
use Rattle.std.proofs.lemmas.Option.{get_or_from_slice_get, slice_get_within}
use Rattle.sd_types.specs.declared.works.ThreadDecl.{ThreadDecl}
use Rattle.sd_types.specs.declared.works.Work.{Work}
use Rattle.sd_types.specs.Works.{class_fits, thread_fits, declared_of, Declared}
use Rattle.sd_state.specs.declared.states.ThreadState.{ThreadState}
use Rattle.sd_state.specs.States.{thread_of, no_thread, set_of}
use Rattle.sd_state.specs.Opening.{opening, first_threads, first_thread}
use Rattle.sd_state.proofs.OpeningLemmas.{length-first_threads}

slice_get-past : {X : Type 0} (xs : List X) (i : ℕ) → slice_get xs i ≡ None → length xs ≤ i
slice_get-past [] i e = omega arith
slice_get-past (y ∷ ys) zero e = cc
slice_get-past (y ∷ ys) (suc i) e = omega (arith, slice_get-past ys i e)

-- what a workload declares, as far as scripts name it
abbrev pub declared : Work → Declared
declared w = declared_of w.cpus w.sets w.locks w.chans w.threads

module _ (w : Work) (t : ℕ) where
  -- the thread that is declared with this number
  module _ (d : ThreadDecl) (is : slice_get w.threads t ≡ Some d) where
    pub decl_inside : t < length w.threads
    decl_inside = slice_get_within w.threads t d is

    pub decl_set : set_of w t ≡ d.set
    decl_set = ap (λ (o : Option ThreadDecl). unwrap_or (option_map (λ x. x.set) o) (record { 0 = 0 })) is

    pub decl_fits : thread_fits (declared w) d ≡ true
    decl_fits =
        ap (thread_fits (declared w)) (sym (get_or_from_slice_get w.threads t d d is))
        ∙ AllPass-from_list_all (thread_fits (declared w)) w.threads w.threads_fit t d decl_inside

    pub decl_class_fits : class_fits d.class d.cpupri ≡ true
    decl_class_fits =
        let front = and_parts (class_fits d.class d.cpupri && leb d.set.0 (length w.sets)) _ decl_fits in
        (and_parts (class_fits d.class d.cpupri) (leb d.set.0 (length w.sets)) front.0).0

    pub decl_set_there : d.set.0 ≤ length w.sets
    decl_set_there =
        let front = and_parts (class_fits d.class d.cpupri && leb d.set.0 (length w.sets)) _ decl_fits in
        leb-true d.set.0 (length w.sets) (and_parts (class_fits d.class d.cpupri) (leb d.set.0 (length w.sets)) front.0).1

first_thread_at : (w : Work) (k : ℕ) (ds : List ThreadDecl) (t : ℕ) (d : ThreadDecl) → slice_get ds t ≡ Some d → get_or (first_threads w k ds) t no_thread ≡ first_thread w (k + t) d
first_thread_at w k [] t d e = cc
first_thread_at w k (x ∷ xs) zero d e = let same : x ≡ d = cc in ap (first_thread w k) same ∙ ap (λ m. first_thread w m d) (let q : k ≡ k + zero = omega arith in q)
first_thread_at w k (x ∷ xs) (suc t) d e = first_thread_at w (k + 1) xs t d e ∙ ap (λ m. first_thread w m d) (let q : k + 1 + t ≡ k + suc t = omega arith in q)

-- what is so of each declared thread, and of one that is none, is so of every thread of the initial state
pub opening_each : (w : Work) (t : ℕ) (P : ThreadState → Type 0) → P no_thread → ((d : ThreadDecl) → slice_get w.threads t ≡ Some d → P (first_thread w t d)) → P (thread_of (opening w) t)
unfolding opening
opening_each w t P none each = by (slice_get w.threads t) refl
  where
    by : (o : Option ThreadDecl) → slice_get w.threads t ≡ o → P (thread_of (opening w) t)
    by None e =
        let len = length-first_threads w 0 w.threads in
        let past = slice_get-past w.threads t e in
        subst P (sym (get_or_past (first_threads w 0 w.threads) t no_thread (omega arith))) none
    by (Some d) e = subst P (sym (first_thread_at w 0 w.threads t d e ∙ ap (λ m. first_thread w m d) (zero-add t))) (each d e)
