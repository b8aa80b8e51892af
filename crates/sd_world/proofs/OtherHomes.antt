-- A home in which none of the parts lies that an event touches stands as it was.
use Rattle.std.proofs.Common.{◌≡◌, ℕ, ◌+◌, ◌%◌, ◌<◌, ◌≤◌, ◌⊎◌, true, false, ◌&&◌, List, [], ◌∷◌, length, Some, None, refl, ap, ◌∙◌, sym, subst, inl, inr, slice_get}
use Rattle.std.specs.Prelude.{nat_lt}
use Rattle.std.proofs.Math.Nat.{le-add_right}
use Rattle.std.proofs.lemmas.Bool.{cases_lt, eqb-true}
use Rattle.std.proofs.lemmas.Option.{slice_get-get_or, slice_get_past}
use Rattle.sd_basics.proofs.Truths.{and_right}
use Rattle.sd_types.specs.declared.numbers.HomeId.{HomeId}
use Rattle.sd_types.specs.declared.numbers.HomeId.TheVariants as id
use Rattle.sd_state.specs.declared.states.State.{State}
use Rattle.sd_state.specs.declared.states.ThreadState.{ThreadState}
use Rattle.sd_state.specs.States.{cpu_of, no_thread, thread_of}
use Rattle.sd_machine.specs.Threads.{count_of, lock_of, open_of}
use Rattle.sd_machine.proofs.ShapeLemmas.{IsShaped}
use Rattle.sd_store.specs.declared.parts.Part.{Part}
use Rattle.sd_store.specs.declared.parts.Part.TheVariants.{Home as HomePart, Thread}
use Rattle.sd_store.specs.Parts.{view_of}
use Rattle.sd_homes.specs.declared.list_id.ListId.{ListId}
use Rattle.sd_homes.specs.Standing.{Lists, home_at, listed, look_of, stands}
use Rattle.sd_homes.proofs.StandingLemmas.{lists-more, stands_elsewhere}
use Rattle.sd_homes.specs.declared.home.Home.{Home}
use Rattle.sd_homes.specs.declared.home.Home.TheVariants.{Cpu, RealTime, Chain, Sleepers}
use Rattle.sd_homes.specs.Families.{home_id, list_in}
use Rattle.sd_hand.specs.Frames.{Stays}
use Rattle.sd_hand.specs.Shown.{PartsShown}
use Rattle.sd_footprint.specs.Changed.{ChangesOnly, HasHome, IsNamed, MovesWithin}
use Rattle.sd_world.specs.Frames.{IsElsewhere}
use Rattle.sd_homes.specs.Standing.{home_of}

-- the number of the home is none of the parts
lies_elsewhere : (s : State) (ps : List Part) (h : Home) (k : HomeId) → IsElsewhere s ps h → HasHome ps k → k ≡ home_id h → ⊥
lies_elsewhere s ps h k apart is same = apart (HomePart k) is (ap Some same)

named_elsewhere : (s : State) (ps : List Part) (h : Home) (t : ℕ) → IsElsewhere s ps h → IsNamed ps t (thread_of s t) → home_of (thread_of s t) ≡ home_id h → ⊥
named_elsewhere s ps h t apart (inl is) same = apart (Thread (record { 0 = t })) is (ap Some same)
named_elsewhere s ps h t apart (inr is) same = lies_elsewhere s ps h (home_of (thread_of s t)) apart is same

listed_none : (sp : ListId) (t : ℕ) (x : ThreadState) → stands sp x ≡ false → listed sp t (Some x) ≡ None
listed_none sp t x off = rw off refl

-- the thread stands in the home after the event exactly where it stood there before
listed_same : (s new : State) (ps : List Part) (h : Home) (sp : ListId) (t : ℕ) → IsShaped s new → ChangesOnly ps s new → IsElsewhere s ps h → home_at sp ≡ home_id h
    → listed sp t (look_of s t) ≡ listed sp t (look_of new t)
listed_same s new ps h sp t shape only apart at = by (cases_lt t (length s.threads))
  where
    moved : (homes : (home_of (thread_of new t) ≡ home_of (thread_of s t)) ⊎ HasHome ps (home_of (thread_of new t))) → IsNamed ps t (thread_of s t) → home_of (thread_of new t) ≡ home_id h → ⊥
    moved (inl same) named e = named_elsewhere s ps h t apart named (sym same ∙ e)
    moved (inr is) named e = lies_elsewhere s ps h (home_of (thread_of new t)) apart is e

    goes : (thread_of new t ≡ thread_of s t) ⊎ MovesWithin ps t (thread_of s t) (thread_of new t) → listed sp t (Some (thread_of s t)) ≡ listed sp t (Some (thread_of new t))
    goes (inl same) = ap (λ x. listed sp t (Some x)) (sym same)
    goes (inr m) =
        listed_none sp t (thread_of s t) (stands_elsewhere sp (home_id h) (thread_of s t) at (λ e. named_elsewhere s ps h t apart m.named (sym e)))
        ∙ sym (listed_none sp t (thread_of new t) (stands_elsewhere sp (home_id h) (thread_of new t) at (λ e. moved m.home m.named (sym e))))

    by : (t < length s.threads) ⊎ (length s.threads ≤ t) → listed sp t (look_of s t) ≡ listed sp t (look_of new t)
    by (inl inside) =
        ap (λ o. listed sp t o) (slice_get-get_or s.threads t no_thread inside) ∙ (goes (only.threads t)
        ∙ ap (λ o. listed sp t o) (sym (slice_get-get_or new.threads t no_thread (subst (λ k. t < k) (sym shape.threads) inside))))
    by (inr past) = ap (λ o. listed sp t o) (slice_get_past s.threads t past ∙ sym (slice_get_past new.threads t (subst (λ k. k ≤ t) (sym shape.threads) past)))

-- what is beside its threads
kept_or : {X : Type 0} {Q : Type 0} (x y : X) → (y ≡ x) ⊎ Q → (Q → ⊥) → x ≡ y
kept_or x y (inl same) never = sym same
kept_or x y (inr q) never = absurd (never q)

parts_same : (s new : State) (ps : List Part) (h : Home) → IsShaped s new → ChangesOnly ps s new → IsElsewhere s ps h → PartsShown s h → PartsShown new h
parts_same s new ps (Cpu h) shape only apart p =
    (p.0 ∙ kept_or (view_of (cpu_of s h.cpu.0)) _ (only.cpus h.cpu.0) (λ is. lies_elsewhere s ps (Cpu h) _ apart is refl), subst (λ k. h.cpu.0 < k) (sym shape.cpus) p.1)
parts_same s new ps (RealTime h) shape only apart p =
    (p.0 ∙ kept_or (open_of s h.set.0) _ (only.sets h.set.0) (λ is. lies_elsewhere s ps (RealTime h) _ apart is refl), subst (λ k. h.set.0 < k) (sym shape.sets) p.1)
parts_same s new ps (Chain h) shape only apart p =
    (p.0, p.1, λ l is. p.2 l is ∙ kept_or (lock_of s l) _ (only.locks l) (λ there. lies_elsewhere s ps (Chain h) _ apart there (ap id.Chain (eqb-true (l % 64) h.turnstiles.chain (and_right (nat_lt l 256) _ is)))))
parts_same s new ps (Sleepers h) shape only apart p =
    (p.0, p.1, λ k is. p.2 k is ∙ kept_or (count_of s k) _ (only.chans k) (λ there. lies_elsewhere s ps (Sleepers h) _ apart there (ap id.Sleepers (eqb-true (k % 64) h.sleepers.chain (and_right (nat_lt k 256) _ is)))))

pub other_home : (n : ℕ) (s new : State) (ps : List Part) (h : Home) → IsShaped s new → ChangesOnly ps s new → IsElsewhere s ps h → Stays n (n + 1) s new h
other_home n s new ps h shape only apart is = record {
  lists = λ sp at. by sp at (lists-more n (n + 1) sp (list_in h sp) (look_of s) (le-add_right n 1) (is.lists sp at));
  parts = parts_same s new ps h shape only apart is.parts;
}
  where
    by : (sp : ListId) → home_at sp ≡ home_id h → Lists (n + 1) sp (list_in h sp) (look_of s) → Lists (n + 1) sp (list_in h sp) (look_of new)
    by sp at l = record { each = λ t. l.each t ∙ listed_same s new ps h sp t shape only apart at; once = l.once; arranged = l.arranged }
