-- Homes without threads, with the locks and the counts of a state.
use Rattle.std.proofs.Common.{◌≡◌, ℕ, ◌+◌, ◌<◌, ◌/◌, ◌%◌, zero, suc, Bool, true, false, List, [], ◌∷◌, length, get_or, set, refl, sym, ap, ◌∙◌, subst, arith}
use Rattle.sd_types.specs.declared.numbers.CpuId.{CpuId}
use Rattle.sd_types.specs.declared.numbers.SetId.{SetId}
use Rattle.sd_types.specs.declared.numbers.Side.{Side}
use Rattle.sd_types.specs.declared.numbers.Side.TheVariants.{Writer, Reader}
use Rattle.sd_state.specs.declared.states.LockState.{LockState}
use Rattle.sd_state.specs.declared.states.LockState.TheVariants.{Free}
use Rattle.sd_state.specs.declared.states.State.{State}
use Rattle.sd_state.specs.States.{cpu_of}
use Rattle.sd_machine.specs.Threads.{count_of, lock_of, open_of}
use Rattle.sd_record.specs.Records.{ThreadRecord}
use Rattle.sd_store.specs.Parts.{view_of}
use Rattle.sd_turnstile.specs.Waiters.{Waiters, nobody, on_side}
use Rattle.sd_homes.specs.declared.list_id.ListId.{ListId}
use Rattle.sd_homes.specs.declared.list_id.ListId.TheVariants.{Runs, Queues, Urgent, Waits, Sleeps, Naps, Ends}
use Rattle.sd_homes.specs.declared.home.Home.TheVariants.{Cpu, RealTime, Chain, Sleepers}
use Rattle.sd_homes.specs.Homes.{OfChain, OfSleepers, empty_chain, empty_cpu, empty_set, empty_sleepers, is_chan_of, is_of, with_states}
use Rattle.sd_homes.specs.Families.{list_in}
use Rattle.sd_hand.proofs.HomeLemmas.{of_asleep, of_chain}
use Rattle.sd_world.specs.Homes.{IsBare}

-- four values, by a number of this residue modulo 64
quarter : {X : Type 0} (f : ℕ → X) (d : X) (i m : ℕ) → i < 64 → m < 256 → m % 64 ≡ i → get_or (f i ∷ (f (i + 64) ∷ (f (i + 128) ∷ (f (i + 192) ∷ [])))) (m / 64) d ≡ f m
quarter f d i m small below residue = by (m / 64) refl
  where
    by : (q : ℕ) → m / 64 ≡ q → get_or (f i ∷ (f (i + 64) ∷ (f (i + 128) ∷ (f (i + 192) ∷ [])))) q d ≡ f m
    by zero e = ap f (let same : i ≡ m = omega arith in same)
    by (suc zero) e = ap f (let same : i + 64 ≡ m = omega arith in same)
    by (suc (suc zero)) e = ap f (let same : i + 128 ≡ m = omega arith in same)
    by (suc (suc (suc zero))) e = ap f (let same : i + 192 ≡ m = omega arith in same)
    by (suc (suc (suc (suc q)))) e = absurd (omega arith)

four_set : {X : Type 0} (x a b c d : X) (i : ℕ) → i < 64
    → set (set (set (set (x ∷ (x ∷ (x ∷ (x ∷ [])))) (i / 64) a) ((i + 64) / 64) b) ((i + 128) / 64) c) ((i + 192) / 64) d ≡ a ∷ (b ∷ (c ∷ (d ∷ [])))
four_set x a b c d i small =
    let first : i / 64 ≡ 0 = omega arith in
    let second : (i + 64) / 64 ≡ 1 = omega arith in
    let third : (i + 128) / 64 ≡ 2 = omega arith in
    let fourth : (i + 192) / 64 ≡ 3 = omega arith in
    rw (first, second, third, fourth) refl

-- a processor and a real-time queue
pub cpu_is_bare : (s : State) (c : CpuId) → c.0 < length s.cpus → IsBare s (Cpu (empty_cpu c (view_of (cpu_of s c.0))))
cpu_is_bare s c inside = record { lists = none; parts = (refl, inside) }
  where
    none : (sp : ListId) → list_in (Cpu (empty_cpu c (view_of (cpu_of s c.0)))) sp ≡ []
    none (Runs d) = refl
    none (Queues d) = refl
    none (Naps d) = refl
    none (Ends d) = refl
    none _ = refl

pub set_is_bare : (s : State) (p : SetId) → p.0 < length s.open_cpus → IsBare s (RealTime (empty_set p (open_of s p.0)))
set_is_bare s p inside = record { lists = none; parts = (refl, inside) }
  where
    none : (sp : ListId) → list_in (RealTime (empty_set p (open_of s p.0))) sp ≡ []
    none (Urgent q) = refl
    none _ = refl

-- nobody waits in a chain without threads, and nobody sleeps
none_of : {X : Type 0} (x : X) (q : ℕ) → get_or (x ∷ (x ∷ (x ∷ (x ∷ [])))) q x ≡ x
none_of x zero = refl
none_of x (suc zero) = refl
none_of x (suc (suc zero)) = refl
none_of x (suc (suc (suc zero))) = refl
none_of x (suc (suc (suc (suc q)))) = refl

abbrev pub all_idle : List (Waiters ThreadRecord)
all_idle = nobody ∷ (nobody ∷ (nobody ∷ (nobody ∷ [])))

no_waiters : (q : ℕ) (side : Side) → on_side (get_or all_idle q nobody) side ≡ []
no_waiters q Writer = ap (λ (w : Waiters ThreadRecord). on_side w Writer) (none_of nobody q)
no_waiters q Reader = ap (λ (w : Waiters ThreadRecord). on_side w Reader) (none_of nobody q)

four_locks : State → ℕ → List LockState
four_locks s i = lock_of s i ∷ (lock_of s (i + 64) ∷ (lock_of s (i + 128) ∷ (lock_of s (i + 192) ∷ [])))

chain_with : State → ℕ → OfChain
chain_with s i = with_states (four_locks s i) (empty_chain i)

chain_bare : (s : State) (i : ℕ) → i < 64 → IsBare s (Chain (chain_with s i))
unfolding chain_with four_locks
chain_bare s i small = record {
  lists = none;
  parts = (refl, refl, λ l is. let of = of_chain (chain_with s i).turnstiles l is in quarter (lock_of s) Free i l small of.0 of.1);
}
  where
    none : (sp : ListId) → list_in (Chain (chain_with s i)) sp ≡ []
    none (Waits l side) = by (is_of (chain_with s i).turnstiles l.0) refl
      where
        by : (b : Bool) → is_of (chain_with s i).turnstiles l.0 ≡ b → list_in (Chain (chain_with s i)) (Waits l side) ≡ []
        by true e = rw e (no_waiters (l.0 / 64) side)
        by false e = rw e refl
    none _ = refl

-- the chain whose locks were changed one after another
pub chain_is_bare : (s : State) (i : ℕ) → i < 64
    → IsBare s (Chain (with_states (set (set (set (set (empty_chain i).states (i / 64) (lock_of s i)) ((i + 64) / 64) (lock_of s (i + 64))) ((i + 128) / 64) (lock_of s (i + 128))) ((i + 192) / 64) (lock_of s (i + 192))) (empty_chain i)))
unfolding chain_with four_locks
chain_is_bare s i small =
    subst (λ xs. IsBare s (Chain (with_states xs (empty_chain i)))) (sym (four_set Free (lock_of s i) (lock_of s (i + 64)) (lock_of s (i + 128)) (lock_of s (i + 192)) i small)) (chain_bare s i small)

four_counts : State → ℕ → List ℕ
four_counts s i = count_of s i ∷ (count_of s (i + 64) ∷ (count_of s (i + 128) ∷ (count_of s (i + 192) ∷ [])))

pub sleepers_are_bare : (s : State) (i : ℕ) → i < 64 → IsBare s (Sleepers (empty_sleepers i (count_of s i ∷ (count_of s (i + 64) ∷ (count_of s (i + 128) ∷ (count_of s (i + 192) ∷ []))))))
sleepers_are_bare s i small = record {
  lists = none;
  parts = (refl, refl, λ k is. let of = of_asleep (empty_sleepers i (four_counts s i)).sleepers k is in quarter (count_of s) 0 i k small of.0 of.1);
}
  where
    none : (sp : ListId) → list_in (Sleepers (empty_sleepers i (four_counts s i))) sp ≡ []
    none (Sleeps k) = by (is_chan_of (empty_sleepers i (four_counts s i)).sleepers k.0) refl
      where
        by : (b : Bool) → is_chan_of (empty_sleepers i (four_counts s i)).sleepers k.0 ≡ b → list_in (Sleepers (empty_sleepers i (four_counts s i))) (Sleeps k) ≡ []
        by true e = rw e (none_of [] (k.0 / 64))
        by false e = rw e refl
    none _ = refl

-- the chain as its locks are changed, one after another
abbrev pub step : OfChain → ℕ → LockState → OfChain
step h l x = with_states (set h.states (l / 64) x) h

pub four_steps : (s : State) (i f : ℕ) (h0 h1 h2 h3 h4 v : OfChain) (x0 x1 x2 x3 : LockState) → i < 64 → h0 ≡ empty_chain i → f ≡ i
    → x0 ≡ lock_of s f → x1 ≡ lock_of s (f + 64) → x2 ≡ lock_of s (f + 128) → x3 ≡ lock_of s (f + 192)
    → h1 ≡ step h0 f x0 → h2 ≡ step h1 (f + 64) x1 → h3 ≡ step h2 (f + 128) x2 → h4 ≡ step h3 (f + 192) x3 → v ≡ h4 → (Chain v ≡ Chain (step (step (step (step (empty_chain i) i (lock_of s i)) (i + 64) (lock_of s (i + 64))) (i + 128) (lock_of s (i + 128))) (i + 192) (lock_of s (i + 192))))
four_steps s i f h0 h1 h2 h3 h4 v x0 x1 x2 x3 small begins is l0 l1 l2 l3 e1 e2 e3 e4 ends =
    ap Chain (ends ∙ (e4 ∙ (λ j. step (third j) (is j + 192) ((l3 ∙ ap (λ n. lock_of s (n + 192)) is) j))))
  where
    first : h1 ≡ step (empty_chain i) i (lock_of s i)
    first = e1 ∙ (λ j. step (begins j) (is j) ((l0 ∙ ap (λ n. lock_of s n) is) j))

    second : h2 ≡ step (step (empty_chain i) i (lock_of s i)) (i + 64) (lock_of s (i + 64))
    second = e2 ∙ (λ j. step (first j) (is j + 64) ((l1 ∙ ap (λ n. lock_of s (n + 64)) is) j))

    third : h3 ≡ step (step (step (empty_chain i) i (lock_of s i)) (i + 64) (lock_of s (i + 64))) (i + 128) (lock_of s (i + 128))
    third = e3 ∙ (λ j. step (second j) (is j + 128) ((l2 ∙ ap (λ n. lock_of s (n + 128)) is) j))

pub four_tokens : (s : State) (i f n0 n1 n2 n3 : ℕ) (counts : List ℕ) (made v : OfSleepers) → f ≡ i → n0 ≡ count_of s f → n1 ≡ count_of s (f + 64) → n2 ≡ count_of s (f + 128) → n3 ≡ count_of s (f + 192)
    → counts ≡ n0 ∷ (n1 ∷ (n2 ∷ (n3 ∷ []))) → made ≡ empty_sleepers i counts → v ≡ made
    → Sleepers v ≡ Sleepers (empty_sleepers i (count_of s i ∷ (count_of s (i + 64) ∷ (count_of s (i + 128) ∷ (count_of s (i + 192) ∷ [])))))
four_tokens s i f n0 n1 n2 n3 counts made v is e0 e1 e2 e3 listed new ends =
    ap Sleepers (ends ∙ (new ∙ ap (empty_sleepers i) (listed
    ∙ (λ j. (e0 ∙ ap (λ n. count_of s n) is) j ∷ ((e1 ∙ ap (λ n. count_of s (n + 64)) is) j ∷ ((e2 ∙ ap (λ n. count_of s (n + 128)) is) j ∷ ((e3 ∙ ap (λ n. count_of s (n + 192)) is) j ∷ [])))))))
