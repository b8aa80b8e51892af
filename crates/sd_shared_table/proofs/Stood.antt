-- The state of every run stands in homes.
use Rattle.std.proofs.Common.{◌≡◌, ℕ, zero, suc, ◌+◌, ◌-◌, ◌<◌, ◌≤◌, true, List, [], ◌∷◌, ◌++◌, length, is_some, take, Option, Some, None, refl, sym, ap, ◌∙◌, subst, ⊎_elim, arith}
use Rattle.std.proofs.lemmas.Bool.{cases_lt, false≢true}
use Rattle.std.proofs.lemmas.List.{length-take-le}
use Rattle.sd_types.specs.declared.numbers.HomeId.{HomeId}
use Rattle.sd_types.specs.declared.numbers.HomeId.TheVariants as id
use Rattle.sd_types.specs.declared.events.Entry.{Entry}
use Rattle.sd_types.specs.declared.works.Work.{Work}
use Rattle.sd_state.specs.declared.states.State.{State}
use Rattle.sd_state.specs.Opening.{opening}
use Rattle.sd_state.specs.States.{cpu_of, thread_of}
use Rattle.sd_machine.specs.Runs.{IsReached, IsRun, state_at}
use Rattle.sd_machine.specs.Threads.{open_of}
use Rattle.sd_machine.proofs.RunLemmas.{IsRun-from, IsRunFrom-take, from-IsRun}
use Rattle.sd_record.specs.Records.{ThreadRecord}
use Rattle.sd_invariants.proofs.Ready.{reached_ready}
use Rattle.sd_store.specs.Parts.{view_of}
use Rattle.sd_homes.specs.Standing.{home_at, insert_at, list_of, record_of}
use Rattle.sd_homes.specs.declared.list_id.ListId.{ListId}
use Rattle.sd_homes.specs.declared.home.Home.{Home}
use Rattle.sd_homes.specs.declared.home.Home.TheVariants.{Cpu, RealTime}
use Rattle.sd_homes.specs.Families.{home_id, list_in, putting}
use Rattle.sd_homes.specs.Homes.{empty_cpu, empty_set}
use Rattle.sd_hand.specs.Hands.{AreApart, IsHeld, edit, held}
use Rattle.sd_hand.specs.OneHome.{AreAllHomes, StandsInHomes}
use Rattle.sd_hand.proofs.HomeLemmas.{keeps-with_list}
use Rattle.sd_hand.proofs.SlotLemmas.{apart-edit, edit_held}
use Rattle.sd_world.specs.Homes.{AllHomes, AreBare, IsBare, IsNumber, IsNumberAt, Sizes, how_many, sizes_of}
use Rattle.sd_world.specs.Plain.{HasStood}
use Rattle.sd_world.proofs.BareLemmas.{chain_is_bare, cpu_is_bare, set_is_bare, sleepers_are_bare}
use Rattle.sd_world.proofs.ComeLemmas.{Settling, bare_more, bare_none, bare_placed, one_list, settles_first, settles_last, settles_next, shows_none, home_of_number, number_of_home}
use Rattle.sd_world.proofs.NumberLemmas.{placed_apart, placed_only}

-- the home of an index
pub number_of : (z : Sizes) (i : ℕ) → i < how_many z → (k : HomeId) × IsNumberAt z i k
number_of z i below = ⊎_elim cpu (λ past. ⊎_elim (set_at past) (λ far. ⊎_elim (chain far) (sleepers far) (cases_lt i (z.cpus + z.sets + 64))) (cases_lt i (z.cpus + z.sets))) (cases_lt i z.cpus)
  where
    cpu : i < z.cpus → (k : HomeId) × IsNumberAt z i k
    cpu b = (id.Cpu (record { 0 = i }), (refl, b))

    set_at : z.cpus ≤ i → i < z.cpus + z.sets → (k : HomeId) × IsNumberAt z i k
    set_at past b = (id.RealTime (record { 0 = i - z.cpus }), ((omega arith), (omega arith)))

    chain : z.cpus + z.sets ≤ i → i < z.cpus + z.sets + 64 → (k : HomeId) × IsNumberAt z i k
    chain far b = (id.Chain (i - (z.cpus + z.sets)), ((omega arith), (omega arith)))

    sleepers : z.cpus + z.sets ≤ i → z.cpus + z.sets + 64 ≤ i → (k : HomeId) × IsNumberAt z i k
    sleepers far past = (id.Sleepers (i - (z.cpus + z.sets + 64)), ((omega arith), (omega arith)))

module _ (s : State) where
  -- each home without its threads
  bare_of : (k : HomeId) → IsNumber (sizes_of s) k → (h : Home) × (home_id h ≡ k) × IsBare s h
  bare_of (id.Cpu c) is = (Cpu (empty_cpu c (view_of (cpu_of s c.0))), refl, cpu_is_bare s c is)
  bare_of (id.RealTime p) is = (RealTime (empty_set p (open_of s p.0)), refl, set_is_bare s p is)
  bare_of (id.Chain i) is = (_, refl, chain_is_bare s i is)
  bare_of (id.Sleepers i) is = (_, refl, sleepers_are_bare s i is)

  bares : (m : ℕ) → m ≤ how_many (sizes_of s) → (slots : List (Option Home)) × AreBare s m slots
  bares zero l = ([], bare_none s [] refl)
  bares (suc m) l =
      let (slots, are) = bares m (omega arith) in
      let (k, at) = number_of (sizes_of s) m (omega arith) in
      let (h, is, bare) = bare_of k at.1 in
      (slots ++ Some h ∷ [], subst (λ j. AreBare s j (slots ++ Some h ∷ [])) (let e : m + 1 ≡ suc m = omega arith in e) (bare_more s m slots (slots ++ Some h ∷ []) k h are at is bare refl))

  none : (slots : List (Option Home)) × AreBare s (how_many (sizes_of s)) slots
  none = bares (how_many (sizes_of s)) (omega arith)

  abbrev first : List (Option Home) → AllHomes
  first slots = record { sizes = sizes_of s; slots = slots }

  as_held : (k : HomeId) (hs : List (Option Home)) → is_some (held k hs) ≡ true → IsHeld k hs
  as_held k hs e = by (held k hs) refl e
    where
      by : (o : Option Home) → held k hs ≡ o → is_some o ≡ true → IsHeld k hs
      by (Some h) is t = (h, is)
      by None is t = absurd (false≢true t)

  -- the first t threads have come to their homes
  record Come (w : Work) (n : ℕ) (slots : List (Option Home)) (t : ℕ) : Type 0 where
    pub homes : AllHomes
    pub settling : Settling n s t (first slots) homes
    pub apart : AreApart homes.slots
    pub same : (k : HomeId) → is_some (held k homes.slots) ≡ is_some (held k slots)

  come : (w : Work) (n : ℕ) (slots : List (Option Home)) → IsReached w n s → AreBare s (how_many (sizes_of s)) slots → (t : ℕ) → t ≤ length s.threads → Come w n slots t
  come w n slots reached are zero l = record {
    homes = first slots;
    settling = settles_first n s (first slots) (shows_none s (sizes_of s) slots refl are);
    apart = placed_apart (sizes_of s) slots (bare_placed s slots are);
    same = λ k. refl;
  }
  come w n slots reached are (suc t) l = next (come w n slots reached are t (omega arith))
    where
      at : ListId
      at = list_of (thread_of s t)

      r : ThreadRecord
      r = record_of t (thread_of s t)

      next : Come w n slots t → Come w n slots (suc t)
      next c = record {
        homes = record { sizes = c.homes.sizes; slots = edit (home_at at) (putting r at) c.homes.slots };
        settling = subst (λ j. Settling n s j (first slots) (record { sizes = c.homes.sizes; slots = edit (home_at at) (putting r at) c.homes.slots })) (let e : t + 1 ≡ suc t = omega arith in e)
            (settles_next w n s t (thread_of s t) (first slots) c.homes (record { sizes = c.homes.sizes; slots = edit (home_at at) (putting r at) c.homes.slots }) at r reached (omega arith) refl c.settling refl refl refl refl);
        apart = apart-edit (home_at at) (putting r at) (keeps-with_list at (λ h. insert_at at r (list_in h at))) c.homes.slots c.apart;
        same = λ k. edit_held (home_at at) k (putting r at) (keeps-with_list at (λ h. insert_at at r (list_in h at))) c.homes.slots ∙ c.same k;
      }

  all_of : (w : Work) (n : ℕ) (slots : List (Option Home)) → IsReached w n s → AreBare s (how_many (sizes_of s)) slots → (c : Come w n slots (length s.threads)) → AreAllHomes n s c.homes.slots
  all_of w n slots reached are c = record {
    shown = settles_last n s (length s.threads) (first slots) c.homes refl c.settling;
    apart = c.apart;
    all = λ k is. c.settling.all k (subst (λ z. IsNumber z k) (sym c.settling.sizes) (number_of_home s k is));
    only = λ k is. home_of_number s k (placed_only (sizes_of s) slots k (bare_placed s slots are) (as_held k slots (sym (c.same k) ∙ ap is_some is.1)));
    locks = (let fits = (reached_ready w n s reached).fits.locks in let most = w.most_locks in omega (arith, fits, most));
    chans = (let fits = (reached_ready w n s reached).fits.chans in let most = w.most_chans in omega (arith, fits, most));
  }

pub stands_in_homes : (w : Work) (n : ℕ) (s : State) → IsReached w n s → StandsInHomes n s
stands_in_homes w n s reached =
    let (slots, are) = none s in
    let c = come s w n slots reached are (length s.threads) (omega arith) in
    let all = all_of s w n slots reached are c in
    record { homes = c.homes.slots; all = all; once = one_list w n s c.homes.slots reached all }

-- and so does each state before it
pub has_stood : (w : Work) (es : List Entry) → IsRun w es → HasStood w es
has_stood w es run k below = stands_in_homes w k (state_at w es k) (record {
  entries = take k es;
  run = from-IsRun w (take k es) (IsRunFrom-take w (opening w) 0 k es (IsRun-from w es run));
  many = length-take-le k es (omega (arith, below));
  ends = refl;
})
