-- What each verdict says of when a thread ends and how long it waits, and of a name that no thread has.
use Rattle.std.proofs.Common.{◌≡◌, ℕ, List, length, Result, Ok, Err, Some, refl, sym, subst, ◌∙◌, inl, inr}
use Rattle.std.specs.Io.KnownBytes.{Appends}
use Rattle.std.proofs.lemmas.Option.{same_Some}
use Rattle.sd_types.specs.declared.numbers.ThreadId.{ThreadId}
use Rattle.sd_types.specs.declared.works.Work.{Work}
use Rattle.sd_search.specs.declared.graph.Graph.{Graph}
use Rattle.sd_search.specs.Graphs.{packed}
use Rattle.sd_answers.specs.declared.answers.Answer.{Answer}
use Rattle.sd_answers.specs.declared.answers.Answer.TheVariants as answer
use Rattle.sd_answers.specs.declared.answers.Answer.TheVariants.{Usage, TooLarge, TooLargeToAudit, NoJournal, Refused, ReadFault, WriteFault, OutOfMemory, Blocked, NotAJournal, TooLong}
use Rattle.sd_answers.specs.Inputs.{IsWorkload}
use Rattle.sd_answers.specs.StreamChanges.{StreamChange, HasNoFault, IsUntouched, TellsLine}
use Rattle.sd_longest.specs.declared.latency.Longest.{Longest}
use Rattle.sd_longest.specs.declared.latency.Longest.TheVariants as longest
use Rattle.sd_longest.specs.Waits.{IsLongest, IsOpenLongest}
use Rattle.sd_set_inputs.specs.Sets.{sets}
use Rattle.sd_set_inputs.proofs.SetLemmas.{sets_sound}
use Rattle.sd_search_answers.specs.declared.forms.Aim.{Aim}
use Rattle.sd_search_answers.specs.declared.forms.Aim.TheVariants.{Find, Count, Ends, Waits}
use Rattle.sd_search_answers.specs.declared.timings.Timing.{Timing}
use Rattle.sd_search_answers.specs.declared.timings.Timing.TheVariants as timing
use Rattle.sd_search_answers.specs.declared.verdicts.Told.{Told}
use Rattle.sd_search_answers.specs.declared.verdicts.Verdict.{Verdict}
use Rattle.sd_search_answers.specs.declared.verdicts.Verdict.TheVariants.{Done, Found, Never, More, NoThread}
use Rattle.sd_search_answers.specs.Answered.{IsByName, IsSearch, IsShortWait, IsTimed, IsTimedByName, IsTold, IsUnnamed, IsWaited, IsWaitedByName, longest_verdict, timing_verdict}
use Rattle.sd_search_answers.specs.Forms.{name_in}
use Rattle.sd_search_answers.specs.Texts.{longest_text, timing_text}
use Rattle.sd_search_answers.specs.Timings.{AreShort, HasNoThread, IsThread, IsTiming}
use Rattle.sd_find.specs.Promises.{ExcludesEnds, ExcludesWaits, LeavesUntimed, MeasuresWait, RefusesName, ThreadSays, TimesThread}
use Rattle.sd_find.specs.Seeking.{CausedBySearch, Says, ended_line, ended_status, verdict_status}
use Rattle.sd_find.proofs.CauseLemmas.{read_work}
use Rattle.sd_find.proofs.CutLemmas.{cut_off}
use Rattle.sd_find.proofs.ShownLemmas.{certified_of}
use Rattle.sd_program.proofs.TopLemmas.{not_too_many, not_refused}

-- ---- by what is known of the thread

module _ (name : List ℕ) (most : ℕ) (input out : StreamChange) (w : Work) (workload : IsWorkload sets input w) (no_fault : HasNoFault out) where
  module _ (t : ThreadId) (named : IsThread w name t) (g : Graph) (search : IsSearch w most g) where
    times_by : (x : Timing) → IsTiming w t g x → AreShort x → Appends out.before out.after (timing_text w t x (length (packed g))) → timing_verdict x ≡ Found → TimesThread name most input out
    times_by (timing.Between earliest latest in_every) is short text v =
        let first = is.0.first.run in
        let last = is.0.last.run in
        record {
          work = w;
          workload = workload;
          thread = t;
          named = named;
          earliest = earliest;
          latest = latest;
          extremes = is.0;
          earliest_certified = certified_of w earliest.entries.items first.run.run first.run.fresh first.complete short.0;
          latest_certified = certified_of w latest.entries.items last.run.run last.run.fresh last.complete short.1;
          in_every = in_every;
          every = is.1;
          graph = g;
          search = search;
          written = text;
          no_fault = no_fault;
        }
    times_by timing.Never is short text v = absurd (let e = v in cc)
    times_by timing.More is short text v = absurd (let e = v in cc)

    excludes_by : (x : Timing) → IsTiming w t g x → Appends out.before out.after (timing_text w t x (length (packed g))) → timing_verdict x ≡ Never → ExcludesEnds name most input out
    excludes_by timing.Never is text v = record {
      work = w;
      workload = workload;
      thread = t;
      named = named;
      none = is;
      graph = g;
      search = search;
      written = text;
      no_fault = no_fault;
    }
    excludes_by (timing.Between earliest latest in_every) is text v = absurd (let e = v in cc)
    excludes_by timing.More is text v = absurd (let e = v in cc)

    leaves_by : (x : Timing) → IsTiming w t g x → Appends out.before out.after (timing_text w t x (length (packed g))) → timing_verdict x ≡ More → LeavesUntimed name most input out
    leaves_by timing.More is text v = record {
      work = w;
      workload = workload;
      thread = t;
      named = named;
      graph = g;
      search = search;
      cut_off = cut_off w most g search is;
      written = text;
      no_fault = no_fault;
    }
    leaves_by (timing.Between earliest latest in_every) is text v = absurd (let e = v in cc)
    leaves_by timing.Never is text v = absurd (let e = v in cc)

  module _ (told : Told) (whole : Appends out.before out.after told.text.items) where
    times : IsTimedByName w name most told → told.verdict ≡ Found → TimesThread name most input out
    times (inl (t, named, is)) v = times_by t named is.graph is.search is.timing is.is is.short (subst (Appends out.before out.after) is.written whole) (sym is.verdict ∙ v)
    times (inr none) v = absurd (let e = sym none.verdict ∙ v in cc)

    excludes : IsTimedByName w name most told → told.verdict ≡ Never → ExcludesEnds name most input out
    excludes (inl (t, named, is)) v = excludes_by t named is.graph is.search is.timing is.is (subst (Appends out.before out.after) is.written whole) (sym is.verdict ∙ v)
    excludes (inr none) v = absurd (let e = sym none.verdict ∙ v in cc)

    leaves : IsTimedByName w name most told → told.verdict ≡ More → LeavesUntimed name most input out
    leaves (inl (t, named, is)) v = leaves_by t named is.graph is.search is.timing is.is (subst (Appends out.before out.after) is.written whole) (sym is.verdict ∙ v)
    leaves (inr none) v = absurd (let e = sym none.verdict ∙ v in cc)

-- ---- the same of how long it waits

module _ (name : List ℕ) (most : ℕ) (input out : StreamChange) (w : Work) (workload : IsWorkload sets input w) (no_fault : HasNoFault out) where
  module _ (t : ThreadId) (named : IsThread w name t) (g : Graph) (search : IsSearch w most g) where
    measures_by : (x : Longest) → IsLongest w t x → IsShortWait x → Appends out.before out.after (longest_text w x (length (packed g))) → longest_verdict x ≡ Found → MeasuresWait name most input out
    measures_by (longest.Wait ticks es) is short text v =
        let whole = is.comes.run in
        record {
          work = w;
          workload = workload;
          thread = t;
          named = named;
          ticks = ticks;
          entries = es.items;
          longest = is;
          certified = certified_of w es.items whole.run.run whole.run.fresh whole.complete short;
          graph = g;
          search = search;
          written = text;
          no_fault = no_fault;
        }
    measures_by longest.Never is short text v = absurd (let e = v in cc)
    measures_by longest.More is short text v = absurd (let e = v in cc)

    no_wait_by : (x : Longest) → IsLongest w t x → Appends out.before out.after (longest_text w x (length (packed g))) → longest_verdict x ≡ Never → ExcludesWaits name most input out
    no_wait_by longest.Never is text v = record {
      work = w;
      workload = workload;
      thread = t;
      named = named;
      none = is;
      graph = g;
      search = search;
      written = text;
      no_fault = no_fault;
    }
    no_wait_by (longest.Wait ticks es) is text v = absurd (let e = v in cc)
    no_wait_by longest.More is text v = absurd (let e = v in cc)

    no_measure_by : (x : Longest) → IsOpenLongest g x → Appends out.before out.after (longest_text w x (length (packed g))) → longest_verdict x ≡ More → LeavesUntimed name most input out
    no_measure_by longest.More less text v = record {
      work = w;
      workload = workload;
      thread = t;
      named = named;
      graph = g;
      search = search;
      cut_off = cut_off w most g search less;
      written = text;
      no_fault = no_fault;
    }
    no_measure_by (longest.Wait ticks es) less text v = absurd (let e = v in cc)
    no_measure_by longest.Never less text v = absurd (let e = v in cc)

  module _ (told : Told) (whole : Appends out.before out.after told.text.items) where
    measures : IsWaitedByName w name most told → told.verdict ≡ Found → MeasuresWait name most input out
    measures (inl (t, named, is)) v = measures_by t named is.graph is.search is.longest is.is is.short (subst (Appends out.before out.after) is.written whole) (sym is.verdict ∙ v)
    measures (inr none) v = absurd (let e = sym none.verdict ∙ v in cc)

    excludes_waits : IsWaitedByName w name most told → told.verdict ≡ Never → ExcludesWaits name most input out
    excludes_waits (inl (t, named, is)) v = no_wait_by t named is.graph is.search is.longest is.is (subst (Appends out.before out.after) is.written whole) (sym is.verdict ∙ v)
    excludes_waits (inr none) v = absurd (let e = sym none.verdict ∙ v in cc)

    leaves_waits : IsWaitedByName w name most told → told.verdict ≡ More → LeavesUntimed name most input out
    leaves_waits (inl (t, named, is)) v = no_measure_by t named is.graph is.search is.longest is.left (subst (Appends out.before out.after) is.written whole) (sym is.verdict ∙ v)
    leaves_waits (inr none) v = absurd (let e = sym none.verdict ∙ v in cc)

-- ---- the verdicts that say nothing of a thread, or that there is none

timed_not_done : (x : Timing) → timing_verdict x ≡ Done → ⊥
timed_not_done (timing.Between earliest latest in_every) e = cc
timed_not_done timing.Never e = cc
timed_not_done timing.More e = cc

timed_not_unnamed : (x : Timing) → timing_verdict x ≡ NoThread → ⊥
timed_not_unnamed (timing.Between earliest latest in_every) e = cc
timed_not_unnamed timing.Never e = cc
timed_not_unnamed timing.More e = cc

waited_not_done : (x : Longest) → longest_verdict x ≡ Done → ⊥
waited_not_done (longest.Wait ticks es) e = cc
waited_not_done longest.Never e = cc
waited_not_done longest.More e = cc

waited_not_unnamed : (x : Longest) → longest_verdict x ≡ NoThread → ⊥
waited_not_unnamed (longest.Wait ticks es) e = cc
waited_not_unnamed longest.Never e = cc
waited_not_unnamed longest.More e = cc

-- what is said of a thread has one of the three verdicts
record IsMeasured (w : Work) (IsSaid : ThreadId → Type 0) (told : Told) : Type 0 where
  done : (t : ThreadId) → IsSaid t → told.verdict ≡ Done → ⊥
  unnamed : (t : ThreadId) → IsSaid t → told.verdict ≡ NoThread → ⊥

timed : (w : Work) (most : ℕ) (told : Told) → IsMeasured w (λ t. IsTimed w t most told) told
timed w most told = record {
  done = λ t is v. timed_not_done is.timing (sym is.verdict ∙ v);
  unnamed = λ t is v. timed_not_unnamed is.timing (sym is.verdict ∙ v);
}

waited : (w : Work) (most : ℕ) (told : Told) → IsMeasured w (λ t. IsWaited w t most told) told
waited w most told = record {
  done = λ t is v. waited_not_done is.longest (sym is.verdict ∙ v);
  unnamed = λ t is v. waited_not_unnamed is.longest (sym is.verdict ∙ v);
}

module _ (w : Work) (name : List ℕ) (IsSaid : ThreadId → Type 0) (told : Told) where
  never_done : IsMeasured w IsSaid told → IsByName w name IsSaid told → told.verdict ≡ Done → ⊥
  never_done m (inl (t, named, is)) v = m.done t is v
  never_done m (inr none) v = let e = sym none.verdict ∙ v in cc

  -- a thread of the name is no other verdict's
  no_other : IsMeasured w IsSaid told → (t : ThreadId) → IsThread w name t → IsByName w name IsSaid told → told.verdict ≡ NoThread → ⊥
  no_other m t is (inl (u, named, said)) v = m.unnamed u said v
  no_other m t is (inr none) v = none.none t.0 is.inside is.named

  unnamed : HasNoThread w name → IsByName w name IsSaid told → IsUnnamed w name told
  unnamed lacks (inl (t, named, is)) = absurd (lacks t.0 named.inside named.named)
  unnamed lacks (inr none) = none

-- ---- what was said

module _ (name : List ℕ) (most : ℕ) (input out : StreamChange) where
  pub times_of : Says (Ends (record { items = name })) most input out Found → TimesThread name most input out
  times_of c = times name most input out c.of.work c.of.workload c.no_fault c.told c.whole c.of.is c.verdict_is

  pub never_ends_of : Says (Ends (record { items = name })) most input out Never → ExcludesEnds name most input out
  never_ends_of c = excludes name most input out c.of.work c.of.workload c.no_fault c.told c.whole c.of.is c.verdict_is

  pub measures_of : Says (Waits (record { items = name })) most input out Found → MeasuresWait name most input out
  measures_of c = measures name most input out c.of.work c.of.workload c.no_fault c.told c.whole c.of.is c.verdict_is

  pub never_waits_of : Says (Waits (record { items = name })) most input out Never → ExcludesWaits name most input out
  never_waits_of c = excludes_waits name most input out c.of.work c.of.workload c.no_fault c.told c.whole c.of.is c.verdict_is

-- ---- what is said of a thread by its name, whatever is asked of it

-- what is told to this aim is what is said of the thread of the name, or that there is none
record IsOfThread (aim : Aim) (name : List ℕ) (most : ℕ) (input out : StreamChange) : Type 0 where
  cut : Says aim most input out More → LeavesUntimed name most input out
  lacks : (w : Work) (told : Told) → HasNoThread w name → IsTold w aim most told → IsUnnamed w name told
  done : (w : Work) (told : Told) → IsTold w aim most told → told.verdict ≡ Done → ⊥
  other : (w : Work) (told : Told) (t : ThreadId) → IsThread w name t → IsTold w aim most told → told.verdict ≡ NoThread → ⊥

of_thread : (aim : Aim) (name : List ℕ) (most : ℕ) (input out : StreamChange) → name_in aim ≡ Some name → IsOfThread aim name most input out
of_thread (Find q) name most input out is = absurd (let e = is in cc)
of_thread Count name most input out is = absurd (let e = is in cc)
of_thread (Ends n) name most input out is = subst (λ x. IsOfThread (Ends n) x most input out) (same_Some n.items name is) (record {
  cut = λ c. leaves n.items most input out c.of.work c.of.workload c.no_fault c.told c.whole c.of.is c.verdict_is;
  lacks = λ w told. unnamed w n.items (λ t. IsTimed w t most told) told;
  done = λ w told. never_done w n.items (λ t. IsTimed w t most told) told (timed w most told);
  other = λ w told. no_other w n.items (λ t. IsTimed w t most told) told (timed w most told);
})
of_thread (Waits n) name most input out is = subst (λ x. IsOfThread (Waits n) x most input out) (same_Some n.items name is) (record {
  cut = λ c. leaves_waits n.items most input out c.of.work c.of.workload c.no_fault c.told c.whole c.of.is c.verdict_is;
  lacks = λ w told. unnamed w n.items (λ t. IsWaited w t most told) told;
  done = λ w told. never_done w n.items (λ t. IsWaited w t most told) told (waited w most told);
  other = λ w told. no_other w n.items (λ t. IsWaited w t most told) told (waited w most told);
})

module _ (aim : Aim) (name : List ℕ) (most : ℕ) (input out : StreamChange) (named : name_in aim ≡ Some name) where
  pub untimed_of : Says aim most input out More → LeavesUntimed name most input out
  untimed_of c = (of_thread aim name most input out named).cut c

  pub thread_said : (v : Verdict) (c : Says aim most input out v) → ThreadSays name c.of.work (verdict_status v)
  thread_said Done c = λ t is. absurd ((of_thread aim name most input out named).done c.of.work c.told c.of.is c.verdict_is)
  thread_said Found c = λ t is. inl refl
  thread_said Never c = λ t is. inr (inl refl)
  thread_said More c = λ t is. inr (inr refl)
  thread_said NoThread c = λ t is. absurd ((of_thread aim name most input out named).other c.of.work c.told t is c.of.is c.verdict_is)

  module _ (err : StreamChange) where
    -- where the workload that was read has no thread of the name
    lacking : (v : Verdict) (c : Says aim most input out v) → HasNoThread c.of.work name → TellsLine err (ended_line (Ok v))
        → ((ended_status (Ok v) ≡ 2) × IsUntouched out × TellsLine err (ended_line (Ok NoThread)))
    lacking v c lacks told =
        let none = (of_thread aim name most input out named).lacks c.of.work c.told lacks c.of.is in
        let same : v ≡ NoThread = sym c.verdict_is ∙ none.verdict in
        (subst (λ x. ended_status (Ok x) ≡ 2) (sym same) refl, c.silent none.empty, subst (λ x. TellsLine err (ended_line (Ok x))) same told)

    pub refuses_name : (ended : Result Verdict Answer) → CausedBySearch aim most input out ended → TellsLine err (ended_line ended)
        → RefusesName name input out err (ended_status ended)
    refuses_name (Ok v) c told = λ sound bytes w is short accepted lacks.
        inl (lacking v c (subst (λ x. HasNoThread x name) (sym (read_work input bytes c.of.work w c.of.workload is accepted)) lacks) told)
    refuses_name (Err answer.Done) c told = absurd c
    refuses_name (Err Usage) c told = absurd c
    refuses_name (Err TooLarge) c told = λ sound bytes w is short accepted lacks. absurd (not_too_many input bytes c.0 is short)
    refuses_name (Err TooLargeToAudit) c told = absurd c
    refuses_name (Err NoJournal) c told = absurd c
    refuses_name (Err (Refused line cause)) c told = λ sound bytes w is short accepted lacks. absurd (not_refused sets sets_sound input bytes w line cause c.0 is accepted)
    refuses_name (Err ReadFault) c told = λ sound bytes w is short accepted lacks. absurd (sound c.0)
    refuses_name (Err WriteFault) c told = λ sound bytes w is short accepted lacks. absurd (c.2 ((of_thread aim name most input out named).lacks c.1.work c.0 (subst (λ x. HasNoThread x name) (sym (read_work input bytes c.1.work w c.1.workload is accepted)) lacks) c.1.is).empty)
    refuses_name (Err OutOfMemory) c told = λ sound bytes w is short accepted lacks. inr refl
    refuses_name (Err Blocked) c told = absurd c
    refuses_name (Err (NotAJournal fault)) c told = absurd c
    refuses_name (Err TooLong) c told = absurd c
