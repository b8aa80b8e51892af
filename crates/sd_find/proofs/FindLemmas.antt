-- What each verdict of `dispfind` says, and that what is promised of a call follows from how it ended.
use Rattle.std.proofs.Common.{◌≡◌, ℕ, ◌<◌, ◌≤◌, Bool, true, false, List, length, Result, Ok, Err, Option, Some, None, refl, sym, ap, subst, ◌∙◌, inl, inr, arith}
use Rattle.std.specs.Prelude.{◌↔◌, nat_le}
use Rattle.std.specs.Io.KnownBytes.{Appends}
use Rattle.std.proofs.lemmas.Bool.Decides.{nat_tests}
use Rattle.sd_types.specs.declared.works.Work.{Work}
use Rattle.sd_search.specs.declared.findings.Finding.{Finding}
use Rattle.sd_search.specs.declared.findings.Finding.TheVariants as finding
use Rattle.sd_search.specs.declared.graph.Graph.{Graph}
use Rattle.sd_search.specs.declared.questions.Question.{Question}
use Rattle.sd_search.specs.Findings.{IsFair, IsFinding, IsShortest}
use Rattle.sd_search.specs.Graphs.{packed}
use Rattle.sd_longest.specs.LongestRuns.{IsLongestFound, IsLongestRun}
use Rattle.sd_answers.specs.declared.answers.Answer.{Answer}
use Rattle.sd_answers.specs.declared.answers.Answer.TheVariants as answer
use Rattle.sd_answers.specs.declared.answers.Answer.TheVariants.{Usage, TooLarge, TooLargeToAudit, NoJournal, Refused, ReadFault, WriteFault, OutOfMemory, Blocked, NotAJournal, TooLong}
use Rattle.sd_answers.specs.Inputs.{IsWorkload}
use Rattle.sd_answers.specs.Starts.{WritesHelp}
use Rattle.sd_answers.specs.StreamChanges.{StreamChange, HasNoFault, IsUntouched, TellsLine}
use Rattle.sd_program.specs.Headline.{Refuses}
use Rattle.sd_set_inputs.specs.Sets.{sets}
use Rattle.sd_search_answers.specs.declared.forms.Aim.{Aim}
use Rattle.sd_search_answers.specs.declared.forms.Aim.TheVariants.{Find, Count, Ends, Waits}
use Rattle.sd_search_answers.specs.declared.forms.Request.{Request}
use Rattle.sd_search_answers.specs.declared.forms.Request.TheVariants.{Help, Search}
use Rattle.sd_search_answers.specs.declared.verdicts.Verdict.{Verdict}
use Rattle.sd_search_answers.specs.declared.verdicts.Verdict.TheVariants.{Done, Found, Never, More, NoThread}
use Rattle.sd_search_answers.specs.Answered.{IsSearch, IsShort, count_verdict, verdict_of}
use Rattle.sd_search_answers.specs.Forms.{request_of}
use Rattle.sd_search_answers.specs.Texts.{count_text, finding_text}
use Rattle.sd_find.specs.Promises.{CompletesSearch, CountSays, CountsStates, ExcludesRuns, FindSays, FindsRun, HasMany, SearchesAsPromised, LeavesOpen, RefusesName, ThreadSays}
use Rattle.sd_find.specs.Seeking.{CausedByFindRequest, CausedByFindHelp, CausedBySearch, Says, ended_line, ended_status, verdict_status, help_text}
use Rattle.sd_find.proofs.CauseLemmas.{completes, done_of, failed, found_of, more_of, never_of, refuses}
use Rattle.sd_find.proofs.CutLemmas.{cut_off}
use Rattle.sd_find.proofs.ShownLemmas.{shown_of}
use Rattle.sd_find.proofs.TimedLemmas.{measures_of, never_ends_of, never_waits_of, refuses_name, thread_said, times_of, untimed_of}

-- ---- what each verdict says

not_done : (f : Finding) → verdict_of f ≡ Done → ⊥
not_done (finding.Found es) e = cc
not_done finding.Never e = cc
not_done finding.More e = cc

not_unnamed : (f : Finding) → verdict_of f ≡ NoThread → ⊥
not_unnamed (finding.Found es) e = cc
not_unnamed finding.Never e = cc
not_unnamed finding.More e = cc

module _ (q : Question) (most : ℕ) (input out : StreamChange) where
  find_said : (v : Verdict) → Says (Find q) most input out v → FindSays (verdict_status v)
  find_said Done c = absurd (not_done c.of.is.finding (sym c.of.is.verdict ∙ c.verdict_is))
  find_said Found c = inl refl
  find_said Never c = inr (inl refl)
  find_said More c = inr (inr refl)
  find_said NoThread c = absurd (not_unnamed c.of.is.finding (sym c.of.is.verdict ∙ c.verdict_is))

  module _ (w : Work) (workload : IsWorkload sets input w) (g : Graph) (search : IsSearch w most g) (no_fault : HasNoFault out) where
    finds : (f : Finding) → IsFinding w q f → IsShortest w q f → IsShort f → Appends out.before out.after (finding_text w q f (length (packed g))) → verdict_of f ≡ Found → FindsRun q most input out
    finds (finding.Found es) is least short text v = record {
      work = w;
      workload = workload;
      entries = es.items;
      shown = shown_of w q es.items is short;
      shortest = least;
      graph = g;
      search = search;
      written = text;
      no_fault = no_fault;
    }
    finds finding.Never is least short text v = absurd (let e = v in cc)
    finds finding.More is least short text v = absurd (let e = v in cc)

    excludes : (f : Finding) → IsFinding w q f → Appends out.before out.after (finding_text w q f (length (packed g))) → verdict_of f ≡ Never → ExcludesRuns q most input out
    excludes finding.Never is text v = record { work = w; workload = workload; none = is; graph = g; search = search; written = text; no_fault = no_fault }
    excludes (finding.Found es) is text v = absurd (let e = v in cc)
    excludes finding.More is text v = absurd (let e = v in cc)

    leaves : (f : Finding) → IsFair w q g f → Appends out.before out.after (finding_text w q f (length (packed g))) → verdict_of f ≡ More → LeavesOpen q most input out
    leaves finding.More fair text v = record {
      work = w;
      workload = workload;
      graph = g;
      search = search;
      cut_off = cut_off w most g search fair.0;
      none = fair.1;
      written = text;
      no_fault = no_fault;
    }
    leaves (finding.Found es) fair text v = absurd (let e = v in cc)
    leaves finding.Never fair text v = absurd (let e = v in cc)

  text_of : (v : Verdict) (c : Says (Find q) most input out v) → Appends out.before out.after (finding_text c.of.work q c.of.is.finding (length (packed c.of.is.graph)))
  text_of v c = subst (Appends out.before out.after) c.of.is.written c.whole

  finds_of : Says (Find q) most input out Found → FindsRun q most input out
  finds_of c =
      let a = c.of.is in
      finds c.of.work c.of.workload a.graph a.search c.no_fault a.finding a.is a.shortest a.short (text_of Found c) (sym a.verdict ∙ c.verdict_is)

  excludes_of : Says (Find q) most input out Never → ExcludesRuns q most input out
  excludes_of c =
      let a = c.of.is in
      excludes c.of.work c.of.workload a.graph a.search c.no_fault a.finding a.is (text_of Never c) (sym a.verdict ∙ c.verdict_is)

  leaves_of : Says (Find q) most input out More → LeavesOpen q most input out
  leaves_of c =
      let a = c.of.is in
      leaves c.of.work c.of.workload a.graph a.search c.no_fault a.finding a.fair (text_of More c) (sym a.verdict ∙ c.verdict_is)

all_done : (b : Bool) → count_verdict b ≡ Done → b ≡ true
all_done true e = refl
all_done false e = absurd (let f = e in cc)

not_all : (b : Bool) → count_verdict b ≡ More → b ≡ false
not_all true e = absurd (let f = e in cc)
not_all false e = refl

not_found : (b : Bool) → count_verdict b ≡ Found → ⊥
not_found true e = cc
not_found false e = cc

not_never : (b : Bool) → count_verdict b ≡ Never → ⊥
not_never true e = cc
not_never false e = cc

not_lacking : (b : Bool) → count_verdict b ≡ NoThread → ⊥
not_lacking true e = cc
not_lacking false e = cc

searched_all : (w : Work) (g : Graph) (entries : Option ℕ) → length (packed g) ≤ g.done → IsLongestFound w g entries → IsLongestRun w (length (packed g)) entries
searched_all w g entries all (inl (less, none)) = absurd (omega (arith, all, less))
searched_all w g entries all (inr (is, longest)) = longest

searched_part : (w : Work) (g : Graph) (entries : Option ℕ) → g.done < length (packed g) → IsLongestFound w g entries → entries ≡ None
searched_part w g entries left (inl (less, none)) = none
searched_part w g entries left (inr (all, longest)) = absurd (omega (arith, all, left))

module _ (most : ℕ) (input out : StreamChange) where
  all_of : (c : Says Count most input out Done) → nat_le (length (packed c.of.is.graph)) c.of.is.graph.done ≡ true
  all_of c = all_done (nat_le (length (packed c.of.is.graph)) c.of.is.graph.done) (sym c.of.is.verdict ∙ c.verdict_is)

  counts_of : Says Count most input out Done → CountsStates most input out
  counts_of c =
      let a = c.of.is in
      let n = length (packed a.graph) in
      let all = all_of c in
      let within : n ≤ a.graph.done = grind (arith, nat_tests) in
      record {
        work = c.of.work;
        workload = c.of.workload;
        graph = a.graph;
        search = a.search;
        every = a.search.all within;
        finals = a.finals;
        are = a.are;
        entries = a.entries;
        longest = searched_all c.of.work a.graph a.entries within a.longest;
        written = subst (λ b. Appends out.before out.after (count_text b n (length a.finals) a.entries)) all (subst (Appends out.before out.after) a.written c.whole);
        no_fault = c.no_fault;
      }

  many_of : Says Count most input out More → HasMany most input out
  many_of c =
      let a = c.of.is in
      let n = length (packed a.graph) in
      let some : nat_le n a.graph.done ≡ false = not_all (nat_le n a.graph.done) (sym a.verdict ∙ c.verdict_is) in
      let left : a.graph.done < n = grind (arith, nat_tests) in
      let none : a.entries ≡ None = searched_part c.of.work a.graph a.entries left a.longest in
      record {
        work = c.of.work;
        workload = c.of.workload;
        graph = a.graph;
        search = a.search;
        cut_off = cut_off c.of.work most a.graph a.search left;
        finals = a.finals;
        are = a.are;
        written = subst (λ (o : Option ℕ). Appends out.before out.after (count_text false n (length a.finals) o)) none
            (subst (λ b. Appends out.before out.after (count_text b n (length a.finals) a.entries)) some (subst (Appends out.before out.after) a.written c.whole));
        no_fault = c.no_fault;
      }

  count_said : (v : Verdict) → Says Count most input out v → CountSays (verdict_status v)
  count_said Done c = inl refl
  count_said Found c = absurd (not_found (nat_le (length (packed c.of.is.graph)) c.of.is.graph.done) (sym c.of.is.verdict ∙ c.verdict_is))
  count_said Never c = absurd (not_never (nat_le (length (packed c.of.is.graph)) c.of.is.graph.done) (sym c.of.is.verdict ∙ c.verdict_is))
  count_said More c = inr refl
  count_said NoThread c = absurd (not_lacking (nat_le (length (packed c.of.is.graph)) c.of.is.graph.done) (sym c.of.is.verdict ∙ c.verdict_is))

-- ---- the forms

helps_of : (input out : StreamChange) (ended : Result Verdict Answer) → IsUntouched input → CausedByFindHelp out ended → WritesHelp help_text input out (ended_status ended)
helps_of input out (Ok Done) kept c = (kept, inl (refl, c.0))
helps_of input out (Ok Found) kept c = absurd c
helps_of input out (Ok Never) kept c = absurd c
helps_of input out (Ok More) kept c = absurd c
helps_of input out (Ok NoThread) kept c = absurd c
helps_of input out (Err answer.Done) kept c = absurd c
helps_of input out (Err Usage) kept c = absurd c
helps_of input out (Err TooLarge) kept c = absurd c
helps_of input out (Err TooLargeToAudit) kept c = absurd c
helps_of input out (Err NoJournal) kept c = absurd c
helps_of input out (Err (Refused line cause)) kept c = absurd c
helps_of input out (Err ReadFault) kept c = absurd c
helps_of input out (Err WriteFault) kept c = (kept, inr (refl, c.1))
helps_of input out (Err OutOfMemory) kept c = absurd c
helps_of input out (Err Blocked) kept c = absurd c
helps_of input out (Err (NotAJournal fault)) kept c = absurd c
helps_of input out (Err TooLong) kept c = absurd c

-- the status is 0 or 4
no_help : (input out : StreamChange) (status : ℕ) → WritesHelp help_text input out status → status ≡ 1 → ⊥
no_help input out status h is = elim h.1 [
  | inl (s, a) ↦ absurd (omega (arith, s, is))
  | inr (s, a) ↦ absurd (omega (arith, s, is))
]

usage_of : (k : Option Request) (input out : StreamChange) (ended : Result Verdict Answer) → CausedByFindRequest k input out ended → (ended_status ended ≡ 1) ↔ (k ≡ None)
usage_of None input out ended c = (λ one. refl, λ none. ap ended_status c.0)
usage_of (Some Help) input out ended c = (λ one. absurd (no_help input out (ended_status ended) (helps_of input out ended c.0 c.1) one), λ none. cc)
usage_of (Some (Search aim most)) input out ended c = (λ one. absurd (by ended c one), λ none. cc)
  where
    by : (r : Result Verdict Answer) → CausedBySearch aim most input out r → ended_status r ≡ 1 → ⊥
    by (Ok Done) c one = absurd (omega arith)
    by (Ok Found) c one = absurd (omega arith)
    by (Ok Never) c one = absurd (omega arith)
    by (Ok More) c one = absurd (omega arith)
    by (Ok NoThread) c one = absurd (omega arith)
    by (Err a) c one = let f = failed aim most input out a c in absurd (omega (arith, f.0, one))

pub promises_of : (arguments : List (List ℕ)) (input out err : StreamChange) (ended : Result Verdict Answer) (status : ℕ) → status ≡ ended_status ended
    → CausedByFindRequest (request_of arguments) input out ended → TellsLine err (ended_line ended) → SearchesAsPromised arguments input out err status
promises_of arguments input out err ended status is caused told =
    let asked = λ (aim : Aim) (most : ℕ) (known : request_of arguments ≡ Some (Search aim most)). subst (λ k. CausedByFindRequest k input out ended) known caused in
    let ending = λ (name : List ℕ). let aim : Aim = Ends (record { items = name }) in aim in
    let waiting = λ (name : List ℕ). let aim : Aim = Waits (record { items = name }) in aim in
    let helped = λ (known : request_of arguments ≡ Some Help). subst (λ k. CausedByFindRequest k input out ended) known caused in
    record {
      answered = record { ended = ended; exit = is; caused = caused; told = told };
      finds = λ q most known nine. finds_of q most input out (found_of (Find q) most input out ended (asked (Find q) most known) (sym is ∙ nine));
      excludes = λ q most known ten. excludes_of q most input out (never_of (Find q) most input out ended (asked (Find q) most known) (sym is ∙ ten));
      leaves_open = λ q most known eleven. leaves_of q most input out (more_of (Find q) most input out ended (asked (Find q) most known) (sym is ∙ eleven));
      counts = λ most known zero. counts_of most input out (done_of Count most input out ended (asked Count most known) (sym is ∙ zero));
      has_many = λ most known eleven. many_of most input out (more_of Count most input out ended (asked Count most known) (sym is ∙ eleven));
      times = λ name most known nine. times_of name most input out (found_of (ending name) most input out ended (asked (ending name) most known) (sym is ∙ nine));
      excludes_ends = λ name most known ten. never_ends_of name most input out (never_of (ending name) most input out ended (asked (ending name) most known) (sym is ∙ ten));
      measures = λ name most known nine. measures_of name most input out (found_of (waiting name) most input out ended (asked (waiting name) most known) (sym is ∙ nine));
      excludes_waits = λ name most known ten. never_waits_of name most input out (never_of (waiting name) most input out ended (asked (waiting name) most known) (sym is ∙ ten));
      leaves_untimed = λ aim name most known named eleven. untimed_of aim name most input out named (more_of aim most input out ended (asked aim most known) (sym is ∙ eleven));
      completes = λ q most known.
          subst (CompletesSearch (λ w. FindSays) input out) (sym is) (completes (Find q) most input out (λ w. FindSays) (find_said q most input out) ended (asked (Find q) most known));
      completes_count = λ most known.
          subst (CompletesSearch (λ w. CountSays) input out) (sym is) (completes Count most input out (λ w. CountSays) (count_said most input out) ended (asked Count most known));
      completes_thread = λ aim name most known named.
          subst (CompletesSearch (ThreadSays name) input out) (sym is) (completes aim most input out (ThreadSays name) (thread_said aim name most input out named) ended (asked aim most known));
      refuses = λ aim most known. subst (Refuses sets input) (sym is) (refuses aim most input out ended (asked aim most known));
      refuses_name = λ aim name most known named.
          subst (RefusesName name input out err) (sym is) (refuses_name aim name most input out named err ended (asked aim most known) told);
      helps = λ known. subst (WritesHelp help_text input out) (sym is) (helps_of input out ended (helped known).0 (helped known).1);
      usage = subst (λ s. (s ≡ 1) ↔ (request_of arguments ≡ None)) (sym is) (usage_of (request_of arguments) input out ended caused);
    }
