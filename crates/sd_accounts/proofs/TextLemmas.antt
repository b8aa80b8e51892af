-- The texts of counters are those of the entries that they have taken in.
use Rattle.std.proofs.Common.{◌≡◌, ℕ, ◌+◌, ◌<◌, List, [], ◌∷◌, ◌++◌, length, append_assoc, refl, ap, ◌∙◌, arith}
use Rattle.std.specs.Prelude.{codes}
use Rattle.std.specs.Fmt.{decimal}
use Rattle.std.proofs.lemmas.List.{append-nil}
use Rattle.std.proofs.lemmas.List.Concat.{flat_map-append}
use Rattle.std.proofs.lemmas.List.Folds.{flat_map-map}
use Rattle.std.proofs.lemmas.List.FromFn.{map-range_with_len_more}
use Rattle.std.proofs.lemmas.Option.{get_or_from_slice_get}
use Rattle.sd_basics.proofs.Ranges.{flat_range_same}
use Rattle.sd_types.specs.declared.events.Entry.{Entry}
use Rattle.sd_types.specs.declared.works.Work.{Work}
use Rattle.sd_state.specs.declared.states.State.{State}
use Rattle.sd_state.specs.States.{thread_of}
use Rattle.sd_state.specs.Texts.{thread_name, state_text, thread_counts, thread_line, cpu_line, threads_text, cpus_text, accounts_text}
use Rattle.sd_machine.specs.Texts.{summary_of}
use Rattle.sd_accounts.specs.declared.accounts.Accounts.{Accounts}
use Rattle.sd_accounts.specs.Counters.{no_thread_counts, no_cpu_counts, thread_counts_of, cpu_counts_of, HasTaken, counted_text, counted_thread_line, counted_cpu_line, counted_threads_text, counted_cpus_text, counted_summary}

module _ (w : Work) (es : List Entry) (s : State) (a : Accounts) (h : HasTaken w es a) where
  thread_same : (t : ℕ) → t < length w.threads → counted_thread_line w a.threads s t ≡ thread_line w es s t
  unfolding counted_thread_line counted_text thread_line thread_counts
  thread_same t inside =
      ap (λ x. codes "thread " ++ thread_name w t ++ counted_text x ++ codes " " ++ state_text w (thread_of s t).place ++ codes "\n")
      (get_or_from_slice_get a.threads t (thread_counts_of es t) no_thread_counts (h.threads t inside))

  cpu_same : (c : ℕ) → c < w.cpus → counted_cpu_line a.cpus c ≡ cpu_line es c
  unfolding counted_cpu_line cpu_line
  cpu_same c inside =
      ap (λ x. codes "cpu " ++ decimal c ++ codes " ticks " ++ decimal x.ticks ++ codes " idle " ++ decimal x.idle ++ codes "\n")
      (get_or_from_slice_get a.cpus c (cpu_counts_of es c) no_cpu_counts (h.cpus c inside))

  threads_same : counted_threads_text w a.threads s ≡ threads_text w es s
  unfolding counted_threads_text threads_text
  threads_same = flat_range_same (counted_thread_line w a.threads s) (thread_line w es s) 0 (length w.threads) (λ t inside. thread_same t (omega arith))

  cpus_same : counted_cpus_text w a.cpus ≡ cpus_text w es
  unfolding counted_cpus_text cpus_text
  cpus_same = flat_range_same (counted_cpu_line a.cpus) (cpu_line es) 0 w.cpus (λ c inside. cpu_same c (omega arith))

  pub accounts_same : codes "accounts\n" ++ (counted_threads_text w a.threads s ++ counted_cpus_text w a.cpus) ≡ accounts_text w es s
  unfolding accounts_text
  accounts_same = rw (threads_same, cpus_same) refl

  pub summary_same : counted_summary a.totals s ≡ summary_of es s
  unfolding counted_summary summary_of
  summary_same = ap (λ x. counted_summary x s) h.totals

-- ten lines, of which five and four were written first
pub ten_lines : (out a b c d e f g h i j : List ℕ)
    → ((out ++ (a ++ (b ++ (c ++ (d ++ e))))) ++ (f ++ (g ++ (h ++ i)))) ++ j ≡ out ++ (a ++ (b ++ (c ++ (d ++ (e ++ (f ++ (g ++ (h ++ (i ++ j)))))))))
ten_lines out a b c d e f g h i j = simp append_assoc
