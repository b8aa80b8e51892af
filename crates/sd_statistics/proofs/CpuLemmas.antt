-- What a processor does is told by its own entries.
use Rattle.std.proofs.Common.{◌≡◌, ℕ, ◌+◌, Bool, true, false, ◌&&◌, cond, List, [], ◌∷◌, refl, sym, ap, ◌∙◌, arith}
use Rattle.std.specs.Prelude.{◌==◌, if◌then◌else◌}
use Rattle.std.proofs.lemmas.List.Sums.{sum_by-cons}
use Rattle.sd_stretches.specs.declared.changes.Happening.{Happening}
use Rattle.sd_statistics.specs.declared.cpus.Deed.{Deed}
use Rattle.sd_statistics.specs.declared.cpus.Deed.TheVariants.{Runs, Spins, Idles, Dispatches, Steals, Preempts}
use Rattle.sd_statistics.specs.Cpus.{cpu_entries, cpu_part, deeds, is_deed}

-- one for an entry that counts
one_if : Deed → ℕ → Happening → ℕ
one_if deed c x = cond {A = ℕ} ((x.cpu.0 == c) && is_deed deed x.event) 1 0

tally : (deed : Deed) (c : ℕ) (x : Happening) (own : List Happening) → deeds deed c (x ∷ own) ≡ one_if deed c x + deeds deed c own
unfolding one_if
tally deed c x own = sum_by-cons (one_if deed c) x own

none_if : (deed : Deed) (c : ℕ) (x : Happening) → x.cpu.0 == c ≡ false → one_if deed c x ≡ 0
unfolding one_if
none_if deed c x is = ap (λ (b : Bool). cond {A = ℕ} (b && is_deed deed x.event) 1 0) is

step : (deed : Deed) (c : ℕ) (x : Happening) (own : List Happening) (b : Bool) → x.cpu.0 == c ≡ b → deeds deed c (if b then x ∷ own else own) ≡ deeds deed c (x ∷ own)
step deed c x own true is = refl
step deed c x own false is =
    let all = tally deed c x own in
    let none = none_if deed c x is in
    omega (arith, all, none)

deeds_own : (deed : Deed) (c : ℕ) (xs : List Happening) → deeds deed c (cpu_entries c xs) ≡ deeds deed c xs
deeds_own deed c [] = refl
deeds_own deed c (x ∷ xs) =
    step deed c x (cpu_entries c xs) (x.cpu.0 == c) refl ∙ tally deed c x (cpu_entries c xs) ∙ ap (λ (n : ℕ). one_if deed c x + n) (deeds_own deed c xs) ∙ sym (tally deed c x xs)

pub part_own : (c : ℕ) (own xs : List Happening) → own ≡ cpu_entries c xs → cpu_part own c ≡ cpu_part xs c
unfolding cpu_part
part_own c own xs is =
    ap (λ (ys : List Happening). cpu_part ys c) is
    ∙ rw (deeds_own Runs c xs, deeds_own Spins c xs, deeds_own Idles c xs, deeds_own Dispatches c xs, deeds_own Steals c xs, deeds_own Preempts c xs) refl
