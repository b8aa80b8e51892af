-- The run that goes in rounds is one.
use Rattle.std.proofs.Common.{◌≡◌, ℕ, ◌<◌, List, [], sym, ap, subst, ◌∙◌, arith, inl, inr}
use Rattle.std.proofs.lemmas.Bool.{cases_lt}
use Rattle.sd_types.specs.declared.numbers.CpuId.{CpuId}
use Rattle.sd_types.specs.declared.events.Entry.{Entry}
use Rattle.sd_types.specs.declared.works.Work.{Work}
use Rattle.sd_machine.specs.Runs.{rounds, round_after, IsSerial}

-- the run of one ended before the other went on
no_fewer : (w : Work) (orders : ℕ → List CpuId) (es fs : List Entry) (a : IsSerial w orders es) (b : IsSerial w orders fs) → a.count < b.count → ⊥
no_fewer w orders es fs a b fewer =
    b.goes_on a.count fewer (subst (λ (xs : List Entry). round_after w (orders a.count) xs ≡ []) a.entries a.ends)

pub one_serial : (w : Work) (orders : ℕ → List CpuId) (es fs : List Entry) → IsSerial w orders es → IsSerial w orders fs → es ≡ fs
one_serial w orders es fs a b = elim (cases_lt a.count b.count) [
  | inl fewer ↦ absurd (no_fewer w orders es fs a b fewer)
  | inr at_least ↦ elim (cases_lt b.count a.count) [
    | inl more ↦ absurd (no_fewer w orders fs es b a more)
    | inr at_most ↦
        let same : a.count ≡ b.count = omega arith in
        a.entries ∙ ap (rounds w orders) same ∙ sym b.entries
  ]
]
