use Rattle.std.proofs.Common.{◌≡◌, ◌==◌, true, false, List, [], ◌∷◌, ◌++◌, length, sym, ap, ◌∙◌, arith}
use Rattle.std.proofs.lemmas.Bool.Decides.{nat_tests}
use Rattle.std.proofs.lemmas.List.{length_push}
use Rattle.sd_types.specs.declared.numbers.CpuId.{CpuId}
use Rattle.sd_types.specs.Partitions.{set_of_cpu, cpu_of_number}
use Rattle.sd_rules.proofs.PartitionLemmas.{passing-more_in, passing-more_out}
use Rattle.sd_rules.proofs.partitions.cpus_of_set.Goals as goal
use Rattle.sd_rules.proofs.partitions.cpus_of_set.Goals.{then-set_of_cpu-p, else-set_of_cpu-p}

pub loop-cpu-preserved : goal.loop-cpu-preserved
loop-cpu-preserved c =
    let n = c.loop-cpu.cpu in
    record {
      cpus = elim c.if-set_of_cpu-p.branch [
        | then-set_of_cpu-p w ↦
            let named : (set_of_cpu c.args.work.now c.loop-cpu.cpu == c.args.p.0) ≡ true = grind (arith, nat_tests, w.if-set_of_cpu-p.true) in
            rw w.cpus-is
            (w.push.ensures.items ∙ ap (λ (xs : List CpuId). xs ++ cpu_of_number n ∷ []) c.loop-cpu.invariant.cpus
            ∙ sym (passing-more_in n (λ x. set_of_cpu c.args.work.now x == c.args.p.0) named))
        | else-set_of_cpu-p w ↦
            let other : (set_of_cpu c.args.work.now c.loop-cpu.cpu == c.args.p.0) ≡ false = grind (arith, nat_tests, w.if-set_of_cpu-p.false) in
            rw w.cpus-is (c.loop-cpu.invariant.cpus ∙ sym (passing-more_out n (λ x. set_of_cpu c.args.work.now x == c.args.p.0) other))
      ];
      few = elim c.if-set_of_cpu-p.branch [
        | then-set_of_cpu-p w ↦ rw w.cpus-is (let few = c.loop-cpu.invariant.few in omega (arith, ap length w.push.ensures.items, length_push c.loop-cpu.cpus.items))
        | else-set_of_cpu-p w ↦ rw w.cpus-is (let few = c.loop-cpu.invariant.few in omega arith)
      ];
    }
