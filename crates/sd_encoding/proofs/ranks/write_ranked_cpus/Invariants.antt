use Rattle.std.proofs.Common.{◌≡◌, ◌++◌, ◌∷◌, length, take}
use Rattle.std.specs.List.{All, flat_map}
use Rattle.sd_encoding.specs.Fits.{FitsCpu}
use Rattle.sd_encoding.specs.Numbers.{cpu as cpu_numbers}
use Rattle.sd_encoding.specs.Ranks.{ranked_cpu}
use Rattle.sd_encoding.proofs.ranks.write_ranked_cpus.Given as goal

abbrev pub invariant-loop-cpu : goal.invariant-loop-cpu
invariant-loop-cpu l = record {
  written : l.into ≡ l.fn.into ++ length l.fn.cpus ∷ flat_map (λ x. cpu_numbers (ranked_cpu l.fn.state x)) (take l.cpu-index l.fn.cpus);
  fits : All (λ x. FitsCpu (ranked_cpu l.fn.state x)) (take l.cpu-index l.fn.cpus);
}
