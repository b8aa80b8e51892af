use Rattle.std.proofs.Common.{◌≡◌, ◌++◌, ◌-◌}
use Rattle.sd_gen.specs.Generated.{drawn_from, script_text}
use Rattle.sd_gen.proofs.threads.put_scripts.Given as goal

-- what was appended, and what is left from here, are the whole
abbrev pub invariant-loop-i : goal.invariant-loop-i
invariant-loop-i l = record {
  text : l.out.items ++ (drawn_from script_text (200 - l.i) l.i l.generator).0 ≡ l.initial.out.items ++ (drawn_from script_text 200 0 l.initial.generator).0;
  generator : (drawn_from script_text (200 - l.i) l.i l.generator).1 ≡ (drawn_from script_text 200 0 l.initial.generator).1;
}
