-- The lines of sets are taken in.
use Rattle.std.proofs.Common.{◌≡◌, ℕ, ◌+◌, ◌<◌, ◌≤◌, true, false, not, ◌||◌, ltb, leb, List, [], ◌∷◌, ◌++◌, length, map, refl, sym, ap, ◌∙◌, subst, arith, append-nil, append_assoc, length-append}
use Rattle.std.specs.Prelude.{codes, nat_eq}
use Rattle.std.specs.List.{list_any, list_all, flat_map}
use Rattle.std.proofs.lemmas.Bool.{false≢true, and_parts, or_parts, not-true, and_right}
use Rattle.std.proofs.lemmas.Bool.Decides.{nat_tests}
use Rattle.std.proofs.lemmas.List.{length-map}
use Rattle.std.proofs.lemmas.List.Concat.{flat_map-append, length-flat_map}
use Rattle.std.proofs.lemmas.List.Folds.{list_any-append}
use Rattle.sd_basics.proofs.Lists.{any-map}
use Rattle.sd_types.specs.declared.numbers.CpuId.{CpuId}
use Rattle.sd_types.specs.declared.names.Name.{Name}
use Rattle.sd_types.specs.NameWords.{is_name}
use Rattle.sd_types.specs.Partitions.{cpu_of_number}
use Rattle.sd_types.specs.Works.{same_bytes, same_cpu, is_distinct}
use Rattle.sd_lines.specs.Words.{Word}
use Rattle.sd_lines.specs.Statements.{Set}
use Rattle.sd_declare.specs.Declarations.{Declarations, cpu_count, set_place, named_count}
use Rattle.sd_declare.specs.Kept.{set_kept}
use Rattle.sd_declare.specs.Statements.{is_named, is_taken, statement_causes}
use Rattle.sd_workload.specs.Sound.{named_cpus, set_is_sound, AreSets, AreNamed}
use Rattle.sd_workload.specs.Texts.{Outside}
use Rattle.sd_workload.proofs.ClearLemmas.{IsClear}
use Rattle.sd_canonical.specs.Lines.{cpu_words}
use Rattle.sd_canonical.specs.Canonical.{line_text, set_text}
use Rattle.sd_canonical.proofs.TextLemmas.{are_plain, name-plain, number-plain}
use Rattle.sd_canonical.proofs.TakesLemmas.{Takes, takes-nothing, takes-both, takes-line}
use Rattle.sd_canonical.proofs.FormLemmas.{are_cpus, set-form}
use Rattle.sd_canonical.proofs.ListLemmas.{all-at, under, not-under, fresh, named-fresh, distinct-tail, distinct-front, none-before}

-- the sets of a workload of so many processors
pub record IsSets (cpus : ℕ) (all : List (Word × List CpuId)) : Type 0 where
  pub most : cpus ≤ 64
  pub sets : AreSets cpus all
  pub names : AreNamed all
  pub few : length all ≤ 8

abbrev numbers : List CpuId → List ℕ
numbers cs = map (λ c. c.0) cs

cpus-back : (cs : List CpuId) → map cpu_of_number (numbers cs) ≡ cs
cpus-back [] = refl
cpus-back (c ∷ cs) = ap (λ l. c ∷ l) (cpus-back cs)

cpus-plain : (cs : List CpuId) → are_cpus cs ≡ true → are_plain (cpu_words cs) ≡ true
cpus-plain [] h = refl
cpus-plain (c ∷ cs) h =
    let p = and_parts (ltb c.0 64) (are_cpus cs) h in
    let few : c.0 < 64 = grind (arith, nat_tests, p.0) in
    rw (number-plain c.0 (omega arith), cpus-plain cs p.1) refl

fewer : (a b : ℕ) (cs : List CpuId) → a ≤ b → list_all (λ c. ltb c.0 a) cs ≡ true → list_all (λ c. ltb c.0 b) cs ≡ true
fewer a b [] le h = refl
fewer a b (c ∷ cs) le h =
    let p = and_parts (ltb c.0 a) (list_all (λ (x : CpuId). ltb x.0 a) cs) h in
    let here : ltb c.0 b ≡ true = grind (arith, nat_tests, p.0) in
    rw here (fewer a b cs le p.1)

none-beyond : (n : ℕ) (cs : List CpuId) → list_all (λ c. ltb c.0 n) cs ≡ true → list_any (λ c. leb n c) (numbers cs) ≡ false
none-beyond n [] h = refl
none-beyond n (c ∷ cs) h =
    let p = and_parts (ltb c.0 n) (list_all (λ (x : CpuId). ltb x.0 n) cs) h in
    let here : leb n c.0 ≡ false = grind (arith, nat_tests, p.0) in
    rw here (none-beyond n cs p.1)

-- a processor of the sets
in-sets : (sets : List (Word × List CpuId)) (c : ℕ) → list_any (λ (e : CpuId). nat_eq e.0 c) (named_cpus sets) ≡ list_any (λ s. list_any (λ (e : CpuId). nat_eq e.0 c) s.1) sets
in-sets [] c = refl
in-sets (s ∷ ss) c = list_any-append (λ (e : CpuId). nat_eq e.0 c) s.1 (named_cpus ss) ∙ ap (λ b. list_any (λ (e : CpuId). nat_eq e.0 c) s.1 || b) (in-sets ss c)

none-named : (d : Declarations) (front cs more : List CpuId) → is_distinct same_cpu (named_cpus d.sets ++ (front ++ (cs ++ more))) ≡ true → list_any (is_named d) (numbers cs) ≡ false
none-named d front [] more h = refl
none-named d front (c ∷ cs) more h =
    let whole = named_cpus d.sets ++ front in
    let e : named_cpus d.sets ++ (front ++ (c ∷ (cs ++ more))) ≡ whole ++ c ∷ (cs ++ more) = sym (append_assoc (named_cpus d.sets) front (c ∷ (cs ++ more))) in
    let far = fresh same_cpu whole (cs ++ more) c (sym (ap (is_distinct same_cpu) e) ∙ h) in
    let here = or_parts (list_any (λ (x : CpuId). nat_eq x.0 c.0) (named_cpus d.sets)) (list_any (λ (x : CpuId). nat_eq x.0 c.0) front) (sym (list_any-append (λ (x : CpuId). nat_eq x.0 c.0) (named_cpus d.sets) front) ∙ far) in
    let this : is_named d c.0 ≡ false = sym (in-sets d.sets c.0) ∙ here.0 in
    let next : named_cpus d.sets ++ ((front ++ c ∷ []) ++ (cs ++ more)) ≡ named_cpus d.sets ++ (front ++ (c ∷ (cs ++ more))) = ap (λ l. named_cpus d.sets ++ l) (append_assoc front (c ∷ []) (cs ++ more)) in
    rw this (none-named d (front ++ c ∷ []) cs more (ap (is_distinct same_cpu) next ∙ h))

numbers-differ : (cs : List CpuId) → is_distinct same_cpu cs ≡ true → is_distinct (λ a b. nat_eq a b) (numbers cs) ≡ true
numbers-differ [] h = refl
numbers-differ (c ∷ cs) h =
    let p = and_parts (not (list_any (same_cpu c) cs)) (is_distinct same_cpu cs) h in
    let e : list_any (λ b. nat_eq c.0 b) (numbers cs) ≡ false = any-map (λ b. nat_eq c.0 b) (λ (x : CpuId). x.0) cs ∙ not-true _ p.0 in
    rw (e, numbers-differ cs p.1) refl

not-taken : (d : Declarations) (name : Word) (cs : List CpuId) (rest : List (Word × List CpuId)) → AreSets (cpu_count d) (d.sets ++ (name, cs) ∷ rest) → is_taken d (numbers cs) ≡ false
unfolding is_taken
not-taken d name cs rest s =
    let cut : named_cpus (d.sets ++ (name, cs) ∷ rest) ≡ named_cpus d.sets ++ (cs ++ named_cpus rest) = flat_map-append (λ (x : Word × List CpuId). x.1) d.sets ((name, cs) ∷ rest) in
    let count : named_count d ≡ length (named_cpus d.sets) = sym (length-flat_map (λ (x : Word × List CpuId). x.1) d.sets) in
    let left : length (named_cpus d.sets ++ (cs ++ named_cpus rest)) < cpu_count d = subst (λ (l : List CpuId). length l < cpu_count d) cut s.left in
    let lengths = length-append (named_cpus d.sets) (cs ++ named_cpus rest) in
    let more = length-append cs (named_cpus rest) in
    let same = length-map cs (λ (c : CpuId). c.0) in
    let few : named_count d + length (numbers cs) < cpu_count d = omega arith in
    let apart : is_distinct same_cpu (named_cpus d.sets ++ (cs ++ named_cpus rest)) ≡ true = sym (ap (is_distinct same_cpu) cut) ∙ s.differ in
    let own = distinct-front same_cpu cs (named_cpus rest) (distinct-tail same_cpu (named_cpus d.sets) (cs ++ named_cpus rest) apart) in
    rw (under (named_count d + length (numbers cs)) (cpu_count d) few, none-named d [] cs (named_cpus rest) apart, numbers-differ cs own) refl

some-numbers : (cs : List CpuId) → ltb 0 (length cs) ≡ true → nat_eq (length (numbers cs)) 0 ≡ false
some-numbers [] h = absurd (false≢true h)
some-numbers (c ∷ cs) h = grind (arith, nat_tests)

set-clear : (d : Declarations) (name : Word) (cs : List CpuId) (rest : List (Word × List CpuId)) → IsSets (cpu_count d) (d.sets ++ (name, cs) ∷ rest)
    → IsClear (statement_causes d (Set name (numbers cs)))
unfolding set_place
set-clear d name cs rest s =
    let fit = and_parts (ltb 0 (length cs)) (list_all (λ (c : CpuId). ltb c.0 (cpu_count d)) cs) (all-at (set_is_sound (cpu_count d)) d.sets rest (name, cs) s.sets.fit) in
    let few = s.few in
    let long = length-append d.sets ((name, cs) ∷ rest) in
    record {
      syntax = some-numbers cs fit.0;
      unknown = refl;
      twice = not-under _ _ (none-before (λ (x : Word × List CpuId). same_bytes x.0 name) d.sets (named-fresh (λ (x : Word × List CpuId). x.0) d.sets rest (name, cs) s.names));
      range = none-beyond (cpu_count d) cs fit.1;
      sets = and_right _ _ (not-taken d name cs rest s.sets);
      limits = under (length d.sets) 8 (omega arith);
    }

takes-set : (name : Word) (cs : List CpuId) (rest : List (Word × List CpuId)) (d : Declarations) → is_name name ≡ true → IsSets (cpu_count d) (d.sets ++ (name, cs) ∷ rest)
    → Takes (line_text (codes "set" ∷ name ∷ cpu_words cs)) d Outside (record d { sets = d.sets ++ (name, cs) ∷ [] }) Outside
takes-set name cs rest d named s =
    let fit = and_parts (ltb 0 (length cs)) (list_all (λ (c : CpuId). ltb c.0 (cpu_count d)) cs) (all-at (set_is_sound (cpu_count d)) d.sets rest (name, cs) s.sets.fit) in
    let small : are_cpus cs ≡ true = fewer (cpu_count d) 64 cs s.most fit.1 in
    let plain : are_plain (codes "set" ∷ name ∷ cpu_words cs) ≡ true = rw (name-plain name named, cpus-plain cs small) refl in
    subst (λ (l : List CpuId). Takes (line_text (codes "set" ∷ name ∷ cpu_words cs)) d Outside (record d { sets = d.sets ++ (name, l) ∷ [] }) Outside) (cpus-back cs)
    (takes-line (codes "set") (name ∷ cpu_words cs) (Set name (numbers cs)) d plain (set-form name cs named small) (set-clear d name cs rest s))

pub takes-sets : (sets : List (Name × List CpuId)) (d : Declarations) (all : List (Word × List CpuId)) → d.sets ++ map set_kept sets ≡ all → IsSets (cpu_count d) all
    → Takes (flat_map set_text sets) d Outside (record d { sets = all }) Outside
takes-sets [] d all e s =
    subst (λ (x : List (Word × List CpuId)). Takes [] d Outside (record d { sets = x }) Outside) (sym (append-nil d.sets) ∙ e) (takes-nothing d Outside)
takes-sets (x ∷ xs) d all e s =
    let next : Declarations = record d { sets = d.sets ++ set_kept x ∷ [] } in
    takes-both (set_text x) (flat_map set_text xs) d next (record d { sets = all }) Outside Outside Outside
    (takes-set x.0.text.items x.1 (map set_kept xs) d x.0.is_name (subst (IsSets (cpu_count d)) (sym e) s))
    (takes-sets xs next all (append_assoc d.sets (set_kept x ∷ []) (map set_kept xs) ∙ e) s)
