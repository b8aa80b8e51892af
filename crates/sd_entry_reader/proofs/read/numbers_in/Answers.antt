use Rattle.std.proofs.Common.{◌≡◌, ℕ, ◌+◌, ◌<◌, List, ◌++◌, length, map, drop, ap, ◌∙◌, arith}
use Rattle.std.specs.List.{slice_split}
use Rattle.sd_entries.specs.Reading.{byte_in, is_comma}
use Rattle.sd_entry_reader.proofs.CommaLemmas.{number_more, number_inside, number_last, numbers_full}
use Rattle.sd_entry_reader.proofs.read.numbers_in.Goals as goal

pub loop-len-preserved : goal.loop-len-preserved
loop-len-preserved c = record {
  all =
      ap (λ (made : List ℕ). made ++ map byte_in (slice_split is_comma (drop (c.loop-len.from + (c.in-Some.len + 1)) c.args.word.now))) c.push.ensures.items
      ∙ number_more c.args.word.now c.loop-len.numbers.items c.loop-len.from c.loop-len.invariant.inside c.loop-len.invariant.all c.in-Some.len c.byte_in.result c.in-Some.ensures c.byte_in.ensures;
  inside = number_inside c.args.word.now c.loop-len.numbers.items c.loop-len.from c.loop-len.invariant.inside c.loop-len.invariant.all c.in-Some.len c.byte_in.result c.in-Some.ensures c.byte_in.ensures;
}

pub returns-in-None : goal.returns-in-None
returns-in-None c =
    let few : length c.loop-len.numbers.items < 64 = omega (arith, c.len.ensures.value, c.loop-len-test.true) in
    c.push-in-None.ensures.items
    ∙ number_last c.args.word.now c.loop-len.numbers.items c.loop-len.from c.loop-len.invariant.inside c.loop-len.invariant.all c.byte_in-in-None.result few c.in-None.ensures c.byte_in-in-None.ensures

pub returns : goal.returns
returns c =
    let full : length c.loop-len.numbers.items ≡ 64 = omega (arith, c.len.ensures.value, c.len.ensures.fits, c.loop-len-test.false) in
    numbers_full c.args.word.now c.loop-len.numbers.items c.loop-len.from c.loop-len.invariant.inside c.loop-len.invariant.all full
