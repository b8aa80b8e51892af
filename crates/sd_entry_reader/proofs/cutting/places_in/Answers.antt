use Rattle.std.proofs.Common.{◌≡◌, ℕ, ◌≤◌, ◌++◌, List, length, drop, subst, sym, ap, ◌∙◌, arith}
use Rattle.sd_text.specs.Words.{words_of}
use Rattle.sd_entry_reader.specs.Cutting.{AreWithin, words_at}
use Rattle.sd_entry_reader.proofs.PlaceLemmas.{within_more, words_more, words_last, words_full}
use Rattle.sd_entry_reader.proofs.cutting.places_in.Goals as goal

pub loop-from-preserved : goal.loop-from-preserved
loop-from-preserved c =
    let line = c.args.line.now in
    let places = c.loop-from.places.items in
    let start = c.in-Some.start in
    let end = c.in-Some.end in
    let within = c.in-Some.ensures.within in
    let more = c.push.ensures.items in
    record {
      within =
          subst (AreWithin line) (sym more)
          (within_more line places (start, end) c.loop-from.invariant.within (omega arith, omega arith));
      words =
          ap (λ (ps : List (ℕ × ℕ)). words_at line ps ++ words_of (drop end line)) more
          ∙ words_more line places c.loop-from.from c.loop-from.invariant.words (start, end) c.in-Some.ensures.word;
    }

pub returns-in-None : goal.returns-in-None
returns-in-None c =
    let few : length c.loop-from.places.items ≤ 11 = omega (arith, c.len.ensures.value, c.len.ensures.fits) in
    record {
      within = c.loop-from.invariant.within;
      words = words_last c.args.line.now c.loop-from.places.items c.loop-from.from c.loop-from.invariant.words few c.in-None.ensures.none;
    }

pub returns : goal.returns
returns c =
    let full : length c.loop-from.places.items ≡ 11 = omega (arith, c.len.ensures.value, c.len.ensures.fits, c.loop-from-test.false) in
    record {
      within = c.loop-from.invariant.within;
      words = words_full c.args.line.now c.loop-from.places.items c.loop-from.from c.loop-from.invariant.words full;
    }
