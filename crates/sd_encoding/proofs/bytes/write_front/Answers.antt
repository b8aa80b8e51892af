use Rattle.std.proofs.Common.{◌++◌}
use Rattle.sd_encoding.specs.Bytes.{bytes_from}
use Rattle.sd_encoding.proofs.WritingLemmas.{byte_more}
use Rattle.sd_encoding.proofs.bytes.write_front.Goals as goal

pub loop-rest-preserved : goal.loop-rest-preserved
loop-rest-preserved c = byte_more c.loop-rest.into c.push.new.self c.loop-rest.rest (λ more. c.args.into.now ++ bytes_from c.args.number 0 more) c.loop-rest-test.true c.in_ok-push.ensures.written c.loop-rest.invariant
