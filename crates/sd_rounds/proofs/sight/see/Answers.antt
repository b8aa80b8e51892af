use Rattle.sd_rounds.proofs.sight.see.Goals as goal

pub returns-in-Age-clause-seen : goal.returns-in-Age-clause-seen
returns-in-Age-clause-seen c n s sh is = c.see_ageing.ensures.seen n s sh

pub returns-in-Age-clause-noted : goal.returns-in-Age-clause-noted
returns-in-Age-clause-noted c = c.see_ageing.ensures.noted c.args.searched.now
