use Rattle.rules.proofs.Shares.{shares}
use Rattle.rules.proofs.making.check_making.Goals as goal

pub returns-clause-share : goal.returns-clause-share
returns-clause-share g c = λ made.
    shares _
    (record {
      made = made;
      measure = g.met.M.Measure.lawful c.args.measure.now;
      policy = g.met.P.Policy.lawful c.args.policy.now;
    })
