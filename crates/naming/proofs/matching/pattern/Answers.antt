use Rattle.naming.specs.Judges.{desk}
use Rattle.naming.proofs.MatchLaws.{matched_wildcard, matched_by}
use Rattle.naming.proofs.matching.pattern.Goals as goal

pub returns-in-None-clause-matched : goal.returns-in-None-clause-matched
returns-in-None-clause-matched c script x set ready shows =
    matched_wildcard c.args.world.now script set (desk c.args.scope.now c.args.locals.now) ready c.args.datatype c.args.i c.args.height c.args.codes.now x (c.in-None.ensures x set.short shows) c.node_at.result c.note.new.codes c.node_at.ensures c.note.ensures

pub returns-in-Some-clause-matched : goal.returns-in-Some-clause-matched
returns-in-Some-clause-matched c script x set ready shows =
    matched_by c.args.world.now script set (desk c.args.scope.now c.args.locals.now) ready c.args.datatype c.args.i c.args.height c.args.codes.now x c.in-Some.head (c.in-Some.ensures x set.short shows)
    c.constructor.result (desk c.constructor.new.scope c.constructor.new.locals) c.constructor.new.codes c.constructor.ensures.matched
