use Rattle.std.proofs.Common.{rules}
use Rattle.run.proofs.Dropping.{finished_by}
use Rattle.run.proofs.closing.close.Goals as goal

pub returns-clause-law : goal.returns-clause-law
returns-clause-law g c = λ o h S. finished_by o h _ c.drop_all-dropped.result S (search rules) c.drop_all-dropped.ensures.law
