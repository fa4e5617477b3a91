use Rattle.rules.proofs.Accounting.{accounts as accounts-hold}
use Rattle.rules.proofs.laws.accounts_stand.Goals as goal

pub returns : goal.returns
returns c = record { accounts = accounts-hold }
