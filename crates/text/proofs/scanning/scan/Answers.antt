use Rattle.std.proofs.Common.{◌≡◌, sym, subst, arith, rules}
use Rattle.text.specs.Grammar.{Lawful}
use Rattle.text.specs.Scans.{scan, counted}
use Rattle.text.proofs.GrammarLaws.{scan_lawful}
use Rattle.text.proofs.scanning.scan.Goals as goal

pub returns-then-text-gt-TEXT : goal.returns-then-text-gt-TEXT
returns-then-text-gt-TEXT c = record { answer = search rules; law = λ ts lawful. let few = lawful.short in omega arith }

pub returns : goal.returns
returns c =
    let answer : c.pass.result ≡ counted (scan c.args.text.now) = search rules in
    record { answer = answer; law = subst (Lawful c.args.text.now) (sym answer) (scan_lawful c.args.text.now) }
