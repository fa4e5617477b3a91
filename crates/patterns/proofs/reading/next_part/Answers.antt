use Rattle.std.proofs.Common.{◌≡◌, true, sym, ◌∙◌, subst, rules}
use Rattle.std.proofs.lemmas.Bool.{false≢true}
use Rattle.forms.specs.Looks.{Seen}
use Rattle.text.specs.declared.token.TokenKind.TheVariants as kind
use Rattle.patterns.proofs.PartLaws.{TakesUp, next_name, next_other}
use Rattle.patterns.proofs.reading.next_part.Goals as goal

pub returns-in-Atom-clause-part : goal.returns-in-Atom-clause-part
returns-in-Atom-clause-part c xs short at =
    let a = c.in-Atom in
    let seen = a.ensures in
    let is : c.eq.result ≡ true → a.kind ≡ kind.Name = search rules in
    let word : TakesUp a.at a.after c.word.result = search rules in
    next_name c.args.text.now c.args.place a.at a.after seen.0 c.word.result xs short (subst (λ k. Seen c.args.text.now c.args.place k seen.0 a.at a.after) (is c.if-eq.true) seen.1) word at

pub returns-in-Atom-2-clause-part : goal.returns-in-Atom-2-clause-part
returns-in-Atom-2-clause-part c xs short at =
    let a = c.in-Atom in
    let seen = a.ensures in
    let is : a.kind ≡ kind.Name → c.eq.result ≡ true = search rules in
    let part = next_other c.args.text.now c.args.place a.at a.after a.kind seen.0 xs seen.1 seen.2 (λ e. false≢true (sym c.if-eq.false ∙ is e)) at in
    search rules
