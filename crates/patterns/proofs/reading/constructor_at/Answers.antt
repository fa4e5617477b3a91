use Rattle.patterns.proofs.PartLaws.{head_lies}
use Rattle.patterns.proofs.reading.constructor_at.Goals as goal

pub returns-in-Atom : goal.returns-in-Atom
returns-in-Atom c x xs short at =
    let seen = c.in-Atom.ensures in
    head_lies c.args.text.now c.args.inside c.in-Atom.at c.in-Atom.after c.args.place c.in-Atom.field-0 seen.0 c.word.result x xs short seen.1 seen.2 c.word.ensures at
