use Rattle.std.proofs.Common.{sym, ◌∙◌}
use Rattle.names.specs.Indexing.{names_in}
use Rattle.globals.proofs.Among.{among_result, among_reverse}
use Rattle.globals.proofs.declaring.is_among.Goals as goal

pub returns : goal.returns
returns c =
    let w = c.args.name.now in
    let names = names_in c.args.text.now c.args.index.now in
    record {
      value = λ ix. c.is_some.ensures ∙ among_result w names c.find.result (c.find.ensures.found ix);
      backwards = λ ix. c.is_some.ensures ∙ among_result w names c.find.result (c.find.ensures.found ix) ∙ sym (among_reverse w names);
    }
