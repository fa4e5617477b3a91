use Rattle.std.proofs.Common.{◌≡◌, [], ◌++◌, length, take, drop, replicate, Ok, Err, sym, ap, ◌∙◌, subst, rules}
use Rattle.std.proofs.lemmas.Result.{err_from_is_err_and}
use Rattle.grammar.specs.Reading.{reading}
use Rattle.layout.specs.Encoding.{unused}
use Rattle.symbols.specs.Numbering.{numbered}
use Rattle.std.proofs.lemmas.List.{length-replicate}
use Rattle.parser.specs.Recording.{Answers}
use Rattle.parser.proofs.ReadLaws.{lawful, read_refused, read_made, read_unlexed, under_names}
use Rattle.parser.proofs.reading.read.Goals as goal

pub returns-in_err-source-clause-law : goal.returns-in_err-source-clause-law
returns-in_err-source-clause-law c =
    let e = err_from_is_err_and c.from_residual.result c.from_residual.ensures.1 in
    rw e.1 (lawful c.args.text.now (length c.args.nodes.now) (Err c.in_err-source.field-0.0) (replicate (length c.args.nodes.now) unused) (read_unlexed c.args.text.now (length c.args.nodes.now) c.in_err-source.field-0.0 c.in_err-source.ensures))

pub returns-in-Err-clause-answers : goal.returns-in-Err-clause-answers
returns-in-Err-clause-answers c =
    let text = c.args.text.now in
    let entries = length c.args.nodes.now in
    let made = c.in_ok-source.ensures in
    let size : length c.clear.new.nodes ≡ entries = ap length c.clear.ensures ∙ length-replicate entries unused in
    let long : length c.definitions.new.nodes ≡ entries = c.definitions.auto.nodes ∙ size in
    let told = under_names c.in_ok-source.source.text.now text made.0 (length c.clear.new.nodes) entries size c.blank-tables.result c.blank-tables.ensures c.clear.new.nodes c.clear.ensures (Err c.in-Err.refused) c.definitions.new.tables c.definitions.new.nodes c.in-Err.ensures.told in
    let all : c.clear-in-Err.new.nodes ≡ replicate (length c.definitions.new.nodes) unused = search c.clear-in-Err.ensures in
    let cleared : c.clear-in-Err.new.nodes ≡ replicate entries unused = all ∙ ap (λ n. replicate n unused) long in
    subst (λ ns. Answers (reading text entries) text entries (Err c.in-Err.refused) ns) (sym cleared)
    (read_refused text entries made.1.0 made.1.1 c.in-Err.refused c.definitions.new.tables c.definitions.new.nodes told)

pub returns-in-Err-clause-law : goal.returns-in-Err-clause-law
returns-in-Err-clause-law c = lawful c.args.text.now (length c.args.nodes.now) (Err c.in-Err.refused) c.clear-in-Err.new.nodes (returns-in-Err-clause-answers c)

pub returns-clause-answers : goal.returns-clause-answers
returns-clause-answers c =
    let text = c.args.text.now in
    let entries = length c.args.nodes.now in
    let made = c.in_ok-source.ensures in
    let size : length c.clear.new.nodes ≡ entries = ap length c.clear.ensures ∙ length-replicate entries unused in
    let ok = c.in_default.ensures in
    let told = under_names c.in_ok-source.source.text.now text made.0 (length c.clear.new.nodes) entries size c.blank-tables.result c.blank-tables.ensures c.clear.new.nodes c.clear.ensures (Ok tt) c.definitions.new.tables c.definitions.new.nodes ok.told in
    let numbers : c.number_symbols.new.nodes ≡ numbered c.in_ok-source.source.text.now [] (take 4096 c.definitions.new.nodes) ++ drop 4096 c.definitions.new.nodes = search c.number_symbols.ensures in
    read_made text entries made.1.0 made.1.1 c.definitions.new.tables c.definitions.new.nodes c.number_symbols.new.nodes ok.goes told
    (numbers ∙ ap (λ x. numbered x [] (take 4096 c.definitions.new.nodes) ++ drop 4096 c.definitions.new.nodes) made.0)
    _ (search rules) (search rules) (search rules) c.first_nodes.ensures

pub returns-clause-law : goal.returns-clause-law
returns-clause-law c = lawful c.args.text.now (length c.args.nodes.now) _ c.number_symbols.new.nodes (returns-clause-answers c)
