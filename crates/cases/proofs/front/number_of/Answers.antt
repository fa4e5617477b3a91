use Rattle.std.proofs.Common.{[], ◌∷◌, lit<, sym, ◌∙◌, arith}
use Rattle.std.proofs.lemmas.Fmt.{decimal_digit}
use Rattle.std.proofs.lemmas.Slice.Eq.{text_from_reads}
use Rattle.cases.proofs.front.number_of.Goals as goal

pub returns-in-48 : goal.returns-in-48
returns-in-48 c = text_from_reads c.args.word.now (48 ∷ []) (omega arith) (omega arith, tt) ∙ sym (decimal_digit 0 (lit< tt))
