use Rattle.advice.proofs.explanations.explain_second_use.Goals as goal

pub returns : goal.returns
returns c = let told = rw (c.number.ensures, c.refusal_advice-advice.ensures.words) at c.explanation_with_first.ensures in search told
