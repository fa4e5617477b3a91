use Rattle.std.proofs.Common.{◌≡◌, ◌+◌, ◌-◌, length, take, drop, sym, refl, ap, ◌∙◌, subst, arith}
use Rattle.std.proofs.lemmas.List.{take_rest, drop-drop, length-drop, length-take-le}
use Rattle.text.specs.Fronts.{text_front}
use Rattle.text.specs.Grammar.{Spelt, Whole, Unblank}
use Rattle.text.specs.Tokens.{fault, also, lexeme, lexed, lexed_from}
use Rattle.text.proofs.GrammarEdges.{spelt_edges}
use Rattle.text.proofs.GrammarTokens.{front_spelt}
use Rattle.text.proofs.TokenLaws.{next_is, next_end, token_some}
use Rattle.text.proofs.reader.Reader.next.Goals as goal

pub returns-in-Ok-None-clause-reads : goal.returns-in-Ok-None-clause-reads
returns-in-Ok-None-clause-reads c =
    let s = c.args.self.now.text.now in
    let i = c.args.self.now.place in
    let n = c.separator_len.result in
    let run = c.separator_len.ensures.value in
    let none = rw c.in-Ok-None.field-0-is at c.in-Ok-None.ensures.value in
    let ended = next_end s i n run none in
    let most = c.separator_len.ensures.within in
    let rest = ap length (take_rest s i) in
    let size = length-drop i s in
    (next_is s i n run _ none, omega arith)

pub returns-in-Err-clause-reads : goal.returns-in-Err-clause-reads
returns-in-Err-clause-reads c =
    let s = c.args.self.now.text.now in
    let i = c.args.self.now.place in
    let j = i + c.separator_len.result in
    let here : lexed_from s i ≡ fault c.in-Err.refusal j = next_is s i _ c.separator_len.ensures.value _ c.in-Err.ensures.value in
    (cc, refl)

pub returns-in-Ok-Some-clause-reads : goal.returns-in-Ok-Some-clause-reads
returns-in-Ok-Some-clause-reads c =
    let s = c.args.self.now.text.now in
    let i = c.args.self.now.place in
    let j = i + c.separator_len.result in
    let k = c.in-Ok-Some.field-0-0.kind in
    let n = c.in-Ok-Some.field-0-0.size in
    let x = drop j s in
    let is = rw c.in-Ok-Some.field-0-is at c.in-Ok-Some.ensures.value in
    let front = sym (is ∙ ap text_front (take_rest s j)) in
    let some = token_some x k n front in
    let sp = front_spelt x k n front in
    let inside = sp.2 in
    let size = length-drop j s in
    let same : n ≡ j + n - j = omega arith in
    let long : length (take (j + n - j) x) ≡ n = ap (λ m. length (take m x)) (sym same) ∙ length-take-le n x inside in
    let here : lexed_from s i ≡ also (lexeme k j (take (j + n - j) x)) (lexed_from s (j + n)) =
    next_is s i _ c.separator_len.ensures.value _ is
    ∙ ap (λ m. also (lexeme k j (take m x)) (lexed 0 (j + n) (drop n x))) same
    ∙ ap (λ t. also (lexeme k j (take (j + n - j) x)) (lexed 0 (j + n) t)) (drop-drop n j s) in
    record {
      follows = cc;
      forward = (omega arith, omega arith);
      within = omega arith;
      ends = ap (λ m. j + m) (sym long);
      part = ap (λ m. take m x) (sym same ∙ sym long);
      spelt = subst (λ m. Spelt k (take m x)) same sp.0;
      edges = subst (λ m. Unblank (take m x)) same (spelt_edges k (take n x) sp.0);
      whole = subst (Whole k) (drop-drop n j s) sp.1;
    }
