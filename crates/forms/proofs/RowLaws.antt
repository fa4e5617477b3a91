-- One part more of a list, and its end.
use Rattle.std.proofs.Common.{◌≡◌, ℕ, ◌+◌, List, [], ◌∷◌, ◌++◌, length, set, Ok, Err, sym, refl, ap, ◌∙◌, subst, add-zero, arith}
use Rattle.std.proofs.lemmas.List.{append-nil, append_assoc, length-append}
use Rattle.text.specs.Tokens.{lexeme, Lexed, also, lexed_from}
use Rattle.text.specs.declared.bracket.Bracket.{Bracket}
use Rattle.text.specs.declared.refusal.Refused.{Refused}
use Rattle.forms.specs.Progress.{puts, Told}
use Rattle.grammar.specs.Reading.{Tally, Outcome, refused, made, and_then}
use Rattle.forms.specs.Rows.{closed_by, read_each, encode_each, Along}
use Rattle.forms.specs.Looks.{Seen, NotClosing}
use Rattle.grammar.specs.Sexps.{Sexp, atom, list, Sexps, nil, cons, opening, AllAtoms}
use Rattle.text.specs.Grammar.{NoBracket}
use Rattle.text.specs.declared.token.TokenKind.TheVariants as kind
use Rattle.grammar.specs.Streams.{stream}
use Rattle.layout.specs.declared.node.Node.{Node}
use Rattle.forms.specs.declared.spot.Spot.{Spot}

pub puts-++ : {E : Type 0} (ns : List E) (i : ℕ) (a b : List E) → puts ns i (a ++ b) ≡ puts (puts ns i a) (i + length a) b
puts-++ ns i [] b = ap (λ j. puts ns j b) (sym (add-zero i))
puts-++ ns i (x ∷ a) b =
    let e : i + 1 + length a ≡ i + length (x ∷ a) = omega arith in
    puts-++ (set ns i x) (i + 1) a b ∙ ap (λ j. puts (puts (set ns i x) (i + 1) a) j b) e

-- a closing bracket ends the list
pub left_none : (left : Sexps) (shape : Bracket) (q : ℕ) (rest : Lexed) (shape' : Bracket) (p : ℕ) (w : List ℕ) (l : Lexed)
    → closed_by left shape q rest ≡ also (lexeme (kind.Close shape') p w) l → AllAtoms left → (left ≡ nil) × (l ≡ rest)
left_none nil shape q rest shape' p w l e a = (refl, cc)
left_none (cons (atom k p' w') left) shape q rest shape' p w l e a = let z : lexeme k p' w' ≡ lexeme (kind.Close shape') p w = cc in absurd (subst NoBracket (ap (λ t. t.kind) z) a.0)
left_none (cons (list r p' ss q') left) shape q rest shape' p w l e a = absurd (let z : lexeme (kind.Open r) p' (opening r) ≡ lexeme (kind.Close shape') p w = cc in let y : kind.Open r ≡ kind.Close shape' = ap (λ t. t.kind) z in cc)

-- anything else is one more part
pub left_some : (left : Sexps) (shape : Bracket) (q : ℕ) (rest : Lexed) → NotClosing (closed_by left shape q rest) → (x : Sexp) × ((more : Sexps) × (left ≡ cons x more))
left_some nil shape q rest n = absurd n
left_some (cons x more) shape q rest n = (x, (more, refl))

module _ {A : Type 0} (read : Sexp → Tally → Outcome A) (encoding : ℕ → A → List Node) where
  each-++ : (i : ℕ) (xs bs : List A) → encode_each encoding i (xs ++ bs) ≡ encode_each encoding i xs ++ encode_each encoding (i + length (encode_each encoding i xs)) bs
  each-++ i [] bs = ap (λ j. encode_each encoding j bs) (sym (add-zero i))
  each-++ i (a ∷ xs) bs =
      let x = encoding i a in
      let j = i + length x in
      let e : j + length (encode_each encoding j xs) ≡ i + length (x ++ encode_each encoding j xs) = omega (arith, length-append x (encode_each encoding j xs)) in
      ap (λ y. x ++ y) (each-++ j xs bs) ∙ sym (append_assoc x (encode_each encoding j xs) _) ∙ ap (λ k. (x ++ encode_each encoding j xs) ++ encode_each encoding k bs) e

  then_assoc : (o : Outcome (List A)) (done : List A) (a : A) → and_then (and_then o (λ xs n. made (a ∷ xs) n)) (λ xs m. made (done ++ xs) m) ≡ and_then o (λ xs m. made ((done ++ a ∷ []) ++ xs) m)
  then_assoc (refused r) done a = refl
  then_assoc (made xs m) done a = ap (λ x. made x m) (sym (append_assoc done (a ∷ []) xs))

  module _ (text : List ℕ) (from : Spot) (ns : List Node) (ss : Sexps) (shape : Bracket) (q : ℕ) (rest : Lexed) (n : Tally) where
    -- at the beginning
    pub along_start : lexed_from text from.place ≡ closed_by ss shape q rest → AllAtoms ss → n.nodes ≡ from.used → Along read encoding text from ns ss shape q rest n from ns
    along_start follows atoms used = record {
      done = [];
      left = ss;
      tally = n;
      follows = follows;
      atoms = atoms;
      used = used;
      size = sym (add-zero from.used);
      written = refl;
      whole = same (read_each read ss n);
    }
      where
        same : (o : Outcome (List A)) → o ≡ and_then o (λ xs m. made ([] ++ xs) m)
        same (refused r) = refl
        same (made xs m) = refl

    module _ (at : Spot) (now : List Node) (s : Along read encoding text from ns ss shape q rest n at now) where
      -- at the closing bracket
      pub along_end : (shape' : Bracket) (w : List ℕ) (p after : ℕ) → Seen text at.place (kind.Close shape') w p after
          → Told text rest from ns (encode_each encoding from.used) (read_each read ss n) (Ok (record { place = after; used = at.used })) now
      along_end shape' w p after seen =
          let e = left_none s.left shape q rest shape' p w (lexed_from text after) (sym s.follows ∙ seen.follows) s.atoms in
          let whole : read_each read ss n ≡ made s.done s.tally =
          s.whole ∙ ap (λ l. and_then (read_each read l s.tally) (λ xs m. made (s.done ++ xs) m)) e.0 ∙ ap (λ xs. made xs s.tally) (append-nil s.done) in
          let size = s.size in
          let used = s.used in
          subst (λ o. Told text rest from ns (encode_each encoding from.used) o (Ok (record { place = after; used = at.used })) now) (sym whole)
          (sym used, omega arith, e.1, s.written)

      -- one part more
      pub along_part : (part : Sexp) (more : Sexps) → s.left ≡ cons part more → lexed_from text at.place ≡ stream part (closed_by more shape q rest)
      along_part part more e = s.follows ∙ ap (λ l. closed_by l shape q rest) e

      go_on : (part : Sexp) (more : Sexps) → s.left ≡ cons part more → read_each read ss n ≡ and_then (and_then (read part s.tally) (λ a m. and_then (read_each read more m) (λ xs m. made (a ∷ xs) m))) (λ xs m. made (s.done ++ xs) m)
      go_on part more e = s.whole ∙ ap (λ l. and_then (read_each read l s.tally) (λ xs m. made (s.done ++ xs) m)) e

      pub along_next : (part : Sexp) (more : Sexps) → s.left ≡ cons part more → (end : Spot) (then : List Node) (o : Outcome A) → read part s.tally ≡ o
          → Told text (closed_by more shape q rest) at now (encoding at.used) o (Ok end) then → Along read encoding text from ns ss shape q rest n end then
      along_next part more e end then (refused r) h t = absurd (cc)
      along_next part more e end then (made a m) h t =
          let size = s.size in
          let a0 = t.0 in
          let a1 = t.1 in
          let d = encode_each encoding from.used s.done in
          let at_is : from.used + length d ≡ at.used = sym size in
          let one : encode_each encoding from.used (s.done ++ a ∷ []) ≡ d ++ encoding at.used a =
          each-++ from.used s.done (a ∷ []) ∙ ap (λ y. d ++ y) (append-nil (encoding (from.used + length d) a)) ∙ ap (λ j. d ++ encoding j a) at_is in
          record {
            done = s.done ++ a ∷ [];
            left = more;
            tally = m;
            follows = t.2;
            atoms = (subst AllAtoms e s.atoms).1;
            used = sym a0;
            size = omega (arith, ap length one, length-append d (encoding at.used a));
            written = t.3 ∙ ap (λ y. puts y at.used (encoding at.used a)) s.written ∙ ap (λ j. puts (puts ns from.used d) j (encoding at.used a)) size ∙ sym (puts-++ ns from.used d (encoding at.used a)) ∙ sym (ap (puts ns from.used) one);
            whole = go_on part more e ∙ ap (λ o. and_then (and_then o (λ a m. and_then (read_each read more m) (λ xs m. made (a ∷ xs) m))) (λ xs m. made (s.done ++ xs) m)) h ∙ then_assoc (read_each read more m) s.done a;
          }

      pub along_refused : (part : Sexp) (more : Sexps) → s.left ≡ cons part more → (x : Refused) (then : List Node) (o : Outcome A) → read part s.tally ≡ o
          → Told text (closed_by more shape q rest) at now (encoding at.used) o (Err x) then → Told text rest from ns (encode_each encoding from.used) (read_each read ss n) (Err x) then
      along_refused part more e x then (made a m) h t = absurd t
      along_refused part more e x then (refused r) h t =
          subst (λ o. Told text rest from ns (encode_each encoding from.used) o (Err x) then)
          (sym (go_on part more e ∙ ap (λ o. and_then (and_then o (λ a m. and_then (read_each read more m) (λ xs m. made (a ∷ xs) m))) (λ xs m. made (s.done ++ xs) m)) h)) t
