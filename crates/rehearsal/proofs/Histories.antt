-- The history that the answers and the output slice tell is the one that was made.
use Rattle.std.proofs.Common.{◌≡◌, ℕ, List, [], ◌∷◌, ◌++◌, map, length, take, drop, sym, refl, ap, ◌∙◌, arith, length-append}
use Rattle.std.proofs.Math.Seq.{take-append_seam, drop-append_seam, take-add}
use Rattle.std.proofs.lemmas.List.{take-take}
use Rattle.rehearsal.specs.Asking.{answered, all_bytes, history_of, MadeAll}
use Rattle.rehearsal.specs.declared.asks.Ask.{Ask}
use Rattle.rules.specs.Runs.{Answer}
use Rattle.run.specs.Openings.{Made, made}
use Rattle.run.specs.Stands.{Said, said, told}

-- each answer counts the bytes that were written
abbrev Sized : List Made → Type 0
Sized [] = Unit {0}
Sized (c ∷ h) = (c.answer.bytes ≡ length c.bytes) × Sized h

sized : (h : List Made) (answers : List Answer) → map told h ≡ map said answers → Sized h
sized [] answers e = tt
sized (c ∷ h) [] e = absurd (cc)
sized (c ∷ h) (o ∷ answers) e =
    let first : told c ≡ said o = cc in
    let others : map told h ≡ map said answers = cc in
    (ap (λ (s : Said). s.written) first ∙ sym (ap (λ (s : Said). length s.bytes) first), sized h answers others)

-- the first piece of a slice, and what is behind it
first_piece : (xs ys out : List ℕ) → take (length (xs ++ ys)) out ≡ xs ++ ys → take (length xs) out ≡ xs
first_piece xs ys out e =
    sym (take-take (length xs) (length (xs ++ ys)) out (omega (arith, length-append xs ys))) ∙ (ap (take (length xs)) e ∙ take-append_seam xs ys)

next_piece : (xs ys out : List ℕ) → take (length (xs ++ ys)) out ≡ xs ++ ys → take (length ys) (drop (length xs) out) ≡ ys
next_piece xs ys out e =
    let whole : xs ++ take (length ys) (drop (length xs) out) ≡ xs ++ ys =
    ap (λ l. l ++ take (length ys) (drop (length xs) out)) (sym (first_piece xs ys out e)) ∙ (sym (take-add (length xs) (length ys) out) ∙ (ap (λ n. take n out) (sym (length-append xs ys)) ∙ e)) in
    sym (drop-append_seam xs (take (length ys) (drop (length xs) out))) ∙ (ap (drop (length xs)) whole ∙ drop-append_seam xs ys)

told_history : (h : List Made) (out : List ℕ) → Sized h → take (length (all_bytes h)) out ≡ all_bytes h → history_of (map answered h) out ≡ h
told_history [] out s e = refl
told_history (c ∷ h) out s e =
    let piece : take c.answer.bytes out ≡ c.bytes = ap (λ n. take n out) s.0 ∙ first_piece c.bytes (all_bytes h) out e in
    let rest = told_history h (drop (length c.bytes) out) s.1 (next_piece c.bytes (all_bytes h) out e) in
    ap (λ b. made c.count c.room c.answer b ∷ history_of (map answered h) (drop c.answer.bytes out)) piece
    ∙ ap (λ l. c ∷ l) (ap (λ n. history_of (map answered h) (drop n out)) s.0 ∙ rest)

pub history_is : (asks after : List Ask) (old new : List ℕ) (h : List Made) (answers : List Answer) → MadeAll asks after old new h → map told h ≡ map said answers → history_of after new ≡ h
history_is asks after old new h answers m e = ap (λ l. history_of l new) m.answers ∙ told_history h new (sized h answers e) m.front
