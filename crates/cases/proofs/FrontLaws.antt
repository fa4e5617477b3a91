-- A known word in front, one digit more.
use Rattle.std.proofs.Common.{◌≡◌, ℕ, ◌+◌, ◌-◌, ◌*◌, ◌/◌, ◌%◌, ◌<◌, ◌≤◌, ◌^◌, List, [], ◌∷◌, ◌++◌, length, get_or, take, drop, true, sym, refl, ap, ◌∙◌, arith, decimal}
use Rattle.std.proofs.lemmas.List.{take-append-drop, take_more}
use Rattle.std.proofs.lemmas.Fmt.{decimal_step}
use Rattle.std.specs.Cmp.Lexicographic.{same_text}
use Rattle.std.specs.Str.{bytes_eq}

pub word_front : (word left : List ℕ) → bytes_eq (take (length word) left) word ≡ true → left ≡ word ++ drop (length word) left
word_front word left e = sym (take-append-drop (length word) left) ∙ ap (λ (front : List ℕ). front ++ drop (length word) left) (same_text _ _ (sym e))

digit_more : (n d m : ℕ) (front : List ℕ) → 0 < n → d < 10 → m ≡ n * 10 + d → m < 2 ^ 64 → decimal n ≡ front → decimal m ≡ front ++ (48 + d) ∷ []
digit_more n d m front positive digit e small h =
    let quotient : m / 10 ≡ n = omega arith in
    let rest : m % 10 ≡ d = omega arith in
    decimal_step m (omega arith) small ∙ rw (quotient, rest, h) refl

pub number_step : (more : List ℕ) (i first n m : ℕ) → i < length more → 0 < n → 48 ≤ get_or more i 0 → get_or more i 0 ≤ 57 → m ≡ n * 10 + (get_or more i 0 - 48) → m < 2 ^ 64 → decimal n ≡ (48 + first) ∷ take i more → decimal m ≡ (48 + first) ∷ take (i + 1) more
number_step more i first n m lt positive low high e small h =
    let digit : 48 + (get_or more i 0 - 48) ≡ get_or more i 0 = omega arith in
    rw (take_more more i 0 lt) (digit_more n (get_or more i 0 - 48) m ((48 + first) ∷ take i more) positive (omega arith) e small h ∙ rw digit refl)
