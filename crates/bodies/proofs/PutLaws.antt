-- Entries written one part after another.
use Rattle.std.proofs.Common.{◌≡◌, ℕ, ◌+◌, ◌<◌, List, [], ◌∷◌, ◌++◌, length, set, refl, ap, sym, ◌∙◌, arith}
use Rattle.std.proofs.lemmas.List.{set_comm}
use Rattle.forms.specs.Progress.{puts}
use Rattle.forms.proofs.RowLaws.{puts-++}

-- an entry written before those behind it, or after them
pub set_puts : {E : Type 0} (ns : List E) (i j : ℕ) (x : E) (xs : List E) → i < j → set (puts ns j xs) i x ≡ puts (set ns i x) j xs
set_puts ns i j x [] h = refl
set_puts ns i j x (y ∷ xs) h = set_puts (set ns j y) i (j + 1) x xs (omega arith) ∙ ap (λ ms. puts ms (j + 1) xs) (set_comm ns j i y x (λ z. omega arith))

-- one part, and another behind it
pub puts_two : {E : Type 0} (ns mid after : List E) (i j : ℕ) (xs ys : List E) → mid ≡ puts ns i xs → after ≡ puts mid j ys → j ≡ i + length xs → after ≡ puts ns i (xs ++ ys)
puts_two ns mid after i j xs ys a b at = b ∙ ap (λ m. puts m j ys) a ∙ ap (λ j. puts (puts ns i xs) j ys) at ∙ sym (puts-++ ns i xs ys)
