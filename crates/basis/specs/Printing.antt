-- The bytes that the basis prints.
use Rattle.std.specs.Prelude.{ℕ, Bool, true, false, cond, not, ◌&&◌, List, [], ◌∷◌, ◌++◌, length, drop, ℤ, Some, None, codes, Option, ◌==◌, nat_le}
use Rattle.std.specs.Fmt.{signed_decimal}
use Rattle.basis.specs.declared.print.Print.{Print}
use Rattle.basis.specs.declared.print.Print.TheVariants as print

-- an int in decimal, a - before a negative one
abbrev pub decimal_of : ℤ → List ℕ
decimal_of n = signed_decimal n

abbrev pub text_of_bool : Bool → List ℕ
text_of_bool true = codes "true"
text_of_bool false = codes "false"

-- whether a byte between the quotes of a literal goes: a backslash that no backslash before it escapes
abbrev pub goes : Bool → ℕ → Bool
goes escaped b = not escaped && b == 92

-- The text of a symbol, from the bytes between the quotes of its literal: a backslash goes, and the byte after it stays. The Bool
-- says that a backslash went just before.
abbrev pub unescaped_after : Bool → List ℕ → List ℕ
unescaped_after escaped [] = []
unescaped_after escaped (b ∷ s) = elim (goes escaped b) [ true ↦ unescaped_after true s | false ↦ b ∷ unescaped_after false s ]

abbrev pub unescaped : List ℕ → List ℕ
unescaped s = unescaped_after false s

-- what is printed; `body` stands between the quotes of the symbol's literal, where a symbol is
abbrev pub printed : Print → List ℕ → List ℕ
printed (print.Int n) body = decimal_of n
printed (print.Bool b) body = text_of_bool b
printed (print.Sym n) body = unescaped body
printed print.Unit body = codes "unit"
printed print.Newline body = 10 ∷ []
printed (print.Byte b) body = b ∷ []

-- writing bytes to the front of a slice answers how many they are, or none where they do not fit
abbrev pub fitting : List ℕ → List ℕ → Option ℕ
fitting bytes room = cond (nat_le (length bytes) (length room)) (Some (length bytes)) None

-- what the slice then holds: the bytes, and behind them what it held; where they do not fit, what it held
abbrev pub over : List ℕ → List ℕ → List ℕ
over bytes room = cond (nat_le (length bytes) (length room)) (bytes ++ drop (length bytes) room) room
