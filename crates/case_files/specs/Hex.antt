-- What a digit of base 16 writes.
use Rattle.std.specs.Prelude.{ℕ, ◌+◌, ◌-◌, ◌*◌, cond, ◌&&◌, List, [], ◌∷◌, nat_le}

-- 0 to 9 and a to f; every other byte writes nothing
abbrev pub nibble : ℕ → ℕ
nibble b = cond (nat_le 48 b && nat_le b 57) (b - 48) (cond (nat_le 97 b && nat_le b 102) (b - 97 + 10) 0)

-- the bytes that digits write, two each; a last digit alone writes nothing
abbrev pub hex_bytes : List ℕ → List ℕ
hex_bytes [] = []
hex_bytes (high ∷ []) = []
hex_bytes (high ∷ low ∷ s) = (nibble high * 16 + nibble low) ∷ hex_bytes s
