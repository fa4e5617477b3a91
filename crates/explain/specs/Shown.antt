-- How bytes are shown, one column for each.
use Rattle.std.specs.Prelude.{ℕ, cond, ◌&&◌, ◌||◌, ◌==◌, nat_le}

-- the tab and printable ASCII, from the space to ~, as they are; a carriage return as a space; every other byte as ?
abbrev pub byte_shown : ℕ → ℕ
byte_shown b = cond (b == 9 || (nat_le 32 b && nat_le b 126)) b (cond (b == 13) 32 63)

-- under a byte before the mark: a tab under a tab, and a space under any other
abbrev pub byte_under : ℕ → ℕ
byte_under b = cond (b == 9) 9 32
