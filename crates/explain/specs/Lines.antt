-- Lines and columns of a text. A newline, byte 10, ends a line and belongs to it.
use Rattle.std.specs.Prelude.{ℕ, ◌+◌, ◌-◌, not, List, length, take, drop, ◌==◌}
use Rattle.std.specs.List.{count_by, prefix_len, suffix_len}

-- how many newlines there are
abbrev pub newlines : List ℕ → ℕ
newlines = count_by (λ b. b == 10)

-- how many bytes follow the last newline
abbrev pub newline_since : List ℕ → ℕ
newline_since = suffix_len (λ b. not (b == 10))

-- how many bytes stand before the first newline
abbrev pub newline_until : List ℕ → ℕ
newline_until = prefix_len (λ b. not (b == 10))

-- what stands before the first newline
abbrev pub leading_line : List ℕ → List ℕ
leading_line s = take (newline_until s) s

-- where the line of a place begins
abbrev pub line_start : List ℕ → ℕ → ℕ
line_start text place = length (take place text) - newline_since (take place text)

-- the bytes before a place on its line
abbrev pub lead_of : List ℕ → ℕ → List ℕ
lead_of text place = drop (line_start text place) (take place text)

-- the line around a place, without its newline
abbrev pub around_line : List ℕ → ℕ → List ℕ
around_line text place = leading_line (drop (line_start text place) text)

-- the line of a place, from 1: one more than the newlines before it
abbrev pub line_of : List ℕ → ℕ → ℕ
line_of text place = newlines (take place text) + 1

-- the column of a place, from 1: one more than the bytes since the last newline before it
abbrev pub column_of : List ℕ → ℕ → ℕ
column_of text place = newline_since (take place text) + 1
