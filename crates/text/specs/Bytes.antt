-- What the bytes at the front of a text are: separators, words, the inside of a symbol.
use Rattle.std.specs.Prelude.{ℕ, suc, Bool, true, false, cond, ◌||◌, List, [], ◌∷◌, Some, None, Option, ◌==◌}
use Rattle.std.specs.List.{prefix_len}
use Rattle.std.specs.Option.{option_map}
use Rattle.text.specs.declared.bracket.Bracket.TheVariants.{Round, Square}
use Rattle.text.specs.declared.bytes.Class.{Class}
use Rattle.text.specs.declared.bytes.Class.TheVariants.{Blank, Newline, Comment, Open, Close, Quote, Word}
use Rattle.text.specs.declared.bytes.Inside.{Inside}
use Rattle.text.specs.declared.bytes.Inside.TheVariants.{Plain, Escape, Closed, Broken}

-- What a byte begins: space, tab and carriage return; newline; ; the brackets; ' and every other byte.
abbrev pub class_of : ℕ → Class
class_of b =
    cond (b == 32 || b == 9 || b == 13) Blank
    (cond (b == 10) Newline
    (cond (b == 59) Comment
    (cond (b == 40) (Open Round)
    (cond (b == 41) (Close Round)
    (cond (b == 91) (Open Square)
    (cond (b == 93) (Close Square)
    (cond (b == 39) Quote Word)))))))

abbrev pub in_word : Class → Bool
in_word Word = true
in_word Blank = false
in_word Newline = false
in_word Comment = false
in_word (Open _) = false
in_word (Close _) = false
in_word Quote = false

-- The length of the longest front of bytes that can stand in a word.
abbrev pub word_run : List ℕ → ℕ
word_run = prefix_len (λ b. in_word (class_of b))

-- Whether a comment is open after a byte, from whether one was open before it.
abbrev pub comment_after : Class → Bool → Bool
comment_after Newline o = false
comment_after Comment o = true
comment_after Blank o = o
comment_after (Open _) o = o
comment_after (Close _) o = o
comment_after Quote o = o
comment_after Word o = o

-- Whether a byte only separates, from whether a comment is open before it.
abbrev pub separates : Class → Bool → Bool
separates Blank o = true
separates Newline o = true
separates Comment o = true
separates (Open _) o = o
separates (Close _) o = o
separates Quote o = o
separates Word o = o

-- The length of the longest front of blanks and comments; the Bool says that a comment is open.
abbrev pub separator_run : Bool → List ℕ → ℕ
separator_run o [] = 0
separator_run o (b ∷ s) = elim (separates (class_of b) o) [ true ↦ suc (separator_run (comment_after (class_of b) o) s) | false ↦ 0 ]

-- A backslash stands only before a quote or another backslash.
abbrev pub after_backslash : List ℕ → Inside
after_backslash [] = Broken
after_backslash (b ∷ s) = cond (b == 39 || b == 92) Escape Broken

-- What comes next between the quotes of a symbol.
abbrev pub part_inside : List ℕ → Inside
part_inside [] = Broken
part_inside (b ∷ s) = cond (b == 39) Closed (cond (b == 92) (after_backslash s) Plain)

-- How many bytes stand before the quote that closes a symbol. The Bool says that the next byte is escaped.
abbrev pub closing_after : Bool → List ℕ → Option ℕ
closing_after escaped [] = None
closing_after true (b ∷ s) = option_map suc (closing_after false s)
closing_after false (b ∷ s) = elim (part_inside (b ∷ s)) [
  | Closed ↦ Some 0
  | Broken ↦ None
  | Escape ↦ option_map suc (closing_after true s)
  | Plain ↦ option_map suc (closing_after false s)
]

abbrev pub closing : List ℕ → Option ℕ
closing = closing_after false
