-- What a word is: an integer, a reserved word, or a name of at most 63 bytes.
use Rattle.std.specs.Prelude.{ℕ, ℤ, cond, List, length, Some, None, Ok, Err, Option, Result, nat_le}
use Rattle.text.specs.Integers.{integer_value}
use Rattle.text.specs.Keywords.{keyword_spelt}
use Rattle.text.specs.declared.keyword.Keyword.{Keyword}
use Rattle.text.specs.declared.refusal.Refusal.{Refusal}
use Rattle.text.specs.declared.refusal.Refusal.TheVariants as refusal
use Rattle.text.specs.declared.token.TokenKind.{TokenKind}
use Rattle.text.specs.declared.token.TokenKind.TheVariants as kind

abbrev pub name_or : Option Keyword → ℕ → Result TokenKind Refusal
name_or (Some k) n = Ok (kind.Keyword k)
name_or None n = cond (nat_le n 63) (Ok kind.Name) (Err refusal.Limit)

abbrev pub integer_or : Result (Option ℤ) Refusal → List ℕ → Result TokenKind Refusal
integer_or (Ok (Some z)) w = Ok (kind.Integer z)
integer_or (Err e) w = Err e
integer_or (Ok None) w = name_or (keyword_spelt w) (length w)

abbrev pub kind_of_word : List ℕ → Result TokenKind Refusal
kind_of_word w = integer_or (integer_value w) w
