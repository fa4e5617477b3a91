-- Which reserved word a word is.
use Rattle.std.specs.Prelude.{ℕ, cond, List, Some, None, codes, Option}
use Rattle.std.specs.Str.{bytes_eq}
use Rattle.text.specs.declared.keyword.Keyword.{Keyword}
use Rattle.text.specs.declared.keyword.Keyword.TheVariants.{Colon, Val, Define, Datatype, Use, If, Case, Begin, Let, Dup, Arrow, Int, Bool, Sym, Unit, True, False, Wildcard}

-- the words that begin a definition
abbrev pub word_of_definition : List ℕ → Option Keyword
word_of_definition w =
    cond (bytes_eq w (codes ":")) (Some Colon)
    (cond (bytes_eq w (codes "val")) (Some Val)
    (cond (bytes_eq w (codes "define")) (Some Define)
    (cond (bytes_eq w (codes "datatype")) (Some Datatype)
    (cond (bytes_eq w (codes "use")) (Some Use) None))))

-- the words that begin an expression with parts
abbrev pub word_of_expression : List ℕ → Option Keyword
word_of_expression w =
    cond (bytes_eq w (codes "if")) (Some If)
    (cond (bytes_eq w (codes "case")) (Some Case)
    (cond (bytes_eq w (codes "begin")) (Some Begin)
    (cond (bytes_eq w (codes "let")) (Some Let)
    (cond (bytes_eq w (codes "dup")) (Some Dup) None))))

-- the words of types; `unit` is also the literal
abbrev pub word_of_type : List ℕ → Option Keyword
word_of_type w =
    cond (bytes_eq w (codes "->")) (Some Arrow)
    (cond (bytes_eq w (codes "int")) (Some Int)
    (cond (bytes_eq w (codes "bool")) (Some Bool)
    (cond (bytes_eq w (codes "sym")) (Some Sym)
    (cond (bytes_eq w (codes "unit")) (Some Unit) None))))

-- the literals `true` and `false`, and the wildcard of patterns
abbrev pub word_of_literal : List ℕ → Option Keyword
word_of_literal w =
    cond (bytes_eq w (codes "true")) (Some True)
    (cond (bytes_eq w (codes "false")) (Some False)
    (cond (bytes_eq w (codes "_")) (Some Wildcard) None))

abbrev pub or_else : Option Keyword → Option Keyword → Option Keyword
or_else None other = other
or_else (Some k) other = Some k

abbrev pub keyword_spelt : List ℕ → Option Keyword
keyword_spelt w = or_else (word_of_definition w) (or_else (word_of_expression w) (or_else (word_of_type w) (word_of_literal w)))
