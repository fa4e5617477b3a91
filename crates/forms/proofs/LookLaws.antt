-- What stands next, as a token by itself or a list.
use Rattle.std.proofs.Common.{◌≡◌, ℕ, false, List, Some, None, Option, sym, ap, subst}
use Rattle.std.specs.Option.{is_some}
use Rattle.text.specs.Grammar.{NoBracket}
use Rattle.text.specs.Tokens.{Lexeme, lexeme, Lexed, also, lexed_from}
use Rattle.text.specs.declared.bracket.Bracket.{Bracket}
use Rattle.text.specs.declared.token.TokenKind.{TokenKind}
use Rattle.text.specs.declared.token.TokenKind.TheVariants as kind
use Rattle.forms.specs.Looks.{NotClosing, Closes}
use Rattle.forms.specs.Rows.{closed_by}
use Rattle.grammar.specs.Sexps.{Sexp, atom, list, Sexps, opening, Atoms, AllAtoms}
use Rattle.grammar.specs.Streams.{stream}

-- a token that is no bracket is an atom
pub is_atom : (k : TokenKind) (p : ℕ) (w : List ℕ) (l : Lexed) (s : Sexp) (rest : Lexed) → NoBracket k → also (lexeme k p w) l ≡ stream s rest → (s ≡ atom k p w) × (l ≡ rest)
is_atom k p w l (atom k' p' w') rest n e =
    let z : lexeme k p w ≡ lexeme k' p' w' = cc in
    let ek : k ≡ k' = ap (λ t. t.kind) z in
    let ep : p ≡ p' = ap (λ t. t.place) z in
    let ew : w ≡ w' = ap (λ t. t.bytes) z in
    (cc, cc)
is_atom k p w l (list r p' ss q) rest n e =
    let z : lexeme k p w ≡ lexeme (kind.Open r) p' (opening r) = cc in
    absurd (subst NoBracket (ap (λ t. t.kind) z) n)

-- an opening bracket begins a list
pub record Listed (p : ℕ) (l : Lexed) (s : Sexp) (rest : Lexed) : Type 0 where
  pub shape : Bracket
  pub parts : Sexps
  pub end : ℕ
  pub is : s ≡ list shape p parts end
  pub inside : l ≡ closed_by parts shape end rest
  pub atoms : AllAtoms parts

pub is_list : (r : Bracket) (p : ℕ) (w : List ℕ) (l : Lexed) (s : Sexp) (rest : Lexed) → Atoms s → also (lexeme (kind.Open r) p w) l ≡ stream s rest → Listed p l s rest
is_list r p w l (atom k p' w') rest a e =
    let z : lexeme (kind.Open r) p w ≡ lexeme k p' w' = cc in
    absurd (subst NoBracket (sym (ap (λ t. t.kind) z)) a)
is_list r p w l (list r' p' ss q) rest a e =
    let z : lexeme (kind.Open r) p w ≡ lexeme (kind.Open r') p' (opening r') = cc in
    let ep : p ≡ p' = ap (λ t. t.place) z in
    record { shape = r'; parts = ss; end = q; is = ap (λ x. list r' x ss q) (sym ep); inside = cc; atoms = a }

-- a closing bracket, or none at all, begins nothing
pub not_close : (r : Bracket) (p : ℕ) (w : List ℕ) (l : Lexed) (s : Sexp) (rest : Lexed) → Atoms s → also (lexeme (kind.Close r) p w) l ≡ stream s rest → ⊥
not_close r p w l (atom k p' w') rest a e = let z : lexeme (kind.Close r) p w ≡ lexeme k p' w' = cc in subst NoBracket (sym (ap (λ t. t.kind) z)) a
not_close r p w l (list r' p' ss q) rest a e =
    let z : lexeme (kind.Close r) p w ≡ lexeme (kind.Open r') p' (opening r') = cc in
    let y : kind.Close r ≡ kind.Open r' = ap (λ t. t.kind) z in cc

pub some_token : (l : Lexed) (s : Sexp) (rest : Lexed) → ((t : Lexeme) (more : Lexed) → l ≡ also t more → ⊥) → l ≡ stream s rest → ⊥
some_token l (atom k p w) rest f e = f _ _ e
some_token l (list r p ss q) rest f e = f _ _ e

-- where no closing bracket was found
pub not_closing : (text : List ℕ) (place : ℕ) (o : Option ℕ) → Closes text place o → is_some o ≡ false → NotClosing (lexed_from text place)
not_closing text place (Some after) c h = absurd (cc)
not_closing text place None c h = c
