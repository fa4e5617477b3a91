-- The entry of a single token that is a type, the claim of one entry more, and what a reader of types answers.
use Rattle.std.specs.Prelude.{◌≡◌, ℕ, ◌+◌, ◌<◌, ◌≤◌, min, Bool, false, cond, List, length, Some, None, Ok, Err, Option, Result, ◌==◌, nat_lt}
use Rattle.text.specs.Scans.{refused_at}
use Rattle.text.specs.Tokens.{Lexed, lexed_from}
use Rattle.text.specs.declared.keyword.Keyword.{Keyword}
use Rattle.text.specs.declared.keyword.Keyword.TheVariants as keyword
use Rattle.text.specs.declared.refusal.Refusal.TheVariants as refusal
use Rattle.text.specs.declared.refusal.Refused.{Refused}
use Rattle.text.specs.declared.token.TokenKind.{TokenKind}
use Rattle.text.specs.declared.token.TokenKind.TheVariants as kind
use Rattle.grammar.specs.Forms.{is_key}
use Rattle.forms.specs.Parts.{OnPartBy, OnListBy}
use Rattle.forms.specs.Progress.{ToldBy}
use Rattle.grammar.specs.Reading.{Tally, Outcome, type_shaped}
use Rattle.grammar.specs.Sexps.{Sexp, Sexps, Atoms, place}
use Rattle.grammar.specs.Streams.{stream}
use Rattle.forms.specs.declared.spot.Spot.{Spot}
use Rattle.layout.specs.declared.type_node.TypeNode.{TypeNode}
use Rattle.layout.specs.declared.type_node.TypeForm.{TypeForm}
use Rattle.layout.specs.declared.type_node.TypeForm.TheVariants as form

abbrev pub keyword_type_form : Keyword → Option TypeForm
keyword_type_form k =
    cond (is_key k keyword.Int) (Some form.Int)
    (cond (is_key k keyword.Bool) (Some form.Bool)
    (cond (is_key k keyword.Sym) (Some form.Sym)
    (cond (is_key k keyword.Unit) (Some form.Unit) None)))

abbrev pub type_form : TokenKind → ℕ → Option TypeForm
type_form (kind.Keyword k) n = keyword_type_form k
type_form kind.Name n = Some (form.Datatype (min n 255))
type_form kind.Symbol n = None
type_form (kind.Integer z) n = None
type_form (kind.Open shape) n = None
type_form (kind.Close shape) n = None

abbrev pub claimed_type : ℕ → ℕ → Result ℕ Refused
claimed_type used p = cond (nat_lt used 512) (Ok (used + 1)) (Err (refused_at refusal.Limit p))

-- a function type, by its head and its number of parts
abbrev pub arrow_head : Option Keyword → ℕ → Bool
arrow_head None n = false
arrow_head (Some k) n = cond (is_key k keyword.Arrow) (n == 3) false

-- the refusal of a seventh part
abbrev pub over_many : Sexp → Refused
over_many s = refused_at (cond (type_shaped s) refusal.Limit refusal.Form) (place s)

abbrev pub Seventh : List ℕ → ℕ → Refused → Type 0
Seventh text at x = (s : Sexp) (rest : Lexed) → lexed_from text at ≡ stream s rest → Atoms s → x ≡ over_many s

-- reading moves forward, within the text and the table; a type takes an entry at least
abbrev pub GoesTypes : List ℕ → Spot → Result Spot Refused → Type 0
GoesTypes text spot (Ok after) = (spot.place < after.place) × (after.place ≤ length text) × (spot.used ≤ after.used) × (after.used ≤ 512)
GoesTypes text spot (Err r) = Unit {0}

abbrev pub GoesType : List ℕ → Spot → Result Spot Refused → Type 0
GoesType text spot (Ok after) = (spot.place < after.place) × (after.place ≤ length text) × (spot.used < after.used) × (after.used ≤ 512)
GoesType text spot (Err r) = Unit {0}

-- what reading tells of the table of types
abbrev pub ToldType : {A : Type 0} → List ℕ → Lexed → Spot → List TypeNode → (A → List TypeNode) → Outcome A → Result Spot Refused → List TypeNode → Type 0
ToldType text rest spot ts encoding o r after = ToldBy (λ n. n.types) text rest spot ts encoding o r after

-- for one part, for the parts of a list up to its bracket, and for whatever those parts are
abbrev pub OnType : {A : Type 0} → List ℕ → Spot → List TypeNode → (ℕ → A → List TypeNode) → (Sexp → Tally → Outcome A) → Result Spot Refused → List TypeNode → Type 0
OnType text spot ts encoding read r after = OnPartBy (λ n. n.types) text spot ts encoding read r after

abbrev pub OnTypeList : {A : Type 0} → List ℕ → Spot → List TypeNode → (ℕ → A → List TypeNode) → Sexps → (Tally → Outcome A) → Result Spot Refused → List TypeNode → Type 0
OnTypeList text spot ts encoding ss read r after = OnListBy (λ n. n.types) text spot ts encoding ss read r after

abbrev pub OnTypes : {A : Type 0} → List ℕ → Spot → List TypeNode → (ℕ → A → List TypeNode) → (Sexps → Tally → Outcome A) → Result Spot Refused → List TypeNode → Type 0
OnTypes text spot ts encoding read r after = (ss : Sexps) → OnTypeList text spot ts encoding ss (read ss) r after
