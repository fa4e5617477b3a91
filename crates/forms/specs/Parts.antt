-- A node before the nodes of its parts, and what a reader of parts answers.
use Rattle.std.specs.Prelude.{◌≡◌, ℕ, ◌+◌, List, ◌∷◌, length, Result}
use Rattle.layout.specs.Words.{word}
use Rattle.layout.specs.Encoding.{node, pattern_place}
use Rattle.forms.specs.Drafts.{encode}
use Rattle.text.specs.Tokens.{Lexed, lexed_from}
use Rattle.text.specs.declared.bracket.Bracket.{Bracket}
use Rattle.text.specs.declared.refusal.Refused.{Refused}
use Rattle.grammar.specs.Forms.{Form}
use Rattle.forms.specs.Progress.{ToldBy}
use Rattle.grammar.specs.Reading.{Tally, Outcome, count_node, Binding, Branch, read_expr, read_form}
use Rattle.forms.specs.Rows.{closed_by, read_each}
use Rattle.grammar.specs.Sexps.{Sexp, Sexps, Atoms, AllAtoms}
use Rattle.grammar.specs.Streams.{stream}
use Rattle.grammar.specs.Trees.{Expr}
use Rattle.forms.specs.declared.spot.Spot.{Spot}
use Rattle.layout.specs.declared.node.Node.{Node}
use Rattle.layout.specs.declared.node.NodeForm.{NodeForm}
use Rattle.layout.specs.declared.node.NodeForm.TheVariants as form

-- a node of this form and place, and behind it what it holds
abbrev pub under : {A : Type 0} → NodeForm → ℕ → (ℕ → A → List Node) → ℕ → A → List Node
under f p encoding i a = node f p (i + 1 + length (encoding (i + 1) a)) ∷ encoding (i + 1) a

abbrev pub encode_binding : ℕ → Binding → List Node
encode_binding i b = under (form.Binding (word b.name)) b.place encode i b.expr

abbrev pub encode_branch : ℕ → Branch → List Node
encode_branch i b = under (form.Branch (pattern_place b.pattern)) b.place encode i b.expr

-- Reading from a spot on is told for whatever stands there: for one part, and for parts up to the bracket that closes their list.
abbrev pub OnPartBy : {A E : Type 0} → (Tally → ℕ) → List ℕ → Spot → List E → (ℕ → A → List E) → (Sexp → Tally → Outcome A) → Result Spot Refused → List E → Type 0
OnPartBy count text spot ns encoding read r after =
    (s : Sexp) (rest : Lexed) (n : Tally) → lexed_from text spot.place ≡ stream s rest → Atoms s → count n ≡ spot.used
    → ToldBy count text rest spot ns (encoding spot.used) (read s n) r after

abbrev pub OnListBy : {A E : Type 0} → (Tally → ℕ) → List ℕ → Spot → List E → (ℕ → A → List E) → Sexps → (Tally → Outcome A) → Result Spot Refused → List E → Type 0
OnListBy count text spot ns encoding ss read r after =
    (shape : Bracket) (q : ℕ) (rest : Lexed) (n : Tally) → lexed_from text spot.place ≡ closed_by ss shape q rest → AllAtoms ss → count n ≡ spot.used
    → ToldBy count text rest spot ns (encoding spot.used) (read n) r after

-- into the node list
abbrev pub OnPart : {A : Type 0} → List ℕ → Spot → List Node → (ℕ → A → List Node) → (Sexp → Tally → Outcome A) → Result Spot Refused → List Node → Type 0
OnPart text spot ns encoding read r after = OnPartBy (λ n. n.nodes) text spot ns encoding read r after

abbrev pub OnList : {A : Type 0} → List ℕ → Spot → List Node → (ℕ → A → List Node) → Sexps → (Tally → Outcome A) → Result Spot Refused → List Node → Type 0
OnList text spot ns encoding ss read r after = OnListBy (λ n. n.nodes) text spot ns encoding ss read r after

-- the parts of a list, each by itself
abbrev pub OnEach : {A : Type 0} → List ℕ → Spot → List Node → (ℕ → A → List Node) → (Sexps → Tally → Outcome A) → Result Spot Refused → List Node → Type 0
OnEach text spot ns encoding read r after = (ss : Sexps) → OnList text spot ns encoding ss (read ss) r after

-- one node at a place, and then each part
abbrev pub read_row : {A : Type 0} → ℕ → ℕ → (Sexp → Tally → Outcome A) → Sexps → Tally → Outcome (List A)
read_row entries p read ss n = count_node entries p n (read_each read ss)

-- a form that begins at a place
abbrev pub reading_at : ℕ → ℕ → ℕ → Form → Tally → Outcome Expr
reading_at entries depth p form = read_form entries (read_expr entries depth) p form
