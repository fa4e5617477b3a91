-- The kind of a definition, by its head and its number of parts.
use Rattle.std.proofs.Common.{◌≡◌, ℕ, suc, min, Bool, true, false, cond, eqb, List, Some, None, Err, Option, Result, sym, ap, ◌∙◌, subst, arith, ne_eqb}
use Rattle.text.specs.Scans.{refused_at}
use Rattle.text.specs.Tokens.{Lexed, lexed_from}
use Rattle.text.specs.declared.bracket.Bracket.{Bracket}
use Rattle.text.specs.declared.keyword.Keyword.{Keyword}
use Rattle.text.specs.declared.keyword.Keyword.TheVariants as keyword
use Rattle.text.specs.declared.refusal.Refused.{Refused}
use Rattle.text.specs.declared.refusal.Refusal.TheVariants as refusal
use Rattle.text.specs.declared.token.TokenKind.TheVariants as token
use Rattle.grammar.specs.Forms.{is_key, two_of, three_of, DefinitionForm, datatype_form_rule, annotation_form_rule, define_form_rule, val_form_rule, no_definition, datatype_form, annotation_form, define_form, val_form, head_of, defining, definition_of}
use Rattle.grammar.specs.Reading.{read_definition_form, read_definition}
use Rattle.grammar.specs.Sexps.{Sexp, atom, list, Sexps, nil, cons}
use Rattle.grammar.specs.Streams.{count, first_head}
use Rattle.layout.specs.declared.node.Node.{Node}
use Rattle.layout.specs.declared.tables.Tables.{Tables}
use Rattle.forms.specs.Looks.{Seen, Behind}
use Rattle.forms.specs.Rows.{closed_by}
use Rattle.forms.specs.Surveys.{surveyed}
use Rattle.forms.specs.declared.survey.Survey.{Survey}
use Rattle.forms.proofs.LookLaws.{is_list}
use Rattle.forms.proofs.SurveyLaws.{survey_list}
use Rattle.parser.specs.Defining.{definition_kind, ToldDefinition, OnParts, OnDefinition}
use Rattle.parser.specs.declared.kind.DefinitionKind.{DefinitionKind}
use Rattle.parser.specs.declared.kind.DefinitionKind.TheVariants as kind

-- a list with its kind and its form
pub data View : Sexps → Option DefinitionKind → DefinitionForm → Type 0 where
  is_datatype : {h x y : Sexp} → View (cons h (cons x (cons y nil))) (Some kind.Datatype) (datatype_form_rule x y)
  is_annotation : {h x y : Sexp} → View (cons h (cons x (cons y nil))) (Some kind.Annotation) (annotation_form_rule x y)
  is_define : {h x y z : Sexp} → View (cons h (cons x (cons y (cons z nil)))) (Some kind.Define) (define_form_rule x y z)
  is_val : {h x y : Sexp} → View (cons h (cons x (cons y nil))) (Some kind.Val) (val_form_rule x y)
  is_wrong : {ss : Sexps} → View ss None no_definition

four : (n : ℕ) → eqb (min 7 (suc (suc (suc (suc n))))) 3 ≡ false
four n = ne_eqb (min 7 (suc (suc (suc (suc n))))) 3 (λ z. omega arith)

datatype_view : (h : Sexp) (es : Sexps) → View (cons h es) (cond (eqb (min 7 (suc (count es))) 3) (Some kind.Datatype) None) (datatype_form (two_of es))
datatype_view h nil = is_wrong
datatype_view h (cons a nil) = is_wrong
datatype_view h (cons a (cons b nil)) = is_datatype
datatype_view h (cons a (cons b (cons c es))) = rw (four (count es)) is_wrong

annotation_view : (h : Sexp) (es : Sexps) → View (cons h es) (cond (eqb (min 7 (suc (count es))) 3) (Some kind.Annotation) None) (annotation_form (two_of es))
annotation_view h nil = is_wrong
annotation_view h (cons a nil) = is_wrong
annotation_view h (cons a (cons b nil)) = is_annotation
annotation_view h (cons a (cons b (cons c es))) = rw (four (count es)) is_wrong

val_view : (h : Sexp) (es : Sexps) → View (cons h es) (cond (eqb (min 7 (suc (count es))) 3) (Some kind.Val) None) (val_form (two_of es))
val_view h nil = is_wrong
val_view h (cons a nil) = is_wrong
val_view h (cons a (cons b nil)) = is_val
val_view h (cons a (cons b (cons c es))) = rw (four (count es)) is_wrong

define_view : (h : Sexp) (es : Sexps) → View (cons h es) (cond (eqb (min 7 (suc (count es))) 4) (Some kind.Define) None) (define_form (three_of es))
define_view h nil = is_wrong
define_view h (cons a nil) = is_wrong
define_view h (cons a (cons b nil)) = is_wrong
define_view h (cons a (cons b (cons c nil))) = is_define
define_view h (cons a (cons b (cons c (cons d es)))) = rw (ne_eqb (min 7 (suc (suc (suc (suc (suc (count es))))))) 4 (λ z. omega arith)) is_wrong

headed_view : (o : Option Keyword) (h : Sexp) (es : Sexps) → View (cons h es) (definition_kind o (min 7 (suc (count es)))) (defining o es)
headed_view None h es = is_wrong
headed_view (Some k) h es = go (is_key k keyword.Datatype) (is_key k keyword.Colon) (is_key k keyword.Define) (is_key k keyword.Val)
  where
    go : (a b c d : Bool) → View (cons h es)
        (cond a (cond (eqb (min 7 (suc (count es))) 3) (Some kind.Datatype) None) (cond b (cond (eqb (min 7 (suc (count es))) 3) (Some kind.Annotation) None) (cond c (cond (eqb (min 7 (suc (count es))) 4) (Some kind.Define) None) (cond d (cond (eqb (min 7 (suc (count es))) 3) (Some kind.Val) None) None))))
        (cond a (datatype_form (two_of es)) (cond b (annotation_form (two_of es)) (cond c (define_form (three_of es)) (cond d (val_form (two_of es)) no_definition))))
    go true b c d = datatype_view h es
    go false true c d = annotation_view h es
    go false false true d = define_view h es
    go false false false true = val_view h es
    go false false false false = is_wrong

view : (ss : Sexps) → View ss (definition_kind (first_head ss) (min 7 (count ss))) (definition_of ss)
view nil = is_wrong
view (cons h es) = headed_view (head_of h) h es

-- a definition has a reserved word at its head
abbrev wordy : Option DefinitionKind → Bool
wordy (Some kind.Datatype) = true
wordy (Some kind.Annotation) = true
wordy (Some kind.Define) = true
wordy (Some kind.Val) = true
wordy None = false

head_behind : (text : List ℕ) (place inside n : ℕ) (h : Sexp) (es : Sexps) (shape : Bracket) (q : ℕ) (rest : Lexed) → Behind text place inside → lexed_from text place ≡ closed_by (cons h es) shape q rest
    → wordy (definition_kind (first_head (cons h es)) n) ≡ true → lexed_from text inside ≡ closed_by es shape q rest
head_behind text place inside n (atom k p w) es shape q rest b e t = b.2 _ _ e
head_behind text place inside n (list r p ss q') es shape q rest b e t = absurd (cc)

-- What is told of each kind from behind the reserved word is told of the definition.
module _ (text : List ℕ) (place entries : ℕ) (t : Tables) (ns : List Node) (b : Bracket) (w : List ℕ) (p inside : ℕ) (seen : Seen text place (token.Open b) w p inside) (survey : Survey) (surveyed_is : survey ≡ surveyed (lexed_from text inside))
    (first : ℕ) (skip : Behind text inside first) (r : Result ℕ Refused) (t' : Tables) (ns' : List Node) where
  by_kind : (k : Option DefinitionKind) → k ≡ definition_kind survey.head survey.parts
      → ((ss : Sexps) (f : DefinitionForm) → View ss k f → k ≡ definition_kind (first_head ss) (min 7 (count ss)) → OnParts text inside t ns ss (read_definition_form entries p f) r t' ns')
      → OnDefinition text place t ns (read_definition entries) r t' ns'
  by_kind k is h s rest n e a u =
      let l = is_list b p w (lexed_from text inside) s rest a (sym seen.follows ∙ e) in
      let same : k ≡ definition_kind (first_head l.parts) (min 7 (count l.parts)) = is ∙ ap (λ x. definition_kind x.head x.parts) (surveyed_is ∙ ap surveyed l.inside ∙ survey_list l.parts l.shape l.end rest l.atoms) in
      subst (λ o. ToldDefinition text rest t ns o r t' ns') (sym (ap (λ s. read_definition entries s n) l.is))
      (h l.parts (definition_of l.parts) (subst (λ k. View l.parts k (definition_of l.parts)) (sym same) (view l.parts)) same l.shape l.end rest n l.inside l.atoms u)

  pub on_datatype : Some kind.Datatype ≡ definition_kind survey.head survey.parts → ((x y : Sexp) → OnParts text first t ns (cons x (cons y nil)) (read_definition_form entries p (datatype_form_rule x y)) r t' ns') → OnDefinition text place t ns (read_definition entries) r t' ns'
  on_datatype is told = by_kind (Some kind.Datatype) is go
    where
      go : (ss : Sexps) (f : DefinitionForm) → View ss (Some kind.Datatype) f → Some kind.Datatype ≡ definition_kind (first_head ss) (min 7 (count ss)) → OnParts text inside t ns ss (read_definition_form entries p f) r t' ns'
      go _ _ (is_datatype {h = h} {x = x} {y = y}) same shape q rest n e a u = told x y shape q rest n (head_behind text inside first 3 h (cons x (cons y nil)) shape q rest skip e (sym (ap wordy same))) a.1 u

  pub on_annotation : Some kind.Annotation ≡ definition_kind survey.head survey.parts → ((x y : Sexp) → OnParts text first t ns (cons x (cons y nil)) (read_definition_form entries p (annotation_form_rule x y)) r t' ns') → OnDefinition text place t ns (read_definition entries) r t' ns'
  on_annotation is told = by_kind (Some kind.Annotation) is go
    where
      go : (ss : Sexps) (f : DefinitionForm) → View ss (Some kind.Annotation) f → Some kind.Annotation ≡ definition_kind (first_head ss) (min 7 (count ss)) → OnParts text inside t ns ss (read_definition_form entries p f) r t' ns'
      go _ _ (is_annotation {h = h} {x = x} {y = y}) same shape q rest n e a u = told x y shape q rest n (head_behind text inside first 3 h (cons x (cons y nil)) shape q rest skip e (sym (ap wordy same))) a.1 u

  pub on_define : Some kind.Define ≡ definition_kind survey.head survey.parts → ((x y z : Sexp) → OnParts text first t ns (cons x (cons y (cons z nil))) (read_definition_form entries p (define_form_rule x y z)) r t' ns') → OnDefinition text place t ns (read_definition entries) r t' ns'
  on_define is told = by_kind (Some kind.Define) is go
    where
      go : (ss : Sexps) (f : DefinitionForm) → View ss (Some kind.Define) f → Some kind.Define ≡ definition_kind (first_head ss) (min 7 (count ss)) → OnParts text inside t ns ss (read_definition_form entries p f) r t' ns'
      go _ _ (is_define {h = h} {x = x} {y = y} {z = z}) same shape q rest n e a u = told x y z shape q rest n (head_behind text inside first 4 h (cons x (cons y (cons z nil))) shape q rest skip e (sym (ap wordy same))) a.1 u

  pub on_val : Some kind.Val ≡ definition_kind survey.head survey.parts → ((x y : Sexp) → OnParts text first t ns (cons x (cons y nil)) (read_definition_form entries p (val_form_rule x y)) r t' ns') → OnDefinition text place t ns (read_definition entries) r t' ns'
  on_val is told = by_kind (Some kind.Val) is go
    where
      go : (ss : Sexps) (f : DefinitionForm) → View ss (Some kind.Val) f → Some kind.Val ≡ definition_kind (first_head ss) (min 7 (count ss)) → OnParts text inside t ns ss (read_definition_form entries p f) r t' ns'
      go _ _ (is_val {h = h} {x = x} {y = y}) same shape q rest n e a u = told x y shape q rest n (head_behind text inside first 3 h (cons x (cons y nil)) shape q rest skip e (sym (ap wordy same))) a.1 u

  pub on_wrong : None ≡ definition_kind survey.head survey.parts → r ≡ Err (refused_at refusal.Form p) → OnDefinition text place t ns (read_definition entries) r t' ns'
  on_wrong is is_r = by_kind None is go
    where
      go : (ss : Sexps) (f : DefinitionForm) → View ss None f → None ≡ definition_kind (first_head ss) (min 7 (count ss)) → OnParts text inside t ns ss (read_definition_form entries p f) r t' ns'
      go _ _ is_wrong same shape q rest n e a u = is_r
