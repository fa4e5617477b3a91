-- The form of a list, by its head and its number of parts.
use Rattle.std.proofs.Common.{◌≡◌, ℕ, suc, ◌<◌, ◌≤◌, min, cond, eqb, ltb, ◌⊎◌, Some, None, Option, sym, refl, ap, ◌∙◌, inl, inr, arith, lt-ltb, ne_eqb}
use Rattle.std.proofs.lemmas.Bool.{cases_lt}
use Rattle.text.specs.declared.keyword.Keyword.{Keyword}
use Rattle.text.specs.declared.keyword.Keyword.TheVariants as keyword
use Rattle.grammar.specs.Forms.{not_two, two_of, three_of, Form, if_form_rule, begin_form_rule, let_form_rule, case_form_rule, dup_form_rule, apply_form, no_form, if_form, let_form, begin_form, case_form, dup_form, head_of, headed, form_named}
use Rattle.forms.specs.Kinds.{form_kind}
use Rattle.grammar.specs.Sexps.{Sexp, Sexps, nil, cons}
use Rattle.grammar.specs.Streams.{count, first_head}
use Rattle.forms.specs.declared.form.FormKind.{FormKind}
use Rattle.forms.specs.declared.form.FormKind.TheVariants as form

-- a list with its form
pub data View : Sexps → Option FormKind → Form → Type 0 where
  is_if : {h a b c : Sexp} → View (cons h (cons a (cons b (cons c nil)))) (Some form.If) (if_form_rule a b c)
  is_begin : {h e : Sexp} {es : Sexps} → View (cons h (cons e es)) (Some form.Begin) (begin_form_rule e es)
  is_let : {h bs e : Sexp} → View (cons h (cons bs (cons e nil))) (Some form.Let) (let_form_rule bs e)
  is_case : {h e b : Sexp} {bs : Sexps} → View (cons h (cons e (cons b bs))) (Some form.Case) (case_form_rule e b bs)
  is_dup : {h x : Sexp} → View (cons h (cons x nil)) (Some form.Dup) (dup_form_rule x)
  is_apply : {e : Sexp} {es : Sexps} → View (cons e es) (Some form.Apply) (apply_form e es)
  is_wrong : {ss : Sexps} → View ss None no_form

if_view : (h : Sexp) (es : Sexps) → View (cons h es) (cond (eqb (suc (count es)) 4) (Some form.If) None) (if_form (three_of es))
if_view h nil = is_wrong
if_view h (cons a nil) = is_wrong
if_view h (cons a (cons b nil)) = is_wrong
if_view h (cons a (cons b (cons c nil))) = is_if
if_view h (cons a (cons b (cons c (cons d es)))) = rw (ne_eqb (suc (suc (suc (suc (suc (count es)))))) 4 (λ z. omega arith)) is_wrong

let_view : (h : Sexp) (es : Sexps) → View (cons h es) (cond (eqb (suc (count es)) 3) (Some form.Let) None) (let_form (two_of es))
let_view h nil = is_wrong
let_view h (cons a nil) = is_wrong
let_view h (cons a (cons b nil)) = is_let
let_view h (cons a (cons b (cons c es))) = rw (ne_eqb (suc (suc (suc (suc (count es))))) 3 (λ z. omega arith)) is_wrong

begin_view : (h : Sexp) (es : Sexps) → View (cons h es) (cond (ltb 1 (suc (count es))) (Some form.Begin) None) (begin_form es)
begin_view h nil = is_wrong
begin_view h (cons e es) = rw (lt-ltb 1 (suc (suc (count es))) (omega arith)) is_begin

case_view : (h : Sexp) (es : Sexps) → View (cons h es) (cond (ltb 2 (suc (count es))) (Some form.Case) None) (case_form es)
case_view h nil = is_wrong
case_view h (cons e nil) = is_wrong
case_view h (cons e (cons b bs)) = rw (lt-ltb 2 (suc (suc (suc (count bs)))) (omega arith)) is_case

dup_view : (h : Sexp) (es : Sexps) → View (cons h es) (cond (eqb (suc (count es)) 2) (Some form.Dup) None) (dup_form es)
dup_view h nil = is_wrong
dup_view h (cons x nil) = is_dup
dup_view h (cons x (cons y es)) = rw (ne_eqb (suc (suc (suc (count es)))) 2 (λ z. omega arith)) is_wrong

headed_view : (o : Option Keyword) (h : Sexp) (es : Sexps) → View (cons h es) (form_kind o (suc (count es))) (headed o h es)
headed_view None h es = rw (lt-ltb 0 (suc (count es)) (omega arith)) is_apply
headed_view (Some keyword.If) h es = if_view h es
headed_view (Some keyword.Begin) h es = begin_view h es
headed_view (Some keyword.Let) h es = let_view h es
headed_view (Some keyword.Case) h es = case_view h es
headed_view (Some keyword.Dup) h es = dup_view h es
headed_view (Some keyword.Unit) h es = is_apply
headed_view (Some keyword.True) h es = is_apply
headed_view (Some keyword.False) h es = is_apply
headed_view (Some keyword.Colon) h es = is_wrong
headed_view (Some keyword.Val) h es = is_wrong
headed_view (Some keyword.Define) h es = is_wrong
headed_view (Some keyword.Datatype) h es = is_wrong
headed_view (Some keyword.Use) h es = is_wrong
headed_view (Some keyword.Arrow) h es = is_wrong
headed_view (Some keyword.Int) h es = is_wrong
headed_view (Some keyword.Bool) h es = is_wrong
headed_view (Some keyword.Sym) h es = is_wrong
headed_view (Some keyword.Wildcard) h es = is_wrong

-- a number of parts, where seven stands for more, serves as well
pub at_most_six : (n k : ℕ) → k < 7 → eqb (min 7 n) k ≡ eqb n k
at_most_six n k h = go (cases_lt n 7)
  where
    go : (n < 7) ⊎ (7 ≤ n) → eqb (min 7 n) k ≡ eqb n k
    go (inl a) = let same : min 7 n ≡ n = omega arith in ap (λ m. eqb m k) same
    go (inr a) = ne_eqb (min 7 n) k (λ z. omega arith) ∙ sym (ne_eqb n k (λ z. omega arith))

below_six : (n k : ℕ) → k < 7 → ltb k (min 7 n) ≡ ltb k n
below_six n k h = go (cases_lt n 7)
  where
    go : (n < 7) ⊎ (7 ≤ n) → ltb k (min 7 n) ≡ ltb k n
    go (inl a) = let same : min 7 n ≡ n = omega arith in ap (λ m. ltb k m) same
    go (inr a) = lt-ltb k (min 7 n) (omega arith) ∙ sym (lt-ltb k n (omega arith))

pub kind_capped : (h : Option Keyword) (n : ℕ) → form_kind h (min 7 n) ≡ form_kind h n
kind_capped None n = ap (λ b. cond b (Some form.Apply) None) (below_six n 0 (omega arith))
kind_capped (Some keyword.If) n = ap (λ b. cond b (Some form.If) None) (at_most_six n 4 (omega arith))
kind_capped (Some keyword.Begin) n = ap (λ b. cond b (Some form.Begin) None) (below_six n 1 (omega arith))
kind_capped (Some keyword.Let) n = ap (λ b. cond b (Some form.Let) None) (at_most_six n 3 (omega arith))
kind_capped (Some keyword.Case) n = ap (λ b. cond b (Some form.Case) None) (below_six n 2 (omega arith))
kind_capped (Some keyword.Dup) n = ap (λ b. cond b (Some form.Dup) None) (at_most_six n 2 (omega arith))
kind_capped (Some keyword.Unit) n = refl
kind_capped (Some keyword.True) n = refl
kind_capped (Some keyword.False) n = refl
kind_capped (Some keyword.Colon) n = refl
kind_capped (Some keyword.Val) n = refl
kind_capped (Some keyword.Define) n = refl
kind_capped (Some keyword.Datatype) n = refl
kind_capped (Some keyword.Use) n = refl
kind_capped (Some keyword.Arrow) n = refl
kind_capped (Some keyword.Int) n = refl
kind_capped (Some keyword.Bool) n = refl
kind_capped (Some keyword.Sym) n = refl
kind_capped (Some keyword.Wildcard) n = refl

pub view : (ss : Sexps) → View ss (form_kind (first_head ss) (count ss)) (form_named ss)
view nil = is_wrong
view (cons h es) = headed_view (head_of h) h es

-- a list of two parts, or of another number
pub count_two : (ss : Sexps) → min 7 (count ss) ≡ 2 → (x : Sexp) × ((e : Sexp) × (ss ≡ cons x (cons e nil)))
count_two nil h = absurd (omega arith)
count_two (cons x nil) h = absurd (omega arith)
count_two (cons x (cons e nil)) h = (x, (e, refl))
count_two (cons x (cons e (cons y ss))) h = absurd (omega arith)

pub other_two : (ss : Sexps) → (min 7 (count ss) ≡ 2 → ⊥) → two_of ss ≡ not_two
other_two nil h = refl
other_two (cons x nil) h = refl
other_two (cons x (cons e nil)) h = absurd (h refl)
other_two (cons x (cons e (cons y ss))) h = refl
