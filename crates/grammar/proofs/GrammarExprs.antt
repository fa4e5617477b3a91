-- Expressions: reading makes what the grammar derives, and nothing else.
use Rattle.std.proofs.Common.{◌≡◌, ℕ, zero, suc, ◌+◌, ◌≤◌, Bool, true, false, cond, ◌||◌, List, Some, Option, refl, arith}
use Rattle.text.specs.declared.bracket.Bracket.{Bracket}
use Rattle.text.specs.declared.keyword.Keyword.{Keyword}
use Rattle.text.specs.declared.keyword.Keyword.TheVariants as keyword
use Rattle.text.specs.declared.token.TokenKind.{TokenKind}
use Rattle.text.specs.declared.token.TokenKind.TheVariants as kind
use Rattle.grammar.specs.Forms.{is_key, Two, two_of, three_of, Form, if_form_rule, begin_form_rule, let_form_rule, case_form_rule, dup_form_rule, apply_form, no_form, if_form, begin_form, let_form, case_form, dup_form, form_named}
use Rattle.grammar.specs.Grammar.{NameOf, word, PatternOf, ExprOf, integer, symbol, true_literal, false_literal, unit_literal, name_expression, if_expression, begin_expression, let_expression, case_expression, dup_expression, apply_expression, ExprsOf, no_exprs, and_expr, BindingsOf, no_bindings, and_binding, BranchesOf, last_branch, and_branch}
use Rattle.grammar.specs.Limits.{expr_nodes, exprs_nodes, bindings_nodes, branches_nodes}
use Rattle.grammar.specs.Reading.{Tally, Outcome, Branch, Binding, atom_expr, expr_atom, read_exprs, binding_of, read_binding, read_bindings, read_binding_list, branch_of, read_branch, read_branches, read_form, read_expr}
use Rattle.grammar.specs.Sexps.{Sexp, atom, list, Sexps, nil, cons, depth, depths}
use Rattle.grammar.specs.Trees as tree
use Rattle.grammar.specs.Trees.{Ident, Pattern, Expr, Exprs, Bindings, Branches}
use Rattle.grammar.proofs.GrammarKeys.{by_key}
use Rattle.grammar.proofs.GrammarOutcomes.{Read, Same, none, Used, used_none, nodes_then, Room, Fits, nodes_room, Holds, not_made, holds, holds_then, holds_so, Makes, makes, makes_then, holds_node, makes_node}
use Rattle.grammar.proofs.GrammarTypes.{Listed, listed, TwoView, is_two_rule, other, two_view, name_sound, name_complete, pattern_sound, pattern_complete}

-- what a list is, by its head and its number of parts
data FormView : Sexps → Form → Type 0 where
  is_if : {i : ℕ} {w : List ℕ} {a b c : Sexp} → FormView (cons (word keyword.If i w) (cons a (cons b (cons c nil)))) (if_form_rule a b c)
  is_begin : {i : ℕ} {w : List ℕ} {s : Sexp} {ss : Sexps} → FormView (cons (word keyword.Begin i w) (cons s ss)) (begin_form_rule s ss)
  is_let : {i : ℕ} {w : List ℕ} {a b : Sexp} → FormView (cons (word keyword.Let i w) (cons a (cons b nil))) (let_form_rule a b)
  is_case : {i : ℕ} {w : List ℕ} {s b : Sexp} {bs : Sexps} → FormView (cons (word keyword.Case i w) (cons s (cons b bs))) (case_form_rule s b bs)
  is_dup : {i : ℕ} {w : List ℕ} {s : Sexp} → FormView (cons (word keyword.Dup i w) (cons s nil)) (dup_form_rule s)
  is_apply : {s : Sexp} {ss : Sexps} → FormView (cons s ss) (apply_form s ss)
  is_none : {ss : Sexps} → FormView ss no_form

form_view : (ss : Sexps) → FormView ss (form_named ss)
form_view nil = is_none
form_view (cons (list a p ss q) es) = is_apply
form_view (cons (atom kind.Name p w) es) = is_apply
form_view (cons (atom (kind.Open b) p w) es) = is_apply
form_view (cons (atom (kind.Close b) p w) es) = is_apply
form_view (cons (atom kind.Symbol p w) es) = is_apply
form_view (cons (atom (kind.Integer z) p w) es) = is_apply
form_view (cons (atom (kind.Keyword k) p w) es) =
    by_key view keyword.If k _ _ (if_view es)
    (by_key view keyword.Begin k _ _ (begin_view es)
    (by_key view keyword.Let k _ _ (let_view es)
    (by_key view keyword.Case k _ _ (case_view es)
    (by_key view keyword.Dup k _ _ (dup_view es)
    (literal (is_key k keyword.Unit || is_key k keyword.True || is_key k keyword.False))))))
  where
    view : Keyword → Form → Type 0
    view k = FormView (cons (word k p w) es)

    if_view : (es : Sexps) → FormView (cons (word keyword.If p w) es) (if_form (three_of es))
    if_view nil = is_none
    if_view (cons a nil) = is_none
    if_view (cons a (cons b nil)) = is_none
    if_view (cons a (cons b (cons c nil))) = is_if
    if_view (cons a (cons b (cons c (cons d rest)))) = is_none

    begin_view : (es : Sexps) → FormView (cons (word keyword.Begin p w) es) (begin_form es)
    begin_view nil = is_none
    begin_view (cons a rest) = is_begin

    let_view : (es : Sexps) → FormView (cons (word keyword.Let p w) es) (let_form (two_of es))
    let_view nil = is_none
    let_view (cons a nil) = is_none
    let_view (cons a (cons b nil)) = is_let
    let_view (cons a (cons b (cons c rest))) = is_none

    case_view : (es : Sexps) → FormView (cons (word keyword.Case p w) es) (case_form es)
    case_view nil = is_none
    case_view (cons a nil) = is_none
    case_view (cons a (cons b rest)) = is_case

    dup_view : (es : Sexps) → FormView (cons (word keyword.Dup p w) es) (dup_form es)
    dup_view nil = is_none
    dup_view (cons a nil) = is_dup
    dup_view (cons a (cons b rest)) = is_none

    literal : (t : Bool) → FormView (cons (word k p w) es) (cond t (apply_form (word k p w) es) no_form)
    literal true = is_apply
    literal false = is_none

-- one binding and one branch
data BindingOf : Sexp → Binding → Type 0 where
  binding : {a : Bracket} {p q : ℕ} {s₁ s₂ : Sexp} {b : Binding} → b.place ≡ p → NameOf s₁ b.name → ExprOf s₂ b.expr → BindingOf (list a p (cons s₁ (cons s₂ nil)) q) b

data BranchOf : Sexp → Branch → Type 0 where
  branch : {a : Bracket} {p q : ℕ} {s₁ s₂ : Sexp} {b : Branch} → b.place ≡ p → PatternOf s₁ b.pattern → ExprOf s₂ b.expr → BranchOf (list a p (cons s₁ (cons s₂ nil)) q) b

made_binding : {s : Sexp} {ss : Sexps} {b : Binding} {bs : Bindings} → BindingOf s b → BindingsOf ss bs → BindingsOf (cons s ss) (tree.and_binding b.place b.name b.expr bs)
made_binding (binding e x d) more = rw e (and_binding x d more)

made_branch : {s : Sexp} {ss : Sexps} {b : Branch} {bs : Branches} → BranchOf s b → BranchesOf ss bs → BranchesOf (cons s ss) (tree.and_branch b.place b.pattern b.expr bs)
made_branch (branch e x d) more = rw e (and_branch x d more)

made_last : {s : Sexp} {b : Branch} → BranchOf s b → BranchesOf (cons s nil) (tree.last_branch b.place b.pattern b.expr)
made_last (branch e x d) = rw e (last_branch x d)

made_let : {a : Bracket} {p q i : ℕ} {w : List ℕ} {s r : Sexp} {bs : Bindings} {e : Expr} → Listed (λ ss. BindingsOf ss bs) s → ExprOf r e
    → ExprOf (list a p (cons (word keyword.Let i w) (cons s (cons r nil))) q) (tree.let_expr p bs e)
made_let (listed h) k = let_expression h k

module _ (entries : ℕ) where
  one_node_rule : (s : Sexp) (e : Expr) (p : ℕ) (n : Tally) → Fits entries n → ExprOf s e → expr_nodes e ≡ 1 → Holds (Read (ExprOf s) expr_nodes none entries n) (expr_atom entries p (Some e) n)
  one_node_rule s e p n f d c = holds_node entries p n f (λ m u g. holds record { derived = d; used = rw c u; fits = g })

  atom_sound : (k : TokenKind) (p : ℕ) (w : List ℕ) (n : Tally) → Fits entries n → Holds (Read (ExprOf (atom k p w)) expr_nodes none entries n) (expr_atom entries p (atom_expr entries k p w) n)
  atom_sound kind.Name p w n f = one_node_rule _ _ p n f name_expression refl
  atom_sound (kind.Open b) p w n f = not_made
  atom_sound (kind.Close b) p w n f = not_made
  atom_sound kind.Symbol p w n f = one_node_rule _ _ p n f (symbol refl) refl
  atom_sound (kind.Integer z) p w n f = one_node_rule _ _ p n f integer refl
  atom_sound (kind.Keyword k) p w n f =
      by_key reads keyword.True k _ _ (one_node_rule _ _ p n f true_literal refl)
      (by_key reads keyword.False k _ _ (one_node_rule _ _ p n f false_literal refl)
      (by_key reads keyword.Unit k _ _ (one_node_rule _ _ p n f unit_literal refl) not_made))
    where
      reads : Keyword → Option Expr → Type 0
      reads k e = Holds (Read (ExprOf (word k p w)) expr_nodes none entries n) (expr_atom entries p e n)

  module _ (read : Sexp → Tally → Outcome Expr) (sound : (s : Sexp) (n : Tally) → Fits entries n → Holds (Read (ExprOf s) expr_nodes none entries n) (read s n)) where
    exprs_sound : (ss : Sexps) (n : Tally) → Fits entries n → Holds (Read (ExprsOf ss) exprs_nodes none entries n) (read_exprs entries read ss n)
    exprs_sound nil n f = holds record { derived = no_exprs; used = used_none; fits = f }
    exprs_sound (cons s ss) n f = holds_then (sound s n f) (λ e m a. holds_then (exprs_sound ss m a.fits) (λ es o b.
        holds record { derived = and_expr a.derived b.derived; used = nodes_then a.used b.used; fits = b.fits }))

    binding_sound : (s : Sexp) (n : Tally) → Fits entries n → Holds (Read (BindingOf s) (λ b. 1 + expr_nodes b.expr) none entries n) (read_binding entries read s n)
    binding_sound (atom k p w) n f = not_made
    binding_sound (list a p ss q) n f = go (two_view ss)
      where
        go : {ss : Sexps} {v : Two} → TwoView ss v → Holds (Read (BindingOf (list a p ss q)) (λ b. 1 + expr_nodes b.expr) none entries n) (binding_of entries read p v n)
        go other = not_made
        go (is_two_rule {a = x} {b = s}) =
            holds_node entries p n f (λ m u g. holds_then (name_sound entries x m g) (λ i m₁ h. holds_then (sound s m₁ h.fits) (λ e m₂ k.
            holds record { derived = binding refl h.derived k.derived; used = nodes_then (nodes_then u h.used) k.used; fits = k.fits })))

    bindings_sound : (ss : Sexps) (n : Tally) → Fits entries n → Holds (Read (BindingsOf ss) bindings_nodes none entries n) (read_bindings entries read ss n)
    bindings_sound nil n f = holds record { derived = no_bindings; used = used_none; fits = f }
    bindings_sound (cons s ss) n f = holds_then (binding_sound s n f) (λ b m h. holds_then (bindings_sound ss m h.fits) (λ bs o k.
        holds record { derived = made_binding h.derived k.derived; used = nodes_then h.used k.used; fits = k.fits }))

    binding_list_sound : (s : Sexp) (n : Tally) → Fits entries n → Holds (Read (λ bs. Listed (λ ss. BindingsOf ss bs) s) bindings_nodes none entries n) (read_binding_list entries read s n)
    binding_list_sound (atom k p w) n f = not_made
    binding_list_sound (list a p ss q) n f = holds_so (bindings_sound ss n f) (λ bs m h. record { derived = listed h.derived; used = h.used; fits = h.fits })

    branch_sound : (s : Sexp) (n : Tally) → Fits entries n → Holds (Read (BranchOf s) (λ b. 1 + expr_nodes b.expr) none entries n) (read_branch entries read s n)
    branch_sound (atom k p w) n f = not_made
    branch_sound (list a p ss q) n f = go (two_view ss)
      where
        go : {ss : Sexps} {v : Two} → TwoView ss v → Holds (Read (BranchOf (list a p ss q)) (λ b. 1 + expr_nodes b.expr) none entries n) (branch_of entries read p v n)
        go other = not_made
        go (is_two_rule {a = x} {b = s}) =
            holds_node entries p n f (λ m u g. holds_then (pattern_sound entries x m g) (λ i m₁ h. holds_then (sound s m₁ h.fits) (λ e m₂ k.
            holds record { derived = branch refl h.derived k.derived; used = nodes_then (nodes_then u h.used) k.used; fits = k.fits })))

    branches_sound : (s : Sexp) (ss : Sexps) (n : Tally) → Fits entries n → Holds (Read (BranchesOf (cons s ss)) branches_nodes none entries n) (read_branches entries read s ss n)
    branches_sound s nil n f = holds_then (branch_sound s n f) (λ b m h. holds record { derived = made_last h.derived; used = h.used; fits = h.fits })
    branches_sound s (cons t ss) n f = holds_then (branch_sound s n f) (λ b m h. holds_then (branches_sound t ss m h.fits) (λ bs o k.
        holds record { derived = made_branch h.derived k.derived; used = nodes_then h.used k.used; fits = k.fits }))

    form_sound : {ss : Sexps} {v : Form} (a : Bracket) (p q : ℕ) (n : Tally) → FormView ss v → Fits entries n → Holds (Read (ExprOf (list a p ss q)) expr_nodes none entries n) (read_form entries read p v n)
    form_sound a p q n is_none f = not_made
    form_sound a p q n (is_if {a = s} {b = t} {c = r}) f =
        holds_node entries p n f (λ m u g. holds_then (sound s m g) (λ e m₁ x. holds_then (sound t m₁ x.fits) (λ e' m₂ y. holds_then (sound r m₂ y.fits) (λ e'' m₃ z.
        holds record { derived = if_expression x.derived y.derived z.derived; used = nodes_then (nodes_then (nodes_then u x.used) y.used) z.used; fits = z.fits }))))
    form_sound a p q n (is_begin {s = s} {ss = ss}) f =
        holds_node entries p n f (λ m u g. holds_then (sound s m g) (λ e m₁ x. holds_then (exprs_sound ss m₁ x.fits) (λ es m₂ y.
        holds record { derived = begin_expression x.derived y.derived; used = nodes_then (nodes_then u x.used) y.used; fits = y.fits })))
    form_sound a p q n (is_let {a = s} {b = t}) f =
        holds_node entries p n f (λ m u g. holds_then (binding_list_sound s m g) (λ bs m₁ x. holds_then (sound t m₁ x.fits) (λ e m₂ y.
        holds record { derived = made_let x.derived y.derived; used = nodes_then (nodes_then u x.used) y.used; fits = y.fits })))
    form_sound a p q n (is_case {s = s} {b = b} {bs = bs}) f =
        holds_node entries p n f (λ m u g. holds_then (sound s m g) (λ e m₁ x. holds_then (branches_sound b bs m₁ x.fits) (λ xs m₂ y.
        holds record { derived = case_expression x.derived y.derived; used = nodes_then (nodes_then u x.used) y.used; fits = y.fits })))
    form_sound a p q n (is_dup {s = s}) f =
        holds_node entries p n f (λ m u g. holds_then (name_sound entries s m g) (λ i m₁ x.
        holds record { derived = dup_expression x.derived; used = nodes_then u x.used; fits = x.fits }))
    form_sound a p q n (is_apply {s = s} {ss = ss}) f =
        holds_node entries p n f (λ m u g. holds_then (sound s m g) (λ e m₁ x. holds_then (exprs_sound ss m₁ x.fits) (λ es m₂ y.
        holds record { derived = apply_expression x.derived y.derived; used = nodes_then (nodes_then u x.used) y.used; fits = y.fits })))

  pub expr_sound : (d : ℕ) (s : Sexp) (n : Tally) → Fits entries n → Holds (Read (ExprOf s) expr_nodes none entries n) (read_expr entries d s n)
  expr_sound zero (atom k p w) n f = atom_sound k p w n f
  expr_sound (suc d) (atom k p w) n f = atom_sound k p w n f
  expr_sound zero (list a p ss q) n f = not_made
  expr_sound (suc d) (list a p ss q) n f = form_sound (read_expr entries d) (expr_sound d) a p q n (form_view ss) f

-- an expression that the grammar derives heads an application
applies : {s : Sexp} {e : Expr} (ss : Sexps) → ExprOf s e → form_named (cons s ss) ≡ apply_form s ss
applies ss integer = refl
applies ss (symbol q) = refl
applies ss true_literal = refl
applies ss false_literal = refl
applies ss unit_literal = refl
applies ss name_expression = refl
applies ss (if_expression a b c) = refl
applies ss (begin_expression a b) = refl
applies ss (let_expression a b) = refl
applies ss (case_expression a b) = refl
applies ss (dup_expression a) = refl
applies ss (apply_expression a b) = refl

-- an expression that the grammar derives is read
module _ (entries : ℕ) where
  made_one : (e : Expr) (p : ℕ) (n : Tally) → Room entries n 1 0 0 0 0 → Makes (Same e 1 0 n) (expr_atom entries p (Some e) n)
  made_one e p n r = makes_node entries p n r (λ m u. makes record { same = refl; used = u })

  -- one binding, one branch
  record SameBinding (p : ℕ) (x : Ident) (e : Expr) (n : Tally) (b : Binding) (m : Tally) : Type 0 where
    same_place : b.place ≡ p
    same_name : b.name ≡ x
    same_expr : b.expr ≡ e
    used : Used n m (1 + expr_nodes e) 0 0 0 0

  record SameBranch (p : ℕ) (x : Pattern) (e : Expr) (n : Tally) (b : Branch) (m : Tally) : Type 0 where
    same_place : b.place ≡ p
    same_pattern : b.pattern ≡ x
    same_expr : b.expr ≡ e
    used : Used n m (1 + expr_nodes e) 0 0 0 0

  mutual
    pub expr_complete : {s : Sexp} {e : Expr} → ExprOf s e → (d : ℕ) → depth s ≤ d → (n : Tally) → Room entries n (expr_nodes e) 0 0 0 0 → Makes (Same e (expr_nodes e) 0 n) (read_expr entries d s n)
    expr_complete (integer {p = p}) d le n r = made_one _ p n r
    expr_complete (symbol {p = p} {w = w} q) d le n r = rw q (made_one _ p n r)
    expr_complete (true_literal {p = p}) d le n r = made_one _ p n r
    expr_complete (false_literal {p = p}) d le n r = made_one _ p n r
    expr_complete (unit_literal {p = p}) d le n r = made_one _ p n r
    expr_complete (name_expression {p = p}) d le n r = made_one _ p n r
    expr_complete (if_expression a b c) zero le n r = absurd (omega arith)
    expr_complete (if_expression {p = p} {s₁ = s} {s₂ = t} {s₃ = v} a b c) (suc d) le n r =
        makes_node entries p n (nodes_room used_none r (omega arith)) (λ m u.
        makes_then (expr_complete a d (omega arith) m (nodes_room u r (omega arith))) (λ e m₁ x.
        makes_then (expr_complete b d (omega arith) m₁ (nodes_room (nodes_then u x.used) r (omega arith))) (λ e' m₂ y.
        makes_then (expr_complete c d (omega arith) m₂ (nodes_room (nodes_then (nodes_then u x.used) y.used) r (omega arith))) (λ e'' m₃ z.
        makes {x = tree.if_expr p e e' e''} record { same = cc (x.same, y.same, z.same); used = nodes_then (nodes_then (nodes_then u x.used) y.used) z.used }))))
    expr_complete (begin_expression a b) zero le n r = absurd (omega arith)
    expr_complete (begin_expression {p = p} {s = s} {ss = ss} a b) (suc d) le n r =
        makes_node entries p n (nodes_room used_none r (omega arith)) (λ m u.
        makes_then (expr_complete a d (omega arith) m (nodes_room u r (omega arith))) (λ e m₁ x.
        makes_then (exprs_complete b d (omega arith) m₁ (nodes_room (nodes_then u x.used) r (omega arith))) (λ es m₂ y.
        makes {x = tree.begin_expr p e es} record { same = cc (x.same, y.same); used = nodes_then (nodes_then u x.used) y.used })))
    expr_complete (let_expression a b) zero le n r = absurd (omega arith)
    expr_complete (let_expression {p = p} {ss = ss} {s = s} a b) (suc d) le n r =
        makes_node entries p n (nodes_room used_none r (omega arith)) (λ m u.
        makes_then (bindings_complete a d (omega arith) m (nodes_room u r (omega arith))) (λ bs m₁ x.
        makes_then (expr_complete b d (omega arith) m₁ (nodes_room (nodes_then u x.used) r (omega arith))) (λ e m₂ y.
        makes {x = tree.let_expr p bs e} record { same = cc (x.same, y.same); used = nodes_then (nodes_then u x.used) y.used })))
    expr_complete (case_expression a b) zero le n r = absurd (omega arith)
    expr_complete (case_expression {ss = nil} a b) (suc d) le n r = elim b [ ]
    expr_complete (case_expression {p = p} {s = s} {ss = cons t ss} a b) (suc d) le n r =
        makes_node entries p n (nodes_room used_none r (omega arith)) (λ m u.
        makes_then (expr_complete a d (omega arith) m (nodes_room u r (omega arith))) (λ e m₁ x.
        makes_then (branches_complete b d (omega arith) m₁ (nodes_room (nodes_then u x.used) r (omega arith))) (λ bs m₂ y.
        makes {x = tree.case_expr p e bs} record { same = cc (x.same, y.same); used = nodes_then (nodes_then u x.used) y.used })))
    expr_complete (dup_expression a) zero le n r = absurd (omega arith)
    expr_complete (dup_expression {p = p} a) (suc d) le n r =
        makes_node entries p n r (λ m u.
        makes_then (name_complete m a) (λ i m₁ x.
        makes {x = tree.dup_expr p i} record { same = cc x.same; used = nodes_then u x.used }))
    expr_complete (apply_expression a b) zero le n r = absurd (omega arith)
    expr_complete (apply_expression {p = p} {s = s} {ss = ss} a b) (suc d) le n r = rw (applies ss a)
        (makes_node entries p n (nodes_room used_none r (omega arith)) (λ m u.
        makes_then (expr_complete a d (omega arith) m (nodes_room u r (omega arith))) (λ e m₁ x.
        makes_then (exprs_complete b d (omega arith) m₁ (nodes_room (nodes_then u x.used) r (omega arith))) (λ es m₂ y.
        makes {x = tree.apply_expr p e es} record { same = cc (x.same, y.same); used = nodes_then (nodes_then u x.used) y.used }))))

    exprs_complete : {ss : Sexps} {es : Exprs} → ExprsOf ss es → (d : ℕ) → depths ss ≤ d → (n : Tally) → Room entries n (exprs_nodes es) 0 0 0 0 → Makes (Same es (exprs_nodes es) 0 n) (read_exprs entries (read_expr entries d) ss n)
    exprs_complete no_exprs d le n r = makes record { same = refl; used = used_none }
    exprs_complete (and_expr {s = s} {ss = ss} a more) d le n r =
        makes_then (expr_complete a d (omega arith) n (nodes_room used_none r (omega arith))) (λ e m x.
        makes_then (exprs_complete more d (omega arith) m (nodes_room x.used r (omega arith))) (λ es m₁ y.
        makes {x = tree.and_expr e es} record { same = cc (x.same, y.same); used = nodes_then x.used y.used }))

    bindings_complete : {ss : Sexps} {bs : Bindings} → BindingsOf ss bs → (d : ℕ) → depths ss ≤ d → (n : Tally) → Room entries n (bindings_nodes bs) 0 0 0 0 → Makes (Same bs (bindings_nodes bs) 0 n) (read_bindings entries (read_expr entries d) ss n)
    bindings_complete no_bindings d le n r = makes record { same = refl; used = used_none }
    bindings_complete (and_binding {p = p} {s₁ = s₁} {s₂ = s₂} {ss = ss} {x = x} {e = e} c a more) d le n r =
        makes_then {Q = SameBinding p x e n}
        (makes_node entries p n (nodes_room used_none r (omega arith)) (λ m u.
        makes_then (name_complete m c) (λ i m₁ y.
        makes_then (expr_complete a d (omega arith) m₁ (nodes_room (nodes_then u y.used) r (omega arith))) (λ e m₂ z.
        makes record { same_place = refl; same_name = y.same; same_expr = z.same; used = nodes_then (nodes_then u y.used) z.used }))))
        (λ b m y. makes_then (bindings_complete more d (omega arith) m (nodes_room y.used r (omega arith))) (λ bs m₁ z.
        makes {x = tree.and_binding b.place b.name b.expr bs} record { same = cc (y.same_place, y.same_name, y.same_expr, z.same); used = nodes_then y.used z.used }))

    branches_complete : {s : Sexp} {ss : Sexps} {bs : Branches} → BranchesOf (cons s ss) bs → (d : ℕ) → depths (cons s ss) ≤ d → (n : Tally) → Room entries n (branches_nodes bs) 0 0 0 0 → Makes (Same bs (branches_nodes bs) 0 n) (read_branches entries (read_expr entries d) s ss n)
    branches_complete (last_branch {p = p} {s₁ = s₁} {s₂ = s₂} {x = x} {e = e} c a) d le n r =
        makes_then {Q = SameBranch p x e n}
        (makes_node entries p n (nodes_room used_none r (omega arith)) (λ m u.
        makes_then (pattern_complete m c) (λ i m₁ y.
        makes_then (expr_complete a d (omega arith) m₁ (nodes_room (nodes_then u y.used) r (omega arith))) (λ e m₂ z.
        makes record { same_place = refl; same_pattern = y.same; same_expr = z.same; used = nodes_then (nodes_then u y.used) z.used }))))
        (λ b m y. makes {x = tree.last_branch b.place b.pattern b.expr} record { same = cc (y.same_place, y.same_pattern, y.same_expr); used = y.used })
    branches_complete (and_branch {ss = nil} c a more) d le n r = elim more [ ]
    branches_complete (and_branch {p = p} {s₁ = s₁} {s₂ = s₂} {ss = cons t ss} {x = x} {e = e} c a more) d le n r =
        makes_then {Q = SameBranch p x e n}
        (makes_node entries p n (nodes_room used_none r (omega arith)) (λ m u.
        makes_then (pattern_complete m c) (λ i m₁ y.
        makes_then (expr_complete a d (omega arith) m₁ (nodes_room (nodes_then u y.used) r (omega arith))) (λ e m₂ z.
        makes record { same_place = refl; same_pattern = y.same; same_expr = z.same; used = nodes_then (nodes_then u y.used) z.used }))))
        (λ b m y. makes_then (branches_complete more d (omega arith) m (nodes_room y.used r (omega arith))) (λ bs m₁ z.
        makes {x = tree.and_branch b.place b.pattern b.expr bs} record { same = cc (y.same_place, y.same_pattern, y.same_expr, z.same); used = nodes_then y.used z.used }))
