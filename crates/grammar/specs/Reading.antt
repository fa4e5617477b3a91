-- Reading: a text's tokens as a script, or the first refusal from the left, a form before its parts.
use Rattle.std.specs.Prelude.{ℕ, zero, suc, ◌+◌, ◌-◌, min, Bool, true, false, cond, List, [], ◌∷◌, length, take, drop, Some, None, Ok, Err, Option, Result, nat_lt}
use Rattle.text.specs.Scans.{scan, refused_at}
use Rattle.text.specs.Tokens.{Lexeme}
use Rattle.text.specs.declared.keyword.Keyword.{Keyword}
use Rattle.text.specs.declared.keyword.Keyword.TheVariants as keyword
use Rattle.text.specs.declared.refusal.Refusal.TheVariants as refusal
use Rattle.text.specs.declared.refusal.Refused.{Refused}
use Rattle.text.specs.declared.token.TokenKind.{TokenKind}
use Rattle.text.specs.declared.token.TokenKind.TheVariants as kind
use Rattle.grammar.specs.Forms.{is_key, Two, two, not_two, two_of, Form, if_form_rule, begin_form_rule, let_form_rule, case_form_rule, dup_form_rule, apply_form, no_form, form_named, arrow_of, DefinitionForm, datatype_form_rule, annotation_form_rule, define_form_rule, val_form_rule, no_definition, definition_of}
use Rattle.grammar.specs.Sexps.{Sexp, atom, list, Sexps, nil, cons, place, nested}
use Rattle.grammar.specs.Trees.{Ident, TypeExpr, int_type, bool_type, sym_type, unit_type, datatype, function_type_rule, TypeExprs, no_types, and_type, PatternPart, bound, skipped, Pattern, wildcard, constructor, Expr, integer, symbol, boolean, unit, name, if_expr, begin_expr, let_expr, case_expr, dup_expr, apply_expr, Exprs, no_exprs, and_expr, Bindings, no_bindings, and_binding, Branches, last_branch, and_branch, Constructor, Definition, datatype_definition, type_annotation, function_definition, val_binding, Script}

-- how much of each limit is used
pub record Tally : Type 0 where
  pub nodes : ℕ
  pub types : ℕ
  pub bindings : ℕ
  pub datatypes : ℕ
  pub constructors : ℕ

-- what is made, with what is used then, or a refusal
pub data Outcome (A : Type 0) : Type 0 where
  refused : Refused → Outcome A
  made : A → Tally → Outcome A

abbrev pub and_then : {A B : Type 0} → Outcome A → (A → Tally → Outcome B) → Outcome B
and_then (refused r) next = refused r
and_then (made a n) next = next a n

-- a form or a token that cannot stand there
abbrev pub wrong : {A : Type 0} → ℕ → Outcome A
wrong p = refused (refused_at refusal.Form p)

abbrev pub over_limit : {A : Type 0} → ℕ → Outcome A
over_limit p = refused (refused_at refusal.Limit p)

-- one more of what a limit counts, and then the rest; refused at what passes the limit
abbrev pub count_type : {A : Type 0} → ℕ → Tally → (Tally → Outcome A) → Outcome A
count_type p n next = cond (nat_lt n.types 512) (next record { nodes = n.nodes; types = n.types + 1; bindings = n.bindings; datatypes = n.datatypes; constructors = n.constructors }) (over_limit p)

abbrev pub count_binding : {A : Type 0} → ℕ → Tally → (Tally → Outcome A) → Outcome A
count_binding p n next = cond (nat_lt n.bindings 256) (next record { nodes = n.nodes; types = n.types; bindings = n.bindings + 1; datatypes = n.datatypes; constructors = n.constructors }) (over_limit p)

abbrev pub count_datatype : {A : Type 0} → ℕ → Tally → (Tally → Outcome A) → Outcome A
count_datatype p n next = cond (nat_lt n.datatypes 64) (next record { nodes = n.nodes; types = n.types; bindings = n.bindings; datatypes = n.datatypes + 1; constructors = n.constructors }) (over_limit p)

abbrev pub count_constructor : {A : Type 0} → ℕ → Tally → (Tally → Outcome A) → Outcome A
count_constructor p n next = cond (nat_lt n.constructors 256) (next record { nodes = n.nodes; types = n.types; bindings = n.bindings; datatypes = n.datatypes; constructors = n.constructors + 1 }) (over_limit p)

abbrev pub ident : ℕ → List ℕ → Ident
ident p w = record { place = p; bytes = w }

-- a name
abbrev pub name_of : TokenKind → ℕ → List ℕ → Tally → Outcome Ident
name_of kind.Name p w n = made (ident p w) n
name_of (kind.Open _) p w n = wrong p
name_of (kind.Close _) p w n = wrong p
name_of kind.Symbol p w n = wrong p
name_of (kind.Integer _) p w n = wrong p
name_of (kind.Keyword _) p w n = wrong p

abbrev pub name_read : Sexp → Tally → Outcome Ident
name_read (atom k p w) n = name_of k p w n
name_read (list shape p ss q) n = wrong p

-- Type expressions.
abbrev pub keyword_type : Keyword → ℕ → Option TypeExpr
keyword_type k p =
    cond (is_key k keyword.Int) (Some (int_type p))
    (cond (is_key k keyword.Bool) (Some (bool_type p))
    (cond (is_key k keyword.Sym) (Some (sym_type p))
    (cond (is_key k keyword.Unit) (Some (unit_type p)) None)))

abbrev pub atom_type : TokenKind → ℕ → List ℕ → Option TypeExpr
atom_type (kind.Keyword k) p w = keyword_type k p
atom_type kind.Name p w = Some (datatype (ident p w))
atom_type (kind.Open _) p w = None
atom_type (kind.Close _) p w = None
atom_type kind.Symbol p w = None
atom_type (kind.Integer _) p w = None

abbrev pub type_atom : ℕ → Option TypeExpr → Tally → Outcome TypeExpr
type_atom p (Some t) n = count_type p n (λ n. made t n)
type_atom p None n = wrong p

-- whether something is a type expression as far as its own head and number of parts go
abbrev pub is_some : {A : Type 0} → Option A → Bool
is_some None = false
is_some (Some x) = true

abbrev pub is_two : Two → Bool
is_two (two a b) = true
is_two not_two = false

abbrev pub type_shaped : Sexp → Bool
type_shaped (atom k p w) = is_some (atom_type k p w)
type_shaped (list shape p ss q) = is_two (arrow_of ss)

module _ (read : Sexp → Tally → Outcome TypeExpr) where
  -- types in a list, behind so many; the seventh is too many
  abbrev pub read_types : ℕ → Sexps → Tally → Outcome TypeExprs
  read_types k nil n = made no_types n
  read_types k (cons s ss) n =
      cond (nat_lt k 6)
      (and_then (read s n) (λ t n. and_then (read_types (k + 1) ss n) (λ ts n. made (and_type t ts) n)))
      (cond (type_shaped s) (over_limit (place s)) (wrong (place s)))

  abbrev pub read_type_list : Sexp → Tally → Outcome TypeExprs
  read_type_list (atom k p w) n = wrong p
  read_type_list (list shape p ss q) n = read_types 0 ss n

  abbrev pub read_arrow : ℕ → Two → Tally → Outcome TypeExpr
  read_arrow p (two ps r) n = count_type p n (λ n. and_then (read_type_list ps n) (λ ts n. and_then (read r n) (λ t n. made (function_type_rule p ts t) n)))
  read_arrow p not_two n = wrong p

-- a type expression with at most so many brackets nested in it
abbrev pub read_type : ℕ → Sexp → Tally → Outcome TypeExpr
read_type d (atom k p w) n = type_atom p (atom_type k p w) n
read_type zero (list shape p ss q) n = wrong p
read_type (suc d) (list shape p ss q) n = read_arrow (read_type d) p (arrow_of ss) n

-- Patterns.
abbrev pub part_of : TokenKind → ℕ → List ℕ → Tally → Outcome PatternPart
part_of kind.Name p w n = made (bound (ident p w)) n
part_of (kind.Keyword k) p w n = cond (is_key k keyword.Wildcard) (made (skipped p) n) (wrong p)
part_of (kind.Open _) p w n = wrong p
part_of (kind.Close _) p w n = wrong p
part_of kind.Symbol p w n = wrong p
part_of (kind.Integer _) p w n = wrong p

abbrev pub read_part : Sexp → Tally → Outcome PatternPart
read_part (atom k p w) n = part_of k p w n
read_part (list shape p ss q) n = wrong p

abbrev pub read_parts : Sexps → Tally → Outcome (List PatternPart)
read_parts nil n = made [] n
read_parts (cons s ss) n = and_then (read_part s n) (λ x n. and_then (read_parts ss n) (λ xs n. made (x ∷ xs) n))

abbrev pub read_constructor_pattern : ℕ → Sexps → Tally → Outcome Pattern
read_constructor_pattern p nil n = wrong p
read_constructor_pattern p (cons s ss) n = and_then (name_read s n) (λ c n. and_then (read_parts ss n) (λ xs n. made (constructor p c xs) n))

abbrev pub wildcard_of : TokenKind → ℕ → Tally → Outcome Pattern
wildcard_of (kind.Keyword k) p n = cond (is_key k keyword.Wildcard) (made (wildcard p) n) (wrong p)
wildcard_of kind.Name p n = wrong p
wildcard_of (kind.Open _) p n = wrong p
wildcard_of (kind.Close _) p n = wrong p
wildcard_of kind.Symbol p n = wrong p
wildcard_of (kind.Integer _) p n = wrong p

abbrev pub read_pattern : Sexp → Tally → Outcome Pattern
read_pattern (atom k p w) n = wildcard_of k p n
read_pattern (list shape p ss q) n = read_constructor_pattern p ss n

-- one branch and one binding, with their places
pub record Branch : Type 0 where
  pub place : ℕ
  pub pattern : Pattern
  pub expr : Expr

pub record Binding : Type 0 where
  pub place : ℕ
  pub name : Ident
  pub expr : Expr

-- the bytes between the quotes of a symbol
abbrev pub unquoted : List ℕ → List ℕ
unquoted w = take (length w - 2) (drop 1 w)

-- Expressions, read into a node list with so many entries.
module _ (entries : ℕ) where
  -- one node more: each expression, branch and let binding is one
  abbrev pub count_node : {A : Type 0} → ℕ → Tally → (Tally → Outcome A) → Outcome A
  count_node p n next =
      cond (nat_lt n.nodes (min entries 4096))
      (next record { nodes = n.nodes + 1; types = n.types; bindings = n.bindings; datatypes = n.datatypes; constructors = n.constructors })
      (cond (nat_lt entries 4096) (refused (refused_at refusal.NodeList p)) (over_limit p))

  abbrev pub keyword_expr : Keyword → ℕ → Option Expr
  keyword_expr k p =
      cond (is_key k keyword.True) (Some (boolean p true))
      (cond (is_key k keyword.False) (Some (boolean p false))
      (cond (is_key k keyword.Unit) (Some (unit p)) None))

  abbrev pub atom_expr : TokenKind → ℕ → List ℕ → Option Expr
  atom_expr (kind.Integer z) p w = Some (integer p z)
  atom_expr kind.Symbol p w = Some (symbol p (unquoted w))
  atom_expr (kind.Keyword k) p w = keyword_expr k p
  atom_expr kind.Name p w = Some (name p w)
  atom_expr (kind.Open _) p w = None
  atom_expr (kind.Close _) p w = None

  abbrev pub expr_atom : ℕ → Option Expr → Tally → Outcome Expr
  expr_atom p (Some e) n = count_node p n (λ n. made e n)
  expr_atom p None n = wrong p

  module _ (read : Sexp → Tally → Outcome Expr) where
    abbrev pub read_exprs : Sexps → Tally → Outcome Exprs
    read_exprs nil n = made no_exprs n
    read_exprs (cons s ss) n = and_then (read s n) (λ e n. and_then (read_exprs ss n) (λ es n. made (and_expr e es) n))

    -- a binding: a name and an expression
    abbrev pub binding_of : ℕ → Two → Tally → Outcome Binding
    binding_of p (two x e) n = count_node p n (λ n. and_then (name_read x n) (λ i n. and_then (read e n) (λ e n. made record { place = p; name = i; expr = e } n)))
    binding_of p not_two n = wrong p

    abbrev pub read_binding : Sexp → Tally → Outcome Binding
    read_binding (atom k p w) n = wrong p
    read_binding (list shape p ss q) n = binding_of p (two_of ss) n

    abbrev pub read_bindings : Sexps → Tally → Outcome Bindings
    read_bindings nil n = made no_bindings n
    read_bindings (cons s ss) n = and_then (read_binding s n) (λ b n. and_then (read_bindings ss n) (λ bs n. made (and_binding b.place b.name b.expr bs) n))

    abbrev pub read_binding_list : Sexp → Tally → Outcome Bindings
    read_binding_list (atom k p w) n = wrong p
    read_binding_list (list shape p ss q) n = read_bindings ss n

    -- a branch: a pattern and an expression
    abbrev pub branch_of : ℕ → Two → Tally → Outcome Branch
    branch_of p (two x e) n = count_node p n (λ n. and_then (read_pattern x n) (λ x n. and_then (read e n) (λ e n. made record { place = p; pattern = x; expr = e } n)))
    branch_of p not_two n = wrong p

    abbrev pub read_branch : Sexp → Tally → Outcome Branch
    read_branch (atom k p w) n = wrong p
    read_branch (list shape p ss q) n = branch_of p (two_of ss) n

    abbrev pub read_branches : Sexp → Sexps → Tally → Outcome Branches
    read_branches s nil n = and_then (read_branch s n) (λ b n. made (last_branch b.place b.pattern b.expr) n)
    read_branches s (cons t ss) n = and_then (read_branch s n) (λ b n. and_then (read_branches t ss n) (λ bs n. made (and_branch b.place b.pattern b.expr bs) n))

    abbrev pub read_form : ℕ → Form → Tally → Outcome Expr
    read_form p (if_form_rule a b c) n = count_node p n (λ n. and_then (read a n) (λ x n. and_then (read b n) (λ y n. and_then (read c n) (λ z n. made (if_expr p x y z) n))))
    read_form p (begin_form_rule e es) n = count_node p n (λ n. and_then (read e n) (λ x n. and_then (read_exprs es n) (λ xs n. made (begin_expr p x xs) n)))
    read_form p (let_form_rule bs e) n = count_node p n (λ n. and_then (read_binding_list bs n) (λ xs n. and_then (read e n) (λ y n. made (let_expr p xs y) n)))
    read_form p (case_form_rule e b bs) n = count_node p n (λ n. and_then (read e n) (λ x n. and_then (read_branches b bs n) (λ xs n. made (case_expr p x xs) n)))
    read_form p (dup_form_rule x) n = count_node p n (λ n. and_then (name_read x n) (λ i n. made (dup_expr p i) n))
    read_form p (apply_form e es) n = count_node p n (λ n. and_then (read e n) (λ x n. and_then (read_exprs es n) (λ xs n. made (apply_expr p x xs) n)))
    read_form p no_form n = wrong p

  -- an expression with at most so many brackets nested in it
  abbrev pub read_expr : ℕ → Sexp → Tally → Outcome Expr
  read_expr d (atom k p w) n = expr_atom p (atom_expr k p w) n
  read_expr zero (list shape p ss q) n = wrong p
  read_expr (suc d) (list shape p ss q) n = read_form (read_expr d) p (form_named ss) n

  -- Definitions.
  abbrev pub constructor_of : ℕ → Two → Tally → Outcome Constructor
  constructor_of p (two x ts) n = count_constructor p n (λ n. and_then (name_read x n) (λ c n. and_then (read_type_list (read_type 64) ts n) (λ ts n. made record { place = p; name = c; fields = ts } n)))
  constructor_of p not_two n = wrong p

  abbrev pub read_constructor : Sexp → Tally → Outcome Constructor
  read_constructor (atom k p w) n = wrong p
  read_constructor (list shape p ss q) n = constructor_of p (two_of ss) n

  abbrev pub read_constructors : Sexps → Tally → Outcome (List Constructor)
  read_constructors nil n = made [] n
  read_constructors (cons s ss) n = and_then (read_constructor s n) (λ c n. and_then (read_constructors ss n) (λ cs n. made (c ∷ cs) n))

  abbrev pub read_constructor_list : Sexp → Tally → Outcome (List Constructor)
  read_constructor_list (atom k p w) n = wrong p
  read_constructor_list (list shape p ss q) n = read_constructors ss n

  -- names in a parameter list, behind so many; the seventh is too many
  abbrev pub read_parameters : ℕ → Sexps → Tally → Outcome (List Ident)
  read_parameters k nil n = made [] n
  read_parameters k (cons s ss) n = and_then (name_read s n) (λ x n. cond (nat_lt k 6) (and_then (read_parameters (k + 1) ss n) (λ xs n. made (x ∷ xs) n)) (over_limit (place s)))

  abbrev pub read_parameter_list : Sexp → Tally → Outcome (List Ident)
  read_parameter_list (atom k p w) n = wrong p
  read_parameter_list (list shape p ss q) n = read_parameters 0 ss n

  abbrev pub read_definition_form : ℕ → DefinitionForm → Tally → Outcome Definition
  read_definition_form p (datatype_form_rule x cs) n = count_datatype p n (λ n. and_then (name_read x n) (λ x n. and_then (read_constructor_list cs n) (λ cs n. made (datatype_definition p x cs) n)))
  read_definition_form p (annotation_form_rule x t) n = and_then (name_read x n) (λ x n. and_then (read_type 64 t n) (λ t n. made (type_annotation p x t) n))
  read_definition_form p (define_form_rule x ps e) n = count_binding p n (λ n. and_then (name_read x n) (λ x n. and_then (read_parameter_list ps n) (λ ps n. and_then (read_expr 64 e n) (λ e n. made (function_definition p x ps e) n))))
  read_definition_form p (val_form_rule x e) n = count_binding p n (λ n. and_then (name_read x n) (λ x n. and_then (read_expr 64 e n) (λ e n. made (val_binding p x e) n)))
  read_definition_form p no_definition n = wrong p

  abbrev pub read_definition : Sexp → Tally → Outcome Definition
  read_definition (atom k p w) n = wrong p
  read_definition (list shape p ss q) n = read_definition_form p (definition_of ss) n

  abbrev pub read_definitions : Sexps → Tally → Outcome Script
  read_definitions nil n = made [] n
  read_definitions (cons s ss) n = and_then (read_definition s n) (λ d n. and_then (read_definitions ss n) (λ ds n. made (d ∷ ds) n))

-- nothing is used yet
abbrev pub fresh : Tally
fresh = record { nodes = 0; types = 0; bindings = 0; datatypes = 0; constructors = 0 }

abbrev pub concluded : Outcome Script → Result Script Refused
concluded (refused r) = Err r
concluded (made ds n) = Ok ds

abbrev pub on_tokens : ℕ → Result (List Lexeme) Refused → Result Script Refused
on_tokens entries (Err r) = Err r
on_tokens entries (Ok ts) = concluded (read_definitions entries (nested ts) fresh)

-- The script that a text is, read into a node list with so many entries: its length, tokens and brackets first, then its forms.
abbrev pub reading : List ℕ → ℕ → Result Script Refused
reading text entries = on_tokens entries (scan text)
