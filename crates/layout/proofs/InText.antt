-- What the text says of a tree that the grammar derives: each name, symbol and pattern stands at its place.
use Rattle.std.proofs.Common.{◌≡◌, ℕ, ◌+◌, List, [], ◌∷◌, length, refl, ap, ◌∙◌}
use Rattle.text.specs.Tokens.{lexeme, Lexed, done, lexed_from}
use Rattle.text.specs.declared.bracket.Bracket.{Bracket}
use Rattle.text.specs.declared.token.TokenKind.TheVariants as kind
use Rattle.text.proofs.GrammarLaws.{tokens_scan}
use Rattle.grammar.specs.Grammar.{NameOf, TypeOf, int_type, bool_type, sym_type, unit_type, datatype, function_type_rule, TypesOf, no_types, and_type, PatternOf, wildcard, constructor, ExprOf, integer, symbol, true_literal, false_literal, unit_literal, name_expression, if_expression, begin_expression, let_expression, case_expression, dup_expression, apply_expression, ExprsOf, no_exprs, and_expr, BindingsOf, no_bindings, and_binding, BranchesOf, last_branch, and_branch, ConstructorOf, constructor_definition, ConstructorsOf, no_constructors, and_constructor, NamesOf, no_names, and_name, DefinitionOf, datatype_definition, type_annotation, function_definition, val_binding, ScriptOf, no_definitions, and_definition, Derives}
use Rattle.grammar.specs.Reading.{ident}
use Rattle.grammar.specs.Sexps.{Sexp, list, Sexps, cons, opening, Atoms, AllAtoms}
use Rattle.grammar.specs.Streams.{stream, streams}
use Rattle.grammar.specs.Trees as tree
use Rattle.grammar.specs.Trees.{Ident, TypeExpr, TypeExprs, Pattern, Expr, Exprs, Bindings, Branches, Script}
use Rattle.grammar.proofs.StreamLaws.{token_at, behind_form, scan_streams}
use Rattle.layout.specs.Encoding.{pattern_place}
use Rattle.layout.specs.Spelling.{Spells, Quotes, Shows}
use Rattle.layout.specs.Words as part

module _ (text : List ℕ) where
  abbrev pub NameIn : Ident → Type 0
  NameIn x = Spells text (part.word x) x

  abbrev pub NamesIn : List Ident → Type 0
  NamesIn [] = Unit {0}
  NamesIn (x ∷ xs) = NameIn x × NamesIn xs

  abbrev mutual
    pub TypeIn : TypeExpr → Type 0
    TypeIn (tree.int_type p) = Unit {0}
    TypeIn (tree.bool_type p) = Unit {0}
    TypeIn (tree.sym_type p) = Unit {0}
    TypeIn (tree.unit_type p) = Unit {0}
    TypeIn (tree.datatype x) = NameIn x
    TypeIn (tree.function_type_rule p ts t) = TypesIn ts × TypeIn t

    pub TypesIn : TypeExprs → Type 0
    TypesIn tree.no_types = Unit {0}
    TypesIn (tree.and_type t ts) = TypeIn t × TypesIn ts

  abbrev mutual
    pub ExprIn : Expr → Type 0
    ExprIn (tree.integer p z) = Unit {0}
    ExprIn (tree.symbol p w) = Quotes text p w
    ExprIn (tree.boolean p b) = Unit {0}
    ExprIn (tree.unit p) = Unit {0}
    ExprIn (tree.name p w) = NameIn (ident p w)
    ExprIn (tree.if_expr p a b c) = ExprIn a × ExprIn b × ExprIn c
    ExprIn (tree.begin_expr p e es) = ExprIn e × ExprsIn es
    ExprIn (tree.let_expr p bs e) = BindingsIn bs × ExprIn e
    ExprIn (tree.case_expr p e bs) = ExprIn e × BranchesIn bs
    ExprIn (tree.dup_expr p x) = NameIn x
    ExprIn (tree.apply_expr p e es) = ExprIn e × ExprsIn es

    pub ExprsIn : Exprs → Type 0
    ExprsIn tree.no_exprs = Unit {0}
    ExprsIn (tree.and_expr e es) = ExprIn e × ExprsIn es

    pub BindingsIn : Bindings → Type 0
    BindingsIn tree.no_bindings = Unit {0}
    BindingsIn (tree.and_binding p x e bs) = NameIn x × ExprIn e × BindingsIn bs

    pub BranchesIn : Branches → Type 0
    BranchesIn (tree.last_branch p x e) = Shows text (pattern_place x) x × ExprIn e
    BranchesIn (tree.and_branch p x e bs) = Shows text (pattern_place x) x × ExprIn e × BranchesIn bs

  abbrev pub ConstructorsIn : List tree.Constructor → Type 0
  ConstructorsIn [] = Unit {0}
  ConstructorsIn (c ∷ cs) = NameIn c.name × TypesIn c.fields × ConstructorsIn cs

  abbrev pub DefinitionIn : tree.Definition → Type 0
  DefinitionIn (tree.datatype_definition p x cs) = NameIn x × ConstructorsIn cs
  DefinitionIn (tree.type_annotation p x t) = NameIn x × TypeIn t
  DefinitionIn (tree.function_definition p x xs e) = NameIn x × NamesIn xs × ExprIn e
  DefinitionIn (tree.val_binding p x e) = NameIn x × ExprIn e

  abbrev pub ScriptIn : Script → Type 0
  ScriptIn [] = Unit {0}
  ScriptIn (d ∷ ds) = DefinitionIn d × ScriptIn ds

  -- A form, and forms, whose tokens come next from some place on.
  record Begins (s : Sexp) : Type 0 where
    place : ℕ
    rest : Lexed
    is : lexed_from text place ≡ stream s rest

  record BeginAll (ss : Sexps) : Type 0 where
    place : ℕ
    rest : Lexed
    is : lexed_from text place ≡ streams ss rest

  head : {s : Sexp} {ss : Sexps} → BeginAll (cons s ss) → Begins s
  head f = record { place = f.place; rest = _; is = f.is }

  tail : {s : Sexp} {ss : Sexps} → BeginAll (cons s ss) → BeginAll ss
  tail {s} {ss} f = let b = behind_form text f.place s (streams ss f.rest) f.is in record { place = b.0; rest = f.rest; is = b.1 }

  inside : {a : Bracket} {p q : ℕ} {ss : Sexps} → Begins (list a p ss q) → BeginAll ss
  inside {a} {p} {q} {ss} f = record { place = p + length (opening a); rest = _; is = (token_at text f.place (lexeme (kind.Open a) p (opening a)) _ f.is).behind }

  name_in : (s : Sexp) (x : Ident) → NameOf s x → Begins s → NameIn x
  name_in s x h f =
      let t = token_at text f.place (lexeme kind.Name x.place x.bytes) f.rest (f.is ∙ ap (λ s. stream s f.rest) h) in
      record { place_is = refl; size_is = refl; bytes_are = t.part; within = t.within }

  mutual
    type_in : {s : Sexp} {t : TypeExpr} → TypeOf s t → Begins s → TypeIn t
    type_in int_type f = tt
    type_in bool_type f = tt
    type_in sym_type f = tt
    type_in unit_type f = tt
    type_in (datatype {s = s} {x = x} h) f = name_in s x h f
    type_in (function_type_rule d r) f = let parts = tail (inside f) in (types_in d (inside (head parts)), type_in r (head (tail parts)))

    types_in : {ss : Sexps} {ts : TypeExprs} → TypesOf ss ts → BeginAll ss → TypesIn ts
    types_in no_types f = tt
    types_in (and_type d more) f = (type_in d (head f), types_in more (tail f))

  pattern_in : {s : Sexp} {x : Pattern} → PatternOf s x → Atoms s → Begins s → Shows text (pattern_place x) x
  pattern_in {s} (wildcard {p = p} {w = w}) a f = record { form = s; rest = f.rest; follows = (token_at text f.place (lexeme _ p w) f.rest f.is).here; atoms = a; derived = wildcard }
  pattern_in {s} (constructor {a = r} {p = p} h d) a f = record { form = s; rest = f.rest; follows = (token_at text f.place (lexeme (kind.Open r) p (opening r)) _ f.is).here; atoms = a; derived = constructor h d }

  mutual
    expr_in : {s : Sexp} {e : Expr} → ExprOf s e → Atoms s → Begins s → ExprIn e
    expr_in integer a f = tt
    expr_in (symbol {p = p} {w = w} h) a f = record { token = w; rest = f.rest; follows = (token_at text f.place (lexeme kind.Symbol p w) f.rest f.is).here; between = h }
    expr_in true_literal a f = tt
    expr_in false_literal a f = tt
    expr_in unit_literal a f = tt
    expr_in (name_expression {p = p} {w = w}) a f = name_in _ (ident p w) refl f
    expr_in (if_expression d₁ d₂ d₃) a f =
        let parts = tail (inside f) in
        (expr_in d₁ a.1.0 (head parts), expr_in d₂ a.1.1.0 (head (tail parts)), expr_in d₃ a.1.1.1.0 (head (tail (tail parts))))
    expr_in (begin_expression d more) a f = let parts = tail (inside f) in (expr_in d a.1.0 (head parts), exprs_in more a.1.1 (tail parts))
    expr_in (let_expression d body) a f = let parts = tail (inside f) in (bindings_in d a.1.0 (inside (head parts)), expr_in body a.1.1.0 (head (tail parts)))
    expr_in (case_expression d more) a f = let parts = tail (inside f) in (expr_in d a.1.0 (head parts), branches_in more a.1.1 (tail parts))
    expr_in (dup_expression {s = s} {x = x} h) a f = name_in s x h (head (tail (inside f)))
    expr_in (apply_expression d more) a f = let parts = inside f in (expr_in d a.0 (head parts), exprs_in more a.1 (tail parts))

    exprs_in : {ss : Sexps} {es : Exprs} → ExprsOf ss es → AllAtoms ss → BeginAll ss → ExprsIn es
    exprs_in no_exprs a f = tt
    exprs_in (and_expr d more) a f = (expr_in d a.0 (head f), exprs_in more a.1 (tail f))

    bindings_in : {ss : Sexps} {bs : Bindings} → BindingsOf ss bs → AllAtoms ss → BeginAll ss → BindingsIn bs
    bindings_in no_bindings a f = tt
    bindings_in (and_binding {s₁ = s₁} {x = x} h d more) a f =
        let parts = inside (head f) in
        (name_in s₁ x h (head parts), expr_in d a.0.1.0 (head (tail parts)), bindings_in more a.1 (tail f))

    branches_in : {ss : Sexps} {bs : Branches} → BranchesOf ss bs → AllAtoms ss → BeginAll ss → BranchesIn bs
    branches_in (last_branch h d) a f = let parts = inside (head f) in (pattern_in h a.0.0 (head parts), expr_in d a.0.1.0 (head (tail parts)))
    branches_in (and_branch h d more) a f =
        let parts = inside (head f) in
        (pattern_in h a.0.0 (head parts), expr_in d a.0.1.0 (head (tail parts)), branches_in more a.1 (tail f))

  constructor_in : {s : Sexp} {c : tree.Constructor} → ConstructorOf s c → Begins s → NameIn c.name × TypesIn c.fields
  constructor_in (constructor_definition {s = s} {c = c} e h types) f = let parts = inside f in (name_in s c.name h (head parts), types_in types (inside (head (tail parts))))

  constructors_in : {ss : Sexps} {cs : List tree.Constructor} → ConstructorsOf ss cs → BeginAll ss → ConstructorsIn cs
  constructors_in no_constructors f = tt
  constructors_in (and_constructor d more) f = let h = constructor_in d (head f) in (h.0, h.1, constructors_in more (tail f))

  names_in : {ss : Sexps} {xs : List Ident} → NamesOf ss xs → BeginAll ss → NamesIn xs
  names_in no_names f = tt
  names_in (and_name {s = s} {x = x} h more) f = (name_in s x h (head f), names_in more (tail f))

  definition_in : {s : Sexp} {d : tree.Definition} → DefinitionOf s d → Atoms s → Begins s → DefinitionIn d
  definition_in (datatype_definition {s = s} {x = x} h d) a f = let parts = tail (inside f) in (name_in s x h (head parts), constructors_in d (inside (head (tail parts))))
  definition_in (type_annotation {s₁ = s} {x = x} h d) a f = let parts = tail (inside f) in (name_in s x h (head parts), type_in d (head (tail parts)))
  definition_in (function_definition {s₁ = s} {x = x} h names d) a f =
      let parts = tail (inside f) in
      (name_in s x h (head parts), names_in names (inside (head (tail parts))), expr_in d a.1.1.1.0 (head (tail (tail parts))))
  definition_in (val_binding {s₁ = s} {x = x} h d) a f = let parts = tail (inside f) in (name_in s x h (head parts), expr_in d a.1.1.0 (head (tail parts)))

  script_in : {ss : Sexps} {ds : Script} → ScriptOf ss ds → AllAtoms ss → BeginAll ss → ScriptIn ds
  script_in no_definitions a f = tt
  script_in (and_definition d more) a f = (definition_in d a.0 (head f), script_in more a.1 (tail f))

  pub derived_in : (script : Script) → Derives text script → ScriptIn script
  derived_in script d = script_in d.grammatical d.nested.atoms record { place = 0; rest = done; is = scan_streams text d.tokens d.forms (tokens_scan text d.tokens d.lexical) d.nested }
