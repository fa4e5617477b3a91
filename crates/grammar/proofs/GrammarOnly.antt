-- The grammar is unambiguous: forms are one tree at most.
use Rattle.std.proofs.Common.{◌≡◌, List, sym, refl, ap, ◌∙◌}
use Rattle.grammar.specs.Grammar.{NameOf, TypeOf, int_type, bool_type, sym_type, unit_type, datatype, function_type_rule, TypesOf, no_types, and_type, PartOf, bound, skipped, PartsOf, no_parts, and_part, PatternOf, wildcard, constructor, ExprOf, integer, symbol, true_literal, false_literal, unit_literal, name_expression, if_expression, begin_expression, let_expression, case_expression, dup_expression, apply_expression, ExprsOf, no_exprs, and_expr, BindingsOf, no_bindings, and_binding, BranchesOf, last_branch, and_branch, ConstructorOf, constructor_definition, ConstructorsOf, no_constructors, and_constructor, NamesOf, no_names, and_name, DefinitionOf, datatype_definition, type_annotation, function_definition, val_binding, ScriptOf, no_definitions, and_definition}
use Rattle.grammar.specs.Reading.{ident}
use Rattle.grammar.specs.Sexps.{Sexp, Sexps}
use Rattle.grammar.specs.Trees as tree
use Rattle.grammar.specs.Trees.{Ident, TypeExpr, TypeExprs, PatternPart, Pattern, Expr, Exprs, Bindings, Branches, Constructor, Definition, Script}
use Rattle.grammar.proofs.GrammarDefinitions.{one_constructor_law}

pub name_only : {s : Sexp} {x y : Ident} → NameOf s x → NameOf s y → x ≡ y
name_only {s} {x} {y} e f =
    let p : x.place ≡ y.place = cc in
    let q : x.bytes ≡ y.bytes = cc in
    ap (λ p. ident p x.bytes) p ∙ ap (ident y.place) q

mutual
  type_only : {s : Sexp} {t u : TypeExpr} → TypeOf s t → TypeOf s u → t ≡ u
  type_only int_type int_type = refl
  type_only int_type (datatype e) = absurd (cc)
  type_only bool_type bool_type = refl
  type_only bool_type (datatype e) = absurd (cc)
  type_only sym_type sym_type = refl
  type_only sym_type (datatype e) = absurd (cc)
  type_only unit_type unit_type = refl
  type_only unit_type (datatype e) = absurd (cc)
  type_only (datatype e) (datatype f) = ap tree.datatype (name_only e f)
  type_only (datatype e) int_type = absurd (cc)
  type_only (datatype e) bool_type = absurd (cc)
  type_only (datatype e) sym_type = absurd (cc)
  type_only (datatype e) unit_type = absurd (cc)
  type_only (datatype e) (function_type_rule a b) = absurd (cc)
  type_only (function_type_rule a b) (datatype e) = absurd (cc)
  type_only (function_type_rule a b) (function_type_rule c d) = cc (types_only a c, type_only b d)

  types_only : {ss : Sexps} {t u : TypeExprs} → TypesOf ss t → TypesOf ss u → t ≡ u
  types_only no_types no_types = refl
  types_only (and_type a more) (and_type b rest) = cc (type_only a b, types_only more rest)

part_only : {s : Sexp} {x y : PatternPart} → PartOf s x → PartOf s y → x ≡ y
part_only (bound e) (bound f) = ap tree.bound (name_only e f)
part_only (bound e) skipped = absurd (cc)
part_only skipped (bound e) = absurd (cc)
part_only skipped skipped = refl

parts_only : {ss : Sexps} {x y : List PatternPart} → PartsOf ss x → PartsOf ss y → x ≡ y
parts_only no_parts no_parts = refl
parts_only (and_part a more) (and_part b rest) = cc (part_only a b, parts_only more rest)

pub pattern_only : {s : Sexp} {x y : Pattern} → PatternOf s x → PatternOf s y → x ≡ y
pattern_only wildcard wildcard = refl
pattern_only (constructor a more) (constructor b rest) = cc (name_only a b, parts_only more rest)

-- a word that begins a form is no expression, so it heads no application
mutual
  expr_only : {s : Sexp} {x y : Expr} → ExprOf s x → ExprOf s y → x ≡ y
  expr_only integer integer = refl
  expr_only (symbol {p = p} e) (symbol f) = ap (tree.symbol p) (e ∙ sym f)
  expr_only true_literal true_literal = refl
  expr_only false_literal false_literal = refl
  expr_only unit_literal unit_literal = refl
  expr_only name_expression name_expression = refl
  expr_only (if_expression a b c) (if_expression d e f) = cc (expr_only a d, expr_only b e, expr_only c f)
  expr_only (if_expression a b c) (apply_expression h rest) = elim h [ ]
  expr_only (begin_expression a b) (begin_expression c d) = cc (expr_only a c, exprs_only b d)
  expr_only (begin_expression a b) (apply_expression h rest) = elim h [ ]
  expr_only (let_expression a b) (let_expression c d) = cc (bindings_only a c, expr_only b d)
  expr_only (let_expression a b) (apply_expression h rest) = elim h [ ]
  expr_only (case_expression a b) (case_expression c d) = cc (expr_only a c, branches_only b d)
  expr_only (case_expression a b) (apply_expression h rest) = elim h [ ]
  expr_only (dup_expression a) (dup_expression b) = cc (name_only a b)
  expr_only (dup_expression a) (apply_expression h rest) = elim h [ ]
  expr_only (apply_expression a b) (apply_expression c d) = cc (expr_only a c, exprs_only b d)
  expr_only (apply_expression h rest) (if_expression a b c) = elim h [ ]
  expr_only (apply_expression h rest) (begin_expression a b) = elim h [ ]
  expr_only (apply_expression h rest) (let_expression a b) = elim h [ ]
  expr_only (apply_expression h rest) (case_expression a b) = elim h [ ]
  expr_only (apply_expression h rest) (dup_expression a) = elim h [ ]

  exprs_only : {ss : Sexps} {x y : Exprs} → ExprsOf ss x → ExprsOf ss y → x ≡ y
  exprs_only no_exprs no_exprs = refl
  exprs_only (and_expr a more) (and_expr b rest) = cc (expr_only a b, exprs_only more rest)

  bindings_only : {ss : Sexps} {x y : Bindings} → BindingsOf ss x → BindingsOf ss y → x ≡ y
  bindings_only no_bindings no_bindings = refl
  bindings_only (and_binding a b more) (and_binding c d rest) = cc (name_only a c, expr_only b d, bindings_only more rest)

  branches_only : {ss : Sexps} {x y : Branches} → BranchesOf ss x → BranchesOf ss y → x ≡ y
  branches_only (last_branch a b) (last_branch c d) = cc (pattern_only a c, expr_only b d)
  branches_only (last_branch a b) (and_branch c d rest) = elim rest [ ]
  branches_only (and_branch a b more) (last_branch c d) = elim more [ ]
  branches_only (and_branch a b more) (and_branch c d rest) = cc (pattern_only a c, expr_only b d, branches_only more rest)

constructor_only : {s : Sexp} {x y : Constructor} → ConstructorOf s x → ConstructorOf s y → x ≡ y
constructor_only {s} {x} {y} (constructor_definition e a b) (constructor_definition f c d) = one_constructor_law x y (e ∙ sym f) (name_only a c) (types_only b d)

constructors_only : {ss : Sexps} {x y : List Constructor} → ConstructorsOf ss x → ConstructorsOf ss y → x ≡ y
constructors_only no_constructors no_constructors = refl
constructors_only (and_constructor a more) (and_constructor b rest) = cc (constructor_only a b, constructors_only more rest)

names_only : {ss : Sexps} {x y : List Ident} → NamesOf ss x → NamesOf ss y → x ≡ y
names_only no_names no_names = refl
names_only (and_name a more) (and_name b rest) = cc (name_only a b, names_only more rest)

definition_only : {s : Sexp} {x y : Definition} → DefinitionOf s x → DefinitionOf s y → x ≡ y
definition_only (datatype_definition a b) (datatype_definition c d) = cc (name_only a c, constructors_only b d)
definition_only (type_annotation a b) (type_annotation c d) = cc (name_only a c, type_only b d)
definition_only (function_definition a b c) (function_definition d e f) = cc (name_only a d, names_only b e, expr_only c f)
definition_only (val_binding a b) (val_binding c d) = cc (name_only a c, expr_only b d)

pub script_only : {ss : Sexps} {x y : Script} → ScriptOf ss x → ScriptOf ss y → x ≡ y
script_only no_definitions no_definitions = refl
script_only (and_definition a more) (and_definition b rest) = cc (definition_only a b, script_only more rest)
