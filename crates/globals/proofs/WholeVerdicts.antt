-- What is judged of the whole script, part by part.
use Rattle.std.proofs.Common.{◌≡◌, List, [], ◌∷◌, ◌++◌, codes, sym, refl, ap, ◌∙◌}
use Rattle.globals.specs.Known.{whole_verdict}
use Rattle.globals.specs.Types.{known_head, known_all}
use Rattle.grammar.specs.Trees as tree
use Rattle.grammar.specs.Trees.{TypeExpr, TypeExprs, Constructor, datatype_definition, type_annotation, function_definition, val_binding, Script}
use Rattle.program.specs.Programs.{Program, program, first_of}
use Rattle.script_refusals.specs.declared.refusal.Refused.{Refused}
use Rattle.type_rows.specs.TypeExprs.{inner, inners, field_types, types_listed}
use Rattle.typing.specs.Scripts.{basis_names}
use Rattle.typing.specs.Verdict.{Verdict, accepted, refused, before, once_all, known_type, known_types, known_fields, stated, paired, each, main_stands}

before_assoc : (a b c : Verdict) → before (before a b) c ≡ before a (before b c)
before_assoc accepted b c = refl
before_assoc (refused r) b c = refl

before_accepted : (a : Verdict) → before a accepted ≡ a
before_accepted accepted = refl
before_accepted (refused r) = refl

module _ (P : Program) where
  known_append : (xs ys : List TypeExpr) → known_all P (xs ++ ys) ≡ before (known_all P xs) (known_all P ys)
  known_append [] ys = refl
  known_append (x ∷ xs) ys = ap (before (known_head P x)) (known_append xs ys) ∙ sym (before_assoc (known_head P x) (known_all P xs) (known_all P ys))

  mutual
    known_type_rule : (t : TypeExpr) → known_type P t ≡ known_all P (inner t)
    known_type_rule (tree.int_type p) = refl
    known_type_rule (tree.bool_type p) = refl
    known_type_rule (tree.sym_type p) = refl
    known_type_rule (tree.unit_type p) = refl
    known_type_rule (tree.datatype x) = sym (before_accepted (known_head P (tree.datatype x)))
    known_type_rule (tree.function_type_rule p ts t) = ap (λ v. before v (known_type P t)) (known_types_rule ts) ∙ ap (before (known_all P (inners ts))) (known_type_rule t) ∙ sym (known_append (inners ts) (inner t))

    known_types_rule : (ts : TypeExprs) → known_types P ts ≡ known_all P (inners ts)
    known_types_rule tree.no_types = refl
    known_types_rule (tree.and_type t ts) = ap (λ v. before v (known_types P ts)) (known_type_rule t) ∙ ap (before (known_all P (inner t))) (known_types_rule ts) ∙ sym (known_append (inner t) (inners ts))

  known_fields_rule : (cs : List Constructor) → known_fields P cs ≡ known_all P (field_types cs)
  known_fields_rule [] = refl
  known_fields_rule (c ∷ cs) = ap (λ v. before v (known_fields P cs)) (known_types_rule c.fields) ∙ ap (before (known_all P (inners c.fields))) (known_fields_rule cs) ∙ sym (known_append (inners c.fields) (field_types cs))

  -- names in types, over the whole script
  pub stated_all : (ds : Script) → each (stated P) ds ≡ known_all P (types_listed ds)
  stated_all [] = refl
  stated_all (datatype_definition p x cs ∷ ds) = ap (λ v. before v (each (stated P) ds)) (known_fields_rule cs) ∙ ap (before (known_all P (field_types cs))) (stated_all ds) ∙ sym (known_append (field_types cs) (types_listed ds))
  stated_all (type_annotation p x t ∷ ds) = ap (λ v. before v (each (stated P) ds)) (known_type_rule t) ∙ ap (before (known_all P (inner t))) (stated_all ds) ∙ sym (known_append (inner t) (types_listed ds))
  stated_all (function_definition p x ps e ∷ ds) = stated_all ds
  stated_all (val_binding p x e ∷ ds) = stated_all ds

module _ (script : Script) where
  abbrev P : Program
  P = program script

  pub types_refused : (r : Refused) → once_all basis_names basis_names [] script ≡ accepted → known_all P (types_listed script) ≡ refused r → whole_verdict P script ≡ refused r
  types_refused r a e = let b = stated_all P script ∙ e in rw a (rw b refl)

  pub pairs_refused : (r : Refused) → once_all basis_names basis_names [] script ≡ accepted → known_all P (types_listed script) ≡ accepted → each (paired P) script ≡ refused r → whole_verdict P script ≡ refused r
  pairs_refused r a e f = let b = stated_all P script ∙ e in rw a (rw b (rw f refl))

  pub main_left : once_all basis_names basis_names [] script ≡ accepted → known_all P (types_listed script) ≡ accepted → each (paired P) script ≡ accepted → whole_verdict P script ≡ main_stands P (first_of (λ d. d.name) (codes "main") P.defines)
  main_left a e f = let b = stated_all P script ∙ e in rw a (rw b (rw f refl))
