-- Which scripts the rules allow.
use Rattle.std.specs.Prelude.{◌≡◌, ℕ, false, List, [], ◌∷◌, ◌++◌, map, Some, codes}
use Rattle.std.specs.Str.{bytes_eq}
use Rattle.basis.specs.Names.{name_of}
use Rattle.basis.specs.Numbers.{every_function}
use Rattle.grammar.specs.Trees as tree
use Rattle.grammar.specs.Trees.{Ident, TypeExpr, TypeExprs, PatternPart, bound, Expr, Constructor, Definition, datatype_definition, type_annotation, function_definition, val_binding, Script}
use Rattle.program.specs.Programs.{Name, Program, program, first_of}
use Rattle.typing.specs.Types.{Ty, unit, function, Tys, no_types, annotation_of}
use Rattle.typing.specs.Contexts.{Context, BindsAll}
use Rattle.typing.specs.Judgement.{Typed}

-- a name is none of a list
pub data Apart (w : Name) : List Name → Type 0 where
  apart_none : Apart w []
  apart_more : {x : Name} {xs : List Name} → bytes_eq w x ≡ false → Apart w xs → Apart w (x ∷ xs)

-- each name of a list differs from those that stand before it, and from those of the list before that
pub data Distinct : List Name → List Name → Type 0 where
  distinct_none : {before : List Name} → Distinct before []
  distinct_more : {x : Name} {before xs : List Name} → Apart x before → Distinct (x ∷ before) xs → Distinct before (x ∷ xs)

abbrev pub basis_names : List Name
basis_names = map name_of every_function

abbrev pub bytes_of : List Ident → List Name
bytes_of xs = map (λ x. x.bytes) xs

-- every name in a type expression is that of a datatype
mutual
  pub data KnownType (P : Program) : TypeExpr → Type 0 where
    known_int : {p : ℕ} → KnownType P (tree.int_type p)
    known_bool : {p : ℕ} → KnownType P (tree.bool_type p)
    known_sym : {p : ℕ} → KnownType P (tree.sym_type p)
    known_unit : {p : ℕ} → KnownType P (tree.unit_type p)
    known_datatype : {x y : Ident} → first_of (λ d. d) x.bytes P.datatypes ≡ Some y → KnownType P (tree.datatype x)
    known_function : {p : ℕ} {ts : TypeExprs} {t : TypeExpr} → KnownTypes P ts → KnownType P t → KnownType P (tree.function_type_rule p ts t)

  pub data KnownTypes (P : Program) : TypeExprs → Type 0 where
    known_none : KnownTypes P tree.no_types
    known_more : {t : TypeExpr} {ts : TypeExprs} → KnownType P t → KnownTypes P ts → KnownTypes P (tree.and_type t ts)

pub data KnownFields (P : Program) : List Constructor → Type 0 where
  fields_none : KnownFields P []
  fields_more : {c : Constructor} {cs : List Constructor} → KnownTypes P c.fields → KnownFields P cs → KnownFields P (c ∷ cs)

-- what one definition asks of the whole script: known types, and a define for each annotation and the reverse
abbrev pub Stated : Program → Definition → Type 0
Stated P (datatype_definition p x cs) = KnownFields P cs
Stated P (type_annotation p x t) = KnownType P t
Stated P (function_definition p x ps e) = Unit {0}
Stated P (val_binding p x e) = Unit {0}

abbrev pub has_define : Program → Name → Type 0
has_define P w = (d : _) × (first_of (λ d. d.name) w P.defines ≡ Some d)

abbrev pub has_annotation : Program → Name → Type 0
has_annotation P w = (a : _) × (first_of (λ a. a.name) w P.annotations ≡ Some a)

abbrev pub Paired : Program → Definition → Type 0
Paired P (datatype_definition p x cs) = Unit {0}
Paired P (type_annotation p x t) = has_define P x.bytes
Paired P (function_definition p x ps e) = has_annotation P x.bytes
Paired P (val_binding p x e) = Unit {0}

abbrev pub Each : (Definition → Type 0) → Script → Type 0
Each Q [] = Unit {0}
Each Q (d ∷ ds) = Q d × Each Q ds

-- the bodies of the definitions, in text order, with vals of the types V known so far
pub data Bodies (P : Program) : List Ty → Script → Type 0 where
  bodies_none : {V : List Ty} → Bodies P V []
  bodies_datatype : {V : List Ty} {p : ℕ} {x : Ident} {cs : List Constructor} {ds : Script} → Bodies P V ds → Bodies P V (datatype_definition p x cs ∷ ds)
  bodies_annotation : {V : List Ty} {p : ℕ} {x : Ident} {t : TypeExpr} {ds : Script} → Bodies P V ds → Bodies P V (type_annotation p x t ∷ ds)
  -- a define has a function type; its body has the result's type where the parameters have their types
  bodies_define : {V : List Ty} {p : ℕ} {x : Ident} {ps : List Ident} {e : Expr} {ds : Script} {τs : Tys} {τ : Ty} {Γ Γ' : Context}
      → annotation_of P x.bytes ≡ Some (function τs τ) → BindsAll P (map bound ps) τs [] Γ → Typed P V Γ e τ Γ' → Bodies P V ds
      → Bodies P V (function_definition p x ps e ∷ ds)
  -- a val has the type of its expression, and is known in what follows
  bodies_val : {V : List Ty} {p : ℕ} {x : Ident} {e : Expr} {ds : Script} {τ : Ty} {Γ' : Context}
      → Typed P V [] e τ Γ' → Bodies P (V ++ τ ∷ []) ds → Bodies P V (val_binding p x e ∷ ds)

-- A script that the rules allow.
pub record Allowed (script : Script) : Type 0 where
  -- no name is bound twice, none is annotated twice, and no two datatypes have one name; the basis counts as bound and annotated
  pub bound : Distinct basis_names (map (λ b. b.name.bytes) (program script).bound)
  pub annotated : Distinct basis_names (map (λ a. a.name.bytes) (program script).annotations)
  pub datatypes : Distinct [] (bytes_of (program script).datatypes)
  pub types : Each (Stated (program script)) script
  pub pairs : Each (Paired (program script)) script
  -- there is a define main, without parameters, with the result unit
  pub entry : has_define (program script) (codes "main")
  pub main : annotation_of (program script) (codes "main") ≡ Some (function no_types unit)
  pub bodies : Bodies (program script) [] script
