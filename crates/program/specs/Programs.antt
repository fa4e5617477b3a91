-- What a script declares, each kind in text order, and what its names mean.
use Rattle.std.specs.Prelude.{ℕ, ◌+◌, cond, List, [], ◌∷◌, length, Some, None, Option, nat_le}
use Rattle.std.specs.Str.{bytes_eq}
use Rattle.basis.specs.Names.{named}
use Rattle.basis.specs.Numbers.{number_of}
use Rattle.basis.specs.declared.function.Basis.{Basis}
use Rattle.layout.specs.Literals.{Literal, literals_of}
use Rattle.grammar.specs.Trees.{Ident, TypeExpr, TypeExprs, Expr, Constructor, datatype_definition, type_annotation, function_definition, val_binding, Script}

-- a name, by its bytes
abbrev pub Name : Type 0
Name = List ℕ

-- a constructor, with the number of its datatype
pub record Variant : Type 0 where
  pub name : Ident
  pub datatype : ℕ
  pub fields : TypeExprs

pub record Annotation : Type 0 where
  pub name : Ident
  pub type : TypeExpr

pub record Define : Type 0 where
  pub place : ℕ
  pub name : Ident
  pub parameters : List Ident
  pub body : Expr

pub record Val : Type 0 where
  pub place : ℕ
  pub name : Ident
  pub expr : Expr

-- where a define begins; 0 where there is none
abbrev pub place_meant : Option Define → ℕ
place_meant None = 0
place_meant (Some d) = d.place

abbrev pub datatypes_of : Script → List Ident
datatypes_of [] = []
datatypes_of (datatype_definition p x cs ∷ ds) = x ∷ datatypes_of ds
datatypes_of (type_annotation p x t ∷ ds) = datatypes_of ds
datatypes_of (function_definition p x ps e ∷ ds) = datatypes_of ds
datatypes_of (val_binding p x e ∷ ds) = datatypes_of ds

-- the constructors of the datatype with this number, before others
abbrev pub variants : ℕ → List Constructor → List Variant → List Variant
variants d [] rest = rest
variants d (c ∷ cs) rest = record { name = c.name; datatype = d; fields = c.fields } ∷ variants d cs rest

-- the constructors of a script whose first datatype has the number d
abbrev pub variants_from : ℕ → Script → List Variant
variants_from d [] = []
variants_from d (datatype_definition p x cs ∷ ds) = variants d cs (variants_from (d + 1) ds)
variants_from d (type_annotation p x t ∷ ds) = variants_from d ds
variants_from d (function_definition p x ps e ∷ ds) = variants_from d ds
variants_from d (val_binding p x e ∷ ds) = variants_from d ds

abbrev pub annotations_of : Script → List Annotation
annotations_of [] = []
annotations_of (datatype_definition p x cs ∷ ds) = annotations_of ds
annotations_of (type_annotation p x t ∷ ds) = record { name = x; type = t } ∷ annotations_of ds
annotations_of (function_definition p x ps e ∷ ds) = annotations_of ds
annotations_of (val_binding p x e ∷ ds) = annotations_of ds

abbrev pub defines_of : Script → List Define
defines_of [] = []
defines_of (datatype_definition p x cs ∷ ds) = defines_of ds
defines_of (type_annotation p x t ∷ ds) = defines_of ds
defines_of (function_definition p x ps e ∷ ds) = record { place = p; name = x; parameters = ps; body = e } ∷ defines_of ds
defines_of (val_binding p x e ∷ ds) = defines_of ds

abbrev pub vals_of : Script → List Val
vals_of [] = []
vals_of (datatype_definition p x cs ∷ ds) = vals_of ds
vals_of (type_annotation p x t ∷ ds) = vals_of ds
vals_of (function_definition p x ps e ∷ ds) = vals_of ds
vals_of (val_binding p x e ∷ ds) = record { place = p; name = x; expr = e } ∷ vals_of ds

-- What a name of the whole script means: a function by its number (those of the basis first, then the defines in text order), a
-- constructor or a val by its place in text order; or nothing.
pub data Global : Type 0 where
  function : ℕ → Global
  constructor : ℕ → Global
  val : ℕ → Global
  unbound : Global

-- a name that the script binds, and what it means
pub record Bound : Type 0 where
  pub name : Ident
  pub meaning : Global

-- the constructors from number c on, before others
abbrev pub bound_variants : ℕ → List Constructor → List Bound → List Bound
bound_variants c [] rest = rest
bound_variants c (k ∷ ks) rest = record { name = k.name; meaning = constructor c } ∷ bound_variants (c + 1) ks rest

-- all names that a script binds, in text order; its first constructor, function and val have these numbers
abbrev pub bound_from : ℕ → ℕ → ℕ → Script → List Bound
bound_from c f v [] = []
bound_from c f v (datatype_definition p x cs ∷ ds) = bound_variants c cs (bound_from (c + length cs) f v ds)
bound_from c f v (type_annotation p x t ∷ ds) = bound_from c f v ds
bound_from c f v (function_definition p x ps e ∷ ds) = record { name = x; meaning = function f } ∷ bound_from c (f + 1) v ds
bound_from c f v (val_binding p x e ∷ ds) = record { name = x; meaning = val v } ∷ bound_from c f (v + 1) ds

-- a define or a val: its place and its name
pub record Owner : Type 0 where
  pub place : ℕ
  pub name : Ident

abbrev pub owners_of : Script → List Owner
owners_of [] = []
owners_of (datatype_definition p x cs ∷ ds) = owners_of ds
owners_of (type_annotation p x t ∷ ds) = owners_of ds
owners_of (function_definition p x ps e ∷ ds) = record { place = p; name = x } ∷ owners_of ds
owners_of (val_binding p x e ∷ ds) = record { place = p; name = x } ∷ owners_of ds

-- how many functions the basis has: the first define has this number
abbrev pub basis_count : ℕ
basis_count = 33

pub record Program : Type 0 where
  pub datatypes : List Ident
  pub variants : List Variant
  pub annotations : List Annotation
  pub defines : List Define
  pub vals : List Val
  pub bound : List Bound
  -- defines and vals together
  pub owners : List Owner
  pub literals : List Literal

abbrev pub program : Script → Program
program ds = record {
  datatypes = datatypes_of ds;
  variants = variants_from 0 ds;
  annotations = annotations_of ds;
  defines = defines_of ds;
  vals = vals_of ds;
  bound = bound_from 0 basis_count 0 ds;
  owners = owners_of ds;
  literals = literals_of ds;
}

-- the first entry of a list that has a name
abbrev pub first_of : {X : Type 0} → (X → Ident) → Name → List X → Option X
first_of name w [] = None
first_of name w (x ∷ xs) = cond (bytes_eq w (name x).bytes) (Some x) (first_of name w xs)

-- the define or val that a place lies in: the last one that begins at the place or before it
abbrev pub owner_from : Ident → ℕ → List Owner → Ident
owner_from x p [] = x
owner_from x p (o ∷ os) = cond (nat_le o.place p) (owner_from o.name p os) x

abbrev pub nobody : Ident
nobody = record { place = 0; bytes = [] }

abbrev pub owner_found : Program → ℕ → Ident
owner_found P p = owner_from nobody p P.owners

abbrev pub type_meant : Option Bound → Global
type_meant (Some b) = b.meaning
type_meant None = unbound

abbrev pub basis_or : Option Basis → Global → Global
basis_or (Some f) g = function (number_of f)
basis_or None g = g

-- what a name means where no local has it
abbrev pub global_of : Program → Name → Global
global_of P w = basis_or (named w) (type_meant (first_of (λ b. b.name) w P.bound))
