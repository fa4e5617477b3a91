-- What the check of a script answers: nothing, or the first refusal. Repeated names over the whole script first, then unknown types,
-- then defines and annotations without each other, then main, then the bodies, each from the left.
use Rattle.std.specs.Prelude.{ℕ, Bool, false, cond, ◌||◌, List, [], ◌∷◌, ◌++◌, map, length, Some, None, codes, Option, ◌==◌}
use Rattle.std.specs.Str.{bytes_eq}
use Rattle.script_refusals.specs.Refusals.{refused_at}
use Rattle.script_refusals.specs.declared.refusal.Refusal.{Refusal}
use Rattle.script_refusals.specs.declared.refusal.Refusal.TheVariants as refusal
use Rattle.script_refusals.specs.declared.refusal.Refused.{Refused}
use Rattle.grammar.specs.Trees as tree
use Rattle.grammar.specs.Trees.{Ident, TypeExpr, TypeExprs, bound, Expr, Constructor, Definition, datatype_definition, type_annotation, function_definition, val_binding, Script}
use Rattle.program.specs.Programs.{Name, Program, Define, program, first_of}
use Rattle.typing.specs.Types.{Ty, int, bool, sym, unit, datum, function, no_types, count, same_type, annotation_of}
use Rattle.typing.specs.Judging.{Judged, refused as refuses, judged, refuse, need, with_all_bound, judge, and_then}
use Rattle.typing.specs.Scripts.{basis_names}

pub data Verdict : Type 0 where
  accepted : Verdict
  refused : Refused → Verdict

-- the first refusal of two
abbrev pub before : Verdict → Verdict → Verdict
before accepted later = later
before (refused r) later = refused r

abbrev pub refusal_at : Refusal → ℕ → Verdict
refusal_at r p = refused (refused_at r p)

abbrev pub among_them : Name → List Name → Bool
among_them w [] = false
among_them w (x ∷ xs) = bytes_eq w x || among_them w xs

-- a name that is new, and then the rest
abbrev pub once : Ident → List Name → Verdict → Verdict
once x seen next = cond (among_them x.bytes seen) (refusal_at refusal.Repeated x.place) next

-- Names, with those bound, annotated and given to datatypes so far, the newest first.
abbrev pub once_variants : List Constructor → List Name → (List Name → Verdict) → Verdict
once_variants [] seen next = next seen
once_variants (c ∷ cs) seen next = once c.name seen (once_variants cs (c.name.bytes ∷ seen) next)

abbrev pub once_all : List Name → List Name → List Name → Script → Verdict
once_all bs ns ts [] = accepted
once_all bs ns ts (datatype_definition p x cs ∷ ds) = once x ts (once_variants cs bs (λ bs. once_all bs ns (x.bytes ∷ ts) ds))
once_all bs ns ts (type_annotation p x t ∷ ds) = once x ns (once_all bs (x.bytes ∷ ns) ts ds)
once_all bs ns ts (function_definition p x ps e ∷ ds) = once x bs (once_all (x.bytes ∷ bs) ns ts ds)
once_all bs ns ts (val_binding p x e ∷ ds) = once x bs (once_all (x.bytes ∷ bs) ns ts ds)

-- Names in types are those of datatypes.
abbrev pub found : {X : Type 0} → Refusal → ℕ → Option X → Verdict
found r p (Some x) = accepted
found r p None = refusal_at r p

abbrev mutual
  pub known_type : Program → TypeExpr → Verdict
  known_type P (tree.int_type p) = accepted
  known_type P (tree.bool_type p) = accepted
  known_type P (tree.sym_type p) = accepted
  known_type P (tree.unit_type p) = accepted
  known_type P (tree.datatype x) = found refusal.Unknown x.place (first_of (λ d. d) x.bytes P.datatypes)
  known_type P (tree.function_type_rule p ts t) = before (known_types P ts) (known_type P t)

  pub known_types : Program → TypeExprs → Verdict
  known_types P tree.no_types = accepted
  known_types P (tree.and_type t ts) = before (known_type P t) (known_types P ts)

abbrev pub known_fields : Program → List Constructor → Verdict
known_fields P [] = accepted
known_fields P (c ∷ cs) = before (known_types P c.fields) (known_fields P cs)

abbrev pub stated : Program → Definition → Verdict
stated P (datatype_definition p x cs) = known_fields P cs
stated P (type_annotation p x t) = known_type P t
stated P (function_definition p x ps e) = accepted
stated P (val_binding p x e) = accepted

-- Defines have annotations, and the reverse.
abbrev pub paired : Program → Definition → Verdict
paired P (datatype_definition p x cs) = accepted
paired P (type_annotation p x t) = found refusal.Unpaired x.place (first_of (λ d. d.name) x.bytes P.defines)
paired P (function_definition p x ps e) = found refusal.Unpaired x.place (first_of (λ a. a.name) x.bytes P.annotations)
paired P (val_binding p x e) = accepted

abbrev pub each : (Definition → Verdict) → Script → Verdict
each judge_one [] = accepted
each judge_one (d ∷ ds) = before (judge_one d) (each judge_one ds)

-- There is a define main with the type (-> () unit).
abbrev pub is_main : Option Ty → Bool
is_main None = false
is_main (Some τ) = same_type τ (function no_types unit)

abbrev pub main_stands : Program → Option Define → Verdict
main_stands P None = refusal_at refusal.NoMain 0
main_stands P (Some d) = cond (is_main (annotation_of P (codes "main"))) accepted (refusal_at refusal.NoMain 0)

-- Bodies.
abbrev pub concluded : {X : Type 0} → Judged X → Verdict
concluded (refuses r) = refused r
concluded (judged x Γ) = accepted

-- a define at p: its parameter list, then its body, then the body's type
abbrev pub judge_define : Program → List Ty → ℕ → List Ident → Expr → Option Ty → Judged Ty
judge_define P V p ps e None = refuse refusal.Mismatch p
judge_define P V p ps e (Some int) = refuse refusal.Mismatch p
judge_define P V p ps e (Some bool) = refuse refusal.Mismatch p
judge_define P V p ps e (Some sym) = refuse refusal.Mismatch p
judge_define P V p ps e (Some unit) = refuse refusal.Mismatch p
judge_define P V p ps e (Some (datum d)) = refuse refusal.Mismatch p
judge_define P V p ps e (Some (function τs τ)) =
    need (length ps == count τs) p (and_then (with_all_bound P (map bound ps) τs []) (λ u Γ. and_then (judge P V e Γ) (λ σ Γ'. need (same_type σ τ) p (judged σ Γ'))))

abbrev pub bodies : Program → List Ty → Script → Verdict
bodies P V [] = accepted
bodies P V (datatype_definition p x cs ∷ ds) = bodies P V ds
bodies P V (type_annotation p x t ∷ ds) = bodies P V ds
bodies P V (function_definition p x ps e ∷ ds) = before (concluded (judge_define P V p ps e (annotation_of P x.bytes))) (bodies P V ds)
bodies P V (val_binding p x e ∷ ds) = elim (judge P V e []) [ refuses r ↦ refused r | judged τ Γ ↦ bodies P (V ++ τ ∷ []) ds ]

abbrev pub verdict_in : Program → Script → Verdict
verdict_in P script =
    before (once_all basis_names basis_names [] script)
    (before (each (stated P) script)
    (before (each (paired P) script)
    (before (main_stands P (first_of (λ d. d.name) (codes "main") P.defines))
    (bodies P [] script))))

-- The check of a script.
abbrev pub verdict : Script → Verdict
verdict script = verdict_in (program script) script
