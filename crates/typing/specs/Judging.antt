-- The type of an expression and the names afterwards, or the first refusal: parts in the order of evaluation, and a form's own rule
-- after its parts, but for a test and a pattern, which are judged before arm and branch.
use Rattle.std.specs.Prelude.{ℕ, Bool, true, false, cond, ◌&&◌, List, [], ◌∷◌, length, drop, Some, None, Option, ◌==◌, nat_lt}
use Rattle.std.specs.List.{slice_get}
use Rattle.script_refusals.specs.Refusals.{refused_at}
use Rattle.script_refusals.specs.declared.refusal.Refusal.{Refusal}
use Rattle.script_refusals.specs.declared.refusal.Refusal.TheVariants as refusal
use Rattle.script_refusals.specs.declared.refusal.Refused.{Refused}
use Rattle.grammar.specs.Trees as tree
use Rattle.grammar.specs.Trees.{Ident, PatternPart, bound, skipped, Pattern, wildcard, constructor, Expr, Exprs, no_exprs, and_expr, Bindings, no_bindings, and_binding, Branches, last_branch, and_branch}
use Rattle.program.specs.Programs as means
use Rattle.program.specs.Programs.{Name, Program, Variant, Global, global_of}
use Rattle.program.specs.Compiling.{binding_count}
use Rattle.program.specs.Scopes.{pattern_names}
use Rattle.typing.specs.Types.{Ty, int, bool, sym, unit, datum, function, Tys, no_types, and_type, count, same_type, same_types, types_of, function_type}
use Rattle.typing.specs.Contexts.{Local, local, Context, most_locals, join, local_named, consume}

-- what is found, with the names afterwards, or a refusal
pub data Judged (X : Type 0) : Type 0 where
  refused : Refused → Judged X
  judged : X → Context → Judged X

abbrev pub and_then : {X Y : Type 0} → Judged X → (X → Context → Judged Y) → Judged Y
and_then (refused r) next = refused r
and_then (judged x Γ) next = next x Γ

abbrev pub refuse : {X : Type 0} → Refusal → ℕ → Judged X
refuse r p = refused (refused_at r p)

-- go on if a form's own rule holds
abbrev pub need : {X : Type 0} → Bool → ℕ → Judged X → Judged X
need b p next = cond b next (refuse refusal.Mismatch p)

abbrev pub is_datum : Ty → Bool
is_datum int = false
is_datum bool = false
is_datum sym = false
is_datum unit = false
is_datum (datum d) = true
is_datum (function ts t) = false

-- the names after one of this type was entered
abbrev pub entered : Name → Ty → Context → Context
entered w τ Γ = cond (is_datum τ) (consume w Γ) Γ

-- entering a name
abbrev pub enter_local : ℕ → Name → Local → Context → Judged Ty
enter_local p w (local x τ true) Γ = refuse refusal.Consumed p
enter_local p w (local x τ false) Γ = judged τ (entered w τ Γ)

abbrev pub known : ℕ → Option Ty → Context → Judged Ty
known p (Some τ) Γ = judged τ Γ
known p None Γ = refuse refusal.Unknown p

-- a constructor's name stands only at an application's head or in a pattern
abbrev pub enter_global : Program → List Ty → ℕ → Global → Context → Judged Ty
enter_global P V p (means.function n) Γ = known p (function_type P n) Γ
enter_global P V p (means.constructor k) Γ = refuse refusal.Mismatch p
enter_global P V p (means.val i) Γ = known p (slice_get V i) Γ
enter_global P V p means.unbound Γ = refuse refusal.Unknown p

abbrev pub judge_name : Program → List Ty → ℕ → Name → Context → Judged Ty
judge_name P V p w Γ = elim (local_named w Γ) [ Some l ↦ enter_local p w l Γ | None ↦ enter_global P V p (global_of P w) Γ ]

-- dup of a local name at q; anything else is refused, at the form where it is known
abbrev pub dup_local : ℕ → Local → Context → Judged Ty
dup_local q (local x τ true) Γ = refuse refusal.Consumed q
dup_local q (local x τ false) Γ = judged τ Γ

abbrev pub dup_val : ℕ → ℕ → Option Ty → Judged Ty
dup_val p q (Some τ) = refuse refusal.Mismatch p
dup_val p q None = refuse refusal.Unknown q

abbrev pub dup_global : List Ty → ℕ → ℕ → Global → Judged Ty
dup_global V p q (means.function n) = refuse refusal.Mismatch p
dup_global V p q (means.constructor k) = refuse refusal.Mismatch p
dup_global V p q (means.val i) = dup_val p q (slice_get V i)
dup_global V p q means.unbound = refuse refusal.Unknown q

abbrev pub judge_dup : Program → List Ty → ℕ → Ident → Context → Judged Ty
judge_dup P V p x Γ = elim (local_named x.bytes Γ) [ Some l ↦ dup_local x.place l Γ | None ↦ dup_global V p x.place (global_of P x.bytes) ]

-- no local in scope has the name, and nothing in the whole script
abbrev pub is_unbound : Global → Bool
is_unbound (means.function n) = false
is_unbound (means.constructor k) = false
is_unbound (means.val i) = false
is_unbound means.unbound = true

abbrev pub is_absent : Option Local → Bool
is_absent (Some l) = false
is_absent None = true

abbrev pub is_fresh : Program → Name → Context → Bool
is_fresh P w Γ = is_absent (local_named w Γ) && is_unbound (global_of P w)

-- a name is bound
abbrev pub bind_name : {X : Type 0} → Program → Ident → Ty → Context → (Context → Judged X) → Judged X
bind_name P x τ Γ next =
    cond (nat_lt (length Γ) most_locals)
    (cond (is_fresh P x.bytes Γ) (next (local x.bytes τ false ∷ Γ)) (refuse refusal.Repeated x.place))
    (refuse refusal.Limit x.place)

-- the names of a pattern or of a parameter list, as many parts as types
abbrev pub with_all_bound : Program → List PatternPart → Tys → Context → Judged (Unit {0})
with_all_bound P [] τs Γ = judged tt Γ
with_all_bound P (x ∷ xs) no_types Γ = judged tt Γ
with_all_bound P (bound x ∷ xs) (and_type τ τs) Γ = bind_name P x τ Γ (with_all_bound P xs τs)
with_all_bound P (skipped p ∷ xs) (and_type τ τs) Γ = with_all_bound P xs τs Γ

-- a constructor's pattern for the datatype d: its owner and its number of parts, then its names
abbrev pub judge_variant : Program → ℕ → ℕ → List PatternPart → Option Variant → Context → Judged (Unit {0})
judge_variant P d p xs None Γ = refuse refusal.Mismatch p
judge_variant P d p xs (Some v) Γ = need (v.datatype == d && length xs == count (types_of P v.fields)) p (with_all_bound P xs (types_of P v.fields) Γ)

abbrev pub head_val : ℕ → ℕ → Option Ty → Judged (Unit {0})
head_val p q (Some τ) = refuse refusal.Mismatch p
head_val p q None = refuse refusal.Unknown q

-- the pattern at p whose head at q means this
abbrev pub judge_head : Program → List Ty → ℕ → ℕ → ℕ → List PatternPart → Global → Context → Judged (Unit {0})
judge_head P V d p q xs (means.function n) Γ = refuse refusal.Mismatch p
judge_head P V d p q xs (means.constructor k) Γ = judge_variant P d p xs (slice_get P.variants k) Γ
judge_head P V d p q xs (means.val i) Γ = head_val p q (slice_get V i)
judge_head P V d p q xs means.unbound Γ = refuse refusal.Unknown q

abbrev pub judge_pattern : Program → List Ty → ℕ → Pattern → Context → Judged (Unit {0})
judge_pattern P V d (wildcard p) Γ = judged tt Γ
judge_pattern P V d (constructor p c xs) Γ = elim (local_named c.bytes Γ) [ Some l ↦ refuse refusal.Mismatch p | None ↦ judge_head P V d p c.place xs (global_of P c.bytes) Γ ]

-- an application's head: the constructor that it names, if it does
abbrev pub constructor_at : Option Local → Global → Option ℕ
constructor_at (Some l) g = None
constructor_at None (means.function n) = None
constructor_at None (means.constructor k) = Some k
constructor_at None (means.val i) = None
constructor_at None means.unbound = None

abbrev pub head_constructor : Program → Expr → Context → Option ℕ
head_constructor P (tree.integer p z) Γ = None
head_constructor P (tree.symbol p w) Γ = None
head_constructor P (tree.boolean p b) Γ = None
head_constructor P (tree.unit p) Γ = None
head_constructor P (tree.name p w) Γ = constructor_at (local_named w Γ) (global_of P w)
head_constructor P (tree.if_expr p a b c) Γ = None
head_constructor P (tree.begin_expr p e es) Γ = None
head_constructor P (tree.let_expr p bs e) Γ = None
head_constructor P (tree.case_expr p e bs) Γ = None
head_constructor P (tree.dup_expr p x) Γ = None
head_constructor P (tree.apply_expr p e es) Γ = None

-- the value of a constructor applied to arguments of these types, at p
abbrev pub construct : Program → ℕ → Option Variant → Tys → Context → Judged Ty
construct P p None τs Γ = refuse refusal.Mismatch p
construct P p (Some v) τs Γ = need (same_types (types_of P v.fields) τs) p (judged (datum v.datatype) Γ)

-- the value of a function of type σ applied to arguments of these types, at p
abbrev pub call : ℕ → Ty → Tys → Context → Judged Ty
call p int τs Γ = refuse refusal.Mismatch p
call p bool τs Γ = refuse refusal.Mismatch p
call p sym τs Γ = refuse refusal.Mismatch p
call p unit τs Γ = refuse refusal.Mismatch p
call p (datum d) τs Γ = refuse refusal.Mismatch p
call p (function σs σ) τs Γ = need (same_types σs τs) p (judged σ Γ)

-- all types are the first
abbrev pub all_alike : Ty → Tys → Bool
all_alike τ no_types = true
all_alike τ (and_type σ σs) = same_type τ σ && all_alike τ σs

abbrev pub agreed : ℕ → Tys → Context → Judged Ty
agreed p no_types Γ = refuse refusal.Mismatch p
agreed p (and_type τ τs) Γ = need (all_alike τ τs) p (judged τ Γ)

-- the datatype that a case at p tests
abbrev pub tested : {X : Type 0} → ℕ → Ty → (ℕ → Judged X) → Judged X
tested p int next = refuse refusal.Mismatch p
tested p bool next = refuse refusal.Mismatch p
tested p sym next = refuse refusal.Mismatch p
tested p unit next = refuse refusal.Mismatch p
tested p (datum d) next = next d
tested p (function ts t) next = refuse refusal.Mismatch p

module _ (P : Program) (V : List Ty) where
  abbrev mutual
    pub judge : Expr → Context → Judged Ty
    judge (tree.integer p z) Γ = judged int Γ
    judge (tree.symbol p w) Γ = judged sym Γ
    judge (tree.boolean p b) Γ = judged bool Γ
    judge (tree.unit p) Γ = judged unit Γ
    judge (tree.name p w) Γ = judge_name P V p w Γ
    judge (tree.if_expr p a b c) Γ =
        and_then (judge a Γ) (λ τ Γ₁. need (same_type τ bool) p
        (and_then (judge b Γ₁) (λ σ Γ₂. and_then (judge c Γ₁) (λ ρ Γ₃. need (same_type σ ρ) p (judged σ (join Γ₂ Γ₃))))))
    judge (tree.begin_expr p e es) Γ = and_then (judge e Γ) (λ τ Γ₁. judge_row τ es Γ₁)
    judge (tree.let_expr p bs e) Γ = and_then (judge_bindings bs Γ) (λ u Γ₁. and_then (judge e Γ₁) (λ τ Γ₂. judged τ (drop (binding_count bs) Γ₂)))
    judge (tree.case_expr p e bs) Γ = and_then (judge e Γ) (λ τ Γ₁. tested p τ (λ d. and_then (judge_branches d bs Γ₁) (λ τs Γ₂. agreed p τs Γ₂)))
    judge (tree.dup_expr p x) Γ = judge_dup P V p x Γ
    judge (tree.apply_expr p e es) Γ = elim (head_constructor P e Γ) [
      | Some k ↦ and_then (judge_each es Γ) (λ τs Γ₁. construct P p (slice_get P.variants k) τs Γ₁)
      | None ↦ and_then (judge e Γ) (λ σ Γ₁. and_then (judge_each es Γ₁) (λ τs Γ₂. call p σ τs Γ₂))
    ]

    -- the further parts of a begin, behind one of type σ; the type is that of the last
    pub judge_row : Ty → Exprs → Context → Judged Ty
    judge_row σ no_exprs Γ = judged σ Γ
    judge_row σ (and_expr e es) Γ = and_then (judge e Γ) (λ τ Γ₁. judge_row τ es Γ₁)

    pub judge_each : Exprs → Context → Judged Tys
    judge_each no_exprs Γ = judged no_types Γ
    judge_each (and_expr e es) Γ = and_then (judge e Γ) (λ τ Γ₁. and_then (judge_each es Γ₁) (λ τs Γ₂. judged (and_type τ τs) Γ₂))

    pub judge_bindings : Bindings → Context → Judged (Unit {0})
    judge_bindings no_bindings Γ = judged tt Γ
    judge_bindings (and_binding p x e bs) Γ = and_then (judge e Γ) (λ τ Γ₁. bind_name P x τ Γ₁ (judge_bindings bs))

    -- the types of all arms, each arm from the names as the test left them
    pub judge_branches : ℕ → Branches → Context → Judged Tys
    judge_branches d (last_branch p x e) Γ = and_then (judge_pattern P V d x Γ) (λ u Γ₁. and_then (judge e Γ₁) (λ τ Γ₂. judged (and_type τ no_types) (drop (pattern_names x) Γ₂)))
    judge_branches d (and_branch p x e bs) Γ =
        and_then (judge_pattern P V d x Γ) (λ u Γ₁. and_then (judge e Γ₁) (λ τ Γ₂.
        and_then (judge_branches d bs Γ) (λ τs Γ₃. judged (and_type τ τs) (join (drop (pattern_names x) Γ₂) Γ₃))))
