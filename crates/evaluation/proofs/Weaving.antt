-- The entries of a run are an environment with the arguments that are held in between. Names are found, bound and left alike in both.
use Rattle.std.proofs.Common.{◌≡◌, ℕ, zero, suc, ◌+◌, ◌≤◌, Bool, true, false, cond, List, [], ◌∷◌, length, Some, None, Option, sym, refl, ap, ◌∙◌, arith}
use Rattle.std.specs.Str.{bytes_eq}
use Rattle.data.specs.Trees.{Tree, Trees, none, more, size}
use Rattle.grammar.specs.Trees.{PatternPart, bound, skipped}
use Rattle.program.specs.Programs.{Name}
use Rattle.program.specs.Scopes.{names_inside}
use Rattle.rules.specs.States.{Entry, full, empty, argument, Environment}
use Rattle.rules.specs.Steps.{Looked, got, consumed, absent, left, behind, look, took, more_by_one, take_arguments, Bound, binds, unfit, giving, bind_parts, leave_names}

-- Where arguments lie: none for a name, an argument by its value. Behind its end lie names alone.
abbrev pub Shape : Type 0
Shape = List (Option Tree)

abbrev pub woven : Shape → Environment → Environment
woven [] ρ = ρ
woven (Some v ∷ s) ρ = argument v ∷ woven s ρ
woven (None ∷ s) [] = []
woven (None ∷ s) (x ∷ ρ) = x ∷ woven s ρ

-- n names in front
abbrev pub names : ℕ → Shape → Shape
names zero s = s
names (suc n) s = None ∷ names n s

-- arguments in front, the first of them below the others
abbrev pub hold : Trees → Shape → Shape
hold none s = s
hold (more v vs) s = hold vs (Some v ∷ s)

pub names_more : (n : ℕ) (s : Shape) → names n (None ∷ s) ≡ names (suc n) s
names_more zero s = refl
names_more (suc n) s = ap (λ (t : Shape). None ∷ t) (names_more n s)

pub woven_length : (s : Shape) (ρ : Environment) → length (woven s ρ) ≤ length s + length ρ
woven_length [] ρ = omega arith
woven_length (Some v ∷ s) ρ = omega (arith, woven_length s ρ)
woven_length (None ∷ s) [] = omega arith
woven_length (None ∷ s) (x ∷ ρ) = omega (arith, woven_length s ρ)

pub names_length : (n : ℕ) (s : Shape) → length (names n s) ≡ n + length s
names_length zero s = omega arith
names_length (suc n) s = omega (arith, names_length n s)

-- a name is found in the same way
abbrev pub woven_looked : Shape → Looked → Looked
woven_looked s (got v ρ) = got v (woven s ρ)
woven_looked s consumed = consumed
woven_looked s absent = absent

looked_bare : (l : Looked) → woven_looked [] l ≡ l
looked_bare (got v ρ) = refl
looked_bare consumed = refl
looked_bare absent = refl

looked_argument : (v : Tree) (s : Shape) (l : Looked) → behind (argument v) (woven_looked s l) ≡ woven_looked (Some v ∷ s) l
looked_argument v s (got w ρ) = refl
looked_argument v s consumed = refl
looked_argument v s absent = refl

looked_entry : (x : Entry) (s : Shape) (l : Looked) → behind x (woven_looked s l) ≡ woven_looked (None ∷ s) (behind x l)
looked_entry x s (got w ρ) = refl
looked_entry x s consumed = refl
looked_entry x s absent = refl

looked_if : (b : Bool) (s : Shape) {x y : Looked} (x' y' : Looked) → x ≡ woven_looked s x' → y ≡ woven_looked s y' → cond b x y ≡ woven_looked s (cond b x' y')
looked_if true s x' y' e f = e
looked_if false s x' y' e f = f

pub look_woven : (w : Name) (s : Shape) (ρ : Environment) → look w (woven s ρ) ≡ woven_looked s (look w ρ)
look_woven w [] ρ = sym (looked_bare (look w ρ))
look_woven w (Some v ∷ s) ρ = ap (behind (argument v)) (look_woven w s ρ) ∙ looked_argument v s (look w ρ)
look_woven w (None ∷ s) [] = refl
look_woven w (None ∷ s) (full x v ∷ ρ) = looked_if (bytes_eq w x) (None ∷ s) (got v (left x v ∷ ρ)) (behind (full x v) (look w ρ)) refl (ap (behind (full x v)) (look_woven w s ρ) ∙ looked_entry (full x v) s (look w ρ))
look_woven w (None ∷ s) (empty x ∷ ρ) = looked_if (bytes_eq w x) (None ∷ s) consumed (behind (empty x) (look w ρ)) refl (ap (behind (empty x)) (look_woven w s ρ) ∙ looked_entry (empty x) s (look w ρ))
look_woven w (None ∷ s) (argument v ∷ ρ) = ap (behind (argument v)) (look_woven w s ρ) ∙ looked_entry (argument v) s (look w ρ)

-- names are bound and leave in the same way
abbrev pub woven_bound : Shape → Bound → Bound
woven_bound s (binds ρ m) = binds (woven s ρ) m
woven_bound s unfit = unfit

bound_giving : (s : Shape) (n : ℕ) (b : Bound) → giving n (woven_bound s b) ≡ woven_bound s (giving n b)
bound_giving s n (binds ρ m) = refl
bound_giving s n unfit = refl

pub bind_woven : (n : ℕ) (xs : List PatternPart) (vs : Trees) (s : Shape) (ρ : Environment) → names_inside xs ≡ n → bind_parts xs vs (woven s ρ) ≡ woven_bound (names n s) (bind_parts xs vs ρ)
bind_woven zero [] none s ρ e = refl
bind_woven (suc n) [] none s ρ e = absurd (omega arith)
bind_woven n [] (more v vs) s ρ e = refl
bind_woven n (bound x ∷ xs) none s ρ e = refl
bind_woven n (skipped p ∷ xs) none s ρ e = refl
bind_woven zero (bound x ∷ xs) (more v vs) s ρ e = absurd (omega arith)
bind_woven (suc n) (bound x ∷ xs) (more v vs) s ρ e =
    bind_woven n xs vs (None ∷ s) (full x.bytes v ∷ ρ) (omega arith) ∙ ap (λ (t : Shape). woven_bound t (bind_parts xs vs (full x.bytes v ∷ ρ))) (names_more n s)
bind_woven n (skipped p ∷ xs) (more v vs) s ρ e = ap (giving (size v)) (bind_woven n xs vs s ρ e) ∙ bound_giving (names n s) (size v) (bind_parts xs vs ρ)

pub leave_woven : (n : ℕ) (s : Shape) (ρ : Environment) → leave_names n (woven (names n s) ρ) ≡ woven_bound s (leave_names n ρ)
leave_woven zero s ρ = refl
leave_woven (suc n) s [] = refl
leave_woven (suc n) s (full x v ∷ ρ) = ap (giving (size v)) (leave_woven n s ρ) ∙ bound_giving s (size v) (leave_names n ρ)
leave_woven (suc n) s (empty x ∷ ρ) = leave_woven n s ρ
leave_woven (suc n) s (argument v ∷ ρ) = refl

-- arguments that are held are taken off in their order
abbrev pub counted : Trees → ℕ
counted none = 0
counted (more v vs) = 1 + counted vs

pub take_held : (k : ℕ) (vs : Trees) (s : Shape) (ρ : Environment) → k ≡ counted vs → take_arguments k (woven (hold vs s) ρ) ≡ took vs (woven s ρ)
take_held zero none s ρ e = refl
take_held (suc k) none s ρ e = absurd (omega arith)
take_held zero (more v vs) s ρ e = absurd (omega arith)
take_held (suc k) (more v vs) s ρ e = ap more_by_one (take_held k vs (Some v ∷ s) ρ (omega arith))
