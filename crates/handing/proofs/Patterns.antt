-- The fields that a pattern binds, as bits.
use Rattle.std.proofs.Common.{◌≡◌, ℕ, ◌+◌, ◌/◌, ◌%◌, List, [], ◌∷◌, ◌++◌, drop, Some, sym, refl, ap, ◌∙◌, subst, arith}
use Rattle.std.proofs.lemmas.List.{drop-drop}
use lib.Count.{ones, ones_step, ones-le}
use Rattle.data.specs.Trees.{Trees, none, more, size}
use Rattle.grammar.specs.Trees.{PatternPart, bound, skipped}
use Rattle.machine.specs.Holding.{names}
use Rattle.program.specs.Scopes.{Scope, bind_scope, bits, names_inside}
use Rattle.rules.specs.States.{full, Environment}
use Rattle.rules.specs.Steps.{Bound, binds, unfit, giving, bind_parts}

-- the lowest bit, and the others
pub lowest_bound : (n : ℕ) → ((1 + (n + n)) % 2 ≡ 1) × ((1 + (n + n)) / 2 ≡ n)
lowest_bound n = omega arith

pub lowest_skipped : (n : ℕ) → ((n + n) % 2 ≡ 0) × ((n + n) / 2 ≡ n)
lowest_skipped n = omega arith

-- each name is a bit that is set
pub names_counted : (xs : List PatternPart) → ones (bits xs) ≡ names_inside xs
names_counted [] = omega (arith, ones-le 0 0 (omega arith))
names_counted (bound x ∷ xs) = let l = lowest_bound (bits xs) in omega (arith, ones_step (1 + (bits xs + bits xs)), ap ones l.1, l.0, names_counted xs)
names_counted (skipped p ∷ xs) = let l = lowest_skipped (bits xs) in omega (arith, ones_step (bits xs + bits xs), ap ones l.1, l.0, names_counted xs)

-- the entries below the names of a pattern
pub scope_below : (xs : List PatternPart) (G : Scope) → drop (names_inside xs) (bind_scope xs G) ≡ G
scope_below [] G = refl
scope_below (bound x ∷ xs) G =
    let e : names_inside xs + 1 ≡ 1 + names_inside xs = omega arith in
    subst (λ n. drop n (bind_scope xs (Some x.bytes ∷ G)) ≡ G) e (sym (drop-drop 1 (names_inside xs) (bind_scope xs (Some x.bytes ∷ G))) ∙ ap (drop 1) (scope_below xs (Some x.bytes ∷ G)))
scope_below (skipped p ∷ xs) G = scope_below xs G

-- further entries below change nothing
abbrev over : Environment → Bound → Bound
over es (binds env n) = binds (env ++ es) n
over es unfit = unfit

giving_over : (es : Environment) (n : ℕ) (b : Bound) → giving n (over es b) ≡ over es (giving n b)
giving_over es n (binds env k) = refl
giving_over es n unfit = refl

parts_over : (xs : List PatternPart) (vs : Trees) (env es : Environment) → bind_parts xs vs (env ++ es) ≡ over es (bind_parts xs vs env)
parts_over [] none env es = refl
parts_over [] (more v vs) env es = refl
parts_over (x ∷ xs) none env es = refl
parts_over (bound x ∷ xs) (more v vs) env es = parts_over xs vs (full x.bytes v ∷ env) es
parts_over (skipped p ∷ xs) (more v vs) env es = ap (giving (size v)) (parts_over xs vs env es) ∙ giving_over es (size v) (bind_parts xs vs env)

pub bound_over : (xs : List PatternPart) (vs : Trees) (env es : Environment) {after : Environment} {n : ℕ} → bind_parts xs vs env ≡ binds after n → bind_parts xs vs (env ++ es) ≡ binds (after ++ es) n
bound_over xs vs env es e = parts_over xs vs env es ∙ ap (over es) e

-- their names
abbrev NamesAre : Scope → Bound → Type 0
NamesAre G (binds env n) = names env ≡ G
NamesAre G unfit = Unit {0}

giving_names : (G : Scope) (n : ℕ) (b : Bound) → NamesAre G b → NamesAre G (giving n b)
giving_names G n (binds env k) h = h
giving_names G n unfit h = h

parts_names : (xs : List PatternPart) (vs : Trees) (env : Environment) → NamesAre (bind_scope xs (names env)) (bind_parts xs vs env)
parts_names [] none env = refl
parts_names [] (more v vs) env = tt
parts_names (x ∷ xs) none env = tt
parts_names (bound x ∷ xs) (more v vs) env = parts_names xs vs (full x.bytes v ∷ env)
parts_names (skipped p ∷ xs) (more v vs) env = giving_names (bind_scope xs (names env)) (size v) (bind_parts xs vs env) (parts_names xs vs env)

pub bound_names : (xs : List PatternPart) (vs : Trees) (env : Environment) {after : Environment} {n : ℕ} → bind_parts xs vs env ≡ binds after n → names after ≡ bind_scope xs (names env)
bound_names xs vs env e = subst (NamesAre (bind_scope xs (names env))) e (parts_names xs vs env)
