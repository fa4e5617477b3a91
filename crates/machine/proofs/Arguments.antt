-- Arguments held for an application, and what becomes of them.
use Rattle.std.proofs.Common.{◌≡◌, ℕ, zero, suc, ◌+◌, Bool, true, false, ltb, ◌⊎◌, inl, inr, ⊎_elim, List, [], ◌∷◌, ◌++◌, map, length, get_or, reverse, take, drop, ◌<◌, ◌≤◌, Some, None, sym, refl, ap, ◌∙◌, subst, arith}
use Rattle.std.proofs.Math.Seq.{drop-cons}
use Rattle.std.proofs.lemmas.Bool.{ltb-true, ltb-false}
use Rattle.std.proofs.lemmas.List.{drop-drop, map-append, take_more, reverse-append, length-reverse, length-take-le}
use Rattle.std.specs.List.{slice_get}
use Rattle.cells.specs.Meaning.{Cells}
use Rattle.cells.specs.declared.values.Value.{Value}
use Rattle.cells.specs.declared.values.Value.TheVariants.{Unit as Nothing}
use Rattle.data.proofs.Moves.{pull}
use Rattle.data.proofs.Outs.{join, tally, out_tally}
use Rattle.data.specs.Taking.{Out}
use Rattle.data.specs.Trees.{Tree, Trees, none, more}
use Rattle.grammar.specs.Trees.{Ident, bound}
use Rattle.machine.proofs.Cells.{row_append}
use Rattle.machine.specs.Holding.{holds, trees_in, names}
use Rattle.program.specs.Scopes.{Scope, bind_scope}
use Rattle.rules.specs.States.{full, empty, argument, Environment}
use Rattle.rules.specs.Steps.{Taken, took, short, more_by_one, take_arguments, Bound, binds, unfit, bind_parts}

-- arguments on top of entries, the first of them below the others
abbrev pub onto : Trees → Environment → Environment
onto none env = env
onto (more t ts) env = onto ts (argument t ∷ env)

-- the newest arguments are taken off
pub data Takes (k : ℕ) (E : Environment) : Taken → Type 0 where
  takes : {ts : Trees} {env : Environment} → E ≡ onto ts env → tally ts ≡ k → Takes k E (took ts env)
  takes_short : Takes k E short

takes_more : {k : ℕ} {E : Environment} {t : Taken} → Takes k E t → Takes (suc k) E (more_by_one t)
takes_more (takes {env = []} e n) = takes_short
takes_more (takes {env = full x t ∷ env} e n) = takes_short
takes_more (takes {env = empty x ∷ env} e n) = takes_short
takes_more (takes {env = argument t ∷ env} e n) = takes e (omega arith)
takes_more takes_short = takes_short

pub taken : (k : ℕ) (E : Environment) → Takes k E (take_arguments k E)
taken zero E = takes refl refl
taken (suc k) E = takes_more (taken k E)

abbrev nones : Trees → Scope → Scope
nones none G = G
nones (more t ts) G = nones ts (None ∷ G)

nones_names : (ts : Trees) (env : Environment) → names (onto ts env) ≡ nones ts (names env)
nones_names none env = refl
nones_names (more t ts) env = nones_names ts (argument t ∷ env)

nones_drop : (ts : Trees) (G : Scope) → drop (tally ts) (nones ts G) ≡ G
nones_drop none G = refl
nones_drop (more t ts) G =
    let e : tally ts + 1 ≡ 1 + tally ts = omega arith in
    subst (λ n. drop n (nones ts (None ∷ G)) ≡ G) e (sym (drop-drop 1 (tally ts) (nones ts (None ∷ G))) ∙ ap (drop 1) (nones_drop ts (None ∷ G)))

-- the names below the arguments
pub names_onto : (ts : Trees) (env : Environment) → drop (tally ts) (names (onto ts env)) ≡ names env
names_onto ts env = ap (drop (tally ts)) (nones_names ts env) ∙ nones_drop ts (names env)

pub onto_append : (ts : Trees) (env es : Environment) → onto ts env ++ es ≡ onto ts (env ++ es)
onto_append none env es = refl
onto_append (more t ts) env es = onto_append ts (argument t ∷ env) es

-- names bound to a row of values hold what the arguments held
pub data Binds (xs : List Ident) (ts : Trees) (before env : Environment) : Bound → Type 0 where
  binds_to : {after : Environment} {m : ℕ} → m ≡ 0 → trees_in after ≡ trees_in (onto ts before) → map holds after ≡ map holds (onto ts before)
      → names after ≡ bind_scope (map bound xs) (names env) → length xs ≡ tally ts → Binds xs ts before env (binds after m)
  binds_unfit : Binds xs ts before env unfit

binds_more : {x : Ident} {xs : List Ident} {t : Tree} {ts : Trees} {before env : Environment} {b : Bound} → Binds xs ts (argument t ∷ before) (full x.bytes t ∷ env) b → Binds (x ∷ xs) (more t ts) before env b
binds_more (binds_to z d h n l) = binds_to z d h n (omega arith)
binds_more binds_unfit = binds_unfit

bound_all : (xs : List Ident) (ts : Trees) (before env : Environment) → trees_in env ≡ trees_in before → map holds env ≡ map holds before → Binds xs ts before env (bind_parts (map bound xs) ts env)
bound_all [] none before env d h = binds_to refl d h refl refl
bound_all [] (more t ts) before env d h = binds_unfit
bound_all (x ∷ xs) none before env d h = binds_unfit
bound_all (x ∷ xs) (more t ts) before env d h = binds_more (bound_all xs ts (argument t ∷ before) (full x.bytes t ∷ env) (ap (more t) d) (ap (λ q. true ∷ q) h))

pub bound_from_law : (xs : List Ident) (ts : Trees) → Binds xs ts [] [] (bind_parts (map bound xs) ts [])
bound_from_law xs ts = bound_all xs ts [] [] refl refl

pub length_bound : (xs : List Ident) (G : Scope) → length (bind_scope (map bound xs) G) ≡ length xs + length G
length_bound [] G = omega arith
length_bound (x ∷ xs) G = omega (arith, length_bound xs (Some x.bytes ∷ G))

-- the entries of a call: the function's names, over those of the caller
pub called_trees : (ts : Trees) (after env es : Environment) → trees_in after ≡ trees_in (onto ts []) → trees_in (after ++ (env ++ es)) ≡ trees_in (onto ts env ++ es)
called_trees ts after env es e =
    row_append after (env ++ es) ∙ (ap (λ q. join q (trees_in (env ++ es))) e ∙ (sym (row_append (onto ts []) (env ++ es)) ∙ (ap trees_in (onto_append ts [] (env ++ es)) ∙ ap trees_in (sym (onto_append ts env es)))))

pub called_holds : (ts : Trees) (after env es : Environment) → map holds after ≡ map holds (onto ts []) → map holds (after ++ (env ++ es)) ≡ map holds (onto ts env ++ es)
called_holds ts after env es e =
    map-append holds after (env ++ es) ∙ (ap (λ q. q ++ map holds (env ++ es)) e ∙ (sym (map-append holds (onto ts []) (env ++ es)) ∙ (ap (map holds) (onto_append ts [] (env ++ es)) ∙ ap (map holds) (sym (onto_append ts env es)))))

tally_onto : (ts : Trees) (env : Environment) → tally (trees_in (onto ts env)) ≡ tally ts + tally (trees_in env)
tally_onto none env = omega arith
tally_onto (more t ts) env = omega (arith, tally_onto ts (argument t ∷ env))

-- Values of arguments, the newest first, in the arguments' own order.
pub turned : (ts : Trees) (vs : List Value) (env : Environment) {m m₀ : Cells} → Out m vs (trees_in (onto ts env)) m₀ → Out m (reverse (take (tally ts) vs) ++ drop (tally ts) vs) (join ts (trees_in env)) m₀
turned none vs env o = o
turned (more t ts) vs env {m} {m₀} o =
    let n = tally ts in
    let i = turned ts vs (argument t ∷ env) o in
    let long : n < length vs = omega (arith, out_tally o, tally_onto ts (argument t ∷ env)) in
    let v = get_or vs n Nothing in
    let rest : drop n vs ≡ v ∷ drop (suc n) vs = drop-cons vs n Nothing long in
    let one : n + 1 ≡ 1 + n = omega arith in
    let front : reverse (take (1 + n) vs) ≡ v ∷ reverse (take n vs) = ap (λ k. reverse (take k vs)) (sym one) ∙ (ap reverse (take_more vs n Nothing long) ∙ reverse-append (take n vs) (v ∷ [])) in
    let j : Out m (reverse (take n vs) ++ (v ∷ drop (suc n) vs)) (join ts (more t (trees_in env))) m₀ = subst (λ q. Out m (reverse (take n vs) ++ q) (join ts (more t (trees_in env))) m₀) rest i in
    let count : n ≡ length (reverse (take n vs)) = omega (arith, length-reverse (take n vs), length-take-le n vs (omega arith)) in
    let k : Out m (v ∷ (reverse (take n vs) ++ drop (suc n) vs)) (more t (join ts (trees_in env))) m₀ = pull (reverse (take n vs)) (v ∷ []) (drop (suc n) vs) ts (more t none) (trees_in env) count refl j in
    let same : suc n ≡ 1 + n = omega arith in
    subst (λ q. Out m (q ++ drop (1 + n) vs) (more t (join ts (trees_in env))) m₀) (sym front) (subst (λ i. Out m (v ∷ (reverse (take n vs) ++ drop i vs)) (more t (join ts (trees_in env))) m₀) same k)

below_or : (d n : ℕ) → d < 1 + n → (d < n) ⊎ (n ≡ d)
below_or d n l = elim (ltb d n) as (λ b. ltb d n ≡ b → (d < n) ⊎ (n ≡ d)) [ true ↦ λ e. inl (ltb-true d n e) | false ↦ λ e. let f : n ≤ d = ltb-false d n e in inr (omega arith) ] refl

-- an argument's slot is full
trues : Trees → List Bool → List Bool
trues none bs = bs
trues (more t ts) bs = trues ts (true ∷ bs)

holds_trues : (ts : Trees) (env : Environment) → map holds (onto ts env) ≡ trues ts (map holds env)
unfolding trues
holds_trues none env = refl
holds_trues (more t ts) env = holds_trues ts (argument t ∷ env)

trues_below : (ts : Trees) (bs : List Bool) (d : ℕ) → slice_get (trues ts bs) (tally ts + d) ≡ slice_get bs d
unfolding trues
trues_below none bs d = let e : 0 + d ≡ d = omega arith in ap (slice_get bs) e
trues_below (more t ts) bs d = let e : (1 + tally ts) + d ≡ tally ts + suc d = omega arith in ap (slice_get (trues ts (true ∷ bs))) e ∙ trues_below ts (true ∷ bs) (suc d)

trues_at : (ts : Trees) (bs : List Bool) (d : ℕ) → d < tally ts → slice_get (trues ts bs) d ≡ Some true
unfolding trues
trues_at none bs d l = absurd (omega arith)
trues_at (more t ts) bs d l = ⊎_elim (λ (h : d < tally ts). trues_at ts (true ∷ bs) d h)
    (λ (h : tally ts ≡ d). let e : d ≡ tally ts + 0 = omega arith in ap (slice_get (trues ts (true ∷ bs))) e ∙ trues_below ts (true ∷ bs) 0) (below_or d (tally ts) (omega arith))

pub arguments_hold : (ts : Trees) (env : Environment) (d : ℕ) → d < tally ts → slice_get (map holds (onto ts env)) d ≡ Some true
arguments_hold ts env d l = ap (λ q. slice_get q d) (holds_trues ts env) ∙ trues_at ts (map holds env) d l

trues_drop : (ts : Trees) (bs : List Bool) → drop (tally ts) (trues ts bs) ≡ bs
unfolding trues
trues_drop none bs = refl
trues_drop (more t ts) bs =
    let e : tally ts + 1 ≡ 1 + tally ts = omega arith in
    subst (λ n. drop n (trues ts (true ∷ bs)) ≡ bs) e (sym (drop-drop 1 (tally ts) (trues ts (true ∷ bs))) ∙ ap (drop 1) (trues_drop ts (true ∷ bs)))

-- what lies below the arguments
pub holds_onto : (ts : Trees) (env : Environment) → drop (tally ts) (map holds (onto ts env)) ≡ map holds env
holds_onto ts env = ap (drop (tally ts)) (holds_trues ts env) ∙ trues_drop ts (map holds env)
