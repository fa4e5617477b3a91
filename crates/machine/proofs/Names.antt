-- What a name finds among the entries.
use Rattle.std.proofs.Common.{◌≡◌, ℕ, zero, suc, ◌+◌, Bool, true, false, cond, List, [], ◌∷◌, ◌++◌, map, set, Some, None, Option, sym, refl, ap, ◌∙◌, subst, arith}
use Rattle.std.specs.List.{slice_get}
use Rattle.std.specs.Str.{bytes_eq}
use Rattle.std.proofs.Common.{option_map}
use Rattle.std.proofs.lemmas.Option.{slice_get-map}
use Rattle.cells.specs.declared.values.Value.{Value}
use Rattle.data.specs.Trees.{Tree, int, bool, symbol, unit, function, built}
use Rattle.machine.specs.Holding.{names, is_full, holds, full_value}
use Rattle.machine.specs.Holding.{Slot}
use Rattle.program.specs.Programs.{Name}
use Rattle.program.specs.Scopes.{distance, further}
use Rattle.rules.specs.States.{Entry, full, empty, argument, Environment}
use Rattle.rules.specs.Steps.{Looked, got, consumed, absent, left, behind, look}

-- the entry at a depth is looked at
pub data Seen (env : Environment) (d : ℕ) : Looked → Type 0 where
  seen : {x : Name} {t : Tree} {after : Environment} → slice_get env d ≡ Some (full x t) → after ≡ set env d (left x t) → Seen env d (got t after)
  seen_empty : {x : Name} → slice_get env d ≡ Some (empty x) → Seen env d consumed

-- one deeper
deeper : (s : Entry) {env : Environment} {d : ℕ} {l : Looked} → Seen env d l → Seen (s ∷ env) (suc d) (behind s l)
deeper s (seen g e) = seen g (ap (λ q. s ∷ q) e)
deeper s (seen_empty g) = seen_empty g

further_some : (o : Option ℕ) (d : ℕ) → further o ≡ Some d → (k : ℕ) × (o ≡ Some k) × (d ≡ suc k)
further_some None d e = absurd (cc)
further_some (Some k) d e = let is : 1 + k ≡ d = cc in (k, refl, omega arith)

beyond : (s : Entry) (env : Environment) (o : Option ℕ) (d : ℕ) (l : Looked) → further o ≡ Some d → ((k : ℕ) → o ≡ Some k → Seen env k l) → Seen (s ∷ env) d (behind s l)
beyond s env o d l e next = let f = further_some o d e in subst (λ d. Seen (s ∷ env) d (behind s l)) (sym f.2) (deeper s (next f.0 f.1))

here_or : (b : Bool) (s : Entry) (env : Environment) (o : Option ℕ) (d : ℕ) (h l : Looked) → cond b (Some 0) (further o) ≡ Some d → Seen (s ∷ env) 0 h → ((k : ℕ) → o ≡ Some k → Seen env k l)
    → Seen (s ∷ env) d (cond b h (behind s l))
here_or true s env o d h l e found next = let is : 0 ≡ d = cc in subst (λ d. Seen (s ∷ env) d h) is found
here_or false s env o d h l e found next = beyond s env o d l e next

-- a name that lies at a distance is found there
pub looked : (w : Name) (env : Environment) (d : ℕ) → distance w (names env) ≡ Some d → Seen env d (look w env)
looked w [] d e = absurd (cc)
looked w (full x t ∷ env) d e = here_or (bytes_eq w x) (full x t) env (distance w (names env)) d _ _ e (seen refl refl) (looked w env)
looked w (empty x ∷ env) d e = here_or (bytes_eq w x) (empty x) env (distance w (names env)) d _ _ e (seen_empty refl) (looked w env)
looked w (argument t ∷ env) d e = beyond (argument t) env (distance w (names env)) d (look w env) e (looked w env)

pub seen_there : {env : Environment} {d : ℕ} {l : Looked} → Seen env d l → l ≡ absent → ⊥
seen_there (seen g e) h = cc
seen_there (seen_empty g) h = cc

further_none : (o : Option ℕ) → further o ≡ None → o ≡ None
further_none None e = refl
further_none (Some k) e = absurd (cc)

missed : (b : Bool) (s : Entry) (o : Option ℕ) (h l : Looked) → cond b (Some 0) (further o) ≡ None → (o ≡ None → l ≡ absent) → cond b h (behind s l) ≡ absent
missed true s o h l e next = absurd (cc)
missed false s o h l e next = ap (behind s) (next (further_none o e))

-- a name that is no entry's is not found
pub unseen : (w : Name) (env : Environment) → distance w (names env) ≡ None → look w env ≡ absent
unseen w [] e = refl
unseen w (full x t ∷ env) e = missed (bytes_eq w x) (full x t) (distance w (names env)) _ _ e (unseen w env)
unseen w (empty x ∷ env) e = missed (bytes_eq w x) (empty x) (distance w (names env)) _ _ e (unseen w env)
unseen w (argument t ∷ env) e = ap (behind (argument t)) (unseen w env (further_none _ e))

left_name : (x : Name) (t : Tree) (env : Environment) → names (left x t ∷ env) ≡ Some x ∷ names env
left_name x (int z) env = refl
left_name x (bool b) env = refl
left_name x (symbol n) env = refl
left_name x unit env = refl
left_name x (function n) env = refl
left_name x (built c vs) env = refl

same_names : (s : Entry) (env env' : Environment) → names env ≡ names env' → names (s ∷ env) ≡ names (s ∷ env')
same_names (full x t) env env' e = ap (λ q. Some x ∷ q) e
same_names (empty x) env env' e = ap (λ q. Some x ∷ q) e
same_names (argument t) env env' e = ap (λ q. None ∷ q) e

-- a name that was read keeps its place
pub left_names : (env : Environment) (d : ℕ) (x : Name) (t : Tree) → slice_get env d ≡ Some (full x t) → names (set env d (left x t)) ≡ names env
left_names [] d x t g = absurd (cc)
left_names (s ∷ env) zero x t g = let is : full x t ≡ s = cc in left_name x t env ∙ ap (λ s. names (s ∷ env)) is
left_names (s ∷ env) (suc d) x t g = same_names s _ _ (left_names env d x t g)

pub front_get : (env es : Environment) (d : ℕ) (s : Entry) → slice_get env d ≡ Some s → slice_get (env ++ es) d ≡ Some s
front_get [] es d s g = absurd (cc)
front_get (e ∷ env) es zero s g = g
front_get (e ∷ env) es (suc d) s g = front_get env es d s g

pub front_set : (env es : Environment) (d : ℕ) (s e : Entry) → slice_get env d ≡ Some e → set (env ++ es) d s ≡ set env d s ++ es
front_set [] es d s e g = absurd (cc)
front_set (x ∷ env) es zero s e g = refl
front_set (x ∷ env) es (suc d) s e g = ap (λ q. x ∷ q) (front_set env es d s e g)

-- slots and entries are full at the same depths
pub same_full : (ss : List Slot) (es : Environment) (d : ℕ) → map is_full ss ≡ map holds es → option_map is_full (slice_get ss d) ≡ option_map holds (slice_get es d)
same_full ss es d f = sym (slice_get-map is_full ss d) ∙ ap (λ q. slice_get q d) f ∙ slice_get-map holds es d

-- the slot at a name's depth is full, and so is the name
pub record Found (ss : List Slot) (env es : Environment) (d : ℕ) (v : Value) (l : Looked) : Type 0 where
  pub name : Name
  pub tree : Tree
  pub slot : slice_get ss d ≡ Some (Some v)
  pub entry : slice_get env d ≡ Some (full name tree)
  pub is : l ≡ got tree (set env d (left name tree))

full_value_law : (o : Option Slot) (v : Value) → full_value o ≡ Some v → o ≡ Some (Some v)
full_value_law None v e = absurd (cc)
full_value_law (Some (Some u)) v e = cc
full_value_law (Some None) v e = absurd (cc)

without_value : (o : Option Slot) → full_value o ≡ None → option_map is_full o ≡ Some true → ⊥
without_value None e h = cc
without_value (Some (Some v)) e h = cc
without_value (Some None) e h = cc

found_seen : (ss : List Slot) (env es : Environment) (d : ℕ) {v : Value} {l : Looked} → map is_full ss ≡ map holds (env ++ es) → Seen env d l → full_value (slice_get ss d) ≡ Some v → Found ss env es d v l
found_seen ss env es d {v} f (seen {x} {t} g e) h = record { name = x; tree = t; slot = full_value_law _ v h; entry = g; is = ap (got t) e }
found_seen ss env es d {v} f (seen_empty {x} g) h =
    let slot = full_value_law (slice_get ss d) v h in
    let both = same_full ss (env ++ es) d f in
    let entry = front_get env es d (empty x) g in
    let is : Some true ≡ Some false = ap (option_map is_full) (sym slot) ∙ both ∙ ap (option_map holds) entry in
    absurd (cc)

lost_seen : (ss : List Slot) (env es : Environment) (d : ℕ) {l : Looked} → map is_full ss ≡ map holds (env ++ es) → Seen env d l → full_value (slice_get ss d) ≡ None → l ≡ consumed
lost_seen ss env es d f (seen {x} {t} g e) h =
    absurd (without_value (slice_get ss d) h (same_full ss (env ++ es) d f ∙ ap (option_map holds) (front_get env es d (full x t) g)))
lost_seen ss env es d f (seen_empty g) h = refl

pub found : (w : Name) (ss : List Slot) (env es : Environment) (d : ℕ) {v : Value} → map is_full ss ≡ map holds (env ++ es) → distance w (names env) ≡ Some d → full_value (slice_get ss d) ≡ Some v → Found ss env es d v (look w env)
found w ss env es d f e h = found_seen ss env es d f (looked w env d e) h

pub lost : (w : Name) (ss : List Slot) (env es : Environment) (d : ℕ) → map is_full ss ≡ map holds (env ++ es) → distance w (names env) ≡ Some d → full_value (slice_get ss d) ≡ None → look w env ≡ consumed
lost w ss env es d f e h = lost_seen ss env es d f (looked w env d e) h
