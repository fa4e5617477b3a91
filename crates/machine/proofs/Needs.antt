-- What a step of the rules needs, and what it comes to with and without it.
use Rattle.std.proofs.Common.{◌≡◌, ℕ, ◌+◌, ◌<◌, ◌≤◌, ◌⊎◌, inl, inr, Bool, true, false, ltb, leb, List, [], ◌∷◌, length, None, refl}
use Rattle.std.proofs.lemmas.Bool.{lt-ltb, le-ltb, le-leb, lt-leb}
use Rattle.data.specs.Trees.{Tree, built, Trees, size}
use Rattle.grammar.specs.Trees.{Expr}
use Rattle.program.specs.Programs.{Program, Name}
use Rattle.rules.specs.declared.fault.FaultKind.{FaultKind}
use Rattle.rules.specs.declared.fault.FaultKind.TheVariants.{StackFull, TooFewCells}
use Rattle.rules.specs.States.{Environment, Frame, Account, State, st, enter, finished, takes, environment_size, saved_size, saved_count}
use Rattle.rules.specs.Steps.{Outcome, goes, fails, stuck, Sizes, needs, got, consumed, took, waits, finish, has_cells, has_entries, build, enter_name, dup_entered}

-- with what is needed a step is what it is
pub met : (kind : FaultKind) (b : Bool) (o : Outcome) → b ≡ true → needs kind b o ≡ o
met kind true (goes bytes s) e = refl
met kind true (fails k f) e = refl
met kind true stuck e = refl
met kind false o e = cc

-- without it a step that goes on faults
pub unmet : (kind : FaultKind) (b : Bool) (bytes : List ℕ) (s : State) → b ≡ false → needs kind b (goes bytes s) ≡ fails kind None
unmet kind false bytes s e = refl
unmet kind true bytes s e = cc

-- without it, whatever the step would be
pub unmet_any : (kind : FaultKind) (b : Bool) (o : Outcome) → b ≡ false → (needs kind b o ≡ stuck) ⊎ (needs kind b o ≡ fails kind None)
unmet_any kind false (goes bytes s) e = inr refl
unmet_any kind false (fails k f) e = inr refl
unmet_any kind false stuck e = inl refl
unmet_any kind true o e = absurd (cc)

module _ (P : Program) (Z : Sizes) (f : Frame) (e : Expr) (K : List Frame) (env : Environment) (a : Account) where
  pub waits_fit : length K < Z.frames → waits P Z f e K env a ≡ goes [] (st (f ∷ K) env (enter e) a)
  unfolding waits
  waits_fit h = met StackFull (ltb (length K) Z.frames) (goes [] (st (f ∷ K) env (enter e) a)) (lt-ltb _ _ h)

  pub waits_full : Z.frames ≤ length K → waits P Z f e K env a ≡ fails StackFull None
  unfolding waits
  waits_full h = unmet StackFull (ltb (length K) Z.frames) [] (st (f ∷ K) env (enter e) a) (le-ltb _ _ h)

module _ (P : Program) (Z : Sizes) (K : List Frame) (env : Environment) (a : Account) where
  -- a value is finished
  pub finishes : (t : Tree) → finish P Z t K env a ≡ goes [] (st K env (finished t) a)
  unfolding finish
  finishes t = refl

  pub name_got : (p : ℕ) (w : Name) (t : Tree) (after : Environment) → enter_name P Z p w K env a (got t after) ≡ goes [] (st K after (finished t) a)
  unfolding enter_name finish
  name_got p w t after = refl

  pub name_consumed : (p : ℕ) (w : Name) → enter_name P Z p w K env a consumed ≡ stuck
  unfolding enter_name
  name_consumed p w = refl

  pub dup_fits : (t : Tree) (after : Environment) → size t + (saved_size K + environment_size env) ≤ Z.cells → dup_entered P Z K env a (got t after) ≡ goes [] (st K env (finished t) (takes (size t) a))
  unfolding dup_entered has_cells finish
  dup_fits t after h = met TooFewCells (leb (size t + (saved_size K + environment_size env)) Z.cells) (goes [] (st K env (finished t) (takes (size t) a))) (le-leb _ _ h)

  pub dup_lacks : (t : Tree) (after : Environment) → Z.cells < size t + (saved_size K + environment_size env) → dup_entered P Z K env a (got t after) ≡ fails TooFewCells None
  unfolding dup_entered has_cells finish
  dup_lacks t after h = unmet TooFewCells (leb (size t + (saved_size K + environment_size env)) Z.cells) [] (st K env (finished t) (takes (size t) a)) (lt-leb _ _ h)

  pub dup_consumed : dup_entered P Z K env a consumed ≡ stuck
  unfolding dup_entered
  dup_consumed = refl

  -- data is built, with a free cell and without
  pub build_fits : (c : ℕ) (vs : Trees) (after : Environment) → 1 + (saved_size K + environment_size env) ≤ Z.cells → build P Z c K env a (took vs after) ≡ goes [] (st K after (finished (built c vs)) (takes 1 a))
  unfolding build has_cells finish
  build_fits c vs after h = met TooFewCells (leb (1 + (saved_size K + environment_size env)) Z.cells) (goes [] (st K after (finished (built c vs)) (takes 1 a))) (le-leb _ _ h)

  pub build_lacks : (c : ℕ) (vs : Trees) (after : Environment) → Z.cells < 1 + (saved_size K + environment_size env) → build P Z c K env a (took vs after) ≡ fails TooFewCells None
  unfolding build has_cells finish
  build_lacks c vs after h = unmet TooFewCells (leb (1 + (saved_size K + environment_size env)) Z.cells) [] (st K after (finished (built c vs)) (takes 1 a)) (lt-leb _ _ h)

  -- entries, with room and without
  pub entries_fit : (n : ℕ) (o : Outcome) → n + (length env + saved_count K) ≤ Z.entries → needs StackFull (has_entries P Z n K env) o ≡ o
  unfolding has_entries
  entries_fit n o h = met StackFull (leb (n + (length env + saved_count K)) Z.entries) o (le-leb _ _ h)

  pub entries_lack : (n : ℕ) (bytes : List ℕ) (s : State) → Z.entries < n + (length env + saved_count K) → needs StackFull (has_entries P Z n K env) (goes bytes s) ≡ fails StackFull None
  unfolding has_entries
  entries_lack n bytes s h = unmet StackFull (leb (n + (length env + saved_count K)) Z.entries) bytes s (lt-leb _ _ h)

  pub no_entries : (n : ℕ) (o : Outcome) → Z.entries < n + (length env + saved_count K) → (needs StackFull (has_entries P Z n K env) o ≡ stuck) ⊎ (needs StackFull (has_entries P Z n K env) o ≡ fails StackFull None)
  unfolding has_entries
  no_entries n o h = unmet_any StackFull (leb (n + (length env + saved_count K)) Z.entries) o (lt-leb _ _ h)
