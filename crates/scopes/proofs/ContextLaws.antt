-- What looking up, marking, binding, cutting and joining make of the context.
use Rattle.std.proofs.Common.{◌≡◌, ℕ, zero, suc, ◌+◌, ◌<◌, ◌≤◌, ◌⊎◌, inl, inr, Bool, true, false, cond, ◌||◌, List, [], ◌∷◌, length, drop, Some, None, slice_set, sym, refl, ap, ◌∙◌, subst, arith}
use Rattle.std.proofs.lemmas.List.{get_or-set_same, get_or-set_other}
use Rattle.std.proofs.lemmas.Bool.{cases_lt}
use Rattle.std.specs.Prelude.{slice_index_or}
use Rattle.std.specs.Str.{bytes_eq}
use Rattle.scopes.specs.Locals.{no_local, local_in, name_in, Newest, SameBelow, context, KindsBelow}
use Rattle.scopes.specs.declared.local.Local.{Local as LocalCode}
use Rattle.type_rows.specs.Rows.{IsKind}
use Rattle.type_rows.specs.Shapes.{ty}
use Rattle.type_rows.specs.declared.row.Row.{Row}
use Rattle.typing.specs.Contexts.{Local, local, Context, join, local_named, consume}
use Rattle.typing.specs.Types.{Ty}

abbrev marked : List Bool → ℕ → Bool
marked marks k = slice_index_or marks k false

module _ (text : List ℕ) (m : ℕ → Ty) where
  module _ (locals : List LocalCode) (marks : List Bool) where
    pub context_size : (n : ℕ) → length (context text m locals marks n) ≡ n
    context_size zero = refl
    context_size (suc n) = ap suc (context_size n)

    pub context_cut : (k n d : ℕ) → d ≡ k + n → drop k (context text m locals marks d) ≡ context text m locals marks n
    context_cut zero n d e = ap (λ j. context text m locals marks j) (let z : d ≡ n = omega arith in z)
    context_cut (suc k) n zero e = absurd (omega arith)
    context_cut (suc k) n (suc d) e = context_cut k n d (omega arith)

    -- one of them as the judgement has it
    abbrev pub local_of : ℕ → Local
    local_of k = local (name_in text locals k) (ty m (local_in locals k).kind) (marked marks k)

    -- the local that a name is
    pub look_found : (w : List ℕ) (n k : ℕ) → Newest text locals w n k → local_named w (context text m locals marks n) ≡ Some (local_of k)
    look_found w zero k f = absurd (let b = f.below in omega arith)
    look_found w (suc n) k f = go (cases_lt k n) (look_found w n k)
      where
        last : n ≤ k → local_named w (context text m locals marks (suc n)) ≡ Some (local_of k)
        last h =
            let e : n ≡ k = omega (arith, f.below) in
            ap (λ b. cond b (Some (local_of n)) (local_named w (context text m locals marks n))) (ap (λ j. bytes_eq w (name_in text locals j)) e ∙ f.same) ∙ ap (λ j. Some (local_of j)) e

        go : (k < n) ⊎ (n ≤ k) → (Newest text locals w n k → local_named w (context text m locals marks n) ≡ Some (local_of k)) → local_named w (context text m locals marks (suc n)) ≡ Some (local_of k)
        go (inl h) more =
            ap (λ b. cond b (Some (local_of n)) (local_named w (context text m locals marks n))) (f.newer n h (omega arith))
            ∙ more (record { below = h; same = f.same; newer = λ j a b. f.newer j a (omega arith) })
        go (inr h) more = last h

    pub look_none : (w : List ℕ) (n : ℕ) → ((j : ℕ) → j < n → bytes_eq w (name_in text locals j) ≡ false) → local_named w (context text m locals marks n) ≡ None
    look_none w zero f = refl
    look_none w (suc n) f = ap (λ b. cond b (Some (local_of n)) (local_named w (context text m locals marks n))) (f n (omega arith)) ∙ look_none w n (λ j h. f j (omega arith))

  -- the same names, types and marks
  pub context_same : (locals after : List LocalCode) (marks now : List Bool) (n : ℕ) → SameBelow n locals after → ((j : ℕ) → j < n → marked now j ≡ marked marks j)
      → context text m after now n ≡ context text m locals marks n
  context_same locals after marks now zero s f = refl
  context_same locals after marks now (suc n) s f =
      let e = s n (omega arith) in
      let b = f n (omega arith) in
      let more = context_same locals after marks now n (λ j h. s j (omega arith)) (λ j h. f j (omega arith)) in
      cc

  pub context_locals : (locals after : List LocalCode) (marks : List Bool) (n : ℕ) → SameBelow n locals after → context text m after marks n ≡ context text m locals marks n
  context_locals locals after marks n s = context_same locals after marks marks n s (λ j h. refl)

  -- a name is consumed
  pub context_mark : (locals : List LocalCode) (marks : List Bool) (w : List ℕ) (n k : ℕ) → Newest text locals w n k → k < length marks
      → consume w (context text m locals marks n) ≡ context text m locals (slice_set marks k true) n
  context_mark locals marks w zero k f long = absurd (let b = f.below in omega arith)
  context_mark locals marks w (suc n) k f long = go (cases_lt k n) (λ f. context_mark locals marks w n k f long)
    where
      now : List Bool
      now = slice_set marks k true

      head : Local
      head = local (name_in text locals n) (ty m (local_in locals n).kind) (marked marks n)

      hit : Context
      hit = local (name_in text locals n) (ty m (local_in locals n).kind) true ∷ context text m locals marks n

      go : (k < n) ⊎ (n ≤ k) → (Newest text locals w n k → consume w (context text m locals marks n) ≡ context text m locals now n) → consume w (context text m locals marks (suc n)) ≡ context text m locals now (suc n)
      go (inl h) rest =
          let e : marked now n ≡ marked marks n = get_or-set_other marks k n true false (λ z. omega arith) in
          let more = rest (record { below = h; same = f.same; newer = λ j a b. f.newer j a (omega arith) }) in
          ap (λ b. cond b hit (head ∷ consume w (context text m locals marks n))) (f.newer n h (omega arith))
          ∙ cc
      go (inr h) rest =
          let e : n ≡ k = omega (arith, f.below) in
          let here : marked now n ≡ true = ap (marked now) e ∙ get_or-set_same marks k true false long in
          let more : context text m locals now n ≡ context text m locals marks n = context_same locals locals marks now n (λ j a. refl) (λ j a. get_or-set_other marks k j true false (λ z. omega arith)) in
          ap (λ b. cond b hit (head ∷ consume w (context text m locals marks n))) (ap (λ j. bytes_eq w (name_in text locals j)) e ∙ f.same)
          ∙ cc

  -- a name is bound
  pub context_push : (locals : List LocalCode) (marks : List Bool) (n : ℕ) (x : LocalCode) → n < length locals → n < length marks
      → context text m (slice_set locals n x) (slice_set marks n false) (n + 1) ≡ local (name_in text (slice_set locals n x) n) (ty m x.kind) false ∷ context text m locals marks n
  context_push locals marks n x room long =
      let here = get_or-set_same locals n x no_local room in
      let mark = get_or-set_same marks n false false long in
      let more : context text m (slice_set locals n x) (slice_set marks n false) n ≡ context text m locals marks n =
      context_same locals (slice_set locals n x) marks (slice_set marks n false) n (λ j a. get_or-set_other locals n j x no_local (λ z. omega arith)) (λ j a. get_or-set_other marks n j false false (λ z. omega arith)) in
      let size : n + 1 ≡ suc n = omega arith in
      ap (λ d. context text m (slice_set locals n x) (slice_set marks n false) d) size ∙ cc

  -- two arms meet
  pub context_join : (locals : List LocalCode) (a b c : List Bool) (n : ℕ) → ((k : ℕ) → marked c k ≡ (marked a k || marked b k))
      → context text m locals c n ≡ join (context text m locals a n) (context text m locals b n)
  context_join locals a b c zero f = refl
  context_join locals a b c (suc n) f =
      let here = f n in
      let more = context_join locals a b c n f in
      cc

-- joining in any order
pub join_assoc : (a b c : Context) → join (join a b) c ≡ join a (join b c)
join_assoc [] b c = refl
join_assoc (local x τ p ∷ a) [] c = refl
join_assoc (local x τ p ∷ a) (local y σ q ∷ b) [] = refl
join_assoc (local x τ p ∷ a) (local y σ q ∷ b) (local z ρ r ∷ c) = cc (or_is_assoc p q r, join_assoc a b c)
  where
    or_is_assoc : (p q r : Bool) → ((p || q) || r) ≡ (p || (q || r))
    or_is_assoc true q r = refl
    or_is_assoc false q r = refl

-- kinds
pub kinds_fewer : (rows : List Row) (locals : List LocalCode) (n k : ℕ) → k ≤ n → KindsBelow rows locals n → KindsBelow rows locals k
kinds_fewer rows locals n k few s j h = s j (omega arith)

pub kinds_same : (rows : List Row) (locals after : List LocalCode) (n : ℕ) → SameBelow n locals after → KindsBelow rows locals n → KindsBelow rows after n
kinds_same rows locals after n same s j h = subst (λ l. IsKind rows l.kind) (sym (same j h)) (s j h)

pub kinds_push : (rows : List Row) (locals : List LocalCode) (n : ℕ) (x : LocalCode) → n < length locals → IsKind rows x.kind → KindsBelow rows locals n → KindsBelow rows (slice_set locals n x) (n + 1)
kinds_push rows locals n x room k s j h = go (cases_lt j n)
  where
    go : (j < n) ⊎ (n ≤ j) → IsKind rows (local_in (slice_set locals n x) j).kind
    go (inl a) = subst (λ l. IsKind rows l.kind) (sym (get_or-set_other locals n j x no_local (λ z. omega arith))) (s j a)
    go (inr a) =
        let e : n ≡ j = omega arith in
        subst (λ j. IsKind rows (local_in (slice_set locals n x) j).kind) e (subst (λ l. IsKind rows l.kind) (sym (get_or-set_same locals n x no_local room)) k)

-- the same locals
pub same_self : (n : ℕ) (a : List LocalCode) → SameBelow n a a
same_self n a j h = refl

pub same_then : (n : ℕ) (a b c : List LocalCode) → SameBelow n a b → SameBelow n b c → SameBelow n a c
same_then n a b c f g j h = g j h ∙ f j h

pub same_fewer : (n k : ℕ) (a b : List LocalCode) → k ≤ n → SameBelow n a b → SameBelow k a b
same_fewer n k a b few f j h = f j (omega arith)

pub same_push : (n : ℕ) (a : List LocalCode) (x : LocalCode) → SameBelow n a (slice_set a n x)
same_push n a x j h = get_or-set_other a n j x no_local (λ z. omega arith)
