-- Where a name lies among the entries of a run.
use Rattle.std.proofs.Common.{◌≡◌, ℕ, suc, ◌+◌, ◌-◌, ◌<◌, ◌≤◌, ◌⊎◌, inl, inr, false, cond, List, [], ◌∷◌, length, Some, None, slice_set, sym, refl, ap, ◌∙◌, arith}
use Rattle.std.proofs.lemmas.List.{get_or-set_same}
use Rattle.std.proofs.lemmas.Bool.{cases_lt}
use Rattle.std.specs.Str.{bytes_eq}
use Rattle.program.specs.Scopes.{Scope, distance, further}
use Rattle.names.specs.Parts.{part_of}
use Rattle.scopes.specs.Locals.{no_local, local_in, name_in, Newest, SameBelow, Placed}
use Rattle.scopes.specs.declared.local.Local.{Local as LocalCode}
use Rattle.scopes.proofs.ContextLaws.{same_push}

module _ (text : List ℕ) where
  -- each name lies below the newest entry
  pub record Far (locals : List LocalCode) (w : List ℕ) (n k : ℕ) (G : Scope) : Type 0 where
    pub far : distance w G ≡ Some (length G - 1 - (local_in locals k).height)
    pub low : (local_in locals k).height < length G

  pub distance_found : (locals : List LocalCode) (w : List ℕ) (n k : ℕ) (G : Scope) → Placed text locals n G → Newest text locals w n k → Far locals w n k G
  distance_found locals w n k [] p f = absurd (let b = f.below in omega arith)
  distance_found locals w n k (None ∷ G) p f =
      let d = distance_found locals w n k G p f in
      let e : 1 + (length G - 1 - (local_in locals k).height) ≡ suc (length G) - 1 - (local_in locals k).height = omega (arith, d.low) in
      record { far = ap further d.far ∙ ap Some e; low = omega (arith, d.low) }
  distance_found locals w n k (Some x ∷ G) (j, en, ex, eh, p) f = go (cases_lt k j) (distance_found locals w j k G p)
    where
      go : (k < j) ⊎ (j ≤ k) → (Newest text locals w j k → Far locals w j k G) → Far locals w n k (Some x ∷ G)
      go (inl h) more =
          let d = more (record { below = h; same = f.same; newer = λ i a b. f.newer i a (omega arith) }) in
          let e : 1 + (length G - 1 - (local_in locals k).height) ≡ suc (length G) - 1 - (local_in locals k).height = omega (arith, d.low) in
          record {
            far = ap (λ b. cond b (Some 0) (further (distance w G))) (ap (bytes_eq w) ex ∙ f.newer j h (omega arith)) ∙ ap further d.far ∙ ap Some e;
            low = omega (arith, d.low);
          }
      go (inr h) more =
          let e : j ≡ k = omega (arith, f.below) in
          let height : (local_in locals k).height ≡ length G = ap (λ i. (local_in locals i).height) (sym e) ∙ eh in
          let z : 0 ≡ suc (length G) - 1 - (local_in locals k).height = omega arith in
          record {
            far = ap (λ b. cond b (Some 0) (further (distance w G))) (ap (bytes_eq w) ex ∙ ap (λ i. bytes_eq w (name_in text locals i)) e ∙ f.same) ∙ ap Some z;
            low = omega arith;
          }

  pub distance_none : (locals : List LocalCode) (w : List ℕ) (n : ℕ) (G : Scope) → Placed text locals n G → ((j : ℕ) → j < n → bytes_eq w (name_in text locals j) ≡ false) → distance w G ≡ None
  distance_none locals w n [] p f = refl
  distance_none locals w n (None ∷ G) p f = ap further (distance_none locals w n G p f)
  distance_none locals w n (Some x ∷ G) (j, en, ex, eh, p) f =
      ap (λ b. cond b (Some 0) (further (distance w G))) (ap (bytes_eq w) ex ∙ f j (omega arith)) ∙ ap further (distance_none locals w j G p (λ i h. f i (omega arith)))

  pub placed_same : (locals after : List LocalCode) (n : ℕ) (G : Scope) → SameBelow n locals after → Placed text locals n G → Placed text after n G
  placed_same locals after n [] s p = p
  placed_same locals after n (None ∷ G) s p = placed_same locals after n G s p
  placed_same locals after n (Some x ∷ G) s (k, en, ex, eh, p) =
      let e = s k (omega arith) in
      (k, en, ex ∙ ap (λ l. part_of text l.name) (sym e), ap (λ l. l.height) e ∙ eh, placed_same locals after k G (λ j h. s j (omega arith)) p)

  pub placed_push : (locals : List LocalCode) (n : ℕ) (x : LocalCode) (w : List ℕ) (G : Scope) → n < length locals → name_in text (slice_set locals n x) n ≡ w → x.height ≡ length G → Placed text locals n G
      → Placed text (slice_set locals n x) (n + 1) (Some w ∷ G)
  placed_push locals n x w G room named height p =
      let e = get_or-set_same locals n x no_local room in
      (n, omega arith, sym named, ap (λ l. l.height) e ∙ height, placed_same locals (slice_set locals n x) n G (same_push n locals x) p)
