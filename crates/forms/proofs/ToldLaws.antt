-- What reading tells of a part, from what it tells of smaller ones, for any table of entries and the count of the tally that counts them.
use Rattle.std.proofs.Common.{◌≡◌, ℕ, ◌+◌, ◌<◌, List, [], ◌∷◌, ◌++◌, length, set, Ok, Err, Result, sym, refl, ap, ◌∙◌, arith}
use Rattle.std.proofs.lemmas.List.{length-append, set_comm}
use Rattle.text.specs.Tokens.{Lexed, lexed_from}
use Rattle.text.specs.declared.refusal.Refused.{Refused}
use Rattle.forms.specs.Progress.{puts, ToldBy}
use Rattle.grammar.specs.Reading.{Tally, Outcome, refused, made, and_then}
use Rattle.forms.specs.declared.spot.Spot.{Spot}
use Rattle.forms.proofs.RowLaws.{puts-++}

-- An entry written behind its parts lies before them.
set_puts : {E : Type 0} (ns : List E) (i j : ℕ) (x : E) (xs : List E) → i < j → set (puts ns j xs) i x ≡ puts (set ns i x) j xs
set_puts ns i j x [] h = refl
set_puts ns i j x (y ∷ xs) h = set_puts (set ns j y) i (j + 1) x xs (omega arith) ∙ ap (λ ms. puts ms (j + 1) xs) (set_comm ns j i y x (λ z. omega arith))

module _ {E : Type 0} (count : Tally → ℕ) (text : List ℕ) where
  -- one after another, made into one
  pub told_join : {A B C : Type 0} (mid rest : Lexed) (from at : Spot) (ns now after : List E) (f : ℕ → A → List E) (g : ℕ → B → List E) (h : C → List E) (make : A → B → C) (o : Outcome A) (next : Tally → Outcome B) (r : Result Spot Refused)
      → ((a : A) (b : B) → f from.used a ++ g (from.used + length (f from.used a)) b ≡ h (make a b))
      → ToldBy count text mid from ns (f from.used) o (Ok at) now
      → ((m : Tally) → count m ≡ at.used → lexed_from text at.place ≡ mid → ToldBy count text rest at now (g at.used) (next m) r after)
      → ToldBy count text rest from ns h (and_then o (λ a m. and_then (next m) (λ b m. made (make a b) m))) r after
  told_join mid rest from at ns now after f g h make (refused x) next r same t u = absurd (cc)
  told_join {A} {B} {C} mid rest from at ns now after f g h make (made a m) next r same t u = go (next m) r (u m (sym t.0) t.2)
    where
      go : (p : Outcome B) (r : Result Spot Refused) → ToldBy count text rest at now (g at.used) p r after → ToldBy count text rest from ns h (and_then p (λ b m. made (make a b) m)) r after
      go (refused x) r u = u
      go (made b k) (Err x) u = absurd u
      go (made b k) (Ok end) u =
          let x = f from.used a in
          let at_is : at.used ≡ from.used + length x = t.0 ∙ t.1 in
          let y = g (from.used + length x) b in
          let size : count k ≡ from.used + length (x ++ y) = u.1 ∙ ap (λ j. j + length (g j b)) at_is ∙ (omega (arith, length-append x y)) in (
            u.0,
            size ∙ ap (λ (z : List E). from.used + length z) (same a b),
            u.2,
            u.3 ∙ ap (λ z. puts z at.used (g at.used b)) t.3 ∙ ap (λ j. puts (puts ns from.used x) j (g j b)) at_is ∙ sym (puts-++ ns from.used x y) ∙ ap (puts ns from.used) (same a b),
          )

  pub told_stop : {A B : Type 0} (mid rest : Lexed) (from : Spot) (ns now : List E) (f : ℕ → A → List E) (g : A → Tally → Outcome B) (h : B → List E) (o : Outcome A) (x : Refused)
      → ToldBy count text mid from ns (f from.used) o (Err x) now → ToldBy count text rest from ns h (and_then o g) (Err x) now
  told_stop mid rest from ns now f g h (refused y) x t = t
  told_stop mid rest from ns now f g h (made a m) x t = absurd t

  -- an entry before those of what it holds, by the number behind the last of them
  pub told_before : {A : Type 0} (rest : Lexed) (from at end : Spot) (ns after : List E) (e : ℕ → A → List E) (o : Outcome A) (entry : ℕ → E)
      → at.used ≡ from.used + 1 → ToldBy count text rest at ns (e at.used) o (Ok end) after
      → ToldBy count text rest from ns (λ a. entry (from.used + 1 + length (e (from.used + 1) a)) ∷ e (from.used + 1) a) o (Ok end) (set after from.used (entry end.used))
  told_before rest from at end ns after e (refused x) entry is t = absurd (cc)
  told_before rest from at end ns after e (made a m) entry is t =
      let i = from.used in
      let t0 = t.0 in
      let size : count m ≡ i + 1 + length (e (i + 1) a) = t.1 ∙ ap (λ j. j + length (e j a)) is in
      let end_is : end.used ≡ i + 1 + length (e (i + 1) a) = t0 ∙ size in
      let less : i < i + 1 = omega arith in (
        t0,
        omega arith,
        t.2,
        ap (λ ms. set ms i (entry end.used)) (t.3 ∙ ap (λ j. puts ns j (e j a)) is) ∙ set_puts ns i (i + 1) (entry end.used) (e (i + 1) a) less ∙ ap (λ j. puts (set ns i (entry j)) (i + 1) (e (i + 1) a)) end_is,
      )

  pub told_refused : {A : Type 0} (mid rest : Lexed) (at from : Spot) (ms ns after now : List E) (f : A → List E) (g : A → List E) (o : Outcome A) (x : Refused)
      → ToldBy count text mid at ms f o (Err x) after → ToldBy count text rest from ns g o (Err x) now
  told_refused mid rest at from ms ns after now f g (refused y) x t = t
  told_refused mid rest at from ms ns after now f g (made a m) x t = absurd t

  -- what is made, made into something else
  pub told_map : {A B : Type 0} (rest : Lexed) (spot : Spot) (ns : List E) (f : A → List E) (g : B → List E) (make : A → B) (o : Outcome A) (r : Result Spot Refused) (after : List E)
      → ((a : A) → f a ≡ g (make a)) → ToldBy count text rest spot ns f o r after → ToldBy count text rest spot ns g (and_then o (λ a n. made (make a) n)) r after
  told_map rest spot ns f g make (refused x) r after same t = t
  told_map rest spot ns f g make (made a n) (Ok end) after same t = (t.0, t.1 ∙ ap (λ (x : List E). spot.used + length x) (same a), t.2, t.3 ∙ ap (puts ns spot.used) (same a))
  told_map rest spot ns f g make (made a n) (Err x) after same t = absurd t

  pub told_spot : {A : Type 0} (rest : Lexed) (at spot : Spot) (ns : List E) (f : A → List E) (o : Outcome A) (r : Result Spot Refused) (after : List E) → at.used ≡ spot.used
      → ToldBy count text rest at ns f o r after → ToldBy count text rest spot ns f o r after
  told_spot rest at spot ns f (refused x) r after same t = t
  told_spot rest at spot ns f (made a n) (Ok end) after same t = (t.0, t.1 ∙ ap (λ j. j + length (f a)) same, t.2, t.3 ∙ ap (λ j. puts ns j (f a)) same)
  told_spot rest at spot ns f (made a n) (Err x) after same t = absurd t
