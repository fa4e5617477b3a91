-- Names, type expressions and patterns: reading makes what the grammar derives, and nothing else.
use Rattle.std.proofs.Common.{◌≡◌, ℕ, zero, suc, ◌+◌, ◌≤◌, Bool, true, false, cond, ltb, List, ◌∷◌, Some, Option, refl, arith, ltb-true, lt-ltb}
use Rattle.text.specs.declared.bracket.Bracket.{Bracket}
use Rattle.text.specs.declared.keyword.Keyword.{Keyword}
use Rattle.text.specs.declared.keyword.Keyword.TheVariants as keyword
use Rattle.text.specs.declared.token.TokenKind.{TokenKind}
use Rattle.text.specs.declared.token.TokenKind.TheVariants as kind
use Rattle.grammar.specs.Forms.{Two, two, not_two, two_of, arrow_of}
use Rattle.grammar.specs.Grammar.{NameOf, word, TypeOf, int_type, bool_type, sym_type, unit_type, datatype, function_type_rule, TypesOf, no_types, and_type, PartOf, bound, skipped, PartsOf, no_parts, and_part, PatternOf, wildcard, constructor}
use Rattle.grammar.specs.Limits.{type_count, types_count, types_length, SixInType, SixInTypes}
use Rattle.grammar.specs.Reading.{Tally, Outcome, made, name_read, atom_type, type_atom, type_shaped, read_types, read_type_list, read_arrow, read_type, read_part, read_parts, read_pattern, wrong, over_limit, and_then}
use Rattle.grammar.specs.Sexps.{Sexp, atom, list, Sexps, nil, cons, place, depth, depths}
use Rattle.grammar.specs.Trees as tree
use Rattle.grammar.specs.Trees.{Ident, TypeExpr, TypeExprs, PatternPart, Pattern}
use Rattle.grammar.proofs.GrammarKeys.{by_key}
use Rattle.grammar.proofs.GrammarOutcomes.{Read, Same, none, used_none, used_then, types_then, Room, Fits, types_room, Holds, not_made, holds, holds_then, holds_so, Makes, makes, makes_then, holds_type, makes_type}

-- what stands in brackets of either shape
pub data Listed (P : Sexps → Type 0) : Sexp → Type 0 where
  listed : {a : Bracket} {p q : ℕ} {ss : Sexps} → P ss → Listed P (list a p ss q)

-- exactly two parts
pub data TwoView : Sexps → Two → Type 0 where
  is_two_rule : {a b : Sexp} → TwoView (cons a (cons b nil)) (two a b)
  other : {ss : Sexps} → TwoView ss not_two

pub two_view : (ss : Sexps) → TwoView ss (two_of ss)
two_view nil = other
two_view (cons a nil) = other
two_view (cons a (cons b nil)) = is_two_rule
two_view (cons a (cons b (cons c rest))) = other

-- Names.
pub name_sound : (entries : ℕ) (s : Sexp) (n : Tally) → Fits entries n → Holds (Read (NameOf s) none none entries n) (name_read s n)
name_sound entries (atom kind.Name p w) n f = holds record { derived = refl; used = used_none; fits = f }
name_sound entries (atom (kind.Open b) p w) n f = not_made
name_sound entries (atom (kind.Close b) p w) n f = not_made
name_sound entries (atom kind.Symbol p w) n f = not_made
name_sound entries (atom (kind.Integer z) p w) n f = not_made
name_sound entries (atom (kind.Keyword k) p w) n f = not_made
name_sound entries (list a p ss q) n f = not_made

pub name_complete : {s : Sexp} {x : Ident} (n : Tally) → NameOf s x → Makes (Same x 0 0 n) (name_read s n)
name_complete n e = rw e (makes record { same = refl; used = used_none })

-- Type expressions.
data ArrowView : Sexps → Two → Type 0 where
  is_arrow : {i : ℕ} {w : List ℕ} {a b : Sexp} → ArrowView (cons (word keyword.Arrow i w) (cons a (cons b nil))) (two a b)
  no_arrow : {ss : Sexps} → ArrowView ss not_two

arrow_view : (ss : Sexps) → ArrowView ss (arrow_of ss)
arrow_view nil = no_arrow
arrow_view (cons (list a p ss q) es) = no_arrow
arrow_view (cons (atom kind.Name p w) es) = no_arrow
arrow_view (cons (atom (kind.Open b) p w) es) = no_arrow
arrow_view (cons (atom (kind.Close b) p w) es) = no_arrow
arrow_view (cons (atom kind.Symbol p w) es) = no_arrow
arrow_view (cons (atom (kind.Integer z) p w) es) = no_arrow
arrow_view (cons (atom (kind.Keyword k) p w) es) = by_key (λ k. ArrowView (cons (word k p w) es)) keyword.Arrow k _ _ (go (two_view es)) no_arrow
  where
    go : {es : Sexps} {v : Two} → TwoView es v → ArrowView (cons (word keyword.Arrow p w) es) v
    go is_two_rule = is_arrow
    go other = no_arrow

abbrev TypeRead : ℕ → Sexp → Tally → TypeExpr → Tally → Type 0
TypeRead entries s = Read (λ t. TypeOf s t × SixInType t) none type_count entries

-- types in a list behind so many
abbrev TypesRead : ℕ → ℕ → Sexps → Tally → TypeExprs → Tally → Type 0
TypesRead entries k ss = Read (λ ts. TypesOf ss ts × (k + types_length ts ≤ 6) × SixInTypes ts) none types_count entries

abbrev pub TypeListRead : ℕ → Sexp → Tally → TypeExprs → Tally → Type 0
TypeListRead entries s = Read (λ ts. Listed (λ ss. TypesOf ss ts) s × (types_length ts ≤ 6) × SixInTypes ts) none types_count entries

made_arrow : {a : Bracket} {p q i : ℕ} {w : List ℕ} {s r : Sexp} {ts : TypeExprs} {t : TypeExpr} → Listed (λ ss. TypesOf ss ts) s → TypeOf r t
    → TypeOf (list a p (cons (word keyword.Arrow i w) (cons s (cons r nil))) q) (tree.function_type_rule p ts t)
made_arrow (listed h) k = function_type_rule h k

module _ (entries : ℕ) where
  one_type : (s : Sexp) (t : TypeExpr) (p : ℕ) (n : Tally) → Fits entries n → TypeOf s t → SixInType t → type_count t ≡ 1 → Holds (TypeRead entries s n) (type_atom p (Some t) n)
  one_type s t p n f d x e = holds_type entries p n f (λ m u g. holds record { derived = (d, x); used = rw e u; fits = g })

  atom_type_sound : (k : TokenKind) (p : ℕ) (w : List ℕ) (n : Tally) → Fits entries n → Holds (TypeRead entries (atom k p w) n) (type_atom p (atom_type k p w) n)
  atom_type_sound kind.Name p w n f = one_type _ _ p n f (datatype refl) tt refl
  atom_type_sound (kind.Open b) p w n f = not_made
  atom_type_sound (kind.Close b) p w n f = not_made
  atom_type_sound kind.Symbol p w n f = not_made
  atom_type_sound (kind.Integer z) p w n f = not_made
  atom_type_sound (kind.Keyword k) p w n f =
      by_key reads keyword.Int k _ _ (one_type _ _ p n f int_type tt refl)
      (by_key reads keyword.Bool k _ _ (one_type _ _ p n f bool_type tt refl)
      (by_key reads keyword.Sym k _ _ (one_type _ _ p n f sym_type tt refl)
      (by_key reads keyword.Unit k _ _ (one_type _ _ p n f unit_type tt refl) not_made)))
    where
      reads : Keyword → Option TypeExpr → Type 0
      reads k t = Holds (TypeRead entries (word k p w) n) (type_atom p t n)

  module _ (read : Sexp → Tally → Outcome TypeExpr) (sound : (s : Sexp) (n : Tally) → Fits entries n → Holds (TypeRead entries s n) (read s n)) where
    types_sound : (k : ℕ) (ss : Sexps) (n : Tally) → k ≤ 6 → Fits entries n → Holds (TypesRead entries k ss n) (read_types read k ss n)
    types_sound k nil n le f = holds record { derived = (no_types, omega arith, tt); used = used_none; fits = f }
    types_sound k (cons s ss) n le f = go (ltb k 6) refl (types_sound (k + 1) ss)
      where
        beyond : (t : Bool) → Holds (TypesRead entries k (cons s ss) n) (cond t (over_limit (place s)) (wrong (place s)))
        beyond true = not_made
        beyond false = not_made

        go : (t : Bool) → ltb k 6 ≡ t → ((n : Tally) → k + 1 ≤ 6 → Fits entries n → Holds (TypesRead entries (k + 1) ss n) (read_types read (k + 1) ss n))
            → Holds (TypesRead entries k (cons s ss) n) (cond t (and_then (read s n) (λ t n. and_then (read_types read (k + 1) ss n) (λ ts n. made (tree.and_type t ts) n))) (cond (type_shaped s) (over_limit (place s)) (wrong (place s))))
        go false e more = beyond (type_shaped s)
        go true e more =
            let lt = ltb-true k 6 e in
            holds_then (sound s n f) (λ t m a. holds_then (more m (omega arith) a.fits) (λ ts o b.
            holds record { derived = (and_type a.derived.0 b.derived.0, omega (arith, b.derived.1), (a.derived.1, b.derived.2)); used = types_then a.used b.used; fits = b.fits }))

    pub type_list_sound : (s : Sexp) (n : Tally) → Fits entries n → Holds (TypeListRead entries s n) (read_type_list read s n)
    type_list_sound (atom k p w) n f = not_made
    type_list_sound (list a p ss q) n f = holds_so (types_sound 0 ss n (omega arith) f) (λ ts m h. record { derived = (listed h.derived.0, omega (arith, h.derived.1), h.derived.2); used = h.used; fits = h.fits })

    arrow_sound : {ss : Sexps} {v : Two} (a : Bracket) (p q : ℕ) (n : Tally) → ArrowView ss v → Fits entries n → Holds (TypeRead entries (list a p ss q) n) (read_arrow read p v n)
    arrow_sound a p q n no_arrow f = not_made
    arrow_sound a p q n (is_arrow {a = s} {b = r}) f =
        holds_type entries p n f (λ m u g. holds_then (type_list_sound s m g) (λ ts o h. holds_then (sound r o h.fits) (λ t o' k.
        holds record { derived = (made_arrow h.derived.0 k.derived.0, (h.derived.1, h.derived.2, k.derived.1)); used = types_then (types_then u h.used) k.used; fits = k.fits })))

  pub type_sound : (d : ℕ) (s : Sexp) (n : Tally) → Fits entries n → Holds (TypeRead entries s n) (read_type d s n)
  type_sound zero (atom k p w) n f = atom_type_sound k p w n f
  type_sound (suc d) (atom k p w) n f = atom_type_sound k p w n f
  type_sound zero (list a p ss q) n f = not_made
  type_sound (suc d) (list a p ss q) n f = arrow_sound (read_type d) (type_sound d) a p q n (arrow_view ss) f

-- a type expression that the grammar derives is read
module _ (entries : ℕ) where
  one_made : (t : TypeExpr) (p : ℕ) (n : Tally) → Room entries n 0 1 0 0 0 → Makes (Same t 0 1 n) (type_atom p (Some t) n)
  one_made t p n r = makes_type entries p n r (λ m u. makes record { same = refl; used = u })

  mutual
    pub type_complete : {s : Sexp} {t : TypeExpr} → TypeOf s t → (d : ℕ) → depth s ≤ d → SixInType t → (n : Tally) → Room entries n 0 (type_count t) 0 0 0 → Makes (Same t 0 (type_count t) n) (read_type d s n)
    type_complete (int_type {p = p}) d le x n r = one_made _ p n r
    type_complete (bool_type {p = p}) d le x n r = one_made _ p n r
    type_complete (sym_type {p = p}) d le x n r = one_made _ p n r
    type_complete (unit_type {p = p}) d le x n r = one_made _ p n r
    type_complete (datatype e) d le x n r = rw e (one_made _ _ n r)
    type_complete (function_type_rule h k) zero le x n r = absurd (omega arith)
    type_complete (function_type_rule {p = p} {ss = ss} {s = s} h k) (suc d) le x n r =
        makes_type entries p n (types_room used_none r (omega arith)) (λ m u.
        makes_then (types_complete h d 0 (omega arith) (omega (arith, x.0)) x.1 m (types_room u r (omega arith))) (λ ts m₁ a.
        makes_then (type_complete k d (omega arith) x.2 m₁ (types_room (types_then u a.used) r (omega arith))) (λ t m₂ b.
        makes {x = tree.function_type_rule p ts t} record { same = cc (a.same, b.same); used = types_then (types_then u a.used) b.used })))

    pub types_complete : {ss : Sexps} {ts : TypeExprs} → TypesOf ss ts → (d k : ℕ) → depths ss ≤ d → k + types_length ts ≤ 6 → SixInTypes ts → (n : Tally) → Room entries n 0 (types_count ts) 0 0 0 → Makes (Same ts 0 (types_count ts) n) (read_types (read_type d) k ss n)
    types_complete no_types d k le few x n r = makes record { same = refl; used = used_none }
    types_complete (and_type {s = s} {ss = ss} {ts = ts} h more) d k le few x n r =
        rw (lt-ltb k 6 (omega arith))
        (makes_then (type_complete h d (omega arith) x.0 n (types_room used_none r (omega arith))) (λ t m a.
        makes_then (types_complete more d (k + 1) (omega arith) (omega arith) x.1 m (types_room a.used r (omega arith))) (λ ts m₁ b.
        makes {x = tree.and_type t ts} record { same = cc (a.same, b.same); used = types_then a.used b.used })))

-- Patterns.
part_sound : (entries : ℕ) (s : Sexp) (n : Tally) → Fits entries n → Holds (Read (PartOf s) none none entries n) (read_part s n)
part_sound entries (list a p ss q) n f = not_made
part_sound entries (atom kind.Name p w) n f = holds record { derived = bound refl; used = used_none; fits = f }
part_sound entries (atom (kind.Open b) p w) n f = not_made
part_sound entries (atom (kind.Close b) p w) n f = not_made
part_sound entries (atom kind.Symbol p w) n f = not_made
part_sound entries (atom (kind.Integer z) p w) n f = not_made
part_sound entries (atom (kind.Keyword k) p w) n f =
    by_key (λ k. Holds (Read (PartOf (word k p w)) none none entries n)) keyword.Wildcard k _ _ (holds record { derived = skipped; used = used_none; fits = f }) not_made

parts_sound : (entries : ℕ) (ss : Sexps) (n : Tally) → Fits entries n → Holds (Read (PartsOf ss) none none entries n) (read_parts ss n)
parts_sound entries nil n f = holds record { derived = no_parts; used = used_none; fits = f }
parts_sound entries (cons s ss) n f = holds_then (part_sound entries s n f) (λ x m a. holds_then (parts_sound entries ss m a.fits) (λ xs o b.
    holds record { derived = and_part a.derived b.derived; used = used_then a.used b.used; fits = b.fits }))

pub pattern_sound : (entries : ℕ) (s : Sexp) (n : Tally) → Fits entries n → Holds (Read (PatternOf s) none none entries n) (read_pattern s n)
pattern_sound entries (list a p nil q) n f = not_made
pattern_sound entries (list a p (cons s ss) q) n f = holds_then (name_sound entries s n f) (λ c m a. holds_then (parts_sound entries ss m a.fits) (λ xs o b.
    holds record { derived = constructor a.derived b.derived; used = used_then a.used b.used; fits = b.fits }))
pattern_sound entries (atom kind.Name p w) n f = not_made
pattern_sound entries (atom (kind.Open b) p w) n f = not_made
pattern_sound entries (atom (kind.Close b) p w) n f = not_made
pattern_sound entries (atom kind.Symbol p w) n f = not_made
pattern_sound entries (atom (kind.Integer z) p w) n f = not_made
pattern_sound entries (atom (kind.Keyword k) p w) n f =
    by_key (λ k. Holds (Read (PatternOf (word k p w)) none none entries n)) keyword.Wildcard k _ _ (holds record { derived = wildcard; used = used_none; fits = f }) not_made

part_complete : {s : Sexp} {x : PatternPart} (n : Tally) → PartOf s x → Makes (Same x 0 0 n) (read_part s n)
part_complete n (bound e) = rw e (makes record { same = refl; used = used_none })
part_complete n skipped = makes record { same = refl; used = used_none }

parts_complete : {ss : Sexps} {xs : List PatternPart} (n : Tally) → PartsOf ss xs → Makes (Same xs 0 0 n) (read_parts ss n)
parts_complete n no_parts = makes record { same = refl; used = used_none }
parts_complete n (and_part h more) = makes_then (part_complete n h) (λ x m a. makes_then (parts_complete m more) (λ xs o b.
    makes {x = x ∷ xs} record { same = cc (a.same, b.same); used = used_then a.used b.used }))

pub pattern_complete : {s : Sexp} {x : Pattern} (n : Tally) → PatternOf s x → Makes (Same x 0 0 n) (read_pattern s n)
pattern_complete n wildcard = makes record { same = refl; used = used_none }
pattern_complete n (constructor {p = p} h more) = makes_then (name_complete n h) (λ c m a. makes_then (parts_complete m more) (λ xs o b.
    makes {x = tree.constructor p c xs} record { same = cc (a.same, b.same); used = used_then a.used b.used }))
