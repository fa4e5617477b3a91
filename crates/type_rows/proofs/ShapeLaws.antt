-- The shapes of a type tell it.
use Rattle.std.proofs.Common.{◌≡◌, ℕ, Bool, true, false, MatchBool, List, [], ◌∷◌, ◌++◌, length, get_or, sym, refl, ap, ◌∙◌, subst, append_assoc, arith}
use Rattle.std.specs.Str.{bytes_eq}
use Rattle.std.proofs.lemmas.Bool.{false≢true}
use Rattle.std.proofs.lemmas.List.{ext_get_or}
use Rattle.type_rows.specs.Rows.{shape_at, FunctionLies, RowsMean, IsKind, LookSame}
use Rattle.type_rows.specs.Shapes.{shapes, shapes_all, ty}
use Rattle.type_rows.specs.declared.row.Row.{Row}
use Rattle.type_rows.specs.declared.shape.Shape.{Shape}
use Rattle.type_rows.specs.declared.shape.Shape.TheVariants as shape
use Rattle.type_rows.specs.declared.value_type.ValueType.{ValueType}
use Rattle.type_rows.specs.declared.value_type.ValueType.TheVariants as value
use Rattle.typing.specs.Types.{Ty, int, bool, sym as symbol, unit, datum, function, Tys, no_types, and_type, count, spelt, spelts, same_type}
use Rattle.typing.proofs.TypeRows.{same_type_law, type_same, bytes_same}

-- a row of shapes as a row of numbers
letter : Shape → List ℕ
letter shape.Int = 0 ∷ []
letter shape.Bool = 1 ∷ []
letter shape.Sym = 2 ∷ []
letter shape.Unit = 3 ∷ []
letter (shape.Datatype d) = 4 ∷ d ∷ []
letter (shape.Function n) = 5 ∷ n ∷ []

letters : List Shape → List ℕ
letters [] = []
letters (s ∷ ss) = letter s ++ letters ss

letters_append : (xs ys : List Shape) → letters (xs ++ ys) ≡ letters xs ++ letters ys
unfolding letters
letters_append [] ys = refl
letters_append (x ∷ xs) ys = ap (λ l. letter x ++ l) (letters_append xs ys) ∙ sym (append_assoc (letter x) (letters xs) (letters ys))

mutual
  unfolding letters letter

  letters_shapes : (t : Ty) → letters (shapes t) ≡ spelt t
  letters_shapes int = refl
  letters_shapes bool = refl
  letters_shapes symbol = refl
  letters_shapes unit = refl
  letters_shapes (datum d) = refl
  letters_shapes (function ts t) = ap (λ l. 5 ∷ count ts ∷ l) (letters_append (shapes_all ts) (shapes t) ∙ ap (λ l. l ++ letters (shapes t)) (letters_all ts) ∙ ap (λ l. spelts ts ++ l) (letters_shapes t))

  letters_all : (ts : Tys) → letters (shapes_all ts) ≡ spelts ts
  letters_all no_types = refl
  letters_all (and_type t ts) = letters_append (shapes t) (shapes_all ts) ∙ ap (λ l. l ++ letters (shapes_all ts)) (letters_shapes t) ∙ ap (λ l. spelt t ++ l) (letters_all ts)

pub types_by_shapes : (a b : Ty) → shapes a ≡ shapes b → same_type a b ≡ true
types_by_shapes a b e =
    let s : spelt a ≡ spelt b = sym (letters_shapes a) ∙ ap letters e ∙ letters_shapes b in
    ap (λ l. bytes_eq l (spelt b)) s ∙ bytes_same (spelt b)

not_same : (a b : Ty) → (a ≡ b → ⊥) → same_type a b ≡ false
not_same a b n = go (same_type a b) refl
  where
    go : (t : Bool) → same_type a b ≡ t → same_type a b ≡ false
    go true e = absurd (n (same_type_law a b e))
    go false e = e

-- the value's type that is no function type, by the type
tell : Ty → ValueType
tell int = value.Int
tell bool = value.Bool
tell symbol = value.Sym
tell unit = value.Unit
tell (datum d) = value.Datatype d
tell (function ts t) = value.Unit

told : (m : ℕ → Ty) (a : ValueType) → ((x : ℕ) → a ≡ value.Function x → ⊥) → tell (ty m a) ≡ a
unfolding tell
told m value.Int n = refl
told m value.Bool n = refl
told m value.Sym n = refl
told m value.Unit n = refl
told m (value.Datatype d) n = refl
told m (value.Function x) n = absurd (n x refl)

plain_function : (m : ℕ → Ty) (a : ValueType) → ((x : ℕ) → a ≡ value.Function x → ⊥) → (t : Ty) (ps : Tys) (v : Ty) → t ≡ function ps v → ty m a ≡ t → ⊥
plain_function m value.Int n t ps v e q = let z : ◌≡◌ {A = ℕ} 0 1 = cc in omega arith
plain_function m value.Bool n t ps v e q = let z : ◌≡◌ {A = ℕ} 0 1 = cc in omega arith
plain_function m value.Sym n t ps v e q = let z : ◌≡◌ {A = ℕ} 0 1 = cc in omega arith
plain_function m value.Unit n t ps v e q = let z : ◌≡◌ {A = ℕ} 0 1 = cc in omega arith
plain_function m (value.Datatype d) n t ps v e q = let z : ◌≡◌ {A = ℕ} 0 1 = cc in omega arith
plain_function m (value.Function x) n t ps v e q = n x refl

module _ (rows : List Row) (m : ℕ → Ty) where
  -- two function types' rows look the same if they are the same
  pub alike : (x y : ℕ) → FunctionLies rows m x → FunctionLies rows m y → m x ≡ m y → LookSame rows x y
  alike x y f g e =
      let s : function f.parameters f.value ≡ function g.parameters g.value = sym f.meant ∙ e ∙ g.meant in
      let l : length (shapes (function f.parameters f.value)) ≡ length (shapes (function g.parameters g.value)) = ap (λ t. length (shapes t)) s in
      let fs = f.size in
      let gs = g.size in
      record {
        sizes = omega arith;
        alike = λ d low. f.spelt d (omega arith) ∙ ap (λ t. get_or (shapes t) d shape.Unit) s ∙ sym (g.spelt d (omega arith));
      }

  pub same_by_look : (x y : ℕ) → FunctionLies rows m x → FunctionLies rows m y → LookSame rows x y → same_type (m x) (m y) ≡ true
  same_by_look x y f g l =
      let fs = f.size in
      let gs = g.size in
      let ls = l.sizes in
      let long : length (shapes (function f.parameters f.value)) ≡ length (shapes (function g.parameters g.value)) = omega arith in
      let all : shapes (function f.parameters f.value) ≡ shapes (function g.parameters g.value) =
      ext_get_or shape.Unit (shapes (function f.parameters f.value)) (shapes (function g.parameters g.value)) long (λ d low. sym (f.spelt d low) ∙ l.alike d (omega arith) ∙ g.spelt d (omega arith)) in
      types_by_shapes (m x) (m y) (ap shapes f.meant ∙ all ∙ sym (ap shapes g.meant))

  pub function_same : RowsMean rows m → (a b : ValueType) (x y : ℕ) → a ≡ value.Function x → b ≡ value.Function y → IsKind rows a → IsKind rows b → (r : Bool) → MatchBool r (LookSame rows x y) (LookSame rows x y → ⊥) → r ≡ same_type (ty m a) (ty m b)
  function_same means a b x y ea eb ja jb r look = go r look ∙ sym (ap (λ a. same_type (ty m a) (ty m b)) ea ∙ ap (λ b. same_type (m x) (ty m b)) eb)
    where
      j : (n : ℕ) × (shape_at rows x ≡ shape.Function n)
      j = subst (IsKind rows) ea ja

      k : (n : ℕ) × (shape_at rows y ≡ shape.Function n)
      k = subst (IsKind rows) eb jb

      go : (r : Bool) → MatchBool r (LookSame rows x y) (LookSame rows x y → ⊥) → r ≡ same_type (m x) (m y)
      go true l = sym (same_by_look x y (means x j.0 j.1) (means y k.0 k.1) l)
      go false n = sym (not_same (m x) (m y) (λ e. n (alike x y (means x j.0 j.1) (means y k.0 k.1) e)))

  -- a function type and another one
  pub function_other : RowsMean rows m → (a b : ValueType) (x : ℕ) → a ≡ value.Function x → IsKind rows a → ((y : ℕ) → b ≡ value.Function y → ⊥) → (r : Bool) → ((r ≡ true → a ≡ b) × (a ≡ b → r ≡ true)) → r ≡ same_type (ty m a) (ty m b)
  function_other means a b x is j n true e = absurd (n x (sym (e.0 refl) ∙ is))
  function_other means a b x is j n false e =
      let k = subst (IsKind rows) is j in
      let f = means x k.0 k.1 in
      sym (not_same (ty m a) (ty m b) (λ q. plain_function m b n (ty m a) f.parameters f.value (ap (ty m) is ∙ f.meant) (sym q)))

  -- two types of which the first is no function type
  pub plain_same : RowsMean rows m → (a b : ValueType) → ((x : ℕ) → a ≡ value.Function x → ⊥) → IsKind rows b → (r : Bool) → ((r ≡ true → a ≡ b) × (a ≡ b → r ≡ true)) → r ≡ same_type (ty m a) (ty m b)
  unfolding tell
  plain_same means a b n k true e = sym (ap (λ c. same_type (ty m a) (ty m c)) (sym (e.0 refl)) ∙ type_same (ty m a))
  plain_same means a b n k false e = sym (not_same (ty m a) (ty m b) (λ q. false≢true (e.1 (go b k q))))
    where
      go : (b : ValueType) → IsKind rows b → ty m a ≡ ty m b → a ≡ b
      go value.Int k q = sym (told m a n) ∙ ap tell q
      go value.Bool k q = sym (told m a n) ∙ ap tell q
      go value.Sym k q = sym (told m a n) ∙ ap tell q
      go value.Unit k q = sym (told m a n) ∙ ap tell q
      go (value.Datatype d) k q = sym (told m a n) ∙ ap tell q
      go (value.Function y) k q = let f = means y k.0 k.1 in absurd (plain_function m a n (m y) f.parameters f.value f.meant q)
