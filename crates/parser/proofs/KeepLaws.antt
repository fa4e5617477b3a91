-- Reading types counts nothing but types, and a list of types that is made has as many as it has parts.
use Rattle.std.proofs.Common.{◌≡◌, ℕ, zero, suc, ◌+◌, ◌≤◌, Bool, true, false, cond, ltb, ◌∷◌, Some, None, Option, sym, refl, ap, ◌∙◌, arith, ltb-true}
use Rattle.std.proofs.lemmas.Bool.{cond_both}
use Rattle.forms.proofs.ReaderLaws as reader
use Rattle.grammar.specs.Forms.{Two, two, not_two, arrow_of}
use Rattle.grammar.specs.Limits.{types_length}
use Rattle.grammar.specs.Reading.{Tally, Outcome, refused, made, and_then, wrong, over_limit, count_type, atom_type, type_atom, type_shaped, read_types, read_type_list, read_arrow, read_type, name_read, read_parameters, read_parameter_list}
use Rattle.grammar.specs.Sexps.{Sexp, atom, list, Sexps, nil, cons, place}
use Rattle.grammar.specs.Streams.{count}
use Rattle.grammar.specs.Trees.{TypeExpr, function_type_rule, TypeExprs, no_types, and_type}
use Rattle.parser.specs.Listing.{listed}

-- from one tally to the next only types were counted
pub record Others (n m : Tally) : Type 0 where
  pub nodes : m.nodes ≡ n.nodes
  pub bindings : m.bindings ≡ n.bindings
  pub datatypes : m.datatypes ≡ n.datatypes
  pub constructors : m.constructors ≡ n.constructors

others_none : (n : Tally) → Others n n
others_none n = record { nodes = refl; bindings = refl; datatypes = refl; constructors = refl }

others_then : (n m o : Tally) → Others n m → Others m o → Others n o
others_then n m o a b = record { nodes = b.nodes ∙ a.nodes; bindings = b.bindings ∙ a.bindings; datatypes = b.datatypes ∙ a.datatypes; constructors = b.constructors ∙ a.constructors }

-- so it is for all that is made
abbrev pub Keeps : {A : Type 0} → Tally → Outcome A → Type 0
Keeps n (refused x) = Unit {0}
Keeps n (made a m) = Others n m

keeps_then : {A B : Type 0} (n : Tally) (o : Outcome A) (f : A → Tally → Outcome B) → Keeps n o → ((a : A) (m : Tally) → Keeps m (f a m)) → Keeps n (and_then o f)
keeps_then n (refused x) f k h = tt
keeps_then {A} {B} n (made a m) f k h = go (f a m) (h a m)
  where
    go : (o : Outcome B) → Keeps m o → Keeps n o
    go (refused x) j = tt
    go (made b p) j = others_then n m p k j

keeps_count : {A : Type 0} (p : ℕ) (n : Tally) (f : Tally → Outcome A) → ((m : Tally) → Keeps m (f m)) → Keeps n (count_type p n f)
keeps_count {A} p n f h = cond_both (ltb n.types 512) (f one) (over_limit p) (Keeps n) (λ t. go (f one) (h one)) (λ f. tt)
  where
    one : Tally
    one = record { nodes = n.nodes; types = n.types + 1; bindings = n.bindings; datatypes = n.datatypes; constructors = n.constructors }

    go : (o : Outcome A) → Keeps one o → Keeps n o
    go (refused x) k = tt
    go (made a m) k = record { nodes = k.nodes; bindings = k.bindings; datatypes = k.datatypes; constructors = k.constructors }

module _ (read : Sexp → Tally → Outcome TypeExpr) (keeps : (s : Sexp) (n : Tally) → Keeps n (read s n)) where
  keeps_types : (k : ℕ) (ss : Sexps) (n : Tally) → Keeps n (read_types read k ss n)
  keeps_types k nil n = others_none n
  keeps_types k (cons s ss) n =
      cond_both (ltb k 6) _ _ (Keeps n)
      (λ t. keeps_then n (read s n) _ (keeps s n) (λ t m. keeps_then m (read_types read (k + 1) ss m) _ (keeps_types (k + 1) ss m) (λ ts o. others_none o)))
      (λ f. cond_both (type_shaped s) _ _ (Keeps n) (λ t. tt) (λ f. tt))

  keeps_list : (s : Sexp) (n : Tally) → Keeps n (read_type_list read s n)
  keeps_list (atom k p w) n = tt
  keeps_list (list shape p ss q) n = keeps_types 0 ss n

  keeps_arrow : (p : ℕ) (t : Two) (n : Tally) → Keeps n (read_arrow read p t n)
  keeps_arrow p not_two n = tt
  keeps_arrow p (two ps r) n = keeps_count p n (λ m. and_then (read_type_list read ps m) (λ ts o. and_then (read r o) (λ t u. made (function_type_rule p ts t) u))) (λ m. keeps_then m (read_type_list read ps m) _ (keeps_list ps m) (λ ts o. keeps_then o (read r o) _ (keeps r o) (λ t u. others_none u)))

keeps_atom : (p : ℕ) (t : Option TypeExpr) (n : Tally) → Keeps n (type_atom p t n)
keeps_atom p None n = tt
keeps_atom p (Some t) n = keeps_count p n (λ m. made t m) (λ m. others_none m)

pub keeps_type : (d : ℕ) (s : Sexp) (n : Tally) → Keeps n (read_type d s n)
keeps_type d (atom k p w) n = keeps_atom p (atom_type k p w) n
keeps_type zero (list shape p ss q) n = tt
keeps_type (suc d) (list shape p ss q) n = keeps_arrow (read_type d) (keeps_type d) p (arrow_of ss) n

pub keeps_type_list : (d : ℕ) (s : Sexp) (n : Tally) → Keeps n (read_type_list (read_type d) s n)
keeps_type_list d s n = keeps_list (read_type d) (keeps_type d) s n

-- as many types as parts
module _ (read : Sexp → Tally → Outcome TypeExpr) where
  types_counted : (k : ℕ) (ss : Sexps) (n m : Tally) (ts : TypeExprs) → read_types read k ss n ≡ made ts m → k ≤ 6 → (types_length ts ≡ count ss) × (k + count ss ≤ 6)
  types_counted k nil n m ts e le = let is : no_types ≡ ts = cc in (sym (ap types_length is), omega arith)
  types_counted k (cons s ss) n m ts e le = go (λ o us p f few. types_counted (k + 1) ss o p us f few) (ltb k 6) refl e
    where
      wrong_last : (b : Bool) → cond b (over_limit (place s)) (wrong (place s)) ≡ made ts m → (types_length ts ≡ suc (count ss)) × (k + suc (count ss) ≤ 6)
      wrong_last true h = absurd (cc)
      wrong_last false h = absurd (cc)

      rest : k + 1 ≤ 6 → (t : TypeExpr) (o : Tally) → ((us : TypeExprs) (p : Tally) → read_types read (k + 1) ss o ≡ made us p → (types_length us ≡ count ss) × (k + 1 + count ss ≤ 6))
          → (r : Outcome TypeExprs) → read_types read (k + 1) ss o ≡ r → and_then r (λ us p. made (and_type t us) p) ≡ made ts m → (types_length ts ≡ suc (count ss)) × (k + suc (count ss) ≤ 6)
      rest few t o more (refused x) f h = absurd (cc)
      rest few t o more (made us p) f h =
          let is : and_type t us ≡ ts = cc in
          let c = more us p f in
          let size = c.0 in
          let within = c.1 in
          let one : 1 + types_length us ≡ suc (count ss) = omega arith in
          (sym (ap types_length is) ∙ one, omega arith)

      first : ((o : Tally) (us : TypeExprs) (p : Tally) → read_types read (k + 1) ss o ≡ made us p → k + 1 ≤ 6 → (types_length us ≡ count ss) × (k + 1 + count ss ≤ 6)) → k + 1 ≤ 6 → (r : Outcome TypeExpr) → and_then r (λ t o. and_then (read_types read (k + 1) ss o) (λ us p. made (and_type t us) p)) ≡ made ts m → (types_length ts ≡ suc (count ss)) × (k + suc (count ss) ≤ 6)
      first more few (refused x) h = absurd (cc)
      first more few (made t o) h = rest few t o (λ us p f. more o us p f few) (read_types read (k + 1) ss o) refl h

      go : ((o : Tally) (us : TypeExprs) (p : Tally) → read_types read (k + 1) ss o ≡ made us p → k + 1 ≤ 6 → (types_length us ≡ count ss) × (k + 1 + count ss ≤ 6)) → (b : Bool) → ltb k 6 ≡ b → cond b (and_then (read s n) (λ t o. and_then (read_types read (k + 1) ss o) (λ us p. made (and_type t us) p))) (cond (type_shaped s) (over_limit (place s)) (wrong (place s))) ≡ made ts m
          → (types_length ts ≡ suc (count ss)) × (k + suc (count ss) ≤ 6)
      go more true f h = let less = ltb-true k 6 f in first more (omega arith) (read s n) h
      go more false f h = wrong_last (type_shaped s) h

  pub list_counted : (s : Sexp) (n m : Tally) (ts : TypeExprs) → read_type_list read s n ≡ made ts m → listed s ≡ types_length ts
  list_counted (atom k p w) n m ts e = absurd (cc)
  list_counted (list shape p ss q) n m ts e =
      let c = types_counted 0 ss n m ts e (omega arith) in
      let size = c.0 in
      let within = c.1 in
      omega arith

-- Names count nothing.
names_none : (entries k : ℕ) (ss : Sexps) (n : Tally) → reader.Keeps n (read_parameters entries k ss n)
names_none entries k nil n = refl
names_none entries k (cons s ss) n =
    reader.keeps_then n (name_read s n) (λ x n. cond (ltb k 6) (and_then (read_parameters entries (k + 1) ss n) (λ xs n. made (x ∷ xs) n)) (over_limit (place s))) (reader.keeps_name s n)
    (λ x. cond_both (ltb k 6) _ _ (reader.Keeps n) (λ t. reader.keeps_then n (read_parameters entries (k + 1) ss n) (λ xs n. made (x ∷ xs) n) (names_none entries (k + 1) ss n) (λ xs. refl)) (λ f. tt))

pub keeps_parameter_list : (entries : ℕ) (s : Sexp) (n : Tally) → reader.Keeps n (read_parameter_list entries s n)
keeps_parameter_list entries (atom k p w) n = tt
keeps_parameter_list entries (list shape p ss q) n = names_none entries 0 ss n
