-- Reading step by step: what holds of all that is made, and when something is made.
use Rattle.std.proofs.Common.{◌≡◌, ℕ, ◌+◌, ◌<◌, ◌≤◌, min, Bool, true, false, cond, ltb, refl, arith, ltb-true, lt-ltb}
use native.Mathlib.Nat.{min-le_left, min-le_right, le-min}
use Rattle.text.specs.Scans.{refused_at}
use Rattle.text.specs.declared.refusal.Refusal.TheVariants as refusal
use Rattle.text.specs.declared.refusal.Refused.{Refused}
use Rattle.grammar.specs.Reading.{Tally, Outcome, refused, made, and_then, over_limit, count_type, count_binding, count_datatype, count_constructor, count_node}

-- from one tally to the next so many of each were used
pub record Used (n m : Tally) (nodes types bindings datatypes constructors : ℕ) : Type 0 where
  pub more_nodes : m.nodes ≡ n.nodes + nodes
  pub more_types : m.types ≡ n.types + types
  pub more_bindings : m.bindings ≡ n.bindings + bindings
  pub more_datatypes : m.datatypes ≡ n.datatypes + datatypes
  pub more_constructors : m.constructors ≡ n.constructors + constructors

-- so many more of each pass no limit
pub record Room (entries : ℕ) (n : Tally) (nodes types bindings datatypes constructors : ℕ) : Type 0 where
  pub for_nodes : n.nodes + nodes ≤ 4096
  pub for_entries : n.nodes + nodes ≤ entries
  pub for_types : n.types + types ≤ 512
  pub for_bindings : n.bindings + bindings ≤ 256
  pub for_datatypes : n.datatypes + datatypes ≤ 64
  pub for_constructors : n.constructors + constructors ≤ 256

abbrev pub Fits : ℕ → Tally → Type 0
Fits entries n = Room entries n 0 0 0 0 0

pub used_none : {n : Tally} → Used n n 0 0 0 0 0
used_none = record { more_nodes = omega arith; more_types = omega arith; more_bindings = omega arith; more_datatypes = omega arith; more_constructors = omega arith }

pub used_then : {n m o : Tally} {a b c d e a' b' c' d' e' : ℕ} → Used n m a b c d e → Used m o a' b' c' d' e' → Used n o (a + a') (b + b') (c + c') (d + d') (e + e')
used_then u v = record { more_nodes = omega arith; more_types = omega arith; more_bindings = omega arith; more_datatypes = omega arith; more_constructors = omega arith }

pub used_same : {n m : Tally} {a b c d e a' b' c' d' e' : ℕ} → Used n m a b c d e → a ≡ a' → b ≡ b' → c ≡ c' → d ≡ d' → e ≡ e' → Used n m a' b' c' d' e'
used_same u p q r s t = record { more_nodes = omega arith; more_types = omega arith; more_bindings = omega arith; more_datatypes = omega arith; more_constructors = omega arith }

-- nodes alone, and type expressions alone
pub nodes_then : {n m o : Tally} {a b : ℕ} → Used n m a 0 0 0 0 → Used m o b 0 0 0 0 → Used n o (a + b) 0 0 0 0
nodes_then u v = record { more_nodes = omega arith; more_types = omega arith; more_bindings = omega arith; more_datatypes = omega arith; more_constructors = omega arith }

pub types_then : {n m o : Tally} {a b : ℕ} → Used n m 0 a 0 0 0 → Used m o 0 b 0 0 0 → Used n o 0 (a + b) 0 0 0
types_then u v = record { more_nodes = omega arith; more_types = omega arith; more_bindings = omega arith; more_datatypes = omega arith; more_constructors = omega arith }

-- room that is left
pub room : {entries : ℕ} {n m : Tally} {a b c d e a' b' c' d' e' a'' b'' c'' d'' e'' : ℕ} → Used n m a b c d e → Room entries n a'' b'' c'' d'' e''
    → a + a' ≤ a'' → b + b' ≤ b'' → c + c' ≤ c'' → d + d' ≤ d'' → e + e' ≤ e'' → Room entries m a' b' c' d' e'
room u r p q s t v = record { for_nodes = omega arith; for_entries = omega arith; for_types = omega arith; for_bindings = omega arith; for_datatypes = omega arith; for_constructors = omega arith }

pub nodes_room : {entries : ℕ} {n m : Tally} {a b c : ℕ} → Used n m a 0 0 0 0 → Room entries n c 0 0 0 0 → a + b ≤ c → Room entries m b 0 0 0 0
nodes_room u r h = record { for_nodes = omega arith; for_entries = omega arith; for_types = omega arith; for_bindings = omega arith; for_datatypes = omega arith; for_constructors = omega arith }

pub types_room : {entries : ℕ} {n m : Tally} {a b c : ℕ} → Used n m 0 a 0 0 0 → Room entries n 0 c 0 0 0 → a + b ≤ c → Room entries m 0 b 0 0 0
types_room u r h = record { for_nodes = omega arith; for_entries = omega arith; for_types = omega arith; for_bindings = omega arith; for_datatypes = omega arith; for_constructors = omega arith }

-- what is read is as it should be, has so many nodes and type expressions, and passes no limit
pub record Read {X : Type 0} (D : X → Type 0) (nodes types : X → ℕ) (entries : ℕ) (n : Tally) (x : X) (m : Tally) : Type 0 where
  pub derived : D x
  pub used : Used n m (nodes x) (types x) 0 0 0
  pub fits : Fits entries m

-- this is read
pub record Same {X : Type 0} (x : X) (nodes types : ℕ) (n : Tally) (y : X) (m : Tally) : Type 0 where
  pub same : y ≡ x
  pub used : Used n m nodes types 0 0 0

-- none of what is counted
abbrev pub none : {X : Type 0} → X → ℕ
none x = 0

-- All that is made is so.
pub data Holds {X : Type 0} (Q : X → Tally → Type 0) : Outcome X → Type 0 where
  not_made : {r : Refused} → Holds Q (refused r)
  holds : {x : X} {n : Tally} → Q x n → Holds Q (made x n)

pub holds_then : {X Y : Type 0} {Q : X → Tally → Type 0} {R : Y → Tally → Type 0} {o : Outcome X} {f : X → Tally → Outcome Y}
    → Holds Q o → ((x : X) (n : Tally) → Q x n → Holds R (f x n)) → Holds R (and_then o f)
holds_then not_made g = not_made
holds_then (holds q) g = g _ _ q

pub holds_so : {X : Type 0} {Q R : X → Tally → Type 0} {o : Outcome X} → Holds Q o → ((x : X) (n : Tally) → Q x n → R x n) → Holds R o
holds_so not_made g = not_made
holds_so (holds q) g = holds (g _ _ q)

-- Something is made, and it is so.
pub data Makes {X : Type 0} (Q : X → Tally → Type 0) : Outcome X → Type 0 where
  makes : {x : X} {n : Tally} → Q x n → Makes Q (made x n)

pub makes_then : {X Y : Type 0} {Q : X → Tally → Type 0} {R : Y → Tally → Type 0} {o : Outcome X} {f : X → Tally → Outcome Y}
    → Makes Q o → ((x : X) (n : Tally) → Q x n → Makes R (f x n)) → Makes R (and_then o f)
makes_then (makes q) g = g _ _ q

-- The tests of the limits.
holds_test : {X : Type 0} {R : X → Tally → Type 0} (a b : ℕ) (o : Outcome X) (r : Refused) → (a < b → Holds R o) → Holds R (cond (ltb a b) o (refused r))
holds_test {R = R} a b o r g = go (ltb a b) refl
  where
    go : (t : Bool) → ltb a b ≡ t → Holds R (cond t o (refused r))
    go true e = g (ltb-true a b e)
    go false e = not_made

makes_test : {X : Type 0} {R : X → Tally → Type 0} (a b : ℕ) (o other : Outcome X) → a < b → Makes R o → Makes R (cond (ltb a b) o other)
makes_test a b o other h m = rw (lt-ltb a b h) m

abbrev one_node : Tally → Tally
one_node n = record { nodes = n.nodes + 1; types = n.types; bindings = n.bindings; datatypes = n.datatypes; constructors = n.constructors }

module _ {X : Type 0} {R : X → Tally → Type 0} (entries : ℕ) (p : ℕ) (n : Tally) {next : Tally → Outcome X} where
  pub holds_type : Fits entries n → ((m : Tally) → Used n m 0 1 0 0 0 → Fits entries m → Holds R (next m)) → Holds R (count_type p n next)
  holds_type f g = holds_test n.types 512 _ _ (λ h. g _ record { more_nodes = omega arith; more_types = omega arith; more_bindings = omega arith; more_datatypes = omega arith; more_constructors = omega arith } record { for_nodes = omega arith; for_entries = omega arith; for_types = omega arith; for_bindings = omega arith; for_datatypes = omega arith; for_constructors = omega arith })

  pub makes_type : Room entries n 0 1 0 0 0 → ((m : Tally) → Used n m 0 1 0 0 0 → Makes R (next m)) → Makes R (count_type p n next)
  makes_type r g = makes_test n.types 512 _ _ (omega arith) (g _ record { more_nodes = omega arith; more_types = omega arith; more_bindings = omega arith; more_datatypes = omega arith; more_constructors = omega arith })

  pub holds_binding : Fits entries n → ((m : Tally) → Used n m 0 0 1 0 0 → Fits entries m → Holds R (next m)) → Holds R (count_binding p n next)
  holds_binding f g = holds_test n.bindings 256 _ _ (λ h. g _ record { more_nodes = omega arith; more_types = omega arith; more_bindings = omega arith; more_datatypes = omega arith; more_constructors = omega arith } record { for_nodes = omega arith; for_entries = omega arith; for_types = omega arith; for_bindings = omega arith; for_datatypes = omega arith; for_constructors = omega arith })

  pub makes_binding : Room entries n 0 0 1 0 0 → ((m : Tally) → Used n m 0 0 1 0 0 → Makes R (next m)) → Makes R (count_binding p n next)
  makes_binding r g = makes_test n.bindings 256 _ _ (omega arith) (g _ record { more_nodes = omega arith; more_types = omega arith; more_bindings = omega arith; more_datatypes = omega arith; more_constructors = omega arith })

  pub holds_datatype : Fits entries n → ((m : Tally) → Used n m 0 0 0 1 0 → Fits entries m → Holds R (next m)) → Holds R (count_datatype p n next)
  holds_datatype f g = holds_test n.datatypes 64 _ _ (λ h. g _ record { more_nodes = omega arith; more_types = omega arith; more_bindings = omega arith; more_datatypes = omega arith; more_constructors = omega arith } record { for_nodes = omega arith; for_entries = omega arith; for_types = omega arith; for_bindings = omega arith; for_datatypes = omega arith; for_constructors = omega arith })

  pub makes_datatype : Room entries n 0 0 0 1 0 → ((m : Tally) → Used n m 0 0 0 1 0 → Makes R (next m)) → Makes R (count_datatype p n next)
  makes_datatype r g = makes_test n.datatypes 64 _ _ (omega arith) (g _ record { more_nodes = omega arith; more_types = omega arith; more_bindings = omega arith; more_datatypes = omega arith; more_constructors = omega arith })

  pub holds_constructor : Fits entries n → ((m : Tally) → Used n m 0 0 0 0 1 → Fits entries m → Holds R (next m)) → Holds R (count_constructor p n next)
  holds_constructor f g = holds_test n.constructors 256 _ _ (λ h. g _ record { more_nodes = omega arith; more_types = omega arith; more_bindings = omega arith; more_datatypes = omega arith; more_constructors = omega arith } record { for_nodes = omega arith; for_entries = omega arith; for_types = omega arith; for_bindings = omega arith; for_datatypes = omega arith; for_constructors = omega arith })

  pub makes_constructor : Room entries n 0 0 0 0 1 → ((m : Tally) → Used n m 0 0 0 0 1 → Makes R (next m)) → Makes R (count_constructor p n next)
  makes_constructor r g = makes_test n.constructors 256 _ _ (omega arith) (g _ record { more_nodes = omega arith; more_types = omega arith; more_bindings = omega arith; more_datatypes = omega arith; more_constructors = omega arith })

  pub holds_node : Fits entries n → ((m : Tally) → Used n m 1 0 0 0 0 → Fits entries m → Holds R (next m)) → Holds R (count_node entries p n next)
  holds_node f g = go (ltb n.nodes (min entries 4096)) refl
    where
      later : (t : Bool) → Holds R (cond t (refused (refused_at refusal.NodeList p)) (over_limit p))
      later true = not_made
      later false = not_made

      go : (t : Bool) → ltb n.nodes (min entries 4096) ≡ t → Holds R (cond t (next (one_node n)) (cond (ltb entries 4096) (refused (refused_at refusal.NodeList p)) (over_limit p)))
      go true e =
          let h = ltb-true n.nodes (min entries 4096) e in
          let a = min-le_left entries 4096 in
          let b = min-le_right entries 4096 in
          g (one_node n) record { more_nodes = omega arith; more_types = omega arith; more_bindings = omega arith; more_datatypes = omega arith; more_constructors = omega arith } record { for_nodes = omega arith; for_entries = omega arith; for_types = omega arith; for_bindings = omega arith; for_datatypes = omega arith; for_constructors = omega arith }
      go false e = later (ltb entries 4096)

  pub makes_node : Room entries n 1 0 0 0 0 → ((m : Tally) → Used n m 1 0 0 0 0 → Makes R (next m)) → Makes R (count_node entries p n next)
  makes_node r g =
      let h : n.nodes + 1 ≤ min entries 4096 = le-min (omega arith) (omega arith) in
      makes_test n.nodes (min entries 4096) _ _ (omega arith) (g _ record { more_nodes = omega arith; more_types = omega arith; more_bindings = omega arith; more_datatypes = omega arith; more_constructors = omega arith })
