-- The tables that a script leaves, from blank ones.
use Rattle.std.proofs.Common.{◌≡◌, ℕ, zero, suc, ◌+◌, ◌-◌, ◌≤◌, Bool, true, false, cond, ◌&&◌, List, [], ◌∷◌, ◌++◌, map, length, take, drop, replicate, set, sym, refl, ap, ◌∙◌, subst, add-zero, arith}
use Rattle.std.proofs.lemmas.List.{append_assoc, length-append, length-map, take_at, drop-replicate}
use Rattle.std.specs.Str.{bytes_eq}
use Rattle.grammar.specs.Limits.{nodes_of, total}
use Rattle.grammar.specs.Trees as tree
use Rattle.grammar.specs.Trees.{Ident, Script}
use Rattle.layout.specs.Tabling.{none, after, after_all, parameter_types, definition_row, constructor_row, parameter_row, type_row, node_row, rows, Entry, is_none, fits, given, placed, bare, noted, noted_all, function_entry, filled, unused_word, unused_constructor, unused_function, tables_of}
use Rattle.layout.specs.TypeEncoding.{unused_type}
use Rattle.layout.specs.Words.{word}
use Rattle.layout.specs.declared.counts.Counts.{Counts}
use Rattle.layout.specs.declared.definition.Constructor.{Constructor}
use Rattle.layout.specs.declared.definition.Definition.{Definition}
use Rattle.layout.specs.declared.definition.Definition.TheVariants as definition
use Rattle.layout.specs.declared.function.Function.{Function}
use Rattle.layout.specs.declared.function.Functions.{Functions}
use Rattle.layout.specs.declared.function.Half.{Half}
use Rattle.layout.specs.declared.function.Half.TheVariants.{Annotation, Define}
use Rattle.layout.specs.declared.tables.Tables.{Tables}
use Rattle.layout.specs.declared.type_node.TypeNode.{TypeNode}
use Rattle.layout.specs.declared.word.Word.{Word}
use Rattle.layout.proofs.InText.{NameIn, DefinitionIn, ScriptIn}
use Rattle.layout.proofs.ScriptStanding.{length_definition, length_constructed, length_typed, length_nodes}
use Rattle.forms.specs.Progress.{puts}
use Rattle.parser.specs.Defining.{Bounded, noted_with, noted_with_all, Defined}
use Rattle.names.specs.Parts.{part_of}
use Rattle.parser.specs.Noting.{fits_word, given_word, bare_word, noted_in}

-- Entries written from the start into unused ones stand before the others.
module _ {E : Type 0} (x : E) where
  set_first : (front : List E) (m : ℕ) (y : E) → set (front ++ replicate (suc m) x) (length front) y ≡ (front ++ y ∷ []) ++ replicate m x
  set_first [] m y = refl
  set_first (z ∷ front) m y = ap (λ l. z ∷ l) (set_first front m y)

  puts_behind : (front xs : List E) (m : ℕ) → length xs ≤ m → puts (front ++ replicate m x) (length front) xs ≡ front ++ (xs ++ replicate (m - length xs) x)
  puts_behind front [] m le = let same : m ≡ m - 0 = omega arith in ap (λ k. front ++ replicate k x) same
  puts_behind front (y ∷ ys) zero le = absurd (let h : suc (length ys) ≤ 0 = le in omega arith)
  puts_behind front (y ∷ ys) (suc m) le =
      let more : length front + 1 ≡ length (front ++ y ∷ []) = omega (arith, length-append front (y ∷ [])) in
      let fewer : m - length ys ≡ suc m - suc (length ys) = omega arith in
      ap (λ l. puts l (length front + 1) ys) (set_first front m y)
      ∙ ap (λ j. puts ((front ++ y ∷ []) ++ replicate m x) j ys) more
      ∙ puts_behind (front ++ y ∷ []) ys m (omega arith)
      ∙ append_assoc front (y ∷ []) (ys ++ replicate (m - length ys) x)
      ∙ ap (λ k. front ++ (y ∷ (ys ++ replicate k x))) fewer

  pub puts_filled : (n : ℕ) (xs : List E) → length xs ≤ n → puts (replicate n x) 0 xs ≡ filled n x xs
  puts_filled n xs le = puts_behind [] xs n le

-- As many rows as are counted.
module _ {E : Type 0} (row : Counts → tree.Definition → List E) (count : Counts → ℕ) (size : (c : Counts) (d : tree.Definition) → count (after c d) ≡ count c + length (row c d)) where
  rows_size : (c : Counts) (ds : Script) → count (after_all c ds) ≡ count c + length (rows row c ds)
  rows_size c [] = sym (add-zero (count c))
  rows_size c (d ∷ ds) = let one = size c d in let more = rows_size (after c d) ds in omega (arith, length-append (row c d) (rows row (after c d) ds))

pub rows_nodes : (number : ℕ → List ℕ → ℕ) (c : Counts) (ds : Script) → length (rows (node_row number) c ds) ≡ total nodes_of ds
rows_nodes number c [] = refl
rows_nodes number c (d ∷ ds) = omega (arith, length-append (node_row number c d) (rows (node_row number) (after c d) ds), length_nodes number c d, rows_nodes number (after c d) ds)

pub nodes_counted : (c : Counts) (ds : Script) → (after_all c ds).nodes ≡ c.nodes + total nodes_of ds
nodes_counted c [] = sym (add-zero c.nodes)
nodes_counted c (d ∷ ds) = let more = nodes_counted (after c d) ds in omega arith

placed_more : {E : Type 0} (test : E → Bool) (fill : E → E) (new : E) (xs : List E) → length xs ≤ length (placed test fill new xs)
placed_more test fill new [] = omega arith
placed_more test fill new (x ∷ xs) = go (test x) (placed_more test fill new xs)
  where
    go : (b : Bool) → length xs ≤ length (placed test fill new xs) → suc (length xs) ≤ length (cond b (fill x ∷ xs) (x ∷ placed test fill new xs))
    go true h = omega arith
    go false h = omega arith

drop_over : {E : Type 0} (xs ys : List E) (n : ℕ) → length xs ≤ n → drop n (xs ++ ys) ≡ drop (n - length xs) ys
drop_over [] ys n le = let same : n ≡ n - 0 = omega arith in ap (λ m. drop m ys) same
drop_over (x ∷ xs) ys zero le = absurd (let h : suc (length xs) ≤ 0 = le in omega arith)
drop_over (x ∷ xs) ys (suc n) le = let same : n - length xs ≡ suc n - suc (length xs) = omega arith in drop_over xs ys n (omega arith) ∙ ap (λ m. drop m ys) same

-- Functions: a name in the text is the part that its word is.
module _ (text : List ℕ) where
  abbrev AllIn : List Entry → Type 0
  AllIn [] = Unit {0}
  AllIn (f ∷ fs) = (part_of text (word f.name) ≡ f.name.bytes) × AllIn fs

  is_part : (x : Ident) → NameIn text x → part_of text (word x) ≡ x.bytes
  is_part x s = s.bytes_are

  fits_same : (half : Half) (x : Ident) (f : Entry) → part_of text (word x) ≡ x.bytes → part_of text (word f.name) ≡ f.name.bytes → fits_word text half (word x) (function_entry f) ≡ fits half x f
  fits_same Annotation x f p q = ap (λ w. is_none f.annotation && bytes_eq w (part_of text (word x))) q ∙ ap (λ w. is_none f.annotation && bytes_eq f.name.bytes w) p
  fits_same Define x f p q = ap (λ w. is_none f.define && bytes_eq w (part_of text (word x))) q ∙ ap (λ w. is_none f.define && bytes_eq f.name.bytes w) p

  given_same : (half : Half) (k : ℕ) (f : Entry) → function_entry (given half k f) ≡ given_word half k (function_entry f)
  given_same Annotation k f = refl
  given_same Define k f = refl

  placed_same : (half : Half) (x : Ident) (k : ℕ) (fs : List Entry) → part_of text (word x) ≡ x.bytes → AllIn fs
      → placed (fits_word text half (word x)) (given_word half k) (bare_word (word x)) (map function_entry fs) ≡ map function_entry (placed (fits half x) (given half k) (bare x) fs)
  placed_same half x k [] p a = ap (λ f. f ∷ []) (sym (given_same half k (bare x)))
  placed_same half x k (f ∷ fs) p a =
      ap (λ b. cond b (given_word half k (function_entry f) ∷ map function_entry fs) (function_entry f ∷ placed (fits_word text half (word x)) (given_word half k) (bare_word (word x)) (map function_entry fs))) (fits_same half x f p a.0)
      ∙ go (fits half x f) (placed_same half x k fs p a.1)
    where
      go : (b : Bool) → placed (fits_word text half (word x)) (given_word half k) (bare_word (word x)) (map function_entry fs) ≡ map function_entry (placed (fits half x) (given half k) (bare x) fs)
          → cond b (given_word half k (function_entry f) ∷ map function_entry fs) (function_entry f ∷ placed (fits_word text half (word x)) (given_word half k) (bare_word (word x)) (map function_entry fs))
          ≡ map function_entry (cond b (given half k f ∷ fs) (f ∷ placed (fits half x) (given half k) (bare x) fs))
      go true h = ap (λ g. g ∷ map function_entry fs) (sym (given_same half k f))
      go false h = ap (λ l. function_entry f ∷ l) h

  placed_in : (half : Half) (x : Ident) (k : ℕ) (fs : List Entry) → part_of text (word x) ≡ x.bytes → AllIn fs → AllIn (placed (fits half x) (given half k) (bare x) fs)
  placed_in half x k [] p a = (given_in half, tt)
    where
      given_in : (half : Half) → part_of text (word (given half k (bare x)).name) ≡ (given half k (bare x)).name.bytes
      given_in Annotation = p
      given_in Define = p
  placed_in half x k (f ∷ fs) p a = go (fits half x f) half (placed_in half x k fs p a.1)
    where
      go : (b : Bool) (h : Half) → AllIn (placed (fits half x) (given half k) (bare x) fs) → AllIn (cond b (given h k f ∷ fs) (f ∷ placed (fits half x) (given half k) (bare x) fs))
      go true Annotation more = (a.0, a.1)
      go true Define more = (a.0, a.1)
      go false h more = (a.0, more)

  abbrev functions_of : ℕ → List Function → Functions
  functions_of n fs = record { count = n; entries = fs }

  -- the table that has these entries
  abbrev table_of : List Function → Functions
  table_of fs = record { count = length fs; entries = filled 768 unused_function fs }

  drop_filled : (xs : List Function) (n : ℕ) → length xs ≤ n → drop n (filled 768 unused_function xs) ≡ replicate (768 - n) unused_function
  drop_filled xs n le =
      let rest : 768 - length xs - (n - length xs) ≡ 768 - n = omega arith in
      drop_over xs (replicate (768 - length xs) unused_function) n le ∙ drop-replicate (n - length xs) (768 - length xs) unused_function ∙ ap (λ m. replicate m unused_function) rest

  noted_table : (half : Half) (x : Ident) (k : ℕ) (fs : List Entry) → part_of text (word x) ≡ x.bytes → AllIn fs → noted_in text half (word x) k (table_of (map function_entry fs)) ≡ table_of (map function_entry (placed (fits half x) (given half k) (bare x) fs))
  noted_table half x k fs p a =
      let used = map function_entry fs in
      let test = fits_word text half (word x) in
      let fill = given_word half k in
      let new = bare_word (word x) in
      let then = map function_entry (placed (fits half x) (given half k) (bare x) fs) in
      let front : take (length used) (filled 768 unused_function used) ≡ used = take_at used (replicate (768 - length used) unused_function) (length used) refl in
      let same : placed test fill new (take (length used) (filled 768 unused_function used)) ≡ then = ap (placed test fill new) front ∙ placed_same half x k fs p a in
      let more : length used ≤ length then = subst (λ l. length used ≤ length l) (placed_same half x k fs p a) (placed_more test fill new used) in
      ap (λ (l : List Function). functions_of (length l) (l ++ drop (length l) (filled 768 unused_function used))) same
      ∙ ap (λ l. functions_of (length then) (then ++ l)) (drop_filled used (length then) more)

  noted_with_it : (k : ℕ) (d : tree.Definition) (fs : List Entry) → DefinitionIn text d → AllIn fs → noted_with text k d (table_of (map function_entry fs)) ≡ table_of (map function_entry (noted k d fs))
  noted_with_it k (tree.datatype_definition p x cs) fs s a = refl
  noted_with_it k (tree.type_annotation p x t) fs s a = noted_table Annotation x k fs (is_part x s.0) a
  noted_with_it k (tree.function_definition p x xs e) fs s a = noted_table Define x k fs (is_part x s.0) a
  noted_with_it k (tree.val_binding p x e) fs s a = refl

  noted_in_text : (k : ℕ) (d : tree.Definition) (fs : List Entry) → DefinitionIn text d → AllIn fs → AllIn (noted k d fs)
  noted_in_text k (tree.datatype_definition p x cs) fs s a = a
  noted_in_text k (tree.type_annotation p x t) fs s a = placed_in Annotation x k fs (is_part x s.0) a
  noted_in_text k (tree.function_definition p x xs e) fs s a = placed_in Define x k fs (is_part x s.0) a
  noted_in_text k (tree.val_binding p x e) fs s a = a

  pub noted_with_all_of : (k : ℕ) (ds : Script) (fs : List Entry) → ScriptIn text ds → AllIn fs → noted_with_all text k ds (table_of (map function_entry fs)) ≡ table_of (map function_entry (noted_all k ds fs))
  noted_with_all_of k [] fs s a = refl
  noted_with_all_of k (d ∷ ds) fs s a = ap (noted_with_all text (k + 1) ds) (noted_with_it k d fs s.0 a) ∙ noted_with_all_of (k + 1) ds (noted k d fs) s.1 (noted_in_text k d fs s.0 a)

-- the tables of a script: from blank ones, within their bounds
module _ (text : List ℕ) (t : Tables) (ds : Script) (bounds : Bounded t) (defined : Defined text (tables_of []) t ds) (in_text : ScriptIn text ds) where
  abbrev tables_with : Counts → List Definition → List Constructor → List Word → List TypeNode → Functions → Tables
  tables_with c d k p y f = record { counts = c; definitions = d; constructors = k; parameters = p; types = y; functions = f }

  counted_all : t.counts ≡ after_all none ds
  counted_all = defined.counts

  definitions_fit : length (rows definition_row none ds) ≤ 832
  definitions_fit =
      let size = rows_size definition_row (λ c. c.definitions) (λ c d. ap (λ n. c.definitions + n) (sym (length_definition c d))) none ds in
      let is : t.counts.definitions ≡ (after_all none ds).definitions = ap (λ c. c.definitions) counted_all in
      let b = bounds.definitions in
      let types = bounds.types in
      let bindings = bounds.bindings in
      let datatypes = bounds.datatypes in
      omega arith

  constructors_fit : length (rows constructor_row none ds) ≤ 256
  constructors_fit =
      let size = rows_size constructor_row (λ c. c.constructors) (λ c d. ap (λ n. c.constructors + n) (sym (length_constructed c d))) none ds in
      let is : t.counts.constructors ≡ (after_all none ds).constructors = ap (λ c. c.constructors) counted_all in
      let b = bounds.constructors in
      omega arith

  parameters_fit : length (rows parameter_row none ds) ≤ 1536
  parameters_fit =
      let size = rows_size parameter_row (λ c. c.parameters) (λ c d. ap (λ n. c.parameters + n) (sym (length-map (parameter_types d) word))) none ds in
      let is : t.counts.parameters ≡ (after_all none ds).parameters = ap (λ c. c.parameters) counted_all in
      let b = bounds.parameters in
      let bindings = bounds.bindings in
      omega arith

  types_fit : length (rows type_row none ds) ≤ 512
  types_fit =
      let size = rows_size type_row (λ c. c.types) (λ c d. ap (λ n. c.types + n) (sym (length_typed c d))) none ds in
      let is : t.counts.types ≡ (after_all none ds).types = ap (λ c. c.types) counted_all in
      let b = bounds.types in
      omega arith

  pub tables_are : t ≡ tables_of ds
  tables_are =
      ap (λ x. tables_with x t.definitions t.constructors t.parameters t.types t.functions) defined.counts
      ∙ ap (λ x. tables_with (after_all none ds) x t.constructors t.parameters t.types t.functions) (defined.definitions ∙ puts_filled definition.Unused 832 (rows definition_row none ds) definitions_fit)
      ∙ ap (λ x. tables_with (after_all none ds) (tables_of ds).definitions x t.parameters t.types t.functions) (defined.constructors ∙ puts_filled unused_constructor 256 (rows constructor_row none ds) constructors_fit)
      ∙ ap (λ x. tables_with (after_all none ds) (tables_of ds).definitions (tables_of ds).constructors x t.types t.functions) (defined.parameters ∙ puts_filled unused_word 1536 (rows parameter_row none ds) parameters_fit)
      ∙ ap (λ x. tables_with (after_all none ds) (tables_of ds).definitions (tables_of ds).constructors (tables_of ds).parameters x t.functions) (defined.types ∙ puts_filled unused_type 512 (rows type_row none ds) types_fit)
      ∙ ap (λ x. tables_with (after_all none ds) (tables_of ds).definitions (tables_of ds).constructors (tables_of ds).parameters (tables_of ds).types x) (defined.functions ∙ noted_with_all_of text 0 ds [] in_text tt)
