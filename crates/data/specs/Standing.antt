-- What values stand for in a store, and what a store keeps beside what it held before.
use Rattle.std.specs.Prelude.{◌≡◌, ℕ, Bool, List, [], ◌∷◌, ◌++◌, length, ℤ, Some, None, slice_set}
use Rattle.cells.specs.declared.values.Value.{Value}
use Rattle.cells.specs.declared.values.Value.TheVariants.{Int, Bool as Truth, Sym, Unit as Nothing, Function, Cell}
use Rattle.cells.specs.declared.records.CellRecord.{CellRecord}
use Rattle.cells.specs.Records.{row}
use Rattle.cells.specs.Meaning.{Cells, at}
use Rattle.data.specs.Trees.{Tree, Trees, int, bool, symbol, unit, function, built, none, more}

-- a plain value stands for itself, whatever the store holds
pub data Plain : Value → Tree → Type 0 where
  plain_int : {i : ℤ} → Plain (Int i) (int i)
  plain_bool : {b : Bool} → Plain (Truth b) (bool b)
  plain_symbol : {n : ℕ} → Plain (Sym n) (symbol n)
  plain_unit : Plain Nothing unit
  plain_function : {n : ℕ} → Plain (Function n) (function n)

mutual
  -- in the store m the value v stands for the tree t; its footprint is the list of the cells that it uses.
  -- A cell value stands for the constructor in its record, with what the fields of the record stand for.
  pub data Fills (m : Cells) : Value → Tree → List ℕ → Type 0 where
    fills_plain : {v : Value} {t : Tree} → Plain v t → Fills m v t []
    fills_cell : {n : ℕ} {fields : Trees} {ns : List ℕ} (r : CellRecord) → at m n ≡ Some r → FillsAll m (row r) fields ns → Fills m (Cell n) (built r.constructor fields) (n ∷ ns)

  -- values one by one, and their footprints one after another
  pub data FillsAll (m : Cells) : List Value → Trees → List ℕ → Type 0 where
    fills_none : FillsAll m [] none []
    fills_more : {v : Value} {vs : List Value} {t : Tree} {ts : Trees} {ks ns all : List ℕ} → Fills m v t ks → FillsAll m vs ts ns → all ≡ ks ++ ns → FillsAll m (v ∷ vs) (more t ts) all

-- a number is in a list
pub data Among (i : ℕ) : List ℕ → Type 0 where
  among_first : {n : ℕ} {ns : List ℕ} → i ≡ n → Among i (n ∷ ns)
  among_later : {n : ℕ} {ns : List ℕ} → Among i ns → Among i (n ∷ ns)

-- no number is in the list twice
pub data Distinct : List ℕ → Type 0 where
  distinct_none : Distinct []
  distinct_more : {n : ℕ} {ns : List ℕ} → (Among n ns → ⊥) → Distinct ns → Distinct (n ∷ ns)

-- the store m less the cells of a footprint
abbrev pub less : List ℕ → Cells → Cells
less [] m = m
less (n ∷ ns) m = slice_set (less ns m) n None

-- m holds what m₀ held, unchanged, and the trees that the values stand for: one cell for each constructor,
-- filled with it and its fields, a field of data by its cell; these cells were free in m₀, and none serves twice
pub record Keeps (m₀ m : Cells) (vs : List Value) (ts : Trees) : Type 0 where
  pub long : length m ≡ length m₀
  pub footprint : List ℕ
  pub fills : FillsAll m vs ts footprint
  pub distinct : Distinct footprint
  pub new : (i : ℕ) → Among i footprint → at m₀ i ≡ None
  pub others : (i : ℕ) → (Among i footprint → ⊥) → at m i ≡ at m₀ i
