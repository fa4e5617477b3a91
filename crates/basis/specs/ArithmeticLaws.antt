-- What the arithmetic of the basis answers, in words that compute nothing.
use Rattle.std.specs.Prelude.{◌≡◌, ℕ, ◌+◌, ◌*◌, ◌^◌, ◌<◌, ℤ, pos, negsuc, ◌+ℤ◌, ◌*ℤ◌, ◌≤ℤ◌, Ok, Err, Result, ◌≢◌, unsigned_abs}
use Rattle.basis.specs.Arithmetic.{bits_of}
use Rattle.basis.specs.declared.fault.ArithmeticFault.{ArithmeticFault}
use Rattle.basis.specs.declared.fault.ArithmeticFault.TheVariants.{ZeroDivisor, BadShift}

-- r is the int that is congruent to z modulo 2 ^ 32
pub record Wraps (z r : ℤ) : Type 0 where
  pub least : negsuc 2147483647 ≤ℤ r
  pub greatest : r ≤ℤ pos 2147483647
  pub congruent : (j : ℕ) × (k : ℕ) × (r +ℤ pos (j * 2 ^ 32) ≡ z +ℤ pos (k * 2 ^ 32))

-- a divided by b is q, and r is left: r is smaller than b, and not on the other side of 0 than a
pub record Divides (a b q r : ℤ) : Type 0 where
  pub whole : a ≡ (q *ℤ b) +ℤ r
  pub small : unsigned_abs r < unsigned_abs b
  pub above : pos 0 ≤ℤ a → pos 0 ≤ℤ r
  pub below : a ≤ℤ pos 0 → r ≤ℤ pos 0

-- the only division whose quotient is no int
pub record Overflows (a b : ℤ) : Type 0 where
  pub least : a ≡ negsuc 2147483647
  pub minus_one : b ≡ negsuc 0

-- 0 divides nothing, and only 0 is refused
abbrev pub Refuses : ℤ → ArithmeticFault → Type 0
Refuses b fault = (b ≡ pos 0) × (fault ≡ ZeroDivisor)

abbrev pub QuotientLaw : ℤ → ℤ → Result ℤ ArithmeticFault → Type 0
QuotientLaw a b (Err fault) = Refuses b fault
QuotientLaw a b (Ok q) = (b ≢ pos 0) × ((Overflows a b → ⊥) → (r : ℤ) × Divides a b q r) × (Overflows a b → q ≡ a)

abbrev pub RemainderLaw : ℤ → ℤ → Result ℤ ArithmeticFault → Type 0
RemainderLaw a b (Err fault) = Refuses b fault
RemainderLaw a b (Ok r) = (b ≢ pos 0) × ((q : ℤ) × Divides a b q r)

-- the same on the bits, read as numbers from 0 to 4294967295
abbrev pub UnsignedQuotientLaw : ℤ → ℤ → Result ℤ ArithmeticFault → Type 0
UnsignedQuotientLaw a b (Err fault) = Refuses b fault
UnsignedQuotientLaw a b (Ok q) = (r : ℕ) × (r < bits_of b) × (bits_of a ≡ bits_of q * bits_of b + r)

abbrev pub UnsignedRemainderLaw : ℤ → ℤ → Result ℤ ArithmeticFault → Type 0
UnsignedRemainderLaw a b (Err fault) = Refuses b fault
UnsignedRemainderLaw a b (Ok r) = (q : ℕ) × (bits_of r < bits_of b) × (bits_of a ≡ q * bits_of b + bits_of r)

-- an amount by which an int can be shifted
pub record Amount (amount : ℤ) (k : ℕ) : Type 0 where
  pub is : amount ≡ pos k
  pub small : k < 32

abbrev pub RefusesAmount : ℤ → ArithmeticFault → Type 0
RefusesAmount amount fault = ((k : ℕ) → Amount amount k → ⊥) × (fault ≡ BadShift)

-- by k: a times 2 ^ k, wrapped
abbrev pub LeftShiftLaw : ℤ → ℤ → Result ℤ ArithmeticFault → Type 0
LeftShiftLaw a amount (Err fault) = RefusesAmount amount fault
LeftShiftLaw a amount (Ok r) = (k : ℕ) × Amount amount k × Wraps (a *ℤ pos (2 ^ k)) r

-- by k: a divided by 2 ^ k, rounded down
abbrev pub RightShiftLaw : ℤ → ℤ → Result ℤ ArithmeticFault → Type 0
RightShiftLaw a amount (Err fault) = RefusesAmount amount fault
RightShiftLaw a amount (Ok r) = (k : ℕ) × Amount amount k × ((m : ℕ) × (m < 2 ^ k) × (a ≡ (r *ℤ pos (2 ^ k)) +ℤ pos m))
