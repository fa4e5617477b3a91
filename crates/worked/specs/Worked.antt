-- Worked scripts.
use Rattle.std.specs.Prelude.{◌≡◌, ℕ, List, [], ◌++◌, codes}
use Rattle.worked.specs.Fates.{refused, ended, faulted, fate}

-- a script whose main has this body
abbrev pub M : List ℕ → List ℕ
M body = codes "(: main (-> () unit)) (define main () " ++ (body ++ codes ")")

-- a script that prints this int
abbrev pub P : List ℕ → List ℕ
P body = M (codes "(print-int " ++ (body ++ codes ")"))

-- lists of ints, and their length
abbrev pub D : List ℕ → List ℕ
D rest = codes "(datatype l ([c (int l)] [n ()])) (: len (-> (l) int)) (define len (s) (case s [(c _ r) (+ 1 (len r))] [(n) 0])) " ++ rest

-- a function over such a list, beside a main
abbrev pub F : List ℕ → List ℕ
F body = D (codes "(: f (-> (l) int)) (define f (s) " ++ (body ++ (codes ") " ++ M (codes "unit"))))

pub record Worked : Type 0 where
  pub unit : fate 1000 (M (codes "unit")) ≡ ended [] 3
  pub sum : fate 1000 (P (codes "(+ 2 3)")) ≡ ended (codes "5") 13
  -- two cells serve, one does not
  pub length : fate 2 (D (P (codes "(len (c 7 (n)))"))) ≡ ended (codes "1") 37
  pub short : fate 1 (D (P (codes "(len (c 7 (n)))"))) ≡ faulted 34 167 (codes "main")
  -- a name is consumed once; a copy of it does not consume it
  pub twice : fate 1000 (F (codes "(begin (len s) (len s))")) ≡ refused 10 166
  pub copied : fate 1000 (F (codes "(begin (len (dup s)) (len s))")) ≡ ended [] 3
  -- a case need not have a branch for every constructor
  pub missing : fate 1000 (D (P (codes "(case (n) [(c k _) k])"))) ≡ faulted 31 162 (codes "main")
  -- integers have 32 bits
  pub large : fate 1000 (P (codes "2147483648")) ≡ refused 2 49
  pub least : fate 1000 (P (codes "-2147483648")) ≡ ended (codes "-2147483648") 7
  pub shift : fate 1000 (P (codes "(<< 1 32)")) ≡ faulted 33 49 (codes "<<")
  -- the input is empty: -1 is read
  pub input : fate 1000 (P (codes "(in)")) ≡ ended (codes "-1") 9
  pub empty : fate 1000 [] ≡ refused 11 0
