use Rattle.std.proofs.Common.{◌≡◌, ℕ, suc, ◌<◌, ◌≤◌, List, [], ◌∷◌, length, get_or, drop, codes, sym, ap, ◌∙◌, arith, rules, drop-cons}
use Rattle.std.proofs.lemmas.List.{drop_all}
use Rattle.text.specs.Keywords.{keyword_spelt}
use Rattle.text.proofs.keyword.keyword_of.Goals as goal

-- from a place on: the byte there and what follows it
from : (w : List ℕ) (i : ℕ) {b : ℕ} {s : List ℕ} → i < length w → get_or w i 0 ≡ b → drop (suc i) w ≡ s → drop i w ≡ b ∷ s
from w i {b} {s} lt e r = drop-cons w i 0 lt ∙ ap (λ x. x ∷ drop (suc i) w) e ∙ ap (λ x. b ∷ x) r

-- a word of so many bytes from its bytes
four : {a b c d : ℕ} (w : List ℕ) → 4 ≤ length w → length w < 5
    → get_or w 0 0 ≡ a → get_or w 1 0 ≡ b → get_or w 2 0 ≡ c → get_or w 3 0 ≡ d
    → w ≡ a ∷ b ∷ c ∷ d ∷ []
four w l u e0 e1 e2 e3 = from w 0 (omega arith) e0 (from w 1 (omega arith) e1 (from w 2 (omega arith) e2 (from w 3 (omega arith) e3 (drop_all 4 w (omega arith)))))

five : {a b c d e : ℕ} (w : List ℕ) → 5 ≤ length w → length w < 6
    → get_or w 0 0 ≡ a → get_or w 1 0 ≡ b → get_or w 2 0 ≡ c → get_or w 3 0 ≡ d → get_or w 4 0 ≡ e
    → w ≡ a ∷ b ∷ c ∷ d ∷ e ∷ []
five w l u e0 e1 e2 e3 e4 = from w 0 (omega arith) e0 (from w 1 (omega arith) e1 (from w 2 (omega arith) e2 (from w 3 (omega arith) e3 (from w 4 (omega arith) e4 (drop_all 5 w (omega arith))))))

six : {a b c d e f : ℕ} (w : List ℕ) → 6 ≤ length w → length w < 7
    → get_or w 0 0 ≡ a → get_or w 1 0 ≡ b → get_or w 2 0 ≡ c → get_or w 3 0 ≡ d → get_or w 4 0 ≡ e → get_or w 5 0 ≡ f
    → w ≡ a ∷ b ∷ c ∷ d ∷ e ∷ f ∷ []
six w l u e0 e1 e2 e3 e4 e5 = from w 0 (omega arith) e0 (from w 1 (omega arith) e1 (from w 2 (omega arith) e2 (from w 3 (omega arith) e3 (from w 4 (omega arith) e4 (from w 5 (omega arith) e5 (drop_all 6 w (omega arith)))))))

eight : {a b c d e f g h : ℕ} (w : List ℕ) → 8 ≤ length w → length w < 9
    → get_or w 0 0 ≡ a → get_or w 1 0 ≡ b → get_or w 2 0 ≡ c → get_or w 3 0 ≡ d → get_or w 4 0 ≡ e → get_or w 5 0 ≡ f → get_or w 6 0 ≡ g → get_or w 7 0 ≡ h
    → w ≡ a ∷ b ∷ c ∷ d ∷ e ∷ f ∷ g ∷ h ∷ []
eight w l u e0 e1 e2 e3 e4 e5 e6 e7 = from w 0 (omega arith) e0 (from w 1 (omega arith) e1 (from w 2 (omega arith) e2 (from w 3 (omega arith) e3 (from w 4 (omega arith) e4 (from w 5 (omega arith) e5 (from w 6 (omega arith) e6 (from w 7 (omega arith) e7 (drop_all 8 w (omega arith)))))))))

pub returns-in-case : goal.returns-in-case
returns-in-case c = let is : c.args.word.now ≡ codes "case" = search (rules, four) in sym (ap keyword_spelt is)

pub returns-in-bool : goal.returns-in-bool
returns-in-bool c = let is : c.args.word.now ≡ codes "bool" = search (rules, four) in sym (ap keyword_spelt is)

pub returns-in-unit : goal.returns-in-unit
returns-in-unit c = let is : c.args.word.now ≡ codes "unit" = search (rules, four) in sym (ap keyword_spelt is)

pub returns-in-true : goal.returns-in-true
returns-in-true c = let is : c.args.word.now ≡ codes "true" = search (rules, four) in sym (ap keyword_spelt is)

pub returns-in-begin : goal.returns-in-begin
returns-in-begin c = let is : c.args.word.now ≡ codes "begin" = search (rules, five) in sym (ap keyword_spelt is)

pub returns-in-false : goal.returns-in-false
returns-in-false c = let is : c.args.word.now ≡ codes "false" = search (rules, five) in sym (ap keyword_spelt is)

pub returns-in-define : goal.returns-in-define
returns-in-define c = let is : c.args.word.now ≡ codes "define" = search (rules, six) in sym (ap keyword_spelt is)

pub returns-in-datatype : goal.returns-in-datatype
returns-in-datatype c = let is : c.args.word.now ≡ codes "datatype" = search (rules, eight) in sym (ap keyword_spelt is)
