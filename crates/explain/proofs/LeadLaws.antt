-- What stands before a place on its line is how the line around the place begins.
use Rattle.std.proofs.Common.{◌≡◌, ℕ, ◌+◌, ◌-◌, ◌<◌, ◌≤◌, Bool, true, not, List, ◌++◌, reverse, length, get_or, take, drop, sym, refl, ap, ◌∙◌, arith, length-drop}
use Rattle.std.specs.Bool.{◌==◌}
use Rattle.std.specs.List.{prefix_len, suffix_len}
use Rattle.std.proofs.lemmas.Bool.Decides.{nat_tests}
use Rattle.std.proofs.lemmas.List.{drop-append-le, take-append-drop, take_at, take-take, get_or-drop, get_or-reverse}
use Rattle.std.proofs.lemmas.List.Folds.{prefix_len-append}
use Rattle.std.proofs.lemmas.List.Sums.{prefix_len_is, prefix_len_passes, suffix_len-le-length}
use Rattle.explain.specs.Lines.{newline_since, leading_line, line_start, lead_of, around_line}

abbrev other : ℕ → Bool
other b = not (b == 10)

-- no more bytes follow the last newline than there are
pub since_within : (s : List ℕ) → newline_since s ≤ length s
since_within = suffix_len-le-length other

-- none of the bytes since the last newline is one
since : (s : List ℕ) (j : ℕ) → j < suffix_len other s → other (get_or (drop (length s - suffix_len other s) s) j 0) ≡ true
since s j lt =
    let k = suffix_len other s in
    let most = suffix_len-le-length other s in
    let at = get_or-reverse s (k - 1 - j) 0 (omega arith) in
    let same : length s - 1 - (k - 1 - j) ≡ length s - k + j = omega arith in
    ap other (get_or-drop (length s - k) s j 0 ∙ ap (λ i. get_or s i 0) (sym same) ∙ sym at) ∙ prefix_len_passes other (reverse s) (k - 1 - j) 0 (omega arith)

-- so they go on into what follows them
past : (p s : List ℕ) → ((j : ℕ) → j < length p → other (get_or p j 0) ≡ true) → length p ≤ prefix_len other (p ++ s)
past p s f =
    let whole : prefix_len other p ≡ length p = prefix_len_is other p (length p) 0 (omega arith) f (λ lt. absurd (omega arith)) in
    grind (arith, nat_tests, prefix_len-append other p s, whole)

pub begins : (text : List ℕ) (place : ℕ) → take (length (lead_of text place)) (around_line text place) ≡ lead_of text place
begins text place =
    let front = take place text in
    let start = line_start text place in
    let lead = lead_of text place in
    let rest = drop place text in
    let most = suffix_len-le-length other front in
    let at : drop start text ≡ lead ++ rest = ap (drop start) (sym (take-append-drop place text)) ∙ drop-append-le start front rest (omega arith) in
    let clean : (j : ℕ) → j < length lead → other (get_or lead j 0) ≡ true = λ j lt. since front j (omega (arith, length-drop start front)) in
    ap (λ (line : List ℕ). take (length lead) (leading_line line)) at
    ∙ take-take (length lead) (prefix_len other (lead ++ rest)) (lead ++ rest) (past lead rest clean)
    ∙ take_at lead rest (length lead) refl
