-- A list of two parts, found or refused, and what a reader makes of it.
use Rattle.std.proofs.Common.{◌≡◌, ℕ, min, List, Ok, Err, sym, ap, ◌∙◌, subst}
use Rattle.text.specs.Scans.{refused_at}
use Rattle.text.specs.Tokens.{Lexed, lexed_from}
use Rattle.text.specs.declared.bracket.Bracket.{Bracket}
use Rattle.text.specs.declared.refusal.Refusal.TheVariants as refusal
use Rattle.text.specs.declared.refusal.Refused.{Refused}
use Rattle.text.specs.declared.token.TokenKind.TheVariants as kind
use Rattle.forms.specs.Looks.{Seen}
use Rattle.forms.specs.Rows.{closed_by}
use Rattle.forms.specs.Pairs.{Pair, Paired, pair_of}
use Rattle.forms.specs.Surveys.{surveyed}
use Rattle.forms.specs.declared.sight.Opened.{Opened}
use Rattle.grammar.specs.Forms.{Two, two}
use Rattle.grammar.specs.Reading.{Tally, Outcome}
use Rattle.grammar.specs.Sexps.{Sexp, list, Atoms, AllAtoms, place}
use Rattle.grammar.specs.Streams.{stream, count}
use Rattle.forms.proofs.FormLaws.{count_two, other_two}
use Rattle.forms.proofs.LookLaws.{Listed, is_list}
use Rattle.forms.proofs.SurveyLaws.{survey_list}

-- where a list begins, by its number of parts
module _ (text : List ℕ) (from : ℕ) (k : Bracket) (w : List ℕ) (o : Opened) (seen : Seen text from (kind.Open k) w o.place o.inside) (parts : ℕ) (is_parts : parts ≡ (surveyed (lexed_from text o.inside)).parts)
    (s : Sexp) (rest : Lexed) (e : lexed_from text from ≡ stream s rest) (a : Atoms s) where
  begun : Listed o.place (lexed_from text o.inside) s rest
  begun = is_list k o.place w (lexed_from text o.inside) s rest a (sym seen.follows ∙ e)

  counted : parts ≡ min 7 (count begun.parts)
  counted = is_parts ∙ ap (λ l. (surveyed l).parts) begun.inside ∙ ap (λ s. s.parts) (survey_list begun.parts begun.shape begun.end rest begun.atoms)

  pub two_parts : parts ≡ 2 → Paired text rest s (Ok o)
  two_parts h =
      let t = count_two begun.parts (sym counted ∙ h) in
      record {
        first = t.0;
        second = t.1.0;
        shape = begun.shape;
        end = begun.end;
        parts = ap pair_of begun.is ∙ ap (λ ss. pair_of (list begun.shape o.place ss begun.end)) t.1.1;
        begins = ap place begun.is;
        follows = begun.inside ∙ ap (λ ss. closed_by ss begun.shape begun.end rest) t.1.1;
        atoms = subst AllAtoms t.1.1 begun.atoms;
      }

  pub other_parts : (parts ≡ 2 → ⊥) → (x : Refused) → x ≡ refused_at refusal.Form o.place → Paired text rest s (Err x)
  other_parts h x is = (ap pair_of begun.is ∙ other_two begun.parts (λ z. h (counted ∙ z)), is ∙ ap (refused_at refusal.Form) (sym (ap place begun.is)))

-- a reader of lists of two parts makes of one what the rules make of its place and its parts
module _ {A : Type 0} (of : ℕ → Two → Tally → Outcome A) (read : Sexp → Tally → Outcome A) (reads : (s : Sexp) (n : Tally) → read s n ≡ of (place s) (pair_of s) n) (text : List ℕ) (rest : Lexed) (s : Sexp) (n : Tally) where
  pub pair_made : (o : Opened) (pair : Pair text rest s o) → read s n ≡ of o.place (two pair.first pair.second) n
  pair_made o pair = reads s n ∙ ap (λ t. of (place s) t n) pair.parts ∙ ap (λ p. of p (two pair.first pair.second) n) pair.begins
