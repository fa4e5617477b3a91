-- Reading answers a script exactly when the grammar derives it and it passes no limit.
use Rattle.std.proofs.Common.{◌≡◌, ℕ, ◌-◌, ◌≤◌, List, [], ◌∷◌, ◌++◌, length, take, drop, Ok, Err, Result, sym, refl, ap, ◌∙◌, subst, arith}
use Rattle.std.proofs.lemmas.List.{length-append, take_at}
use Rattle.text.specs.Grammar.{Spelt}
use Rattle.text.specs.Scans.{scan}
use Rattle.text.specs.Tokens.{Lexeme}
use Rattle.text.specs.declared.refusal.Refused.{Refused}
use Rattle.text.specs.declared.token.TokenKind.TheVariants.{Symbol}
use Rattle.grammar.specs.Grammar.{ScriptOf, Derives}
use Rattle.grammar.specs.Laws.{Nests, Quotes, Reads}
use Rattle.grammar.specs.Limits.{Within}
use Rattle.grammar.specs.Reading.{Outcome, refused, made, read_definitions, fresh, concluded, on_tokens, unquoted, reading}
use Rattle.grammar.specs.Sexps.{Sexps, depths, nested}
use Rattle.grammar.specs.Trees.{Script}
use Rattle.grammar.proofs.GrammarDefinitions.{ScriptRead, script_sound, script_complete}
use Rattle.grammar.proofs.GrammarNesting.{nested_only, nested_stands, nested_shallow}
use Rattle.grammar.proofs.GrammarOnly.{script_only}
use Rattle.grammar.proofs.GrammarOutcomes.{Fits, Holds, not_made, holds, Makes, makes}
use Rattle.text.proofs.GrammarLaws.{scan_tokens, tokens_scan}

fresh_fits : (entries : ℕ) → Fits entries fresh
fresh_fits entries = record { for_nodes = omega arith; for_entries = omega arith; for_types = omega arith; for_bindings = omega arith; for_datatypes = omega arith; for_constructors = omega arith }

-- what reading forms answers
concluded_ok : (entries : ℕ) (ss : Sexps) (script : Script) (o : Outcome Script) → Holds (ScriptRead entries ss fresh) o → concluded o ≡ Ok script → ScriptOf ss script × Within script entries
concluded_ok entries ss script (refused r) not_made e = absurd (cc)
concluded_ok entries ss script (made ds m) (holds h) e =
    let same : ds ≡ script = cc in
    let u = h.used in
    let f = h.fits in
    subst (λ script. ScriptOf ss script × Within script entries) same
    (h.derived, record { nodes = omega arith; entered = omega arith; types = omega arith; bindings = omega arith; datatypes = omega arith; constructors = omega arith; six = h.six })

made_ok : (script : Script) (o : Outcome Script) → Makes (λ y m. y ≡ script) o → concluded o ≡ Ok script
made_ok script (made ds m) (makes e) = ap Ok e
made_ok script (refused r) h = elim h [ ]

forms_read : (entries : ℕ) (ss : Sexps) (script : Script) → ScriptOf ss script → depths ss ≤ 64 → Within script entries → concluded (read_definitions entries ss fresh) ≡ Ok script
forms_read entries ss script d le w =
    made_ok script (read_definitions entries ss fresh)
    (script_complete entries d le w.six fresh record { for_nodes = omega arith; for_entries = omega arith; for_types = omega arith; for_bindings = omega arith; for_datatypes = omega arith; for_constructors = omega arith })

sound : (text : List ℕ) (entries : ℕ) (script : Script) → reading text entries ≡ Ok script → Derives text script × Within script entries
sound text entries script e = go (scan text) refl e
  where
    go : (r : Result (List Lexeme) Refused) → scan text ≡ r → on_tokens entries r ≡ Ok script → Derives text script × Within script entries
    go (Err r) p h = absurd (cc)
    go (Ok ts) p h =
        let t = scan_tokens text ts p in
        let c = concluded_ok entries (nested ts) script (read_definitions entries (nested ts) fresh) (script_sound entries (nested ts) fresh (fresh_fits entries)) h in
        (record { tokens = ts; forms = nested ts; lexical = t; nested = nested_stands text ts t; grammatical = c.0 }, c.1)

complete : (text : List ℕ) (entries : ℕ) (script : Script) → Derives text script → Within script entries → reading text entries ≡ Ok script
complete text entries script d w =
    let ts = d.tokens in
    let forms = nested_only ts d.forms d.nested in
    ap (on_tokens entries) (tokens_scan text ts d.lexical)
    ∙ forms_read entries (nested ts) script (subst (λ ss. ScriptOf ss script) forms d.grammatical) (nested_shallow text ts d.lexical) w

-- two derivations have the same tokens, so the same forms, so the same script
one_script : (text : List ℕ) (a b : Script) → Derives text a → Derives text b → a ≡ b
one_script text a b d e =
    let tokens : d.tokens ≡ e.tokens = let p = tokens_scan text d.tokens d.lexical in let q = tokens_scan text e.tokens e.lexical in cc in
    let forms : d.forms ≡ e.forms = nested_only d.tokens d.forms d.nested ∙ ap nested tokens ∙ sym (nested_only e.tokens e.forms e.nested) in
    script_only (subst (λ ss. ScriptOf ss a) forms d.grammatical) e.grammatical

quoted : (w : List ℕ) → Spelt Symbol w → w ≡ 39 ∷ (unquoted w ++ 39 ∷ [])
quoted w (s, e, q, few) =
    let size : length w - 2 ≡ length s = omega (arith, ap length e, length-append s (39 ∷ [])) in
    let inner : unquoted w ≡ s = ap (λ n. take n (drop 1 w)) size ∙ ap (λ w. take (length s) (drop 1 w)) e ∙ take_at s (39 ∷ []) (length s) refl in
    e ∙ ap (λ s. 39 ∷ (s ++ 39 ∷ [])) (sym inner)

pub quotes : Quotes
quotes = record { between = quoted }

pub nests : Nests
nests = record { stands = nested_stands; only = nested_only; shallow = nested_shallow }

pub reads : Reads
reads = record {
  derived = λ text entries script e. (sound text entries script e).0;
  within = λ text entries script e. (sound text entries script e).1;
  read = complete;
  one = one_script;
  refused = λ text entries r script e d w. let f = complete text entries script d w in cc;
}
