-- What a run with one advance comes to, as an answer to a host.
use Rattle.std.proofs.Common.{◌≡◌, ℕ, min, List, [], ◌∷◌, ◌++◌, length, drop, get_or, append-nil, arith, Some, None, Ok, Err, Result, sym, refl, ap, ◌∙◌, subst}
use Rattle.std.proofs.lemmas.List.{take-append-drop}
use Rattle.c_host.specs.Told.{most, accepted, refused, checked, closed, opened, told, Ran}
use Rattle.c_host.specs.declared.answer.Answer.{Answer}
use Rattle.c_host.specs.declared.sizes.Sizes.{Sizes}
use Rattle.cells.specs.Meaning.{Cells}
use Rattle.grammar.specs.Trees.{Script}
use Rattle.rehearsal.specs.Asking.{MadeAll, all_bytes}
use Rattle.rehearsal.specs.Judged.{Judged}
use Rattle.rehearsal.specs.declared.asks.Ask.{Ask}
use Rattle.rules.specs.declared.answers.Advanced.{Advanced}
use Rattle.rules.specs.declared.answers.Closed.{Closed}
use Rattle.rules.specs.Runs as rules
use Rattle.run.specs.Openings.{Opening, Made, answer_of}
use Rattle.run.specs.Stands.{AnswersAgree, Finished, Said, said}
use Rattle.run.specs.Stands.{told as told_by}
use Rattle.script_refusals.specs.declared.refusal.Refused.{Refused}

pub found : {X : Type 0} (j : Result Script Refused) (Q : Script → X → Type 0) (x : X) → Judged j Q (Ok x) → accepted ≡ checked j
found (Ok s) Q x h = refl
found (Err r) Q x h = absurd h

pub not_found : {X : Type 0} (j : Result Script Refused) (Q : Script → X → Type 0) (r : Refused) → Judged j Q (Err r) → refused r ≡ checked j
not_found (Ok s) Q r h = absurd h
not_found (Err r) Q q h = ap refused h

-- one advance, of as many steps and bytes as there may be
abbrev pub unanswered : ℕ → ℕ → Ask
unanswered count room = record { count = count; room = room; answer = None }

abbrev pub asked_once : ℕ → List Ask
asked_once room = unanswered most room ∷ []

module _ (o : Opening) (out new : List ℕ) (after : List Ask) (x : Closed) (m : Cells) (adv : Advanced) where
  abbrev one : rules.Answer
  one = answer_of o (rules.opened_run o.input) most (length out)

  pub record Once : Type 0 where
    pub answer : closed adv.end (min adv.bytes most) x.steps x.taken x.given_back ≡ told one
    pub out_is : new ≡ one.bytes ++ drop (length one.bytes) out

  pub once : (h : List Made) → MadeAll (asked_once (length out)) after out new h → AnswersAgree o h → Finished o h x m → (get_or after 0 (unanswered 0 0)).answer ≡ Some adv → Once
  once [] M A F e = absurd M.lends
  once (c ∷ d ∷ h) M A F e = absurd M.lends.2
  once (c ∷ []) M A F e =
      let by = answer_of o (rules.opened_run o.input) c.count c.room in
      let first : told_by c ≡ said by = cc in
      let room : c.room ≡ length out = M.lends.1 ∙ omega arith in
      let same : by ≡ one = ap (λ n. answer_of o (rules.opened_run o.input) n c.room) M.lends.0 ∙ ap (λ n. answer_of o (rules.opened_run o.input) most n) room in
      let bytes : all_bytes (c ∷ []) ≡ one.bytes = append-nil c.bytes ∙ (ap (λ (s : Said). s.bytes) first ∙ ap (λ (a : rules.Answer). a.bytes) same) in
      let mine : Some c.answer ≡ Some adv = sym (ap (λ l. (get_or l 0 (unanswered 0 0)).answer) M.answers) ∙ e in
      let is : c.answer ≡ adv = cc in
      let end : adv.end ≡ one.end = ap (λ (v : Advanced). v.end) (sym is) ∙ (ap (λ (s : Said). s.end) first ∙ ap (λ (a : rules.Answer). a.end) same) in
      let wrote : adv.bytes ≡ length one.bytes = ap (λ (v : Advanced). v.bytes) (sym is) ∙ (ap (λ (s : Said). s.written) first ∙ ap (λ (a : rules.Answer). length a.bytes) same) in
      record {
        answer = ap (λ e. closed e (min adv.bytes most) x.steps x.taken x.given_back) end
            ∙ (ap (λ n. closed one.end (min n most) x.steps x.taken x.given_back) wrote
            ∙ (ap (λ n. closed one.end (min (length one.bytes) most) n x.taken x.given_back) (F.steps ∙ ap (λ (a : rules.Answer). (rules.close a.run).steps) same)
            ∙ (ap (λ n. closed one.end (min (length one.bytes) most) (rules.close one.run).steps n x.given_back) (F.taken ∙ ap (λ (a : rules.Answer). (rules.close a.run).taken) same)
            ∙ ap (λ n. closed one.end (min (length one.bytes) most) (rules.close one.run).steps (rules.close one.run).taken n) (F.given ∙ ap (λ (a : rules.Answer). (rules.close a.run).given) same))));
        out_is = subst (λ b. new ≡ b ++ drop (length b) out) bytes
            (sym (take-append-drop (length (all_bytes (c ∷ []))) new) ∙ (ap (λ l. l ++ drop (length (all_bytes (c ∷ []))) new) M.front ∙ ap (λ l. all_bytes (c ∷ []) ++ l) M.spares.past));
      }

-- A text that was run so, opened over what is told of its sizes.
pub ran : (j : Result Script Refused) (opens : Script → Opening) (input : List ℕ) (z : Sizes) (out new : List ℕ) (after : List Ask) (h : List Made) (x : Closed) (m : Cells) (adv : Advanced) (told_so : Answer)
    → ((s : Script) → opens s ≡ opened s input z)
    → Judged j (λ s x. AnswersAgree (opens s) h) (Ok x) → Judged j (λ s x. Finished (opens s) h x m) (Ok x) → MadeAll (asked_once (length out)) after out new h
    → (get_or after 0 (unanswered 0 0)).answer ≡ Some adv → told_so ≡ closed adv.end (min adv.bytes most) x.steps x.taken x.given_back → Ran input z out j told_so new
ran (Err r) opens input z out new after h x m adv told_so O A F M e t = absurd A
ran (Ok s) opens input z out new after h x m adv told_so O A F M e t =
    let w = once (opened s input z) out new after x m adv h M (subst (λ o. AnswersAgree o h) (O s) A) (subst (λ o. Finished o h x m) (O s) F) e in
    (t ∙ w.answer, w.out_is)
