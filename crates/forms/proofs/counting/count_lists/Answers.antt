use Rattle.std.proofs.Common.{◌≡◌, ◌∷◌, false, Result, Ok, Err, map, min, ap, sym, ◌∙◌, subst, arith}
use Rattle.std.specs.Result.{is_err}
use Rattle.stack.specs.Items.{tops}
use Rattle.stack.specs.declared.full.Full.{Full}
use Rattle.text.specs.Tokens.{lexed_from}
use Rattle.forms.specs.Surveys.{Known, told}
use Rattle.forms.specs.declared.counting.OpenList.{OpenList}
use Rattle.forms.proofs.CountingLaws.{Pending, pending_atom, pending_open, pending_close, told_set}
use Rattle.forms.proofs.counting.count_lists.Goals as goal

pub tokens-preserved-in-Atom : goal.tokens-preserved-in-Atom
tokens-preserved-in-Atom c =
    let text = c.args.text.now in
    let sees = c.in-Atom.ensures in
    let inv = c.tokens.invariant in
    let lists = tops c.tokens.opened in (
      inv.0,
      subst (Pending text (lexed_from text c.in-Atom.after) 0) (sym c.add_part.ensures)
          (pending_atom text c.in-Atom.field-0 c.in-Atom.field-1 sees.0 (lexed_from text c.in-Atom.after) lists sees.2 (subst (λ l. Pending text l 0 lists) sees.1.follows inv.1)),
    )

-- what a push that is no error did
pushed : {A : Type 0} (B : Type 0) (r : Result (Unit {0}) Full) → false ≡ is_err r → (elim r as (λ _. Type 0) [ Ok _ ↦ A | Err _ ↦ B ]) → A
pushed B (Ok x) e h = h
pushed B (Err x) e h = absurd (cc)

pub tokens-preserved-in-Open : goal.tokens-preserved-in-Open
tokens-preserved-in-Open c =
    let text = c.args.text.now in
    let sees = c.in-Open.ensures in
    let inv = c.tokens.invariant in
    let lists = tops c.tokens.opened in
    let list : OpenList = record { inside = c.in-Open.after; parts = 0 } in (
      inv.0,
      subst (Pending text (lexed_from text c.in-Open.after) 0) (sym (pushed _ c.push.result c.if-is_err.ensures.value c.push.ensures.tops ∙ ap (λ es. list ∷ es) c.add_part-in-Open.ensures))
          (pending_open text sees.0 c.in-Open.field-0 sees.1.0 c.in-Open.after lists (subst (λ l. Pending text l 0 lists) sees.1.1.follows inv.1)),
    )

pub tokens-preserved-in-Some : goal.tokens-preserved-in-Some
tokens-preserved-in-Some c =
    let text = c.args.text.now in
    let sees = c.in-Close.ensures in
    let inv = c.tokens.invariant in
    let lists = tops c.pop.new.self in
    let whole = subst (Pending text (lexed_from text c.tokens.at) 0) c.in-Some.ensures.tops inv.1 in
    let closed = pending_close text sees.0 c.in-Close.field-0 sees.1.0 (lexed_from text c.in-Close.after) c.in-Some.list lists (subst (λ l. Pending text l 0 (c.in-Some.list ∷ lists)) sees.1.1.follows whole) in (
      subst (λ cs. Known text (map told cs)) (sym c.put.ensures.written) (told_set text c.tokens.counts c.in-Some.list.inside (min c.in-Some.list.parts 7) _ c.of.ensures (let whole = closed.0 in omega arith) inv.0),
      closed.1,
    )
