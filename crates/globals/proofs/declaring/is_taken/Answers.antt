use Rattle.std.proofs.Common.{◌≡◌, ◌||◌, true, false, sym, ap, ◌∙◌}
use Rattle.typing.specs.Scripts.{basis_names}
use Rattle.typing.specs.Verdict.{among_them}
use Rattle.names.specs.Indexing.{names_in}
use Rattle.globals.proofs.Among.{among_seen}
use Rattle.globals.proofs.declaring.is_taken.Goals as goal

pub returns-then-is_among : goal.returns-then-is_among
returns-then-is_among c = λ ix.
    let w = c.args.name.now in
    let found : among_them w (names_in c.args.text.now c.args.index.now) ≡ true = sym (c.is_among.ensures.value ix) ∙ c.if-is_among.true in
    c.if-is_among.true ∙ sym (among_seen w _ basis_names ∙ ap (λ b. b || among_them w basis_names) found)

pub returns-else-is_among : goal.returns-else-is_among
returns-else-is_among c = λ ix.
    let w = c.args.name.now in
    let none : among_them w (names_in c.args.text.now c.args.index.now) ≡ false = sym (c.is_among.ensures.value ix) ∙ c.if-is_among.false in
    c.is_basis.ensures ∙ sym (among_seen w _ basis_names ∙ ap (λ b. b || among_them w basis_names) none)
