use Rattle.std.proofs.Common.{◌≡◌, None, sym, ap, ◌∙◌, subst, rules}
use Rattle.std.specs.List.{slice_get}
use Rattle.globals.specs.Pairs.{IsRoot}
use Rattle.program.specs.Programs.{Annotation, program}
use Rattle.typing.specs.Scripts.{basis_names}
use Rattle.globals.proofs.Firsts.{first_place_at, first_none}
use Rattle.globals.proofs.declarations.Declarations.annotation.Goals as goal

pub returns : goal.returns
returns c = λ script n.
    let w = c.args.name.now in
    let f = first_place_at (λ (a : Annotation). a.name) basis_names w (program script).annotations c.in_ok-k.k n.annotations_once (ap (λ l. slice_get l c.in_ok-k.k) (sym n.annotations_are) ∙ c.in_ok-k.ensures.found n.annotations) in
    (f.0, f.3, n.roots c.in_ok-k.k f.0 f.1)

pub returns-in_err-k : goal.returns-in_err-k
returns-in_err-k c = λ script n.
    let is : c.from_residual.result ≡ None = search rules in
    subst (IsRoot (program script) script c.args.name.now) (sym is)
    (first_none (λ (a : Annotation). a.name) c.args.name.now (program script).annotations (λ k e. c.in_err-k.ensures.found n.annotations k (ap (λ l. slice_get l k) n.annotations_are ∙ e)))
