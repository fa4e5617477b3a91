use Rattle.std.proofs.Common.{◌≡◌, ℕ, List, Ok, Err, refl, sym, subst, rules}
use Rattle.checking.proofs.CheckLaws.{judged_here, laid, bodies_in, main_accepted, globals_refused, bodies_refused, bodies_accepted}
use Rattle.checking.specs.Check.{IsUnchanged, Judges}
use Rattle.globals.specs.Known.{Known, IsWhole}
use Rattle.globals.specs.Lying.{Laid}
use Rattle.grammar.specs.Trees as tree
use Rattle.layout.specs.Tabling.{node_list}
use Rattle.parser.specs.Recording.{Accepted}
use Rattle.checking.proofs.checks.check.Goals as goal

pub returns-in_err-globals : goal.returns-in_err-globals
returns-in_err-globals c =
    let s = c.args.script.now in
    let here : IsUnchanged s c.args.text.now c.args.nodes.now = search rules in
    let laid_in = λ (script : tree.Script) (read : List ℕ) (entries : ℕ) (a : Accepted s read entries (node_list entries script) script).
    subst (λ x. Laid x c.tables.result.now script) (sym c.text.ensures) (subst (λ x. Laid s.text.now x script) (sym c.tables.ensures) (laid s c.args.text.now c.args.nodes.now here script read entries a)) in
    let r = c.in_err-globals.field-0.0 in
    let left : c.from_residual.result ≡ Err r = search rules in
    judged_here s c.args.text.now c.args.nodes.now c.from_residual.result here (λ script read entries a.
    subst (Judges script s) (sym left) (globals_refused s c.args.text.now c.args.nodes.now here script read entries a r
    (c.in_err-globals.ensures script (laid_in script read entries a))))

pub returns-in_err-code : goal.returns-in_err-code
returns-in_err-code c =
    let s = c.args.script.now in
    let here : IsUnchanged s c.args.text.now c.args.nodes.now = search rules in
    let laid_in = λ (script : tree.Script) (read : List ℕ) (entries : ℕ) (a : Accepted s read entries (node_list entries script) script).
    subst (λ x. Laid x c.tables.result.now script) (sym c.text.ensures) (subst (λ x. Laid s.text.now x script) (sym c.tables.ensures) (laid s c.args.text.now c.args.nodes.now here script read entries a)) in
    let answer = λ (script : tree.Script) (read : List ℕ) (entries : ℕ) (a : Accepted s read entries (node_list entries script) script).
    let whole = c.in_ok-globals.ensures script (laid_in script read entries a) in
    let known = subst (λ x. Known x c.in_ok-globals.globals script) c.text.ensures whole.1 in
    bodies_in s c.args.text.now c.args.nodes.now here script read entries a c.in_ok-globals.globals known (main_accepted script whole.0) c.text-2.result.now c.text-2.ensures c.tables-2.result.now c.tables-2.ensures c.min.result c.min.ensures in
    let whole_of : (script : tree.Script) (read : List ℕ) (entries : ℕ) → Accepted s read entries (node_list entries script) script → IsWhole s.text.now script (Ok c.in_ok-globals.globals) = λ script read entries a.
    let whole = c.in_ok-globals.ensures script (laid_in script read entries a) in
    (whole.0, subst (λ x. Known x c.in_ok-globals.globals script) c.text.ensures whole.1) in
    let r = c.in_err-code.field-0.0 in
    let left : c.from_residual-in_err-code.result ≡ Err r = search rules in
    judged_here s c.args.text.now c.args.nodes.now c.from_residual-in_err-code.result here (λ script read entries a.
    subst (Judges script s) (sym left) (bodies_refused s c.args.text.now c.args.nodes.now here script read entries a c.in_ok-globals.globals (whole_of script read entries a) r
    (answer script read entries a (Err r) c.in_err-code.ensures)))

pub returns : goal.returns
returns c =
    let s = c.args.script.now in
    let here : IsUnchanged s c.args.text.now c.args.nodes.now = search rules in
    let laid_in = λ (script : tree.Script) (read : List ℕ) (entries : ℕ) (a : Accepted s read entries (node_list entries script) script).
    subst (λ x. Laid x c.tables.result.now script) (sym c.text.ensures) (subst (λ x. Laid s.text.now x script) (sym c.tables.ensures) (laid s c.args.text.now c.args.nodes.now here script read entries a)) in
    let answer = λ (script : tree.Script) (read : List ℕ) (entries : ℕ) (a : Accepted s read entries (node_list entries script) script).
    let whole = c.in_ok-globals.ensures script (laid_in script read entries a) in
    let known = subst (λ x. Known x c.in_ok-globals.globals script) c.text.ensures whole.1 in
    bodies_in s c.args.text.now c.args.nodes.now here script read entries a c.in_ok-globals.globals known (main_accepted script whole.0) c.text-2.result.now c.text-2.ensures c.tables-2.result.now c.tables-2.ensures c.min.result c.min.ensures in
    let whole_of : (script : tree.Script) (read : List ℕ) (entries : ℕ) → Accepted s read entries (node_list entries script) script → IsWhole s.text.now script (Ok c.in_ok-globals.globals) = λ script read entries a.
    let whole = c.in_ok-globals.ensures script (laid_in script read entries a) in
    (whole.0, subst (λ x. Known x c.in_ok-globals.globals script) c.text.ensures whole.1) in
    judged_here s c.args.text.now c.args.nodes.now _ here (λ script read entries a.
    bodies_accepted s c.args.text.now c.args.nodes.now here script read entries a c.in_ok-globals.globals (whole_of script read entries a) c.in_ok-code.code _
    (answer script read entries a (Ok c.in_ok-code.code) c.in_ok-code.ensures) refl c.text-3.ensures (search rules))
