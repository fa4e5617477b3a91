-- A begin, and the further parts of one.
use Rattle.std.proofs.Common.{◌≡◌, ℕ, ◌+◌, ◌<◌, ◌≤◌, List, ◌++◌, Ok, Err, Result, slice_set, sym, refl, ap, ◌∙◌, subst, arith}
use Rattle.bodies.proofs.DeskLaws.{kept_ready, kept_lying, kept_self}
use Rattle.bodies.proofs.JudgeLaws.{begin_refused, begin_goes, row_refused, row_goes}
use Rattle.bodies.proofs.NodeLaws.{Behind, coded_low, coded_after}
use Rattle.bodies.proofs.PutLaws.{puts_two}
use Rattle.bodies.proofs.SizeLaws.{code_size, codes_size}
use Rattle.bodies.specs.Parts.{OnExpr, OnRow, Listed, number_of}
use Rattle.forms.specs.Progress.{puts}
use Rattle.grammar.specs.Limits.{expr_nodes}
use Rattle.grammar.specs.Trees.{Expr, Exprs, begin_expr, and_expr, Script}
use Rattle.layout.specs.Decoding.{node_found, c_begin, c_none, c_more}
use Rattle.layout.specs.declared.node.Node.{Node}
use Rattle.layout.specs.declared.node.NodeForm.TheVariants as form
use Rattle.naming.specs.Judges.{Desk, Kept, Setting, Ready, Lying, Coded, Answers, ExprAnswers, names, meant, vals_of, rows_of, text_of}
use Rattle.naming.specs.declared.world.World.{World}
use Rattle.program.proofs.CodeLaws.{code_length}
use Rattle.program.specs.Compiling.{code, compile, compile_row}
use Rattle.program.specs.Programs.{program}
use Rattle.program.specs.Scopes as placed
use Rattle.program.specs.declared.code.Code.{Code}
use Rattle.program.specs.declared.code.Op.TheVariants as op
use Rattle.script_refusals.specs.declared.refusal.Refused.{Refused}
use Rattle.type_rows.specs.Rows.{IsKind}
use Rattle.type_rows.specs.declared.value_type.ValueType.{ValueType}
use Rattle.typing.specs.Judging.{refused, judged, judge, judge_row}

module _ (world : World) (script : Script) (set : Setting world script) where
  -- what judging a row gives
  abbrev pub RowAnswers : ValueType → Exprs → ℕ → ℕ → Desk → List Code → Result ValueType Refused → Desk → List Code → Type 0
  RowAnswers kind es i height old codes result new after =
      Answers world script (judge_row (program script) (vals_of world script) (meant world script kind) es (names world script old)) (λ G. compile_row (program script) G i es) i height old codes result new after

  -- A row from node i up to node j.
  module _ (i j height : ℕ) (short : j ≤ 65535) (kind : ValueType) (d0 : Desk) (ready : Ready world script d0) (valid : IsKind (rows_of world script) kind) (codes : List Code) where
    pub row_ended : (es : Exprs) → Listed world script es i j → j ≤ i → RowAnswers kind es i height d0 codes (Ok kind) d0 codes
    row_ended _ (c_none e) low = record { type = refl; valid = valid; noted = λ G lying. refl }
    row_ended _ (c_more on e es) low = absurd (omega arith)

    pub row_stopped : (es : Exprs) (r : Refused) (d1 : Desk) (codes1 : List Code) → Listed world script es i j → i < j → OnExpr world i height d0 codes (Err r) d1 codes1 → RowAnswers kind es i height d0 codes (Err r) d1 codes1
    row_stopped _ r d1 codes1 (c_none e) low part = absurd (omega arith)
    row_stopped _ r d1 codes1 (c_more {e = e} {es = es} on ce ces) low part = row_refused (program script) (vals_of world script) (meant world script kind) e es (names world script d0) r (part script e set ready ce)

    pub row_went : (es : Exprs) (found : ValueType) (d1 : Desk) (codes1 : List Code) → Listed world script es i j → i < j → OnExpr world i height d0 codes (Ok found) d1 codes1 → Kept d0 d1
        → (next : ℕ) → Behind world.nodes.now next i → (result : Result ValueType Refused) (d2 : Desk) (codes2 : List Code) → OnRow world next j found height d1 codes1 result d2 codes2 → RowAnswers kind es i height d0 codes result d2 codes2
    row_went _ found d1 codes1 (c_none e) low part k next at result d2 codes2 rest = absurd (omega arith)
    row_went _ found d1 codes1 (c_more {e = e} {es = es} on ce ces) low part k next at result d2 codes2 rest =
        let few = set.few in
        let here = coded_low world script e i ce in
        let a = coded_after world script _ e i next ce at (omega arith) in
        let y = part script e set ready ce in
        let r1 = kept_ready world script d0 d1 k ready in
        let z = rest script es set r1 y.valid (subst (λ n. Listed world script es n j) (sym a.0) ces) in
        let size = codes_size (text_of world script) (number_of world script) world.nodes.now ces in
        go result y.type (λ G. y.noted G) a.1 (let e = a.0 in omega arith) z
      where
        go : (result : Result ValueType Refused) → judge (program script) (vals_of world script) e (names world script d0) ≡ judged (meant world script found) (names world script d1)
            → ((G : placed.Scope) → Lying world script d0 G height i → codes1 ≡ puts codes i (compile (program script) G i e))
            → next ≡ i + expr_nodes e → next ≤ 65535
            → RowAnswers found es next height d1 codes1 result d2 codes2 → RowAnswers kind (and_expr e es) i height d0 codes result d2 codes2
        go (Err r) type noted at low z = row_goes (program script) (vals_of world script) (meant world script kind) e es (names world script d0) (names world script d1) (meant world script found) type ∙ z
        go (Ok kind') type noted at low z = record {
          type = row_goes (program script) (vals_of world script) (meant world script kind) e es (names world script d0) (names world script d1) (meant world script found) type ∙ z.type;
          valid = z.valid;
          noted = λ G lying.
              let l1 = kept_lying world script d0 d1 k G height i next (omega arith) (omega arith) lying in
              let size = code_length (program script) e G i in
              puts_two codes codes1 codes2 i next (compile (program script) G i e) (compile_row (program script) G next es) (noted G lying) (z.noted G l1) (omega arith)
              ∙ ap (λ n. puts codes i (compile (program script) G i e ++ compile_row (program script) G n es)) at;
        }

  -- A begin at node i.
  module _ (i height : ℕ) (node : Node) (is : node ≡ node_found world.nodes.now i) (short : node.past ≤ 65535) (d0 : Desk) (ready : Ready world script d0) (codes1 : List Code) where
    pub begin_stopped : {e : Expr} (r : Refused) (d1 : Desk) (codes2 : List Code) → Coded world script form.Begin e i → OnExpr world (i + 1) height d0 codes1 (Err r) d1 codes2
        → judge (program script) (vals_of world script) e (names world script d0) ≡ refused r
    begin_stopped r d1 codes2 (c_begin {p = p} {e = e} {es = es} place ce ces) part = begin_refused (program script) (vals_of world script) p e es (names world script d0) r (part script e set ready ce)

    pub begin_went : {e : Expr} (found : ValueType) (d1 : Desk) (codes codes2 : List Code) → Coded world script form.Begin e i → OnExpr world (i + 1) height d0 codes1 (Ok found) d1 codes2 → Kept d0 d1
        → codes1 ≡ slice_set codes i (code op.Begin node.place node.past)
        → (next : ℕ) → Behind world.nodes.now next (i + 1) → (result : Result ValueType Refused) (d2 : Desk) (codes3 : List Code) → OnRow world next node.past found height d1 codes2 result d2 codes3
        → ExprAnswers world script e i height d0 codes result d2 codes3
    begin_went found d1 codes codes2 (c_begin {p = p} {e = e} {es = es} place ce ces) part k begun next at result d2 codes3 rest =
        let few = set.few in
        let here = coded_low world script e (i + 1) ce in
        let a = coded_after world script _ e (i + 1) next ce at (omega arith) in
        let y = part script e set ready ce in
        let r1 = kept_ready world script d0 d1 k ready in
        let whole : Coded world script form.Begin (begin_expr p e es) i = c_begin place ce ces in
        let past_is : node.past ≡ (node_found world.nodes.now i).past = ap (λ (n : Node). n.past) is in
        let z = rest script es set r1 y.valid (subst (λ n. Listed world script es n node.past) (sym a.0) (subst (λ j. Listed world script es (node_found world.nodes.now (i + 1)).past j) (sym past_is) ces)) in
        let size = codes_size (text_of world script) (number_of world script) world.nodes.now ces in
        go result y.type y.noted a.1 (let e = a.0 in omega arith) (ap (λ (n : Node). n.place) is ∙ place) (past_is ∙ code_size (text_of world script) (number_of world script) world.nodes.now whole) z
      where
        go : (result : Result ValueType Refused) → judge (program script) (vals_of world script) e (names world script d0) ≡ judged (meant world script found) (names world script d1)
            → ((G : placed.Scope) → Lying world script d0 G height (i + 1) → codes2 ≡ puts codes1 (i + 1) (compile (program script) G (i + 1) e))
            → next ≡ i + 1 + expr_nodes e → next ≤ 65535 → node.place ≡ p → node.past ≡ i + expr_nodes (begin_expr p e es)
            → RowAnswers found es next height d1 codes2 result d2 codes3 → ExprAnswers world script (begin_expr p e es) i height d0 codes result d2 codes3
        go (Err r) type noted at low ep eq z = begin_goes (program script) (vals_of world script) p e es (names world script d0) (names world script d1) (meant world script found) type ∙ z
        go (Ok kind') type noted at low ep eq z = record {
          type = begin_goes (program script) (vals_of world script) p e es (names world script d0) (names world script d1) (meant world script found) type ∙ z.type;
          valid = z.valid;
          noted = λ G lying.
              let l0 = kept_lying world script d0 d0 (kept_self d0) G height i (i + 1) (omega arith) (omega arith) lying in
              let l1 = kept_lying world script d0 d1 k G height i next (omega arith) (omega arith) lying in
              let size = code_length (program script) e G (i + 1) in
              let A = compile (program script) G (i + 1) e in
              let e0 : code op.Begin node.place node.past ≡ code op.Begin p (i + expr_nodes (begin_expr p e es)) = cc (ep, eq) in
              puts_two codes1 codes2 codes3 (i + 1) next A (compile_row (program script) G next es) (noted G l0) (z.noted G l1) (omega arith)
              ∙ ap (λ n. puts codes1 (i + 1) (A ++ compile_row (program script) G n es)) at
              ∙ ap (λ s. puts s (i + 1) (A ++ compile_row (program script) G (i + 1 + expr_nodes e) es)) (begun ∙ ap (slice_set codes i) e0);
        }
