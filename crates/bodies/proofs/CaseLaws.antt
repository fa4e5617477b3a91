-- A case, its branches, and one of them.
use Rattle.std.proofs.Common.{◌≡◌, ℕ, ◌+◌, ◌-◌, ◌<◌, ◌≤◌, Bool, false, ◌||◌, List, ◌++◌, length, Some, None, Ok, Err, Option, Result, slice_set, sym, refl, ap, ◌∙◌, subst, arith}
use Rattle.std.specs.Prelude.{slice_index_or}
use Rattle.std.specs.Option.{ok_or}
use Rattle.bodies.proofs.DeskLaws.{marked_as, kept_ready, kept_lying, kept_self, kept_marked, names_again, names_joined}
use Rattle.bodies.proofs.JudgeLaws.{case_refused, case_other, case_later, case_unlike, case_judged, last_refused, last_judged, branch_refused, branch_later, branch_judged, arm_pattern_refused, arm_refused, arm_judged}
use Rattle.bodies.proofs.NodeLaws.{Behind, coded_low, coded_after, branched_low}
use Rattle.bodies.proofs.PutLaws.{puts_two}
use Rattle.bodies.proofs.SizeLaws.{code_size}
use Rattle.bodies.specs.Parts.{OnExpr, OnArm, OnArms, Branched, ArmStands, ArmsAnswers, OfOneType, Alike, compile_arm, judge_arm, number_of}
use Rattle.forms.specs.Progress.{puts}
use Rattle.globals.specs.Known.{meaning_in}
use Rattle.grammar.specs.Limits.{expr_nodes}
use Rattle.grammar.specs.Trees.{Expr, Pattern, case_expr, Branches, last_branch, and_branch, Script}
use Rattle.layout.specs.Decoding as lies
use Rattle.layout.specs.Decoding.{node_found, c_case, c_last, c_branch}
use Rattle.layout.specs.Spelling.{Shows}
use Rattle.layout.specs.declared.node.Node.{Node}
use Rattle.layout.specs.declared.node.NodeForm.{NodeForm}
use Rattle.layout.specs.declared.node.NodeForm.TheVariants as form
use Rattle.naming.specs.Binding.{OnPattern, Matches}
use Rattle.naming.specs.Judges.{Desk, Kept, Setting, Ready, Lying, Coded, Answers, ExprAnswers, names, meant, vals_of, rows_of, text_of}
use Rattle.naming.specs.declared.world.World.{World}
use Rattle.program.proofs.CodeLaws.{code_length}
use Rattle.program.specs.Compiling.{code, compile, compile_branches, branch_op, branch_scope}
use Rattle.program.specs.Programs.{program}
use Rattle.program.specs.Scopes as placed
use Rattle.program.specs.Scopes.{pattern_names}
use Rattle.program.specs.declared.code.Code.{Code}
use Rattle.program.specs.declared.code.Op.TheVariants as op
use Rattle.scopes.proofs.ContextLaws.{context_cut}
use Rattle.script_refusals.specs.Refusals.{refused_at}
use Rattle.script_refusals.specs.declared.refusal.Refusal.TheVariants.{Mismatch}
use Rattle.script_refusals.specs.declared.refusal.Refused.{Refused}
use Rattle.type_rows.specs.Rows.{IsKind}
use Rattle.type_rows.specs.declared.value_type.ValueType.{ValueType}
use Rattle.type_rows.specs.declared.value_type.ValueType.TheVariants as value
use Rattle.typing.specs.Judging.{refused, judged, judge, judge_branches}
use Rattle.typing.specs.Types.{Ty, datum, function, Tys, no_types, and_type}

function_no_datum : (ts : Tys) (t : Ty) (d : ℕ) → function ts t ≡ datum d → ⊥
function_no_datum ts t d e = absurd (cc)

pub ok_or_is : (o : Option ValueType) (r : Refused) (p : ℕ) → r ≡ refused_at Mismatch p → ok_or o r ≡ elim o [ Some kind ↦ Ok kind | None ↦ Err (refused_at Mismatch p) ]
ok_or_is (Some kind) r p e = refl
ok_or_is None r p e = ap Err e

branch_place : NodeForm → ℕ
branch_place (form.Branch q) = q
branch_place f = 0

module _ (world : World) (script : Script) (set : Setting world script) where
  abbrev ns : List Node
  ns = world.nodes.now

  abbrev pub ArmAnswers : ℕ → ℕ → Pattern → Expr → ℕ → ℕ → Desk → List Code → Result ValueType Refused → Desk → List Code → Type 0
  ArmAnswers d p x e i height old codes result new after =
      Answers world script (judge_arm (program script) (vals_of world script) d x e (names world script old)) (λ G. compile_arm (program script) G i p x e) i height old codes result new after

  -- One branch, at node i.
  module _ (i height d p : ℕ) (x : Pattern) (e : Expr) (stands : ArmStands world script x e i p) (d0 : Desk) (ready : Ready world script d0) (codes : List Code) where
    pub arm_is : (f : NodeForm) → (node_found ns i).form ≡ f → ((q : ℕ) → f ≡ form.Branch q → ⊥) → ⊥
    arm_is f is other = other stands.from (sym is ∙ stands.is_branch)

    module _ (q : ℕ) (is : (node_found ns i).form ≡ form.Branch q) where
      shows : Shows (text_of world script) q x
      unfolding branch_place
      shows = go stands.from (sym stands.is_branch ∙ is) stands.shows
        where
          go : (from : ℕ) → form.Branch from ≡ form.Branch q → Shows (text_of world script) from x → Shows (text_of world script) q x
          go from same s = subst (λ f. Shows (text_of world script) (branch_place f) x) same s

      pub pattern_stopped : (r : Refused) (d1 : Desk) (codes1 : List Code) → OnPattern world i q d height d0 codes (Err r) d1 codes1 → judge_arm (program script) (vals_of world script) d x e (names world script d0) ≡ refused r
      pattern_stopped r d1 codes1 part = arm_pattern_refused (program script) (vals_of world script) d 0 x e (names world script d0) r (part script x set ready shows)

      pub pattern_went : (bound high : ℕ) (d1 d2 : Desk) (codes1 codes2 : List Code) (result : Result ValueType Refused) → OnPattern world i q d height d0 codes (Ok tt) d1 codes1
          → bound ≡ d1.depth - d0.depth → (height ≤ 131072 → bound ≤ 64 → high ≡ height + bound) → OnExpr world (i + 1) high d1 codes1 result d2 codes2 → Kept d1 d2
          → ArmAnswers d p x e i height d0 codes result (record d2 { depth = d0.depth }) codes2
      pattern_went bound high d1 d2 codes1 codes2 result part bound_is up inside k =
          let y = part script x set ready shows in
          go result y (inside script e set y.ready stands.inside)
        where
          go : (result : Result ValueType Refused) → Matches world script d x i height d0 codes d1 codes1 → ExprAnswers world script e (i + 1) high d1 codes1 result d2 codes2
              → ArmAnswers d p x e i height d0 codes result (record d2 { depth = d0.depth }) codes2
          go (Err r) y z = arm_refused (program script) (vals_of world script) d 0 x e (names world script d0) (names world script d1) y.type r z
          go (Ok kind) y z =
              let few = set.few in
              let depth1 = y.depth in
              let depth2 = k.depth in
              let count_is : bound ≡ pattern_names x = omega arith in
              let inside_low = coded_low world script e (i + 1) stands.inside in
              let small = y.ready.few in
              let size = code_size (text_of world script) (number_of world script) ns stands.inside in
              let past_is : (node_found ns i).past ≡ i + (1 + expr_nodes e) = let last = stands.past in omega arith in
              record {
                type = arm_judged (program script) (vals_of world script) d 0 x e (names world script d0) (names world script d1) y.type (meant world script kind) (names world script d2) z.type
                    ∙ ap (judged (meant world script kind)) (context_cut (text_of world script) (meaning_in script) d2.locals d2.marks (pattern_names x) d0.depth d2.depth (omega arith));
                valid = z.valid;
                noted = λ G lying.
                    let height_few = lying.few in
                    let low = lying.low in
                    let small0 = ready.few in
                    let high_is : high ≡ height + pattern_names x = up (omega arith) (omega arith) ∙ ap (λ c. height + c) count_is in
                    let l = subst (λ h. Lying world script d1 (branch_scope x G) h (i + 1)) (sym high_is) (y.lying G i (i + 1) (omega arith) (omega arith) lying) in
                    let e0 : code (branch_op (program script) x) (node_found ns i).place (node_found ns i).past ≡ code (branch_op (program script) x) p (i + (1 + expr_nodes e)) = let ep = stands.place in cc (ep, past_is) in
                    z.noted (branch_scope x G) l ∙ ap (λ cs. puts cs (i + 1) (compile (program script) (branch_scope x G) (i + 1) e)) (y.noted ∙ ap (slice_set codes i) e0);
              }

  -- Branches, from node i up to node j.
  module _ (i j height d : ℕ) (d0 : Desk) (ready : Ready world script d0) (codes : List Code) (next : ℕ) (at : Behind ns next i) where
    -- what stands first, and whether others stand behind it
    data First : Branches → Type 0 where
      alone : {p : ℕ} {x : Pattern} {e : Expr} → ArmStands world script x e i p → next ≡ i + (1 + expr_nodes e) → next ≡ j → First (last_branch p x e)
      followed : {p : ℕ} {x : Pattern} {e : Expr} {bs : Branches} → ArmStands world script x e i p → next ≡ i + (1 + expr_nodes e) → next < j → Branched world script bs next j → First (and_branch p x e bs)

    first : (bs : Branches) → Branched world script bs i j → First bs
    first bs b = go (node_found ns i).form refl bs b
      where
        size_at : (e : Expr) → Coded world script (node_found ns (i + 1)).form e (i + 1) → (node_found ns (i + 1)).past ≡ (node_found ns i).past → (next ≡ (node_found ns i).past) × (next ≡ i + (1 + expr_nodes e))
        size_at e ce last =
            let few = set.few in
            let low = coded_low world script e (i + 1) ce in
            let size = code_size (text_of world script) (number_of world script) ns ce in
            let a = at in
            (omega arith, omega arith)

        go : (f : NodeForm) → (node_found ns i).form ≡ f → (bs : Branches) → lies.Arms (text_of world script) (number_of world script) ns f bs i j → First bs
        go f is _ (c_last {q = q} place shows ce last end) =
            let s = size_at _ ce last in
            alone (record { from = q; is_branch = is; place = place; shows = shows; inside = ce; past = last }) s.1 (s.0 ∙ end)
        go f is _ (c_branch {q = q} {bs = bs} place shows ce last more rest) =
            let s = size_at _ ce last in
            followed (record { from = q; is_branch = is; place = place; shows = shows; inside = ce; past = last }) s.1 (let e = s.0 in omega arith) (subst (λ n. Branched world script bs n j) (sym s.0) rest)

    pub arms_stopped : (bs : Branches) (r : Refused) (d1 : Desk) (codes1 : List Code) → Branched world script bs i j → OnArm world i d height d0 codes (Err r) d1 codes1
        → judge_branches (program script) (vals_of world script) d bs (names world script d0) ≡ refused r
    arms_stopped bs r d1 codes1 b part = go bs (first bs b)
      where
        go : (bs : Branches) → First bs → judge_branches (program script) (vals_of world script) d bs (names world script d0) ≡ refused r
        go _ (alone {p = p} {x = x} {e = e} stands size end) = last_refused (program script) (vals_of world script) d p x e (names world script d0) r (part script p x e set ready stands)
        go _ (followed {p = p} {x = x} {e = e} {bs = bs} stands size more rest) = branch_refused (program script) (vals_of world script) d p x e (names world script d0) bs r (part script p x e set ready stands)

    module _ (kind : ValueType) (d1 : Desk) (codes1 : List Code) (part : OnArm world i d height d0 codes (Ok kind) d1 codes1) (k1 : Kept d0 d1) where
      pub arms_last : (bs : Branches) → Branched world script bs i j → j ≤ next → ArmsAnswers world script d bs i height d0 codes (Ok (Some kind)) d1 codes1
      arms_last bs b end = go bs (first bs b)
        where
          go : (bs : Branches) → First bs → ArmsAnswers world script d bs i height d0 codes (Ok (Some kind)) d1 codes1
          go _ (alone {p = p} {x = x} {e = e} stands size at_end) =
              let y = part script p x e set ready stands in
              record {
                types = and_type (meant world script kind) no_types;
                type = last_judged (program script) (vals_of world script) d p x e (names world script d0) (meant world script kind) (names world script d1) y.type;
                one = (refl, y.valid, refl);
                noted = λ G lying. y.noted G lying;
              }
          go _ (followed stands size more rest) = absurd (omega arith)

      abbrev again : Desk
      again = marked_as d1 d0.marks

      pub again_ready : Ready world script again
      again_ready = kept_ready world script d0 again (kept_marked d0 d1 d0.marks (sym k1.long) k1) ready

      again_names : names world script again ≡ names world script d0
      again_names = names_again world script d0 d1 k1

      pub arms_later : (bs : Branches) (r : Refused) (d2 : Desk) (codes2 : List Code) → Branched world script bs i j → next < j → OnArms world next j d height again codes1 (Err r) d2 codes2
          → judge_branches (program script) (vals_of world script) d bs (names world script d0) ≡ refused r
      arms_later bs r d2 codes2 b more others = go bs (first bs b)
        where
          go : (bs : Branches) → First bs → judge_branches (program script) (vals_of world script) d bs (names world script d0) ≡ refused r
          go _ (alone stands size end) = absurd (omega arith)
          go _ (followed {p = p} {x = x} {e = e} {bs = bs} stands size on rest) =
              let y = part script p x e set ready stands in
              branch_later (program script) (vals_of world script) d p x e (names world script d0) bs (meant world script kind) (names world script d1) r y.type
              (sym (ap (judge_branches (program script) (vals_of world script) d bs) again_names) ∙ others script bs set again_ready rest)

      pub arms_went : (bs : Branches) (o result : Option ValueType) (d2 : Desk) (codes2 : List Code) (marks : List Bool) → Branched world script bs i j → next < j → OnArms world next j d height again codes1 (Ok o) d2 codes2 → Kept again d2
          → ((k : ℕ) → slice_index_or marks k false ≡ (slice_index_or d2.marks k false || slice_index_or d1.marks k false)) → Alike world kind o result
          → ArmsAnswers world script d bs i height d0 codes (Ok result) (marked_as d2 marks) codes2
      arms_went bs o result d2 codes2 marks b more others k2 either alike = go bs (first bs b)
        where
          go : (bs : Branches) → First bs → ArmsAnswers world script d bs i height d0 codes (Ok result) (marked_as d2 marks) codes2
          go _ (alone stands size end) = absurd (omega arith)
          go _ (followed {p = p} {x = x} {e = e} {bs = bs} stands size on rest) =
              let y = part script p x e set ready stands in
              let z = others script bs set again_ready rest in
              let k12 : Kept d1 d2 = record { depth = k2.depth; same = k2.same; room = k2.room; long = k2.long ∙ sym k1.long } in
              record {
                types = and_type (meant world script kind) z.types;
                type = branch_judged (program script) (vals_of world script) d p x e (names world script d0) bs (meant world script kind) z.types (names world script d1) (names world script d2) y.type
                    (sym (ap (judge_branches (program script) (vals_of world script) d bs) again_names) ∙ z.type)
                    ∙ ap (judged (and_type (meant world script kind) z.types)) (sym (names_joined world script d1 d2 marks k12 either));
                one = alike script set z.types z.one y.valid;
                noted = λ G lying.
                    let few = set.few in
                    let low = coded_low world script e (i + 1) stands.inside in
                    let inside = code_size (text_of world script) (number_of world script) ns stands.inside in
                    let l1 = kept_lying world script d0 again (kept_marked d0 d1 d0.marks (sym k1.long) k1) G height i next (omega arith) (next_low rest) lying in
                    let length_e = code_length (program script) e (branch_scope x G) (i + 1) in
                    let A = compile_arm (program script) G i p x e in
                    puts_two codes codes1 codes2 i next A (compile_branches (program script) G next bs) (y.noted G lying) (z.noted G l1) (omega arith)
                    ∙ ap (λ n. puts codes i (A ++ compile_branches (program script) G n bs)) size;
              }
            where
              next_low : Branched world script bs next j → next ≤ 65536
              next_low rest = let few = set.few in let low = branched_low world script bs next j rest in omega arith

  -- A case at node i.
  module _ (i height : ℕ) (node : Node) (is : node ≡ node_found ns i) (d0 : Desk) (ready : Ready world script d0) (codes1 : List Code) where
    pub case_stopped : {e : Expr} (r : Refused) (d1 : Desk) (codes2 : List Code) → Coded world script form.Case e i → OnExpr world (i + 1) height d0 codes1 (Err r) d1 codes2
        → judge (program script) (vals_of world script) e (names world script d0) ≡ refused r
    case_stopped r d1 codes2 (c_case {p = p} {e = e} {bs = bs} place ce cbs) part = case_refused (program script) (vals_of world script) p e bs (names world script d0) r (part script e set ready ce)

    pub case_plain : {e : Expr} (kind : ValueType) (r : Refused) (d1 : Desk) (codes2 : List Code) → Coded world script form.Case e i → OnExpr world (i + 1) height d0 codes1 (Ok kind) d1 codes2
        → ((d : ℕ) → kind ≡ value.Datatype d → ⊥) → r ≡ refused_at Mismatch node.place → judge (program script) (vals_of world script) e (names world script d0) ≡ refused r
    case_plain kind r d1 codes2 (c_case {p = p} {e = e} {bs = bs} place ce cbs) part other er =
        let y = part script e set ready ce in
        case_other (program script) (vals_of world script) p e bs (names world script d0) (names world script d1) (meant world script kind) y.type (no_datum kind y.valid other)
        ∙ ap (λ p. refused (refused_at Mismatch p)) (sym place ∙ sym (ap (λ (n : Node). n.place) is)) ∙ ap refused (sym er)
      where
        no_datum : (kind : ValueType) → IsKind (rows_of world script) kind → ((d : ℕ) → kind ≡ value.Datatype d → ⊥) → (d : ℕ) → meant world script kind ≡ datum d → ⊥
        no_datum value.Int valid other d e = absurd (cc)
        no_datum value.Bool valid other d e = absurd (cc)
        no_datum value.Sym valid other d e = absurd (cc)
        no_datum value.Unit valid other d e = absurd (cc)
        no_datum (value.Datatype n) valid other d e = other n refl
        no_datum (value.Function k) valid other d e = let f = set.known.mean k valid.0 valid.1 in function_no_datum f.parameters f.value d (sym f.meant ∙ e)

    module _ (d : ℕ) (d1 : Desk) (codes2 : List Code) (part : OnExpr world (i + 1) height d0 codes1 (Ok (value.Datatype d)) d1 codes2) (k : Kept d0 d1) (next : ℕ) (at : Behind ns next (i + 1)) (d2 : Desk) (codes3 : List Code) where
      pub case_branches_stopped : {e : Expr} (r : Refused) → Coded world script form.Case e i → OnArms world next node.past d height d1 codes2 (Err r) d2 codes3 → judge (program script) (vals_of world script) e (names world script d0) ≡ refused r
      case_branches_stopped r (c_case {p = p} {e = e} {bs = bs} place ce cbs) arms =
          let few = set.few in
          let low = coded_low world script e (i + 1) ce in
          let a = coded_after world script _ e (i + 1) next ce at (omega arith) in
          let y = part script e set ready ce in
          case_later (program script) (vals_of world script) p e bs (names world script d0) (names world script d1) d y.type r
          (arms script bs set (kept_ready world script d0 d1 k ready) (moved (node_found ns i).past (sym (ap (λ (n : Node). n.past) is)) next a.0 cbs))
        where
          moved : (j : ℕ) → j ≡ node.past → (m : ℕ) → m ≡ (node_found ns (i + 1)).past → Branched world script bs (node_found ns (i + 1)).past j → Branched world script bs m node.past
          moved j ej m em b = subst (λ m. Branched world script bs m node.past) (sym em) (subst (λ j. Branched world script bs (node_found ns (i + 1)).past j) ej b)

      pub case_went : {e : Expr} (o : Option ValueType) (result : Result ValueType Refused) (codes : List Code) → Coded world script form.Case e i → OnArms world next node.past d height d1 codes2 (Ok o) d2 codes3
          → codes1 ≡ slice_set codes i (code op.Case node.place node.past) → result ≡ elim o [ Some kind ↦ Ok kind | None ↦ Err (refused_at Mismatch node.place) ]
          → ExprAnswers world script e i height d0 codes result d2 codes3
      case_went o result codes (c_case {p = p} {e = e} {bs = bs} place ce cbs) arms begun er =
          let few = set.few in
          let low = coded_low world script e (i + 1) ce in
          let a = coded_after world script _ e (i + 1) next ce at (omega arith) in
          let y = part script e set ready ce in
          let z = arms script bs set (kept_ready world script d0 d1 k ready) (moved (node_found ns i).past (sym (ap (λ (n : Node). n.past) is)) next a.0 cbs) in
          let whole : Coded world script form.Case (case_expr p e bs) i = c_case place ce cbs in
          subst (λ r. ExprAnswers world script (case_expr p e bs) i height d0 codes r d2 codes3) (sym er)
          (go o z.types z.one z.type (ap (λ (n : Node). n.place) is ∙ place) (ap (λ (n : Node). n.past) is ∙ code_size (text_of world script) (number_of world script) ns whole) y.type (λ G. y.noted G) (λ G. z.noted G) a.1 (branched_low world script bs next node.past (moved (node_found ns i).past (sym (ap (λ (n : Node). n.past) is)) next a.0 cbs)) few)
        where
          moved : (j : ℕ) → j ≡ node.past → (m : ℕ) → m ≡ (node_found ns (i + 1)).past → Branched world script bs (node_found ns (i + 1)).past j → Branched world script bs m node.past
          moved j ej m em b = subst (λ m. Branched world script bs m node.past) (sym em) (subst (λ j. Branched world script bs (node_found ns (i + 1)).past j) ej b)

          go : (o : Option ValueType) (types : Tys) → OfOneType world script types o → judge_branches (program script) (vals_of world script) d bs (names world script d1) ≡ judged types (names world script d2)
              → node.place ≡ p → node.past ≡ i + expr_nodes (case_expr p e bs) → judge (program script) (vals_of world script) e (names world script d0) ≡ judged (datum d) (names world script d1)
              → ((G : placed.Scope) → Lying world script d0 G height (i + 1) → codes2 ≡ puts codes1 (i + 1) (compile (program script) G (i + 1) e))
              → ((G : placed.Scope) → Lying world script d1 G height next → codes3 ≡ puts codes2 next (compile_branches (program script) G next bs))
              → next ≡ i + 1 + expr_nodes e → next < length ns → length ns ≤ 4096
              → ExprAnswers world script (case_expr p e bs) i height d0 codes (elim o [ Some kind ↦ Ok kind | None ↦ Err (refused_at Mismatch node.place) ]) d2 codes3
          go o no_types one types_are ep eq test noted branches_noted at low few = absurd one
          go None (and_type τ τs) one types_are ep eq test noted branches_noted at low few =
              case_unlike (program script) (vals_of world script) p e bs (names world script d0) (names world script d1) d test τ τs (names world script d2) types_are one ∙ ap (λ p. refused (refused_at Mismatch p)) (sym ep)
          go (Some kind) (and_type τ τs) one types_are ep eq test noted branches_noted at low few = record {
            type = case_judged (program script) (vals_of world script) p e bs (names world script d0) (names world script d1) d test τ τs (names world script d2) types_are one.2 ∙ ap (λ τ. judged τ (names world script d2)) one.0;
            valid = one.1;
            noted = λ G lying.
                let l0 = kept_lying world script d0 d0 (kept_self d0) G height i (i + 1) (omega arith) (omega arith) lying in
                let l1 = kept_lying world script d0 d1 k G height i next (omega arith) (omega arith) lying in
                let size = code_length (program script) e G (i + 1) in
                let A = compile (program script) G (i + 1) e in
                let e0 : code op.Case node.place node.past ≡ code op.Case p (i + expr_nodes (case_expr p e bs)) = cc (ep, eq) in
                puts_two codes1 codes2 codes3 (i + 1) next A (compile_branches (program script) G next bs) (noted G l0) (branches_noted G l1) (omega arith)
                ∙ ap (λ n. puts codes1 (i + 1) (A ++ compile_branches (program script) G n bs)) at
                ∙ ap (λ s. puts s (i + 1) (A ++ compile_branches (program script) G (i + 1 + expr_nodes e) bs)) (begun ∙ ap (slice_set codes i) e0);
          }
