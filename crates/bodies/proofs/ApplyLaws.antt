-- Applications and their arguments.
use Rattle.std.proofs.Common.{◌≡◌, ℕ, ◌+◌, ◌<◌, ◌≤◌, Bool, true, false, ◌&&◌, List, ◌∷◌, ◌++◌, Some, None, Ok, Err, Option, Result, slice_set, sym, refl, ap, ◌∙◌, subst, arith}
use Rattle.std.specs.Prelude.{nat_le, nat_lt}
use Rattle.std.proofs.lemmas.Bool.{lt-ltb, le-ltb, le-leb, lt-leb}
use Rattle.bodies.proofs.DeskLaws.{kept_ready, kept_lying, kept_self}
use Rattle.bodies.proofs.HeadLaws.{head_means, head_builds, head_calls}
use Rattle.bodies.proofs.JudgeLaws.{each_refused, each_later, each_judged, construct_refused, construct_unfit, construct_judged, call_refused, call_later, call_goes}
use Rattle.bodies.proofs.NodeLaws.{Behind, coded_low, coded_after}
use Rattle.bodies.proofs.PutLaws.{puts_two, set_puts}
use Rattle.bodies.proofs.SizeLaws.{code_size, codes_size}
use Rattle.bodies.proofs.TypeLaws.{same_more, more_none, none_more}
use Rattle.bodies.specs.Heads.{Signs, IsSignature, IsNext}
use Rattle.bodies.specs.Parts.{OnExpr, OnArguments, Listed, ArgumentsAnswers, number_of}
use Rattle.bodies.specs.declared.signature.Signature.{Signature}
use Rattle.forms.specs.Progress.{puts}
use Rattle.globals.specs.Known.{meaning_in, VariantIs}
use Rattle.globals.specs.declared.variant.Variant.{Variant as VariantCode}
use Rattle.grammar.specs.Limits.{expr_nodes}
use Rattle.grammar.specs.Trees.{Expr, Exprs, apply_expr, and_expr, Script}
use Rattle.layout.specs.Decoding.{node_found, c_apply, c_none, c_more}
use Rattle.layout.specs.declared.node.Node.{Node}
use Rattle.layout.specs.declared.node.NodeForm.TheVariants as form
use Rattle.naming.specs.Judges.{Desk, Kept, Setting, Ready, Lying, Coded, ExprAnswers, names, meant, vals_of, rows_of, text_of}
use Rattle.naming.specs.declared.world.World.{World}
use Rattle.program.proofs.CodeLaws.{code_length, nodes_some}
use Rattle.program.specs.Compiling.{code, compile, compile_arguments, argument_count, apply_op}
use Rattle.program.specs.Programs as means
use Rattle.program.specs.Programs.{program, global_of}
use Rattle.program.specs.Scopes as placed
use Rattle.program.specs.declared.code.Code.{Code}
use Rattle.program.specs.declared.code.Op.TheVariants as op
use Rattle.script_refusals.specs.Refusals.{refused_at}
use Rattle.script_refusals.specs.declared.refusal.Refusal.TheVariants.{Mismatch}
use Rattle.script_refusals.specs.declared.refusal.Refused.{Refused}
use Rattle.type_rows.specs.Rows.{row_at, kind_at, TypesLie, no_rows, and_row}
use Rattle.type_rows.specs.declared.value_type.ValueType.{ValueType}
use Rattle.type_rows.specs.declared.value_type.ValueType.TheVariants as value
use Rattle.typing.proofs.TypeRows.{same_types_law}
use Rattle.typing.specs.Contexts.{Context}
use Rattle.typing.specs.Judging.{Judged, refused, judged, need, judge, judge_each, head_constructor, call}
use Rattle.typing.specs.Types as type
use Rattle.typing.specs.Types.{Ty, function, datum, Tys, no_types, and_type, count, same_type, same_types}

module _ (world : World) (script : Script) (set : Setting world script) where
  abbrev ns : List Node
  ns = world.nodes.now

  -- the types from a row up to another
  abbrev Lie : ℕ → ℕ → Tys → Type 0
  Lie row last σs = TypesLie (rows_of world script) (meaning_in script) row last σs

  -- Arguments, from node i up to node j, for the types from a row up to another.
  module _ (i j row last height : ℕ) (short : j ≤ 65535) (d0 : Desk) (ready : Ready world script d0) (codes : List Code) where
    pub arguments_ended : (es : Exprs) (fit : Bool) → Listed world script es i j → j ≤ i → fit ≡ nat_le last row → ArgumentsAnswers world script es i row last height d0 codes (Ok fit) d0 codes
    arguments_ended _ fit (c_none e) low is = record { types = no_types; type = refl; fits = λ σs lie. is ∙ go σs lie; many = refl; noted = λ G lying. refl }
      where
        go : (σs : Tys) → Lie row last σs → nat_le last row ≡ same_types σs no_types
        go _ (no_rows e) = le-leb last row (omega arith)
        go _ (and_row {t = σ} {ts = σs} on here more) = lt-leb last row (omega arith) ∙ sym (more_none σ σs)
    arguments_ended _ fit (c_more on e es) low is = absurd (omega arith)

    pub arguments_stopped : (es : Exprs) (r : Refused) (d1 : Desk) (codes1 : List Code) → Listed world script es i j → i < j → OnExpr world i height d0 codes (Err r) d1 codes1
        → judge_each (program script) (vals_of world script) es (names world script d0) ≡ refused r
    arguments_stopped _ r d1 codes1 (c_none e) low part = absurd (omega arith)
    arguments_stopped _ r d1 codes1 (c_more {e = e} {es = es} on ce ces) low part = each_refused (program script) (vals_of world script) e es (names world script d0) r (part script e set ready ce)

    pub arguments_went : (es : Exprs) (kind : ValueType) (d1 : Desk) (codes1 : List Code) → Listed world script es i j → i < j → OnExpr world i height d0 codes (Ok kind) d1 codes1 → Kept d0 d1
        → (next : ℕ) → Behind ns next i → (past high : ℕ) → past ≡ (row_at (rows_of world script) row).past → (height ≤ 131072 → high ≡ height + 1)
        → (fit : Bool) → IsNext (rows_of world script) row last kind fit → (result whole : Result Bool Refused) (d2 : Desk) (codes2 : List Code) → OnArguments world next j past last high d1 codes1 result d2 codes2
        → whole ≡ elim result [ Ok others ↦ Ok (fit && others) | Err r ↦ Err r ] → ArgumentsAnswers world script es i row last height d0 codes whole d2 codes2
    arguments_went _ kind d1 codes1 (c_none e) low part k next at past high past_is up fit fits result whole d2 codes2 rest ew = absurd (omega arith)
    arguments_went _ kind d1 codes1 (c_more {e = e} {es = es} on ce ces) low part k next at past high past_is up fit fits result whole d2 codes2 rest ew =
        let few = set.few in
        let here = coded_low world script e i ce in
        let a = coded_after world script _ e i next ce at (omega arith) in
        let y = part script e set ready ce in
        let r1 = kept_ready world script d0 d1 k ready in
        let z = rest script es set r1 (subst (λ n. Listed world script es n j) (sym a.0) ces) in
        let size = codes_size (text_of world script) (number_of world script) ns ces in
        subst (λ w. ArgumentsAnswers world script (and_expr e es) i row last height d0 codes w d2 codes2) (sym ew)
        (go result y.type (λ G. y.noted G) (fits (meaning_in script) set.known.mean y.valid) a.1 (let e = a.0 in omega arith) z)
      where
        go : (result : Result Bool Refused) → judge (program script) (vals_of world script) e (names world script d0) ≡ judged (meant world script kind) (names world script d1)
            → ((G : placed.Scope) → Lying world script d0 G height i → codes1 ≡ puts codes i (compile (program script) G i e))
            → fit ≡ (nat_lt row last && same_type (meant world script (kind_at (rows_of world script) row)) (meant world script kind))
            → next ≡ i + expr_nodes e → next ≤ 65535 → ArgumentsAnswers world script es next past last high d1 codes1 result d2 codes2
            → ArgumentsAnswers world script (and_expr e es) i row last height d0 codes (elim result [ Ok others ↦ Ok (fit && others) | Err r ↦ Err r ]) d2 codes2
        go (Err r) type noted first at low z = each_later (program script) (vals_of world script) e es (names world script d0) (names world script d1) (meant world script kind) type r z
        go (Ok others) type noted first at low z = record {
          types = and_type (meant world script kind) z.types;
          type = each_judged (program script) (vals_of world script) e es (names world script d0) (names world script d1) (meant world script kind) type z.types (names world script d2) z.type;
          fits = fitting;
          many = ap (λ n. 1 + n) z.many;
          noted = λ G lying.
              let few = lying.few in
              let small = ready.few in
              let i_low = lying.low in
              let l1 = kept_lying world script d0 d1 k G height i next (omega arith) (omega arith) lying in
              let high_is : high ≡ height + 1 = up (omega arith) in
              let l2 : Lying world script d1 (None ∷ G) high next = record { among = l1.among; size = let s = l1.size in omega arith; few = let f = lying.few in let d = k.depth in let some = nodes_some (program script) e in omega arith; low = l1.low } in
              let size = code_length (program script) e G i in
              let A = compile (program script) G i e in
              puts_two codes codes1 codes2 i next A (compile_arguments (program script) (None ∷ G) next es) (noted G lying) (z.noted (None ∷ G) l2) (omega arith)
              ∙ ap (λ n. puts codes i (A ++ compile_arguments (program script) (None ∷ G) n es)) at;
        }
          where
            fitting : (σs : Tys) → Lie row last σs → (fit && others) ≡ same_types σs (and_type (meant world script kind) z.types)
            fitting _ (no_rows e) =
                let f : fit ≡ false = first ∙ ap (λ b. b && same_type (meant world script (kind_at (rows_of world script) row)) (meant world script kind)) (le-ltb row last (omega arith)) in
                ap (λ b. b && others) f ∙ sym (none_more (meant world script kind) z.types)
            fitting _ (and_row {t = σ} {ts = σs} on here more) =
                let f : fit ≡ same_type σ (meant world script kind) =
                first ∙ ap (λ b. b && same_type (meant world script (kind_at (rows_of world script) row)) (meant world script kind)) (lt-ltb row last on) ∙ ap (λ σ. same_type σ (meant world script kind)) here in
                let o : others ≡ same_types σs z.types = z.fits σs (subst (λ r. Lie r last σs) (sym past_is) more) in
                cc (f, o) ∙ sym (same_more σ (meant world script kind) σs z.types)

  -- An application at node i.
  module _ (i height : ℕ) (d0 : Desk) where
    -- whichever it is
    pub apply_by_parts : (codes : List Code) (result : Result ValueType Refused) (d1 : Desk) (codes1 : List Code) {x : Expr} → Coded world script form.Apply x i
        → ((p : ℕ) (e : Expr) (es : Exprs) → Coded world script form.Apply (apply_expr p e es) i → Coded world script (node_found ns (i + 1)).form e (i + 1) → ExprAnswers world script (apply_expr p e es) i height d0 codes result d1 codes1)
        → ExprAnswers world script x i height d0 codes result d1 codes1
    apply_by_parts codes result d1 codes1 (c_apply {p = p} {e = e} {es = es} place ce ces) answers = answers p e es (c_apply place ce ces) ce

    -- what is called was refused
    pub call_stopped : (ready : Ready world script d0) (codes1 codes2 : List Code) (r : Refused) (d1 : Desk) {p : ℕ} {e : Expr} {es : Exprs} → Coded world script form.Apply (apply_expr p e es) i → head_constructor (program script) e (names world script d0) ≡ None
        → OnExpr world (i + 1) height d0 codes1 (Err r) d1 codes2 → judge (program script) (vals_of world script) (apply_expr p e es) (names world script d0) ≡ refused r
    call_stopped ready codes1 codes2 r d1 (c_apply {p = p} {e = e} {es = es} place ce ces) named part = call_refused (program script) (vals_of world script) p e es (names world script d0) named r (part script e set ready ce)

  -- An application at node i, and the node behind its head.
  module _ (i height : ℕ) (node : Node) (is : node ≡ node_found ns i) (short : node.past ≤ 65535) (next : ℕ) (behind : Behind ns next (i + 1)) where
    -- its parts, in the node list
    record Parts (p : ℕ) (e : Expr) (es : Exprs) : Type 0 where
      pub place : node.place ≡ p
      pub past : node.past ≡ i + expr_nodes (apply_expr p e es)
      pub head : Coded world script (node_found ns (i + 1)).form e (i + 1)
      pub rest : Listed world script es next node.past
      pub at : next ≡ i + 1 + expr_nodes e
      pub low : next ≤ 65535

    parts_of : {p : ℕ} {e : Expr} {es : Exprs} → Coded world script form.Apply (apply_expr p e es) i → Parts p e es
    parts_of (c_apply {p = p} {e = e} {es = es} place ce ces) =
        let few = set.few in
        let whole : Coded world script form.Apply (apply_expr p e es) i = c_apply place ce ces in
        let here = coded_low world script e (i + 1) ce in
        let a = coded_after world script _ e (i + 1) next ce behind (omega arith) in
        let past_is : node.past ≡ (node_found ns i).past = ap (λ (n : Node). n.past) is in
        let size = codes_size (text_of world script) (number_of world script) ns ces in
        record {
          place = ap (λ (n : Node). n.place) is ∙ place;
          past = past_is ∙ code_size (text_of world script) (number_of world script) ns whole;
          head = ce;
          rest = subst (λ n. Listed world script es n node.past) (sym a.0) (subst (λ j. Listed world script es (node_found ns (i + 1)).past j) (sym past_is) ces);
          at = a.1;
          low = let e = a.0 in omega arith;
        }

    module _ (d0 : Desk) (ready : Ready world script d0) (p : ℕ) (e : Expr) (es : Exprs) (stands : Coded world script form.Apply (apply_expr p e es) i) where
      abbrev Γ : Context
      Γ = names world script d0

      -- the refusal of the whole
      misfit : (r : Refused) → r ≡ refused_at Mismatch node.place → ◌≡◌ {A = Judged Ty} (refused (refused_at Mismatch p)) (refused r)
      misfit r er = ap (λ p. refused (refused_at Mismatch p)) (sym (parts_of stands).place) ∙ ap refused (sym er)

      -- Its head is the constructor with a number.
      module _ (k : ℕ) (named : head_constructor (program script) e Γ ≡ Some k) (v : VariantCode) (variant : (w : List ℕ) → global_of (program script) w ≡ means.constructor k → VariantIs script (rows_of world script) k v)
          (codes1 : List Code) (d1 : Desk) (codes2 : List Code) where
        abbrev Judges : Result Bool Refused → Type 0
        Judges result = OnArguments world next node.past v.first v.past height d0 codes1 result d1 codes2

        pub construct_stopped : (r : Refused) → Judges (Err r) → judge (program script) (vals_of world script) (apply_expr p e es) Γ ≡ refused r
        construct_stopped r part = construct_refused (program script) (vals_of world script) p e es Γ k named r (part script es set ready (parts_of stands).rest)

        pub construct_unlike : (fit : Bool) (r : Refused) → Judges (Ok fit) → fit ≡ false → r ≡ refused_at Mismatch node.place → judge (program script) (vals_of world script) (apply_expr p e es) Γ ≡ refused r
        construct_unlike fit r part bad er =
            let h = head_means world script d0 (i + 1) (parts_of stands).head k named in
            let v_is = variant h.0 h.1 in
            let z = part script es set ready (parts_of stands).rest in
            construct_unfit (program script) (vals_of world script) p e es Γ k named v_is.entry v_is.at z.types (names world script d1) z.type (sym (z.fits _ v_is.lie) ∙ bad) ∙ misfit r er

        pub construct_built : (fit : Bool) (head : Node) (codes codes3 : List Code) → Judges (Ok fit) → fit ≡ true → head ≡ node_found ns (i + 1) → codes1 ≡ slice_set codes (i + 1) (code op.Head head.place head.past)
            → codes3 ≡ slice_set codes2 i (code (op.Build k v.fields) node.place node.past) → ExprAnswers world script (apply_expr p e es) i height d0 codes (Ok (value.Datatype v.datatype)) d1 codes3
        construct_built fit head codes codes3 part good head_is headed built =
            let q = parts_of stands in
            let h = head_means world script d0 (i + 1) q.head k named in
            let v_is = variant h.0 h.1 in
            let z = part script es set ready q.rest in
            let same = sym (z.fits _ v_is.lie) ∙ good in
            let many : v.fields ≡ argument_count es = v_is.fields ∙ ap count (same_types_law _ z.types same) ∙ z.many in
            record {
              type = construct_judged (program script) (vals_of world script) p e es Γ k named v_is.entry v_is.at z.types (names world script d1) z.type same ∙ ap (λ d. judged (datum d) (names world script d1)) (sym v_is.datatype);
              valid = tt;
              noted = λ G lying.
                  let size = code_length (program script) e G (i + 1) in
                  let b = head_builds world script d0 (i + 1) q.head k named G lying.among in
                  let l1 = kept_lying world script d0 d0 (kept_self d0) G height i next (let a = q.at in omega arith) (let a = q.low in omega arith) lying in
                  let A = compile (program script) G (i + 1) e in
                  let B = compile_arguments (program script) G next es in
                  let op_is : op.Build k v.fields ≡ apply_op (program script) G e (argument_count es) = ap (op.Build k) many ∙ sym (b.call (argument_count es)) in
                  let e0 : code (op.Build k v.fields) node.place node.past ≡ code (apply_op (program script) G e (argument_count es)) p (i + expr_nodes (apply_expr p e es)) = cc (op_is, q.place, q.past) in
                  let h1 : codes1 ≡ puts codes (i + 1) A = headed ∙ ap (λ (n : Node). slice_set codes (i + 1) (code op.Head n.place n.past)) head_is ∙ ap (puts codes (i + 1)) (sym b.noted) in
                  let h2 = puts_two codes codes1 codes2 (i + 1) next A B h1 (z.noted G l1) (let a = q.at in omega arith) in
                  built ∙ ap (λ s. slice_set s i (code (op.Build k v.fields) node.place node.past)) h2
                  ∙ set_puts codes i (i + 1) (code (op.Build k v.fields) node.place node.past) (A ++ B) (omega arith)
                  ∙ ap (λ c. puts (slice_set codes i c) (i + 1) (A ++ B)) e0
                  ∙ ap (λ n. puts (slice_set codes i (code (apply_op (program script) G e (argument_count es)) p (i + expr_nodes (apply_expr p e es)))) (i + 1) (A ++ compile_arguments (program script) G n es)) q.at;
            }

      -- Its head names no constructor, and is of a type.
      module _ (none : head_constructor (program script) e Γ ≡ None) (codes1 : List Code) (d1 : Desk) (codes2 : List Code)
          (kind : ValueType) (applied : OnExpr world (i + 1) height d0 codes1 (Ok kind) d1 codes2) (k1 : Kept d0 d1) (s : Signature) (signs : IsSignature (rows_of world script) kind s) (d2 : Desk) (codes3 : List Code) where
        abbrev Offers : Result Bool Refused → Type 0
        Offers result = OnArguments world next node.past s.first s.past height d1 codes2 result d2 codes3

        head : ExprAnswers world script e (i + 1) height d0 codes1 (Ok kind) d1 codes2
        head = applied script e set ready (parts_of stands).head

        pub call_later_stopped : (r : Refused) → Offers (Err r) → judge (program script) (vals_of world script) (apply_expr p e es) Γ ≡ refused r
        call_later_stopped r part =
            call_later (program script) (vals_of world script) p e es Γ none (meant world script kind) (names world script d1) head.type r (part script es set (kept_ready world script d0 d1 k1 ready) (parts_of stands).rest)

        -- the type that is called, by its signature
        unfit : (o : Option ValueType) (fit : Bool) (τs : Tys) → Signs (rows_of world script) (meaning_in script) kind s o → ((σs : Tys) → TypesLie (rows_of world script) (meaning_in script) s.first s.past σs → fit ≡ same_types σs τs)
            → ((result : ValueType) → o ≡ Some result → fit ≡ false) → call p (meant world script kind) τs (names world script d2) ≡ refused (refused_at Mismatch p)
        unfit None fit τs signs fits bad = go (meant world script kind) signs
          where
            go : (σ : Ty) → ((σs : Tys) (τ : Ty) → σ ≡ function σs τ → ⊥) → call p σ τs (names world script d2) ≡ refused (refused_at Mismatch p)
            go type.int other = refl
            go type.bool other = refl
            go type.sym other = refl
            go type.unit other = refl
            go (datum d) other = refl
            go (function σs τ) other = absurd (other σs τ refl)
        unfit (Some result) fit τs (σs, is, valid, lie) fits bad =
            ap (λ σ. call p σ τs (names world script d2)) is ∙ ap (λ b. need b p (judged (meant world script result) (names world script d2))) (sym (fits σs lie) ∙ bad result refl)

        pub call_unlike : (fit : Bool) (r : Refused) → Offers (Ok fit) → ((result : ValueType) → s.result ≡ Some result → fit ≡ false) → r ≡ refused_at Mismatch node.place
            → judge (program script) (vals_of world script) (apply_expr p e es) Γ ≡ refused r
        call_unlike fit r part bad er =
            let z = part script es set (kept_ready world script d0 d1 k1 ready) (parts_of stands).rest in
            call_goes (program script) (vals_of world script) p e es Γ none (meant world script kind) (names world script d1) head.type z.types (names world script d2) z.type
            ∙ unfit s.result fit z.types (signs (meaning_in script) set.known.mean head.valid) z.fits bad ∙ misfit r er

        pub call_judged : (fit : Bool) (result : ValueType) (codes : List Code) → Offers (Ok fit) → fit ≡ true → s.result ≡ Some result → codes1 ≡ slice_set codes i (code op.Call node.place node.past)
            → ExprAnswers world script (apply_expr p e es) i height d0 codes (Ok result) d2 codes3
        call_judged fit result codes part good is begun =
            let q = parts_of stands in
            let z = part script es set (kept_ready world script d0 d1 k1 ready) q.rest in
            let y = subst (Signs (rows_of world script) (meaning_in script) kind s) is (signs (meaning_in script) set.known.mean head.valid) in
            let same = sym (z.fits y.0 y.3) ∙ good in
            record {
              type = call_goes (program script) (vals_of world script) p e es Γ none (meant world script kind) (names world script d1) head.type z.types (names world script d2) z.type
                  ∙ ap (λ σ. call p σ z.types (names world script d2)) y.1 ∙ ap (λ b. need b p (judged (meant world script result) (names world script d2))) same;
              valid = y.2;
              noted = λ G lying.
                  let size = code_length (program script) e G (i + 1) in
                  let op_is = head_calls world script d0 e none G lying.among (argument_count es) in
                  let l0 = kept_lying world script d0 d0 (kept_self d0) G height i (i + 1) (omega arith) (let a = q.at in let b = q.low in omega arith) lying in
                  let l1 = kept_lying world script d0 d1 k1 G height i next (let a = q.at in omega arith) (let a = q.low in omega arith) lying in
                  let A = compile (program script) G (i + 1) e in
                  let B = compile_arguments (program script) G next es in
                  let e0 : code op.Call node.place node.past ≡ code (apply_op (program script) G e (argument_count es)) p (i + expr_nodes (apply_expr p e es)) = cc (op_is, q.place, q.past) in
                  puts_two codes1 codes2 codes3 (i + 1) next A B (head.noted G l0) (z.noted G l1) (let a = q.at in omega arith)
                  ∙ ap (λ n. puts codes1 (i + 1) (A ++ compile_arguments (program script) G n es)) q.at
                  ∙ ap (λ s. puts s (i + 1) (A ++ compile_arguments (program script) G (i + 1 + expr_nodes e) es)) (begun ∙ ap (slice_set codes i) e0);
            }
