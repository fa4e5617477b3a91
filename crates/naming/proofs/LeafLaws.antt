-- Names that are entered or dupped.
use Rattle.std.proofs.Common.{◌≡◌, ℕ, ◌+◌, ◌-◌, ◌≤◌, Bool, true, false, cond, List, length, Some, None, Ok, Err, Option, Result, slice_set, sym, refl, ap, ◌∙◌, subst, arith}
use Rattle.std.specs.List.{slice_get}
use Rattle.std.specs.Prelude.{nat_lt, slice_index_or}
use Rattle.std.proofs.lemmas.Bool.{ltb-true, ltb-false}
use Rattle.std.proofs.lemmas.List.{get_or_past}
use Rattle.globals.specs.Known.{FunctionIs}
use Rattle.grammar.specs.Trees.{Ident, Expr, Script}
use Rattle.grammar.specs.Reading.{ident}
use Rattle.layout.specs.Decoding.{node_found, c_name, c_dup}
use Rattle.layout.specs.Encoding.{unused}
use Rattle.layout.specs.Spelling.{Spells}
use Rattle.layout.specs.Words.{word_at}
use Rattle.layout.specs.declared.node.Node.{Node}
use Rattle.layout.specs.declared.node.NodeForm.TheVariants as form
use Rattle.layout.specs.declared.word.Word.{Word}
use Rattle.names.specs.Parts.{part_of}
use Rattle.naming.specs.Judges.{Desk, Setting, Ready, Lying, Coded, Enters, EntersAnswers, ExprAnswers, names, meant, vals_of, rows_of, text_of}
use Rattle.naming.specs.Leaves.{datatype_kind}
use Rattle.naming.specs.declared.world.World.{World}
use Rattle.naming.proofs.KindLaws.{datum_kind, val_some}
use Rattle.program.specs.Compiling.{code, global_op, name_op, dup_op}
use Rattle.program.specs.Programs as means
use Rattle.program.specs.Programs.{Name, program, global_of}
use Rattle.program.specs.Scopes as placed
use Rattle.program.specs.Scopes.{resolved_by}
use Rattle.program.specs.declared.code.Code.{Code}
use Rattle.program.specs.declared.code.Op.TheVariants as op
use Rattle.scopes.specs.Locals.{local_in, name_in, Newest, FindsLocal}
use Rattle.scopes.specs.declared.local.Local.{Local as LocalCode}
use Rattle.scopes.proofs.ContextLaws.{look_found, look_none, context_mark}
use Rattle.scopes.proofs.PlacedLaws.{distance_found, distance_none}
use Rattle.script_refusals.specs.Refusals.{refused_at}
use Rattle.script_refusals.specs.declared.refusal.Refusal.TheVariants as refusal
use Rattle.script_refusals.specs.declared.refusal.Refused.{Refused}
use Rattle.type_rows.specs.declared.value_type.ValueType.{ValueType}
use Rattle.typing.specs.Contexts.{Local, local, Context, local_named, consume}
use Rattle.typing.specs.Judging.{refused, judged, entered, enter_local, enter_global, known, dup_local, dup_global, judge, judge_name, judge_dup}

-- a node that is one part and no more is one of the nodes, which are few
node_low : (ns : List Node) (i : ℕ) → length ns ≤ 4096 → (node_found ns i).past ≡ i + 1 → i ≤ 65000
node_low ns i few past = go (nat_lt i (length ns)) refl
  where
    go : (b : Bool) → nat_lt i (length ns) ≡ b → i ≤ 65000
    go true e = let low = ltb-true i (length ns) e in omega arith
    go false e = let none = ap (λ (n : Node). n.past) (get_or_past ns i unused (ltb-false i (length ns) e)) in absurd (omega arith)

module _ (world : World) (script : Script) (set : Setting world script) where
  -- What a global name means.
  module _ (w : List ℕ) (i : ℕ) (node : Node) (codes : List Code) where
    enter_at : (g : means.Global) → global_of (program script) w ≡ g → (Γ : Context) → enter_global (program script) (vals_of world script) node.place (global_of (program script) w) Γ ≡ enter_global (program script) (vals_of world script) node.place g Γ
    enter_at g e Γ = ap (λ g. enter_global (program script) (vals_of world script) node.place g Γ) e

    pub enters_function : (n : ℕ) (kind : ValueType) (after : List Code) → global_of (program script) w ≡ means.function n → FunctionIs script (rows_of world script) n kind
        → after ≡ slice_set codes i (code (op.Function n) node.place node.past) → Enters world script w i node codes kind after
    enters_function n kind after e f s = record {
      type = λ Γ. enter_at (means.function n) e Γ ∙ ap (λ o. known node.place o Γ) f.type;
      valid = f.valid;
      noted = s ∙ ap (λ g. slice_set codes i (code (global_op g) node.place node.past)) (sym e);
    }

    pub enters_val : (k : ℕ) (kind : ValueType) (after : List Code) → global_of (program script) w ≡ means.val k → slice_get world.vals.now k ≡ Some kind
        → after ≡ slice_set codes i (code (op.Val k) node.place node.past) → Enters world script w i node codes kind after
    enters_val k kind after e f s = record {
      type = λ Γ. enter_at (means.val k) e Γ ∙ ap (λ o. known node.place o Γ) (val_some world script k kind f);
      valid = set.vals k kind f;
      noted = s ∙ ap (λ g. slice_set codes i (code (global_op g) node.place node.past)) (sym e);
    }

  -- Names that are entered and dupped, among these.
  module _ (old : Desk) (ready : Ready world script old) where
    abbrev Γ : Context
    Γ = names world script old

    abbrev marked : ℕ → Bool
    marked k = slice_index_or old.marks k false

    -- what entering and dupping do, by what the name is
    entering : (p : ℕ) (w : Name) (o : Option Local) → local_named w Γ ≡ o → judge_name (program script) (vals_of world script) p w Γ ≡ elim o [ Some l ↦ enter_local p w l Γ | None ↦ enter_global (program script) (vals_of world script) p (global_of (program script) w) Γ ]
    entering p w o e = ap (λ (o : Option Local). elim o [ Some l ↦ enter_local p w l Γ | None ↦ enter_global (program script) (vals_of world script) p (global_of (program script) w) Γ ]) e

    dupping : (p q : ℕ) (w : Name) (o : Option Local) → local_named w Γ ≡ o → judge_dup (program script) (vals_of world script) p (record { place = q; bytes = w }) Γ ≡ elim o [ Some l ↦ dup_local q l Γ | None ↦ dup_global (vals_of world script) p q (global_of (program script) w) ]
    dupping p q w o e = ap (λ (o : Option Local). elim o [ Some l ↦ dup_local q l Γ | None ↦ dup_global (vals_of world script) p q (global_of (program script) w) ]) e

    found_at : (w : Name) (k : ℕ) → Newest (text_of world script) old.locals w old.depth k → (b : Bool) → marked k ≡ b
        → local_named w Γ ≡ Some (local (name_in (text_of world script) old.locals k) (meant world script (local_in old.locals k).kind) b)
    found_at w k f b e = look_found (text_of world script) _ old.locals old.marks w old.depth k f ∙ ap (λ b. Some (local (name_in (text_of world script) old.locals k) (meant world script (local_in old.locals k).kind) b)) e

    -- the op of a name that is found
    far : (w : Name) (k height i d : ℕ) (G : placed.Scope) → Newest (text_of world script) old.locals w old.depth k → Lying world script old G height i → (height ≤ 65536 → d ≡ height - 1 - (local_in old.locals k).height) → i ≤ 65000
        → placed.distance w G ≡ Some d
    far w k height i d G f lying e low =
        let x = distance_found (text_of world script) old.locals w old.depth k G lying.among f in
        let s = lying.size in
        let few = lying.few in
        let many = ready.few in
        let y : length G - 1 - (local_in old.locals k).height ≡ d = omega (arith, e (omega arith)) in
        x.far ∙ ap Some y

    -- the names after one of them was entered
    abbrev entered_desk : ℕ → Desk
    entered_desk k = record old { marks = cond (datatype_kind (local_in old.locals k).kind) (slice_set old.marks k true) old.marks }

    entered_names : (w : Name) (k : ℕ) → Newest (text_of world script) old.locals w old.depth k → entered w (meant world script (local_in old.locals k).kind) Γ ≡ names world script (entered_desk k)
    entered_names w k f =
        let low = f.below in
        let valid = ready.kinds k low in
        let long = ready.long in
        let few = ready.few in
        let d = datum_kind (rows_of world script) _ set.known.mean (local_in old.locals k).kind valid in
        ap (λ b. cond b (consume w Γ) Γ) d ∙ go (datatype_kind (local_in old.locals k).kind) (context_mark (text_of world script) _ old.locals old.marks w old.depth k f (omega arith))
      where
        go : (b : Bool) → consume w Γ ≡ names world script (record old { marks = slice_set old.marks k true }) → cond b (consume w Γ) Γ ≡ names world script (record old { marks = cond b (slice_set old.marks k true) old.marks })
        go true e = e
        go false e = refl

    -- A name at node i, of so many bytes.
    module _ (i size : ℕ) (node : Node) (name : List ℕ) (is : node ≡ node_found world.nodes.now i) (spelt : name ≡ part_of (text_of world script) (word_at node.place size)) where
      word_is : {p : ℕ} {w : List ℕ} → (node_found world.nodes.now i).place ≡ p → Spells (text_of world script) (word_at p size) (ident p w) → name ≡ w
      word_is place spells = spelt ∙ ap (λ (n : Node). part_of (text_of world script) (word_at n.place size)) is ∙ ap (λ p. part_of (text_of world script) (word_at p size)) place ∙ spells.bytes_are

      pub name_consumed : (k : ℕ) (r : Refused) {e : Expr} → Coded world script (form.Name size) e i → Newest (text_of world script) old.locals name old.depth k
          → marked k ≡ true → r ≡ refused_at refusal.Consumed node.place → judge (program script) (vals_of world script) e Γ ≡ refused r
      name_consumed k r (c_name {p = p} {w = w} place past spells) f m e =
          let f' = subst (λ w. Newest (text_of world script) old.locals w old.depth k) (word_is place spells) f in
          entering p w _ (found_at w k f' true m) ∙ ap (λ p. refused (refused_at refusal.Consumed p)) (sym (ap (λ (n : Node). n.place) is ∙ place)) ∙ ap refused (sym e)

      pub name_local : (k height d : ℕ) (codes after : List Code) (l : LocalCode) (new : Desk) {e : Expr} → Coded world script (form.Name size) e i → Newest (text_of world script) old.locals name old.depth k
          → marked k ≡ false → l ≡ local_in old.locals k → (height ≤ 65536 → d ≡ height - 1 - l.height)
          → after ≡ slice_set codes i (code (op.Local d) node.place node.past) → new ≡ record old { marks = cond (datatype_kind l.kind) (slice_set old.marks k true) old.marks }
          → ExprAnswers world script e i height old codes (Ok l.kind) new after
      name_local k height d codes after l new {e} c f m el far_is s en =
          subst (λ n. ExprAnswers world script e i height old codes (Ok l.kind) n after) (sym en)
          (subst (λ l. ExprAnswers world script e i height old codes (Ok l.kind) (record old { marks = cond (datatype_kind l.kind) (slice_set old.marks k true) old.marks }) after) (sym el)
          (go c f))
        where
          go : {e : Expr} → Coded world script (form.Name size) e i → Newest (text_of world script) old.locals name old.depth k → ExprAnswers world script e i height old codes (Ok (local_in old.locals k).kind) (entered_desk k) after
          go (c_name {p = p} {w = w} place past spells) f =
              let f' = subst (λ w. Newest (text_of world script) old.locals w old.depth k) (word_is place spells) f in
              let low = node_low world.nodes.now i set.few past in
              let far_here : height ≤ 65536 → d ≡ height - 1 - (local_in old.locals k).height = λ h. far_is h ∙ ap (λ (l : LocalCode). height - 1 - l.height) el in
              record {
                type = entering p w _ (found_at w k f' false m) ∙ ap (judged (meant world script (local_in old.locals k).kind)) (entered_names w k f');
                valid = ready.kinds k f.below;
                noted = λ G lying.
                    let o : op.Local d ≡ name_op (placed.resolve (program script) G w) = sym (ap (λ (o : Option ℕ). name_op (resolved_by (program script) w o)) (far w k height i d G f' lying far_here low)) in
                    let ep : node.place ≡ p = ap (λ (n : Node). n.place) is ∙ place in
                    let eq : node.past ≡ i + 1 = ap (λ (n : Node). n.past) is ∙ past in
                    let e : code (op.Local d) node.place node.past ≡ code (name_op (placed.resolve (program script) G w)) p (i + 1) = cc (o, ep, eq) in
                    s ∙ ap (slice_set codes i) e;
              }

      pub name_global : (height : ℕ) (codes after : List Code) (result : Result ValueType Refused) {e : Expr} → Coded world script (form.Name size) e i
          → FindsLocal (text_of world script) old.locals name old.depth None → EntersAnswers world script name i node codes result after → ExprAnswers world script e i height old codes result old after
      name_global height codes after (Ok kind) (c_name {p = p} {w = w} place past spells) f a =
          let f' = subst (λ w. FindsLocal (text_of world script) old.locals w old.depth None) (word_is place spells) f in
          let a' = subst (λ w. EntersAnswers world script w i node codes (Ok kind) after) (word_is place spells) a in
          let ep : node.place ≡ p = ap (λ (n : Node). n.place) is ∙ place in
          let eq : node.past ≡ i + 1 = ap (λ (n : Node). n.past) is ∙ past in
          record {
            type = entering p w None (look_none (text_of world script) _ old.locals old.marks w old.depth f') ∙ ap (λ p. enter_global (program script) (vals_of world script) p (global_of (program script) w) Γ) (sym ep) ∙ a'.type Γ;
            valid = a'.valid;
            noted = λ G lying.
                let o : global_op (global_of (program script) w) ≡ name_op (placed.resolve (program script) G w) = sym (ap (λ (o : Option ℕ). name_op (resolved_by (program script) w o)) (distance_none (text_of world script) old.locals w old.depth G lying.among f')) in
                let e : code (global_op (global_of (program script) w)) node.place node.past ≡ code (name_op (placed.resolve (program script) G w)) p (i + 1) = cc (o, ep, eq) in
                a'.noted ∙ ap (slice_set codes i) e;
          }
      name_global height codes after (Err r) (c_name {p = p} {w = w} place past spells) f a =
          let f' = subst (λ w. FindsLocal (text_of world script) old.locals w old.depth None) (word_is place spells) f in
          let a' = subst (λ w. EntersAnswers world script w i node codes (Err r) after) (word_is place spells) a in
          let ep : node.place ≡ p = ap (λ (n : Node). n.place) is ∙ place in
          entering p w None (look_none (text_of world script) _ old.locals old.marks w old.depth f') ∙ ap (λ p. enter_global (program script) (vals_of world script) p (global_of (program script) w) Γ) (sym ep) ∙ a' Γ

    -- A dup at node i of the name in a word.
    module _ (i : ℕ) (node : Node) (word : Word) (name : List ℕ) (is : node ≡ node_found world.nodes.now i) (spelt : name ≡ part_of (text_of world script) word) where
      dup_name : {x : Ident} → Spells (text_of world script) word x → name ≡ x.bytes
      dup_name spells = spelt ∙ spells.bytes_are

      pub dup_consumed : (k : ℕ) (r : Refused) {e : Expr} → Coded world script (form.Dup word) e i → Newest (text_of world script) old.locals name old.depth k
          → marked k ≡ true → r ≡ refused_at refusal.Consumed word.place → judge (program script) (vals_of world script) e Γ ≡ refused r
      dup_consumed k r (c_dup {p = p} {x = x} place past spells) f m e =
          let f' = subst (λ w. Newest (text_of world script) old.locals w old.depth k) (dup_name spells) f in
          dupping p x.place x.bytes _ (found_at x.bytes k f' true m) ∙ ap (λ p. refused (refused_at refusal.Consumed p)) (sym spells.place_is) ∙ ap refused (sym e)

      pub dup_local_rule : (k height d : ℕ) (codes after : List Code) (l : LocalCode) {e : Expr} → Coded world script (form.Dup word) e i → Newest (text_of world script) old.locals name old.depth k
          → marked k ≡ false → l ≡ local_in old.locals k → (height ≤ 65536 → d ≡ height - 1 - l.height)
          → after ≡ slice_set codes i (code (op.Dup d) node.place node.past) → ExprAnswers world script e i height old codes (Ok l.kind) old after
      dup_local_rule k height d codes after l {e} c f m el far_is s =
          subst (λ l. ExprAnswers world script e i height old codes (Ok l.kind) old after) (sym el) (go c f)
        where
          go : {e : Expr} → Coded world script (form.Dup word) e i → Newest (text_of world script) old.locals name old.depth k → ExprAnswers world script e i height old codes (Ok (local_in old.locals k).kind) old after
          go (c_dup {p = p} {x = x} place past spells) f =
              let f' = subst (λ w. Newest (text_of world script) old.locals w old.depth k) (dup_name spells) f in
              let low = node_low world.nodes.now i set.few past in
              let far_here : height ≤ 65536 → d ≡ height - 1 - (local_in old.locals k).height = λ h. far_is h ∙ ap (λ (l : LocalCode). height - 1 - l.height) el in
              record {
                type = dupping p x.place x.bytes _ (found_at x.bytes k f' false m);
                valid = ready.kinds k f.below;
                noted = λ G lying.
                    let o : op.Dup d ≡ dup_op (placed.resolve (program script) G x.bytes) = sym (ap (λ (o : Option ℕ). dup_op (resolved_by (program script) x.bytes o)) (far x.bytes k height i d G f' lying far_here low)) in
                    let ep : node.place ≡ p = ap (λ (n : Node). n.place) is ∙ place in
                    let eq : node.past ≡ i + 1 = ap (λ (n : Node). n.past) is ∙ past in
                    let e : code (op.Dup d) node.place node.past ≡ code (dup_op (placed.resolve (program script) G x.bytes)) p (i + 1) = cc (o, ep, eq) in
                    s ∙ ap (slice_set codes i) e;
              }

      pub dup_refused : (r : Refused) {e : Expr} → Coded world script (form.Dup word) e i → FindsLocal (text_of world script) old.locals name old.depth None
          → dup_global (vals_of world script) node.place word.place (global_of (program script) name) ≡ refused r → judge (program script) (vals_of world script) e Γ ≡ refused r
      dup_refused r (c_dup {p = p} {x = x} place past spells) f e =
          let f' = subst (λ w. FindsLocal (text_of world script) old.locals w old.depth None) (dup_name spells) f in
          let en = dup_name spells in
          let ep : node.place ≡ p = ap (λ (n : Node). n.place) is ∙ place in
          let eq : word.place ≡ x.place = spells.place_is in
          let z : dup_global (vals_of world script) p x.place (global_of (program script) x.bytes) ≡ dup_global (vals_of world script) node.place word.place (global_of (program script) name) = cc in
          dupping p x.place x.bytes None (look_none (text_of world script) _ old.locals old.marks x.bytes old.depth f') ∙ z ∙ e
