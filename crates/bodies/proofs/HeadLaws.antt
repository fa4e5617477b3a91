-- The constructor that an application's head names, and the type of what is applied.
use Rattle.std.proofs.Common.{◌≡◌, ℕ, ◌+◌, ◌≤◌, Bool, true, false, cond, List, [], ◌∷◌, Some, None, Option, sym, refl, ap, ◌∙◌, subst, arith}
use Rattle.std.specs.Str.{bytes_eq}
use Rattle.bodies.specs.Heads.{Signs}
use Rattle.globals.proofs.PairLaws.{kind_valid}
use Rattle.globals.specs.Known.{meaning_in}
use Rattle.globals.specs.Tallies.{meaning_of}
use Rattle.globals.specs.declared.global.Global.{Global}
use Rattle.grammar.specs.Trees as tree
use Rattle.grammar.specs.Trees.{Expr, Script}
use Rattle.layout.specs.Decoding.{node_found, c_integer, c_symbol, c_boolean, c_unit, c_name, c_if, c_begin, c_let, c_case, c_dup, c_apply}
use Rattle.layout.specs.Words.{word_at}
use Rattle.layout.specs.declared.node.Node.{Node}
use Rattle.layout.specs.declared.node.NodeForm.{NodeForm}
use Rattle.layout.specs.declared.node.NodeForm.TheVariants as form
use Rattle.names.specs.Parts.{part_of}
use Rattle.naming.specs.Judges.{Desk, Coded, names, text_of}
use Rattle.naming.specs.declared.world.World.{World}
use Rattle.program.specs.Compiling.{code, compile, name_op, global_call, named_call, apply_op}
use Rattle.program.specs.Programs as means
use Rattle.program.specs.Programs.{program, global_of}
use Rattle.program.specs.Scopes as placed
use Rattle.program.specs.declared.code.Op.TheVariants as op
use Rattle.scopes.proofs.ContextLaws.{look_found, look_none, local_of}
use Rattle.scopes.specs.Locals.{name_in, context, Newest, FindsLocal, Placed}
use Rattle.scopes.specs.declared.local.Local.{Local as LocalCode}
use Rattle.type_rows.specs.Rows.{row_at, kind_at, TypesLie, no_rows, and_row, RowsMean, IsKind}
use Rattle.type_rows.specs.Shapes.{ty}
use Rattle.type_rows.specs.declared.row.Row.{Row}
use Rattle.type_rows.specs.declared.value_type.ValueType.{ValueType}
use Rattle.type_rows.specs.declared.value_type.ValueType.TheVariants as value
use Rattle.typing.specs.Contexts.{Local, Context, local_named}
use Rattle.typing.specs.Judging.{head_constructor, constructor_at}
use Rattle.typing.specs.Types.{Ty, function, Tys}

-- whether something is there
abbrev is_known : {X : Type 0} → Option X → Bool
is_known (Some x) = true
is_known None = false

none_known : {X : Type 0} (o : Option X) → is_known o ≡ false → o ≡ None
none_known (Some x) e = absurd (cc)
none_known None e = refl

-- A name that lies among the entries of a run is one of the names in scope.
module _ (text : List ℕ) (m : ℕ → Ty) (locals : List LocalCode) (marks : List Bool) (w : List ℕ) where
  further_known : (o : Option ℕ) → is_known (placed.further o) ≡ is_known o
  further_known (Some d) = refl
  further_known None = refl

  known_alike : (n : ℕ) (G : placed.Scope) → Placed text locals n G → is_known (placed.distance w G) ≡ is_known (local_named w (context text m locals marks n))
  known_alike n [] lies = ap (λ n. is_known (local_named w (context text m locals marks n))) (sym lies)
  known_alike n (None ∷ G) lies = further_known (placed.distance w G) ∙ known_alike n G lies
  known_alike n (Some x ∷ G) (k, en, ex, eh, lies) =
      ap (λ x. is_known (cond (bytes_eq w x) (Some 0) (placed.further (placed.distance w G)))) ex
      ∙ go (bytes_eq w (name_in text locals k)) (further_known (placed.distance w G) ∙ known_alike k G lies)
      ∙ ap (λ n. is_known (local_named w (context text m locals marks n))) (sym en)
    where
      go : (b : Bool) → is_known (placed.further (placed.distance w G)) ≡ is_known (local_named w (context text m locals marks k))
          → is_known (cond b (Some 0) (placed.further (placed.distance w G))) ≡ is_known (cond b (Some (local_of text m locals marks k)) (local_named w (context text m locals marks k)))
      go true e = refl
      go false e = e

module _ (world : World) (script : Script) (old : Desk) (i : ℕ) where
  abbrev Γ : Context
  Γ = names world script old

  -- a head that is no name
  pub head_other : {f : NodeForm} {e : Expr} → Coded world script f e i → ((n : ℕ) → f ≡ form.Name n → ⊥) → head_constructor (program script) e Γ ≡ None
  head_other (c_integer place past) other = refl
  head_other (c_symbol place past q quotes) other = refl
  head_other (c_boolean place past) other = refl
  head_other (c_unit place past) other = refl
  head_other (c_name {n = n} place past spells) other = absurd (other n refl)
  head_other (c_if place a b c last) other = refl
  head_other (c_begin place e es) other = refl
  head_other (c_let place bs) other = refl
  head_other (c_case place e bs) other = refl
  head_other (c_dup place past spells) other = refl
  head_other (c_apply place e es) other = refl

  -- a head that is a name of so many bytes
  module _ (size : ℕ) (node : Node) (is : node ≡ node_found world.nodes.now i) (name : List ℕ) (spelt : name ≡ part_of (text_of world script) (word_at node.place size)) where
    head_named : {e : Expr} → Coded world script (form.Name size) e i → head_constructor (program script) e Γ ≡ constructor_at (local_named name Γ) (global_of (program script) name)
    head_named (c_name {p = p} {w = w} place past spells) =
        let word_is : name ≡ w = spelt ∙ ap (λ (n : Node). part_of (text_of world script) (word_at n.place size)) is ∙ ap (λ p. part_of (text_of world script) (word_at p size)) place ∙ spells.bytes_are in
        ap (λ w. constructor_at (local_named w Γ) (global_of (program script) w)) (sym word_is)

    pub head_local : {e : Expr} (k : ℕ) → Coded world script (form.Name size) e i → Newest (text_of world script) old.locals name old.depth k → head_constructor (program script) e Γ ≡ None
    head_local k stands found = head_named stands ∙ ap (λ l. constructor_at l (global_of (program script) name)) (look_found (text_of world script) (meaning_in script) old.locals old.marks name old.depth k found)

    pub head_global : {e : Expr} (g : Option Global) → Coded world script (form.Name size) e i → FindsLocal (text_of world script) old.locals name old.depth None → meaning_of g ≡ global_of (program script) name
        → head_constructor (program script) e Γ ≡ constructor_at None (meaning_of g)
    head_global g stands none means =
        head_named stands ∙ ap (λ l. constructor_at l (global_of (program script) name)) (look_none (text_of world script) (meaning_in script) old.locals old.marks name old.depth none) ∙ ap (constructor_at None) (sym means)

  -- a constructor is a name of the whole script, and no local has it
  named_constructor : (o : Option Local) (g : means.Global) (k : ℕ) → constructor_at o g ≡ Some k → (o ≡ None) × (g ≡ means.constructor k)
  named_constructor (Some l) g k e = absurd (cc)
  named_constructor None (means.function n) k e = absurd (cc)
  named_constructor None (means.constructor c) k e = (refl, let z : c ≡ k = cc in ap means.constructor z)
  named_constructor None (means.val v) k e = absurd (cc)
  named_constructor None means.unbound k e = absurd (cc)

  pub head_means : {f : NodeForm} {e : Expr} → Coded world script f e i → (k : ℕ) → head_constructor (program script) e Γ ≡ Some k → (w : List ℕ) × (global_of (program script) w ≡ means.constructor k)
  head_means (c_integer place past) k e = absurd (cc)
  head_means (c_symbol place past q quotes) k e = absurd (cc)
  head_means (c_boolean place past) k e = absurd (cc)
  head_means (c_unit place past) k e = absurd (cc)
  head_means (c_name {w = w} place past spells) k e = (w, (named_constructor (local_named w Γ) (global_of (program script) w) k e).1)
  head_means (c_if place a b c last) k e = absurd (cc)
  head_means (c_begin place d ds) k e = absurd (cc)
  head_means (c_let place bs) k e = absurd (cc)
  head_means (c_case place d bs) k e = absurd (cc)
  head_means (c_dup place past spells) k e = absurd (cc)
  head_means (c_apply place d ds) k e = absurd (cc)

  pub record HeadBuilds (e : Expr) (k : ℕ) (G : placed.Scope) : Type 0 where
    pub noted : compile (program script) G i e ≡ code op.Head (node_found world.nodes.now i).place (node_found world.nodes.now i).past ∷ []
    pub call : (n : ℕ) → apply_op (program script) G e n ≡ op.Build k n

  pub head_builds : {f : NodeForm} {e : Expr} → Coded world script f e i → (k : ℕ) → head_constructor (program script) e Γ ≡ Some k → (G : placed.Scope) → Placed (text_of world script) old.locals old.depth G → HeadBuilds e k G
  head_builds (c_integer place past) k e G lies = absurd (cc)
  head_builds (c_symbol place past q quotes) k e G lies = absurd (cc)
  head_builds (c_boolean place past) k e G lies = absurd (cc)
  head_builds (c_unit place past) k e G lies = absurd (cc)
  head_builds (c_name {p = p} {w = w} place past spells) k e G lies =
      let h = named_constructor (local_named w Γ) (global_of (program script) w) k e in
      let known = known_alike (text_of world script) (meaning_in script) old.locals old.marks w old.depth G lies in
      let far = none_known (placed.distance w G) (known ∙ ap is_known h.0) in
      let r : placed.resolve (program script) G w ≡ placed.global (means.constructor k) = ap (placed.resolved_by (program script) w) far ∙ ap placed.global h.1 in
      let o : name_op (placed.resolve (program script) G w) ≡ op.Head = ap name_op r in
      record { noted = ap (λ c. c ∷ []) (let z : code (name_op (placed.resolve (program script) G w)) p (i + 1) ≡ code op.Head (node_found world.nodes.now i).place (node_found world.nodes.now i).past = cc in z); call = λ n. ap (λ r. named_call r n) r }
  head_builds (c_if place a b c last) k e G lies = absurd (cc)
  head_builds (c_begin place d ds) k e G lies = absurd (cc)
  head_builds (c_let place bs) k e G lies = absurd (cc)
  head_builds (c_case place d bs) k e G lies = absurd (cc)
  head_builds (c_dup place past spells) k e G lies = absurd (cc)
  head_builds (c_apply place d ds) k e G lies = absurd (cc)

-- Any other head is called.
module _ (world : World) (script : Script) (old : Desk) where
  global_calls : (o : Option Local) (far : Option ℕ) (w : List ℕ) (n : ℕ) → is_known far ≡ is_known o → constructor_at o (global_of (program script) w) ≡ None → named_call (placed.resolved_by (program script) w far) n ≡ op.Call
  global_calls o (Some d) w n same none = refl
  global_calls (Some l) None w n same none = absurd (cc)
  global_calls None None w n same none = go (global_of (program script) w) none
    where
      go : (g : means.Global) → constructor_at None g ≡ None → global_call g n ≡ op.Call
      go (means.function f) none = refl
      go (means.constructor k) none = absurd (cc)
      go (means.val v) none = refl
      go means.unbound none = refl

  pub head_calls : (e : Expr) → head_constructor (program script) e (names world script old) ≡ None → (G : placed.Scope) → Placed (text_of world script) old.locals old.depth G → (n : ℕ) → apply_op (program script) G e n ≡ op.Call
  head_calls (tree.integer p z) e G lies n = refl
  head_calls (tree.symbol p w) e G lies n = refl
  head_calls (tree.boolean p b) e G lies n = refl
  head_calls (tree.unit p) e G lies n = refl
  head_calls (tree.name p w) e G lies n =
      global_calls (local_named w (names world script old)) (placed.distance w G) w n (known_alike (text_of world script) (meaning_in script) old.locals old.marks w old.depth G lies) e
  head_calls (tree.if_expr p a b c) e G lies n = refl
  head_calls (tree.begin_expr p d ds) e G lies n = refl
  head_calls (tree.let_expr p bs d) e G lies n = refl
  head_calls (tree.case_expr p d bs) e G lies n = refl
  head_calls (tree.dup_expr p x) e G lies n = refl
  head_calls (tree.apply_expr p d ds) e G lies n = refl

-- A type that a value is called by.
module _ (rows : List Row) (m : ℕ → Ty) (mean : RowsMean rows m) where
  -- a function's parameters lie behind its row, and its result at the row that it names
  pub signs_function : (kind : ValueType) (k : ℕ) → kind ≡ value.Function k → IsKind rows kind → (first past : ℕ) (result : ValueType) → past ≡ (row_at rows k).result → past ≤ 65535 → (k + 1 ≤ 65535 → first ≡ k + 1)
      → result ≡ kind_at rows past → Signs rows m kind (record { first = first; past = past; result = Some result }) (Some result)
  signs_function kind k is valid first past result past_is short first_is result_is =
      let row = subst (IsKind rows) is valid in
      let f = mean k row.0 row.1 in
      let up = lie_up (k + 1) (row_at rows k).result f.parameters f.lie in
      let first_here : first ≡ k + 1 = first_is (omega arith) in
      let last : ty m result ≡ f.value = ap (ty m) result_is ∙ ap (λ n. ty m (kind_at rows n)) past_is ∙ f.last in (
        f.parameters,
        ap (ty m) is ∙ f.meant ∙ ap (function f.parameters) (sym last),
        subst (IsKind rows) (sym result_is) (kind_valid rows past),
        subst (λ n. TypesLie rows m n past f.parameters) (sym first_here) (subst (λ n. TypesLie rows m (k + 1) n f.parameters) (sym past_is) f.lie),
      )
    where
      lie_up : (i j : ℕ) (ts : Tys) → TypesLie rows m i j ts → i ≤ j
      lie_up i j _ (no_rows e) = omega arith
      lie_up i j _ (and_row on here more) = omega arith
