-- A checked script has in memory what a run needs of it.
use Rattle.std.proofs.Common.{◌≡◌, ℕ, zero, suc, ◌+◌, ◌<◌, ◌≤◌, Bool, true, false, cond, eqb, List, [], ◌∷◌, ◌++◌, map, length, replicate, get_or, Some, None, codes, Option, sym, refl, ap, ◌∙◌, subst, subst₂, arith}
use Rattle.std.specs.List.{slice_get}
use Rattle.std.specs.Str.{bytes_eq}
use Rattle.std.proofs.lemmas.Bool.{eqb-true, eq-eqb}
use Rattle.std.proofs.lemmas.Slice.Eq.{bytes_eq-Decides}
use Rattle.grammar.specs.Grammar.{Derives}
use Rattle.grammar.specs.Limits.{expr_nodes, types_length, SixInConstructors, SixInScript}
use Rattle.grammar.specs.Trees as tree
use Rattle.grammar.specs.Trees.{PatternPart, bound, Expr, Exprs, no_exprs, and_expr, Bindings, Branches, Constructor, TypeExprs, datatype_definition, type_annotation, function_definition, val_binding, Script}
use Rattle.layout.specs.Literals.{Literal, literals, literals_all, literals_bound, literals_branched, literals_of, place_of_first}
use Rattle.layout.specs.Spelling.{Quotes}
use Rattle.layout.proofs.InText.{ExprIn, ExprsIn, BindingsIn, BranchesIn, ScriptIn, derived_in}
use Rattle.machine.specs.Ready.{LiteralAt, literal_first, literal_later, IsSymbol, Ready}
use Rattle.program.specs.Compiling.{code, argument_count, name_op, dup_op, global_call, named_call, apply_op, head_op, branch_op, branch_scope, compile, compile_row, compile_arguments, compile_bindings, compile_branches}
use Rattle.program.specs.Programs as means
use Rattle.program.specs.Programs.{Name, Program, Define, Variant, Global, global_of, program, variants, variants_from, first_of}
use Rattle.program.specs.Scopes.{Scope, Resolved, entry, global, resolved_by, distance, bind_scope}
use Rattle.program.specs.Standing.{no_code}
use Rattle.program.specs.Whole.{body_codes, compiled}
use Rattle.program.specs.declared.code.Code.{Code}
use Rattle.program.specs.declared.code.Op.{Op}
use Rattle.program.specs.declared.code.Op.TheVariants as op
use Rattle.program.proofs.CodeLaws.{code_length, bindings_length}
use Rattle.rules.proofs.Checked.{script_ok}
use Rattle.rules.specs.Runs.{main_of}
use Rattle.rules.specs.Steps.{bytes_at}
use Rattle.typing.specs.Contexts.{Context, BindsAll}
use Rattle.typing.specs.Judgement as rule
use Rattle.typing.specs.Judgement.{Typed, TypedRow, TypedEach, TypedBindings, TypedBranches}
use Rattle.typing.specs.Names.{Lies, lies_none, lies_name, lies_argument}
use Rattle.typing.specs.Scripts.{Bodies, bodies_none, bodies_datatype, bodies_annotation, bodies_define, bodies_val, Allowed}
use Rattle.typing.specs.Types.{Ty, unit, function, Tys, no_types, count, types_of, annotation_of}
use Rattle.typing.proofs.Layouts.{lays}
use Rattle.typing.proofs.Marks.{later}
use Rattle.typing.proofs.Placed.{entry_of, no_entry, lies_later, lies_bound, lies_pattern, lies_bindings}

module _ (P : Program) (Q : ℕ → Type 0) where
  -- what a node does whose number is i: a symbol has the property, a constructor six fields at most, and what follows a branch lies behind it
  abbrev Fine : ℕ → ℕ → Op → Type 0
  Fine i past (op.Symbol n) = Q n
  Fine i past (op.Build k n) = n ≤ 6
  Fine i past (op.Branch k n) = i < past
  Fine i past _ = Unit {0}

  abbrev AllFine : ℕ → List Code → Type 0
  AllFine i [] = Unit {0}
  AllFine i (c ∷ cs) = Fine i c.past c.op × AllFine (i + 1) cs

  fine_then : (xs ys : List Code) (i j : ℕ) → i + length xs ≡ j → AllFine i xs → AllFine j ys → AllFine i (xs ++ ys)
  fine_then [] ys i j e h k = let q : i ≡ j = omega arith in subst (λ i. AllFine i ys) (sym q) k
  fine_then (x ∷ xs) ys i j e h k = (h.0, fine_then xs ys (i + 1) j (omega arith) h.1 k)

  fine_at : (cs : List Code) (i j : ℕ) → AllFine i cs → (c : Code) → get_or cs j no_code ≡ c → Fine (i + j) c.past c.op
  fine_at [] i j h c e = subst (λ (c : Code). Fine (i + j) c.past c.op) e tt
  fine_at (x ∷ cs) i zero h c e = let q : i + 0 ≡ i = omega arith in subst₂ (λ (i : ℕ) (c : Code). Fine i c.past c.op) (sym q) e h.0
  fine_at (x ∷ cs) i (suc j) h c e = let q : i + suc j ≡ (i + 1) + j = omega arith in subst (λ i. Fine i c.past c.op) (sym q) (fine_at cs (i + 1) j h.1 c e)

  name_fine : (i past : ℕ) (r : Resolved) → Fine i past (name_op r)
  name_fine i past (entry d) = tt
  name_fine i past (global (means.function n)) = tt
  name_fine i past (global (means.constructor k)) = tt
  name_fine i past (global (means.val k)) = tt
  name_fine i past (global means.unbound) = tt

  dup_fine : (i past : ℕ) (r : Resolved) → Fine i past (dup_op r)
  dup_fine i past (entry d) = tt
  dup_fine i past (global g) = tt

  blank_fine : (n i : ℕ) → AllFine i (replicate n no_code)
  blank_fine zero i = tt
  blank_fine (suc n) i = (tt, blank_fine n (i + 1))

  branch_fine : (i past : ℕ) (x : tree.Pattern) → i < past → Fine i past (branch_op P x)
  branch_fine i past (tree.wildcard p) h = tt
  branch_fine i past (tree.constructor p c xs) h = head_fine (global_of P c.bytes)
    where
      head_fine : (g : Global) → Fine i past (head_op g xs)
      head_fine (means.function n) = tt
      head_fine (means.constructor k) = h
      head_fine (means.val k) = tt
      head_fine means.unbound = tt

  -- the literals' symbols have the property
  abbrev Marked : List Literal → Type 0
  Marked [] = Unit {0}
  Marked (l ∷ ls) = Q (place_of_first P.literals l.bytes) × Marked ls

  marked_left : (xs ys : List Literal) → Marked (xs ++ ys) → Marked xs
  marked_left [] ys h = tt
  marked_left (x ∷ xs) ys h = (h.0, marked_left xs ys h.1)

  marked_right : (xs ys : List Literal) → Marked (xs ++ ys) → Marked ys
  marked_right [] ys h = h
  marked_right (x ∷ xs) ys h = marked_right xs ys h.1

  module _ (V : List Ty) (six : (k : ℕ) (v : Variant) → slice_get P.variants k ≡ Some v → types_length v.fields ≤ 6) where
    types_count_is : (ts : TypeExprs) → count (types_of P ts) ≡ types_length ts
    types_count_is tree.no_types = refl
    types_count_is (tree.and_type t ts) = ap (λ n. 1 + n) (types_count_is ts)

    each_count : {Γ Γ' : Context} {es : Exprs} {τs : Tys} → TypedEach P V Γ es τs Γ' → argument_count es ≡ count τs
    each_count rule.each_none = refl
    each_count (rule.each_more t ts) = ap (λ n. 1 + n) (each_count ts)

    -- a head that is entered
    called : {Γ Γ' : Context} {e : Expr} {τ : Ty} {G : Scope} (n : ℕ) → Typed P V Γ e τ Γ' → Lies Γ G → apply_op P G e n ≡ op.Call
    called n rule.integer l = refl
    called n rule.symbol l = refl
    called n rule.boolean l = refl
    called n rule.unit_literal l = refl
    called n (rule.local_name {w = w} m) l = ap (λ (o : Option ℕ). named_call (resolved_by P w o) n) (entry_of l m).1
    called n (rule.function_name {w = w} a g e) l = ap (λ (o : Option ℕ). named_call (resolved_by P w o) n) (no_entry l a) ∙ ap (λ (g : Global). global_call g n) g
    called n (rule.val_name {w = w} a g e) l = ap (λ (o : Option ℕ). named_call (resolved_by P w o) n) (no_entry l a) ∙ ap (λ (g : Global). global_call g n) g
    called n (rule.if_expression a b c j) l = refl
    called n (rule.begin_expression e r) l = refl
    called n (rule.let_expression b e q) l = refl
    called n (rule.case_expression e b) l = refl
    called n (rule.dup_expression m) l = refl
    called n (rule.construct_expression a g e t) l = refl
    called n (rule.apply_expression t u) l = refl

    built : {Γ Γ' : Context} (w : Name) {k : ℕ} {v : Variant} {es : Exprs} (G : Scope) (i past q : ℕ) → distance w G ≡ None → global_of P w ≡ means.constructor k → slice_get P.variants k ≡ Some v → TypedEach P V Γ es (types_of P v.fields) Γ'
        → Fine i past (apply_op P G (tree.name q w) (argument_count es))
    built w {v = v} {es = es} G i past q d g f t =
        let o = ap (λ (o : Option ℕ). named_call (resolved_by P w o) (argument_count es)) d ∙ ap (λ (g : Global). global_call g (argument_count es)) g in
        let few : argument_count es ≤ 6 = omega (arith, each_count t, types_count_is v.fields, six _ v f) in
        subst (Fine i past) (sym o) few

    mutual
      fine : {Γ Γ' : Context} {e : Expr} {τ : Ty} {G : Scope} → Typed P V Γ e τ Γ' → Lies Γ G → Marked (literals e) → (i : ℕ) → AllFine i (compile P G i e)
      fine rule.integer l q i = (tt, tt)
      fine rule.symbol l q i = (q.0, tt)
      fine rule.boolean l q i = (tt, tt)
      fine rule.unit_literal l q i = (tt, tt)
      fine (rule.local_name n) l q i = (name_fine i (i + 1) _, tt)
      fine (rule.function_name a g e) l q i = (name_fine i (i + 1) _, tt)
      fine (rule.val_name a g e) l q i = (name_fine i (i + 1) _, tt)
      fine (rule.dup_expression n) l q i = (dup_fine i (i + 1) _, tt)
      fine {G = G} (rule.if_expression {a = a} {b = b} {c = c} ta tb tc j) l q i =
          let l₁ = lies_later (later P V ta) l in
          let r = marked_right (literals a) _ q in (
            tt,
            fine_then (compile P G (i + 1) a) _ (i + 1) _ (ap (λ n. i + 1 + n) (code_length P a G (i + 1))) (fine ta l (marked_left (literals a) _ q) (i + 1))
                (fine_then (compile P G (i + 1 + expr_nodes a) b) _ _ _ (ap (λ n. i + 1 + expr_nodes a + n) (code_length P b G _)) (fine tb l₁ (marked_left (literals b) _ r) _) (fine tc l₁ (marked_right (literals b) _ r) _)),
          )
      fine {G = G} (rule.begin_expression {e = e} te r) l q i =
          (tt, fine_then (compile P G (i + 1) e) _ (i + 1) _ (ap (λ n. i + 1 + n) (code_length P e G (i + 1))) (fine te l (marked_left (literals e) _ q) (i + 1)) (fine_row r (lies_later (later P V te) l) (marked_right (literals e) _ q) _))
      fine {G = G} (rule.let_expression {bs = bs} b te x) l q i =
          (tt, fine_then (compile_bindings P G (i + 1) bs) _ (i + 1) _ (ap (λ n. i + 1 + n) (bindings_length P bs G (i + 1))) (fine_bindings b l (marked_left (literals_bound bs) _ q) (i + 1)) (fine te (lies_bindings P V b l) (marked_right (literals_bound bs) _ q) _))
      fine {G = G} (rule.case_expression {e = e} te b) l q i =
          (tt, fine_then (compile P G (i + 1) e) _ (i + 1) _ (ap (λ n. i + 1 + n) (code_length P e G (i + 1))) (fine te l (marked_left (literals e) _ q) (i + 1)) (fine_branches b (lies_later (later P V te) l) (marked_right (literals e) _ q) _))
      fine {G = G} (rule.construct_expression {p = r} {q = p} {w = w} {es = es} a g f t) l q i = (
        built w G i (i + expr_nodes (tree.apply_expr r (tree.name p w) es)) p (no_entry l a) g f t,
        fine_then (compile P G (i + 1) (tree.name p w)) _ (i + 1) _ (ap (λ n. i + 1 + n) (code_length P (tree.name p w) G (i + 1))) (name_fine (i + 1) (i + 1 + 1) _, tt) (fine_arguments t l q _),
      )
      fine {G = G} (rule.apply_expression {p = p} {e = e} {es = es} te t) l q i = (
        subst (Fine i (i + expr_nodes (tree.apply_expr p e es))) (sym (called (argument_count es) te l)) tt,
        fine_then (compile P G (i + 1) e) _ (i + 1) _ (ap (λ n. i + 1 + n) (code_length P e G (i + 1))) (fine te l (marked_left (literals e) _ q) (i + 1)) (fine_arguments t (lies_later (later P V te) l) (marked_right (literals e) _ q) _),
      )

      fine_row : {Γ Γ' : Context} {es : Exprs} {σ τ : Ty} {G : Scope} → TypedRow P V Γ σ es τ Γ' → Lies Γ G → Marked (literals_all es) → (i : ℕ) → AllFine i (compile_row P G i es)
      fine_row rule.row_last l q i = tt
      fine_row {G = G} (rule.row_more {e = e} te r) l q i =
          fine_then (compile P G i e) _ i _ (ap (λ n. i + n) (code_length P e G i)) (fine te l (marked_left (literals e) _ q) i) (fine_row r (lies_later (later P V te) l) (marked_right (literals e) _ q) _)

      fine_arguments : {Γ Γ' : Context} {es : Exprs} {τs : Tys} {G : Scope} → TypedEach P V Γ es τs Γ' → Lies Γ G → Marked (literals_all es) → (i : ℕ) → AllFine i (compile_arguments P G i es)
      fine_arguments rule.each_none l q i = tt
      fine_arguments {G = G} (rule.each_more {e = e} te r) l q i =
          fine_then (compile P G i e) _ i _ (ap (λ n. i + n) (code_length P e G i)) (fine te l (marked_left (literals e) _ q) i) (fine_arguments r (lies_argument (lies_later (later P V te) l)) (marked_right (literals e) _ q) _)

      fine_bindings : {Γ Γ' : Context} {bs : Bindings} {G : Scope} → TypedBindings P V Γ bs Γ' → Lies Γ G → Marked (literals_bound bs) → (i : ℕ) → AllFine i (compile_bindings P G i bs)
      fine_bindings rule.bindings_none l q i = tt
      fine_bindings {G = G} (rule.bindings_more {p = p} {e = e} te f b) l q i =
          let k = code_length P e G (i + 1) in
          fine_then (code op.Binding p (i + (1 + expr_nodes e)) ∷ compile P G (i + 1) e) _ i _ (omega arith) (tt, fine te l (marked_left (literals e) _ q) (i + 1))
          (fine_bindings b (lies_name (lies_later (later P V te) l)) (marked_right (literals e) _ q) (i + (1 + expr_nodes e)))

      fine_branches : {Γ Γ' : Context} {d : ℕ} {bs : Branches} {τ : Ty} {G : Scope} → TypedBranches P V Γ d bs τ Γ' → Lies Γ G → Marked (literals_branched bs) → (i : ℕ) → AllFine i (compile_branches P G i bs)
      fine_branches (rule.branches_last {x = x} {e = e} f te y) l q i = (branch_fine i _ x (omega arith), fine te (lies_pattern P f l) q (i + 1))
      fine_branches {G = G} (rule.branches_more {p = p} {x = x} {e = e} f te b y) l q i =
          let k = code_length P e (branch_scope x G) (i + 1) in
          fine_then (code (branch_op P x) p (i + (1 + expr_nodes e)) ∷ compile P (branch_scope x G) (i + 1) e) _ i _ (omega arith) (branch_fine i _ x (omega arith), fine te (lies_pattern P f l) (marked_left (literals e) _ q) (i + 1))
          (fine_branches b l (marked_right (literals e) _ q) (i + (1 + expr_nodes e)))

  fine_bodies : {V : List Ty} {ds : Script} → ((k : ℕ) (v : Variant) → slice_get P.variants k ≡ Some v → types_length v.fields ≤ 6) → Bodies P V ds → Marked (literals_of ds) → (i : ℕ) → AllFine i (body_codes P i ds)
  fine_bodies six bodies_none q i = tt
  fine_bodies six (bodies_datatype b) q i = fine_bodies six b q i
  fine_bodies six (bodies_annotation b) q i = fine_bodies six b q i
  fine_bodies {V} six (bodies_define {ps = ps} {e = e} a t y b) q i =
      fine_then (compile P (bind_scope (map bound ps) []) i e) _ i _ (ap (λ n. i + n) (code_length P e _ i)) (fine V six y (lies_bound P t lies_none) (marked_left (literals e) _ q) i) (fine_bodies six b (marked_right (literals e) _ q) _)
  fine_bodies {V} six (bodies_val {e = e} y b) q i =
      fine_then (compile P [] i e) _ i _ (ap (λ n. i + n) (code_length P e [] i)) (fine V six y lies_none (marked_left (literals e) _ q) i) (fine_bodies six b (marked_right (literals e) _ q) _)

-- The literals of a tree that stands in a text stand there.
module _ (text : List ℕ) where
  abbrev AllQuoted : List Literal → Type 0
  AllQuoted [] = Unit {0}
  AllQuoted (l ∷ ls) = Quotes text l.place l.bytes × AllQuoted ls

  quoted_then : (xs ys : List Literal) → AllQuoted xs → AllQuoted ys → AllQuoted (xs ++ ys)
  quoted_then [] ys h k = k
  quoted_then (x ∷ xs) ys h k = (h.0, quoted_then xs ys h.1 k)

  mutual
    quoted_in : (e : Expr) → ExprIn text e → AllQuoted (literals e)
    quoted_in (tree.integer p z) h = tt
    quoted_in (tree.symbol p w) h = (h, tt)
    quoted_in (tree.boolean p b) h = tt
    quoted_in (tree.unit p) h = tt
    quoted_in (tree.name p w) h = tt
    quoted_in (tree.if_expr p a b c) h = quoted_then (literals a) _ (quoted_in a h.0) (quoted_then (literals b) _ (quoted_in b h.1) (quoted_in c h.2))
    quoted_in (tree.begin_expr p e es) h = quoted_then (literals e) _ (quoted_in e h.0) (quoted_all es h.1)
    quoted_in (tree.let_expr p bs e) h = quoted_then (literals_bound bs) _ (quoted_bound bs h.0) (quoted_in e h.1)
    quoted_in (tree.case_expr p e bs) h = quoted_then (literals e) _ (quoted_in e h.0) (quoted_branched bs h.1)
    quoted_in (tree.dup_expr p x) h = tt
    quoted_in (tree.apply_expr p e es) h = quoted_then (literals e) _ (quoted_in e h.0) (quoted_all es h.1)

    quoted_all : (es : Exprs) → ExprsIn text es → AllQuoted (literals_all es)
    quoted_all tree.no_exprs h = tt
    quoted_all (tree.and_expr e es) h = quoted_then (literals e) _ (quoted_in e h.0) (quoted_all es h.1)

    quoted_bound : (bs : Bindings) → BindingsIn text bs → AllQuoted (literals_bound bs)
    quoted_bound tree.no_bindings h = tt
    quoted_bound (tree.and_binding p x e bs) h = quoted_then (literals e) _ (quoted_in e h.1) (quoted_bound bs h.2)

    quoted_branched : (bs : Branches) → BranchesIn text bs → AllQuoted (literals_branched bs)
    quoted_branched (tree.last_branch p x e) h = quoted_in e h.1
    quoted_branched (tree.and_branch p x e bs) h = quoted_then (literals e) _ (quoted_in e h.1) (quoted_branched bs h.2)

  quoted_script : (ds : Script) → ScriptIn text ds → AllQuoted (literals_of ds)
  quoted_script [] h = tt
  quoted_script (datatype_definition p x cs ∷ ds) h = quoted_script ds h.1
  quoted_script (type_annotation p x t ∷ ds) h = quoted_script ds h.1
  quoted_script (function_definition p x ps e ∷ ds) h = quoted_then (literals e) _ (quoted_in e h.0.2) (quoted_script ds h.1)
  quoted_script (val_binding p x e ∷ ds) h = quoted_then (literals e) _ (quoted_in e h.0.1) (quoted_script ds h.1)

  -- what stands at the place of one of them is quoted there
  found_by : {n : ℕ} (l : Literal) (ls : List Literal) (b : Bool) → eqb n l.place ≡ b → LiteralAt n (l ∷ ls) → (LiteralAt n ls → Quotes text n (bytes_at n ls)) → Quotes text l.place l.bytes → Quotes text n (cond b l.bytes (bytes_at n ls))
  found_by {n} l ls true e o next h = subst (λ n. Quotes text n l.bytes) (sym (eqb-true n l.place e)) h
  found_by {n} l ls false e (literal_first k) next h = let z : true ≡ false = sym (eq-eqb n l.place k) ∙ e in absurd (cc)
  found_by l ls false e (literal_later o) next h = next o

  found : {n : ℕ} (ls : List Literal) → LiteralAt n ls → AllQuoted ls → Quotes text n (bytes_at n ls)
  found [] o h = elim o [ ]
  found {n} (l ∷ ls) o h = found_by l ls (eqb n l.place) refl o (λ o. found ls o h.1) h.0

-- the bytes are those of one of these literals
data OneOf (w : List ℕ) : List Literal → Type 0 where
  of_first : {l : Literal} {ls : List Literal} → l.bytes ≡ w → OneOf w (l ∷ ls)
  of_later : {l : Literal} {ls : List Literal} → OneOf w ls → OneOf w (l ∷ ls)

-- the first literal with the bytes of one of them is one of them
first_by : (w : List ℕ) (l : Literal) (ls : List Literal) (b : Bool) → bytes_eq l.bytes w ≡ b → OneOf w (l ∷ ls) → (OneOf w ls → LiteralAt (place_of_first ls w) ls) → LiteralAt (cond b l.place (place_of_first ls w)) (l ∷ ls)
first_by w l ls true e o next = literal_first refl
first_by w l ls false e (of_first k) next = let z : true ≡ false = sym ((bytes_eq-Decides l.bytes w).1 k) ∙ e in absurd (cc)
first_by w l ls false e (of_later o) next = literal_later (next o)

first_at : (w : List ℕ) (ls : List Literal) → OneOf w ls → LiteralAt (place_of_first ls w) ls
first_at w [] o = elim o [ ]
first_at w (l ∷ ls) o = first_by w l ls (bytes_eq l.bytes w) refl o (first_at w ls)

module _ (P : Program) where
  marked_by : (ls : List Literal) → ((w : List ℕ) → OneOf w ls → OneOf w P.literals) → Marked P (IsSymbol P) ls
  marked_by [] k = tt
  marked_by (l ∷ ls) k = (first_at l.bytes P.literals (k l.bytes (of_first refl)), marked_by ls (λ w o. k w (of_later o)))

  marked : Marked P (IsSymbol P) P.literals
  marked = marked_by P.literals (λ w o. o)

-- A constructor has six fields at most.
six_variants : (d : ℕ) (cs : List Constructor) (rest : List Variant) → SixInConstructors cs → ((k : ℕ) (v : Variant) → slice_get rest k ≡ Some v → types_length v.fields ≤ 6)
    → (k : ℕ) (v : Variant) → slice_get (variants d cs rest) k ≡ Some v → types_length v.fields ≤ 6
six_variants d [] rest h next k v e = next k v e
six_variants d (c ∷ cs) rest h next zero v e = let q : record { name = c.name; datatype = d; fields = c.fields } ≡ v = cc in subst (λ (v : Variant). types_length v.fields ≤ 6) q h.0
six_variants d (c ∷ cs) rest h next (suc k) v e = six_variants d cs rest h.2 next k v e

six_fields : (d : ℕ) (ds : Script) → SixInScript ds → (k : ℕ) (v : Variant) → slice_get (variants_from d ds) k ≡ Some v → types_length v.fields ≤ 6
six_fields d [] h k v e = absurd (let z : ◌≡◌ {A = ℕ} 0 1 = cc in omega arith)
six_fields d (datatype_definition p x cs ∷ ds) h k v e = six_variants d cs (variants_from (d + 1) ds) h.0 (six_fields (d + 1) ds h.1) k v e
six_fields d (type_annotation p x t ∷ ds) h k v e = six_fields d ds h.1 k v e
six_fields d (function_definition p x ps b ∷ ds) h k v e = six_fields d ds h.1 k v e
six_fields d (val_binding p x b ∷ ds) h k v e = six_fields d ds h.1 k v e

named_by : {X : Type 0} (name : X → tree.Ident) (w : Name) (y : X) (xs : List X) (x : X) (b : Bool) → bytes_eq w (name y).bytes ≡ b → (first_of name w xs ≡ Some x → w ≡ (name x).bytes) → cond b (Some y) (first_of name w xs) ≡ Some x → w ≡ (name x).bytes
named_by {X} name w y xs x true e next h = let q : y ≡ x = cc in (bytes_eq-Decides w (name y).bytes).0 e ∙ ap (λ (z : X). (name z).bytes) q
named_by name w y xs x false e next h = next h

-- what is found by a name has it
named_so : {X : Type 0} (name : X → tree.Ident) (w : Name) (xs : List X) (x : X) → first_of name w xs ≡ Some x → w ≡ (name x).bytes
named_so name w [] x h = absurd (let z : ◌≡◌ {A = ℕ} 0 1 = cc in omega arith)
named_so name w (y ∷ xs) x h = named_by name w y xs x (bytes_eq w (name y).bytes) refl (named_so name w xs x) h

no_parameters : {P : Program} (ps : List tree.Ident) {Γ Δ : Context} → BindsAll P (map bound ps) no_types Γ Δ → ps ≡ []
no_parameters [] b = refl
no_parameters (x ∷ ps) b = elim b [ ]

module _ (script : Script) (text : List ℕ) (derived : Derives text script) (six : SixInScript script) (ok : Allowed script) where
  code_fine : AllFine (program script) (IsSymbol (program script)) 0 (compiled script).code
  code_fine =
      let P = program script in
      let cs = body_codes P 0 script in
      let m : Marked P (IsSymbol P) P.literals = marked P in
      fine_then P (IsSymbol P) cs _ 0 _ (refl) (fine_bodies P (IsSymbol P) (six_fields 0 script six) ok.bodies m 0) (blank_fine P (IsSymbol P) _ _)

  main_named : (d : Define) → main_of (program script) ≡ Some d → codes "main" ≡ d.name.bytes
  main_named d e = named_so (λ d. d.name) (codes "main") (program script).defines d e

  bare : (d : Define) → main_of (program script) ≡ Some d → d.parameters ≡ []
  bare d e =
      let P = program script in
      let f = (script_ok script ok).defines _ d ((lays script ok).main d e) in
      let a : Some (function f.parameters f.result) ≡ Some (function no_types unit) = sym f.annotation ∙ (ap (annotation_of P) (sym (main_named d e)) ∙ ok.main) in
      let none : f.parameters ≡ no_types = cc in
      no_parameters d.parameters (subst (λ τs. BindsAll P (map bound d.parameters) τs [] f.inside) none f.opens)

  pub ready : Ready (compiled script) text (program script)
  ready =
      let P = program script in
      let at = λ (i : ℕ). fine_at P (IsSymbol P) (compiled script).code 0 i code_fine (get_or (compiled script).code i no_code) refl in
      record {
        lays = lays script ok;
        forward = λ i k n e. let h = subst (Fine P (IsSymbol P) (0 + i) (get_or (compiled script).code i no_code).past) e (at i) in omega (arith, h);
        few = λ i k n e. subst (Fine P (IsSymbol P) (0 + i) (get_or (compiled script).code i no_code).past) e (at i);
        symbols = λ i n e. subst (Fine P (IsSymbol P) (0 + i) (get_or (compiled script).code i no_code).past) e (at i);
        quoted = λ n h. found text P.literals h (quoted_script text script (derived_in text script derived));
        bare = bare;
      }
