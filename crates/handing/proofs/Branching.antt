-- The branches of a case that are still to be tried.
use Rattle.std.proofs.Common.{◌≡◌, ℕ, ◌<◌, ◌≤◌, false, ⊎_elim, cond, List, None, ◌==◌, sym, refl, ap, ◌∙◌, subst, arith}
use Rattle.std.proofs.lemmas.Bool.{eq-eqb}
use Rattle.std.proofs.lemmas.Bool.Decides.{eqb_tells}
use Rattle.data.specs.Trees.{Trees, cost}
use Rattle.grammar.specs.Trees.{Pattern, Expr, Branches}
use Rattle.handing.specs.Choosing.{ChosenFields, ChosenAny, ChosenNone}
use Rattle.program.specs.Programs.{Program}
use Rattle.program.specs.Scopes.{Scope, names_inside}
use Rattle.program.specs.Standing.{at, past, StandsBranches, branches_last, branches_more, StandsBranch, branch_any, branch_constructor}
use Rattle.program.specs.declared.code.Code.{Code}
use Rattle.program.specs.declared.code.Op.{Op}
use Rattle.program.specs.declared.code.Op.TheVariants as op
use Rattle.rules.specs.States.{Environment, Frame, Account}
use Rattle.rules.specs.Steps.{Outcome, fails, Sizes, giving, bind_parts, enter_branch, is_constructor, try_branch, select_branch}
use Rattle.rules.specs.declared.fault.FaultKind.TheVariants.{NoBranch}

pub not_equal : (a b : ℕ) → (a ≡ b → ⊥) → (a == b) ≡ false
not_equal a b n = ⊎_elim (λ h. absurd (n h.1)) (λ h. h.0) (eqb_tells a b)

-- what becomes of data with the constructor c
abbrev pub Tries : Type 0
Tries = Sizes → ℕ → Trees → List Frame → Environment → Account → Outcome

module _ (P : Program) (cs : List Code) (G : Scope) (c : ℕ) where
  abbrev pub selecting : Branches → Tries
  selecting bs = λ Z p vs K env a. select_branch P Z p bs c vs K env a

  abbrev pub nothing : Tries
  nothing = λ Z p vs K env a. fails NoBranch None

  abbrev pub Same : Tries → Tries → Type 0
  Same f g = (Z : Sizes) (p : ℕ) (vs : Trees) (K : List Frame) (env : Environment) (a : Account) → f Z p vs K env a ≡ g Z p vs K env a

  -- the branches from node i up to the node j, or none
  pub data Untried (i j : ℕ) : Tries → Type 0 where
    untried_some : {bs : Branches} → StandsBranches P cs G bs i j → Untried i j (selecting bs)
    untried_none : j ≤ i → Untried i j nothing

  -- what is to be tried comes to the same as all branches
  pub record Going (bs : Branches) (i j : ℕ) : Type 0 where
    pub tries : Tries
    pub untried : Untried i j tries
    pub same : Same (selecting bs) tries

  -- the branch that is tried first, and the others
  pub record First (i j : ℕ) (tries : Tries) : Type 0 where
    pub pattern : Pattern
    pub expr : Expr
    pub stands : StandsBranch P cs G (at P cs i).op pattern expr i
    pub others : Tries
    pub untried : Untried (past P cs i) j others
    pub is : Same tries (λ Z p vs K env a. try_branch P Z p pattern expr c vs K env a (others Z p vs K env a))

branch_op_law : {P : Program} {cs : List Code} {G : Scope} {o : Op} {x : Pattern} {e : Expr} {i : ℕ} → StandsBranch P cs G o x e i → (o ≡ op.Any → ⊥) → ((k n : ℕ) → o ≡ op.Branch k n → ⊥) → ⊥
branch_op_law (branch_any S) a b = a refl
branch_op_law (branch_constructor is n S) a b = b _ _ refl

module _ {P : Program} {cs : List Code} {G : Scope} {c : ℕ} where
  pub first_tried : {i j : ℕ} {tries : Tries} → Untried P cs G c i j tries → i < j → First P cs G c i j tries
  unfolding select_branch
  first_tried (untried_some (branches_last {x = x} {e = e} b l S)) h = record { pattern = x; expr = e; stands = S; others = nothing P cs G c; untried = untried_none l; is = λ Z p vs K env a. refl }
  first_tried (untried_some (branches_more {x = x} {e = e} {bs = bs} b S R)) h =
      record { pattern = x; expr = e; stands = S; others = selecting P cs G c bs; untried = untried_some R; is = λ Z p vs K env a. refl }
  first_tried (untried_none l) h = absurd (omega arith)

  any_tried : {bs : Branches} {i : ℕ} {x : Pattern} {e : Expr} (others : Tries) → i < 4096 → (at P cs i).op ≡ op.Any → StandsBranch P cs G op.Any x e i
      → Same P cs G c (selecting P cs G c bs) (λ Z p vs K env a. try_branch P Z p x e c vs K env a (others Z p vs K env a)) → ChosenAny P cs G bs c i
  unfolding try_branch
  any_tried others w o (branch_any S) same = record { expr = _; is = same; within = w; op_is = o; stands = S }

  pub chosen_any : {bs : Branches} {i j : ℕ} → Going P cs G c bs i j → i < j → i < 4096 → (at P cs i).op ≡ op.Any → ChosenAny P cs G bs c i
  chosen_any {i = i} g l h o =
      let f = first_tried g.untried l in
      any_tried f.others h o (subst (λ o. StandsBranch P cs G o f.pattern f.expr i) o f.stands) (λ Z p vs K env a. g.same Z p vs K env a ∙ f.is Z p vs K env a)

  fields_tried : {bs : Branches} {i k n : ℕ} {x : Pattern} {e : Expr} (others : Tries) → i < 4096 → (at P cs i).op ≡ op.Branch k n → k ≡ c → StandsBranch P cs G (op.Branch k n) x e i
      → Same P cs G c (selecting P cs G c bs) (λ Z p vs K env a. try_branch P Z p x e c vs K env a (others Z p vs K env a)) → ChosenFields P cs G bs c i n
  unfolding try_branch
  fields_tried {n = n} others h o w (branch_constructor {xs = xs} {e = e} is b S) same = record {
    parts = xs;
    expr = e;
    is = λ Z p vs K env a.
        let taken = enter_branch P Z p (names_inside xs) e K env a (giving (cost vs) (bind_parts xs vs env)) in
        let other = others Z p vs K env a in
        same Z p vs K env a ∙ (ap (λ g. cond (is_constructor c g) taken other) is ∙ ap (λ b. cond b taken other) (eq-eqb c _ (sym w)));
    within = h;
    mask_is = sym b;
    op_is = o ∙ ap (λ k. op.Branch k n) w;
    stands = S;
  }

  pub chosen_fields : {bs : Branches} {i j k n : ℕ} → Going P cs G c bs i j → i < j → i < 4096 → (at P cs i).op ≡ op.Branch k n → k ≡ c → ChosenFields P cs G bs c i n
  chosen_fields {i = i} g l h o w =
      let f = first_tried g.untried l in
      fields_tried f.others h o w (subst (λ o. StandsBranch P cs G o f.pattern f.expr i) o f.stands) (λ Z p vs K env a. g.same Z p vs K env a ∙ f.is Z p vs K env a)

  other_tried : {bs : Branches} {i j k n : ℕ} {x : Pattern} {e : Expr} (others : Tries) → (c == k) ≡ false → StandsBranch P cs G (op.Branch k n) x e i → Untried P cs G c (past P cs i) j others
      → Same P cs G c (selecting P cs G c bs) (λ Z p vs K env a. try_branch P Z p x e c vs K env a (others Z p vs K env a)) → Going P cs G c bs (past P cs i) j
  unfolding try_branch
  other_tried others w (branch_constructor {xs = xs} {e = e} is b S) u same = record {
    tries = others;
    untried = u;
    same = λ Z p vs K env a.
        let taken = enter_branch P Z p (names_inside xs) e K env a (giving (cost vs) (bind_parts xs vs env)) in
        let other = others Z p vs K env a in
        same Z p vs K env a ∙ (ap (λ g. cond (is_constructor c g) taken other) is ∙ ap (λ b. cond b taken other) w);
  }

  pub going_on : {bs : Branches} {i j k n : ℕ} → Going P cs G c bs i j → i < j → (at P cs i).op ≡ op.Branch k n → (c == k) ≡ false → Going P cs G c bs (past P cs i) j
  going_on {i = i} g l o w =
      let f = first_tried g.untried l in
      other_tried f.others w (subst (λ o. StandsBranch P cs G o f.pattern f.expr i) o f.stands) f.untried (λ Z p vs K env a. g.same Z p vs K env a ∙ f.is Z p vs K env a)

  none_left : {i j : ℕ} {tries : Tries} → Untried P cs G c i j tries → j ≤ i → Same P cs G c tries (nothing P cs G c)
  none_left (untried_some (branches_last b l S)) h = absurd (omega arith)
  none_left (untried_some (branches_more b S R)) h = absurd (omega arith)
  none_left (untried_none l) h = λ Z p vs K env a. refl

  pub chosen_none : {bs : Branches} {i j : ℕ} → Going P cs G c bs i j → j ≤ i → ChosenNone P cs G bs c
  chosen_none g l = record { is = λ Z p vs K env a. g.same Z p vs K env a ∙ none_left g.untried l Z p vs K env a }

  pub no_branch : {bs : Branches} {i j : ℕ} → Going P cs G c bs i j → i < j → ((at P cs i).op ≡ op.Any → ⊥) → ((k n : ℕ) → (at P cs i).op ≡ op.Branch k n → ⊥) → ⊥
  no_branch g l a b = branch_op_law (first_tried g.untried l).stands a b
