-- The define main, by its number.
use Rattle.std.proofs.Common.{◌≡◌, ℕ, suc, ◌+◌, ◌⊎◌, Bool, true, false, cond, List, [], ◌∷◌, codes, Some, None, Option, inl, inr, sym, refl, ap, ◌∙◌, arith}
use Rattle.std.specs.List.{slice_get}
use Rattle.std.specs.Str.{bytes_eq}
use Rattle.std.proofs.lemmas.Option.{same_Some}
use Rattle.std.proofs.lemmas.Slice.Eq.{bytes_eq-Decides}
use Rattle.globals.specs.Known.{Known}
use Rattle.globals.specs.Tallies.{meaning_of}
use Rattle.globals.specs.declared.global.Global as machine
use Rattle.globals.specs.declared.global.Global.TheVariants as found
use Rattle.globals.specs.declared.whole.Globals.{Globals}
use Rattle.globals.proofs.DefineLaws.{none_some, define_bound}
use Rattle.globals.proofs.Firsts.{first_some}
use Rattle.grammar.specs.Trees.{Script}
use Rattle.program.specs.Programs as means
use Rattle.program.specs.Programs.{Name, Program, Bound, Define, Global, program, first_of, type_meant, global_of, basis_count}
use Rattle.program.specs.Whole.{define_number}
use Rattle.typing.specs.Scripts.{basis_names}
use Rattle.typing.specs.Verdict.{accepted, main_stands}

-- the first define with a name stands at its number
pub define_at : (w : Name) (ds : List Define) (d : Define) → first_of (λ d. d.name) w ds ≡ Some d → (slice_get ds (define_number w ds) ≡ Some d) × (d.name.bytes ≡ w)
define_at w [] d e = none_some d e
define_at w (y ∷ ds) d e = go (bytes_eq w y.name.bytes) refl e (define_at w ds d)
  where
    go : (b : Bool) → bytes_eq w y.name.bytes ≡ b → cond b (Some y) (first_of (λ (d : Define). d.name) w ds) ≡ Some d → (first_of (λ (d : Define). d.name) w ds ≡ Some d → (slice_get ds (define_number w ds) ≡ Some d) × (d.name.bytes ≡ w))
        → (slice_get (y ∷ ds) (cond b 0 (1 + define_number w ds)) ≡ Some d) × (d.name.bytes ≡ w)
    go true q e more = (e, ap (λ (z : Define). z.name.bytes) (sym (same_Some y d e)) ∙ sym ((bytes_eq-Decides w y.name.bytes).0 q))
    go false q e more =
        let m = more e in
        let next : 1 + define_number w ds ≡ suc (define_number w ds) = omega arith in
        (ap (slice_get (y ∷ ds)) next ∙ m.0, m.1)

pub main_define : (P : Program) (o : Option Define) → main_stands P o ≡ accepted → (d : Define) × (o ≡ Some d)
main_define P None e = absurd (let z : ◌≡◌ {A = ℕ} 0 1 = cc in omega arith)
main_define P (Some d) e = (d, refl)

module _ (text : List ℕ) (globals : Globals) (script : Script) (known : Known text globals script) (stands : main_stands (program script) (first_of (λ d. d.name) (codes "main") (program script).defines) ≡ accepted) where
  abbrev number : ℕ
  number = define_number (codes "main") (program script).defines

  -- what main means
  pub main_global : global_of (program script) (codes "main") ≡ means.function (basis_count + number)
  main_global =
      let d = main_define (program script) _ stands in
      let at = define_at (codes "main") (program script).defines d.0 d.1 in
      let b = define_bound script 0 basis_count 0 number d.0 at.0 in
      let entry : Bound = record { name = d.0.name; meaning = means.function (basis_count + number) } in
      ap type_meant (ap (λ v. first_of (λ (b : Bound). b.name) v (program script).bound) (sym at.1) ∙ first_some (λ (b : Bound). b.name) basis_names (program script).bound b.0 entry known.named.bound_once b.1)

  same_function : (a b : ℕ) → means.function a ≡ means.function b → a ≡ b
  same_function a b e = cc

  pub main_number : (n : ℕ) → means.function n ≡ global_of (program script) (codes "main") → n ≡ basis_count + number
  main_number n e = same_function n (basis_count + number) (e ∙ main_global)

-- what means a function is nothing else
pub not_unbound : {X : Type 0} (n : ℕ) → ◌≡◌ {A = Global} means.unbound (means.function n) → X
not_unbound n e = absurd (let z : ◌≡◌ {A = ℕ} 0 1 = cc in omega arith)

pub not_other : {X : Type 0} (m : machine.Global) (n : ℕ) → ((x : ℕ) × (m ≡ found.Constructor x)) ⊎ ((x : ℕ) × (m ≡ found.Val x)) → meaning_of (Some m) ≡ means.function n → X
not_other m n (inl (x, q)) e = absurd (let c : means.constructor x ≡ means.function n = sym (ap (λ g. meaning_of (Some g)) q) ∙ e in let z : ◌≡◌ {A = ℕ} 0 1 = cc in omega arith)
not_other m n (inr (x, q)) e = absurd (let c : means.val x ≡ means.function n = sym (ap (λ g. meaning_of (Some g)) q) ∙ e in let z : ◌≡◌ {A = ℕ} 0 1 = cc in omega arith)
