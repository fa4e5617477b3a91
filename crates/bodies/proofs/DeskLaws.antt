-- The names in scope, before and after a part was judged.
use Rattle.std.proofs.Common.{Err, Result, ◌≡◌, ℕ, ◌≤◌, Bool, false, ◌||◌, List, length, sym, refl, ap, ◌∙◌, subst, arith}
use Rattle.std.specs.Prelude.{slice_index_or}
use Rattle.std.proofs.Math.Bool.{or_comm}
use Rattle.globals.specs.Known.{meaning_in}
use Rattle.grammar.specs.Trees.{Script}
use Rattle.naming.specs.Judges.{Answers, Desk, Kept, Grown, Ready, Lying, names, rows_of, text_of}
use Rattle.naming.specs.declared.world.World.{World}
use Rattle.program.specs.Scopes as placed
use Rattle.scopes.specs.Locals.{context, KindsBelow, Placed, SameBelow}
use Rattle.scopes.proofs.ContextLaws.{context_locals, context_join, kinds_same, same_self, same_then}
use Rattle.scopes.proofs.PlacedLaws.{placed_same}
use Rattle.program.specs.declared.code.Code.{Code}
use Rattle.script_refusals.specs.declared.refusal.Refused.{Refused}
use Rattle.type_rows.specs.declared.value_type.ValueType.{ValueType}
use Rattle.typing.specs.Contexts.{join}
use Rattle.typing.specs.Judging.{Judged, refused}
use Rattle.typing.specs.Types.{Ty}

-- with other marks
abbrev pub marked_as : Desk → List Bool → Desk
marked_as d marks = record d { marks = marks }

pub kept_self : (d : Desk) → Kept d d
kept_self d = record { depth = refl; same = same_self d.depth d.locals; room = refl; long = refl }

pub grown_self : (d : Desk) → Grown d d
grown_self d = record { depth = omega arith; same = same_self d.depth d.locals; room = refl; long = refl }

pub kept_then : (a b c : Desk) → Kept a b → Kept b c → Kept a c
kept_then a b c x y = record {
  depth = y.depth ∙ x.depth;
  same = same_then a.depth a.locals b.locals c.locals x.same (subst (λ n. SameBelow n b.locals c.locals) x.depth y.same);
  room = y.room ∙ x.room;
  long = y.long ∙ x.long;
}

-- with marks that are as many
pub kept_marked : (a b : Desk) (marks : List Bool) → length marks ≡ length b.marks → Kept a b → Kept a (marked_as b marks)
kept_marked a b marks e x = record { depth = x.depth; same = x.same; room = x.room; long = e ∙ x.long }

module _ (world : World) (script : Script) where
  pub kept_ready : (old new : Desk) → Kept old new → Ready world script old → Ready world script new
  kept_ready old new k r = record {
    few = subst (λ n. n ≤ 64) (sym k.depth) r.few;
    room = k.room ∙ r.room;
    long = k.long ∙ r.long;
    kinds = subst (KindsBelow (rows_of world script) new.locals) (sym k.depth) (kinds_same (rows_of world script) old.locals new.locals old.depth k.same r.kinds);
  }

  pub kept_lying : (old new : Desk) → Kept old new → (G : placed.Scope) (height i j : ℕ) → i ≤ j → j ≤ 65536 → Lying world script old G height i → Lying world script new G height j
  kept_lying old new k G height i j on low lying = record {
    among = subst (λ n. Placed (text_of world script) new.locals n G) (sym k.depth) (placed_same (text_of world script) old.locals new.locals old.depth G k.same lying.among);
    size = lying.size;
    few = let few = lying.few in let d = k.depth in omega arith;
    low = low;
  }

  -- the marks of before over the names of now
  pub names_again : (old new : Desk) → Kept old new → names world script (marked_as new old.marks) ≡ names world script old
  names_again old new k =
      ap (λ n. context (text_of world script) (meaning_in script) new.locals old.marks n) k.depth ∙ context_locals (text_of world script) (meaning_in script) old.locals new.locals old.marks old.depth k.same

  -- the marks of two arms, joined
  pub names_joined : (one other : Desk) (marks : List Bool) → Kept one other → ((k : ℕ) → slice_index_or marks k false ≡ (slice_index_or other.marks k false || slice_index_or one.marks k false))
      → names world script (marked_as other marks) ≡ join (names world script one) (names world script other)
  names_joined one other marks k either =
      let text = text_of world script in
      let m = meaning_in script in
      context_join text m other.locals one.marks other.marks marks other.depth (λ j. either j ∙ or_comm (slice_index_or other.marks j false) (slice_index_or one.marks j false))
      ∙ ap (λ Γ. join Γ (names world script other)) (names_again one other k)

  -- a refusal, whatever the names are afterwards
  pub by_refusal : (J : Judged Ty) (compiled : placed.Scope → List Code) (i height : ℕ) (old new : Desk) (codes after : List Code) (result : Result ValueType Refused) (r : Refused)
      → result ≡ Err r → J ≡ refused r → Answers world script J compiled i height old codes result new after
  by_refusal judgement compiled i height old new codes after result r e j = subst (λ x. Answers world script judgement compiled i height old codes x new after) (sym e) j

  -- the names are those that a guard leaves
  pub by_guard : (J : Judged Ty) (compiled : placed.Scope → List Code) (i height : ℕ) (old new : Desk) (codes after : List Code) (result : Result ValueType Refused) (inner : Desk)
      → new.depth ≡ old.depth → new.marks ≡ inner.marks → new.locals ≡ inner.locals
      → Answers world script J compiled i height old codes result (record inner { depth = old.depth }) after → Answers world script J compiled i height old codes result new after
  by_guard judgement compiled i height old new codes after result inner d m l a =
      let e : new ≡ record inner { depth = old.depth } = ap (λ x. record new { depth = x }) d ∙ ap (λ x. record new { depth = old.depth; marks = x }) m ∙ ap (λ x. record inner { depth = old.depth; locals = x }) l in
      subst (λ n. Answers world script judgement compiled i height old codes result n after) (sym e) a
