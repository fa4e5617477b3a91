-- All definitions of a script, one by one.
use Rattle.std.proofs.Common.{◌≡◌, ℕ, ◌+◌, ◌<◌, List, [], ◌∷◌, length, sym, refl, ap, ◌∙◌, subst, zero-add, arith}
use Rattle.std.proofs.lemmas.List.{length-append, length_push}
use Rattle.globals.specs.Lying.{DefinitionLies, definition_at, ScriptLies, Laid, Few}
use Rattle.globals.specs.Tallies.{Tally, no_tally, tallied, tallied_all, variant_codes, Sizes, Holds, names_from}
use Rattle.globals.specs.declared.declarations.Declarations.{Declarations}
use Rattle.grammar.specs.Limits.{types_count}
use Rattle.grammar.specs.Trees as tree
use Rattle.grammar.specs.Trees.{Ident, datatype_definition, type_annotation, function_definition, val_binding, Script}
use Rattle.layout.specs.Tabling.{none, after, after_all}
use Rattle.layout.specs.declared.counts.Counts.{Counts}
use Rattle.layout.specs.declared.definition.Definition.{Definition}
use Rattle.layout.specs.declared.tables.Tables.{Tables}
use Rattle.program.specs.Programs as means
use Rattle.program.specs.Programs.{Bound, bound_variants}
use Rattle.script_refusals.specs.declared.refusal.Refused.{Refused}
use Rattle.layout.proofs.Standing.{type_some}
use Rattle.typing.specs.Verdict.{refused}

few_before : (c : Counts) (d : tree.Definition) → Few (after c d) → Few c
few_before c d f =
    let a = f.definitions in
    let b = f.datatypes in
    let e = f.bindings in
    let g = f.constructors in
    let h = f.types in
    let i = f.nodes in
    record { definitions = omega arith; datatypes = omega arith; bindings = omega arith; constructors = omega arith; types = omega arith; nodes = omega arith }

pub few_all : (c : Counts) (ds : Script) → Few (after_all c ds) → Few c
few_all c [] f = f
few_all c (d ∷ ds) f = few_before c d (few_all (after c d) ds f)

length_bound : (c : ℕ) (ks : List tree.Constructor) (rest : List Bound) → length (bound_variants c ks rest) ≡ length ks + length rest
length_bound c [] rest = omega arith
length_bound c (k ∷ ks) rest = let h = length_bound (c + 1) ks rest in omega arith

length_variants : (d k : ℕ) (cs : List tree.Constructor) → length (variant_codes d k cs) ≡ length cs
length_variants d k [] = refl
length_variants d k (c ∷ cs) = let h = length_variants d (k + types_count c.fields) cs in omega arith

pub sizes_start : Sizes none no_tally
sizes_start = record { bound = refl; annotations = omega arith; datatypes = refl; variants = refl; numbers = refl }

pub sizes_next : (c : Counts) (d : tree.Definition) (t : Tally) → Sizes c t → Sizes (after c d) (tallied c d t)
sizes_next c (datatype_definition p x cs) t s =
    let b = s.bound in
    let a = s.annotations in
    let d = s.datatypes in
    let v = s.variants in
    let n = s.numbers in
    let bs = length-append t.bound (bound_variants c.constructors cs []) in
    let lb = length_bound c.constructors cs [] in
    let ds = length_push t.datatypes x in
    let vs = length-append t.variants (variant_codes (length t.datatypes) c.types cs) in
    let lv = length_variants (length t.datatypes) c.types cs in
    record { bound = omega arith; annotations = omega arith; datatypes = omega arith; variants = omega arith; numbers = omega arith }
sizes_next c (type_annotation p x e) t s =
    let b = s.bound in
    let a = s.annotations in
    let d = s.datatypes in
    let v = s.variants in
    let n = s.numbers in
    let an = length_push t.annotations record { name = x; type = e } in
    let some = type_some e in
    record { bound = omega arith; annotations = omega arith; datatypes = omega arith; variants = omega arith; numbers = omega arith }
sizes_next c (function_definition p x ps e) t s =
    let b = s.bound in
    let a = s.annotations in
    let d = s.datatypes in
    let v = s.variants in
    let n = s.numbers in
    let bs = length_push t.bound record { name = x; meaning = means.function t.functions } in
    record { bound = omega arith; annotations = omega arith; datatypes = omega arith; variants = omega arith; numbers = omega arith }
sizes_next c (val_binding p x e) t s =
    let b = s.bound in
    let a = s.annotations in
    let d = s.datatypes in
    let v = s.variants in
    let n = s.numbers in
    let bs = length_push t.bound record { name = x; meaning = means.val t.vals } in
    record { bound = omega arith; annotations = omega arith; datatypes = omega arith; variants = omega arith; numbers = omega arith }

-- what was declared on the way, and what is left
pub record Gathered (text : List ℕ) (tables : Tables) (script : Script) (k : ℕ) (now : Declarations) : Type 0 where
  pub counts : Counts
  pub left : Script
  pub tally : Tally
  pub here : k ≡ counts.definitions
  pub lies : ScriptLies text tables counts left
  pub end : tables.counts.definitions ≡ k + length left
  pub few : Few (after_all counts left)
  pub sizes : Sizes counts tally
  pub holds : Holds text now tally
  pub said : names_from no_tally script ≡ names_from tally left
  pub whole : tallied_all none script no_tally ≡ tallied_all counts left tally

module _ (text : List ℕ) (tables : Tables) (script : Script) where
  pub gather_start : (now : Declarations) → Laid text tables script → Holds text now no_tally → Gathered text tables script 0 now
  gather_start now l h = record { counts = none; left = script; tally = no_tally; here = refl; lies = l.lies; end = l.count ∙ sym (zero-add (length script)); few = l.few; sizes = sizes_start; holds = h; said = refl; whole = refl }

  pub gather_next : (k : ℕ) (now new : Declarations) (m : Definition) → k < tables.counts.definitions → m ≡ definition_at text tables k
      → ((c : Counts) (d : tree.Definition) (ds : Script) (t : Tally) → Holds text now t → Sizes c t → DefinitionLies text tables c d m → Few (after c d) → names_from t (d ∷ ds) ≡ names_from (tallied c d t) ds)
      → ((c : Counts) (d : tree.Definition) (t : Tally) → Holds text now t → Sizes c t → DefinitionLies text tables c d m → Few (after c d) → Holds text new (tallied c d t))
      → Gathered text tables script k now → Gathered text tables script (k + 1) new
  gather_next k now new m low is names holds g = go g.left g.lies g.end g.few g.said g.whole
    where
      go : (left : Script) → ScriptLies text tables g.counts left → tables.counts.definitions ≡ k + length left → Few (after_all g.counts left) → names_from no_tally script ≡ names_from g.tally left
          → tallied_all none script no_tally ≡ tallied_all g.counts left g.tally → Gathered text tables script (k + 1) new
      go [] lies end few said whole = absurd (omega arith)
      go (d ∷ left) lies end few said whole =
          let here = g.here in
          let one : DefinitionLies text tables g.counts d m = subst (DefinitionLies text tables g.counts d) (ap (definition_at text tables) (sym here) ∙ sym is) lies.0 in
          let f = few_all (after g.counts d) left few in
          record {
            counts = after g.counts d;
            left = left;
            tally = tallied g.counts d g.tally;
            here = omega arith;
            lies = lies.1;
            end = omega arith;
            few = few;
            sizes = sizes_next g.counts d g.tally g.sizes;
            holds = holds g.counts d g.tally g.holds g.sizes one f;
            said = said ∙ names g.counts d left g.tally g.holds g.sizes one f;
            whole = whole;
          }

  pub gather_refused : (k : ℕ) (now : Declarations) (m : Definition) (r : Refused) → k < tables.counts.definitions → m ≡ definition_at text tables k
      → ((c : Counts) (d : tree.Definition) (ds : Script) (t : Tally) → Holds text now t → Sizes c t → DefinitionLies text tables c d m → Few (after c d) → names_from t (d ∷ ds) ≡ refused r)
      → Gathered text tables script k now → names_from no_tally script ≡ refused r
  gather_refused k now m r low is names g = g.said ∙ go g.left g.lies g.end g.few
    where
      go : (left : Script) → ScriptLies text tables g.counts left → tables.counts.definitions ≡ k + length left → Few (after_all g.counts left) → names_from g.tally left ≡ refused r
      go [] lies end few = absurd (omega arith)
      go (d ∷ left) lies end few =
          let here = g.here in
          names g.counts d left g.tally g.holds g.sizes (subst (DefinitionLies text tables g.counts d) (ap (definition_at text tables) (sym here) ∙ sym is) lies.0) (few_all (after g.counts d) left few)
