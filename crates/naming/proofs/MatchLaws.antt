-- The pattern of a branch.
use Rattle.std.proofs.Common.{◌≡◌, ℕ, zero, suc, ◌+◌, ◌≤◌, Bool, true, false, ◌&&◌, List, [], ◌∷◌, length, Some, None, Ok, Err, Option, Result, slice_set, sym, refl, ap, ◌∙◌, subst, arith}
use Rattle.std.proofs.lemmas.Bool.{eqb-true}
use Rattle.std.specs.List.{slice_get}
use Rattle.std.specs.Prelude.{◌==◌}
use Rattle.globals.specs.Known.{VariantIs, meaning_in}
use Rattle.globals.specs.declared.variant.Variant.{Variant as VariantCode}
use Rattle.grammar.specs.Limits.{types_length, SixInConstructors, SixInScript}
use Rattle.grammar.specs.Trees as tree
use Rattle.grammar.specs.Trees.{Ident, PatternPart, Pattern, constructor, wildcard, Script, datatype_definition, type_annotation, function_definition, val_binding}
use Rattle.layout.specs.Decoding.{node_found}
use Rattle.layout.specs.Spelling.{Spells}
use Rattle.layout.specs.declared.node.Node.{Node}
use Rattle.layout.specs.declared.word.Word.{Word}
use Rattle.names.specs.Parts.{part_of}
use Rattle.naming.specs.Binding.{HeadAnswers, MatchesAnswers, OnParts, OnConstructor}
use Rattle.naming.specs.Judges.{Desk, Setting, Ready, names, vals_of, rows_of, text_of}
use Rattle.naming.specs.declared.world.World.{World}
use Rattle.patterns.specs.Parts.{PartsAt, IsHead}
use Rattle.patterns.specs.declared.head.Head.{Head}
use Rattle.program.specs.Compiling.{code, head_op, branch_op}
use Rattle.program.specs.Programs as means
use Rattle.program.specs.Programs.{Program, Variant, program, global_of, variants, variants_from}
use Rattle.program.specs.declared.code.Code.{Code}
use Rattle.program.specs.declared.code.Op.TheVariants as op
use Rattle.scopes.specs.Locals.{Newest, FindsLocal}
use Rattle.scopes.proofs.ContextLaws.{look_found, look_none}
use Rattle.script_refusals.specs.Refusals.{refused_at}
use Rattle.script_refusals.specs.declared.refusal.Refusal.TheVariants as refusal
use Rattle.script_refusals.specs.declared.refusal.Refused.{Refused}
use Rattle.type_rows.proofs.ScriptRows.{count_types}
use Rattle.typing.specs.Contexts.{Local, Context, local_named}
use Rattle.typing.specs.Judging.{refused, need, with_all_bound, judge_variant, judge_head, judge_pattern}
use Rattle.typing.specs.Types.{types_of, count}

-- no constructor has more than six fields
six_among : (d : ℕ) (cs : List tree.Constructor) (rest : List Variant) → SixInConstructors cs → ((k : ℕ) (v : Variant) → slice_get rest k ≡ Some v → types_length v.fields ≤ 6)
    → (k : ℕ) (v : Variant) → slice_get (variants d cs rest) k ≡ Some v → types_length v.fields ≤ 6
six_among d [] rest six more k v e = more k v e
six_among d (c ∷ cs) rest six more zero v e =
    let z : record { name = c.name; datatype = d; fields = c.fields } ≡ v = cc in
    subst (λ (v : Variant). types_length v.fields ≤ 6) z six.0
six_among d (c ∷ cs) rest six more (suc k) v e = six_among d cs rest six.2 more k v e

pub six_fields : (d : ℕ) (script : Script) → SixInScript script → (k : ℕ) (v : Variant) → slice_get (variants_from d script) k ≡ Some v → types_length v.fields ≤ 6
six_fields d [] six k v e = absurd (let z : ◌≡◌ {A = ℕ} 0 1 = cc in omega arith)
six_fields d (datatype_definition p x cs ∷ ds) six k v e = six_among d cs (variants_from (d + 1) ds) six.0 (six_fields (d + 1) ds six.1) k v e
six_fields d (type_annotation p x t ∷ ds) six k v e = six_fields d ds six.1 k v e
six_fields d (function_definition p x ps b ∷ ds) six k v e = six_fields d ds six.1 k v e
six_fields d (val_binding p x b ∷ ds) six k v e = six_fields d ds six.1 k v e

second : (a b : Bool) → (a && b) ≡ true → b ≡ true
second true b e = e
second false b e = absurd (let z : ◌≡◌ {A = ℕ} 0 1 = cc in omega arith)

module _ (world : World) (script : Script) (set : Setting world script) (old : Desk) (ready : Ready world script old) (d i height : ℕ) (codes : List Code) where
  abbrev Γ : Context
  Γ = names world script old

  pub matched_any : (p : ℕ) (node : Node) (after : List Code) → node ≡ node_found world.nodes.now i → after ≡ slice_set codes i (code op.Any node.place node.past) → MatchesAnswers world script d (wildcard p) i height old codes (Ok tt) old after
  matched_any p node after is s = record {
    type = refl;
    ready = ready;
    depth = omega arith;
    lying = λ G j k on low lying. record { among = lying.among; size = omega (arith, lying.size); few = omega (arith, lying.few); low = low };
    noted = s ∙ ap (λ (n : Node). slice_set codes i (code op.Any n.place n.past)) is;
  }

  -- A constructor's pattern, by its head.
  module _ (p : ℕ) (word : Word) (c : Ident) (xs : List PatternPart) (name : List ℕ) (spells : Spells (text_of world script) word c) (spelt : name ≡ part_of (text_of world script) word) where
    named : name ≡ c.bytes
    named = spelt ∙ spells.bytes_are

    by_local : (o : Option Local) → local_named c.bytes Γ ≡ o → judge_pattern (program script) (vals_of world script) d (constructor p c xs) Γ
        ≡ elim o [ Some l ↦ refused (refused_at refusal.Mismatch p) | None ↦ judge_head (program script) (vals_of world script) d p c.place xs (global_of (program script) c.bytes) Γ ]
    by_local o e = ap (λ (o : Option Local). elim o [ Some l ↦ refused (refused_at refusal.Mismatch p) | None ↦ judge_head (program script) (vals_of world script) d p c.place xs (global_of (program script) c.bytes) Γ ]) e

    pub matched_local : (k : ℕ) (r : Refused) → Newest (text_of world script) old.locals name old.depth k → r ≡ refused_at refusal.Mismatch p → judge_pattern (program script) (vals_of world script) d (constructor p c xs) Γ ≡ refused r
    matched_local k r f e = by_local _ (look_found (text_of world script) (meaning_in script) old.locals old.marks c.bytes old.depth k (subst (λ w. Newest (text_of world script) old.locals w old.depth k) named f)) ∙ ap refused (sym e)

    -- no local has the name
    module _ (free : FindsLocal (text_of world script) old.locals name old.depth None) where
      headed : judge_pattern (program script) (vals_of world script) d (constructor p c xs) Γ ≡ judge_head (program script) (vals_of world script) d p c.place xs (global_of (program script) c.bytes) Γ
      headed = by_local None (look_none (text_of world script) (meaning_in script) old.locals old.marks c.bytes old.depth (subst (λ w. FindsLocal (text_of world script) old.locals w old.depth None) named free))

      pub matched_head : (r : Refused) → HeadAnswers world script p word.place name (Err r) → judge_pattern (program script) (vals_of world script) d (constructor p c xs) Γ ≡ refused r
      matched_head r a =
          let e = spells.place_is in
          let n = named in
          headed ∙ (let z : judge_head (program script) (vals_of world script) d p c.place xs (global_of (program script) c.bytes) Γ ≡ judge_head (program script) (vals_of world script) d p word.place xs (global_of (program script) name) Γ = cc in z) ∙ a d xs Γ

      module _ (k : ℕ) (global : global_of (program script) name ≡ means.constructor k) (v : VariantCode) (is : VariantIs script (rows_of world script) k v) where
        global_here : global_of (program script) c.bytes ≡ means.constructor k
        global_here = ap (global_of (program script)) (sym named) ∙ global

        many : count (types_of (program script) is.entry.fields) ≤ 6
        many = omega (arith, count_types (program script) is.entry.fields, six_fields 0 script set.six k is.entry is.at)

        tested : (b : Bool) → b ≡ (v.datatype == d && length xs == v.fields) → judge_pattern (program script) (vals_of world script) d (constructor p c xs) Γ ≡ need b p (with_all_bound (program script) xs (types_of (program script) is.entry.fields) Γ)
        tested b e =
            let ed = is.datatype in
            let ef = is.fields in
            let e' : (is.entry.datatype == d && length xs == count (types_of (program script) is.entry.fields)) ≡ b = ap (λ n. n == d && length xs == count (types_of (program script) is.entry.fields)) (sym ed) ∙ ap (λ n. v.datatype == d && length xs == n) (sym ef) ∙ sym e in
            headed ∙ ap (λ g. judge_head (program script) (vals_of world script) d p c.place xs g Γ) global_here ∙ ap (λ o. judge_variant (program script) d p xs o Γ) is.at
            ∙ ap (λ b. need b p (with_all_bound (program script) xs (types_of (program script) is.entry.fields) Γ)) e'

        pub matched_unlike : (b : Bool) → b ≡ (v.datatype == d && length xs == v.fields) → b ≡ false → (r : Refused) → r ≡ refused_at refusal.Mismatch p → judge_pattern (program script) (vals_of world script) d (constructor p c xs) Γ ≡ refused r
        matched_unlike b e bad r er = tested b e ∙ ap (λ b. need b p (with_all_bound (program script) xs (types_of (program script) is.entry.fields) Γ)) bad ∙ ap refused (sym er)

        as_many : (v.datatype == d && length xs == v.fields) ≡ true → length xs ≡ count (types_of (program script) is.entry.fields)
        as_many e = eqb-true (length xs) v.fields (second (v.datatype == d) (length xs == v.fields) e) ∙ is.fields

        pub matched_names : (b : Bool) → b ≡ (v.datatype == d && length xs == v.fields) → b ≡ true → (inside : ℕ) → PartsAt (text_of world script) inside xs → (r : Refused) (new : Desk) → OnParts world inside v.first height old (Err r) new
            → judge_pattern (program script) (vals_of world script) d (constructor p c xs) Γ ≡ refused r
        matched_names b e fine inside at r new parts =
            let size = as_many (sym e ∙ fine) in
            tested b e ∙ ap (λ b. need b p (with_all_bound (program script) xs (types_of (program script) is.entry.fields) Γ)) fine
            ∙ parts script xs (types_of (program script) is.entry.fields) v.past set ready at is.lie size (omega (arith, many))

        pub matched : (b : Bool) → b ≡ (v.datatype == d && length xs == v.fields) → b ≡ true → (inside : ℕ) → PartsAt (text_of world script) inside xs → (n : ℕ) (new : Desk) → OnParts world inside v.first height old (Ok n) new
            → (node : Node) (after : List Code) → node ≡ node_found world.nodes.now i → after ≡ slice_set codes i (code (op.Branch k n) node.place node.past) → MatchesAnswers world script d (constructor p c xs) i height old codes (Ok tt) new after
        matched b e fine inside at n new parts node after en s =
            let size = as_many (sym e ∙ fine) in
            let all = parts script xs (types_of (program script) is.entry.fields) v.past set ready at is.lie size (omega (arith, many)) in
            let bound = all.0 in
            let eo : op.Branch k n ≡ branch_op (program script) (constructor p c xs) = ap (op.Branch k) all.1 ∙ ap (λ g. head_op g xs) (sym global_here) in
            record {
              type = tested b e ∙ ap (λ b. need b p (with_all_bound (program script) xs (types_of (program script) is.entry.fields) Γ)) fine ∙ bound.type;
              ready = bound.ready;
              depth = bound.depth;
              lying = bound.lying;
              noted = s ∙ ap (λ o. slice_set codes i (code o node.place node.past)) eo ∙ ap (λ (n : Node). slice_set codes i (code (branch_op (program script) (constructor p c xs)) n.place n.past)) en;
            }

  -- whatever the pattern is
  pub matched_wildcard : (x : Pattern) → IsHead (text_of world script) x None → (node : Node) (after : List Code) → node ≡ node_found world.nodes.now i → after ≡ slice_set codes i (code op.Any node.place node.past) → MatchesAnswers world script d x i height old codes (Ok tt) old after
  matched_wildcard (wildcard p) at node after is s = matched_any p node after is s
  matched_wildcard (constructor p c xs) at node after is s = absurd at

  pub matched_by : (x : Pattern) (head : Head) → IsHead (text_of world script) x (Some head) → (result : Result (Unit {0}) Refused) (new : Desk) (after : List Code)
      → OnConstructor world i head d height old codes result new after → MatchesAnswers world script d x i height old codes result new after
  matched_by (wildcard p) head at result new after f = absurd at
  matched_by (constructor p c xs) head at result new after f =
      subst (λ p. MatchesAnswers world script d (constructor p c xs) i height old codes result new after) at.0 (f script c xs set ready at.1 at.2)
