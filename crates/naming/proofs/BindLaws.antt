-- Names that are bound.
use Rattle.std.proofs.Common.{◌≡◌, ℕ, ◌+◌, ◌<◌, Bool, true, false, cond, ◌&&◌, List, ◌∷◌, length, Some, None, Option, slice_set, sym, refl, ap, ◌∙◌, subst, arith, length-set}
use Rattle.std.proofs.lemmas.Bool.{lt-ltb}
use Rattle.std.proofs.lemmas.List.{get_or-set_same}
use Rattle.std.specs.Option.{is_some, is_none}
use Rattle.std.specs.Prelude.{nat_lt}
use Rattle.globals.specs.Known.{meaning_in}
use Rattle.globals.specs.Tallies.{meaning_of}
use Rattle.globals.specs.declared.global.Global.{Global}
use Rattle.globals.specs.declared.global.Global.TheVariants as machine
use Rattle.grammar.specs.Trees.{Ident, Script}
use Rattle.layout.specs.Spelling.{Spells}
use Rattle.layout.specs.declared.word.Word.{Word}
use Rattle.names.specs.Parts.{part_of}
use Rattle.naming.specs.Binding.{NameBound}
use Rattle.naming.specs.Judges.{Desk, desk, Setting, Ready, names, meant, rows_of, text_of}
use Rattle.naming.specs.declared.world.World.{World}
use Rattle.program.specs.Programs as means
use Rattle.program.specs.Programs.{program, global_of}
use Rattle.scopes.specs.Locals.{no_local, local_in, name_in, Newest, FindsLocal, SameBelow, Added, context}
use Rattle.scopes.specs.declared.local.Local.{Local}
use Rattle.scopes.specs.declared.scope.Scope.{Scope}
use Rattle.scopes.proofs.ContextLaws.{look_found, look_none, context_push, context_size, context_locals, kinds_push, same_push}
use Rattle.scopes.proofs.PlacedLaws.{placed_push}
use Rattle.script_refusals.specs.Refusals.{refused_at}
use Rattle.script_refusals.specs.declared.refusal.Refusal.TheVariants as refusal
use Rattle.script_refusals.specs.declared.refusal.Refused.{Refused}
use Rattle.type_rows.specs.Rows.{IsKind}
use Rattle.type_rows.specs.declared.value_type.ValueType.{ValueType}
use Rattle.typing.specs.Contexts.{Local as LocalName, local, Context}
use Rattle.typing.specs.Judging.{Judged, refused, is_fresh, is_absent, is_unbound, bind_name}

-- whether a local has a name
pub some_local : (text : List ℕ) (locals : List Local) (w : List ℕ) (n : ℕ) (o : Option ℕ) → FindsLocal text locals w n o → is_some o ≡ true → (k : ℕ) × Newest text locals w n k
some_local text locals w n None f e = absurd (let z : ◌≡◌ {A = ℕ} 0 1 = cc in omega arith)
some_local text locals w n (Some k) f e = (k, f)

pub no_local_has : (text : List ℕ) (locals : List Local) (w : List ℕ) (n : ℕ) (o : Option ℕ) → FindsLocal text locals w n o → is_some o ≡ false → FindsLocal text locals w n None
no_local_has text locals w n None f e = f
no_local_has text locals w n (Some k) f e = absurd (let z : ◌≡◌ {A = ℕ} 0 1 = cc in omega arith)

-- whether a name is bound in the whole script
unbound_by : (g : Option Global) → is_none g ≡ is_unbound (meaning_of g)
unbound_by None = refl
unbound_by (Some (machine.Function n)) = refl
unbound_by (Some (machine.Constructor k)) = refl
unbound_by (Some (machine.Val i)) = refl

module _ (world : World) (script : Script) where
  -- a name that is new
  pub fresh_local : (locals : List Local) (marks : List Bool) (w : List ℕ) (n k : ℕ) → Newest (text_of world script) locals w n k → is_fresh (program script) w (context (text_of world script) (meaning_in script) locals marks n) ≡ false
  fresh_local locals marks w n k f = ap (λ (o : Option LocalName). is_absent o && is_unbound (global_of (program script) w)) (look_found (text_of world script) (meaning_in script) locals marks w n k f)

  pub fresh_global : (locals : List Local) (marks : List Bool) (w : List ℕ) (n : ℕ) (g : means.Global) → FindsLocal (text_of world script) locals w n None → global_of (program script) w ≡ g
      → is_fresh (program script) w (context (text_of world script) (meaning_in script) locals marks n) ≡ is_unbound g
  fresh_global locals marks w n g f e =
      ap (λ (o : Option LocalName). is_absent o && is_unbound (global_of (program script) w)) (look_none (text_of world script) (meaning_in script) locals marks w n f) ∙ ap is_unbound e

  -- whether a name is new, by what was found
  pub fresh_found : (locals : List Local) (marks : List Bool) (w : List ℕ) (n : ℕ) (o : Option ℕ) (g : Option Global) → FindsLocal (text_of world script) locals w n o → meaning_of g ≡ global_of (program script) w
      → (is_none o && is_none g) ≡ is_fresh (program script) w (context (text_of world script) (meaning_in script) locals marks n)
  fresh_found locals marks w n (Some k) g f e = sym (fresh_local locals marks w n k f)
  fresh_found locals marks w n None g f e = unbound_by g ∙ sym (fresh_global locals marks w n (meaning_of g) f (sym e))

  -- a name is bound, with so many entries below it
  module _ (set : Setting world script) (old : Desk) (ready : Ready world script old) (word : Word) (kind : ValueType) (height : ℕ) (x : Ident) (spells : Spells (text_of world script) word x) where
    abbrev entry : Local
    entry = record { name = word; kind = kind; height = height }

    abbrev bound_desk : Desk
    bound_desk = record { depth = old.depth + 1; marks = slice_set old.marks old.depth false; locals = slice_set old.locals old.depth entry }

    size : length (names world script old) ≡ old.depth
    size = context_size (text_of world script) (meaning_in script) old.locals old.marks old.depth

    -- by whether there is room, and whether it is new
    binding : (next : Context → Judged (Unit {0})) (room new : Bool) → nat_lt (length (names world script old)) 64 ≡ room → is_fresh (program script) x.bytes (names world script old) ≡ new
        → bind_name (program script) x (meant world script kind) (names world script old) next
        ≡ cond room (cond new (next (local x.bytes (meant world script kind) false ∷ names world script old)) (refused (refused_at refusal.Repeated x.place))) (refused (refused_at refusal.Limit x.place))
    binding next room new er en = cc

    pub bind_repeated : (next : Context → Judged (Unit {0})) (r : Refused) → old.depth < 64 → is_fresh (program script) x.bytes (names world script old) ≡ false → r ≡ refused_at refusal.Repeated word.place
        → bind_name (program script) x (meant world script kind) (names world script old) next ≡ refused r
    bind_repeated next r few f e =
        let room : nat_lt (length (names world script old)) 64 ≡ true = lt-ltb (length (names world script old)) 64 (omega (arith, size)) in
        binding next true false room f ∙ ap (λ p. refused (refused_at refusal.Repeated p)) (sym spells.place_is) ∙ ap refused (sym e)

    pub bind_bound : old.depth < 64 → IsKind (rows_of world script) kind → is_fresh (program script) x.bytes (names world script old) ≡ true → NameBound world script x kind height old bound_desk
    bind_bound few valid f =
        let room : nat_lt (length (names world script old)) 64 ≡ true = lt-ltb (length (names world script old)) 64 (omega (arith, size)) in
        let long = ready.long in
        let wide = ready.room in
        let here = get_or-set_same old.locals old.depth entry no_local (omega arith) in
        let named : name_in (text_of world script) (slice_set old.locals old.depth entry) old.depth ≡ x.bytes = ap (λ (l : Local). part_of (text_of world script) l.name) here ∙ spells.bytes_are in
        let pushed = context_push (text_of world script) (meaning_in script) old.locals old.marks old.depth entry (omega arith) (omega arith) in
        record {
          type = λ next. binding next true true room f ∙ ap next (ap (λ w. local w (meant world script kind) false ∷ names world script old) (sym named) ∙ sym pushed);
          ready = record {
            few = omega arith;
            room = length-set old.locals old.depth entry ∙ wide;
            long = length-set old.marks old.depth false ∙ long;
            kinds = kinds_push (rows_of world script) old.locals old.depth entry (omega arith) valid ready.kinds;
          };
          depth = refl;
          lying = λ G i j on low lying.
              record {
                among = placed_push (text_of world script) old.locals old.depth entry x.bytes G (omega arith) named (sym lying.size) lying.among;
                size = omega (arith, lying.size);
                few = omega (arith, lying.few);
                low = low;
              };
        }

-- A name was added, in the code.
module _ (world : World) (script : Script) (set : Setting world script) (old new : Scope) (locals after : List Local) (word : Word) (kind : ValueType) (height : ℕ) (added : Added old locals (record { name = word; kind = kind; height = height }) new after) (ready : Ready world script (desk old locals)) (x : Ident) (spells : Spells (text_of world script) word x) where
  still : SameBelow old.depth locals after
  still j h = ap (λ l. local_in l j) added.locals_are ∙ same_push old.depth locals (record { name = word; kind = kind; height = height }) j h

  below : old.depth < 64
  below = omega (arith, added.room, ready.room)

  -- whether the name was new among the names before
  was_fresh : (name : List ℕ) (b : Bool) → name ≡ part_of (text_of world script) word → b ≡ is_fresh (program script) name (context (text_of world script) (meaning_in script) after old.marks old.depth) → is_fresh (program script) x.bytes (names world script (desk old locals)) ≡ b
  was_fresh name b en eb =
      let e : x.bytes ≡ name = sym (en ∙ spells.bytes_are) in
      ap (λ w. is_fresh (program script) w (names world script (desk old locals))) e ∙ ap (is_fresh (program script) name) (sym (context_locals (text_of world script) (meaning_in script) locals after old.marks old.depth still)) ∙ sym eb

  pub name_bound : (name : List ℕ) → name ≡ part_of (text_of world script) word → true ≡ is_fresh (program script) name (context (text_of world script) (meaning_in script) after old.marks old.depth) → IsKind (rows_of world script) kind
      → NameBound world script x kind height (desk old locals) (desk new after)
  name_bound name en eb valid =
      subst (NameBound world script x kind height (desk old locals)) (cc (added.depth, added.marks, added.locals_are))
      (bind_bound world script set (desk old locals) ready word kind height x spells below valid (was_fresh name true en eb))

  pub name_repeated : (name : List ℕ) → name ≡ part_of (text_of world script) word → false ≡ is_fresh (program script) name (context (text_of world script) (meaning_in script) after old.marks old.depth) → (r : Refused) → r ≡ refused_at refusal.Repeated word.place
      → (next : Context → Judged (Unit {0})) → bind_name (program script) x (meant world script kind) (names world script (desk old locals)) next ≡ refused r
  name_repeated name en eb r er next = bind_repeated world script set (desk old locals) ready word kind height x spells next r below (was_fresh name false en eb) er
