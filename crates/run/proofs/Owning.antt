-- The define or val around a place, looked for from the first on.
use Rattle.std.proofs.Common.{◌≡◌, ℕ, suc, ◌+◌, ◌<◌, ◌≤◌, true, false, cond, ◌∷◌, length, get_or, drop, sym, refl, ap, ◌∙◌, subst, nat_le, slice_index_or, arith}
use Rattle.std.proofs.Math.Seq.{drop-cons}
use Rattle.std.proofs.lemmas.Bool.{le-leb, lt-leb}
use Rattle.std.proofs.lemmas.Option.{slice_get-get_or}
use Rattle.grammar.specs.Trees.{Ident}
use Rattle.layout.specs.Words.{word}
use Rattle.layout.specs.declared.word.Word.{Word}
use Rattle.program.specs.Programs.{Program, Owner, owner_from, owner_found, nobody}
use Rattle.program.specs.Standing.{no_owner, OwnerStands, Lays}
use Rattle.program.specs.declared.compiled.Compiled.{Compiled}
use Rattle.program.specs.declared.compiled.Owner.{Owner as OwnerCode}

-- the name found so far, from which the others go on
pub record Owning (P : Program) (p i : ℕ) (name : Word) : Type 0 where
  pub ident : Ident
  pub is : name ≡ word ident
  pub same : owner_found P p ≡ owner_from ident p (drop i P.owners)

pub owning_first : (P : Program) (p : ℕ) → Owning P p 0 (word nobody)
owning_first P p = record { ident = nobody; is = refl; same = refl }

-- the owner that is read
record Front (P : Program) (i : ℕ) (c : OwnerCode) : Type 0 where
  owner : Owner
  is : drop i P.owners ≡ owner ∷ drop (i + 1) P.owners
  stands : OwnerStands c owner

front : {l : Compiled} {P : Program} (i : ℕ) (c : OwnerCode) → Lays l P → i < l.owner_count → c ≡ slice_index_or l.owners i no_owner → Front P i c
front {l} {P} i c L h e =
    let there : i < length P.owners = omega (arith, L.owner_count_is) in
    let none : Owner = record { place = 0; name = nobody } in
    let o = get_or P.owners i none in
    let one : suc i ≡ i + 1 = omega arith in
    record {
      owner = o;
      is = drop-cons P.owners i none there ∙ ap (λ k. o ∷ drop k P.owners) one;
      stands = subst (λ c. OwnerStands c o) (sym e) (L.owners i o (slice_get-get_or P.owners i none there));
    }

-- it begins behind the place
pub owner_behind : {l : Compiled} {P : Program} {p i : ℕ} {name : Word} (c : OwnerCode) → Lays l P → i < l.owner_count → c ≡ slice_index_or l.owners i no_owner → p < c.place → Owning P p i name → name ≡ word (owner_found P p)
owner_behind {l} {P} {p} {i} c L h e behind O =
    let F = front i c L h e in
    let after : nat_le F.owner.place p ≡ false = lt-leb F.owner.place p (omega (arith, F.stands.place)) in
    O.is ∙ ap word (sym (O.same ∙ (ap (owner_from O.ident p) F.is ∙ ap (λ b. cond b (owner_from F.owner.name p (drop (i + 1) P.owners)) O.ident) after)))

-- it begins at the place or before it
pub owner_before : {l : Compiled} {P : Program} {p i : ℕ} {name : Word} (c : OwnerCode) → Lays l P → i < l.owner_count → c ≡ slice_index_or l.owners i no_owner → c.place ≤ p → Owning P p i name → Owning P p (i + 1) c.name
owner_before {l} {P} {p} {i} c L h e before O =
    let F = front i c L h e in
    let within : nat_le F.owner.place p ≡ true = le-leb F.owner.place p (omega (arith, F.stands.place)) in
    record {
      ident = F.owner.name;
      is = F.stands.name;
      same = O.same ∙ (ap (owner_from O.ident p) F.is ∙ ap (λ b. cond b (owner_from F.owner.name p (drop (i + 1) P.owners)) O.ident) within);
    }
