-- A list of advances, one after another.
use Rattle.std.proofs.Common.{◌≡◌, ℕ, ◌+◌, ◌-◌, ◌<◌, ◌≤◌, List, [], ◌∷◌, ◌++◌, length, take, drop, min, Some, set, get_or, sym, refl, ap, ◌∙◌, subst, arith, append_assoc, append-nil, length-append, length-drop}
use Rattle.std.proofs.lemmas.List.{map-append, take_more, take_more_set, get_or-drop, length-take-le}
use Rattle.cells.specs.Meaning.{Cells}
use Rattle.rehearsal.specs.Asking.{answered, Lends, all_bytes, MadeAll}
use Rattle.rehearsal.specs.declared.asks.Ask.{Ask}
use Rattle.rules.specs.declared.answers.Advanced.{Advanced}
use Rattle.run.proofs.Advancing.{front_then, spares_more}
use Rattle.run.specs.Insides.{Spares}
use Rattle.run.specs.Openings.{Opening, Made, made}
use Rattle.run.specs.Stands.{Stands}
use Rattle.run.specs.declared.runs.Run.{Run}
use borrow.Rule.Slice.PartMut.{put_mid}

-- So many of the advances are made, and wrote so many bytes.
pub record Partly (o : Opening) (asks now : List Ask) (i written : ℕ) (old new : List ℕ) (run : Run) (m : Cells) : Type 0 where
  pub history : List Made
  pub all : MadeAll (take i asks) (take i now) old new history
  pub total : length (all_bytes history) ≡ written
  pub stands : Stands o history run m

pub partly_none : {o : Opening} {asks : List Ask} {out : List ℕ} {run : Run} {m : Cells} → Stands o [] run m → Partly o asks asks 0 0 out out run m
partly_none S = record {
  history = [];
  all = record { lends = tt; answers = refl; front = refl; spares = record { within = omega arith; past = refl; long = refl } };
  total = refl;
  stands = S;
}

bytes_more : (h : List Made) (c : Made) → all_bytes (h ++ c ∷ []) ≡ all_bytes h ++ c.bytes
bytes_more [] c = append-nil c.bytes
bytes_more (d ∷ h) c = ap (λ l. d.bytes ++ l) (bytes_more h c) ∙ sym (append_assoc d.bytes (all_bytes h) c.bytes)

lends_more : (left : ℕ) (asks : List Ask) (h : List Made) (a : Ask) (c : Made) → Lends left asks h → c.count ≡ a.count → c.room ≡ min a.room (left - length (all_bytes h)) → Lends left (asks ++ a ∷ []) (h ++ c ∷ [])
lends_more left [] [] a c l e r = (e, r ∙ (let z : left - 0 ≡ left = omega arith in ap (λ n. min a.room n) z), tt)
lends_more left [] (d ∷ h) a c l e r = absurd l
lends_more left (b ∷ asks) [] a c l e r = absurd l
lends_more left (b ∷ asks) (d ∷ h) a c l e r =
    let z : left - length (d.bytes ++ all_bytes h) ≡ (left - length d.bytes) - length (all_bytes h) = omega (arith, length-append d.bytes (all_bytes h)) in
    (l.0, l.1, lends_more (left - length d.bytes) asks h a c l.2 e (r ∙ ap (λ n. min a.room n) z))

-- One advance more is made: of the next ask, over k bytes behind those that were written.
module _ (o : Opening) (asks now : List Ask) (i written k : ℕ) (old out part : List ℕ) {run run' : Run} {m m' : Cells} (x : Advanced) (d : Ask)
    (there : i < length asks) (same_long : length now ≡ length asks) (ahead : drop i now ≡ drop i asks) (fits : written + k ≤ length out) (long : length out ≡ length old)
    (lent : k ≡ min (get_or now i d).room (length out - written)) (spares : Spares x.bytes (take k (drop written out)) part)
    (law : (h : List Made) → Stands o h run m → Stands o (h ++ made (get_or now i d).count (length (take k (drop written out))) x (take x.bytes part) ∷ []) run' m') where
  abbrev pub y : Ask
  y = record { count = (get_or now i d).count; room = k; answer = Some x }

  abbrev pub c : Made
  c = made (get_or now i d).count k x (take x.bytes part)

  part_long : length (take k (drop written out)) ≡ k
  part_long = length-take-le k (drop written out) (omega (arith, length-drop written out))

  asked_same : get_or now i d ≡ get_or asks i d
  asked_same =
      let z : i + 0 ≡ i = omega arith in
      ap (λ n. get_or now n d) (sym z) ∙ (sym (get_or-drop i now 0 d) ∙ (ap (λ l. get_or l 0 d) ahead ∙ (get_or-drop i asks 0 d ∙ ap (λ n. get_or asks n d) z)))

  bytes_long : length (take x.bytes part) ≡ x.bytes
  bytes_long = length-take-le x.bytes part (omega (arith, spares.within, spares.long))

  pub partly_more : Partly o asks now i written old out run m → Partly o asks (set now i y) (i + 1) (written + x.bytes) old (put_mid written k out part) run' m'
  partly_more P =
      let h = P.history in
      let total : length (all_bytes (h ++ c ∷ [])) ≡ written + x.bytes = omega (arith, ap length (bytes_more h c), length-append (all_bytes h) (take x.bytes part), P.total, bytes_long) in
      let room : k ≡ min (get_or asks i d).room (length old - length (all_bytes h)) = lent ∙ ap (λ (a : Ask). min a.room (length out - written)) asked_same ∙ ap (λ n. min (get_or asks i d).room n) (omega (arith, long, P.total)) in
      record {
        history = h ++ c ∷ [];
        all = record {
          lends = subst (λ l. Lends (length old) l (h ++ c ∷ [])) (sym (take_more asks i d there)) (lends_more (length old) (take i asks) h (get_or asks i d) c P.all.lends (ap (λ (a : Ask). a.count) asked_same) room);
          answers = take_more_set now i y (omega (arith, same_long, there)) ∙ (ap (λ l. l ++ y ∷ []) P.all.answers ∙ sym (map-append answered h (c ∷ [])));
          front = ap (λ n. take n (put_mid written k out part)) total ∙ (front_then written k out part x.bytes fits (omega (arith, spares.long, part_long)) (omega (arith, spares.within, part_long))
              ∙ (ap (λ l. l ++ take x.bytes part) (ap (λ n. take n out) (sym P.total) ∙ P.all.front) ∙ sym (bytes_more h c)));
          spares = subst (λ n. Spares n old (put_mid written k out part)) (sym total) (spares_more written k x.bytes old out part fits (subst (λ n. Spares n old out) P.total P.all.spares) spares);
        };
        total = total;
        stands = subst (λ n. Stands o (h ++ made (get_or now i d).count n x (take x.bytes part) ∷ []) run' m') part_long (law h P.stands);
      }
