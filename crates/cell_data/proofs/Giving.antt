-- A list of cells given back, from its first cell on.
use Rattle.std.proofs.Common.{◌≡◌, ℕ, List, set, Some, None, sym, ap, ◌∙◌, subst}
use Rattle.cells.specs.declared.records.CellRecord.{CellRecord}
use Rattle.cells.specs.Meaning.{Cells, at}
use Rattle.data.specs.Standing.{Among, less}
use Rattle.data.specs.Steps.{Links}
use Rattle.data.proofs.Stores.{less_clear}
use Rattle.data.proofs.Links.{links_first, links_other, links_once}

-- those before next are given back
pub record Giving (start current : Cells) (head next : ℕ) : Type 0 where
  pub rest : (ns : List ℕ) → Links start head ns → (ms : List ℕ) × Links current next ms × (less ms current ≡ less ns start)

pub giving_turn : {start current exit : Cells} {head next : ℕ} (r : CellRecord) → (next ≡ 65535 → ⊥) → at current next ≡ Some r → exit ≡ set current next None → Giving start current head next → Giving start exit head r.spare
giving_turn {start} {current} {exit} {head} {next} r open_at here e g = record {
  rest = λ ns k.
      let t = g.rest ns k in
      let f = links_first open_at t.1 in
      let same : f.holds ≡ r = let z = f.is in cc in
      let behind : Links current r.spare f.others = subst (λ (z : CellRecord). Links current z.spare f.others) same f.behind in
      let apart : Among next f.others → ⊥ = links_once (subst (Links current next) f.shape t.1) in
      let left : less f.others exit ≡ less ns start = ap (less f.others) e ∙ (less_clear f.others current next ∙ (ap (λ ms. less ms current) (sym f.shape) ∙ t.2)) in
      (f.others, subst (λ z. Links z r.spare f.others) (sym e) (links_other next None apart behind), left);
}
