-- The claim of a node, in the code and in the rules.
use Rattle.std.proofs.Common.{◌≡◌, ℕ, ◌+◌, min, Bool, true, false, cond, ltb, Ok, Err, Result, refl, ap, ◌∙◌}
use Rattle.text.specs.Scans.{refused_at}
use Rattle.text.specs.declared.refusal.Refusal.TheVariants as refusal
use Rattle.text.specs.declared.refusal.Refused.{Refused}
use Rattle.forms.specs.Atoms.{claimed}
use Rattle.grammar.specs.Reading.{Tally, Outcome, count_node}

-- one node more used
abbrev pub one_node : Tally → Tally
one_node n = record { nodes = n.nodes + 1; types = n.types; bindings = n.bindings; datatypes = n.datatypes; constructors = n.constructors }

-- a claim that is granted
pub granted : {A : Type 0} (entries used p m : ℕ) (n : Tally) (next : Tally → Outcome A) → n.nodes ≡ used → claimed used entries p ≡ Ok m
    → (m ≡ used + 1) × (count_node entries p n next ≡ next (one_node n))
granted {A} entries used p m n next e h = go (ltb used (min entries 4096)) refl h
  where
    go : (b : Bool) → ltb used (min entries 4096) ≡ b → ◌≡◌ {A = Result ℕ Refused} (cond b (Ok (used + 1)) (Err (refused_at (cond (ltb entries 4096) refusal.NodeList refusal.Limit) p))) (Ok m)
        → (m ≡ used + 1) × (count_node entries p n next ≡ next (one_node n))
    go true t h = (cc, (let t' : ltb n.nodes (min entries 4096) ≡ true = ap (λ u. ltb u (min entries 4096)) e ∙ t in rw t' refl))
    go false t h = absurd (cc)
