-- The definitions of a script, as the code goes over them.
use Rattle.std.proofs.Common.{◌≡◌, ℕ, ◌<◌, List, take, get_or, ap, ◌∙◌}
use Rattle.std.specs.Prelude.{min}
use Rattle.std.proofs.lemmas.List.{get_or-take}
use Rattle.globals.specs.Lying.{definition_at}
use Rattle.layout.specs.declared.definition.Definition.{Definition}
use Rattle.layout.specs.declared.definition.Definition.TheVariants as definition
use Rattle.layout.specs.declared.tables.Tables.{Tables}

pub entry_listed : (text : List ℕ) (tables : Tables) (items : List Definition) (k : ℕ) → items ≡ take (min tables.counts.definitions 832) tables.definitions → k < min tables.counts.definitions 832
    → get_or items k definition.Unused ≡ definition_at text tables k
entry_listed text tables items k e low = ap (λ l. get_or l k definition.Unused) e ∙ get_or-take (min tables.counts.definitions 832) tables.definitions k definition.Unused low
