use Rattle.rules.proofs.CellsLaw.{short_of_cells}
use Rattle.rules.proofs.laws.too_few_cells_exactly.Goals as goal

pub returns : goal.returns
returns c = record { cells = short_of_cells }
