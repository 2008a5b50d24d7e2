use Rattle.std.proofs.Common.{rules}
use Rattle.cells.proofs.Found.{found_or_blank}
use Rattle.cells.proofs.banks.cell_at.Goals as goal

pub returns-clause-found : goal.returns-clause-found
returns-clause-found g c = let here = found_or_blank (g.B.Bank.cells c.args.bank.now) c.args.at in search rules
