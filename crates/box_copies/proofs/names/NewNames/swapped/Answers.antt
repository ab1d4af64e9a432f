use Rattle.std.proofs.Common.{sym}
use Rattle.box_copies.proofs.Orders.{keys_increase}
use Rattle.box_copies.proofs.Renamers.{swapping_at}
use Rattle.box_copies.proofs.names.NewNames.swapped.Goals as goal

pub returns-in-Some : goal.returns-in-Some
returns-in-Some c = sym (swapping_at c.args.self.now.old.items c.args.self.now.worker c.args.self.now.next c.in-Some.place c.args.name c.args.self.now.below (keys_increase c.args.self.now.old.items c.args.self.now.increasing) c.in-Some.ensures)
