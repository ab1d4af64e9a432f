use Rattle.rational_unify.specs.Indexes.{entries_in}
use Rattle.rational_unify.proofs.Indexing.{AreStandings-set}
use Rattle.rational_unify.proofs.compared.Compared.set_standing.Goals as goal

pub invariant_of-self-2 : goal.invariant_of-self-2
invariant_of-self-2 c = AreStandings-set (entries_in c.self.inside.standings) (entries_in c.note.new.index) c.self.inside.pairs.items (record { node = c.in-Mol.node; frame = c.in-Mol.frame }) c.args.standing c.self.invariant
    (rw c.self.view_is (rw c.in-Mol.is at c.requires)) c.in_ok-note.ensures.noted
