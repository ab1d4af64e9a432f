use Rattle.std.proofs.Common.{◌≡◌, ℕ, List, slice_index, slice_set, sym, ap, subst}
use Rattle.akl_model.specs.Derivations.{raised}
use Rattle.box_tree.specs.declared.drawing.Raised.{Raised}
use Rattle.box_tree.specs.Tables.{TableValue}
use Rattle.box_tree.specs.Numbers.{IsRaised}
use Rattle.box_tree.proofs.Numbers.{own_raised}
use Rattle.box_tree.proofs.table.Table.raise.Goals as goal

pub returns-then-at-len-clause-numbers : goal.returns-then-at-len-clause-numbers
returns-then-at-len-clause-numbers c = λ drawn is w.
    let next : List ℕ = c.args.self.now.next in
    let own : IsRaised next c.args.worker drawn (Raised.Own c.in-Own.number) = subst (IsRaised next c.args.worker drawn) c.in-Own.is is in
    subst (λ (ns : List ℕ). slice_index (slice_set ns c.args.worker c.in-Own.number) w ≡ slice_index (raised c.args.worker drawn next) w) (sym (ap (λ (t : TableValue). t.next) c.self.view_is))
    (own_raised c.args.worker drawn c.in-Own.number next own.0 own.1 w)
