use Rattle.std.proofs.Common.{sym, ap, ◌∙◌}
use Rattle.std.specs.Option.{option_copied}
use Rattle.std.specs.Map.{lookup}
use Rattle.akl_terms.specs.Names.{same_name}
use Rattle.rational_unify.specs.Known.{found_in}
use Rattle.local_store.specs.Kept.{bindings_at, bindings_of, found_at}
use Rattle.local_store.proofs.SettledValues.{found-settled}
use Rattle.local_store.proofs.settled.Settled.binds_none.Goals as goal

pub returns-in-None-clause-none : goal.returns-in-None-clause-none
returns-in-None-clause-none c = λ q x e.
    ap (λ es. found_in (bindings_of es) x) (sym c.self.view_is) ∙ found-settled c.self.inside.frames x c.self.invariant.ordered
    ∙ ap (λ n. found_at (bindings_at (lookup (same_name n) c.self.inside.frames)) x.index) e ∙ sym (ap (λ o. found_at (bindings_at o) x.index) c.get.ensures)
    ∙ ap (λ o. found_at (bindings_at (option_copied o)) x.index) c.in-None.is
