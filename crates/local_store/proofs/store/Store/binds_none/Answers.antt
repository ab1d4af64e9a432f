use Rattle.std.proofs.Common.{sym, ap, ◌∙◌}
use Rattle.std.specs.Option.{option_or}
use Rattle.rational_unify.specs.Known.{found_in}
use Rattle.local_store.specs.Stored.{Stored}
use Rattle.local_store.specs.Kept.{bindings_of}
use Rattle.local_store.proofs.SettledValues.{found-joins}
use Rattle.local_store.proofs.store.Store.binds_none.Goals as goal

pub returns-then-binds_none : goal.returns-then-binds_none
returns-then-binds_none c = λ q x e.
    ap (λ (s : Stored). found_in s.bindings x) (sym c.self.view_is) ∙ found-joins (bindings_of c.self.inside.settled) c.self.inside.bindings.items x c.binds_none.ensures.ordered
    ∙ ap (λ o. option_or o (found_in c.self.inside.bindings.items x)) (c.binds_none.ensures.none c.if-binds_none.true x e)
    ∙ sym (ap (λ l. found_in l x) c.deref.ensures.value) ∙ c.binds_none-then-binds_none.ensures q x e
