use Rattle.std.proofs.Common.{◌≡◌, ◌≤◌, ◌+◌, List, [], ◌∷◌, ◌++◌, length, sym, ap, subst, ◌∙◌, arith}
use Rattle.local_store.specs.Stored.{Stored}
use Rattle.local_store.specs.Chained.{IsKnown}
use Rattle.stable_test.proofs.Further.{known_unbound, known_more, known_fewer}
use Rattle.stable_test.proofs.reaching.known_beyond.Goals as goal

pub returns-then-known-stores : goal.returns-then-known-stores
returns-then-known-stores c = λ nodes further none h.
    let here : c.known-known.result ≡ length c.args.view.now.stores = c.if-known-stores.true ∙ ap (λ (ss : List Stored). length ss) c.stores.ensures in
    let all : c.args.view.now.known ≡ length c.args.view.now.stores = sym c.known-known.ensures ∙ here in
    let few : c.saturating_add.result ≤ length c.args.view.now.stores + 1 = omega (arith, c.saturating_add.ensures, here) in
    known_fewer nodes (c.args.view.now.stores ++ further ∷ []) c.saturating_add.result (length c.args.view.now.stores + 1) few (known_unbound nodes c.args.view.now.stores further none (subst (IsKnown nodes c.args.view.now.stores) all h))

pub returns : goal.returns
returns c = λ nodes further none h. rw c.known-known.ensures (known_more nodes c.args.view.now.stores further c.args.view.now.known h)
