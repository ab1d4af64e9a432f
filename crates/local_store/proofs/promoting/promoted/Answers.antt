use Rattle.std.proofs.Common.{◌≡◌, sym, ◌∙◌, ap, arith}
use Rattle.local_store.specs.Stored.{Stored}
use Rattle.local_store.specs.Chained.{innermost, around}
use Rattle.local_store.specs.Parts.{with_part, told_over}
use Rattle.local_store.specs.Promoting.{named_too}
use Rattle.local_store.proofs.Joining.{innermost-index, promotes-chain}
use Rattle.local_store.proofs.PartsJoined.{names-part}
use Rattle.local_store.proofs.promoting.promoted.Goals as goal

pub join_innermost-requires-clause-own : goal.join_innermost-requires-clause-own
join_innermost-requires-clause-own c =
    let own : innermost c.args.chain.now.stores ≡ c.get-own.result.now =
    innermost-index c.args.chain.now.stores c.index-stores-stores.result c.get-own.result.now (omega (arith, c.requires)) (c.get-own.ensures ∙ (rw c.stores-stores.ensures at c.index-stores-stores.is)) in
    c.as_slice.ensures ∙ c.in_ok-bindings.ensures ∙ ap (λ (s : Stored). s.bindings) (sym own)

pub returns-clause-frames : goal.returns-clause-frames
returns-clause-frames c =
    let own : innermost c.args.chain.now.stores ≡ c.get-own.result.now =
    innermost-index c.args.chain.now.stores c.index-stores-stores.result c.get-own.result.now (omega (arith, c.requires)) (c.get-own.ensures ∙ (rw c.stores-stores.ensures at c.index-stores-stores.is)) in
    c.join_innermost.ensures.names.0 ∙ ap (λ p. p.frames.items) c.of-told.ensures.part ∙ c.in_ok-names_of.ensures.frames ∙ ap (λ (s : Stored). s.frames) (sym own)

pub returns-clause-ports : goal.returns-clause-ports
returns-clause-ports c =
    let own : innermost c.args.chain.now.stores ≡ c.get-own.result.now =
    innermost-index c.args.chain.now.stores c.index-stores-stores.result c.get-own.result.now (omega (arith, c.requires)) (c.get-own.ensures ∙ (rw c.stores-stores.ensures at c.index-stores-stores.is)) in
    c.join_innermost.ensures.names.1 ∙ ap (λ p. p.ports.items) c.of-told.ensures.part ∙ c.in_ok-names_of.ensures.ports ∙ ap (λ (s : Stored). s.ports) (sym own)

pub returns-clause-promoted : goal.returns-clause-promoted
returns-clause-promoted c =
    let own : innermost c.args.chain.now.stores ≡ c.get-own.result.now =
    innermost-index c.args.chain.now.stores c.index-stores-stores.result c.get-own.result.now (omega (arith, c.requires)) (c.get-own.ensures ∙ (rw c.stores-stores.ensures at c.index-stores-stores.is)) in
    let list : c.as_slice.result.now ≡ (innermost c.args.chain.now.stores).bindings = c.as_slice.ensures ∙ c.in_ok-bindings.ensures ∙ ap (λ (s : Stored). s.bindings) (sym own) in
    let names : with_part (innermost (around c.args.chain.now.stores)) c.of-told.result.part ≡ named_too (innermost (around c.args.chain.now.stores)) (innermost c.args.chain.now.stores) =
    ap (with_part (innermost (around c.args.chain.now.stores))) c.of-told.ensures.part
    ∙ names-part c.in_ok-names_of.field-0 (innermost (around c.args.chain.now.stores)) (innermost c.args.chain.now.stores) (c.in_ok-names_of.ensures.frames ∙ ap (λ (s : Stored). s.frames) (sym own))
    (c.in_ok-names_of.ensures.ports ∙ ap (λ (s : Stored). s.ports) (sym own)) c.in_ok-names_of.ensures.bindings in
    promotes-chain c.args.chain.now.nodes c.args.chain.now.stores c.args.chain.now.known (told_over (innermost (around c.args.chain.now.stores)) c.join_innermost.new.told) c.requires
    (rw (names, list) at (c.in_ok-join_innermost.ensures.joins (innermost (around c.args.chain.now.stores))))
