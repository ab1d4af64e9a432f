use Rattle.std.proofs.Common.{◌≡◌, ◌≤◌, length, sym, ap, ◌∙◌, arith}
use Rattle.std.specs.List.{insert}
use Rattle.std.specs.Prelude.{nat_lt, not}
use Rattle.local_store.specs.Kept.{place_at}
use Rattle.local_store.proofs.Places.{front-within, put-here, put-last}
use Rattle.local_store.proofs.frame_bindings.put.Goals as goal

pub returns-then-place-len : goal.returns-then-place-len
returns-then-place-len c =
    let place : place_at c.args.bindings.now.items c.args.index ≡ length c.args.bindings.now.items =
    ap (λ l. place_at l c.args.index) (sym c.deref.ensures.value) ∙ sym c.place_of-place.ensures ∙ c.if-place-len.true ∙ c.len.ensures ∙ c.args.bindings.now.ok.0 in
    c.in_ok-push.ensures.items ∙ put-last c.args.bindings.now.items c.args.index c.args.term place

pub insert-requires : goal.insert-requires
insert-requires c =
    let within : place_at c.args.bindings.now.items c.args.index ≤ length c.args.bindings.now.items = front-within (λ b. not (nat_lt c.args.index b.0)) c.args.bindings.now.items in
    let place : c.place_of-place.result ≡ place_at c.args.bindings.now.items c.args.index = c.place_of-place.ensures ∙ ap (λ l. place_at l c.args.index) c.deref.ensures.value in
    let ok = c.args.bindings.now.ok in
    omega arith

pub returns : goal.returns
returns c =
    let place : c.place_of-place.result ≡ place_at c.args.bindings.now.items c.args.index = c.place_of-place.ensures ∙ ap (λ l. place_at l c.args.index) c.deref.ensures.value in
    c.in_ok-insert.ensures.items ∙ ap (λ n. insert c.args.bindings.now.items n (c.args.index, c.args.term)) place ∙ put-here c.args.bindings.now.items c.args.index c.args.term
