use Rattle.std.proofs.Common.{◌≡◌, ◌≤◌, length, ap, ◌∙◌, arith}
use Rattle.std.specs.List.{insert}
use Rattle.std.specs.Prelude.{not}
use Rattle.local_store.specs.Stored.{var_before}
use Rattle.local_store.specs.Kept.{binding_place}
use Rattle.local_store.proofs.Places.{front-within, joined-here}
use Rattle.local_store.proofs.listed.put_binding.Goals as goal

pub insert-requires : goal.insert-requires
insert-requires c =
    let within : binding_place c.args.bindings.now.items c.args.variable ≤ length c.args.bindings.now.items = front-within (λ b. not (var_before c.args.variable b.0)) c.args.bindings.now.items in
    let place : c.binding_place-place.result ≡ binding_place c.args.bindings.now.items c.args.variable = c.binding_place-place.ensures ∙ ap (λ l. binding_place l c.args.variable) c.as_slice.ensures in
    omega arith

pub returns : goal.returns
returns c =
    let place : c.binding_place-place.result ≡ binding_place c.args.bindings.now.items c.args.variable = c.binding_place-place.ensures ∙ ap (λ l. binding_place l c.args.variable) c.as_slice.ensures in
    c.in_ok-insert.ensures.ok ∙ ap (λ n. insert c.args.bindings.now.items n (c.args.variable, c.args.term)) place ∙ joined-here c.args.bindings.now.items c.args.variable c.args.term
