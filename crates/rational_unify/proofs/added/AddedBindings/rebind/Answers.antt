use Rattle.std.proofs.Common.{◌≡◌, Some, sym, ◌∙◌, ap, arith, set, length-set}
use Rattle.std.proofs.lemmas.Option.{slice_get_within}
use Rattle.rational_unify.specs.Indexes.{place_in, entries_in}
use Rattle.rational_unify.specs.declared.added.TheConstants.{FEW}
use Rattle.rational_unify.proofs.Indexing.{place_in-found, place_in-none, rebinds-set, rebinds-nothing, IsIndex-set}
use Rattle.rational_unify.proofs.Taking.{refill-whole}
use Rattle.rational_unify.proofs.added.AddedBindings.rebind.Goals as goal

pub bounds-deref_mut-place : goal.bounds-deref_mut-place
bounds-deref_mut-place c =
    let p : place_in c.self.inside.list.items c.args.variable ≡ Some c.in-Some.place = ap (λ l. place_in l c.args.variable) c.self.view_is ∙ sym c.in-Some.ensures in
    let w = place_in-found c.self.inside.list.items c.args.variable c.in-Some.place p in
    rw c.deref_mut.ensures.value (slice_get_within c.self.inside.list.items c.in-Some.place w.0 w.1)

pub offset_bounds-deref_mut-place : goal.offset_bounds-deref_mut-place
offset_bounds-deref_mut-place c = let within = bounds-deref_mut-place c in omega (arith, c.deref_mut.type_inv)

pub invariant_of-self : goal.invariant_of-self
invariant_of-self c = rw (c.deref_mut.ensures.value, refill-whole c.self.inside.list.items (set c.self.inside.list.items c.in-Some.place (c.args.variable, c.args.term)) (length-set _ _ _))
    (IsIndex-set FEW (entries_in c.self.inside.places) c.self.inside.list.items c.args.variable c.in-Some.place c.args.term c.self.invariant
    (ap (λ l. place_in l c.args.variable) c.self.view_is ∙ sym c.in-Some.ensures))

pub returns-in-Some : goal.returns-in-Some
returns-in-Some c = rw (c.deref_mut.ensures.value, refill-whole c.self.inside.list.items (set c.self.inside.list.items c.in-Some.place (c.args.variable, c.args.term)) (length-set _ _ _), ← c.self.view_is)
    (rebinds-set c.self.inside.list.items c.args.variable c.in-Some.place c.args.term
    (ap (λ l. place_in l c.args.variable) c.self.view_is ∙ sym c.in-Some.ensures))

pub returns-in_default : goal.returns-in_default
returns-in_default c = rebinds-nothing c.args.self.now c.args.variable c.args.term (place_in-none c.args.self.now c.args.variable (sym c.in_default.ensures))
