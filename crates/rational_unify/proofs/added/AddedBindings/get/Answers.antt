use Rattle.std.proofs.Common.{◌≡◌, Some, ap, sym, ◌∙◌, arith}
use Rattle.std.proofs.lemmas.Option.{slice_get_within, get_or_from_slice_get}
use Rattle.rational_unify.specs.Known.{found_in}
use Rattle.rational_unify.specs.Indexes.{place_in}
use Rattle.rational_unify.proofs.Indexing.{place_in-found, place_in-none}
use Rattle.rational_unify.proofs.Taking.{past}
use Rattle.rational_unify.proofs.added.AddedBindings.get.Goals as goal

pub returns-then-list-le-FEW : goal.returns-then-list-le-FEW
returns-then-list-le-FEW c = c.found.ensures ∙ ap (λ l. found_in l c.args.variable) (c.as_slice-list.ensures ∙ c.self.view_is)

pub bounds-list-place : goal.bounds-list-place
bounds-list-place c =
    let p : place_in c.self.inside.list.items c.args.variable ≡ Some c.in-Some.place = ap (λ l. place_in l c.args.variable) c.self.view_is ∙ sym c.in-Some.ensures in
    let w = place_in-found c.self.inside.list.items c.args.variable c.in-Some.place p in
    rw c.as_slice-list.ensures (slice_get_within c.self.inside.list.items c.in-Some.place w.0 w.1)

pub offset_bounds-list-place : goal.offset_bounds-list-place
offset_bounds-list-place c = let within = bounds-list-place c in omega (arith, c.as_slice-list.type_inv)

pub returns-in-Some : goal.returns-in-Some
returns-in-Some c =
    let p : place_in c.self.inside.list.items c.args.variable ≡ Some c.in-Some.place = ap (λ l. place_in l c.args.variable) c.self.view_is ∙ sym c.in-Some.ensures in
    let w = place_in-found c.self.inside.list.items c.args.variable c.in-Some.place p in
    rw c.as_slice-list.ensures (ap (λ b. Some b.1) (get_or_from_slice_get c.self.inside.list.items c.in-Some.place w.0 past w.1) ∙ sym w.2 ∙ ap (λ l. found_in l c.args.variable) c.self.view_is)

pub returns-in-None : goal.returns-in-None
returns-in-None c = sym (place_in-none c.args.self.now c.args.variable (sym c.in-None.ensures))
