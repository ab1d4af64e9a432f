use Rattle.std.proofs.Common.{◌≡◌, ◌∙◌, sym, subst, List, ℕ, arith}
use Rattle.akl_terms.specs.declared.name.Place.{Place}
use Rattle.akl_terms.specs.declared.term.Node.{Node}
use Rattle.box_copies.specs.Swaps.{AreBelow}
use Rattle.box_copies.specs.Made.{kept, AreCopies}
use Rattle.box_copies.proofs.Orders.{keys_increase}
use Rattle.box_copies.proofs.Making.{names_below, inside_of}
use Rattle.box_copies.proofs.Planned.{is_split}
use Rattle.box_copies.proofs.copying.copies_of.Goals as goal

pub new-requires-clause-below : goal.new-requires-clause-below
new-requires-clause-below c =
    let is_box : c.args.view.now.place ≡ Place.Box c.in-Box.name = sym c.place.ensures.place ∙ c.in-Box.is in
    let below : AreBelow c.in_ok-old.old.items c.args.view.now.worker c.args.view.now.next =
    names_below c.args.view.now c.place.ensures.seen c.args.boxes.now c.in-Box.name c.args.alternative (inside_of c.args.view.now c.args.boxes.now c.requires.boxes c.in-Box.name is_box) c.in_ok-old.old.items
    c.in_ok-old.ensures.all in
    subst (λ (w : ℕ). AreBelow c.in_ok-old.old.items w c.next.result) (sym c.worker.ensures) (subst (λ (k : ℕ). AreBelow c.in_ok-old.old.items c.args.view.now.worker k) (sym c.next.ensures) below)

pub returns : goal.returns
returns c =
    let is_box : c.args.view.now.place ≡ Place.Box c.in-Box.name = sym c.place.ensures.place ∙ c.in-Box.is in
    let copies : AreCopies c.in_ok-names.names c.args.view.now.table.program.templates.nodes c.in-Box.name c.args.alternative (kept c.args.alternative c.args.boxes.now) c.in_ok-copies.copies.items =
    subst (λ (nodes : List Node). AreCopies c.in_ok-names.names nodes c.in-Box.name c.args.alternative (kept c.args.alternative c.args.boxes.now) c.in_ok-copies.copies.items) c.requires.templates c.in_ok-copies.ensures in
    is_split c.args.view.now c.place.ensures.seen c.args.boxes.now c.in-Box.name c.args.alternative (inside_of c.args.view.now c.args.boxes.now c.requires.boxes c.in-Box.name is_box) is_box c.in_ok-old.old.items
    (keys_increase c.in_ok-old.old.items c.in_ok-old.ensures.increasing) c.in_ok-old.ensures.all
    c.in_ok-names.names c.in_ok-names.ensures.0 (c.in_ok-names.ensures.1 ∙ c.worker.ensures) (c.in_ok-names.ensures.2 ∙ c.next.ensures) _ copies.older copies.copied.1 copies.copied.0
    (omega (arith, c.len-count.ensures, c.in_ok-old.old.ok)) c.swapped.ensures
