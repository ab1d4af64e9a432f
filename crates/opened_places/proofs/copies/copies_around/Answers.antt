use Rattle.std.proofs.Common.{◌≡◌, Option, None, sym, subst}
use Rattle.akl_terms.specs.declared.name.Name.{Name}
use Rattle.opened_places.specs.Copies.{IsWithin}
use Rattle.opened_places.proofs.CopyHomes.{LeadsOut, found_home, leads_on, leads_end}
use Rattle.opened_places.proofs.copies.copies_around.Goals as goal

pub loop-at-preserved : goal.loop-at-preserved
loop-at-preserved c =
    subst (LeadsOut c.args.homes.now.entries c.args.holder c.in-Some-get.home.now.holder) (sym c.in_ok-push.ensures.items)
    (leads_on c.args.homes.now.entries c.args.holder c.in-Some.goal c.in-Some-get.home.now c.loop-at.names.items (found_home c.in-Some.goal c.args.homes.now c.in-Some-get.home.now c.in-Some-get.ensures.value)
    (subst (λ (o : Option Name). LeadsOut c.args.homes.now.entries c.args.holder o c.loop-at.names.items) c.in-Some.is c.loop-at.invariant))

pub returns : goal.returns
returns c = λ copies are.
    let end : c.loop-at.at ≡ None = search in
    subst (IsWithin copies c.args.holder) (sym c.reverse.ensures.items)
    (leads_end c.args.homes.now.entries c.args.holder c.loop-at.names.items (subst (λ (o : Option Name). LeadsOut c.args.homes.now.entries c.args.holder o c.loop-at.names.items) end c.loop-at.invariant) copies are)
