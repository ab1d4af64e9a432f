use Rattle.std.proofs.Common.{◌≡◌, sym, subst, ap, Some, slice_get}
use Rattle.akl_terms.specs.Template.{AreDistinct}
use Rattle.akl_terms.proofs.Numbers.{absent_text, IsNumbered-distinct}
use Rattle.akl_terms.proofs.templates.Templates.number_of.Goals as goal

pub returns-in-Some-clause-found : goal.returns-in-Some-clause-found
returns-in-Some-clause-found c =
    let at : slice_get c.self.inside.symbols.items c.in-Some.number.now ≡ Some c.args.text.now = c.self.invariant.place c.args.text.now c.in-Some.number.now (sym c.in-Some.ensures.value) in
    subst (λ v. slice_get v.symbols c.in-Some.number.now ≡ Some c.args.text.now) c.self.view_is at

pub returns-in-None-clause-absent : goal.returns-in-None-clause-absent
returns-in-None-clause-absent c = record { absent = λ n e. absent_text c.self.inside c.self.invariant c.args.text.now (sym c.in-None.ensures.value) n (subst (λ v. slice_get v.symbols n ≡ Some c.args.text.now) (sym c.self.view_is) e) }

pub returns-in-Some-clause-distinct : goal.returns-in-Some-clause-distinct
returns-in-Some-clause-distinct c = subst AreDistinct (ap (λ v. v.symbols) c.self.view_is) (IsNumbered-distinct c.self.inside c.self.invariant)

pub returns-in-None-clause-distinct : goal.returns-in-None-clause-distinct
returns-in-None-clause-distinct c = subst AreDistinct (ap (λ v. v.symbols) c.self.view_is) (IsNumbered-distinct c.self.inside c.self.invariant)
