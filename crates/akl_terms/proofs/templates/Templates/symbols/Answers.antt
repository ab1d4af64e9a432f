use Rattle.std.proofs.Common.{subst, ap}
use Rattle.akl_terms.specs.Template.{AreDistinct}
use Rattle.akl_terms.proofs.Numbers.{IsNumbered-distinct}
use Rattle.akl_terms.proofs.templates.Templates.symbols.Goals as goal

pub returns-clause-distinct : goal.returns-clause-distinct
returns-clause-distinct c = subst AreDistinct (ap (λ v. v.symbols) c.self.view_is) (IsNumbered-distinct c.self.inside c.self.invariant)
