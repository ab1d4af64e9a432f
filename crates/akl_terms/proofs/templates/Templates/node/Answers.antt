use Rattle.std.proofs.Common.{subst, ap, sym, length}
use Rattle.std.proofs.lemmas.Option.{slice_get_read}
use Rattle.akl_terms.specs.Template.{MayStandAt}
use Rattle.akl_terms.proofs.Numbers.{IsNumbered-stands}
use Rattle.akl_terms.proofs.templates.Templates.node.Goals as goal

pub returns-clause-stands : goal.returns-clause-stands
returns-clause-stands c = subst (λ v. MayStandAt v c.args.at c.index.result.now) c.self.view_is
    (IsNumbered-stands c.self.inside c.self.invariant c.args.at c.index.result.now
    (slice_get_read c.self.inside.nodes.items (length c.args.self.now.nodes) c.args.at c.index.result.now (ap (λ v. length v.nodes) (sym c.self.view_is)) c.requires c.index.ensures))
