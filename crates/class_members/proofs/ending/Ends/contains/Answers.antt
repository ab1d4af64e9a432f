use Rattle.std.proofs.Common.{◌≡◌, List, ap, ◌∙◌, take}
use Rattle.std.specs.List.{list_any}
use Rattle.akl_terms.specs.declared.name.Var.{Var}
use Rattle.akl_terms.specs.Names.{same_var}
use Rattle.class_members.specs.Listed.{has}
use Rattle.class_members.specs.declared.ending.TheConstants.{FEW}
use Rattle.class_members.proofs.Gathered.{backward, has_is, has_first, has_later}
use Rattle.class_members.proofs.ending.Ends.contains.Goals as goal

pub returns-then-len-le-FEW : goal.returns-then-len-le-FEW
returns-then-len-le-FEW c = rw (← c.self.view_is) (has_is c.self.inside.list.items c.args.end c.contains.result
    (c.contains.ensures.value ∙ ap (λ (l : List Var). list_any (λ y. same_var y c.args.end) l) c.deref.ensures.value ∙ backward c.self.inside.list.items c.args.end))

pub returns-then-contains : goal.returns-then-contains
returns-then-contains c =
    let first : c.contains-2.result ≡ has (take FEW c.self.inside.list.items) c.args.end =
    c.contains-2.ensures.value ∙ ap (λ (l : List Var). list_any (λ y. same_var y c.args.end) (take FEW l)) c.deref-2.ensures.value ∙ backward (take FEW c.self.inside.list.items) c.args.end in
    rw (← c.self.view_is) (has_is c.self.inside.list.items c.args.end c.contains-2.result
    (has_first FEW c.self.inside.rest.keys c.self.inside.list.items c.self.invariant c.args.end c.contains-2.result first c.if-contains.true))

pub returns-else-contains : goal.returns-else-contains
returns-else-contains c =
    let first : c.contains-2.result ≡ has (take FEW c.self.inside.list.items) c.args.end =
    c.contains-2.ensures.value ∙ ap (λ (l : List Var). list_any (λ y. same_var y c.args.end) (take FEW l)) c.deref-2.ensures.value ∙ backward (take FEW c.self.inside.list.items) c.args.end in
    rw (← c.self.view_is) (has_is c.self.inside.list.items c.args.end c.contains-else-contains.result
    (has_later FEW c.self.inside.rest.keys c.self.inside.list.items c.self.invariant c.args.end c.contains-2.result c.contains-else-contains.result first c.if-contains.false c.contains-else-contains.ensures))
