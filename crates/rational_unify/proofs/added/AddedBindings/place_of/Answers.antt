use Rattle.std.proofs.Common.{List, sym, ◌∙◌, ap, take}
use Rattle.std.specs.List.{position}
use Rattle.akl_terms.specs.declared.name.Var.{Var}
use Rattle.akl_terms.specs.declared.term.Term.{Term}
use Rattle.akl_terms.specs.Names.{same_var}
use Rattle.std.specs.Map.{lookup}
use Rattle.rational_unify.specs.Indexes.{entries_in}
use Rattle.rational_unify.specs.declared.added.TheConstants.{FEW}
use Rattle.rational_unify.proofs.Indexing.{place_in-position, place_in-take, place_in-drop}
use Rattle.rational_unify.proofs.added.AddedBindings.place_of.Goals as goal

pub returns-then-list-le-FEW : goal.returns-then-list-le-FEW
returns-then-list-le-FEW c = rw (← c.self.view_is) (c.place_among.ensures ∙ ap (λ (l : List (Var × Term)). position (λ b. same_var b.0 c.args.variable) l) c.as_slice-list.ensures
    ∙ sym (place_in-position c.self.inside.list.items c.args.variable))

pub returns-in-Some : goal.returns-in-Some
returns-in-Some c = rw (← c.self.view_is) (sym (place_in-take FEW c.self.inside.list.items c.args.variable c.in-Some.place
    (place_in-position (take FEW c.self.inside.list.items) c.args.variable
    ∙ ap (λ (l : List (Var × Term)). position (λ b. same_var b.0 c.args.variable) (take FEW l)) (sym c.as_slice-list.ensures) ∙ sym c.place_among-2.ensures ∙ c.in-Some.is)))

pub returns-in-Some-places : goal.returns-in-Some-places
returns-in-Some-places c = rw (← c.self.view_is) (c.copied.ensures ∙ c.get.ensures.value ∙ ap (λ o. lookup (same_var c.args.variable) (entries_in o)) (sym c.in-Some-places.is) ∙ c.self.invariant.each c.args.variable
    ∙ sym (place_in-drop FEW c.self.inside.list.items c.args.variable (place_in-position (take FEW c.self.inside.list.items) c.args.variable
    ∙ ap (λ (l : List (Var × Term)). position (λ b. same_var b.0 c.args.variable) (take FEW l)) (sym c.as_slice-list.ensures) ∙ sym c.place_among-2.ensures ∙ c.in-None.is)))

pub returns-in-None-places : goal.returns-in-None-places
returns-in-None-places c = rw (← c.self.view_is) (ap (λ o. lookup (same_var c.args.variable) (entries_in o)) (sym c.in-None-places.is) ∙ c.self.invariant.each c.args.variable
    ∙ sym (place_in-drop FEW c.self.inside.list.items c.args.variable (place_in-position (take FEW c.self.inside.list.items) c.args.variable
    ∙ ap (λ (l : List (Var × Term)). position (λ b. same_var b.0 c.args.variable) (take FEW l)) (sym c.as_slice-list.ensures) ∙ sym c.place_among-2.ensures ∙ c.in-None.is)))
