use Rattle.std.proofs.Common.{◌≡◌, List, [], Some, None, sym, ap, ◌∙◌, subst}
use Rattle.std.specs.List.{IsDistinct}
use Rattle.akl_terms.specs.Names.{same_var}
use Rattle.std.specs.Global.{Vec}
use Rattle.std.specs.Prelude.{◌&&◌, not}
use Rattle.akl_terms.specs.declared.name.Var.{Var}
use Rattle.akl_terms.specs.declared.name.Place.{Place}
use Rattle.wake_lists.specs.Waits.{same_place, waits_on, is_variable_in}
use Rattle.wake_lists.specs.KeptWaits.{lists}
use Rattle.wake_lists.proofs.WaitsKept.{PartedBy}
use Rattle.wake_lists.proofs.Both.{dropped, dropped_both, listed_so, once_kept, none_kept, none_out}
use Rattle.wake_lists.proofs.EachOnce.{none_once}
use Rattle.wake_lists.proofs.waits.Waits.drop_place.Goals as goal

pub invariant_of-self : goal.invariant_of-self
invariant_of-self c =
    let parted = subst (λ (ys : List Var). PartedBy c.args.place ys c.self.inside.by_variable c.remove_all.new.self ys) c.as_slice.ensures.value c.remove_all.ensures in
    record {
      both = dropped_both c.args.place c.in-Some.variables.items c.self.inside.by_variable c.self.inside.by_place c.self.invariant.both c.remove_all.new.self c.remove.new.self c.in-Some.variables
          (sym c.remove.ensures.was ∙ c.in-Some.is) parted c.remove.ensures.gone;
      once = once_kept c.args.place c.self.inside.by_place c.remove.new.self None c.self.invariant.once (λ xs e. absurd (no_list xs e)) c.remove.ensures.gone;
    }
  where
    no_list : (xs : Vec Var) → None ≡ Some xs → ⊥
    no_list xs e = cc

pub returns-in-Some-clause-dropped : goal.returns-in-Some-clause-dropped
returns-in-Some-clause-dropped c =
    let parted = subst (λ (ys : List Var). PartedBy c.args.place ys c.self.inside.by_variable c.remove_all.new.self ys) c.as_slice.ensures.value c.remove_all.ensures in
    λ p x.
    dropped c.args.place c.in-Some.variables.items c.self.inside.by_variable c.self.inside.by_place c.self.invariant.both c.remove_all.new.self c.remove.new.self c.in-Some.variables
    (sym c.remove.ensures.was ∙ c.in-Some.is) parted c.remove.ensures.gone p x
    ∙ ap (λ (ws : List (Var × List Place)). waits_on ws p x && not (same_place p c.args.place)) c.self.view_is

pub returns-in-Some-clause-variables : goal.returns-in-Some-clause-variables
returns-in-Some-clause-variables c =
    λ x.
    listed_so c.args.place c.in-Some.variables.items c.self.inside.by_variable c.self.inside.by_place c.self.invariant.both c.in-Some.variables (sym c.remove.ensures.was ∙ c.in-Some.is) x
    ∙ ap (λ (ws : List (Var × List Place)). waits_on ws c.args.place x) c.self.view_is

pub returns-in-Some-clause-once : goal.returns-in-Some-clause-once
returns-in-Some-clause-once c = c.self.invariant.once c.args.place c.in-Some.variables (sym c.remove.ensures.was ∙ c.in-Some.is)

pub returns-in-None-clause-once : goal.returns-in-None-clause-once
returns-in-None-clause-once c = subst (λ (xs : List Var). IsDistinct same_var xs) (sym c.new.ensures.items) none_once

pub invariant_of-self-in-None : goal.invariant_of-self-in-None
invariant_of-self-in-None c =
    let same = none_out c.args.place c.self.inside.by_place c.remove.new.self (sym c.remove.ensures.was ∙ c.in-None.is) c.remove.ensures.gone in
    record {
      both = λ p x. c.self.invariant.both p x ∙ ap (lists x) (sym (same p));
      once = λ p xs e. c.self.invariant.once p xs (sym (same p) ∙ e);
    }

pub returns-in-None-clause-dropped : goal.returns-in-None-clause-dropped
returns-in-None-clause-dropped c = λ p x.
    none_kept c.args.place [] c.self.inside.by_variable c.self.inside.by_place c.self.invariant.both (sym c.remove.ensures.was ∙ c.in-None.is) p x
    ∙ ap (λ (ws : List (Var × List Place)). waits_on ws p x && not (same_place p c.args.place)) c.self.view_is

pub returns-in-None-clause-variables : goal.returns-in-None-clause-variables
returns-in-None-clause-variables c = λ x.
    ap (is_variable_in x) c.new.ensures.items ∙ sym (c.self.invariant.both c.args.place x ∙ ap (lists x) (sym c.remove.ensures.was ∙ c.in-None.is))
    ∙ ap (λ (ws : List (Var × List Place)). waits_on ws c.args.place x) c.self.view_is
