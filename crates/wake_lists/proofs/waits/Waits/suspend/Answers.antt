use Rattle.std.proofs.Common.{◌≡◌, true, false, List, Some, sym, ap, ◌∙◌, subst}
use Rattle.std.specs.Global.{Vec}
use Rattle.std.specs.List.{IsDistinct}
use Rattle.akl_terms.specs.Names.{same_var}
use Rattle.akl_terms.specs.declared.name.Var.{Var}
use Rattle.akl_terms.specs.declared.name.Place.{Place}
use Rattle.std.specs.Result.{OnErr, is_err}
use Rattle.std.specs.declared.result.Result.{Result}
use Rattle.std.specs.declared.result.Result.TheVariants.{Ok, Err}
use Rattle.wake_lists.specs.Waits.{waits_on}
use Rattle.wake_lists.specs.KeptWaits.{AreKeptBoth}
use Rattle.wake_lists.proofs.WaitsKept.{on_not_err}
use Rattle.wake_lists.proofs.Both.{kept_both, others_of, undone, once_kept}
use Rattle.wake_lists.proofs.waits.Waits.suspend.Goals as goal

pub returns-then-is_err-clause-unchanged : goal.returns-then-is_err-clause-unchanged
returns-then-is_err-clause-unchanged c =
    let none = subst (λ (ws : List (Var × List Place)). (x : Var) → waits_on ws c.args.place x ≡ false) (sym c.self.view_is) c.requires in
    λ p x.
    undone c.args.place c.args.on.now c.self.inside.by_variable c.self.inside.by_place c.self.invariant.both none c.add_all.new.self c.remove_all-then-is_err.new.self
    (others_of c.args.place c.args.on.now c.self.inside.by_variable c.self.inside.by_place c.self.invariant.both c.add_all.new.self c.in_default.ensures.added) c.remove_all-then-is_err.ensures p x
    ∙ ap (λ (ws : List (Var × List Place)). waits_on ws p x) c.self.view_is

pub invariant_of-self-else-is_err : goal.invariant_of-self-else-is_err
invariant_of-self-else-is_err c =
    let none = subst (λ (ws : List (Var × List Place)). (x : Var) → waits_on ws c.args.place x ≡ false) (sym c.self.view_is) c.requires in
    let put = on_not_err c.insert.result c.insert.ensures.put (sym c.is_err.ensures.value ∙ c.if-is_err.false) in
    record {
      both = kept_both c.args.place c.args.on.now c.self.inside.by_variable c.self.inside.by_place c.self.invariant.both none c.add_all.new.self c.in_default.ensures.added c.insert.new.self c.in_ok-variables.variables
          c.in_ok-variables.ensures.same put;
      once = once_kept c.args.place c.self.inside.by_place c.insert.new.self (Some c.in_ok-variables.variables) c.self.invariant.once
          (λ xs e. subst (λ (v : Vec Var). IsDistinct same_var v.items) (some_is c.in_ok-variables.variables xs e) c.in_ok-variables.ensures.once) put;
    }
  where
    some_is : {A : Type 0} (x y : A) → Some x ≡ Some y → x ≡ y
    some_is x y e = cc

on_is_err : {T E P : Type 0} (r : Result T E) → OnErr r P → is_err r ≡ true → P
on_is_err (Ok x) p e = absurd (cc)
on_is_err (Err y) p e = p

pub invariant_of-self-then-is_err : goal.invariant_of-self-then-is_err
invariant_of-self-then-is_err c =
    let none = subst (λ (ws : List (Var × List Place)). (x : Var) → waits_on ws c.args.place x ≡ false) (sym c.self.view_is) c.requires in
    subst (AreKeptBoth c.remove_all-then-is_err.new.self) (sym (on_is_err c.insert.result c.insert.ensures.unchanged (sym c.is_err.ensures.value ∙ c.if-is_err.true))) (record {
      both = λ p x.
          undone c.args.place c.args.on.now c.self.inside.by_variable c.self.inside.by_place c.self.invariant.both none c.add_all.new.self c.remove_all-then-is_err.new.self
          (others_of c.args.place c.args.on.now c.self.inside.by_variable c.self.inside.by_place c.self.invariant.both c.add_all.new.self c.in_default.ensures.added) c.remove_all-then-is_err.ensures p x
          ∙ c.self.invariant.both p x;
      once = c.self.invariant.once;
    })
