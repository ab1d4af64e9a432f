use Rattle.std.proofs.Common.{◌≡◌, Bool, true, false, Option, Result, Ok, Err, OnOk, IfOk, refl, sym, ap, subst, ◌∙◌}
use Rattle.std.specs.Prelude.{◌||◌}
use Rattle.local_store.specs.declared.frame_bindings.FrameBindings.{FrameBindings}
use Rattle.local_store.specs.Kept.{IsAdded}
use Rattle.local_store.proofs.settled.AddedChangeSharedFrameBindings.change.Goals as goal

on_ok : {A E : Type 0} {P Q : Type 0} (r : Result A E) → (P → Q) → IfOk r (λ x. P) → OnOk r Q
on_ok (Ok x) f h = f h
on_ok (Err e) f h = tt

or-false : (b : Bool) → b ≡ (b || false)
or-false true = refl
or-false false = refl

pub returns-in-Some-clause-made : goal.returns-in-Some-clause-made
returns-in-Some-clause-made c = on_ok c.add.result (λ h. record {
  value = c.add.new.self;
  is = refl;
  made = subst (λ (o : Option FrameBindings). IsAdded c.args.self.own c.args.self.bindings.now o c.add.new.self) (sym c.in-Some.is) h;
}) c.add.ensures.added

pub returns-in_ok-new-in-None-clause-made : goal.returns-in_ok-new-in-None-clause-made
returns-in_ok-new-in-None-clause-made c = record {
  value = c.in_ok-new-in-None.field-0;
  is = refl;
  made = subst (λ (o : Option FrameBindings). IsAdded c.args.self.own c.args.self.bindings.now o c.in_ok-new-in-None.field-0) (sym c.in-None.is) (record {
    own_is = ap (λ (f : FrameBindings). f.own) c.in_ok-new-in-None.ensures ∙ c.in_ok-first-in-None.ensures.own ∙ or-false c.args.self.own;
    bindings = ap (λ (f : FrameBindings). f.bindings.items) c.in_ok-new-in-None.ensures ∙ c.in_ok-first-in-None.ensures.bindings;
  });
}
