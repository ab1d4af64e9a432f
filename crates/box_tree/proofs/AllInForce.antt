-- Each rule is in force, and so are those of a call at once.
use Rattle.std.proofs.Common.{refl, inl, inr}
use Rattle.akl_model.specs.declared.label.Rule.{Rule}
use Rattle.akl_model.specs.Derivations.{IsInForce}
use Rattle.plan_laws.specs.AtOnce.{AreInForce}
use Rattle.box_tree.specs.Tables.{all_rules}

pub each_in_force : (r : Rule) → IsInForce all_rules r
each_in_force Rule.Tell = inl refl
each_in_force Rule.Fork = inr (inl refl)
each_in_force Rule.Fail = inr (inr (inl refl))
each_in_force Rule.Cut = inr (inr (inr (inl refl)))
each_in_force Rule.Promote = inr (inr (inr (inr (inl refl))))
each_in_force Rule.Eval = inr (inr (inr (inr (inr (inl refl)))))
each_in_force Rule.Open = inr (inr (inr (inr (inr (inr (inl refl))))))
each_in_force Rule.Send = inr (inr (inr (inr (inr (inr (inr (inl refl)))))))
each_in_force Rule.Split = inr (inr (inr (inr (inr (inr (inr (inr (inl refl))))))))
each_in_force Rule.Collect = inr (inr (inr (inr (inr (inr (inr (inr (inr (inl refl)))))))))

pub all_in_force : AreInForce all_rules
all_in_force = record {
  fork = each_in_force Rule.Fork;
  fail = each_in_force Rule.Fail;
  cut = each_in_force Rule.Cut;
  tell = each_in_force Rule.Tell;
  eval = each_in_force Rule.Eval;
  promote = each_in_force Rule.Promote;
}
