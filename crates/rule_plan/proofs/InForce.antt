-- The rules that are planned at goals and boxes are in force.
use Rattle.std.proofs.Common.{refl, inl, inr}
use Rattle.akl_model.specs.declared.label.Rule.{Rule}
use Rattle.akl_model.specs.Derivations.{IsInForce}
use Rattle.box_tree.specs.Tables.{all_rules}

pub tell_in_force : IsInForce all_rules Rule.Tell
tell_in_force = inl refl

pub fail_in_force : IsInForce all_rules Rule.Fail
fail_in_force = inr (inr (inl refl))

pub eval_in_force : IsInForce all_rules Rule.Eval
eval_in_force = inr (inr (inr (inr (inr (inl refl)))))

pub open_in_force : IsInForce all_rules Rule.Open
open_in_force = inr (inr (inr (inr (inr (inr (inl refl))))))

pub send_in_force : IsInForce all_rules Rule.Send
send_in_force = inr (inr (inr (inr (inr (inr (inr (inl refl)))))))
