use Rattle.std.proofs.Common.{◌≡◌, List, subst}
use Rattle.std.specs.Prelude.{filter, map}
use Rattle.std.proofs.lemmas.Result.{IfOk-weaker}
use Rattle.entail_test.specs.declared.reading.Class.{Class}
use Rattle.entail_test.specs.Classes.{is_noisy}
use Rattle.entail_test.proofs.reading.touched_among.Goals as goal

pub returns : goal.returns
returns g c = IfOk-weaker c.noisy_among.result _ _
    (λ on h. (
      c.in_ok-classes.classes.items,
      c.in_ok-classes.ensures,
      subst (λ (cs : List Class). on.items ≡ map (λ (x : Class). x.member) (filter (λ (x : Class). is_noisy cs x) cs)) c.as_slice.ensures.value h,
    )) c.noisy_among.ensures
