use Rattle.std.proofs.Common.{◌∙◌}
use Rattle.akl_batch.proofs.Places.{one_yielded}
use Rattle.akl_batch.proofs.Gathered.{gathers_more}
use Rattle.akl_batch.proofs.sharing.gather.Goals as goal

pub loop-part-preserved : goal.loop-part-preserved
loop-part-preserved c =
    let i = c.loop-part.invariant in
    let one = c.in-Some.part in
    record {
      parts = one_yielded c.loop-part.yielded one _ c.args.parts.items c.loop-part.part-iterator i.parts c.in-Some.ensures.steps.0;
      gathers = gathers_more c.loop-part.yielded one c.in_ok-part.field-0 c.args.places.now.items c.loop-part.places.items _ c.in_ok-part.was i.gathers c.place.ensures.puts;
      count = c.place.ensures.count ∙ i.count;
    }
