use Rattle.std.proofs.Common.{◌∙◌, List, Option, ap, subst}
use Rattle.std.proofs.lemmas.List.{length-set}
use Rattle.std.proofs.Math.ListN.{set}
use Rattle.akl_batch.specs.declared.sharing.Answered.{Answered}
use Rattle.akl_batch.specs.declared.reply.Answer.{Answer}
use Rattle.akl_batch.specs.Steps.{PutsInto}
use Rattle.akl_batch.proofs.Places.{one_yielded, all_yielded}
use Rattle.akl_batch.proofs.Gathered.{puts_more}
use Rattle.akl_batch.proofs.sharing.place.Goals as goal

pub loop-answered-preserved : goal.loop-answered-preserved
loop-answered-preserved c =
    let i = c.loop-answered.invariant in
    let one = c.in-Some.answered in
    let was = c.loop-answered.places.items in
    record {
      part = one_yielded c.loop-answered.yielded one _ c.args.part.items c.loop-answered.answered-iterator i.part c.in-Some.ensures.steps.0;
      puts = puts_more c.loop-answered.yielded one c.args.places.now.items was _ i.puts (ap (λ (p : Option Answer). set was one.at p) c.fill.ensures);
      count = length-set was one.at _ ∙ i.count;
    }

pub returns-clause-puts : goal.returns-clause-puts
returns-clause-puts c =
    subst (λ (xs : List Answered). PutsInto xs c.args.places.now.items c.loop-answered.places.items)
    (all_yielded c.loop-answered.yielded c.args.part.items c.loop-answered.answered-iterator c.loop-answered.invariant.part c.in-None.ensures.steps.0)
    c.loop-answered.invariant.puts
