use Rattle.std.proofs.lemmas.Result.{IfOk-weaker}
use Rattle.class_members.proofs.Gathered.{listed_end, listed_headed}
use Rattle.class_members.proofs.listing.end_alone.Goals as goal

pub returns-in-Some : goal.returns-in-Some
returns-in-Some g c = IfOk-weaker c.from_slice.result _ _
    (λ list h. listed_end c.args.templates.now.nodes (g.W.Lookup.bindings c.args.whole.now) c.args.variable c.in-Some.end list.items c.in-Some.ensures h)
    c.from_slice.ensures.items

pub returns-in-None : goal.returns-in-None
returns-in-None g c = listed_headed c.args.templates.now.nodes (g.W.Lookup.bindings c.args.whole.now) c.args.variable c.new.result.items c.in-None.ensures c.new.ensures.items
