use Rattle.std.proofs.lemmas.Result.{IfOk-weaker}
use Rattle.entail_test.proofs.Alone.{alone-headed, alone-quiet, alone-noisy}
use Rattle.entail_test.proofs.reading.touched_alone.Goals as goal

pub returns-in_default : goal.returns-in_default
returns-in_default g c = alone-headed c.args.templates.now.nodes (g.K.Lookup.bindings c.args.known.now) (g.W.Lookup.bindings c.args.whole.now) c.args.member c.new.result.items c.in_default.ensures c.new.ensures.items

pub returns-in-Some-variable_end : goal.returns-in-Some-variable_end
returns-in-Some-variable_end g c = alone-quiet c.args.templates.now.nodes (g.K.Lookup.bindings c.args.known.now) (g.W.Lookup.bindings c.args.whole.now) c.args.member
    c.in-Some.field-0 c.in-Some-variable_end.field-0 c.new-in-Some-variable_end.result.items c.in-Some.ensures c.in-Some-variable_end.ensures c.new-in-Some-variable_end.ensures.items

pub returns-in-None : goal.returns-in-None
returns-in-None g c = IfOk-weaker c.from_slice.result _ _
    (λ on h. alone-noisy c.args.templates.now.nodes (g.K.Lookup.bindings c.args.known.now) (g.W.Lookup.bindings c.args.whole.now) c.args.member c.in-Some.field-0 on.items c.in-Some.ensures c.in-None.ensures h)
    c.from_slice.ensures.items
