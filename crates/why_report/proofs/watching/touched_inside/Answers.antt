use Rattle.std.proofs.lemmas.Result.{IfOk-weaker}
use Rattle.why_report.proofs.AlternativesSeen.{seen_inside, touched_in}
use Rattle.why_report.proofs.watching.touched_inside.Goals as goal

pub reached_inside-requires : goal.reached_inside-requires
reached_inside-requires c = seen_inside c.args.core.now c.args.name c.args.depth c.requires.there c.args.program.now c.requires.program c.in_ok-inside.inside c.in_ok-inside.ensures

pub returns : goal.returns
returns c = IfOk-weaker c.reached_inside.result _ _
    (λ of h. touched_in c.args.core.now c.args.name c.args.depth c.requires.there c.args.program.now c.requires.program c.in_ok-inside.inside c.in_ok-inside.ensures of.items h) c.reached_inside.ensures
