use Rattle.std.proofs.Common.{ap}
use Rattle.std.proofs.lemmas.Result.{IfOk-weaker}
use Rattle.root_answers.proofs.RootModels.{is_model_text}
use Rattle.root_answers.proofs.model.root_model_lines.Goals as goal

pub returns : goal.returns
returns c =
    IfOk-weaker c.model_lines.result _ _
    (λ text f. is_model_text c.args.core.now c.args.name c.shown_of.result.now c.args.model.now c.args.program.now.templates.symbols text.items (ap (λ p. p.templates.symbols) c.requires) c.shown_of.ensures f) c.model_lines.ensures
