use Rattle.std.proofs.Common.{◌≡◌, ◌∙◌, ap, map, string_bytes}
use Rattle.std.proofs.lemmas.Result.{IfErr-weaker}
use Rattle.clap.specs.Words.{App, takes, app_of}
use Rattle.akl_args.specs.Command.{table}
use Rattle.akl_args.proofs.command.split.Goals as goal

pub returns-clause-memory : goal.returns-clause-memory
returns-clause-memory c =
    let parse = c.try_get_matches_from in
    let is : app_of c.in_ok-table.field-0 ≡ table = c.in_ok-table.ensures in
    IfErr-weaker parse.result _ _ (λ e h. h (ap (λ (a : App). takes a (map string_bytes c.args.words.now)) is ∙ c.requires)) parse.ensures.passes
