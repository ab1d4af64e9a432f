use Rattle.std.proofs.Common.{◌∙◌, ap, List, ℕ}
use Rattle.clap.specs.Words.{found_of, first_of, rows_of}
use Rattle.clap.proofs.WalkLemmas.{first_value-rows}
use Rattle.akl_args.proofs.asked.text_in.Goals as goal

pub returns : goal.returns
returns c =
    let found = found_of c.args.matches.now in
    c.get_str.ensures ∙ first_value-rows found c.id.result.now ∙ ap (λ (id : List ℕ). first_of id (rows_of found)) c.id.ensures
