use Rattle.akl_text.proofs.QuotedEnds.{quoted_ok, quoted_not}
use Rattle.akl_text.proofs.quoted.quoted_len.Goals as goal

pub returns-in-Ok-clause-value : goal.returns-in-Ok-clause-value
returns-in-Ok-clause-value c = quoted_ok c.args.text.now c.in_ok-len.len c.in_ok-len.ensures.value c.in-Ok.ensures.cases.1

pub returns-in-Err-clause-value : goal.returns-in-Err-clause-value
returns-in-Err-clause-value c = quoted_not c.args.text.now c.in_ok-len.len c.in_ok-len.ensures.value c.in-Err.ensures.cases.0
