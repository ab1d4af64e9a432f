use Rattle.why_report.proofs.GoalsFound.{gone_waits}
use Rattle.why_report.proofs.waiting.waiting_of.Goals as goal
use Rattle.why_report.proofs.waiting.waiting_of.Goals.{in-Ok+in_ok-on-in-Ok, in-Err-Gone}

pub returns-clause-on : goal.returns-clause-on
returns-clause-on c = elim c.match-look.branch [
  | in-Ok+in_ok-on-in-Ok w ↦ rw w.on-is w.in_ok-on-in-Ok.ensures
  | in-Err-Gone w ↦ let gone = rw w.in-Err-Gone.field-0-is at w.in-Err-Gone.ensures.unseen in rw w.on-is (gone_waits c.args.core.now c.args.goal gone w.new-on.result.items)
]
