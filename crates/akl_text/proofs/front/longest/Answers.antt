use Rattle.akl_text.proofs.SoFar.{longest_found, longest_within, longest_none}
use Rattle.akl_text.proofs.front.longest.Goals as goal

pub returns-clause-found : goal.returns-clause-found
returns-clause-found c = longest_found c.args.before c.args.at c.args.text.now c.front.result c.requires c.front.ensures

pub returns-clause-within : goal.returns-clause-within
returns-clause-within c = longest_within c.args.before c.args.at c.args.text.now c.front.result c.requires c.front.ensures

pub returns-clause-none : goal.returns-clause-none
returns-clause-none c = longest_none c.args.before c.args.at c.args.text.now c.front.result c.front.ensures
