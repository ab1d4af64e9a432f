use Rattle.akl_text.proofs.LayoutFound.{layout_len_found, layout_len_within, layout_len_none}
use Rattle.akl_text.proofs.layout.layout_len.Goals as goal

pub returns-clause-found : goal.returns-clause-found
returns-clause-found c = layout_len_found c.args.text.now c.layout_at.result c.requires c.layout_at.ensures

pub returns-clause-within : goal.returns-clause-within
returns-clause-within c = layout_len_within c.args.text.now c.layout_at.result c.requires c.layout_at.ensures

pub returns-clause-none : goal.returns-clause-none
returns-clause-none c = layout_len_none c.args.text.now c.layout_at.result c.layout_at.ensures
