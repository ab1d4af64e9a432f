use Rattle.table_laws.proofs.SiteStores as site
use Rattle.table_laws.proofs.StoreMarks as law
use Rattle.table_laws.proofs.of_parts.store_marks.Goals as goal

pub returns-clause-start : goal.returns-clause-start
returns-clause-start c = law.store_marks_start

pub returns-clause-onward : goal.returns-clause-onward
returns-clause-onward c = λ rules r ls T U t u w mark new kept old. law.store_marks rules r ls T U t u w mark new kept old

pub returns-clause-tells : goal.returns-clause-tells
returns-clause-tells c = λ rules r T t l d a g new m ports good. site.tells_leaves rules r T t l d a g new m ports good

pub returns-clause-joins : goal.returns-clause-joins
returns-clause-joins c = λ rules r T t l d a g new goals m place ports good. site.joins_leaves rules r T t l d a g new goals m place ports good
