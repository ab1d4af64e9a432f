use Rattle.reading_laws.proofs.Ends as ends
use Rattle.reading_laws.proofs.ListedEnds as listed
use Rattle.reading_laws.proofs.ListedMarks as unchanged
use Rattle.reading_laws.proofs.Marked as law
use Rattle.reading_laws.proofs.Unlisted as unlisted
use Rattle.reading_laws.proofs.of_plans.marks.Goals as goal

pub returns : goal.returns
returns c = record {
  unlisted = unlisted.unlisted;
  spared = ends.spared;
  last = law.last_mark;
  old = law.old_mark;
  since = law.marks;
  ends = listed.listed_ends;
  listed = unchanged.listed_unchanged;
}
