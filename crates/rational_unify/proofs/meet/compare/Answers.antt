use Rattle.std.proofs.Common.{sym, ◌∙◌}
use Rattle.rational_unify.proofs.Meets.{meet-differ}
use Rattle.rational_unify.proofs.meet.compare.Goals as goal

pub returns-in-None : goal.returns-in-None
returns-in-None c = record {
  meets = meet-differ c.args.templates.now.nodes c.args.left c.args.right _ _ c.look-seen.ensures.seen c.look-other.ensures.seen c.in_default.not-Free c.in_default-2.not-Free
      (sym c.is_one_constant.ensures ∙ c.if-is_one_constant.false) c.in-None.ensures.none;
  younger = tt;
  arranged = c.look-seen.ensures.arranged;
  small = c.look-seen.ensures.small;
}
