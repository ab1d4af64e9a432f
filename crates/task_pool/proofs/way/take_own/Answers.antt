use Rattle.std.proofs.Common.{◌∙◌, arith}
use Rattle.task_pool.proofs.way.take_own.Goals as goal

pub len_as-requires : goal.len_as-requires
len_as-requires g c = rw c.loop.invariant.port (λ items views h at. (views, h, at))

pub take-requires : goal.take-requires
take-requires g c = (c.requires.way.0, c.loop.invariant.mine c.requires.way.0 c.requires.way.1)

pub returns-in-Some-take-clause-way : goal.returns-in-Some-take-clause-way
returns-in-Some-take-clause-way g c number h = c.take.ensures.way number (c.loop.invariant.mine number h)

pub loop-preserved : goal.loop-preserved
loop-preserved g c =
    let l = c.loop.invariant in
    let s = c.len_as.ensures.same in
    record {
      port = s.0.2 ∙ l.port;
      same = (s.0.0 ∙ l.same.0, s.0.1 ∙ l.same.1, s.0.2 ∙ l.same.2, omega arith);
      index = s.1 ∙ l.index;
      owner = s.2 ∙ l.owner;
      mine = λ number h. c.take.ensures.way number (l.mine number h);
      into = c.take.ensures.deque ∙ l.into;
      view = c.in_default.ensures.none.0 ∙ l.view;
    }
