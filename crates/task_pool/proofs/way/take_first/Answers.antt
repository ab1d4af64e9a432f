use Rattle.std.proofs.Common.{rules, ◌<◌, length, slice_get, ap, ◌∙◌, subst}
use Rattle.std.proofs.lemmas.List.Elements.{All-set}
use Rattle.task_pool.specs.Steps.{SeenEmpty}
use Rattle.task_pool.specs.Views.{taken_of}
use Rattle.task_pool.specs.Ways.{IsWayOf, deque_of, view_of, taken_through, appended}
use Rattle.task_pool.proofs.Rows.{map_set, at_map, map_appended, one_more}
use Rattle.task_pool.proofs.way.take_first.Goals as goal

pub take-requires : goal.take-requires
take-requires g c =
    let inside : c.loop-k.k < length c.loop-k.ways = search rules in
    (c.requires.ways.0, c.loop-k.invariant.ways c.requires.ways.0 c.requires.ways.1 c.loop-k.k c.index-ways-k.result inside)

pub returns-in-Some-clause-ways : goal.returns-in-Some-clause-ways
returns-in-Some-clause-ways g c number h =
    let inside : c.loop-k.k < length c.loop-k.ways = search rules in
    let was = c.loop-k.invariant.ways number h in
    All-set (IsWayOf number) c.loop-k.ways c.loop-k.k c.take.new.self (c.take.ensures.way number (was c.loop-k.k c.index-ways-k.result inside)) was

pub returns-in-Some-clause-deques : goal.returns-in-Some-clause-deques
returns-in-Some-clause-deques g c =
    map_set deque_of c.loop-k.ways c.loop-k.k c.take.new.self c.index-ways-k.result c.take.ensures.deque ∙ c.loop-k.invariant.deques

pub returns-in-Some-clause-some : goal.returns-in-Some-clause-some
returns-in-Some-clause-some g c =
    let inside : c.loop-k.k < length c.loop-k.ways = search rules in
    let within : c.loop-k.k < length c.args.ways.now = search rules in (
      c.loop-k.k,
      within,
      map_appended taken_through c.loop-k.ways c.loop-k.k c.take.new.self c.index-ways-k.result c.in-Some.token inside c.in-Some.ensures.some
          ∙ ap (appended c.loop-k.k c.in-Some.token) c.loop-k.invariant.takings,
    )

pub loop-k-preserved : goal.loop-k-preserved
loop-k-preserved g c =
    let inside : c.loop-k.k < length c.loop-k.ways = search rules in
    let l = c.loop-k.invariant in
    let none = c.in_default.ensures.none in
    record {
      ways = λ number h.
          All-set (IsWayOf number) c.loop-k.ways c.loop-k.k c.take.new.self (c.take.ensures.way number (l.ways number h c.loop-k.k c.index-ways-k.result inside)) (l.ways number h);
      deques = map_set deque_of c.loop-k.ways c.loop-k.k c.take.new.self c.index-ways-k.result c.take.ensures.deque ∙ l.deques;
      views = map_set view_of c.loop-k.ways c.loop-k.k c.take.new.self c.index-ways-k.result none.0 ∙ l.views;
      takings = map_set taken_through c.loop-k.ways c.loop-k.k c.take.new.self c.index-ways-k.result (ap taken_of none.0) ∙ l.takings;
      looked = one_more (SeenEmpty g.P.Protocol.holds) _ _ _
          (λ v at.
          subst (SeenEmpty g.P.Protocol.holds) (at_map view_of c.loop-k.ways c.loop-k.k c.index-ways-k.result v (ap (λ vs. slice_get vs c.loop-k.k) l.views ∙ at)) none.1)
          l.looked;
    }
