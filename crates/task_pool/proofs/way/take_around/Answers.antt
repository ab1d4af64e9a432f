use Rattle.std.proofs.Common.{rules, ◌≡◌, ℕ, ◌<◌, ◌≤◌, length, slice_get, map, ap, refl, ◌∙◌, subst, arith, ⊎_elim}
use Rattle.std.proofs.lemmas.Bool.{cases_lt}
use Rattle.std.proofs.lemmas.List.{length-map}
use Rattle.std.proofs.lemmas.List.Elements.{All-set}
use Rattle.std.proofs.lemmas.Option.{IfSome_then, slice_get_within}
use Rattle.task_pool.specs.Views.{taken_of}
use Rattle.task_pool.specs.Ways.{IsWayOf, deque_of, view_of, taken_through, appended}
use Rattle.task_pool.proofs.Moves.{if_none}
use Rattle.task_pool.proofs.Rows.{map_set, map_appended}
use Rattle.task_pool.proofs.way.take_around.Goals as goal

pub returns-in-Some-clause-ways : goal.returns-in-Some-clause-ways
returns-in-Some-clause-ways g c number h =
    All-set (IsWayOf number) c.args.ways.now c.args.own c.take_own.new.way (c.take_own.ensures.way number (h c.args.own c.index-ways-own.result c.requires.own)) h

pub returns-in-Some-clause-deques : goal.returns-in-Some-clause-deques
returns-in-Some-clause-deques g c =
    map_set deque_of c.args.ways.now c.args.own c.take_own.new.way c.index-ways-own.result c.take_own.ensures.deque

pub returns-in-Some-clause-some : goal.returns-in-Some-clause-some
returns-in-Some-clause-some g c = (
  c.args.own,
  c.requires.own,
  map_appended taken_through c.args.ways.now c.args.own c.take_own.new.way c.index-ways-own.result c.in-Some.token c.requires.own c.in-Some.ensures.some,
  λ other. absurd (other refl),
)

pub take_first-requires-clause-ways : goal.take_first-requires-clause-ways
take_first-requires-clause-ways g c =
    let number = c.requires.ways.0 in
    let mine = c.requires.ways.1 in
    (number, All-set (IsWayOf number) c.args.ways.now c.args.own c.take_own.new.way (c.take_own.ensures.way number (mine c.args.own c.index-ways-own.result c.requires.own)) mine)

pub returns-in-Some-take_first-clause-ways : goal.returns-in-Some-take_first-clause-ways
returns-in-Some-take_first-clause-ways g c number h =
    c.take_first.ensures.ways number
    (All-set (IsWayOf number) c.args.ways.now c.args.own c.take_own.new.way (c.take_own.ensures.way number (h c.args.own c.index-ways-own.result c.requires.own)) h)

pub returns-in-Some-take_first-clause-deques : goal.returns-in-Some-take_first-clause-deques
returns-in-Some-take_first-clause-deques g c =
    c.take_first.ensures.deques ∙ map_set deque_of c.args.ways.now c.args.own c.take_own.new.way c.index-ways-own.result c.take_own.ensures.deque

pub returns-in-Some-take_first-clause-some : goal.returns-in-Some-take_first-clause-some
returns-in-Some-take_first-clause-some g c =
    let s = c.in-Some-take_first.ensures.some in
    let none = c.in_default.ensures.none in
    let within : s.0 < length c.args.ways.now = search rules in (
      s.0,
      within,
      s.2 ∙ ap (appended s.0 c.in-Some-take_first.token) (map_set taken_through c.args.ways.now c.args.own c.take_own.new.way c.index-ways-own.result (ap taken_of none.0)),
      λ other. none.1,
    )

pub take_first-requires-2-clause-ways : goal.take_first-requires-2-clause-ways
take_first-requires-2-clause-ways g c =
    let number = c.requires.ways.0 in
    let mine = c.requires.ways.1 in (
      number,
      c.take_first.ensures.ways number
          (All-set (IsWayOf number) c.args.ways.now c.args.own c.take_own.new.way (c.take_own.ensures.way number (mine c.args.own c.index-ways-own.result c.requires.own)) mine),
    )

pub returns-clause-ways : goal.returns-clause-ways
returns-clause-ways g c number h =
    c.take_first-2.ensures.ways number
    (c.take_first.ensures.ways number
    (All-set (IsWayOf number) c.args.ways.now c.args.own c.take_own.new.way (c.take_own.ensures.way number (h c.args.own c.index-ways-own.result c.requires.own)) h))

pub returns-clause-deques : goal.returns-clause-deques
returns-clause-deques g c =
    c.take_first-2.ensures.deques ∙ c.take_first.ensures.deques
    ∙ map_set deque_of c.args.ways.now c.args.own c.take_own.new.way c.index-ways-own.result c.take_own.ensures.deque

pub returns-clause-some : goal.returns-clause-some
returns-clause-some g c =
    let none = c.in_default.ensures.none in
    let takings : map taken_through c.take_first.new.ways ≡ map taken_through c.args.ways.now =
    c.in_default-take_first.ensures.same.1 ∙ map_set taken_through c.args.ways.now c.args.own c.take_own.new.way c.index-ways-own.result (ap taken_of none.0) in
    let count : length c.take_first.new.ways ≡ length c.args.ways.now = search rules in
    IfSome_then c.take_first-2.result c.take_first-2.ensures.some
    (λ token s. (s.0, subst (λ (n : ℕ). s.0 < n) count s.1, s.2 ∙ ap (appended s.0 token) takings, λ other. none.1))

pub returns-clause-none : goal.returns-clause-none
returns-clause-none g c =
    let none = c.in_default.ensures.none in
    let takings : map taken_through c.take_first.new.ways ≡ map taken_through c.args.ways.now =
    c.in_default-take_first.ensures.same.1 ∙ map_set taken_through c.args.ways.now c.args.own c.take_own.new.way c.index-ways-own.result (ap taken_of none.0) in
    if_none c.take_first-2.result (λ h. (h.1 ∙ takings, none.1)) c.take_first-2.ensures.same

pub returns-clause-others : goal.returns-clause-others
returns-clause-others g c =
    let before = map_set view_of c.args.ways.now c.args.own c.take_own.new.way c.index-ways-own.result c.in_default.ensures.none.0 in
    if_none c.take_first-2.result
    (λ h k v other at.
    let within : k < length c.args.ways.now = subst (λ (n : ℕ). k < n) (length-map c.args.ways.now view_of) (slice_get_within (map view_of c.args.ways.now) k v at) in
    let here = ap (λ vs. slice_get vs k) before ∙ at in
    ⊎_elim
    (λ (l : k < c.args.own). h k v (omega arith) l (ap (λ vs. slice_get vs k) c.in_default-take_first.ensures.same.0 ∙ here))
    (λ (l : c.args.own ≤ k). ⊎_elim
    (λ (m : c.args.own < k). c.in_default-take_first.ensures.none k v (omega arith) within here)
    (λ (m : k ≤ c.args.own). absurd (other (omega arith)))
    (cases_lt c.args.own k))
    (cases_lt k c.args.own))
    c.take_first-2.ensures.none
