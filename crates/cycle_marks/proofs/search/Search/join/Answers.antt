use Rattle.std.proofs.Common.{rules, ◌≡◌, ◌<◌, ◌≤◌, ◌-◌, ℕ, List, length, map, take, vec_len, subst, sym, ◌∙◌, ap}
use Rattle.cycle_marks.specs.declared.search.Base.{Base}
use Rattle.cycle_marks.specs.Searching.{State, IsLast}
use Rattle.cycle_marks.proofs.Joining.{all-before}
use Rattle.cycle_marks.proofs.Steps.{JoinsOn, join-step, joined-goes}
use Rattle.cycle_marks.proofs.search.Search.join.Goals as goal

pub loop-base-preserved : goal.loop-base-preserved
loop-base-preserved c =
    let size : vec_len c.self.inside.path ≡ length c.self.inside.path.items = search rules in
    let is : c.self.inside.path.items ≡ c.loop-base.self.path = ap (λ (z : State). z.path) c.self.view_is in
    let rest : c.pop.new.self.items ≡ take (length c.loop-base.self.path - 1) c.loop-base.self.path =
    c.pop.ensures.rest ∙ ap (λ (n : ℕ). take (n - 1) c.self.inside.path.items) size ∙ ap (λ (ps : List Base). take (length ps - 1) ps) is in
    let less : c.args.place < c.in-Some.base.node = search rules in
    subst (λ (z : State). JoinsOn (map (λ v. v.items) c.args.rows.now) c.args.target c.args.self.now (record z { path = c.pop.new.self.items })) (sym c.self.view_is)
    (join-step (map (λ v. v.items) c.args.rows.now) c.args.target c.args.place c.args.self.now c.loop-base.self c.in-Some.base c.pop.new.self.items c.loop-base.invariant c.requires.reached c.requires.mark c.in-Some.ensures.some less rest)

pub returns-then-base-place : goal.returns-then-base-place
returns-then-base-place c =
    let l : IsLast c.loop-base.self.path c.in-Some.base = c.in-Some.ensures.some in
    let p : c.in-Some.base.node ≤ c.args.place = search rules in
    joined-goes (map (λ v. v.items) c.args.rows.now) c.args.target c.args.place c.args.self.now c.loop-base.self c.loop-base.invariant c.requires.mark
    (all-before (map (λ v. v.items) c.args.rows.now) c.loop-base.self l.0 c.in-Some.base l.1 c.loop-base.invariant.search c.args.place p)
