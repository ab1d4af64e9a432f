use Rattle.std.proofs.Common.{◌≡◌, List, [], ◌∷◌, length, refl, sym, FitsSigned, rules, arith}
use Rattle.std.specs.Int.{w128}
use Rattle.std.proofs.lemmas.Int.{to_z-of_z}
use Rattle.arith_goals.specs.Walking.{last, to_right, undefined, out}
use Rattle.arith_goals.proofs.walk.Walk.leave.Goals as goal

nothing : {X : Type 0} (xs : List X) → length xs ≡ 0 → xs ≡ []
nothing [] e = refl
nothing (x ∷ xs) e = absurd (omega arith)

pub returns-in_default : goal.returns-in_default
returns-in_default c =
    let h : length c.args.self.now.walking.items ≡ 0 = omega (arith, c.in_default.ensures.cases.0, c.args.self.now.walking.ok) in
    rw (to_z-of_z w128 c.args.value c.ranges.value) (last (nothing c.args.self.now.walking.items h))

pub returns-in_default-calculate : goal.returns-in_default-calculate
returns-in_default-calculate c =
    let l : FitsSigned w128 c.in-Right.left = search rules in
    undefined c.pop.new.self.items c.in-Right.of c.in-Right.left (rw c.in-Right.is at c.in-Some.ensures.items)
    (sym (rw (to_z-of_z w128 c.in-Right.left l, to_z-of_z w128 c.args.value c.ranges.value) at c.in_default-calculate.ensures))

pub returns-in_ok-push-in-Left : goal.returns-in_ok-push-in-Left
returns-in_ok-push-in-Left c = to_right c.pop.new.self.items c.in-Left.of (rw c.in-Left.is at c.in-Some.ensures.items) (rw (to_z-of_z w128 c.args.value c.ranges.value) at c.in_ok-push-in-Left.ensures.items) (λ p. refl) refl

pub returns-in_ok-keep-in-Right : goal.returns-in_ok-keep-in-Right
returns-in_ok-keep-in-Right c =
    let l : FitsSigned w128 c.in-Right.left = search rules in
    let f : FitsSigned w128 c.in-Some-calculate.result = search rules in
    rw (to_z-of_z w128 c.in-Some-calculate.result f) (out c.pop.new.self.items c.in-Right.of c.in-Right.left (rw c.in-Right.is at c.in-Some.ensures.items)
    (sym (rw (to_z-of_z w128 c.in-Right.left l, to_z-of_z w128 c.args.value c.ranges.value) at c.in-Some-calculate.ensures)) (let e = c.in_ok-keep-in-Right.ensures.walking in cc) (λ p. (rw (to_z-of_z w128 c.in-Some-calculate.result f) at c.in_ok-keep-in-Right.ensures.kept) p) c.in_ok-keep-in-Right.ensures.begun)
