use Rattle.std.proofs.Common.{◌≡◌, pos, ◌<ℤ◌, ◌+ℤ◌, sym, FitsSigned, rules, arith}
use Rattle.std.proofs.lemmas.Int.{to_z-of_z, ints}
use Rattle.std.specs.Int.{w128, int_rem_euclid}
use Rattle.arith_goals.proofs.Modulus.{modulus-low, modulus-rest}
use Rattle.arith_goals.proofs.operation.modulus_of.Goals as goal
use Rattle.arith_goals.proofs.operation.modulus_of.Goals.{else-right-lt0-via-then-right-lt0+else-rest-gt0, else-right-lt0-via-else-right-lt0}

pub returns-then-rest-gt0 : goal.returns-then-rest-gt0
returns-then-rest-gt0 c =
    let r : FitsSigned w128 c.wrapping_rem_euclid-rest.result = search rules in
    let e : c.wrapping_rem_euclid-rest.result ≡ int_rem_euclid c.args.left c.args.right = rw (to_z-of_z w128 c.args.left c.ranges.left, to_z-of_z w128 c.args.right c.ranges.right) at c.wrapping_rem_euclid-rest.ensures in
    let l : c.args.right <ℤ pos 0 = omega (arith, ints, c.ranges.right) in
    let h : pos 0 <ℤ c.wrapping_rem_euclid-rest.result = omega (arith, ints) in
    let s : FitsSigned w128 (c.wrapping_rem_euclid-rest.result +ℤ c.args.right) = omega (arith, ints) in
    rw (to_z-of_z w128 c.wrapping_rem_euclid-rest.result r, to_z-of_z w128 c.args.right c.ranges.right, to_z-of_z w128 (c.wrapping_rem_euclid-rest.result +ℤ c.args.right) s, e)
    (modulus-low c.args.left c.args.right l (rw e at h) (rw e at s))

pub returns-else-right-lt0 : goal.returns-else-right-lt0
returns-else-right-lt0 c =
    let r : FitsSigned w128 c.wrapping_rem_euclid-rest.result = search rules in
    let e : c.wrapping_rem_euclid-rest.result ≡ int_rem_euclid c.args.left c.args.right = rw (to_z-of_z w128 c.args.left c.ranges.left, to_z-of_z w128 c.args.right c.ranges.right) at c.wrapping_rem_euclid-rest.ensures in
    rw (to_z-of_z w128 c.wrapping_rem_euclid-rest.result r, e) (modulus-rest c.args.left c.args.right (λ z. zero z) (λ l h. low l (rw (sym e) at h)) (rw e at r))
  where
    zero : c.args.right ≡ pos 0 → ⊥
    zero z = omega (arith, ints, c.if-right-eq0.false)

    low : c.args.right <ℤ pos 0 → pos 0 <ℤ c.wrapping_rem_euclid-rest.result → ⊥
    low l h = elim c.else-right-lt0.branch [ else-right-lt0-via-then-right-lt0+else-rest-gt0 w ↦ omega (arith, ints, w.if-rest-gt0.false) | else-right-lt0-via-else-right-lt0 w ↦ omega (arith, ints, w.if-right-lt0.false) ]
