use Rattle.std.proofs.Common.{◌≡◌, ℕ, suc, ◌+◌, ◌-◌, ◌*◌, ◌++◌, [], Option, length, refl, sym, ap, ◌∙◌, arith}
use Rattle.std.specs.Map.{keys_of}
use Rattle.name_map.specs.Pages.{in_numbers, listed}
use Rattle.name_map.proofs.Listing.{number_named, number_passed, numbers_listed}
use Rattle.name_map.proofs.numbers.Numbers.push_names.Goals as goal
use Rattle.name_map.proofs.numbers.Numbers.push_names.Goals.{then-contains+in_ok-push, else-contains}

pub loop-number-init : goal.loop-number-init
loop-number-init g c =
    let all : c.in-Some.count - 0 ≡ length c.args.self.now.chunks.items * 512 = omega (arith, c.in-Some.ensures.1, c.len.ensures, c.args.self.now.chunks.ok) in
    ap (λ (m : ℕ). c.args.list.now.items ++ keys_of (listed c.args.worker 0 m (λ n. in_numbers n c.args.self.now) [])) all

pub loop-number-preserved : goal.loop-number-preserved
loop-number-preserved g c =
    let f : ℕ → Option g.row.V.Denot = λ n. in_numbers n c.args.self.now in
    let k : ℕ = c.loop-number.number in
    let left : ℕ = c.in-Some.count - k in
    let many : left ≡ suc (left - 1) = omega (arith, c.loop-number-test.true) in
    let fewer : c.in-Some.count - (k + 1) ≡ left - 1 = omega arith in
    elim c.if-contains.branch [
      | then-contains+in_ok-push w ↦
          ap (λ v. v.items ++ keys_of (listed c.args.worker (k + 1) (c.in-Some.count - (k + 1)) f [])) w.list-is
          ∙ ap (λ (m : ℕ). w.push.new.self.items ++ keys_of (listed c.args.worker (k + 1) m f [])) fewer
          ∙ number_named c.args.worker k left f many c.loop-number.list.items w.push.new.self.items (record { worker = c.args.worker; number = k }) (sym c.contains.ensures ∙ w.if-contains.true) refl w.in_ok-push.ensures.items
          ∙ c.loop-number.invariant
      | else-contains w ↦
          ap (λ v. v.items ++ keys_of (listed c.args.worker (k + 1) (c.in-Some.count - (k + 1)) f [])) w.list-is
          ∙ ap (λ (m : ℕ). c.loop-number.list.items ++ keys_of (listed c.args.worker (k + 1) m f [])) fewer
          ∙ number_passed c.args.worker k left f many c.loop-number.list.items (sym c.contains.ensures ∙ w.if-contains.false)
          ∙ c.loop-number.invariant
    ]

pub returns : goal.returns
returns g c =
    let f : ℕ → Option g.row.V.Denot = λ n. in_numbers n c.args.self.now in
    sym (numbers_listed c.args.worker c.loop-number.number (c.in-Some.count - c.loop-number.number) f c.loop-number.list.items (omega (arith, c.loop-number-test.false))) ∙ c.loop-number.invariant
