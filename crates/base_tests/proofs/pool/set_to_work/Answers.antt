use Rattle.std.proofs.Common.{◌≡◌, ℕ, suc, ◌<◌, List, [], ◌∷◌, length, map, slice_index_or, refl, sym, ap, ◌∙◌, arith}
use Rattle.task_pool.specs.Places.{Standing}
use Rattle.base_tests.proofs.pool.set_to_work.Goals as goal

same_places : (xs ys : List Standing) → length ys ≡ length xs → ((k : ℕ) (d : Standing) → k < length xs → (slice_index_or ys k d).place ≡ (slice_index_or xs k d).place)
    → map (λ (h : Standing). h.place) ys ≡ map (λ (h : Standing). h.place) xs
same_places [] [] len same = refl
same_places (x ∷ xs) (y ∷ ys) len same =
    ap (λ p. p ∷ map (λ (h : Standing). h.place) ys) (same 0 x (omega arith))
    ∙ ap (λ ps. x.place ∷ ps) (same_places xs ys (omega arith) (λ k d l. same (suc k) d (omega arith)))
same_places [] (y ∷ ys) len same = absurd (omega arith)
same_places (x ∷ xs) [] len same = absurd (omega arith)

pub returns : goal.returns
returns g c p = (
  p.0,
  same_places c.args.hands.now c.for_each_mut.new.s c.for_each_mut.auto.s
      (λ k d l. let t = (c.for_each_mut.ensures k d l).1 in
      sym (ap (λ (h : Standing). h.place) t.left) ∙ t.call ∙ ap (λ (h : Standing). h.place) t.argument_is)
      ∙ p.1,
)
