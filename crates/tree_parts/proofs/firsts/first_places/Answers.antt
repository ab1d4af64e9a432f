use Rattle.std.proofs.Common.{rules, ◌≡◌, ◌+◌, ◌∷◌, ◌++◌, ℕ, List, [], length, Some, refl, subst, sym}
use Rattle.std.specs.Global.{Vec}
use Rattle.std.specs.Prelude.{slice_get}
use Rattle.std.proofs.lemmas.Option.{slice_get_read}
use Rattle.tree_parts.specs.Firsts.{IsPlaced}
use Rattle.tree_parts.proofs.Finding.{AreFound, found-placed, found-none, found-all}
use Rattle.tree_parts.proofs.firsts.first_places.Goals as goal

pub loop-place-init : goal.loop-place-init
loop-place-init c =
    let none : c.new-known.result.entries ≡ [] = search rules in
    let empty : c.new-firsts.result.items ≡ [] = search rules in
    subst (λ (es : List (Vec ℕ × ℕ)). AreFound c.args.keys.now es c.new-firsts.result.items 0) (sym none) (subst (λ (fs : List ℕ). AreFound c.args.keys.now [] fs 0) (sym empty) (found-none c.args.keys.now))

pub loop-place-preserved : goal.loop-place-preserved
loop-place-preserved c =
    let at : slice_get c.args.keys.now c.loop-place.place ≡ Some c.index-keys-place.result = slice_get_read c.args.keys.now (length c.args.keys.now) c.loop-place.place c.index-keys-place.result refl c.loop-place-test.true c.index-keys-place.is in
    let same : c.deref.result.now ≡ c.index-keys-place.result.items = search rules in
    let items : c.push.new.self.items ≡ c.loop-place.firsts.items ++ c.in_ok-first.first ∷ [] = c.in_ok-push.ensures.items in
    let placed : IsPlaced c.loop-place.known.entries c.first_place.new.known.entries c.index-keys-place.result.items c.loop-place.place c.in_ok-first.first = subst (λ (xs : List ℕ). IsPlaced c.loop-place.known.entries c.first_place.new.known.entries xs c.loop-place.place c.in_ok-first.first) same c.in_ok-first.ensures in
    subst (λ (fs : List ℕ). AreFound c.args.keys.now c.first_place.new.known.entries fs (c.loop-place.place + 1)) (sym items)
    (found-placed c.args.keys.now c.loop-place.known.entries c.first_place.new.known.entries c.loop-place.firsts.items c.loop-place.place c.in_ok-first.first c.index-keys-place.result at c.loop-place.invariant placed)

pub returns : goal.returns
returns c =
    let n : c.loop-place.place ≡ length c.args.keys.now = search rules in
    found-all c.args.keys.now c.loop-place.known.entries c.loop-place.firsts.items (subst (λ (i : ℕ). AreFound c.args.keys.now c.loop-place.known.entries c.loop-place.firsts.items i) n c.loop-place.invariant)
