use Rattle.std.proofs.Common.{◌≡◌, ℕ, ◌<◌, List, length, slice_set, sym, ap, ◌∙◌, subst}
use Rattle.std.specs.Prelude.{◌==◌, if◌then◌else◌}
use Rattle.smallvec.specs.SmallVec.{SmallVec}
use Rattle.akl_terms.specs.declared.name.Name.{Name}
use Rattle.wake_lists.specs.Standing.{names_in, boxes_at}
use Rattle.wake_lists.proofs.BoxesKept.{boxes_now, names_count, names_set, kept_more}
use Rattle.wake_lists.proofs.standing.Standing.enter.Goals as goal

-- the names of a token's list are others than in a list that says the same of each token
names_put : (old bs : List (SmallVec Name)) (token : ℕ) (b : SmallVec Name) (around : List Name) → token < length bs → b.items ≡ around → ((t : ℕ) → boxes_at t (names_in bs) ≡ boxes_at t (names_in old)) → (t : ℕ)
    → boxes_at t (names_in (slice_set bs token b)) ≡ (if t == token then around else boxes_at t (names_in old))
names_put old bs token b around h is same t =
    ap (boxes_at t) (names_set bs token b) ∙ boxes_now (names_in bs) token b.items (subst (λ (n : ℕ). token < n) (sym (names_count bs)) h) t
    ∙ ap (λ (ns : List Name). if t == token then ns else boxes_at t (names_in bs)) is ∙ ap (λ (ns : List Name). if t == token then around else ns) (same t)

pub invariant_of-self-2 : goal.invariant_of-self-2
invariant_of-self-2 c =
    kept_more c.args.token c.self.inside.inside (names_in c.self.inside.boxes.items) c.self.invariant (ap (boxes_at c.args.token) c.self.view_is ∙ c.requires) c.args.around.now c.add_all.new.self c.in_default.ensures.added _
    (names_put c.self.inside.boxes.items c.make_room.new.boxes.items c.args.token c.in_ok-boxes.boxes c.args.around.now c.in_ok-make_room.ensures.room c.in_ok-boxes.ensures.ok c.in_ok-make_room.ensures.same)

pub returns-clause-entered : goal.returns-clause-entered
returns-clause-entered c = λ t.
    names_put c.self.inside.boxes.items c.make_room.new.boxes.items c.args.token c.in_ok-boxes.boxes c.args.around.now c.in_ok-make_room.ensures.room c.in_ok-boxes.ensures.ok c.in_ok-make_room.ensures.same t
    ∙ ap (λ (bs : List (List Name)). if t == c.args.token then c.args.around.now else boxes_at t bs) c.self.view_is
