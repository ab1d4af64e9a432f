use Rattle.std.proofs.Common.{◌≡◌, ℕ, ◌+◌, ◌<◌, true, false, List, [], length, slice_set, refl, sym, ap, ◌∙◌, subst, arith}
use Rattle.std.specs.Prelude.{◌==◌, ◌&&◌, not, if◌then◌else◌}
use Rattle.smallvec.specs.SmallVec.{SmallVec}
use Rattle.akl_terms.specs.declared.name.Name.{Name}
use Rattle.wake_lists.specs.Standing.{names_in, boxes_at, how_many, stands, is_in}
use Rattle.wake_lists.proofs.BoxesKept.{boxes_now, names_count, names_there, names_set, boxes_beyond, boxes_without, how_many_without, kept_fewer}
use Rattle.wake_lists.proofs.standing.Standing.exit.Goals as goal

no_slot : false ≡ true → ⊥
no_slot e = cc

-- the names of a list are taken away
names_gone : (bs : List (SmallVec Name)) (token : ℕ) (b : SmallVec Name) → token < length bs → b.items ≡ [] → (t : ℕ) → boxes_at t (names_in (slice_set bs token b)) ≡ (if t == token then [] else boxes_at t (names_in bs))
names_gone bs token b h none t =
    ap (boxes_at t) (names_set bs token b) ∙ boxes_now (names_in bs) token b.items (subst (λ (n : ℕ). token < n) (sym (names_count bs)) h) t
    ∙ ap (λ (ns : List Name). if t == token then ns else boxes_at t (names_in bs)) none

pub invariant_of-self : goal.invariant_of-self
invariant_of-self c =
    let within : c.args.token < length c.self.inside.boxes.items = subst (λ (n : ℕ). c.args.token < n) c.self.inside.boxes.ok.0 (c.in-Some.ensures.variant.0 refl) in
    let all = c.as_slice.ensures ∙ ap (λ (b : SmallVec Name). b.items) (c.replace-boxes.ensures.value ∙ c.in-Some.ensures.value) ∙ sym (names_there c.self.inside.boxes.items c.args.token c.in-Some.slot.now within) in
    kept_fewer c.args.token c.self.inside.inside (names_in c.self.inside.boxes.items) c.self.invariant c.remove_all.new.self
    (λ t n. c.remove_all.ensures t n ∙ ap (λ (ns : List Name). stands c.self.inside.inside t n && not (t == c.args.token && is_in n ns)) all)
    (names_in (slice_set c.self.inside.boxes.items c.args.token c.replace-boxes.new.dest))
    (names_gone c.self.inside.boxes.items c.args.token c.replace-boxes.new.dest within (ap (λ (b : SmallVec Name). b.items) c.replace-boxes.ensures.after ∙ c.new.ensures.items))

pub returns-in-Some-clause-boxes : goal.returns-in-Some-clause-boxes
returns-in-Some-clause-boxes c = λ t.
    let within : c.args.token < length c.self.inside.boxes.items = subst (λ (n : ℕ). c.args.token < n) c.self.inside.boxes.ok.0 (c.in-Some.ensures.variant.0 refl) in
    names_gone c.self.inside.boxes.items c.args.token c.replace-boxes.new.dest within (ap (λ (b : SmallVec Name). b.items) c.replace-boxes.ensures.after ∙ c.new.ensures.items) t
    ∙ ap (λ (bs : List (List Name)). if t == c.args.token then [] else boxes_at t bs) c.self.view_is

pub returns-in-Some-clause-fewer : goal.returns-in-Some-clause-fewer
returns-in-Some-clause-fewer c =
    subst (λ (bs : List (List Name)). how_many (names_in (slice_set c.self.inside.boxes.items c.args.token c.replace-boxes.new.dest)) + length (boxes_at c.args.token bs) ≡ how_many bs) c.self.view_is
    (ap (λ (bs : List (List Name)). how_many bs + length (boxes_at c.args.token (names_in c.self.inside.boxes.items)))
    (names_set c.self.inside.boxes.items c.args.token c.replace-boxes.new.dest
    ∙ ap (slice_set (names_in c.self.inside.boxes.items) c.args.token) (ap (λ (b : SmallVec Name). b.items) c.replace-boxes.ensures.after ∙ c.new.ensures.items))
    ∙ how_many_without (names_in c.self.inside.boxes.items) c.args.token)

pub returns-in_default-clause-boxes : goal.returns-in_default-clause-boxes
returns-in_default-clause-boxes c = λ t.
    let none = boxes_beyond (names_in c.self.inside.boxes.items) c.args.token
    (λ l. no_slot (c.in_default.ensures.variant.1 (subst (λ (n : ℕ). c.args.token < n) (names_count c.self.inside.boxes.items ∙ sym c.self.inside.boxes.ok.0) l))) in
    boxes_without (names_in c.self.inside.boxes.items) c.args.token none t
    ∙ ap (λ (bs : List (List Name)). if t == c.args.token then [] else boxes_at t bs) c.self.view_is

pub returns-in_default-clause-fewer : goal.returns-in_default-clause-fewer
returns-in_default-clause-fewer c =
    let none = boxes_beyond (names_in c.self.inside.boxes.items) c.args.token
    (λ l. no_slot (c.in_default.ensures.variant.1 (subst (λ (n : ℕ). c.args.token < n) (names_count c.self.inside.boxes.items ∙ sym c.self.inside.boxes.ok.0) l))) in
    subst (λ (bs : List (List Name)). how_many (names_in c.self.inside.boxes.items) + length (boxes_at c.args.token bs) ≡ how_many bs) c.self.view_is
    (let zero : length (boxes_at c.args.token (names_in c.self.inside.boxes.items)) ≡ 0 = ap length none in omega arith)
