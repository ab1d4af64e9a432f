use Rattle.std.proofs.Common.{◌≡◌, ◌++◌, ◌∷◌, List, Option, Some, length, slice_index_or, option_copied, refl, sym, ap, ◌∙◌, subst, arith}
use Rattle.std.specs.Option.{unwrap_or}
use Rattle.wake_lists.specs.declared.line.Entry.{Entry}
use Rattle.wake_lists.specs.Lines.{is_current, IsThinned}
use Rattle.wake_lists.proofs.Thinning.{thinned_same, thinned_then, thinned_front, copied_some, taken_off}
use Rattle.wake_lists.proofs.line.thin_front.Goals as goal

parted : (c : goal.After-pop_front) → c.loop-entry.entries.items ≡ c.in-Some.entry ∷ c.pop_front.new.self.items
parted c =
    let is : option_copied c.front.result ≡ Some c.in-Some.entry = sym c.copied.ensures ∙ c.in-Some.is in
    let taken = taken_off c.pop_front.result (slice_index_or c.loop-entry.entries.items (0) c.in-Some.entry) c.in-Some.entry
    (c.pop_front.ensures.value c.in-Some.entry (c.front.ensures.variant.0 (copied_some c.front.result c.in-Some.entry is)))
    (ap (λ (o : Option Entry). unwrap_or o c.in-Some.entry) (sym is) ∙ c.front.ensures.item.4 (omega arith) c.in-Some.entry) in
    c.pop_front.ensures.items ∙ ap (λ (ds : List Entry). ds ++ c.pop_front.new.self.items) taken

pub loop-entry-init : goal.loop-entry-init
loop-entry-init c = record { thinned = thinned_same (is_current c.args.places.now c.args.urgency) c.args.entries.now.items; shorter = omega arith; capacity = refl }

pub loop-entry-smaller : goal.loop-entry-smaller
loop-entry-smaller c =
    let many = ap length (parted c) in
    let now = c.pop_front.new.self.ok.0 in
    let before = c.loop-entry.entries.ok.0 in
    omega arith

pub loop-entry-preserved : goal.loop-entry-preserved
loop-entry-preserved c =
    let current = is_current c.args.places.now c.args.urgency in
    record {
      thinned = thinned_then current c.args.entries.now.items c.loop-entry.entries.items c.pop_front.new.self.items c.loop-entry.invariant.thinned
          (subst (λ (es : List Entry). IsThinned current es c.pop_front.new.self.items) (sym (parted c)) (thinned_front current c.in-Some.entry c.pop_front.new.self.items (sym c.is_current.ensures ∙ c.if-is_current.false)));
      shorter =
          let many = ap length (parted c) in
          let now = c.pop_front.new.self.ok.0 in
          let before = c.loop-entry.entries.ok.0 in
          let so_far = c.loop-entry.invariant.shorter in
          omega arith;
      capacity = c.pop_front.ensures.capacity ∙ c.loop-entry.invariant.capacity;
    }
