use Rattle.std.proofs.Common.{◌≡◌, ◌++◌, ◌∷◌, [], ◌-◌, List, Option, Some, length, slice_index_or, option_copied, refl, sym, ap, ◌∙◌, subst, length-append, arith}
use Rattle.std.specs.Option.{unwrap_or}
use Rattle.wake_lists.specs.declared.line.Entry.{Entry}
use Rattle.wake_lists.specs.Lines.{is_current, IsThinned}
use Rattle.wake_lists.proofs.Thinning.{thinned_same, thinned_then, thinned_back, copied_some, taken_off}
use Rattle.wake_lists.proofs.line.thin_back.Goals as goal

parted : (c : goal.After-pop_back) → c.loop-entry.entries.items ≡ c.pop_back.new.self.items ++ c.in-Some.entry ∷ []
parted c =
    let is : option_copied c.back.result ≡ Some c.in-Some.entry = sym c.copied.ensures ∙ c.in-Some.is in
    let taken = taken_off c.pop_back.result (slice_index_or c.loop-entry.entries.items (c.loop-entry.entries.len - 1) c.in-Some.entry) c.in-Some.entry
    (c.pop_back.ensures.value c.in-Some.entry (c.back.ensures.variant.0 (copied_some c.back.result c.in-Some.entry is)))
    (ap (λ (o : Option Entry). unwrap_or o c.in-Some.entry) (sym is) ∙ c.back.ensures.item.4 (omega arith) c.in-Some.entry) in
    c.pop_back.ensures.items ∙ ap (λ (ds : List Entry). c.pop_back.new.self.items ++ ds) taken

pub loop-entry-init : goal.loop-entry-init
loop-entry-init c = record { thinned = thinned_same (is_current c.args.places.now c.args.urgency) c.args.entries.now.items; shorter = omega arith; capacity = refl }

pub loop-entry-smaller : goal.loop-entry-smaller
loop-entry-smaller c =
    let many = ap length (parted c) in
    let more = length-append c.pop_back.new.self.items (c.in-Some.entry ∷ []) in
    let now = c.pop_back.new.self.ok.0 in
    let before = c.loop-entry.entries.ok.0 in
    omega arith

pub loop-entry-preserved : goal.loop-entry-preserved
loop-entry-preserved c =
    let current = is_current c.args.places.now c.args.urgency in
    record {
      thinned = thinned_then current c.args.entries.now.items c.loop-entry.entries.items c.pop_back.new.self.items c.loop-entry.invariant.thinned
          (subst (λ (es : List Entry). IsThinned current es c.pop_back.new.self.items) (sym (parted c)) (thinned_back current c.pop_back.new.self.items c.in-Some.entry (sym c.is_current.ensures ∙ c.if-is_current.false)));
      shorter =
          let many = ap length (parted c) in
          let more = length-append c.pop_back.new.self.items (c.in-Some.entry ∷ []) in
          let now = c.pop_back.new.self.ok.0 in
          let before = c.loop-entry.entries.ok.0 in
          let so_far = c.loop-entry.invariant.shorter in
          omega arith;
      capacity = c.pop_back.ensures.capacity ∙ c.loop-entry.invariant.capacity;
    }
