use Rattle.std.proofs.Common.{◌≡◌, ◌+◌, ◌<◌, [], ◌++◌, length, Option, Some, sym, ap, ◌∙◌, append-nil, Vec, Global, arith}
use Rattle.std.proofs.lemmas.List.{get_or_read}
use Rattle.akl_terms.specs.declared.name.Name.{Name}
use Rattle.name_map.specs.Pages.{with_value}
use Rattle.frame_map.proofs.Leaves.{slot_listed}
use Rattle.frame_map.proofs.slots.push_slots.Goals as goal
use Rattle.frame_map.proofs.slots.push_slots.Goals.{in-Some+in_ok-value+in_ok-push, in_default}

pub loop-index-preserved : goal.loop-index-preserved
loop-index-preserved g c =
    let slots = c.args.slots.now in
    let slot = c.index-slots-index.result in
    let within : c.loop-index.index < length slots = omega arith in
    let more : c.match-slots-index.list.items ≡ c.loop-index.list.items ++ with_value slot c.args.worker (c.args.first + c.loop-index.index) [] =
    elim c.match-slots-index.branch [
      | in-Some+in_ok-value+in_ok-push w ↦
          let clone : w.in_ok-value.value ≡ w.in-Some.value = c.requires.clones w.in-Some.value w.in_ok-value.value w.in_ok-value.ensures.cases in
          ap (λ (v : Vec (Name × g.row.V.Denot) Global). v.items) w.list-is ∙ w.in_ok-push.ensures.items
          ∙ (λ i. c.loop-index.list.items ++ with_value (Some (clone i)) c.args.worker (c.args.first + c.loop-index.index) [])
          ∙ ap (λ (o : Option g.row.V.Denot). c.loop-index.list.items ++ with_value o c.args.worker (c.args.first + c.loop-index.index) []) (sym w.in-Some.is)
      | in_default w ↦ ap (λ (v : Vec (Name × g.row.V.Denot) Global). v.items) w.list-is ∙ sym (append-nil c.loop-index.list.items)
          ∙ ap (λ (o : Option g.row.V.Denot). c.loop-index.list.items ++ with_value o c.args.worker (c.args.first + c.loop-index.index) []) (sym w.in_default.is)
    ] in
    slot_listed c.args.worker c.args.first slots c.args.list.now.items c.loop-index.index slot c.loop-index.list.items c.match-slots-index.list.items within (get_or_read slots c.loop-index.index slot within c.index-slots-index.is) more c.loop-index.invariant
