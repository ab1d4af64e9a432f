use Rattle.std.proofs.Common.{◌≡◌, ◌∙◌, map}
use Rattle.local_store.specs.Stored.{nothing}
use Rattle.box_copies.specs.Renamer.{swapped_name, port_by, binding_by, with_frames, with_ports}
use Rattle.box_copies.proofs.Stored.{ports_behind}
use Rattle.box_copies.proofs.stores.copied_store.Goals as goal

pub returns : goal.returns
returns c =
    let copied = rw c.in-Some.is at c.in_ok-copy.ensures in
    let is_ports : c.as_slice.result.now ≡ c.args.store.now.ports = c.as_slice.ensures.value ∙ c.in_ok-ports.ensures in (
      c.in_ok-add_ports.ensures ∙ (λ i. with_ports (copied.0 i) (map (port_by (swapped_name c.args.names.now)) (is_ports i)))
          ∙ ports_behind (with_frames nothing (map (swapped_name c.args.names.now) c.args.store.now.frames)) (map (binding_by (swapped_name c.args.names.now)) c.args.store.now.bindings) (map (port_by (swapped_name c.args.names.now)) c.args.store.now.ports),
      copied.1,
    )
