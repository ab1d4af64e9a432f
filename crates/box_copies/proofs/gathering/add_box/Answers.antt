use Rattle.std.proofs.Common.{◌≡◌, List, ◌++◌, map, ap, ◌∙◌}
use Rattle.akl_terms.specs.declared.name.Name.{Name}
use Rattle.akl_terms.specs.declared.term.Term.{Term}
use Rattle.local_store.specs.Stored.{Stored}
use Rattle.box_tree.specs.declared.inside.InnerGoal.{InnerGoal}
use Rattle.box_copies.specs.Made.{own_names}
use Rattle.box_copies.proofs.Sets.{parts_listed, on_ok}
use Rattle.box_copies.proofs.gathering.add_box.Goals as goal

pub returns : goal.returns
returns c =
    let own : Name = c.args.inner.now.name in
    let store : Stored = c.args.inner.now.store in
    let ports : List Name = map (λ (p : Name × Term). p.0) store.ports in
    let goals : List Name = map (λ (g : InnerGoal). g.name) c.args.inner.now.goals.items in
    let is_frames : c.as_slice.result.now ≡ store.frames = c.as_slice.ensures.value ∙ c.in_ok-frames.ensures ∙ ap (λ (s : Stored). s.frames) c.get-store.ensures in
    let is_ports : map (λ (p : Name × Term). p.0) c.as_slice-2.result.now ≡ ports = ap (map (λ (p : Name × Term). p.0)) (c.as_slice-2.ensures.value ∙ c.in_ok-ports.ensures ∙ ap (λ (s : Stored). s.ports) c.get-store.ensures) in
    let is_goals : map (λ (g : InnerGoal). g.name) c.as_slice-3.result.now ≡ goals = ap (map (λ (g : InnerGoal). g.name)) c.as_slice-3.ensures.value in
    on_ok (c.add_goals.new.names.items ≡ c.add_ports.new.names.items ++ map (λ (g : InnerGoal). g.name) c.as_slice-3.result.now) (c.add_goals.new.names.items ≡ c.args.names.now.items ++ own_names c.args.inner.now) c.add_goals.result (λ last.
    parts_listed c.args.names.now.items own store.frames ports goals c.push.new.self.items c.add_frames.new.names.items c.add_ports.new.names.items c.add_goals.new.names.items c.in_ok-push.ensures.items
    (c.in_ok-add_frames.ensures ∙ ap (λ (l : List Name). c.push.new.self.items ++ l) is_frames)
    (c.in_ok-add_ports.ensures ∙ ap (λ (l : List Name). c.add_frames.new.names.items ++ l) is_ports)
    (last ∙ ap (λ (l : List Name). c.add_ports.new.names.items ++ l) is_goals)) c.add_goals.ensures
