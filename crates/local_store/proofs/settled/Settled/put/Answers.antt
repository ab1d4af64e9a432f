use Rattle.std.proofs.Common.{sym, ap, subst, ◌∙◌}
use Rattle.std.specs.Prelude.{if◌then◌else◌}
use Rattle.local_store.specs.Stored.{named, joins}
use Rattle.local_store.specs.Kept.{IsKept, AreInOrder, frames_of, bindings_of}
use Rattle.local_store.proofs.SettledFrames.{bindings-put, frames-put}
use Rattle.local_store.proofs.SettledValues.{joins-in_order}
use Rattle.local_store.proofs.settled.Settled.put.Goals as goal

pub invariant_of-self : goal.invariant_of-self
invariant_of-self c = subst IsKept (sym c.in_err-change.ensures.unchanged) c.self.invariant

pub invariant_of-self-2 : goal.invariant_of-self-2
invariant_of-self-2 c =
    let h = c.in_ok-change.ensures.changed in
    record {
      ordered = h.put.ordered;
      bindings = subst AreInOrder (sym (bindings-put c.self.inside.frames c.change.new.self c.args.frame h.value c.self.invariant.ordered h.put.entries c.args.bindings.now c.requires h.made.bindings))
          (joins-in_order (bindings_of c.self.inside.frames) c.args.bindings.now c.self.invariant.bindings);
    }

pub returns-clause-frames : goal.returns-clause-frames
returns-clause-frames c =
    let h = c.in_ok-change.ensures.changed in
    frames-put c.self.inside.frames c.change.new.self c.args.frame h.value c.self.invariant.ordered h.put.entries c.args.own h.made.own_is ∙ ap (λ es. if c.args.own then named (frames_of es) c.args.frame else frames_of es) c.self.view_is

pub returns-clause-bindings : goal.returns-clause-bindings
returns-clause-bindings c =
    let h = c.in_ok-change.ensures.changed in
    bindings-put c.self.inside.frames c.change.new.self c.args.frame h.value c.self.invariant.ordered h.put.entries c.args.bindings.now c.requires h.made.bindings ∙ ap (λ es. joins (bindings_of es) c.args.bindings.now) c.self.view_is
