use Rattle.std.proofs.Common.{◌++◌, [], ◌∷◌, Bool, List, if◌then◌else◌, sym, ap, ◌∙◌, take, append-nil}
use Rattle.akl_terms.specs.declared.name.Name.{Name}
use Rattle.local_store.specs.declared.frame_bindings.FrameBindings.{FrameBindings}
use Rattle.local_store.specs.Kept.{frames_of}
use Rattle.local_store.proofs.Steps.{frames_of-next}
use Rattle.local_store.proofs.SettledFrames.{frames-ordered}
use Rattle.local_store.proofs.settled.Settled.frames.Goals.{then-get+in_ok-push, else-get}
use Rattle.local_store.proofs.settled.Settled.frames.Goals as goal

abbrev own-frame : Name × FrameBindings → List Name
own-frame e = if e.1.own then e.0 ∷ [] else []

pub loop-entry-preserved : goal.loop-entry-preserved
loop-entry-preserved c =
    let next = ap (λ e. frames_of (take c.loop-entry.entry-index c.deref-entry-items.result.now) ++ own-frame e) c.entry-item.is ∙ sym (frames_of-next c.deref-entry-items.result.now c.loop-entry.entry-index _ c.loop-entry-test.true) in
    elim c.if-get.branch [
      | then-get+in_ok-push w ↦ ap (λ v. v.items) w.list-is ∙ w.in_ok-push.ensures.items ∙ ap (λ l. l ++ c.entry-item.result.0 ∷ []) c.loop-entry.invariant
          ∙ ap (λ (k : Bool). frames_of (take c.loop-entry.entry-index c.deref-entry-items.result.now) ++ (if k then c.entry-item.result.0 ∷ [] else [])) (sym (sym (ap (λ f. f.own) c.get.ensures) ∙ w.if-get.true)) ∙ next
      | else-get w ↦ ap (λ v. v.items) w.list-is ∙ c.loop-entry.invariant ∙ sym (append-nil (frames_of (take c.loop-entry.entry-index c.deref-entry-items.result.now)))
          ∙ ap (λ (k : Bool). frames_of (take c.loop-entry.entry-index c.deref-entry-items.result.now) ++ (if k then c.entry-item.result.0 ∷ [] else [])) (sym (sym (ap (λ f. f.own) c.get.ensures) ∙ w.if-get.false)) ∙ next
    ]

pub returns-in_err-entries-clause-ordered : goal.returns-in_err-entries-clause-ordered
returns-in_err-entries-clause-ordered c = frames-ordered c.args.self.now c.entries.ensures.kept.ordered

pub returns-in_err-list-clause-ordered : goal.returns-in_err-list-clause-ordered
returns-in_err-list-clause-ordered c = frames-ordered c.args.self.now c.entries.ensures.kept.ordered

pub returns-in_err-push-clause-ordered : goal.returns-in_err-push-clause-ordered
returns-in_err-push-clause-ordered c = frames-ordered c.args.self.now c.entries.ensures.kept.ordered

pub returns-clause-ordered : goal.returns-clause-ordered
returns-clause-ordered c = frames-ordered c.args.self.now c.entries.ensures.kept.ordered
