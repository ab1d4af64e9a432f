use Rattle.std.proofs.Common.{◌≡◌, ℕ, ◌+◌, ◌<◌, List, [], ◌∷◌, ◌++◌, length, take, get_or, sym, ap, ◌∙◌, append-nil, append_assoc}
use Rattle.std.proofs.lemmas.List.{take_more, take_all}
use Rattle.akl_terms.specs.declared.name.Name.{Name}
use Rattle.box_copies.proofs.gathering.add_frames.Goals as goal

one_more : (old before new frames : List Name) (i : ℕ) (d : Name) → i < length frames → before ≡ old ++ take i frames → new ≡ before ++ get_or frames i d ∷ [] → new ≡ old ++ take (i + 1) frames
one_more old before new frames i d h so_far more =
    more ∙ ap (λ (l : List Name). l ++ get_or frames i d ∷ []) so_far ∙ append_assoc old (take i frames) (get_or frames i d ∷ []) ∙ ap (λ (l : List Name). old ++ l) (sym (take_more frames i d h))

pub loop-frame-init : goal.loop-frame-init
loop-frame-init c = sym (append-nil c.args.names.now.items)

pub loop-frame-preserved : goal.loop-frame-preserved
loop-frame-preserved c = one_more c.args.names.now.items c.loop-frame.names.items c.push.new.self.items c.args.frames.now c.loop-frame.frame-index _ c.loop-frame-test.true c.loop-frame.invariant c.in_ok-push.ensures.items

pub returns : goal.returns
returns c = c.loop-frame.invariant ∙ ap (λ (l : List Name). c.args.names.now.items ++ l) (take_all c.loop-frame.frame-index c.args.frames.now c.loop-frame-test.false)
