use Rattle.std.proofs.Common.{◌++◌, [], ◌∷◌, ap, sym, ◌∙◌, append_assoc, append-nil}
use Rattle.std.specs.Vec.Iter.{into_iter_items}
use Rattle.akl.proofs.Yielded.{none_to_come}
use Rattle.akl.proofs.command.all_words.Goals as goal

pub loop-word-preserved : goal.loop-word-preserved
loop-word-preserved c =
    ap (λ ws. ws ++ into_iter_items c.next.new.self) c.in_ok-push.ensures.items ∙ append_assoc c.loop-word.words.items (c.in-Some.word ∷ []) (into_iter_items c.next.new.self)
    ∙ ap (λ ws. c.loop-word.words.items ++ ws) (sym c.in-Some.ensures.steps.0) ∙ c.loop-word.invariant

pub returns : goal.returns
returns c =
    sym (append-nil c.loop-word.words.items) ∙ ap (λ ws. c.loop-word.words.items ++ ws) (sym (none_to_come c.loop-word.word-iterator c.in-None.ensures.steps.0)) ∙ c.loop-word.invariant
