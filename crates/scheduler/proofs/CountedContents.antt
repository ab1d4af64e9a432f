-- Boxes that a step writes, one after another.
use Rattle.std.proofs.Common.{◌≡◌, ℕ, ◌+◌, ◌<◌, get_or, take, length, List, [], ◌∷◌, ◌++◌, ap, ◌∙◌, arith}
use Rattle.std.proofs.lemmas.List.{take_more}
use Rattle.box_tree.specs.declared.step.NewBox.{NewBox}
use Rattle.box_tree.specs.declared.step.BoxCopy.{BoxCopy}
use Rattle.scheduler.specs.Work.{boxes_written, copies_written}

boxes_end : (ns : List NewBox) (n : NewBox) → boxes_written (ns ++ n ∷ []) ≡ boxes_written ns + (1 + length n.goals.items)
boxes_end [] n = omega arith
boxes_end (m ∷ ms) n = let r : boxes_written (ms ++ n ∷ []) ≡ boxes_written ms + (1 + length n.goals.items) = boxes_end ms n in omega arith

pub boxes_next : (ns : List NewBox) (i : ℕ) (d : NewBox) → i < length ns → boxes_written (take (i + 1) ns) ≡ boxes_written (take i ns) + (1 + length (get_or ns i d).goals.items)
boxes_next ns i d h = ap boxes_written (take_more ns i d h) ∙ boxes_end (take i ns) (get_or ns i d)

copies_end : (ks : List BoxCopy) (k : BoxCopy) → copies_written (ks ++ k ∷ []) ≡ copies_written ks + (1 + length k.goals.items)
copies_end [] k = omega arith
copies_end (j ∷ js) k = let r : copies_written (js ++ k ∷ []) ≡ copies_written js + (1 + length k.goals.items) = copies_end js k in omega arith

pub copies_next : (ks : List BoxCopy) (i : ℕ) (d : BoxCopy) → i < length ks → copies_written (take (i + 1) ks) ≡ copies_written (take i ks) + (1 + length (get_or ks i d).goals.items)
copies_next ks i d h = ap copies_written (take_more ks i d h) ∙ copies_end (take i ks) (get_or ks i d)
